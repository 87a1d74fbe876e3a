use Rattle.std.proofs.Common.{◌≡◌, true, List, sym, ap, subst}
use Rattle.std.specs.List.{All}
use Rattle.atomic_table.specs.Table.{Me}
use Rattle.intern_log.specs.declared.event.Event.{Event}
use Rattle.intern_log.specs.Lawful.{IsLawful}
use Rattle.intern_log.specs.Own.{is_among}
use Rattle.intern_log.specs.Short.{IsShort}
use Rattle.cht_core.specs.Past.{kind_of}
use Rattle.cht_run.specs.declared.sight.Entry.{Entry}
use Rattle.cht_run.specs.declared.sight.Origin.{Origin}
use Rattle.cht_run.specs.declared.sight.Sight.{Sight}
use Rattle.cht_run.specs.History.{log_of}
use Rattle.cht_run.proofs.Loading.{Closed, noted_closes}
use Rattle.cht_run.proofs.table.Cht.close.Goals as goal

pub returns-clause-lawful : goal.returns-clause-lawful
returns-clause-lawful c =
    let t = c.args.self in
    let seat = c.args.seat in
    let r = c.note-note.new.seat in
    let closed : Closed t.table.shared.key.origin seat.raw.me.0 = noted_closes t.table.shared.key.origin r.id seat.raw.me r.me _ _ c.close_with.ensures.values.2 c.note-note.ensures.same seat.seat c.requires.alone.kids c.requires.alone.root in
    let noted : seat.raw.me.0.history ≡ c.note-note.result.me.0.history = sym (ap (λ (me : Me (Unit {0}) Sight). me.0.history) c.note-note.ensures.note) in
    subst (λ (z : Origin × List Entry). IsShort (log_of z.1) → IsLawful (kind_of z.0.table) (log_of z.1)) (λ i. (t.of i, noted i)) closed.lawful

pub returns-clause-mine : goal.returns-clause-mine
returns-clause-mine c =
    let t = c.args.self in
    let seat = c.args.seat in
    let r = c.note-note.new.seat in
    let closed : Closed t.table.shared.key.origin seat.raw.me.0 = noted_closes t.table.shared.key.origin r.id seat.raw.me r.me _ _ c.close_with.ensures.values.2 c.note-note.ensures.same seat.seat c.requires.alone.kids c.requires.alone.root in
    let noted : seat.raw.me.0.history ≡ c.note-note.result.me.0.history = sym (ap (λ (me : Me (Unit {0}) Sight). me.0.history) c.note-note.ensures.note) in
    subst (λ (h : List Entry). All (λ (e : Event). is_among seat.raw.me.0.numbers e.seat ≡ true) (log_of h)) noted closed.mine
