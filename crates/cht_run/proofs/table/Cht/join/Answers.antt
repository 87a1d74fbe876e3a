use Rattle.std.proofs.Common.{◌≡◌, ◌∙◌, List, [], ◌∷◌, true, sym, ap, subst, arith}
use Rattle.atomic_table.specs.Table.{Me}
use Rattle.cht_run.specs.declared.sight.Entry.{Entry}
use Rattle.cht_run.specs.declared.sight.Origin.{Origin}
use Rattle.cht_run.specs.declared.sight.Sight.{Sight}
use Rattle.cht_run.specs.History.{HasHandles, HasSeen, Follows, Remembers, WasTold}
use Rattle.cht_run.specs.Rule.{is_seat}
use Rattle.cht_run.specs.Views.{longer, earlier_of}
use Rattle.cht_run.proofs.Fronts.{told_is_seen}
use Rattle.cht_run.proofs.Handles.{longer_handles}
use Rattle.cht_run.proofs.Histories.{among_right}
use Rattle.cht_run.proofs.Joining.{joins, recalls, of_first, of_second, of_both}
use Rattle.cht_run.proofs.table.Cht.join.Goals as goal

pub join_seat-requires : goal.join_seat-requires
join_seat-requires c =
    let t = c.args.self.now in
    let v = c.args.seat.now in
    let w = c.args.other in
    let wide = t.wide in (
      c.requires.of.0.table,
      c.requires.of.1.table,
      w.bare,
      omega (arith, wide),
      joins t.table.shared.key.origin v.raw.id v.raw.me.0 w.raw.id w.raw.me.0 v.seat w.seat v.rests w.rests c.requires.nothing.work,
    )

pub load-requires : goal.load-requires
load-requires c =
    let t = c.args.self.now in
    let v = c.join_seat.new.seat in
    let wide = t.wide in
    (c.join_seat.ensures.0 ∙ c.requires.of.0.table, omega (arith, wide), recalls t.table.shared.key.origin t.table.shared.table_id.slots v.id v.me)

pub returns-clause-apart : goal.returns-clause-apart
returns-clause-apart c =
    let v = c.args.seat.now.raw.me.0 in
    let w = c.args.other.raw.me.0 in
    of_both v w (longer v.history w.history) (subst (λ (me : Me (Unit {0}) Sight). Remembers me.0.history me.0.earlier) c.join_seat.ensures.2 c.load.ensures.2.1)

pub returns-clause-first : goal.returns-clause-first
returns-clause-first c =
    let v = c.args.seat.now.raw.me.0 in
    let w = c.args.other.raw.me.0 in
    let told : Remembers (longer v.history w.history) (earlier_of v ∷ earlier_of w ∷ []) = subst (λ (me : Me (Unit {0}) Sight). Remembers me.0.history me.0.earlier) c.join_seat.ensures.2 c.load.ensures.2.1 in
    subst (λ (h : List Entry). Follows v.numbers v.history h) (sym (ap (λ (me : Me (Unit {0}) Sight). me.0.history) (c.load.ensures.2.0 ∙ c.join_seat.ensures.2))) (of_first v w (longer v.history w.history) told)

pub returns-clause-second : goal.returns-clause-second
returns-clause-second c =
    let v = c.args.seat.now.raw.me.0 in
    let w = c.args.other.raw.me.0 in
    let told : Remembers (longer v.history w.history) (earlier_of v ∷ earlier_of w ∷ []) = subst (λ (me : Me (Unit {0}) Sight). Remembers me.0.history me.0.earlier) c.join_seat.ensures.2 c.load.ensures.2.1 in
    subst (λ (h : List Entry). Follows w.numbers w.history h) (sym (ap (λ (me : Me (Unit {0}) Sight). me.0.history) (c.load.ensures.2.0 ∙ c.join_seat.ensures.2))) (of_second v w (longer v.history w.history) told)

pub invariant_of-seat-clause-handles : goal.invariant_of-seat-clause-handles
invariant_of-seat-clause-handles c =
    let v = c.args.seat.now.raw.me.0 in
    let w = c.args.other.raw.me.0 in
    subst (λ (me : Me (Unit {0}) Sight). HasHandles me.0.origin.table.shape me.0.history) (sym (c.load.ensures.2.0 ∙ c.join_seat.ensures.2))
    (longer_handles v.origin.table.shape v.history w.history c.args.seat.now.handles (subst (λ (o : Origin). HasHandles o.table.shape w.history) (c.requires.of.1.origin ∙ sym c.requires.of.0.origin) c.args.other.handles))

pub invariant_of-seat-clause-seat : goal.invariant_of-seat-clause-seat
invariant_of-seat-clause-seat c = subst (λ (me : Me (Unit {0}) Sight). is_seat me.0 ≡ true) (sym (c.load.ensures.2.0 ∙ c.join_seat.ensures.2)) (among_right c.args.other.raw.me.0.numbers c.args.seat.now.raw.me.0.numbers c.args.seat.now.raw.me.0.number c.args.seat.now.seat)

pub returns-clause-sees : goal.returns-clause-sees
returns-clause-sees c =
    let v = c.args.seat.now.raw.me.0 in
    let w = c.args.other.raw.me.0 in
    let both = longer v.history w.history in
    let told : WasTold v.origin.table both = subst (λ (me : Me (Unit {0}) Sight). is_seat me.0 ≡ true → WasTold me.0.origin.table me.0.history) c.join_seat.ensures.2 c.load.ensures.2.2 (among_right c.args.other.raw.me.0.numbers c.args.seat.now.raw.me.0.numbers c.args.seat.now.raw.me.0.number c.args.seat.now.seat) in
    let handles : HasHandles v.origin.table.shape both = longer_handles v.origin.table.shape v.history w.history c.args.seat.now.handles (subst (λ (o : Origin). HasHandles o.table.shape w.history) (c.requires.of.1.origin ∙ sym c.requires.of.0.origin) c.args.other.handles) in
    let sees : HasSeen c.args.self.now.origin.table both = subst (λ (o : Origin). HasSeen o.table both) c.requires.of.0.origin (told_is_seen v.origin.table both told handles) in
    subst (λ (h : List Entry). HasSeen c.args.self.now.origin.table h) (sym (ap (λ (me : Me (Unit {0}) Sight). me.0.history) (c.load.ensures.2.0 ∙ c.join_seat.ensures.2))) sees
