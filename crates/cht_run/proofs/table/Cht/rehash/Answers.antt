use Rattle.std.proofs.Common.{◌≡◌, ◌+◌, ◌<◌, sym, ap, subst, ◌∙◌, arith}
use Rattle.atomic_table.specs.Table.{Me}
use Rattle.cht_core.specs.Causes.{now_in}
use Rattle.cht_core.specs.Rehash.{HasNoDead}
use Rattle.cht_run.specs.declared.sight.Origin.{Origin}
use Rattle.cht_run.specs.declared.sight.Sight.{Sight}
use Rattle.cht_run.specs.Begins.{own_at, is_resting}
use Rattle.cht_run.specs.Heirs.{legacy_of, by_next, heir_of, MayRemake}
use Rattle.cht_run.specs.History.{log_of, HasHandles}
use Rattle.cht_run.specs.Rule.{is_seat}
use Rattle.cht_run.proofs.Loading.{wholes}
use Rattle.cht_run.proofs.Remade.{rehash_handles}
use Rattle.cht_run.proofs.table.Cht.rehash.Goals as goal

pub load-requires : goal.load-requires
load-requires c =
    let t = c.args.self in
    let raw = c.args.seat.raw in
    let wide = t.wide in
    (c.requires.of.table, omega (arith, wide), wholes t.table.shared.key.origin t.table.shared.table_id.slots raw.id raw.me)

pub remade-requires-clause-may : goal.remade-requires-clause-may
remade-requires-clause-may c =
    let t = c.args.self in
    let seat = c.args.seat in
    let same : c.leave-heir.new.seat.me.0 ≡ seat.raw.me.0 = ap (λ (me : Me (Unit {0}) Sight). me.0) (c.leave-heir.ensures.same ∙ c.note-note.ensures.same ∙ c.load.ensures.2.0) in
    subst (MayRemake t.table.shared.key.origin) (sym same) (record {
      seat = seat.seat;
      root = c.requires.alone.root;
      kids = c.requires.alone.kids;
      rests = seat.rests;
      work = c.requires.nothing.work;
      grace = c.requires.nothing.grace;
      alive = subst (λ (o : Origin). HasNoDead (now_in o.table (log_of seat.raw.me.0.history))) (sym t.of) c.requires.alive;
      seed = subst (λ (o : Origin). o.seed < 2) (sym t.of) c.requires.seed;
    })

pub invariant_of-result-in-Ok : goal.invariant_of-result-in-Ok
invariant_of-result-in-Ok c =
    let t = c.args.self in
    let seat = c.args.seat in
    let v = seat.raw.me.0 in
    let o : Origin = by_next t.origin in
    let is : c.in-Ok.raw.me.0 ≡ heir_of o (legacy_of v) =
    ap (λ (me : Me (Unit {0}) Sight). me.0) c.in-Ok.ensures.seat.1 ∙ ap (λ (me : Me (Unit {0}) Sight). heir_of o me.0) c.leave-heir.ensures.legacy
    ∙ ap (λ (me : Me (Unit {0}) Sight). heir_of o (legacy_of me.0)) (c.note-note.ensures.same ∙ c.load.ensures.2.0) in
    record {
      named = seat.named ∙ sym (ap (λ (x : Sight). x.number) is);
      own = ap (λ (x : Sight). (own_at x.seat).number) is ∙ seat.own;
      next = seat.next ∙ sym (ap (λ (x : Sight). (own_at x.seat).cursor) is);
      seat = ap is_seat is ∙ seat.seat;
      rests = ap (λ (x : Sight). is_resting x.seat) is;
      kept = ap (λ (x : Sight). x.given) is;
      bare = ap (λ (me : Me (Unit {0}) Sight). me.1) c.in-Ok.ensures.seat.1;
      handles = subst (λ (x : Sight). HasHandles x.origin.table.shape x.history) (sym is)
          (rehash_handles t.origin.table.shape v.history (t.origin.seed + 1) (subst (λ (x : Origin). HasHandles x.table.shape v.history) c.requires.of.origin seat.handles));
    }
