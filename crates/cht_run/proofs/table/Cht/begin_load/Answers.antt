use Rattle.std.proofs.Common.{sym, ap, subst, refl, ◌∙◌}
use Rattle.table_shape.specs.declared.shape.Shape.{Shape}
use Rattle.table_shape.specs.Place.{index_of, IsInside}
use Rattle.atomic_step.specs.declared.access.Deed.{Deed}
use Rattle.atomic_step.specs.Access.{word_after}
use Rattle.atomic_step.specs.Step.{access_of}
use Rattle.cht_run.proofs.Deeds.{starts, goes_first_stays}
use Rattle.cht_run.proofs.table.Cht.begin_load.Goals as goal

pub load-requires : goal.load-requires
load-requires g c =
    let s = c.args.self.now in
    let v = c.args.seat.now.me in
    let place = (access_of c.args.step).place in
    let index_is = c.requires.loads.0 (subst (λ (shape : Shape). IsInside shape place) (sym s.laid) c.requires.sound.0) ∙ ap (λ (shape : Shape). index_of shape place) s.laid in
    let asks = starts s.table.shared.key.origin s.origin s.table.shared.table_id.words s.table.shared.table_id.slots c.args.seat.now.id v c.args.step (access_of c.args.step) c.args.at s.of s.wide
    c.requires.sits.origin c.requires.sound refl index_is (λ n. n)
    (λ n. sym (ap (λ (d : Deed). word_after d n) c.requires.loads.1)) g.M.Began.call c.requires.call c.requires.next in
    (c.requires.sits.table, asks.0, asks.1)

pub returns-clause-sits : goal.returns-clause-sits
returns-clause-sits g c =
    let stays = goes_first_stays g.M.Began.call c.args.seat.now.me.0 c.load.new.seat.me.0 c.args.step c.load.result c.requires.next c.load.ensures.2.0 in
    record { table = c.load.ensures.0 ∙ c.requires.sits.table; origin = stays.0 ∙ c.requires.sits.origin; seat = stays.1 ∙ c.requires.sits.seat; bare = c.load.ensures.2.1 ∙ c.requires.sits.bare }
