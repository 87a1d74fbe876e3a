use Rattle.std.proofs.Common.{◌+◌, ◌%◌, ◌^◌, sym, ap, subst, refl, ◌∙◌}
use Rattle.table_shape.specs.declared.shape.Shape.{Shape}
use Rattle.table_shape.specs.Place.{index_of, IsInside}
use Rattle.atomic_step.specs.declared.access.Deed.{Deed}
use Rattle.atomic_step.specs.Access.{word_after}
use Rattle.atomic_step.specs.Step.{access_of}
use Rattle.cht_run.proofs.Deeds.{step_is_sound, further, goes_on_stays, goes_on_fits}
use Rattle.cht_run.proofs.table.Cht.fetch_add.Goals as goal

pub fetch_add-requires : goal.fetch_add-requires
fetch_add-requires c =
    let s = c.args.self.now in
    let v = c.args.seat.now.me in
    let place = (access_of c.args.step).place in
    let index_is = c.requires.adds.0 (subst (λ (shape : Shape). IsInside shape place) (sym s.laid) (step_is_sound s.origin c.args.seat.now.me.0 c.args.step c.requires.sits.seat c.requires.next c.requires.sound).0) ∙ ap (λ (shape : Shape). index_of shape place) s.laid in
    let asks = further s.table.shared.key.origin s.origin s.table.shared.table_id.words s.table.shared.table_id.slots c.args.seat.now.id v c.args.step (access_of c.args.step) c.args.at s.of s.wide
    c.requires.sits.origin (step_is_sound s.origin c.args.seat.now.me.0 c.args.step c.requires.sits.seat c.requires.next c.requires.sound) refl index_is (λ n. (n + c.args.value) % 2 ^ 64)
    (λ n. sym (ap (λ (d : Deed). word_after d n) c.requires.adds.1)) c.requires.sits.seat c.requires.next in
    (c.requires.sits.table, asks.0, asks.1)

pub returns-clause-sits : goal.returns-clause-sits
returns-clause-sits c =
    let stays = goes_on_stays c.args.seat.now.me.0 c.fetch_add.new.seat.me.0 c.args.step c.fetch_add.result c.requires.sits.seat c.requires.next c.fetch_add.ensures.2.0 in
    record { table = c.fetch_add.ensures.0 ∙ c.requires.sits.table; origin = stays.0 ∙ c.requires.sits.origin; seat = stays.1 ∙ c.requires.sits.seat; bare = c.fetch_add.ensures.2.1 ∙ c.requires.sits.bare }

pub returns-clause-fits : goal.returns-clause-fits
returns-clause-fits c = goes_on_fits c.args.seat.now.me.0 c.fetch_add.new.seat.me.0 c.args.step c.fetch_add.result c.requires.sits.seat c.requires.next c.fetch_add.ensures.2.0
