use Rattle.std.proofs.Common.{None, refl, ◌∙◌}
use Rattle.plain_interner.proofs.Places.{live_at, changed_at}
use Rattle.plain_interner.proofs.entries.Entries.remove.Goals as goal

pub returns-clause-live : goal.returns-clause-live
returns-clause-live c =
    let inside = c.self.inside in
    let found = c.in-Some.ensures.found in
    rw (← c.self.view_is) ((λ yes. live_at inside.texts.entries inside.places.items c.self.invariant _ _ _ c.args.handle found.0.1 found.1), λ live. refl)

pub returns-clause-removed : goal.returns-clause-removed
returns-clause-removed c =
    let inside = c.self.inside in
    let found = c.in-Some.ensures.found in
    rw (← c.self.view_is) (c.take_out.ensures.gone _ _ found.0.1
    ∙ changed_at inside.texts.entries inside.places.items c.self.invariant (λ _. None) _ _ _ c.args.handle found.0.1 found.1)
