-- Calls one after the other, by what each makes of the sections.
use Rattle.std.specs.Prelude.{ℕ, true, false, List, [], ◌∷◌, ◌++◌, map, slice_set, fold}
use Rattle.section_core.specs.Sections.{SectionState}

-- a call that changes the sections: a seat enters or leaves, or a grace is begun
pub data Step : Type 0 where
  Enter : ℕ → Step
  Leave : ℕ → Step
  Begin : Step

-- the sections after a call: entering changes no grace, leaving takes the seat out of each, and a grace that begins waits for whoever is inside
abbrev pub after_step : SectionState → Step → SectionState
after_step state (Enter seat) = record state { inside = slice_set state.inside seat true }
after_step state (Leave seat) = record state { inside = slice_set state.inside seat false; graces = map (λ grace. slice_set grace seat false) state.graces }
after_step state Begin = record state { graces = state.graces ++ state.inside ∷ [] }

-- the sections after calls one after the other
abbrev pub after_steps : SectionState → List Step → SectionState
after_steps state steps = fold after_step state steps
