-- Callers, each a list of numbers, who share the visible events of a log.
use Rattle.std.specs.Prelude.{◌≡◌, ℕ, ◌<◌, ◌≤◌, true, List, count_by}
use Rattle.std.specs.List.{All, Any}
use Rattle.intern_log.specs.declared.event.Handle.{Handle}
use Rattle.intern_log.specs.declared.event.Event.{Event}
use Rattle.intern_log.specs.Place.{IsPlaceOf}
use Rattle.intern_log.specs.Sections.{IsCreatedAs}
use Rattle.intern_log.specs.Own.{is_visible, is_among, mine, gains, losses, held}

-- each visible event of the log is by a number of exactly one of the callers
abbrev pub AreCallers : List (List ℕ) → List Event → Type 0
AreCallers callers log = All (λ (e : Event). is_visible e.what ≡ true → count_by (λ numbers. is_among numbers e.seat) callers ≡ 1) log

-- no caller has dropped the handle more often than it created and took it
abbrev pub DropTheirOwn : List (List ℕ) → List Event → Handle → Type 0
DropTheirOwn callers log h = All (λ numbers. losses (mine log numbers) h ≤ gains (mine log numbers) h) callers

-- some caller holds the handle
abbrev pub IsHeldBySome : List (List ℕ) → List Event → Handle → Type 0
IsHeldBySome callers log h = Any (λ numbers. 0 < held log numbers h) callers

-- at each place of the window some caller holds a handle with which the text was created
abbrev pub IsHeldThroughout : List (List ℕ) → List Event → List Event → List ℕ → Type 0
IsHeldThroughout callers before after text = (done : List Event) → IsPlaceOf before after done →
    (h : Handle) × IsCreatedAs done text h × DropTheirOwn callers done h × IsHeldBySome callers done h
