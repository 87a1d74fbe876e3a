-- Which steps change the number of drawn seats and the counter.
use Rattle.std.proofs.Common.{◌≡◌, ◌≢◌, ℕ, ◌+◌, ◌-◌, ◌^◌, ◌≤◌, Some, None, refl, ap, arith}
use Rattle.std.specs.Prelude.{◌%◌}
use Rattle.table_shape.specs.declared.place.Place.TheVariants as place
use Rattle.atomic_step.specs.declared.step.Edge.TheVariants as edge
use Rattle.atomic_step.specs.declared.step.Step.{Step}
use Rattle.atomic_step.specs.declared.step.Step.TheVariants as step
use Rattle.call_machine.specs.declared.enter.EnterStage.TheVariants as enter
use Rattle.call_machine.specs.declared.find.FindStage.{FindStage}
use Rattle.call_machine.specs.declared.find.FindStage.TheVariants as find
use Rattle.call_machine.specs.declared.find.Walk.{Walk}
use Rattle.call_machine.specs.declared.lock.LockStage.{LockStage}
use Rattle.call_machine.specs.declared.lock.LockStage.TheVariants as lock
use Rattle.call_machine.specs.declared.pass.Cleaning.{Cleaning}
use Rattle.call_machine.specs.declared.pass.FreeStage.{FreeStage}
use Rattle.call_machine.specs.declared.pass.FreeStage.TheVariants as free
use Rattle.call_machine.specs.declared.pass.PassStage.{PassStage}
use Rattle.call_machine.specs.declared.pass.PassStage.TheVariants as pass
use Rattle.call_machine.specs.Find.{find_row}
use Rattle.call_machine.specs.Lock.{lock_row}
use Rattle.call_machine.specs.Pass.{pass_row, free_row}
use Rattle.cht_core.specs.Memory.{Memory, IsMade}
use Rattle.cht_core.proofs.Basics.{after_load}

-- the counter is changed by raising it alone
pub counter_stays : (m m' : Memory) (s : Step) → IsMade s m m' → s ≢ step.RaiseCounter → m' place.Counter ≡ m place.Counter
counter_stays m m' step.RaiseCounter made other = absurd (other refl)
counter_stays m m' step.LoadCounter made other = ap (λ (now : Memory). now place.Counter) (after_load step.LoadCounter m m' refl made)
counter_stays m m' (step.Unlink slot (edge.Head row bucket) next) made other = made.there place.Counter (λ e. cc)
counter_stays m m' (step.Unlink slot (edge.Link last) next) made other = made.there place.Counter (λ e. cc)
counter_stays m m' (step.MoveEdge (edge.Head row bucket) next) made other = made.there place.Counter (λ e. cc)
counter_stays m m' (step.MoveEdge (edge.Link last) next) made other = made.there place.Counter (λ e. cc)
counter_stays m m' s made other = made.there place.Counter (λ e. cc)

-- and by 2, where there is room
pub counter_raised : (m m' : Memory) → IsMade step.RaiseCounter m m' → m place.Counter + 2 ≤ 2 ^ 64 - 4 → m' place.Counter ≡ m place.Counter + 2
counter_raised m m' made room =
    let word : m' place.Counter ≡ (m place.Counter + 2) % 2 ^ 64 = made.here in
    omega (arith, room, word)

-- and the number of drawn seats by drawing one alone
pub draws_stay : (m m' : Memory) (s : Step) → IsMade s m m' → s ≢ step.Draw → m' place.Draws ≡ m place.Draws
draws_stay m m' step.Draw made other = absurd (other refl)
draws_stay m m' step.LoadDraws made other = ap (λ (now : Memory). now place.Draws) (after_load step.LoadDraws m m' refl made)
draws_stay m m' (step.Unlink slot (edge.Head row bucket) next) made other = made.there place.Draws (λ e. cc)
draws_stay m m' (step.Unlink slot (edge.Link last) next) made other = made.there place.Draws (λ e. cc)
draws_stay m m' (step.MoveEdge (edge.Head row bucket) next) made other = made.there place.Draws (λ e. cc)
draws_stay m m' (step.MoveEdge (edge.Link last) next) made other = made.there place.Draws (λ e. cc)
draws_stay m m' s made other = made.there place.Draws (λ e. cc)

-- a step that changes neither
abbrev pub IsPlain : Step → Type 0
IsPlain s = (s ≢ step.RaiseCounter) × (s ≢ step.Draw)

-- steps that lock
pub lock_plain : (row bucket : ℕ) (s : LockStage) → IsPlain (lock_row row bucket s).step
lock_plain row bucket lock.LoadHead = ((λ e. cc), (λ e. cc))
lock_plain row bucket (lock.LockHead head) = ((λ e. cc), (λ e. cc))

-- steps of a pass
pub pass_plain : (c : Cleaning) (s : PassStage) → IsPlain (pass_row c s).step
pass_plain c (pass.LoadCount slot) = ((λ e. cc), (λ e. cc))
pass_plain c (pass.LoadLink slot None) = ((λ e. cc), (λ e. cc))
pass_plain c (pass.LoadLink slot (Some g)) = ((λ e. cc), (λ e. cc))
pass_plain c (pass.Unlink slot g next) = ((λ e. cc), (λ e. cc))

-- steps that free slots
pub free_plain : (c : Cleaning) (s : FreeStage) → IsPlain (free_row c s).step
free_plain c (free.PutNextGeneration at) = ((λ e. cc), (λ e. cc))
free_plain c (free.FreeSlot at) = ((λ e. cc), (λ e. cc))

-- steps that find a head
pub find_plain : (number hash : ℕ) (walk : Walk) (s : FindStage) → IsPlain (find_row number hash walk s).step
find_plain number hash walk (find.Enter enter.LoadCounter) = ((λ e. cc), (λ e. cc))
find_plain number hash walk (find.Enter (enter.OpenSection counter)) = ((λ e. cc), (λ e. cc))
find_plain number hash walk find.LoadLevel = ((λ e. cc), (λ e. cc))
find_plain number hash walk find.LoadHead = ((λ e. cc), (λ e. cc))
find_plain number hash walk find.LoadNewLevel = ((λ e. cc), (λ e. cc))
find_plain number hash walk find.LoadNewHead = ((λ e. cc), (λ e. cc))
