-- A step of any seat whose call is running keeps the invariant, and its machine may be told the word that is found.
use Rattle.std.proofs.Common.{◌≡◌, ℕ, List, Option, Some}
use Rattle.intern_log.specs.declared.event.Event.{Event}
use Rattle.atomic_step.specs.declared.plan.Plan.TheVariants as plan
use Rattle.atomic_step.specs.declared.step.Step.{Step}
use Rattle.call_machine.specs.declared.machine.Machine.{Machine}
use Rattle.call_machine.specs.Machine.{plan_of, text_of}
use Rattle.cht_core.specs.declared.seat.Seat.TheVariants as doing
use Rattle.cht_core.specs.declared.table.Table.{Table}
use Rattle.cht_core.specs.Backs.{Backs}
use Rattle.cht_core.specs.Invariant.{Inv}
use Rattle.cht_core.specs.Memory.{Memory, IsMade}
use Rattle.cht_core.specs.Past.{past_of}
use Rattle.cht_core.specs.View.{View}
use Rattle.cht_core.proofs.BoundsKept.{draws_fit, raise_fits, bounds_kept_by_step}
use Rattle.cht_core.proofs.KindKeeps.{backs, fits, running_keeps}
use Rattle.cht_core.proofs.StateSteps.{StepLaw, FitLaw}
use Rattle.cht_core.proofs.TableSteps.{table_keeps}

-- each step may have its event, and the invariant is met again
pub any_step_keeps : StepLaw
any_step_keeps t m m' seat seat' log i v machine s inv is running planned made moves =
    running_keeps t m m' seat seat' log i v machine s inv is running planned made (table_keeps s) (draws_fit t m seat inv.table.shape inv.bounds) (raise_fits t m seat log i v machine s inv is running planned)
    moves (bounds_kept_by_step t m seat log i v machine s inv is running planned m' seat' made moves)

-- each word that is found can be told
pub any_word_fits : FitLaw
any_word_fits t m m' seat log i v machine s inv is running planned made =
    fits t m m' seat seat log i v machine s inv is running planned made (table_keeps s) (draws_fit t m seat inv.table.shape inv.bounds) (raise_fits t m seat log i v machine s inv is running planned)

-- what is known of the seat lets it make its step
pub any_step_backs : (t : Table) (m m' : Memory) (seat : ℕ → Option View) (log : List Event) (i : ℕ) (v : View) (machine : Machine) (s : Step) (inv : Inv t m seat log) → seat i ≡ Some v
    → v.seat ≡ doing.Running machine → plan_of machine ≡ plan.Step s → IsMade s m m' → Backs t m (past_of t.shape.min_level log) inv.flow i (text_of machine) s
any_step_backs t m m' seat log i v machine s inv is running planned made =
    backs t m m' seat seat log i v machine s inv is running planned made (table_keeps s) (draws_fit t m seat inv.table.shape inv.bounds) (raise_fits t m seat log i v machine s inv is running planned)
