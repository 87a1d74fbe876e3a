-- Bytes are scripts that print one text, or have one first fault, and never both.
use Rattle.std.proofs.Common.{◌≡◌, ℕ, List, inl, inr}
use Rattle.schedule_sim.proofs.Exact.{no_fault, one_fault}
use Rattle.schedule_sim.proofs.OneRun.{runs_one, runs_meet, one_fault_of_run}
use Rattle.schedule_sim.proofs.SameLines.{one_script}
use Rattle.schedule_sim.proofs.SameRuns.{runs_alike}
use Rattle.schedule_sim.specs.declared.script.Script.{Script}
use Rattle.schedule_sim.specs.Script.{IsScript}
use Rattle.schedule_sim.specs.Turns.{Runs}
use Rattle.table_program.specs.ReplayRun.{IsReplay, HasScriptFault}
use Rattle.table_program.proofs.FailsAlike.{fails_alike}

-- what one script of the bytes prints, each other one prints
runs_of : (bytes text : List ℕ) (replay : IsReplay bytes text) (script : Script) → IsScript bytes script → Runs script text
runs_of bytes text replay script is = runs_alike replay.script script text (one_script bytes replay.script script replay.is_script is) replay.runs

pub one_text : (bytes a b : List ℕ) → IsReplay bytes a → IsReplay bytes b → a ≡ b
one_text bytes a b replay other = runs_one other.script a b (runs_of bytes a replay other.script other.is_script) other.runs

pub no_fault_of_replay : (bytes text : List ℕ) (number : ℕ) → IsReplay bytes text → ¬ (HasScriptFault bytes number)
no_fault_of_replay bytes text number replay (inl form) = no_fault bytes replay.script number replay.is_script form
no_fault_of_replay bytes text number replay (inr turn) =
    runs_meet turn.script text number (runs_of bytes text replay turn.script turn.is_script) turn.fails

pub one_script_fault : (bytes : List ℕ) (m n : ℕ) → HasScriptFault bytes m → HasScriptFault bytes n → m ≡ n
one_script_fault bytes m n (inl form) (inl other) = one_fault bytes m n form other
one_script_fault bytes m n (inl form) (inr turn) = absurd (no_fault bytes turn.script m turn.is_script form)
one_script_fault bytes m n (inr turn) (inl form) = absurd (no_fault bytes turn.script n turn.is_script form)
one_script_fault bytes m n (inr turn) (inr other) =
    one_fault_of_run other.script m n (fails_alike turn.script other.script m (one_script bytes turn.script other.script turn.is_script other.is_script) turn.fails) other.fails
