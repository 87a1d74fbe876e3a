-- What comes of a script that is not run to its end, or whose text is not written whole.
use Rattle.std.proofs.Common.{◌≡◌, ◌≢◌, ℕ, List, [], ◌∷◌, ap, sym, ◌∙◌, subst, inr, arith}
use Rattle.std.specs.Prelude.{Option, Some, None, IfSome, Result, Ok, Err, IfErr, IsErrAnd}
use Rattle.schedule_sim.specs.declared.script.Script.{Script}
use Rattle.schedule_sim.specs.declared.script.ScriptFault.{ScriptFault}
use Rattle.schedule_sim.specs.declared.script.ScriptFault.TheVariants as fault
use Rattle.schedule_sim.specs.Script.{IsScript}
use Rattle.schedule_sim.specs.Turns.{IsFaultOf}
use Rattle.table_program.specs.declared.outcome.Outcome.{Outcome}
use Rattle.table_program.specs.Runs.{IsOneOf}
use Rattle.table_program.specs.ReplayRun.{HasScriptFault, TellsScriptFault, outcome_of}

-- the note of a run that was refused tells the line that is at fault as its turn comes
pub tells_turn : (bytes : List ℕ) (script : Script) (why : ScriptFault) → IsScript bytes script → IsFaultOf script why →
    (outcome_of why).status ≡ 8 → TellsScriptFault bytes (outcome_of why).note
tells_turn bytes script (fault.Line number) is fails eight = inr (record { script = script; is_script = is; fails = fails })
tells_turn bytes script fault.OutOfMemory is fails eight = absurd (omega (arith, eight))

-- the same of the error that a run's fault has become
pub tells_error : {T : Type 0} (r : Result T Outcome) (bytes : List ℕ) (script : Script) (why : ScriptFault) →
    IsErrAnd r (λ outcome. outcome ≡ outcome_of why) → IsScript bytes script → IsFaultOf script why →
    IfErr r (λ outcome. outcome.status ≡ 8 → TellsScriptFault bytes outcome.note)
tells_error (Ok x) bytes script why is is_script fails = tt
tells_error (Err outcome) bytes script why is is_script fails = λ eight.
    subst (λ other. TellsScriptFault bytes other.note) (sym is)
    (tells_turn bytes script why is_script fails (ap (λ other. other.status) (sym is) ∙ eight))

-- three statuses are left where a write fault had risen a count that has not risen
pub no_write_fault : {T : Type 0} (found : Option T) (IsWithin : T → Type 0) (Other Rises : Type 0) (status : ℕ) →
    IsOneOf (0 ∷ 3 ∷ 6 ∷ 8 ∷ []) status → (status ≡ 3 → Rises) →
    IfSome found (λ x. IsWithin x → Other → ¬ Rises → IsOneOf (0 ∷ 6 ∷ 8 ∷ []) status)
no_write_fault None IsWithin Other Rises status is rises = tt
no_write_fault (Some x) IsWithin Other Rises status is rises = λ within other not_risen. without_three status is (λ three. not_risen (rises three))
  where
    without_three : (n : ℕ) → IsOneOf (0 ∷ 3 ∷ 6 ∷ 8 ∷ []) n → n ≢ 3 → IsOneOf (0 ∷ 6 ∷ 8 ∷ []) n
    without_three n one_of never = grind arith

-- what a fault leaves of the statuses where the bytes were read, as a fact of the file that is told
pub of_read : (found : Option (List ℕ)) (read : List ℕ) (status : ℕ) → IfSome found (λ all. read ≡ all) →
    ((number : ℕ) → HasScriptFault read number → IsOneOf (6 ∷ 8 ∷ []) status) →
    IfSome found (λ bytes. (number : ℕ) → HasScriptFault bytes number → IsOneOf (2 ∷ 4 ∷ 6 ∷ 8 ∷ []) status)
of_read None read status is faulty = tt
of_read (Some all) read status is faulty = λ number fault. with_more status (faulty number (subst (λ bytes. HasScriptFault bytes number) (sym is) fault))
  where
    with_more : (n : ℕ) → IsOneOf (6 ∷ 8 ∷ []) n → IsOneOf (2 ∷ 4 ∷ 6 ∷ 8 ∷ []) n
    with_more n one_of = grind arith
