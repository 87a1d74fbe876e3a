-- A sweep that is under way.
use Rattle.std.specs.Prelude.{ℕ, Bool, true, false, if◌then◌else◌, List, Option, Some, None}
use Rattle.text_words.specs.Hash.{hash_of}
use Rattle.marked_word.specs.Head.{is_redirected}
use Rattle.atomic_step.specs.declared.answer.Answer.TheVariants as answer
use Rattle.call_machine.specs.declared.find.FindStage.TheVariants as find
use Rattle.call_machine.specs.declared.grace.Grace.{Grace}
use Rattle.call_machine.specs.declared.grace.Gracing.{Gracing}
use Rattle.call_machine.specs.declared.machine.Machine.{Machine}
use Rattle.call_machine.specs.declared.machine.Machine.TheVariants as machine
use Rattle.call_machine.specs.declared.pass.Cleaning.{Cleaning}
use Rattle.call_machine.specs.declared.pass.FreeStage.{FreeStage}
use Rattle.call_machine.specs.declared.pass.PassStage.{PassStage}
use Rattle.call_machine.specs.declared.sweep.Closing.{Closing}
use Rattle.call_machine.specs.declared.sweep.Closing.TheVariants as closing
use Rattle.call_machine.specs.declared.sweep.SweepAlong.{SweepAlong}
use Rattle.call_machine.specs.declared.sweep.SweepAsked.{SweepAsked}
use Rattle.call_machine.specs.declared.sweep.SweepStage.{SweepStage}
use Rattle.call_machine.specs.declared.sweep.SweepStage.TheVariants as stage
use Rattle.call_machine.specs.Sweep.{goes_to, finds_on, cleans_on, frees_on, graces_on}
use Rattle.cht_run.specs.declared.sight.Sight.{Sight}
use Rattle.cht_run.specs.declared.sweeps.Swept.{Swept}
use Rattle.cht_run.specs.declared.sweeps.Swept.TheVariants as swept
use Rattle.cht_run.specs.Begins.{caller_in}

-- its machine
abbrev pub sweeps_at : SweepAsked → SweepAlong → SweepStage → Machine
sweeps_at q w s = machine.Sweep (goes_to q (w, s))

-- what a sweep of a seat asks
abbrev pub asks : Sight → List ℕ → SweepAsked
asks b text = record { caller = caller_in b; hash = hash_of b.origin.seed text }

-- the same while the locked bucket is cleaned, while the slots that wait are freed, and while the sections are looked at
abbrev pub passes_in : SweepAsked → SweepAlong → Cleaning → Option PassStage → Machine
passes_in q w c s = sweeps_at q (record w { cleaning = c }) (cleans_on s)

abbrev pub frees_in : SweepAsked → SweepAlong → Cleaning → Option FreeStage → Machine
frees_in q w c s = sweeps_at q (record w { cleaning = c }) (frees_on c s)

abbrev pub scans_in : SweepAsked → SweepAlong → Grace → Gracing → Machine
scans_in q w g s = sweeps_at q (record w { grace = g }) (graces_on s)

-- a head was loaded in the row of the level: where it is redirected, the bucket is looked for in that of the new level
abbrev pub headed : ℕ → SweepStage
headed head = finds_on head (if is_redirected head then Some find.LoadNewLevel else None)

-- why the section is closed: the bucket was locked, or its head is looked for again
abbrev pub closing_of : Bool → Closing
closing_of true = closing.Clean
closing_of false = closing.Again

-- how it has ended
abbrev pub ended : Swept → SweepStage
ended (swept.Done unlinked) = stage.Answered (answer.Swept unlinked)
ended (swept.Spent counter) = stage.Answered (answer.Spent counter)
