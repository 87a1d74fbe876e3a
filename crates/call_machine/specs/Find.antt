-- Finding the head of a bucket, inside a section that is opened first.
use Rattle.std.specs.Prelude.{ℕ, ◌%◌, ◌^◌, if◌then◌else◌, Option, Some, None}
use Rattle.marked_word.specs.Head.{is_redirected}
use Rattle.marked_word.specs.Number.{new_level_of}
use Rattle.atomic_step.specs.declared.step.Step.TheVariants as step
use Rattle.atomic_step.specs.Turn.{Row, row, map_row}
use Rattle.call_machine.specs.declared.enter.EnterStage.{EnterStage}
use Rattle.call_machine.specs.declared.find.FindStage.{FindStage}
use Rattle.call_machine.specs.declared.find.FindStage.TheVariants.{Enter, LoadLevel, LoadHead, LoadNewLevel, LoadNewHead}
use Rattle.call_machine.specs.declared.find.Walk.{Walk}
use Rattle.call_machine.specs.Enter.{enter_row}

-- at the bucket of a text with this hash, in the row of a level
abbrev pub turned_to : ℕ → ℕ → Walk → Walk
turned_to hash level walk = record walk { row = level; bucket = hash % 2 ^ level }

-- still opening the section, or inside it
abbrev pub entered : Option EnterStage → FindStage
entered (Some s) = Enter s
entered None = LoadLevel

-- what the word that was found says of the bucket, and the next stage, or none where the head is found
abbrev pub find_row : ℕ → ℕ → Walk → FindStage → Row (Walk × Option FindStage)
find_row number hash walk (Enter s) = map_row (λ next. (walk, Some (entered next))) (enter_row number s)
find_row number hash walk LoadLevel = row step.LoadLevel (λ word. (turned_to hash word walk, Some LoadHead))
find_row number hash walk LoadHead = row (step.LoadHead walk.row walk.bucket) (λ word. (record walk { head = word }, if is_redirected word then Some LoadNewLevel else None))
find_row number hash walk LoadNewLevel = row step.LoadNewLevel (λ word. (turned_to hash (new_level_of word) walk, Some LoadNewHead))
find_row number hash walk LoadNewHead = row (step.LoadHead walk.row walk.bucket) (λ word. (record walk { head = word }, None))
