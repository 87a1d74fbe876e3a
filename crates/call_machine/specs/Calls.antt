-- The calls of readers and inserters, and those by handle: what each does at its stage.
use Rattle.std.specs.Prelude.{ℕ, Option, Some, None}
use Rattle.text_words.specs.Hash.{hash_of}
use Rattle.marked_word.specs.Head.{first_of}
use Rattle.intern_log.specs.declared.event.What.{What}
use Rattle.atomic_step.specs.declared.plan.Plan.{Plan}
use Rattle.call_machine.specs.declared.stage.Along.{Along}
use Rattle.call_machine.specs.declared.stage.Asked.{Asked}
use Rattle.call_machine.specs.declared.stage.Calling.{Calling}
use Rattle.call_machine.specs.declared.stage.CallStage.{CallStage}
use Rattle.call_machine.specs.declared.stage.CallStage.TheVariants as stage
use Rattle.call_machine.specs.declared.find.FindStage.{FindStage}
use Rattle.call_machine.specs.declared.find.Walk.{Walk}
use Rattle.atomic_step.specs.Turn.{map_row, Turn, Answered, Makes, plan_in, next_in, event_by}
use Rattle.call_machine.specs.Draw.{draw_row}
use Rattle.call_machine.specs.Find.{find_row}
use Rattle.call_machine.specs.Leave.{leave_row}
use Rattle.call_machine.specs.Insert.{insert_row}
use Rattle.call_machine.specs.Node.{node_row, comes_to}
use Rattle.call_machine.specs.Handle.{handle_row}
use Rattle.call_machine.specs.Read.{read_row}

-- the head is still to be found, or it was and the walk begins at its first node
abbrev pub finds : Asked → Along → ℕ → Option FindStage → CallStage
finds q w head (Some s) = stage.Find s
finds q w head None = comes_to q w head (first_of head)

abbrev pub found : Asked → Along → Walk × Option FindStage → Along × CallStage
found q w at = (record w { walk = at.0 }, finds q w at.0.head at.1)

-- what each stage does
abbrev pub turn_at : Asked → Along → CallStage → Turn (Along × CallStage)
turn_at q w (stage.Answered a) = Answered a
turn_at q w (stage.Draw s) = Makes (draw_row q w s)
turn_at q w (stage.Find s) = Makes (map_row (found q w) (find_row q.number (hash_of q.seed q.text) w.walk s))
turn_at q w (stage.Node s) = Makes (node_row q w s)
turn_at q w (stage.Insert s) = Makes (insert_row q w s)
turn_at q w (stage.Leave s) = Makes (leave_row q w s)
turn_at q w (stage.Handle s) = Makes (handle_row q w s)
turn_at q w (stage.Read s) = Makes (read_row q w s)

-- what comes next, and what comes of the word that the step finds
abbrev pub plan_at : Asked → Along → CallStage → Plan
plan_at q w s = plan_in (turn_at q w s)

abbrev pub next_at : Asked → Along → CallStage → ℕ → Along × CallStage
next_at q w s word = next_in (w, s) (turn_at q w s) word

-- the same of a call, and the event of its step
abbrev pub plan_of : Calling → Plan
plan_of c = plan_at c.asked c.along c.stage

abbrev pub goes_to : Asked → Along × CallStage → Calling
goes_to q at = record { asked = q; along = at.0; stage = at.1 }

abbrev pub got_of : Calling → ℕ → Calling
got_of c word = goes_to c.asked (next_at c.asked c.along c.stage word)

abbrev pub event_of : Calling → ℕ → Option What
event_of c word = event_by c.asked.text (plan_of c) word
