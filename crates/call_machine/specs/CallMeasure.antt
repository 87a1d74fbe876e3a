-- How many steps a call still makes, beside those by which it passes further nodes.
use Rattle.std.specs.Prelude.{ℕ, ◌+◌, ◌-◌, ◌*◌, ◌≤◌, Bool, true, false, min}
use Rattle.text_words.specs.Words.{words_of}
use Rattle.table_shape.specs.declared.shape.Shape.{Shape}
use Rattle.atomic_step.specs.Run.{Machine}
use Rattle.call_machine.specs.declared.draw.DrawStage.TheVariants as draw
use Rattle.call_machine.specs.declared.enter.EnterStage.TheVariants as enter
use Rattle.call_machine.specs.declared.find.FindStage.TheVariants as find
use Rattle.call_machine.specs.declared.handle.HandleStage.TheVariants as handle
use Rattle.call_machine.specs.declared.insert.InsertStage.TheVariants as insert
use Rattle.call_machine.specs.declared.leave.LeaveStage.TheVariants as leave
use Rattle.call_machine.specs.declared.leave.Then.{Then}
use Rattle.call_machine.specs.declared.leave.Then.TheVariants as next
use Rattle.call_machine.specs.declared.node.NodeStage.TheVariants as node
use Rattle.call_machine.specs.declared.read.ReadStage.TheVariants as read
use Rattle.call_machine.specs.declared.stage.Calling.{Calling}
use Rattle.call_machine.specs.declared.stage.CallStage.{CallStage}
use Rattle.call_machine.specs.declared.stage.CallStage.TheVariants as stage
use Rattle.call_machine.specs.declared.stage.Goal.{Goal}
use Rattle.call_machine.specs.declared.stage.Goal.TheVariants.{InternWait}
use Rattle.call_machine.specs.Calls.{got_of}
use Rattle.call_machine.specs.WholeCall.{calls}

-- the call does not begin again
abbrev pub IsTry : Goal → Type 0
IsTry InternWait = ⊥
IsTry _ = Unit {0}

-- the steps by which a node is passed: its meta word, the words of its text, its count, its link
abbrev pub node_steps : Shape → ℕ
node_steps shape = 3 + shape.text_words

-- the most steps behind a section that is closed
abbrev pub left_behind : Shape → Then → ℕ
left_behind shape (next.Answer a) = 0
left_behind shape next.TryAgain = 14 + shape.text_words + shape.slots + shape.slots * node_steps shape

-- the most steps of each stage, where no further node is passed
abbrev pub left_at : Shape → CallStage → ℕ
left_at shape (stage.Answered a) = 0
left_at shape (stage.Draw draw.Load) = 2
left_at shape (stage.Draw draw.Add) = 1
left_at shape (stage.Find (find.Enter enter.LoadCounter)) = 14 + shape.text_words + shape.slots
left_at shape (stage.Find (find.Enter (enter.OpenSection counter))) = 13 + shape.text_words + shape.slots
left_at shape (stage.Find find.LoadLevel) = 12 + shape.text_words + shape.slots
left_at shape (stage.Find find.LoadHead) = 11 + shape.text_words + shape.slots
left_at shape (stage.Find find.LoadNewLevel) = 10 + shape.text_words + shape.slots
left_at shape (stage.Find find.LoadNewHead) = 9 + shape.text_words + shape.slots
left_at shape (stage.Node (node.Meta slot)) = 8 + shape.text_words + shape.slots
left_at shape (stage.Node (node.Text slot at)) = 7 + (shape.text_words - at) + shape.slots
left_at shape (stage.Node (node.Count slot)) = 7 + shape.slots
left_at shape (stage.Node (node.Link slot)) = 6 + shape.slots
left_at shape (stage.Node (node.Take slot count)) = 4
left_at shape (stage.Insert (insert.Claim slot tried)) = 8 + shape.text_words + (shape.slots - tried)
left_at shape (stage.Insert (insert.OwnCount slot)) = 8 + shape.text_words
left_at shape (stage.Insert (insert.PutMeta h)) = 7 + shape.text_words
left_at shape (stage.Insert (insert.PutText h at)) = 6 + (shape.text_words - at)
left_at shape (stage.Insert (insert.PutLink h)) = 6
left_at shape (stage.Insert (insert.PutCount h)) = 5
left_at shape (stage.Insert (insert.Create h)) = 4
left_at shape (stage.Leave (leave.UndoCount h after)) = 3 + left_behind shape after
left_at shape (stage.Leave (leave.UndoClaim slot after)) = 2 + left_behind shape after
left_at shape (stage.Leave (leave.Close after)) = 1 + left_behind shape after
left_at shape (stage.Handle (handle.Count change)) = 2
left_at shape (stage.Handle (handle.Exchange change count)) = 1
left_at shape (stage.Read (read.Enter enter.LoadCounter)) = 5 + shape.text_words
left_at shape (stage.Read (read.Enter (enter.OpenSection counter))) = 4 + shape.text_words
left_at shape (stage.Read read.Count) = 3 + shape.text_words
left_at shape (stage.Read read.Meta) = 2 + shape.text_words
left_at shape (stage.Read (read.Text at len)) = 1 + (words_of len - at)

abbrev pub left : Calling → ℕ
left c = left_at c.asked.shape c.stage

-- whether the step of a stage loads a link, and so passes a node
abbrev pub passes_node : CallStage → Bool
passes_node (stage.Node (node.Link slot)) = true
passes_node _ = false

-- how many nodes were passed after the step of a stage
abbrev pub passed_after : CallStage → ℕ → ℕ
passed_after (stage.Node (node.Link slot)) passed = min (passed + 1) 4294967295
passed_after (stage.Leave (leave.Close next.TryAgain)) passed = 0
passed_after _ passed = passed

-- the most steps that a call still makes, where it passes no more nodes than the table has slots
abbrev pub steps_left : Calling → ℕ
steps_left c = left c + (c.asked.shape.slots - c.along.walk.passed) * node_steps c.asked.shape

-- the most steps of a call
abbrev pub most_steps : Shape → ℕ
most_steps shape = 16 + shape.text_words + shape.slots * (4 + shape.text_words)

-- calls that never pass more nodes than the table has slots
abbrev pub short_walks : Machine Calling
short_walks = record calls { Fits = λ c word. calls.Fits c word × ((got_of c word).along.walk.passed ≤ c.asked.shape.slots) }
