-- What a walk knows of its chain where nobody else is there, from its head to its end.
use Rattle.std.specs.Prelude.{◌≡◌, ℕ, ◌⊎◌, ◌↔◌, false, List, Some, None}
use Rattle.chain_core.specs.Nodes.{On}
use Rattle.chain_core.specs.Path.{IsPath}
use Rattle.marked_word.specs.Head.{is_redirected, first_of}
use Rattle.marked_word.specs.Link.{node_of}
use Rattle.intern_log.specs.declared.event.Event.{Event}
use Rattle.intern_log.specs.Buckets.{bucket_of}
use Rattle.intern_log.specs.Now.{Now}
use Rattle.atomic_step.specs.declared.answer.Answer.{Answer}
use Rattle.atomic_step.specs.declared.answer.Answer.TheVariants as answer
use Rattle.call_machine.specs.declared.find.FindStage.TheVariants as find
use Rattle.call_machine.specs.declared.leave.Then.{Then}
use Rattle.call_machine.specs.declared.leave.Then.TheVariants as next
use Rattle.call_machine.specs.declared.machine.Machine.{Machine}
use Rattle.call_machine.specs.declared.machine.Machine.TheVariants as machine
use Rattle.call_machine.specs.declared.node.NodeStage.TheVariants as node
use Rattle.call_machine.specs.declared.stage.Along.{Along}
use Rattle.call_machine.specs.declared.stage.Asked.{Asked}
use Rattle.call_machine.specs.declared.stage.CallStage.{CallStage}
use Rattle.call_machine.specs.declared.stage.CallStage.TheVariants as stage
use Rattle.call_machine.specs.CallEvents.{then_of}
use Rattle.call_machine.specs.Node.{passes}
use Rattle.cht_core.specs.declared.table.Table.{Table}
use Rattle.cht_core.specs.Memory.{Memory, links}
use Rattle.cht_core.specs.Parts.{node_in}
use Rattle.cht_core.specs.Shows.{IsOfBucket}
use Rattle.cht_run.specs.ChainLengths.{linked_beside, chain_length}

-- AT A NODE

-- what it has passed, and what is on the path from its node, are the linked slots of the bucket of its text
abbrev pub Covers : Memory → Now → List ℕ → List ℕ → ℕ → Type 0
Covers m n text passed x = (ahead : List ℕ) → IsPath (links m) (Some x) ahead → (s : ℕ) → (On s passed ⊎ On s ahead) ↔ IsOfBucket n (bucket_of n.seed n.level text) s

abbrev pub StageCovers : Memory → Now → List ℕ → List ℕ → CallStage → Type 0
StageCovers m n text passed (stage.Node (node.Take x count)) = Unit {0}
StageCovers m n text passed (stage.Node s) = Covers m n text passed (node_in s)
StageCovers m n text passed _ = Unit {0}

-- a seat with no work unfinished knows it
abbrev pub MachineCovers : Memory → Now → List ℕ → Machine → Type 0
MachineCovers m n passed (machine.Call c None g) = StageCovers m n c.asked.text passed c.stage
MachineCovers m n passed _ = Unit {0}

-- AT THE END

-- by the word with which it comes to the end of its chain: it has passed so many nodes as are linked slots of the bucket
abbrev pub StageEnds : ℕ → Now → Asked → Along → CallStage → ℕ → Type 0
StageEnds slots n q w (stage.Find find.LoadHead) word = is_redirected word ≡ false → first_of word ≡ None → w.walk.passed ≡ linked_beside slots n q.text
StageEnds slots n q w (stage.Find find.LoadNewHead) word = first_of word ≡ None → w.walk.passed ≡ linked_beside slots n q.text
StageEnds slots n q w (stage.Node (node.Link x)) word = node_of word ≡ None → (passes w.walk).passed ≡ linked_beside slots n q.text
StageEnds slots n q w _ word = Unit {0}

abbrev pub MachineEnds : ℕ → Now → Machine → ℕ → Type 0
MachineEnds slots n (machine.Call c None g) word = StageEnds slots n c.asked c.along c.stage word
MachineEnds slots n _ word = Unit {0}

-- AFTER IT

-- the number of nodes that were passed is this one, where a walk that answers so has come to the end of its chain
abbrev pub AnswerPassed : ℕ → ℕ → Answer → Type 0
AnswerPassed long passed answer.Miss = passed ≡ long
AnswerPassed long passed (answer.Created h) = passed ≡ long
AnswerPassed long passed answer.NoSlot = passed ≡ long
AnswerPassed long passed _ = Unit {0}

abbrev pub ThenPassed : ℕ → ℕ → Then → Type 0
ThenPassed long passed (next.Answer a) = AnswerPassed long passed a
ThenPassed long passed next.TryAgain = Unit {0}

abbrev pub StagePassed : ℕ → Along → CallStage → Type 0
StagePassed long w (stage.Insert s) = w.walk.passed ≡ long
StagePassed long w (stage.Leave s) = ThenPassed long w.walk.passed (then_of s)
StagePassed long w (stage.Answered a) = AnswerPassed long w.walk.passed a
StagePassed long w _ = Unit {0}

-- it is the length of the chain as its call began
abbrev pub MachinePassed : Table → List Event → Machine → Type 0
MachinePassed t seen (machine.Call c None g) = StagePassed (chain_length t seen c.asked.text) c.along c.stage
MachinePassed t seen _ = Unit {0}
