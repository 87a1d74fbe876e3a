-- A call that is at no node of a walk comes to none, but for the first one of its chain.
use Rattle.std.proofs.Common.{ℕ, ◌+◌, nat_le, nat_lt, List, Option, Some, None, ◌==◌}
use Rattle.text_words.specs.Words.{words_of}
use Rattle.marked_word.specs.Head.{is_locked}
use Rattle.marked_word.specs.Meta.{length_in}
use Rattle.intern_log.specs.declared.event.Handle.{Handle}
use Rattle.intern_log.specs.declared.event.Kind.{Kind}
use Rattle.intern_log.specs.declared.event.Kind.TheVariants.{Counted, Weak}
use Rattle.intern_log.specs.Now.{Now}
use Rattle.atomic_step.specs.Count.{holds_of, is_live}
use Rattle.atomic_step.specs.declared.answer.Answer.{Answer}
use Rattle.atomic_step.specs.declared.answer.Answer.TheVariants as answer
use Rattle.atomic_step.specs.declared.count.Change.{Change}
use Rattle.atomic_step.specs.declared.count.Change.TheVariants as change
use Rattle.call_machine.specs.declared.draw.DrawStage.TheVariants as draw
use Rattle.call_machine.specs.declared.handle.HandleStage.TheVariants as handle
use Rattle.call_machine.specs.declared.insert.InsertStage.TheVariants as insert
use Rattle.call_machine.specs.declared.leave.LeaveStage.TheVariants as leave
use Rattle.call_machine.specs.declared.leave.Then.{Then}
use Rattle.call_machine.specs.declared.leave.Then.TheVariants as next
use Rattle.call_machine.specs.declared.node.NodeStage.TheVariants as node
use Rattle.call_machine.specs.declared.read.ReadStage.TheVariants as read
use Rattle.call_machine.specs.declared.stage.Along.{Along}
use Rattle.call_machine.specs.declared.stage.Asked.{Asked}
use Rattle.call_machine.specs.declared.stage.CallStage.{CallStage}
use Rattle.call_machine.specs.declared.stage.CallStage.TheVariants as stage
use Rattle.call_machine.specs.declared.stage.Goal.{Goal}
use Rattle.call_machine.specs.declared.stage.Goal.TheVariants as goal
use Rattle.call_machine.specs.Calls.{next_at}
use Rattle.call_machine.specs.Handle.{count_found}
use Rattle.call_machine.specs.Insert.{next_slot, inserts, not_claimed, not_created, lost_head}
use Rattle.call_machine.specs.Leave.{left_for, tries_again, leaves_with, loses_with}
use Rattle.call_machine.specs.Node.{end_of, matches}
use Rattle.call_machine.specs.Read.{read_all, reads_from}
use Rattle.atomic_step.proofs.Choices.{either_way}
use Rattle.cht_core.specs.Memory.{Memory}
use Rattle.cht_run.specs.Covers.{StageCovers}

-- the call is at no node; or it takes one, and goes to no other
abbrev pub IsOff : CallStage → Type 0
IsOff (stage.Node (node.Take x count)) = Unit {0}
IsOff (stage.Node s) = ⊥
IsOff _ = Unit {0}

pub off_covers : (m : Memory) (n : Now) (text passed : List ℕ) (s : CallStage) → IsOff s → StageCovers m n text passed s
off_covers m n text passed (stage.Node (node.Take x count)) off = tt
off_covers m n text passed (stage.Node (node.Meta x)) off = absurd off
off_covers m n text passed (stage.Node (node.Text x at)) off = absurd off
off_covers m n text passed (stage.Node (node.Count x)) off = absurd off
off_covers m n text passed (stage.Node (node.Link x)) off = absurd off
off_covers m n text passed (stage.Answered a) off = tt
off_covers m n text passed (stage.Draw s) off = tt
off_covers m n text passed (stage.Find s) off = tt
off_covers m n text passed (stage.Insert s) off = tt
off_covers m n text passed (stage.Leave s) off = tt
off_covers m n text passed (stage.Handle s) off = tt
off_covers m n text passed (stage.Read s) off = tt

leaves_off : (kept : Option Handle) (a : Answer) → IsOff (leaves_with kept a)
leaves_off None a = tt
leaves_off (Some h) a = tt

loses_off : (g : Goal) (kept : Option Handle) (a : Answer) → IsOff (loses_with g kept a)
loses_off goal.Lookup kept a = leaves_off kept a
loses_off goal.Intern kept a = leaves_off kept a
loses_off goal.InternWait kept a = tt

pub end_off : (kept : Option Handle) (cursor head : ℕ) (g : Goal) → IsOff (end_of kept cursor head g)
end_off kept cursor head goal.Lookup = leaves_off kept answer.Miss
end_off kept cursor head goal.Intern = either_way IsOff (is_locked head) (leaves_with kept answer.Locked) (stage.Insert (inserts kept cursor)) (leaves_off kept answer.Locked) tt
end_off kept cursor head goal.InternWait = either_way IsOff (is_locked head) tries_again (stage.Insert (inserts kept cursor)) tt tt

pub matches_off : (q : Asked) (w : Along) (kind : Kind) (slot word : ℕ) → IsOff (matches q w kind slot word)
matches_off q w Counted slot word = tt
matches_off q w Weak slot word = leaves_off w.kept _

not_claimed_off : (q : Asked) (w : Along) (slot tried : ℕ) → IsOff (not_claimed q w slot tried)
not_claimed_off q w slot tried = either_way IsOff (tried + 1 == q.shape.slots) _ (stage.Insert (insert.Claim (next_slot q.shape.slots slot) (tried + 1))) (leaves_off w.kept answer.NoSlot) tt

not_created_off : (w : Along) (g : Goal) (h : Handle) (a : Answer) → IsOff (not_created w g h a).1
not_created_off w goal.Lookup h a = tt
not_created_off w goal.Intern h a = tt
not_created_off w goal.InternWait h a = tt

left_off : (w : Along) (after : Then) → IsOff (left_for w after).1
left_off w (next.Answer a) = tt
left_off w next.TryAgain = tt

count_off : (c : Change) (h : Handle) (word : ℕ) → IsOff (count_found c h word)
count_off change.Drop h word = either_way IsOff (holds_of word == 65535) (stage.Answered answer.Permanent) (stage.Handle (handle.Exchange change.Drop word)) tt tt
count_off change.Permanent h word = tt
count_off change.Kill h word = either_way IsOff (is_live h word) (stage.Handle (handle.Exchange change.Kill word)) (stage.Answered answer.Stale) tt tt

all_off : (kind : Kind) (a : Answer) → IsOff (read_all kind a)
all_off Counted a = tt
all_off Weak a = tt

reads_off : (kind : Kind) (at len : ℕ) → IsOff (reads_from kind at len)
reads_off kind at len = either_way IsOff (nat_lt at (words_of len)) (stage.Read (read.Text at len)) (read_all kind (answer.Text len)) tt (all_off kind (answer.Text len))

-- a call that walks no further
abbrev pub IsDone : CallStage → Type 0
IsDone (stage.Find s) = ⊥
IsDone s = IsOff s

pub off_next : (q : Asked) (w : Along) (s : CallStage) (word : ℕ) → IsDone s → IsOff (next_at q w s word).1
off_next q w (stage.Answered a) word is = tt
off_next q w (stage.Draw draw.Load) word is = either_way IsOff (nat_le q.shape.seats word) (stage.Answered answer.SeatsSpent) (stage.Draw draw.Add) tt tt
off_next q w (stage.Draw draw.Add) word is = tt
off_next q w (stage.Find s) word is = absurd is
off_next q w (stage.Node (node.Take slot count)) word is = either_way IsOff (word == count) _ _ (leaves_off w.kept _) (loses_off q.goal w.kept _)
off_next q w (stage.Node (node.Meta slot)) word is = absurd is
off_next q w (stage.Node (node.Text slot at)) word is = absurd is
off_next q w (stage.Node (node.Count slot)) word is = absurd is
off_next q w (stage.Node (node.Link slot)) word is = absurd is
off_next q w (stage.Insert (insert.Claim slot tried)) word is = either_way (λ (at : Along × CallStage). IsOff at.1) (word == 0) _ _ tt (not_claimed_off q w slot tried)
off_next q w (stage.Insert (insert.OwnCount slot)) word is = tt
off_next q w (stage.Insert (insert.PutMeta h)) word is = tt
off_next q w (stage.Insert (insert.PutText h at)) word is = tt
off_next q w (stage.Insert (insert.PutLink h)) word is = tt
off_next q w (stage.Insert (insert.PutCount h)) word is = tt
off_next q w (stage.Insert (insert.Create h)) word is = either_way (λ (at : Along × CallStage). IsOff at.1) (word == w.walk.head) _ _ tt (not_created_off w q.goal h (lost_head word))
off_next q w (stage.Leave (leave.UndoCount h after)) word is = tt
off_next q w (stage.Leave (leave.UndoClaim slot after)) word is = tt
off_next q w (stage.Leave (leave.Close after)) word is = left_off w after
off_next q w (stage.Handle (handle.Count c)) word is = count_off c q.handle word
off_next q w (stage.Handle (handle.Exchange c count)) word is = tt
off_next q w (stage.Read (read.Enter s)) word is = tt
off_next q w (stage.Read read.Count) word is = either_way IsOff (is_live q.handle word) (stage.Read read.Meta) (leaves_with None answer.Stale) tt tt
off_next q w (stage.Read read.Meta) word is = reads_off q.kind 0 (length_in word)
off_next q w (stage.Read (read.Text at len)) word is = reads_off q.kind (at + 1) len
