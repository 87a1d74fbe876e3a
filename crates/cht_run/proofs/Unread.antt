-- A call that does not read a text goes on without reading one.
use Rattle.std.proofs.Common.{ℕ, ◌+◌, Bool, true, false, cond, nat_le, Option, Some, None, ◌==◌}
use Rattle.marked_word.specs.Head.{is_locked, is_redirected, first_of}
use Rattle.marked_word.specs.Link.{node_of}
use Rattle.intern_log.specs.declared.event.Handle.{Handle}
use Rattle.intern_log.specs.declared.event.Kind.{Kind}
use Rattle.intern_log.specs.declared.event.Kind.TheVariants.{Counted, Weak}
use Rattle.atomic_step.specs.Count.{holds_of, is_live}
use Rattle.atomic_step.specs.declared.answer.Answer.{Answer}
use Rattle.atomic_step.specs.declared.answer.Answer.TheVariants as answer
use Rattle.atomic_step.specs.declared.count.Change.{Change}
use Rattle.atomic_step.specs.declared.count.Change.TheVariants as change
use Rattle.call_machine.specs.declared.draw.DrawStage.TheVariants as draw
use Rattle.call_machine.specs.declared.enter.EnterStage.TheVariants as enter
use Rattle.call_machine.specs.declared.find.FindStage.{FindStage}
use Rattle.call_machine.specs.declared.find.FindStage.TheVariants as find
use Rattle.call_machine.specs.declared.handle.HandleStage.TheVariants as handle
use Rattle.call_machine.specs.declared.insert.InsertStage.TheVariants as insert
use Rattle.call_machine.specs.declared.leave.LeaveStage.TheVariants as leave
use Rattle.call_machine.specs.declared.leave.Then.{Then}
use Rattle.call_machine.specs.declared.leave.Then.TheVariants as next
use Rattle.call_machine.specs.declared.node.NodeStage.TheVariants as node
use Rattle.call_machine.specs.declared.stage.Along.{Along}
use Rattle.call_machine.specs.declared.stage.Asked.{Asked}
use Rattle.call_machine.specs.declared.stage.CallStage.{CallStage}
use Rattle.call_machine.specs.declared.stage.CallStage.TheVariants as stage
use Rattle.call_machine.specs.declared.stage.Goal.{Goal}
use Rattle.call_machine.specs.declared.stage.Goal.TheVariants as goal
use Rattle.call_machine.specs.Calls.{finds, next_at}
use Rattle.call_machine.specs.Handle.{count_found}
use Rattle.call_machine.specs.Insert.{next_slot, inserts, not_claimed, not_created, lost_head}
use Rattle.call_machine.specs.Leave.{left_for, tries_again, leaves_with, loses_with}
use Rattle.call_machine.specs.Node.{end_of, comes_to, matches}

abbrev pub IsUnread : CallStage → Type 0
IsUnread (stage.Read s) = ⊥
IsUnread _ = Unit {0}

-- ON EITHER SIDE OF A TEST

by_test : (b : Bool) (x y : CallStage) → IsUnread x → IsUnread y → IsUnread (cond b x y)
by_test true x y first second = first
by_test false x y first second = second

by_test_along : (b : Bool) (x y : Along × CallStage) → IsUnread x.1 → IsUnread y.1 → IsUnread (cond b x y).1
by_test_along true x y first second = first
by_test_along false x y first second = second

-- WHERE A WALK GOES

leaves_unread : (kept : Option Handle) (a : Answer) → IsUnread (leaves_with kept a)
leaves_unread None a = tt
leaves_unread (Some h) a = tt

loses_unread : (g : Goal) (kept : Option Handle) (a : Answer) → IsUnread (loses_with g kept a)
loses_unread goal.Lookup kept a = leaves_unread kept a
loses_unread goal.Intern kept a = leaves_unread kept a
loses_unread goal.InternWait kept a = tt

end_unread : (kept : Option Handle) (cursor head : ℕ) (g : Goal) → IsUnread (end_of kept cursor head g)
end_unread kept cursor head goal.Lookup = leaves_unread kept answer.Miss
end_unread kept cursor head goal.Intern = by_test (is_locked head) (leaves_with kept answer.Locked) (stage.Insert (inserts kept cursor)) (leaves_unread kept answer.Locked) tt
end_unread kept cursor head goal.InternWait = by_test (is_locked head) tries_again (stage.Insert (inserts kept cursor)) tt tt

comes_unread : (q : Asked) (w : Along) (head : ℕ) (x : Option ℕ) → IsUnread (comes_to q w head x)
comes_unread q w head None = end_unread w.kept w.cursor head q.goal
comes_unread q w head (Some slot) = tt

finds_unread : (q : Asked) (w : Along) (head : ℕ) (s : Option FindStage) → IsUnread (finds q w head s)
finds_unread q w head (Some s) = tt
finds_unread q w head None = comes_unread q w head (first_of head)

matches_unread : (q : Asked) (w : Along) (kind : Kind) (slot word : ℕ) → IsUnread (matches q w kind slot word)
matches_unread q w Counted slot word = tt
matches_unread q w Weak slot word = leaves_unread w.kept _

not_claimed_unread : (q : Asked) (w : Along) (slot tried : ℕ) → IsUnread (not_claimed q w slot tried)
not_claimed_unread q w slot tried = by_test (tried + 1 == q.shape.slots) _ (stage.Insert (insert.Claim (next_slot q.shape.slots slot) (tried + 1))) (leaves_unread w.kept answer.NoSlot) tt

not_created_unread : (w : Along) (g : Goal) (h : Handle) (a : Answer) → IsUnread (not_created w g h a).1
not_created_unread w goal.Lookup h a = tt
not_created_unread w goal.Intern h a = tt
not_created_unread w goal.InternWait h a = tt

left_unread : (w : Along) (after : Then) → IsUnread (left_for w after).1
left_unread w (next.Answer a) = tt
left_unread w next.TryAgain = tt

count_unread : (c : Change) (h : Handle) (word : ℕ) → IsUnread (count_found c h word)
count_unread change.Drop h word = by_test (holds_of word == 65535) (stage.Answered answer.Permanent) (stage.Handle (handle.Exchange change.Drop word)) tt tt
count_unread change.Permanent h word = tt
count_unread change.Kill h word = by_test (is_live h word) (stage.Handle (handle.Exchange change.Kill word)) (stage.Answered answer.Stale) tt tt

-- THE NEXT STAGE

pub unread_next : (q : Asked) (w : Along) (s : CallStage) (word : ℕ) → IsUnread s → IsUnread (next_at q w s word).1
unread_next q w (stage.Read s) word is = absurd is
unread_next q w (stage.Answered a) word is = tt
unread_next q w (stage.Draw draw.Load) word is = by_test (nat_le q.shape.seats word) (stage.Answered answer.SeatsSpent) (stage.Draw draw.Add) tt tt
unread_next q w (stage.Draw draw.Add) word is = tt
unread_next q w (stage.Find (find.Enter enter.LoadCounter)) word is = tt
unread_next q w (stage.Find (find.Enter (enter.OpenSection counter))) word is = tt
unread_next q w (stage.Find find.LoadLevel) word is = tt
unread_next q w (stage.Find find.LoadHead) word is = finds_unread q w word (cond (is_redirected word) (Some find.LoadNewLevel) None)
unread_next q w (stage.Find find.LoadNewLevel) word is = tt
unread_next q w (stage.Find find.LoadNewHead) word is = finds_unread q w word None
unread_next q w (stage.Node (node.Meta slot)) word is = tt
unread_next q w (stage.Node (node.Text slot at)) word is = tt
unread_next q w (stage.Node (node.Count slot)) word is = by_test (holds_of word == 0) (stage.Node (node.Link slot)) (matches q w q.kind slot word) tt (matches_unread q w q.kind slot word)
unread_next q w (stage.Node (node.Link slot)) word is = comes_unread q w w.walk.head (node_of word)
unread_next q w (stage.Node (node.Take slot count)) word is = by_test (word == count) _ _ (leaves_unread w.kept _) (loses_unread q.goal w.kept _)
unread_next q w (stage.Insert (insert.Claim slot tried)) word is = by_test_along (word == 0) _ _ tt (not_claimed_unread q w slot tried)
unread_next q w (stage.Insert (insert.OwnCount slot)) word is = tt
unread_next q w (stage.Insert (insert.PutMeta h)) word is = tt
unread_next q w (stage.Insert (insert.PutText h at)) word is = tt
unread_next q w (stage.Insert (insert.PutLink h)) word is = tt
unread_next q w (stage.Insert (insert.PutCount h)) word is = tt
unread_next q w (stage.Insert (insert.Create h)) word is = by_test_along (word == w.walk.head) _ _ tt (not_created_unread w q.goal h (lost_head word))
unread_next q w (stage.Leave (leave.UndoCount h after)) word is = tt
unread_next q w (stage.Leave (leave.UndoClaim slot after)) word is = tt
unread_next q w (stage.Leave (leave.Close after)) word is = left_unread w after
unread_next q w (stage.Handle (handle.Count c)) word is = count_unread c q.handle word
unread_next q w (stage.Handle (handle.Exchange c count)) word is = tt
