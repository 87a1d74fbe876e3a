-- A try call that is no split never answers with the number of a new seat.
use Rattle.std.proofs.Common.{◌≡◌, ℕ, ◌+◌, ◌==◌, ◌||◌, refl, subst}
use Rattle.marked_word.specs.Head.{is_locked, is_redirected, first_of}
use Rattle.marked_word.specs.Link.{node_of}
use Rattle.marked_word.specs.Meta.{length_in}
use Rattle.intern_log.specs.declared.event.Handle.{Handle}
use Rattle.intern_log.specs.declared.event.Kind.{Kind}
use Rattle.intern_log.specs.declared.event.Kind.TheVariants.{Counted, Weak}
use Rattle.atomic_step.specs.declared.answer.Answer.{Answer}
use Rattle.atomic_step.specs.declared.answer.Answer.TheVariants as answer
use Rattle.atomic_step.specs.declared.count.Change.{Change}
use Rattle.atomic_step.specs.declared.count.Change.TheVariants.{Drop, Permanent, Kill}
use Rattle.atomic_step.specs.declared.plan.Plan.TheVariants as plan
use Rattle.atomic_step.specs.Count.{handle_at, is_live}
use Rattle.atomic_step.proofs.Choices.{either_way}
use Rattle.call_machine.specs.declared.find.FindStage.TheVariants as find
use Rattle.call_machine.specs.declared.handle.HandleStage.TheVariants as handle
use Rattle.call_machine.specs.declared.insert.InsertStage.TheVariants as insert
use Rattle.call_machine.specs.declared.leave.LeaveStage.TheVariants as leave
use Rattle.call_machine.specs.declared.leave.Then.{Then}
use Rattle.call_machine.specs.declared.leave.Then.TheVariants as next
use Rattle.call_machine.specs.declared.node.NodeStage.TheVariants as node
use Rattle.call_machine.specs.declared.read.ReadStage.TheVariants as read
use Rattle.call_machine.specs.declared.stage.Along.{Along}
use Rattle.call_machine.specs.declared.stage.Asked.{Asked}
use Rattle.call_machine.specs.declared.stage.CallStage.{CallStage}
use Rattle.call_machine.specs.declared.stage.CallStage.TheVariants as stage
use Rattle.call_machine.specs.declared.stage.Goal.{Goal}
use Rattle.call_machine.specs.declared.stage.Goal.TheVariants as goal
use Rattle.call_machine.specs.CallEvents.{then_of}
use Rattle.call_machine.specs.Calls.{next_at, plan_at}
use Rattle.call_machine.specs.Handle.{made_answer, lost_answer}
use Rattle.call_machine.specs.Insert.{not_claimed, not_created, lost_head}
use Rattle.call_machine.specs.Node.{met}
use Rattle.call_machine.proofs.Walked.{HoldsOnLeaving, HoldsOnWalks, leaves, loses, comes, arrives, counts, gives_up, changes, reads}

-- the answer is no number of a new seat
abbrev pub IsNoSplit : Answer → Type 0
IsNoSplit (answer.Split number) = ⊥
IsNoSplit _ = Unit {0}

abbrev pub ThenNoSplit : Then → Type 0
ThenNoSplit (next.Answer a) = IsNoSplit a
ThenNoSplit next.TryAgain = Unit {0}

abbrev pub StageNoSplit : CallStage → Type 0
StageNoSplit (stage.Answered a) = IsNoSplit a
StageNoSplit (stage.Leave s) = ThenNoSplit (then_of s)
StageNoSplit (stage.Draw s) = ⊥
StageNoSplit _ = Unit {0}

on_leaving : (why : Goal) → HoldsOnLeaving why IsNoSplit (λ kept s. StageNoSplit s)
on_leaving why = record { closes = λ a so. so; undoes = λ h a so. so; again = λ waits kept. tt }

on_walks : (why : Goal) → HoldsOnWalks why IsNoSplit (λ kept s. StageNoSplit s)
on_walks why = record { leaving = on_leaving why; miss = tt; locked = tt; claims = λ intern cursor. tt; puts = λ intern h. tt; meets = λ kept slot. tt }

met_no : (kind : Kind) (why : Goal) (h : Handle) → IsNoSplit (met kind why h)
met_no kind goal.Lookup h = tt
met_no Counted goal.Intern h = tt
met_no Weak goal.Intern h = tt
met_no Counted goal.InternWait h = tt
met_no Weak goal.InternWait h = tt

lost_no : (word : ℕ) → IsNoSplit (lost_head word)
lost_no word = either_way IsNoSplit (is_locked word || is_redirected word) answer.Locked answer.Again tt tt

made_no : (way : Change) (count : ℕ) → IsNoSplit (made_answer way count)
made_no Drop count = tt
made_no Permanent count = tt
made_no Kill count = tt

unmade_no : (way : Change) → IsNoSplit (lost_answer way)
unmade_no Drop = tt
unmade_no Permanent = tt
unmade_no Kill = tt

pub call_on : (q : Asked) (w : Along) (s : CallStage) (word : ℕ) → StageNoSplit s → StageNoSplit (next_at q w s word).1
call_on q w (stage.Answered a) word h = h
call_on q w (stage.Draw s) word h = absurd h
call_on q w (stage.Find find.LoadHead) word h = arrives q (on_walks q.goal) (λ kept. tt) w word
call_on q w (stage.Find find.LoadNewHead) word h = comes q (on_walks q.goal) w word (first_of word)
call_on q w (stage.Node (node.Count x)) word h =
    counts (λ e s. StageNoSplit s) q w q.kind x word refl tt (λ is. tt) (λ is. leaves (on_leaving q.goal) w.kept (met Weak q.goal (handle_at x word)) (met_no Weak q.goal (handle_at x word)))
call_on q w (stage.Node (node.Link x)) word h = comes q (on_walks q.goal) (next_at q w (stage.Node (node.Link x)) word).0 w.walk.head (node_of word)
call_on q w (stage.Node (node.Take x count)) word h =
    either_way StageNoSplit (word == count) _ _ (leaves (on_leaving q.goal) w.kept (met Counted q.goal (handle_at x count)) (met_no Counted q.goal (handle_at x count)))
    (loses q.goal (on_leaving q.goal) w.kept answer.Again tt)
call_on q w (stage.Insert (insert.Claim slot tried)) word h =
    either_way (λ (n : Along × CallStage). StageNoSplit n.1) (word == 0) _ (w, not_claimed q w slot tried) tt
    (either_way StageNoSplit (tried + 1 == q.shape.slots) _ _ (leaves (on_leaving q.goal) w.kept answer.NoSlot tt) tt)
call_on q w (stage.Insert (insert.Create k)) word h =
    either_way (λ (n : Along × CallStage). StageNoSplit n.1) (word == w.walk.head) _ (not_created w q.goal k (lost_head word)) tt
    (gives_up (λ (n : Along × CallStage). StageNoSplit n.1) w q.goal k (lost_head word) tt (lost_no word))
call_on q w (stage.Leave (leave.UndoCount k after)) word h = h
call_on q w (stage.Leave (leave.UndoClaim slot after)) word h = h
call_on q w (stage.Leave (leave.Close (next.Answer a))) word h = h
call_on q w (stage.Leave (leave.Close next.TryAgain)) word h = tt
call_on q w (stage.Handle (handle.Count way)) word h = changes (λ e s. StageNoSplit s) way q.handle word tt tt (λ way. tt)
call_on q w (stage.Handle (handle.Exchange way count)) word h = either_way IsNoSplit (word == count) (made_answer way count) (lost_answer way) (made_no way count) (unmade_no way)
call_on q w (stage.Read read.Count) word h = either_way StageNoSplit (is_live q.handle word) _ _ tt tt
call_on q w (stage.Read read.Meta) word h = reads (λ kind s. StageNoSplit s) q.kind 0 (length_in word) (λ kind more. tt) tt tt
call_on q w (stage.Read (read.Text k len)) word h = reads (λ kind s. StageNoSplit s) q.kind (k + 1) len (λ kind more. tt) tt tt
call_on q w _ word h = tt

pub call_ends : (q : Asked) (w : Along) (s : CallStage) (number : ℕ) → plan_at q w s ≡ plan.Answered (answer.Split number) → StageNoSplit s → ⊥
call_ends q w (stage.Answered a) number is h = let same : a ≡ answer.Split number = cc in subst IsNoSplit same h
call_ends q w (stage.Draw s) number is h = h
call_ends q w (stage.Find s) number is h = absurd (cc)
call_ends q w (stage.Node s) number is h = absurd (cc)
call_ends q w (stage.Insert s) number is h = absurd (cc)
call_ends q w (stage.Leave s) number is h = absurd (cc)
call_ends q w (stage.Handle s) number is h = absurd (cc)
call_ends q w (stage.Read s) number is h = absurd (cc)
