-- What a try call has found out of its window stays so as the window grows.
use Rattle.std.proofs.Common.{ℕ, List, ◌++◌, subst, inl, inr, append_assoc}
use Rattle.intern_log.specs.declared.event.Event.{Event}
use Rattle.intern_log.specs.declared.event.Handle.{Handle}
use Rattle.intern_log.specs.declared.event.Kind.{Kind}
use Rattle.intern_log.specs.Sections.{IsCreatedAs}
use Rattle.atomic_step.specs.Count.{handle_at}
use Rattle.atomic_step.specs.declared.answer.Answer.{Answer}
use Rattle.atomic_step.specs.declared.answer.Answer.TheVariants as answer
use Rattle.call_machine.specs.CallEvents.{then_of}
use Rattle.call_machine.specs.declared.handle.HandleStage.TheVariants as handle
use Rattle.call_machine.specs.declared.insert.InsertStage.TheVariants as insert
use Rattle.call_machine.specs.declared.leave.Then.{Then}
use Rattle.call_machine.specs.declared.leave.Then.TheVariants as next
use Rattle.call_machine.specs.declared.node.NodeStage.TheVariants as node
use Rattle.call_machine.specs.declared.stage.Along.{Along}
use Rattle.call_machine.specs.declared.stage.Asked.{Asked}
use Rattle.call_machine.specs.declared.stage.CallStage.{CallStage}
use Rattle.call_machine.specs.declared.stage.CallStage.TheVariants as stage
use Rattle.call_machine.specs.declared.stage.Goal.{Goal}
use Rattle.call_machine.specs.declared.stage.Goal.TheVariants.{Lookup, Intern, InternWait}
use Rattle.call_machine.specs.declared.find.Walk.{Walk}
use Rattle.cht_core.specs.declared.table.Table.{Table}
use Rattle.cht_core.specs.Causes.{IsRowIn}
use Rattle.cht_core.specs.CauseCalls.{Way, Walks, Changes, Reads, Splits, IsWordOf, IsAbsent, IsGone, IsTaken, IsTextLocked, IsOnHandle, IsOnHome, CountLost, LostBy, WalkEnds, ChangeEnds}
use Rattle.cht_core.specs.CauseCalls.{ReadEnds, CallEnds}
use Rattle.cht_core.specs.CauseCalls.{ThenEnds, HeadFound, CallCaused}
use Rattle.cht_core.proofs.Windows.{somewhere_on, another_on}
use Rattle.cht_core.proofs.CauseCounts.{created_longer}

module _ (t : Table) (i : ℕ) (seen window more : List Event) where
  count_lost_on : (text : List ℕ) → CountLost i text seen window → CountLost i text seen (window ++ more)
  count_lost_on text h = (
    h.0,
    another_on seen window i (IsOnHandle h.0) more h.1,
    subst (λ l. IsCreatedAs l text h.0) (append_assoc seen window more) (created_longer (seen ++ window) more text h.0 h.2),
  )

  lost_on : (goal : Goal) (kind : Kind) (text : List ℕ) → LostBy goal kind t i text seen window → LostBy goal kind t i text seen (window ++ more)
  lost_on Lookup kind text h = (h.0, count_lost_on text h.1)
  lost_on Intern kind text h = elim h [
    | inl count ↦ inl (count.0, count_lost_on text count.1)
    | inr head ↦ inr (head.0, somewhere_on seen window (IsRowIn t head.0) more head.1, another_on seen window i (IsOnHome t head.0 text) more head.2)
  ]
  lost_on InternWait kind text h = absurd h

  walk_ends_on : (q : Asked) (a : Answer) → WalkEnds t i q seen window a → WalkEnds t i q seen (window ++ more) a
  walk_ends_on q answer.Miss h = somewhere_on seen window (IsAbsent q.text) more h
  walk_ends_on q answer.Again h = lost_on q.goal q.kind q.text h
  walk_ends_on q answer.Locked h = somewhere_on seen window (IsTextLocked t q.text) more h
  walk_ends_on q answer.NoSlot h = (somewhere_on seen window (IsAbsent q.text) more h.0, λ slot inside. somewhere_on seen window (IsTaken t slot) more (h.1 slot inside))
  walk_ends_on q _ h = tt

  change_ends_on : (h : Handle) (a : Answer) → ChangeEnds i h seen window a → ChangeEnds i h seen (window ++ more) a
  change_ends_on h answer.Again lost = another_on seen window i (IsOnHandle h) more lost
  change_ends_on h answer.Stale gone = somewhere_on seen window (IsGone h) more gone
  change_ends_on h _ so = tt

  read_ends_on : (h : Handle) (a : Answer) → ReadEnds h seen window a → ReadEnds h seen (window ++ more) a
  read_ends_on h answer.Stale gone = somewhere_on seen window (IsGone h) more gone
  read_ends_on h _ so = tt

  call_ends_on : (way : Way) (q : Asked) (a : Answer) → CallEnds t i way q seen window a → CallEnds t i way q seen (window ++ more) a
  call_ends_on Walks q a h = walk_ends_on q a h
  call_ends_on (Changes change) q a h = change_ends_on q.handle a h
  call_ends_on Reads q a h = read_ends_on q.handle a h
  call_ends_on Splits q a h = tt

  then_ends_on : (way : Way) (q : Asked) (after : Then) → ThenEnds t i way q seen window after → ThenEnds t i way q seen (window ++ more) after
  then_ends_on way q (next.Answer a) h = call_ends_on way q a h
  then_ends_on way q next.TryAgain h = h

  head_found_on : (load : ℕ) (text : List ℕ) (walk : Walk) → HeadFound t seen window load text walk → HeadFound t seen (window ++ more) load text walk
  head_found_on load text walk h = record { began = h.began; row = somewhere_on seen window (IsRowIn t walk.row) more h.row; locked = λ is. somewhere_on seen window (IsTextLocked t text) more (h.locked is) }

  -- of a try call
  pub call_on : (way : Way) (load : ℕ) (q : Asked) (w : Along) (s : CallStage) → CallCaused t i way seen window load q w s → CallCaused t i way seen (window ++ more) load q w s
  call_on way load q w (stage.Answered a) h = call_ends_on way q a h
  call_on way load q w (stage.Leave s) h = then_ends_on way q (then_of s) h
  call_on way load q w (stage.Draw s) h = h
  call_on way load q w (stage.Find s) h = h
  call_on way load q w (stage.Node (node.Take slot count)) h = (h.0, somewhere_on seen window (IsWordOf q.text (handle_at slot count) count) more h.1, h.2)
  call_on way load q w (stage.Node _) h = (h.0, head_found_on load q.text w.walk h.1)
  call_on way load q w (stage.Insert (insert.Claim slot tried)) h =
      (h.0, h.1, h.2, somewhere_on seen window (IsAbsent q.text) more h.3, λ x before. somewhere_on seen window (IsTaken t x) more (h.4 x before), somewhere_on seen window (IsRowIn t w.walk.row) more h.5)
  call_on way load q w (stage.Insert _) h = (h.0, h.1, h.2, somewhere_on seen window (IsRowIn t w.walk.row) more h.3)
  call_on way load q w (stage.Handle (handle.Count change)) h = h
  call_on way load q w (stage.Handle (handle.Exchange change count)) h = (h.0, (h.1.0, somewhere_on seen window (IsWordOf h.1.0 q.handle count) more h.1.1))
  call_on way load q w (stage.Read s) h = h
