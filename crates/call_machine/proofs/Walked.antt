-- What holds of the event of a step and of what comes next holds of each way that a step may go.
use Rattle.std.proofs.Common.{◌≡◌, refl, ◌≡◌, ℕ, Bool, true, false, Option, Some, None, cond, ◌==◌}
use Rattle.std.specs.Prelude.{nat_lt}
use Rattle.text_words.specs.Words.{words_of}
use Rattle.marked_word.specs.Head.{is_locked, is_redirected, first_of}
use Rattle.intern_log.specs.declared.event.Handle.{Handle}
use Rattle.atomic_step.specs.declared.answer.Answer.{Answer}
use Rattle.atomic_step.specs.declared.answer.Answer.TheVariants as answer
use Rattle.call_machine.specs.declared.stage.Along.{Along}
use Rattle.call_machine.specs.declared.stage.Asked.{Asked}
use Rattle.call_machine.specs.declared.stage.CallStage.{CallStage}
use Rattle.call_machine.specs.declared.stage.CallStage.TheVariants as stage
use Rattle.call_machine.specs.declared.insert.InsertStage.TheVariants as insert
use Rattle.call_machine.specs.declared.find.FindStage.TheVariants as find
use Rattle.call_machine.specs.declared.stage.Goal.{Goal}
use Rattle.call_machine.specs.declared.stage.Goal.TheVariants.{Lookup, Intern, InternWait}
use Rattle.call_machine.specs.declared.leave.LeaveStage.TheVariants as leave
use Rattle.call_machine.specs.declared.node.NodeStage.TheVariants as node
use Rattle.call_machine.specs.declared.leave.Then.TheVariants as next
use Rattle.call_machine.specs.Calls.{finds}
use Rattle.call_machine.specs.Insert.{inserts}
use Rattle.call_machine.specs.Leave.{leaves_with, loses_with, tries_again}
use Rattle.call_machine.specs.Node.{comes_to, end_of}
use Rattle.atomic_step.specs.declared.count.Change.{Change}
use Rattle.atomic_step.specs.declared.count.Change.TheVariants.{Drop, Permanent, Kill}
use Rattle.atomic_step.specs.Count.{holds_of, handle_at, is_live}
use Rattle.atomic_step.specs.Event.{found_entry, found_handle}
use Rattle.atomic_step.proofs.Choices.{where_it_is, either_way}
use Rattle.intern_log.specs.declared.event.Kind.{Kind}
use Rattle.intern_log.specs.declared.event.Kind.TheVariants.{Counted, Weak}
use Rattle.intern_log.specs.declared.event.What.{What}
use Rattle.intern_log.specs.declared.event.What.TheVariants as what
use Rattle.call_machine.specs.declared.handle.HandleStage.TheVariants as handle
use Rattle.call_machine.specs.declared.read.ReadStage.TheVariants as read
use Rattle.call_machine.specs.Handle.{count_found}
use Rattle.call_machine.specs.Insert.{not_created}
use Rattle.call_machine.specs.Node.{matches, met}
use Rattle.call_machine.specs.Read.{reads_from, read_all}

-- of the slot that is kept and the stage, where a call that answers does so by one of these answers, and only an intern that waits tries again
pub record HoldsOnLeaving (goal : Goal) (A : Answer → Type 0) (P : Option Handle → CallStage → Type 0) : Type 0 where
  pub closes : (a : Answer) → A a → P None (stage.Leave (leave.Close (next.Answer a)))
  pub undoes : (h : Handle) (a : Answer) → A a → P (Some h) (stage.Leave (leave.UndoCount h (next.Answer a)))
  pub again : goal ≡ InternWait → (kept : Option Handle) → P kept tries_again

-- and only an intern claims a slot, or comes to put in the one that is kept
pub record HoldsOnWalks (goal : Goal) (A : Answer → Type 0) (P : Option Handle → CallStage → Type 0) : Type 0 where
  pub leaving : HoldsOnLeaving goal A P
  pub miss : A answer.Miss
  pub locked : A answer.Locked
  pub claims : ¬ (goal ≡ Lookup) → (cursor : ℕ) → P None (stage.Insert (insert.Claim cursor 0))
  pub puts : ¬ (goal ≡ Lookup) → (h : Handle) → P (Some h) (stage.Insert (insert.PutLink h))
  pub meets : (kept : Option Handle) (slot : ℕ) → P kept (stage.Node (node.Meta slot))

pub leaves : {goal : Goal} {A : Answer → Type 0} {P : Option Handle → CallStage → Type 0} → HoldsOnLeaving goal A P → (kept : Option Handle) (a : Answer) → A a → P kept (leaves_with kept a)
leaves holds None a so = holds.closes a so
leaves holds (Some h) a so = holds.undoes h a so

pub loses : {A : Answer → Type 0} {P : Option Handle → CallStage → Type 0} (goal : Goal) → HoldsOnLeaving goal A P → (kept : Option Handle) (a : Answer) → A a → P kept (loses_with goal kept a)
loses InternWait holds kept a so = holds.again refl kept
loses _ holds kept a so = leaves holds kept a so

enters : {goal : Goal} {A : Answer → Type 0} {P : Option Handle → CallStage → Type 0} → HoldsOnWalks goal A P → ¬ (goal ≡ Lookup) → (kept : Option Handle) (cursor : ℕ) → P kept (stage.Insert (inserts kept cursor))
enters holds intern None cursor = holds.claims intern cursor
enters holds intern (Some h) cursor = holds.puts intern h

ends : {A : Answer → Type 0} {P : Option Handle → CallStage → Type 0} (goal : Goal) → HoldsOnWalks goal A P → (kept : Option Handle) (cursor head : ℕ) → P kept (end_of kept cursor head goal)
ends Lookup holds kept cursor head = leaves holds.leaving kept answer.Miss holds.miss
ends {P = P} Intern holds kept cursor head = either_way (P kept) (is_locked head) _ _ (leaves holds.leaving kept answer.Locked holds.locked) (enters holds (λ e. absurd (cc)) kept cursor)
ends {P = P} InternWait holds kept cursor head = either_way (P kept) (is_locked head) _ _ (holds.leaving.again refl kept) (enters holds (λ e. absurd (cc)) kept cursor)

pub comes : {A : Answer → Type 0} {P : Option Handle → CallStage → Type 0} (q : Asked) → HoldsOnWalks q.goal A P → (w : Along) (head : ℕ) (node : Option ℕ) → P w.kept (comes_to q w head node)
comes q holds w head None = ends q.goal holds w.kept w.cursor head
comes q holds w head (Some n) = holds.meets w.kept n

pub arrives : {A : Answer → Type 0} {P : Option Handle → CallStage → Type 0} (q : Asked) → HoldsOnWalks q.goal A P → ((kept : Option Handle) → P kept (stage.Find find.LoadNewLevel)) → (w : Along) (word : ℕ)
    → P w.kept (finds q w word (cond (is_redirected word) (Some find.LoadNewLevel) None))
arrives {P = P} q holds turned w word = either_way (λ s. P w.kept (finds q w word s)) (is_redirected word) (Some find.LoadNewLevel) None (turned w.kept) (comes q holds w word (first_of word))

-- an event and what comes next have one test
pub both_ways : {A B : Type 0} (P : A → B → Type 0) (b : Bool) (x y : A) (u v : B) → P x u → P y v → P (cond b x y) (cond b u v)
both_ways P true x y u v p r = p
both_ways P false x y u v p r = r

-- the count of a match was found
pub counts : (P : Option What → CallStage → Type 0) (q : Asked) (w : Along) (kind : Kind) (x word : ℕ) → q.kind ≡ kind → P None (stage.Node (node.Link x))
    → (q.kind ≡ Counted → P None (stage.Node (node.Take x word)))
    → (q.kind ≡ Weak → P (Some (what.Found q.text (handle_at x word))) (leaves_with w.kept (met Weak q.goal (handle_at x word))))
    → P (found_entry q.text kind x word) (cond (holds_of word == 0) (stage.Node (node.Link x)) (matches q w kind x word))
counts P q w Counted x word is goes takes finds = either_way (P None) (holds_of word == 0) _ _ goes (takes is)
counts P q w Weak x word is goes takes finds = both_ways P (holds_of word == 0) _ _ _ _ goes (finds is)

-- another head was found: the intern that waits keeps its slot, and any other gives it back
pub gives_up : (P : Along × CallStage → Type 0) (w : Along) (goal : Goal) (h : Handle) (a : Answer) → P (record w { kept = Some h }, tries_again) → P (w, stage.Leave (leave.UndoCount h (next.Answer a)))
    → P (not_created w goal h a)
gives_up P w InternWait h a waits undoes = waits
gives_up P w Lookup h a waits undoes = undoes
gives_up P w Intern h a waits undoes = undoes

-- the count of a handle was found
pub changes : (P : Option What → CallStage → Type 0) (way : Change) (h : Handle) (word : ℕ) → P (Some (what.Drop h)) (stage.Answered answer.Permanent) → P None (stage.Answered answer.Stale)
    → ((way : Change) → P None (stage.Handle (handle.Exchange way word))) → P (found_handle way h word) (count_found way h word)
changes P Drop h word stays stale goes = both_ways P (holds_of word == 65535) _ _ _ _ stays (goes Drop)
changes P Permanent h word stays stale goes = goes Permanent
changes P Kill h word stays stale goes = either_way (P None) (is_live h word) _ _ (goes Kill) stale

-- the words of a text are read from one on
pub reads : (P : Kind → CallStage → Type 0) (kind : Kind) (k len : ℕ) → ((kind : Kind) → nat_lt k (words_of len) ≡ true → P kind (stage.Read (read.Text k len))) → P Counted (stage.Answered (answer.Text len)) → P Weak (leaves_with None (answer.Text len))
    → P kind (reads_from kind k len)
reads P kind k len more counted weak = where_it_is (P kind) (nat_lt k (words_of len)) _ _ (more kind) (λ e. all kind)
  where
    all : (kind : Kind) → P kind (read_all kind (answer.Text len))
    all Counted = counted
    all Weak = weak
