-- Where nobody else is there, a walk that has come to the end of its chain has passed as many nodes as that had when its call began.
use Rattle.std.proofs.Common.{◌≡◌, ℕ, ◌+◌, ◌==◌, cond, nat_le, nat_lt, List, [], ◌++◌, map, Option, Some, None, refl, sym, subst, ◌∙◌}
use Rattle.text_words.specs.Words.{words_of}
use Rattle.marked_word.specs.Head.{is_locked, is_redirected, first_of}
use Rattle.marked_word.specs.Link.{node_of}
use Rattle.marked_word.specs.Meta.{length_in}
use Rattle.intern_log.specs.declared.event.Event.{Event}
use Rattle.intern_log.specs.declared.event.Handle.{Handle}
use Rattle.intern_log.specs.declared.event.Kind.{Kind}
use Rattle.intern_log.specs.declared.event.Kind.TheVariants.{Counted, Weak}
use Rattle.intern_log.specs.Now.{Now}
use Rattle.atomic_step.specs.Count.{holds_of, handle_at, is_live}
use Rattle.atomic_step.specs.declared.answer.Answer.{Answer}
use Rattle.atomic_step.specs.declared.answer.Answer.TheVariants as answer
use Rattle.atomic_step.specs.declared.count.Change.{Change}
use Rattle.atomic_step.specs.declared.count.Change.TheVariants as change
use Rattle.atomic_step.specs.declared.plan.Plan.TheVariants as plan
use Rattle.atomic_step.specs.declared.step.Step.{Step}
use Rattle.atomic_step.proofs.Choices.{where_it_is, either_way}
use Rattle.call_machine.specs.declared.call.Call.{Call}
use Rattle.call_machine.specs.declared.call.Call.TheVariants as call
use Rattle.call_machine.specs.declared.caller.Caller.{Caller}
use Rattle.call_machine.specs.declared.draw.DrawStage.TheVariants as draw
use Rattle.call_machine.specs.declared.enter.EnterStage.TheVariants as enter
use Rattle.call_machine.specs.declared.find.FindStage.{FindStage}
use Rattle.call_machine.specs.declared.find.FindStage.TheVariants as find
use Rattle.call_machine.specs.declared.grace.Grace.{Grace}
use Rattle.call_machine.specs.declared.handle.HandleStage.TheVariants as handle
use Rattle.call_machine.specs.declared.insert.InsertStage.TheVariants as insert
use Rattle.call_machine.specs.declared.leave.LeaveStage.TheVariants as leave
use Rattle.call_machine.specs.declared.leave.Then.{Then}
use Rattle.call_machine.specs.declared.leave.Then.TheVariants as next
use Rattle.call_machine.specs.declared.machine.Machine.{Machine}
use Rattle.call_machine.specs.declared.machine.Machine.TheVariants as machine
use Rattle.call_machine.specs.declared.machine.Own.{Own}
use Rattle.call_machine.specs.declared.node.NodeStage.TheVariants as node
use Rattle.call_machine.specs.declared.read.ReadStage.TheVariants as read
use Rattle.call_machine.specs.declared.stage.Along.{Along}
use Rattle.call_machine.specs.declared.stage.Asked.{Asked}
use Rattle.call_machine.specs.declared.stage.Calling.{Calling}
use Rattle.call_machine.specs.declared.stage.CallStage.{CallStage}
use Rattle.call_machine.specs.declared.stage.CallStage.TheVariants as stage
use Rattle.call_machine.specs.declared.stage.Goal.{Goal}
use Rattle.call_machine.specs.declared.stage.Goal.TheVariants as goal
use Rattle.call_machine.specs.declared.work.Work.{Work}
use Rattle.call_machine.specs.BeginCall.{begins, no_handle, too_long, begun_split, begun_change, begun_read}
use Rattle.call_machine.specs.CallEvents.{made_at, made_of}
use Rattle.call_machine.specs.Calls.{found as finds_at, next_at}
use Rattle.call_machine.specs.Handle.{count_found, made_answer, lost_answer}
use Rattle.call_machine.specs.Insert.{next_slot, inserts, not_claimed, not_created, lost_head}
use Rattle.call_machine.specs.Leave.{left_for, tries_again, leaves_with, loses_with}
use Rattle.call_machine.specs.Machine.{starts, begun_grace_poll, begun_work_poll, plan_of, got_of}
use Rattle.call_machine.specs.Node.{end_of, comes_to, matches, met, passes}
use Rattle.call_machine.specs.Read.{read_all, reads_from}
use Rattle.call_machine.specs.Sought.{is_too_long}
use Rattle.call_machine.proofs.Machines.{got_is}
use Rattle.cht_core.specs.declared.table.Table.{Table}
use Rattle.cht_core.specs.Caused.{Caused}
use Rattle.cht_core.specs.CauseCalls.{Way}
use Rattle.cht_core.specs.Past.{by}
use Rattle.cht_core.specs.Windows.{IsTold, whats_by}
use Rattle.cht_run.specs.ChainLengths.{linked_beside, chain_length}
use Rattle.cht_run.specs.Covers.{StageEnds, MachineEnds, AnswerPassed, StagePassed, MachinePassed}
use Rattle.cht_run.proofs.ChainLengths.{chain_stays}

module _ (long : ℕ) where
  -- WHERE A WALK GOES

  leaves_passed : (w : Along) (kept : Option Handle) (a : Answer) → AnswerPassed long w.walk.passed a → StagePassed long w (leaves_with kept a)
  leaves_passed w None a h = h
  leaves_passed w (Some k) a h = h

  loses_passed : (w : Along) (g : Goal) (kept : Option Handle) → StagePassed long w (loses_with g kept answer.Again)
  loses_passed w goal.Lookup kept = leaves_passed w kept answer.Again tt
  loses_passed w goal.Intern kept = leaves_passed w kept answer.Again tt
  loses_passed w goal.InternWait kept = tt

  end_passed : (w : Along) (kept : Option Handle) (cursor head : ℕ) (g : Goal) → w.walk.passed ≡ long → StagePassed long w (end_of kept cursor head g)
  end_passed w kept cursor head goal.Lookup h = leaves_passed w kept answer.Miss h
  end_passed w kept cursor head goal.Intern h =
      either_way (StagePassed long w) (is_locked head) (leaves_with kept answer.Locked) (stage.Insert (inserts kept cursor)) (leaves_passed w kept answer.Locked tt) h
  end_passed w kept cursor head goal.InternWait h = either_way (StagePassed long w) (is_locked head) tries_again (stage.Insert (inserts kept cursor)) tt h

  comes_passed : (q : Asked) (w a : Along) (head : ℕ) (o : Option ℕ) → (o ≡ None → w.walk.passed ≡ long) → StagePassed long w (comes_to q a head o)
  comes_passed q w a head None h = end_passed w a.kept a.cursor head q.goal (h refl)
  comes_passed q w a head (Some x) h = tt

  met_passed : (passed : ℕ) (kind : Kind) (g : Goal) (h : Handle) → AnswerPassed long passed (met kind g h)
  met_passed passed kind goal.Lookup h = tt
  met_passed passed Counted goal.Intern h = tt
  met_passed passed Weak goal.Intern h = tt
  met_passed passed Counted goal.InternWait h = tt
  met_passed passed Weak goal.InternWait h = tt

  matches_passed : (q : Asked) (w : Along) (kind : Kind) (x word : ℕ) → StagePassed long w (matches q w kind x word)
  matches_passed q w Counted x word = tt
  matches_passed q w Weak x word = leaves_passed w w.kept _ (met_passed w.walk.passed Weak q.goal (handle_at x word))

  lost_passed : (passed word : ℕ) → AnswerPassed long passed (lost_head word)
  lost_passed passed word = either_way (AnswerPassed long passed) _ answer.Locked answer.Again tt tt

  not_created_passed : (w : Along) (g : Goal) (h : Handle) (word : ℕ) → (let at = not_created w g h (lost_head word) in StagePassed long at.0 at.1)
  not_created_passed w goal.Lookup h word = lost_passed w.walk.passed word
  not_created_passed w goal.Intern h word = lost_passed w.walk.passed word
  not_created_passed w goal.InternWait h word = tt

  not_claimed_passed : (q : Asked) (w : Along) (slot tried : ℕ) → w.walk.passed ≡ long → StagePassed long w (not_claimed q w slot tried)
  not_claimed_passed q w slot tried h =
      either_way (StagePassed long w) (tried + 1 == q.shape.slots) (leaves_with w.kept answer.NoSlot) (stage.Insert (insert.Claim (next_slot q.shape.slots slot) (tried + 1))) (leaves_passed w w.kept answer.NoSlot h) h

  left_passed : (w : Along) (after : Then) → StagePassed long w (stage.Leave (leave.Close after)) → (let at = left_for w after in StagePassed long at.0 at.1)
  left_passed w (next.Answer a) h = h
  left_passed w next.TryAgain h = tt

  -- ANY OTHER CALL

  count_passed : (w : Along) (c : Change) (h : Handle) (word : ℕ) → StagePassed long w (count_found c h word)
  count_passed w change.Drop h word = either_way (StagePassed long w) (holds_of word == 65535) (stage.Answered answer.Permanent) (stage.Handle (handle.Exchange change.Drop word)) tt tt
  count_passed w change.Permanent h word = tt
  count_passed w change.Kill h word = either_way (StagePassed long w) (is_live h word) (stage.Handle (handle.Exchange change.Kill word)) (stage.Answered answer.Stale) tt tt

  changed_passed : (passed : ℕ) (c : Change) (count word : ℕ) → AnswerPassed long passed (cond (word == count) (made_answer c count) (lost_answer c))
  changed_passed passed change.Drop count word = either_way (AnswerPassed long passed) (word == count) (made_answer change.Drop count) (lost_answer change.Drop) tt tt
  changed_passed passed change.Permanent count word = either_way (AnswerPassed long passed) (word == count) (made_answer change.Permanent count) (lost_answer change.Permanent) tt tt
  changed_passed passed change.Kill count word = either_way (AnswerPassed long passed) (word == count) (made_answer change.Kill count) (lost_answer change.Kill) tt tt

  all_passed : (w : Along) (kind : Kind) (len : ℕ) → StagePassed long w (read_all kind (answer.Text len))
  all_passed w Counted len = tt
  all_passed w Weak len = tt

  reads_passed : (w : Along) (kind : Kind) (at len : ℕ) → StagePassed long w (reads_from kind at len)
  reads_passed w kind at len = either_way (StagePassed long w) (nat_lt at (words_of len)) (stage.Read (read.Text at len)) (read_all kind (answer.Text len)) tt (all_passed w kind len)

  -- THE NEXT STAGE

  stage_passed : (slots : ℕ) (n : Now) (q : Asked) (w : Along) (s : CallStage) (word : ℕ) → (made_at q s ≡ [] → linked_beside slots n q.text ≡ long) → StageEnds slots n q w s word → StagePassed long w s →
      (let at = next_at q w s word in StagePassed long at.0 at.1)
  stage_passed slots n q w (stage.Answered a) word same ends h = h
  stage_passed slots n q w (stage.Draw draw.Load) word same ends h = either_way (StagePassed long w) (nat_le q.shape.seats word) (stage.Answered answer.SeatsSpent) (stage.Draw draw.Add) tt tt
  stage_passed slots n q w (stage.Draw draw.Add) word same ends h = either_way (AnswerPassed long w.walk.passed) (nat_le q.shape.seats word) answer.SeatsSpent (answer.Split word) tt tt
  stage_passed slots n q w (stage.Find (find.Enter s)) word same ends h = tt
  stage_passed slots n q w (stage.Find find.LoadLevel) word same ends h = tt
  stage_passed slots n q w (stage.Find find.LoadHead) word same ends h =
      where_it_is (λ (o : Option FindStage). let at = finds_at q w (record w.walk { head = word }, o) in StagePassed long at.0 at.1) (is_redirected word) (Some find.LoadNewLevel) None (λ redirected. tt)
      (λ plain. let a = record w { walk = record w.walk { head = word } } in comes_passed q a a word (first_of word) (λ none. ends plain none ∙ same refl))
  stage_passed slots n q w (stage.Find find.LoadNewLevel) word same ends h = tt
  stage_passed slots n q w (stage.Find find.LoadNewHead) word same ends h =
      let a = record w { walk = record w.walk { head = word } } in comes_passed q a a word (first_of word) (λ none. ends none ∙ same refl)
  stage_passed slots n q w (stage.Node (node.Meta x)) word same ends h = tt
  stage_passed slots n q w (stage.Node (node.Text x at)) word same ends h = tt
  stage_passed slots n q w (stage.Node (node.Count x)) word same ends h = either_way (StagePassed long w) (holds_of word == 0) (stage.Node (node.Link x)) (matches q w q.kind x word) tt (matches_passed q w q.kind x word)
  stage_passed slots n q w (stage.Node (node.Link x)) word same ends h =
      let a = record w { walk = passes w.walk } in comes_passed q a a w.walk.head (node_of word) (λ none. ends none ∙ same refl)
  stage_passed slots n q w (stage.Node (node.Take x count)) word same ends h =
      either_way (StagePassed long w) (word == count) (leaves_with w.kept (met Counted q.goal (handle_at x count))) (loses_with q.goal w.kept answer.Again)
      (leaves_passed w w.kept _ (met_passed w.walk.passed Counted q.goal (handle_at x count))) (loses_passed w q.goal w.kept)
  stage_passed slots n q w (stage.Insert (insert.Claim slot tried)) word same ends h =
      either_way (λ (at : Along × CallStage). StagePassed long at.0 at.1) (word == 0) (record w { cursor = next_slot q.shape.slots slot }, stage.Insert (insert.OwnCount slot)) (w, not_claimed q w slot tried) h
      (not_claimed_passed q w slot tried h)
  stage_passed slots n q w (stage.Insert (insert.OwnCount slot)) word same ends h = h
  stage_passed slots n q w (stage.Insert (insert.PutMeta k)) word same ends h = h
  stage_passed slots n q w (stage.Insert (insert.PutText k at)) word same ends h = h
  stage_passed slots n q w (stage.Insert (insert.PutLink k)) word same ends h = h
  stage_passed slots n q w (stage.Insert (insert.PutCount k)) word same ends h = h
  stage_passed slots n q w (stage.Insert (insert.Create k)) word same ends h =
      either_way (λ (at : Along × CallStage). StagePassed long at.0 at.1) (word == w.walk.head) (record w { kept = None }, leaves_with None (answer.Created k)) (not_created w q.goal k (lost_head word)) h
      (not_created_passed w q.goal k word)
  stage_passed slots n q w (stage.Leave (leave.UndoCount k after)) word same ends h = h
  stage_passed slots n q w (stage.Leave (leave.UndoClaim slot after)) word same ends h = h
  stage_passed slots n q w (stage.Leave (leave.Close after)) word same ends h = left_passed w after h
  stage_passed slots n q w (stage.Handle (handle.Count c)) word same ends h = count_passed w c q.handle word
  stage_passed slots n q w (stage.Handle (handle.Exchange c count)) word same ends h = changed_passed w.walk.passed c count word
  stage_passed slots n q w (stage.Read (read.Enter s)) word same ends h = tt
  stage_passed slots n q w (stage.Read read.Count) word same ends h = either_way (StagePassed long w) (is_live q.handle word) (stage.Read read.Meta) (leaves_with None answer.Stale) tt tt
  stage_passed slots n q w (stage.Read read.Meta) word same ends h = reads_passed w q.kind 0 (length_in word)
  stage_passed slots n q w (stage.Read (read.Text at len)) word same ends h = reads_passed w q.kind (at + 1) len

-- A MACHINE

-- up to an entry that is made, the events of the call leave the chain as long as it was
pub stays_long : (t : Table) (i : ℕ) (way : Way) (seen window : List Event) (load : ℕ) (m : Machine) → Caused t i way seen window load m → IsTold t (seen ++ window) → window ≡ map (by i) (whats_by i window) →
    (c : Calling) (g : Option Grace) → m ≡ machine.Call c None g → made_of c ≡ [] → chain_length t (seen ++ window) c.asked.text ≡ chain_length t seen c.asked.text
stays_long t i way seen window load m caused told own c g is made =
    let owns = (subst (Caused t i way seen window load) is caused).0 in
    chain_stays t i c.asked.text seen window told own owns.calls (owns.shown ∙ made)

pub machine_passed : (t : Table) (seen : List Event) (n : Now) (m : Machine) (word : ℕ) →
    ((c : Calling) (g : Option Grace) → m ≡ machine.Call c None g → made_of c ≡ [] → linked_beside t.shape.slots n c.asked.text ≡ chain_length t seen c.asked.text) →
    MachineEnds t.shape.slots n m word → MachinePassed t seen m → MachinePassed t seen (got_of m word)
machine_passed t seen n (machine.Call c None g) word same ends h =
    subst (MachinePassed t seen) (sym (got_is (machine.Call c None g) word)) (stage_passed (chain_length t seen c.asked.text) t.shape.slots n c.asked c.along c.stage word (λ made. same c g refl made) ends h)
machine_passed t seen n (machine.Call c (Some k) g) word same ends h = subst (MachinePassed t seen) (sym (got_is (machine.Call c (Some k) g) word)) tt
machine_passed t seen n (machine.Begin b) word same ends h = subst (MachinePassed t seen) (sym (got_is (machine.Begin b) word)) tt
machine_passed t seen n (machine.Poll b) word same ends h = subst (MachinePassed t seen) (sym (got_is (machine.Poll b) word)) tt
machine_passed t seen n (machine.Sweep b) word same ends h = subst (MachinePassed t seen) (sym (got_is (machine.Sweep b) word)) tt

-- THE BEGINNING

module _ (t : Table) (seen : List Event) (s : Step) where
  beside_passed : (c : Calling) (k : Option Work) (g : Option Grace) → StagePassed (chain_length t seen c.asked.text) c.along c.stage → MachinePassed t seen (machine.Call c k g)
  beside_passed c None g h = h
  beside_passed c (Some k) g h = tt

  -- a text that is too long makes no step
  walk_passed : (caller : Caller) (g : Goal) (text : List ℕ) (k : Option Work) (grace : Option Grace) → (c : Calling) →
      c ≡ cond (is_too_long caller.shape text) (begins caller g [] no_handle (stage.Answered (too_long g))) (begins caller g text no_handle (stage.Find (find.Enter enter.LoadCounter))) →
      plan_of (machine.Call c k grace) ≡ plan.Step s → MachinePassed t seen (machine.Call c k grace)
  walk_passed caller g text k grace c is planned =
      subst (λ (x : Calling). plan_of (machine.Call x k grace) ≡ plan.Step s → MachinePassed t seen (machine.Call x k grace)) (sym is)
      (where_it_is (λ (x : Calling). plan_of (machine.Call x k grace) ≡ plan.Step s → MachinePassed t seen (machine.Call x k grace)) (is_too_long caller.shape text)
      (begins caller g [] no_handle (stage.Answered (too_long g))) (begins caller g text no_handle (stage.Find (find.Enter enter.LoadCounter)))
      (λ long planned. let never : plan.Answered (too_long g) ≡ plan.Step s = planned in absurd (cc))
      (λ fits planned. beside_passed (begins caller g text no_handle (stage.Find (find.Enter enter.LoadCounter))) k grace tt)) planned

  grace_passed : (caller : Caller) (g : Option Grace) → MachinePassed t seen (begun_grace_poll caller g)
  grace_passed caller None = tt
  grace_passed caller (Some g) = tt

  work_passed : (caller : Caller) (k : Option Work) → MachinePassed t seen (begun_work_poll caller k)
  work_passed caller None = tt
  work_passed caller (Some k) = tt

  -- each call at its first stage
  pub starts_passed : (caller : Caller) (own : Own) (c : Call) → plan_of (starts caller own c) ≡ plan.Step s → MachinePassed t seen (starts caller own c)
  starts_passed caller own (call.Intern text) planned = walk_passed caller goal.Intern text.now own.work own.grace _ refl planned
  starts_passed caller own (call.Lookup text) planned = walk_passed caller goal.Lookup text.now own.work own.grace _ refl planned
  starts_passed caller own (call.InternWait text) planned = walk_passed caller goal.InternWait text.now own.work own.grace _ refl planned
  starts_passed caller own call.PollGrace planned = grace_passed caller own.grace
  starts_passed caller own call.PollWork planned = work_passed caller own.work
  starts_passed caller own call.Split planned = beside_passed (begun_split caller) own.work own.grace tt
  starts_passed caller own (call.TextOf h) planned = beside_passed (begun_read caller h) own.work own.grace tt
  starts_passed caller own (call.Drop h) planned = beside_passed (begun_change caller change.Drop h) own.work own.grace tt
  starts_passed caller own (call.Permanent h) planned = beside_passed (begun_change caller change.Permanent h) own.work own.grace tt
  starts_passed caller own (call.Kill h) planned = beside_passed (begun_change caller change.Kill h) own.work own.grace tt
  starts_passed caller own call.BeginClean planned = tt
  starts_passed caller own call.BeginGrow planned = tt
  starts_passed caller own call.BeginShrink planned = tt
  starts_passed caller own call.BeginGrace planned = tt
  starts_passed caller own (call.Sweep text) planned = tt
