-- What a work or a sweep has found out by the end of a log, as the invariant of the core says.
use Rattle.std.proofs.Common.{◌≡◌, ℕ, ◌≤◌, true, false, List, [], Option, Some, None, sym, ap, subst, ◌∙◌, refl, ⊎_elim, arith}
use Rattle.std.specs.Option.{option_to_list}
use Rattle.atomic_step.specs.Monitor.{is_held}
use Rattle.std.specs.Prelude.{IfSome}
use Rattle.chain_core.specs.Nodes.{On}
use Rattle.intern_log.specs.declared.event.Event.{Event}
use Rattle.atomic_step.specs.declared.answer.Answer.{Answer}
use Rattle.atomic_step.specs.declared.answer.Answer.TheVariants as answer
use Rattle.call_machine.specs.declared.clean.Clean.{Clean}
use Rattle.call_machine.specs.declared.machine.Machine.{Machine}
use Rattle.call_machine.specs.declared.machine.Machine.TheVariants as machine
use Rattle.call_machine.specs.declared.poll.Polling.{Polling}
use Rattle.call_machine.specs.declared.sweep.Sweeping.{Sweeping}
use Rattle.call_machine.specs.declared.sweep.SweepStage.{SweepStage}
use Rattle.call_machine.specs.declared.sweep.SweepStage.TheVariants as sweep
use Rattle.call_machine.specs.declared.work.Work.{Work}
use Rattle.call_machine.specs.declared.work.Work.TheVariants as work
use Rattle.call_machine.specs.Poll.{work_left}
use Rattle.call_machine.specs.WholeSweep.{locked_at, still_waiting}
use Rattle.cht_core.specs.declared.seat.Seat.{Seat}
use Rattle.cht_core.specs.declared.seat.Seat.TheVariants as doing
use Rattle.cht_core.specs.declared.table.Table.{Table}
use Rattle.cht_core.specs.Graces.{AnswersWithFew, IsAnswerWithFew}
use Rattle.cht_core.specs.Invariant.{Inv}
use Rattle.cht_core.specs.Memory.{Memory}
use Rattle.cht_core.specs.Owes.{locked_by, locked_in_work, waiting_of, waiting_of_work}
use Rattle.cht_core.specs.Passes.{IsAtHash, PassesFind, SweepIsAt}
use Rattle.cht_core.specs.Past.{past_of}
use Rattle.cht_core.specs.PollMeasure.{looked_by, looked_in}
use Rattle.cht_core.specs.View.{View}
use Rattle.cht_core.proofs.LawfulKept.{few_uses}
use Rattle.cht_core.proofs.LooksBounds as resizes
use Rattle.cht_core.proofs.PassBounds as passes
use Rattle.cht_core.proofs.PassRuns.{cleaned_when_done, swept_when_answered}
use Rattle.cht_core.proofs.SeatMoves.{owed_by}
use Rattle.cht_run.specs.Told.{PollFound, SweepFound, WorkFound}
use Rattle.cht_run.specs.Unlinks.{HasFreed, HasNoLock}

few_left : (c : Clean) (a : Option Answer) (n : ℕ) → c.along.cleaning.passed ≤ n → looked_by (work_left (work.Clean c) a) ≤ n
few_left c None n few = few
few_left c (Some (answer.Done worked)) n few = omega arith
few_left c (Some _) n few = few

module _ (t : Table) (m : Memory) (seat : ℕ → Option View) (log : List Event) (inv : Inv t m seat log) (k : ℕ) (v : View) (is_at : seat k ≡ Some v) where
  looked : (q : Polling) → v.seat ≡ doing.Running (machine.Poll q) → (w : Work) → q.work ≡ w → looked_in (machine.Poll q) ≤ t.shape.slots
  looked q is (work.Clean c) same = subst (λ w. looked_by (work_left w q.answer) ≤ t.shape.slots) (sym same) (few_left c q.answer t.shape.slots (passes.few_polled t m seat log inv k v is_at q c is same))
  looked q is (work.Resize r) same = resizes.few_polled t m seat log inv k v is_at q r is same

  -- where nothing waits all is freed
  freed : (s : Seat) → v.seat ≡ s → waiting_of s ≡ [] → HasFreed t log k
  freed s is none short slot at unlinked = ⊎_elim
      (λ waits. subst (On slot) (ap waiting_of is ∙ none) waits)
      (λ many. few_uses t.shape.min_level log slot short many)
      ((owed_by t m seat log k v inv is_at).unlinked slot at unlinked)

  -- where no bucket is locked the log says so
  no_lock : (s : Seat) → v.seat ≡ s → locked_by s ≡ [] → HasNoLock t log k
  no_lock s is none row bucket locked =
      let held : true ≡ false = sym ((owed_by t m seat log k v inv is_at).locked row bucket locked) ∙ ap (λ x. is_held row bucket (locked_by x)) is ∙ ap (is_held row bucket) none in
      cc

  -- a grow that is done has had few graces
  few_told : (q : Polling) → v.seat ≡ doing.Running (machine.Poll q) → IfSome q.answer (IsAnswerWithFew log q.work)
  few_told q is = subst (AnswersWithFew log) is (inv.graces k v is_at).1

  polled : (q : Polling) → v.seat ≡ doing.Running (machine.Poll q) → (w : Work) (a : Option Answer) → q.work ≡ w → q.answer ≡ a → PollFound t log k w a
  polled q is (work.Clean c) (Some (answer.Done did)) same answered =
      (no_lock (doing.Running (machine.Poll q)) is (ap (λ a. locked_in_work (work_left q.work a)) answered), cleaned_when_done t m seat log inv k v is_at q c did is same answered, freed (doing.Running (machine.Poll q)) is (ap (λ a. waiting_of_work (work_left q.work a)) answered))
  polled q is (work.Clean c) None same answered = tt
  polled q is (work.Clean c) (Some _) same answered = tt
  polled q is (work.Resize r) (Some (answer.Done did)) same answered =
      (no_lock (doing.Running (machine.Poll q)) is (ap (λ a. locked_in_work (work_left q.work a)) answered), subst (λ w. IsAnswerWithFew log w (answer.Done did)) same (subst (λ a. IfSome a (IsAnswerWithFew log q.work)) answered (few_told q is)))
  polled q is (work.Resize r) None same answered = tt
  polled q is (work.Resize r) (Some _) same answered = tt

  swept : (s : Sweeping) → v.seat ≡ doing.Running (machine.Sweep s) → (x : SweepStage) → s.stage ≡ x → SweepFound t log k s.asked.hash s.along.cleaning x
  swept s is (sweep.Answered (answer.Swept many)) same =
      (λ less. swept_when_answered t m seat log inv k v is_at s many is same less, freed (doing.Running (machine.Sweep s)) is (ap (still_waiting s.along.cleaning) same), at_hash, no_lock (doing.Running (machine.Sweep s)) is (ap (λ y. option_to_list (locked_at s.along.cleaning y)) same))
    where
      at_hash : IsAtHash s.asked.hash s.along.cleaning
      at_hash = subst (SweepIsAt s.asked.hash s.along.cleaning) same (subst (PassesFind t (past_of t.shape.min_level log).now log inv.flow k) is (inv.passes k v is_at)).1.2
  swept s is _ same = tt

  pub work_found : (n : Machine) → v.seat ≡ doing.Running n → WorkFound t log k n
  work_found (machine.Call c w g) is = tt
  work_found (machine.Begin b) is = tt
  work_found (machine.Poll q) is = (looked q is q.work refl, polled q is q.work q.answer refl refl)
  work_found (machine.Sweep s) is = swept s is s.stage refl
