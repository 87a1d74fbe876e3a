-- A grow has begun at most one grace more than there are entries in the log, and before its last grace at most as many.
use Rattle.std.proofs.Common.{◌≡◌, ◌≢◌, ℕ, ◌+◌, ◌≤◌, List, Option, Some, ◌⊎◌, inl, inr, refl, subst, arith}
use Rattle.intern_log.specs.declared.event.Event.{Event}
use Rattle.atomic_step.specs.declared.answer.Answer.TheVariants as answer
use Rattle.atomic_step.specs.declared.answer.Worked.{Worked}
use Rattle.call_machine.specs.declared.grace.GraceStage.TheVariants.{RaiseCounter, LoadSection}
use Rattle.call_machine.specs.declared.machine.Machine.TheVariants as machine
use Rattle.call_machine.specs.declared.poll.Polling.{Polling}
use Rattle.call_machine.specs.declared.resize.AfterGrace.TheVariants as after
use Rattle.call_machine.specs.declared.resize.Direction.{Direction}
use Rattle.call_machine.specs.declared.resize.Direction.TheVariants.{Grow}
use Rattle.call_machine.specs.declared.resize.Resize.{Resize}
use Rattle.call_machine.specs.declared.resize.ResizeAlong.{ResizeAlong}
use Rattle.call_machine.specs.declared.resize.ResizeStage.{ResizeStage}
use Rattle.call_machine.specs.declared.resize.ResizeStage.TheVariants.{PutNewLevel, Lock, PutHead, RedirectHead, Unzip, Join, UnlockHead, Grace, StoreLevel, ClearNewLevel, GiveResizeLock}
use Rattle.call_machine.specs.declared.resize.Side.TheVariants.{Even, Odd}
use Rattle.call_machine.specs.declared.resize.UnzipStage.TheVariants as unzip
use Rattle.call_machine.specs.declared.work.Work.{Work}
use Rattle.call_machine.specs.declared.work.Work.TheVariants as work
use Rattle.cht_core.specs.declared.seat.Seat.TheVariants as doing
use Rattle.cht_core.specs.declared.table.Table.{Table}
use Rattle.cht_core.specs.Bounds.{work_of}
use Rattle.cht_core.specs.Flow.{Flow}
use Rattle.cht_core.specs.Graces.{creates_in, entered_below, AreFew, HasFewGraces, ResizesWithFew, WorksWithFew, WorkedWithFew, IsAnswerWithFew, AnswersWithFew}
use Rattle.cht_core.specs.Invariant.{Inv}
use Rattle.cht_core.specs.KnowsResize.{KnowsGrow, KnowsResize}
use Rattle.cht_core.specs.Memory.{Memory}
use Rattle.cht_core.specs.Past.{Past, past_of}
use Rattle.cht_core.specs.Stage.{Splitting}
use Rattle.cht_core.specs.TableState.{IsTable}
use Rattle.cht_core.specs.View.{View}
use Rattle.cht_core.proofs.EnteredCounts.{below_and_in, below_at_most}
use Rattle.cht_core.proofs.FewGraces.{moved_entered}
use Rattle.cht_core.proofs.FewSeats.{known_work, of_some}

-- the stage is that of the last grace of a grow, or comes after it
abbrev IsLate : ResizeStage → Type 0
IsLate s = (s ≡ Grace after.ClearNewLevel LoadSection) ⊎ ((s ≡ ClearNewLevel) ⊎ (s ≡ GiveResizeLock))

module _ (t : Table) (m : Memory) (log : List Event) (f : Flow) (i : ℕ) (table : IsTable t m (past_of t.shape.min_level log) f) where
  abbrev p : Past
  p = past_of t.shape.min_level log

  in_done : (w : ResizeAlong) (bucket : ℕ) → w.graces ≤ entered_below p.now.seed w.level bucket log → w.graces ≤ creates_in log
  in_done w bucket few = let most = below_at_most p.now.seed w.level bucket log in omega (arith, few, most)

  in_bucket : (w : ResizeAlong) (g : ℕ) → f.stage ≡ Splitting w.bucket → p.now.level ≡ w.level → AreFew f g (entered_below p.now.seed w.level w.bucket log) → g ≤ creates_in log
  in_bucket w g stage level few =
      let moved = moved_entered t m log f w.level w.bucket table stage level few.0 few.1 few.2 in
      let both = below_and_in p.now.seed w.level w.bucket log in
      let most = below_at_most p.now.seed w.level (w.bucket + 1) log in
      let graces = few.3 in
      omega (arith, moved, both, most, graces)

  -- before its last grace
  grow_early : (w : ResizeAlong) (s : ResizeStage) → KnowsGrow m p.now f i w s → HasFewGraces p.now log f w s → (IsLate s → ⊥) → w.graces ≤ creates_in log
  grow_early w PutNewLevel knows few early = in_done w w.bucket few
  grow_early w (Lock side s) knows few early = in_done w w.bucket few
  grow_early w (PutHead side) knows few early = in_done w w.bucket few
  grow_early w (RedirectHead side) knows few early = in_done w w.bucket few
  grow_early w (Unzip (unzip.LoadMeta x)) knows few early = in_bucket w w.graces knows.resizing.at_stage knows.resizing.at_level few
  grow_early w (Unzip (unzip.LoadLink x side)) knows few early = in_bucket w w.graces knows.0.resizing.at_stage knows.0.resizing.at_level few
  grow_early w (Unzip (unzip.MoveEdge x side next)) knows few early = in_bucket w w.graces knows.0.resizing.at_stage knows.0.resizing.at_level few
  grow_early w (Join s) knows few early = absurd few
  grow_early w (UnlockHead Even) knows few early = in_bucket w w.graces knows.resizing.at_stage knows.resizing.at_level few
  grow_early w (UnlockHead Odd) knows few early = in_done w (w.bucket + 1) few
  grow_early w (Grace after.Unzip RaiseCounter) knows few early =
      let more : w.graces + 1 ≤ creates_in log = in_bucket w (w.graces + 1) knows.1.resizing.at_stage knows.1.resizing.at_level few in
      omega (arith, more)
  grow_early w (Grace after.Unzip LoadSection) knows few early = in_bucket w w.graces knows.2.resizing.at_stage knows.2.resizing.at_level few
  grow_early w (Grace after.UnlockHead s) knows few early = absurd few
  grow_early w (Grace after.ClearNewLevel RaiseCounter) knows few early = few
  grow_early w (Grace after.ClearNewLevel LoadSection) knows few early = absurd (early (inl refl))
  grow_early w StoreLevel knows few early = few
  grow_early w ClearNewLevel knows few early = absurd (early (inr (inl refl)))
  grow_early w GiveResizeLock knows few early = absurd (early (inr (inr refl)))

  -- at any stage
  grow_most : (w : ResizeAlong) (s : ResizeStage) → KnowsGrow m p.now f i w s → HasFewGraces p.now log f w s → w.graces ≤ creates_in log + 1
  grow_most w (Grace after.ClearNewLevel LoadSection) knows few = few
  grow_most w ClearNewLevel knows few = few
  grow_most w GiveResizeLock knows few = few
  grow_most w s knows few =
      let less : w.graces ≤ creates_in log = grow_early w s knows few (λ late. elim late [ inl a ↦ absurd (cc) | inr b ↦ elim b [ inl c ↦ absurd (cc) | inr d ↦ absurd (cc) ] ]) in
      omega (arith, less)

-- A SEAT

module _ (t : Table) (m : Memory) (seat : ℕ → Option View) (log : List Event) (inv : Inv t m seat log) (k : ℕ) (v : View) (is : seat k ≡ Some v) where
  abbrev now : Past
  now = past_of t.shape.min_level log

  module _ (r : Resize) (has : work_of v.seat ≡ Some (work.Resize r)) (grows : r.direction ≡ Grow) where
    knows : KnowsGrow m now.now inv.flow k r.along r.stage
    knows = subst (λ (d : Direction). KnowsResize m now.now inv.flow k d r.along r.stage) grows (known_work t m now inv.flow k v (work.Resize r) (inv.knows k v is) has)

    few : HasFewGraces now.now log inv.flow r.along r.stage
    few = subst (λ (d : Direction). ResizesWithFew now.now log inv.flow d r.along r.stage) grows (of_some (WorksWithFew now.now log inv.flow) (work_of v.seat) (work.Resize r) has (inv.graces k v is).0)

    -- a grow has begun at most one grace more than there are entries
    pub few_graces : r.along.graces ≤ creates_in log + 1
    few_graces = grow_most t m log inv.flow k inv.table r.along r.stage knows few

    -- and before its last grace at most as many
    pub few_at_first : r.stage ≢ Grace after.ClearNewLevel LoadSection → r.stage ≢ ClearNewLevel → r.stage ≢ GiveResizeLock → r.along.graces ≤ creates_in log
    few_at_first first second third = grow_early t m log inv.flow k inv.table r.along r.stage knows few (λ late. elim late [
      | inl a ↦ first a
      | inr b ↦ elim b [ inl c ↦ second c | inr d ↦ third d ]
    ])

  -- a poll that answers that a grow is done says as much
  pub few_when_done : (q : Polling) (r : Resize) (did : Worked) → v.seat ≡ doing.Running (machine.Poll q) → q.work ≡ work.Resize r → r.direction ≡ Grow → q.answer ≡ Some (answer.Done did) → did.graces ≤ creates_in log + 1
  few_when_done q r did running works grows answered =
      let said : AnswersWithFew log (doing.Running (machine.Poll q)) = subst (AnswersWithFew log) running (inv.graces k v is).1 in
      let done : IsAnswerWithFew log q.work (answer.Done did) = of_some (IsAnswerWithFew log q.work) q.answer (answer.Done did) answered said in
      subst (λ (d : Direction). WorkedWithFew log d did) grows (subst (λ (w : Work). IsAnswerWithFew log w (answer.Done did)) works done)
