-- How often a grow or a shrink may raise the counter after each of its steps.
use Rattle.std.proofs.Common.{◌≡◌, ◌≢◌, ℕ, ◌+◌, ◌^◌, ◌<◌, ◌⊎◌, Option, Some, None, inl, inr, refl, sym, ap, subst, ◌∙◌}
use Rattle.std.specs.Prelude.{◌==◌, nat_lt}
use Rattle.section_core.specs.Words.{waits_for}
use Rattle.table_shape.specs.declared.place.Place.TheVariants as place
use Rattle.table_shape.specs.declared.shape.Shape.{Shape}
use Rattle.atomic_step.specs.declared.answer.Answer.TheVariants as answer
use Rattle.atomic_step.specs.declared.step.Step.TheVariants as step
use Rattle.atomic_step.proofs.Choices.{either_way}
use Rattle.call_machine.specs.declared.caller.Caller.{Caller}
use Rattle.call_machine.specs.declared.grace.Grace.{Grace}
use Rattle.call_machine.specs.declared.grace.GraceStage.TheVariants as grace
use Rattle.call_machine.specs.declared.grace.Gracing.{Gracing}
use Rattle.call_machine.specs.declared.grace.Gracing.TheVariants as gracing
use Rattle.call_machine.specs.declared.lock.Locking.{Locking}
use Rattle.call_machine.specs.declared.lock.Locking.TheVariants as locking
use Rattle.call_machine.specs.declared.resize.AfterGrace.{AfterGrace}
use Rattle.call_machine.specs.declared.resize.AfterGrace.TheVariants as after
use Rattle.call_machine.specs.declared.resize.Direction.{Direction}
use Rattle.call_machine.specs.declared.resize.Direction.TheVariants.{Grow, Shrink}
use Rattle.call_machine.specs.declared.resize.JoinStage.TheVariants as join
use Rattle.call_machine.specs.declared.resize.Resize.{Resize}
use Rattle.call_machine.specs.declared.resize.ResizeAlong.{ResizeAlong}
use Rattle.call_machine.specs.declared.resize.ResizeStage.{ResizeStage}
use Rattle.call_machine.specs.declared.resize.ResizeStage.TheVariants as stage
use Rattle.call_machine.specs.declared.resize.Side.{Side}
use Rattle.call_machine.specs.declared.resize.Side.TheVariants.{Even, Odd}
use Rattle.call_machine.specs.declared.resize.UnzipStage.TheVariants as unzip
use Rattle.call_machine.specs.declared.work.Work.TheVariants as work
use Rattle.call_machine.specs.Grace.{scanned, counts_grace}
use Rattle.call_machine.specs.Lock.{lock_row}
use Rattle.call_machine.specs.Resize.{Went, goes, half, bucket_at, locks_on, joins_from, unzips_on, joins_at, graces_on, resize_row, resumed, worked, looks_at}
use Rattle.call_machine.specs.Work.{of_resize}
use Rattle.cht_core.specs.Memory.{Memory, IsMade, found}
use Rattle.cht_core.proofs.BoundSteps.{IsPlain, counter_stays, counter_raised, lock_plain}
use Rattle.cht_core.proofs.GraceStages.{CanRaise}
use Rattle.cht_core.proofs.PollBounds.{polls_at, work_stays_low, work_raises_it, not_held_back}
use Rattle.cht_core.proofs.WorkBounds.{RaisesBy}

-- a resize after a step that raises nothing: its last grace is the same, and no grace that is held back comes next
abbrev pub StaysLow : ResizeAlong → Went → Type 0
StaysLow w came = (came.0.grace.raised ≡ w.grace.raised) × (came.2 ≡ None → resumed came.0 came.1 ≡ None)

locked_low : (d : Direction) (w : ResizeAlong) (side : Side) (came : Locking) → StaysLow w (locks_on d w side came)
locked_low d w side (locking.Goes s) = (refl, λ is. refl)
locked_low d w side locking.Waits = (refl, λ is. refl)
locked_low Grow w side (locking.Locked first) = (refl, λ is. refl)
locked_low Shrink w Even (locking.Locked first) = (refl, λ is. refl)
locked_low Shrink w Odd (locking.Locked first) = (refl, λ is. refl)

joins_low : (w : ResizeAlong) (first : Option ℕ) → StaysLow w (goes w (joins_from first))
joins_low w None = (refl, λ is. refl)
joins_low w (Some x) = (refl, λ is. refl)

walks_low : (w : ResizeAlong) (x : ℕ) (next : Option ℕ) → StaysLow w (goes (looks_at w) (joins_at x next))
walks_low w x None = (refl, λ is. refl)
walks_low w x (Some y) = (refl, λ is. refl)

unzips_low : (w w' : ResizeAlong) (first : Option ℕ) → w'.grace.raised ≡ w.grace.raised → StaysLow w (goes w' (unzips_on first))
unzips_low w w' None same = (same, λ is. refl)
unzips_low w w' (Some x) same = (same, λ is. refl)

graced_low : (w w' : ResizeAlong) (then_do : AfterGrace) (came : Gracing) → w'.grace.raised ≡ w.grace.raised → StaysLow w (graces_on w' then_do came)
graced_low w w' then_do gracing.Goes same = (same, λ is. refl)
graced_low w w' then_do gracing.Waits same = (same, λ is. refl)
graced_low w w' after.Unzip gracing.Over same = unzips_low w w' w'.rest same
graced_low w w' after.UnlockHead gracing.Over same = (same, λ is. refl)
graced_low w w' after.ClearNewLevel gracing.Over same = (same, λ is. refl)

scanned_low : (seats : ℕ) (g : Grace) (word : ℕ) → (scanned seats g word).0.raised ≡ g.raised
scanned_low seats g word = either_way (λ (came : Grace × Gracing). came.0.raised ≡ g.raised) (waits_for g.raised word) _ _ refl
    (either_way (λ (came : Grace × Gracing). came.0.raised ≡ g.raised) (g.next + 1 == seats) _ _ refl refl)

-- each step of a resize but for the raise
resize_low : (shape : Shape) (d : Direction) (w : ResizeAlong) (s : ResizeStage) (word : ℕ) → (resize_row shape d w s).step ≢ step.RaiseCounter → StaysLow w ((resize_row shape d w s).next word)
resize_low shape d w stage.PutNewLevel word other = (refl, λ is. refl)
resize_low shape d w (stage.Lock side s) word other = locked_low d w side ((lock_row w.level (bucket_at d w side) s).next word)
resize_low shape Grow w (stage.PutHead Even) word other = (refl, λ is. refl)
resize_low shape Grow w (stage.PutHead Odd) word other = (refl, λ is. refl)
resize_low shape Shrink w (stage.PutHead side) word other = joins_low w w.chains.even.first
resize_low shape Grow w (stage.RedirectHead side) word other = unzips_low w w w.chains.even.first refl
resize_low shape Shrink w (stage.RedirectHead Even) word other = (refl, λ is. refl)
resize_low shape Shrink w (stage.RedirectHead Odd) word other = (refl, λ is. is)
resize_low shape d w (stage.Unzip (unzip.LoadMeta x)) word other = (refl, λ is. refl)
resize_low shape d w (stage.Unzip (unzip.LoadLink x side)) word other = (refl, λ is. refl)
resize_low shape d w (stage.Unzip (unzip.MoveEdge x side next)) word other = (refl, λ is. is)
resize_low shape d w (stage.Join (join.LoadLink x)) word other = walks_low w x _
resize_low shape d w (stage.Join (join.JoinChains x)) word other = (refl, λ is. refl)
resize_low shape Grow w (stage.UnlockHead Even) word other = (refl, λ is. refl)
resize_low shape Grow w (stage.UnlockHead Odd) word other = either_way (StaysLow w) (nat_lt (w.bucket + 1) (half Grow w.level)) _ _ (refl, λ is. refl) (refl, λ is. refl)
resize_low shape Shrink w (stage.UnlockHead side) word other = either_way (StaysLow w) (nat_lt (w.bucket + 1) (half Shrink w.level)) _ _ (refl, λ is. refl) (refl, λ is. refl)
resize_low shape d w (stage.Grace then_do grace.RaiseCounter) word other = absurd (other refl)
resize_low shape d w (stage.Grace then_do grace.LoadSection) word other =
    graced_low w (record w { grace = (scanned shape.seats w.grace word).0; graces = w.graces }) then_do (scanned shape.seats w.grace word).1 (scanned_low shape.seats w.grace word)
resize_low shape d w stage.StoreLevel word other = (refl, λ is. is)
resize_low shape d w stage.ClearNewLevel word other = (refl, λ is. refl)
resize_low shape d w stage.GiveResizeLock word other = (refl, λ is. let clash : Some (answer.Done (worked d w)) ≡ None = is in absurd (cc))

-- a resize raises the counter at one stage alone, and draws nothing
raise_or_not : (shape : Shape) (d : Direction) (w : ResizeAlong) (s : ResizeStage) → ((then_do : AfterGrace) × (s ≡ stage.Grace then_do grace.RaiseCounter)) ⊎ IsPlain (resize_row shape d w s).step
raise_or_not shape d w stage.PutNewLevel = inr ((λ e. cc), (λ e. cc))
raise_or_not shape d w (stage.Lock side s) = inr (lock_plain w.level (bucket_at d w side) s)
raise_or_not shape d w (stage.PutHead side) = inr ((λ e. cc), (λ e. cc))
raise_or_not shape d w (stage.RedirectHead side) = inr ((λ e. cc), (λ e. cc))
raise_or_not shape d w (stage.Unzip (unzip.LoadMeta x)) = inr ((λ e. cc), (λ e. cc))
raise_or_not shape d w (stage.Unzip (unzip.LoadLink x side)) = inr ((λ e. cc), (λ e. cc))
raise_or_not shape d w (stage.Unzip (unzip.MoveEdge x side next)) = inr ((λ e. cc), (λ e. cc))
raise_or_not shape d w (stage.Join (join.LoadLink x)) = inr ((λ e. cc), (λ e. cc))
raise_or_not shape d w (stage.Join (join.JoinChains x)) = inr ((λ e. cc), (λ e. cc))
raise_or_not shape d w (stage.UnlockHead side) = inr ((λ e. cc), (λ e. cc))
raise_or_not shape d w (stage.Grace then_do grace.RaiseCounter) = inl (then_do, refl)
raise_or_not shape d w (stage.Grace then_do grace.LoadSection) = inr ((λ e. cc), (λ e. cc))
raise_or_not shape d w stage.StoreLevel = inr ((λ e. cc), (λ e. cc))
raise_or_not shape d w stage.ClearNewLevel = inr ((λ e. cc), (λ e. cc))
raise_or_not shape d w stage.GiveResizeLock = inr ((λ e. cc), (λ e. cc))

-- so a step that raises it comes after a look at what the last grace raised
pub resize_raises_below : (shape : Shape) (d : Direction) (w : ResizeAlong) (s : ResizeStage) → resumed w s ≡ None → (resize_row shape d w s).step ≡ step.RaiseCounter → w.grace.raised < 2 ^ 63
resize_raises_below shape d w s low is = elim (raise_or_not shape d w s) [
  | inl at ↦ not_held_back w.grace.raised (ap (resumed w) (sym at.1) ∙ low)
  | inr plain ↦ absurd (plain.0 is)
]

-- no step of a resize draws a number
pub resize_draws_not : (shape : Shape) (d : Direction) (w : ResizeAlong) (s : ResizeStage) → (resize_row shape d w s).step ≢ step.Draw
resize_draws_not shape d w s is = elim (raise_or_not shape d w s) [
  | inl at ↦ (let same : step.RaiseCounter ≡ step.Draw = sym (ap (λ (k : ResizeStage). (resize_row shape d w k).step) at.1) ∙ is in absurd (cc))
  | inr plain ↦ plain.1 is
]

-- what a poll of a resize comes to
abbrev pub ComesTo : Memory → Memory → Caller → Shape → Resize → ResizeStage → Type 0
ComesTo m m' caller shape r s = let came = (resize_row shape r.direction r.along s).next (found (resize_row shape r.direction r.along s).step m) in
    RaisesBy (m place.Counter) (m' place.Counter) (polls_at caller (work.Resize (record r { stage = s }), None)) (polls_at caller (of_resize r came))
    × (came.2 ≡ None → resumed came.0 came.1 ≡ None)

-- what goes along with a resize that found the counter and raised it
abbrev after_raise : ResizeAlong → ℕ → ResizeAlong
after_raise w counter = record w { grace = record { raised = counter + 2; next = 0 }; graces = counts_grace grace.RaiseCounter w.graces }

-- each step of a resize
pub resize_raises : (m m' : Memory) (caller : Caller) (shape : Shape) (r : Resize) (s : ResizeStage) → IsMade (resize_row shape r.direction r.along s).step m m'
    → CanRaise m (resize_row shape r.direction r.along s).step → resumed r.along s ≡ None → ComesTo m m' caller shape r s
resize_raises m m' caller shape r s made may low = elim (raise_or_not shape r.direction r.along s) [
  | inl at ↦ subst (λ (k : ResizeStage). IsMade (resize_row shape r.direction r.along k).step m m' → CanRaise m (resize_row shape r.direction r.along k).step → resumed r.along k ≡ None
      → ComesTo m m' caller shape r k) (sym at.1)
      (λ made may low. (
        work_raises_it (m place.Counter) (m' place.Counter) caller (work.Resize (record r { stage = stage.Grace at.0 grace.RaiseCounter }))
            (work.Resize (record r { along = after_raise r.along (m place.Counter); stage = stage.Grace at.0 grace.LoadSection })) None
            (counter_raised m m' made (may refl)) (sym (counter_raised m m' made (may refl))) (not_held_back r.along.grace.raised low),
        λ is. refl,
      )) made may low
  | inr plain ↦ (
      let came : Went = (resize_row shape r.direction r.along s).next (found (resize_row shape r.direction r.along s).step m) in
      let stays : StaysLow r.along came = resize_low shape r.direction r.along s (found (resize_row shape r.direction r.along s).step m) plain.0 in (
        work_stays_low (m place.Counter) (m' place.Counter) caller (work.Resize (record r { stage = s })) (of_resize r came).0 came.2
            (counter_stays m m' (resize_row shape r.direction r.along s).step made plain.0) stays.0,
        stays.1,
      ))
]
