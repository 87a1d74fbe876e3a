-- How often a work may raise the counter after each of its steps.
use Rattle.std.proofs.Common.{◌≡◌, ◌≢◌, ℕ, ◌+◌, ◌*◌, ◌^◌, ◌<◌, ◌≤◌, ◌⊎◌, Bool, true, false, List, [], ◌∷◌, length, Option, Some, None, inl, inr, refl, sym, ap, subst, ◌∙◌, arith}
use Rattle.std.specs.Prelude.{◌==◌, ◌/◌, min, nat_le, nat_lt, if◌then◌else◌}
use Rattle.std.proofs.lemmas.Bool.{eqb-false, ne_eqb}
use Rattle.std.proofs.lemmas.Bool.Decides.{nat_tests}
use Rattle.section_core.specs.Words.{waits_for}
use Rattle.table_shape.specs.declared.place.Place.TheVariants as place
use Rattle.table_shape.specs.declared.shape.Shape.{Shape}
use Rattle.atomic_step.specs.declared.answer.Answer.{Answer}
use Rattle.atomic_step.specs.declared.answer.Answer.TheVariants as answer
use Rattle.atomic_step.specs.declared.step.Step.TheVariants as step
use Rattle.atomic_step.proofs.Choices.{either_way}
use Rattle.call_machine.specs.declared.caller.Caller.{Caller}
use Rattle.call_machine.specs.declared.clean.CleanAlong.{CleanAlong}
use Rattle.call_machine.specs.declared.clean.CleanStage.{CleanStage}
use Rattle.call_machine.specs.declared.clean.CleanStage.TheVariants as clean
use Rattle.call_machine.specs.declared.clean.Freeing.{Freeing}
use Rattle.call_machine.specs.declared.clean.Freeing.TheVariants as freeing
use Rattle.call_machine.specs.declared.grace.Grace.{Grace}
use Rattle.call_machine.specs.declared.grace.GraceStage.TheVariants as grace
use Rattle.call_machine.specs.declared.grace.Gracing.{Gracing}
use Rattle.call_machine.specs.declared.grace.Gracing.TheVariants as gracing
use Rattle.call_machine.specs.declared.lock.Locking.{Locking}
use Rattle.call_machine.specs.declared.lock.Locking.TheVariants as locking
use Rattle.call_machine.specs.declared.machine.Machine.TheVariants as machine
use Rattle.call_machine.specs.declared.pass.FreeStage.{FreeStage}
use Rattle.call_machine.specs.declared.pass.PassStage.{PassStage}
use Rattle.call_machine.specs.declared.pass.Waiting.{Waiting}
use Rattle.call_machine.specs.declared.work.Work.{Work}
use Rattle.call_machine.specs.declared.work.Work.TheVariants as work
use Rattle.call_machine.specs.Clean.{Went, goes, clean_row, locks_on, cleans_on, counts_pass, next_bucket, ends, raises, graces_on, frees_on, resumed, worked}
use Rattle.call_machine.specs.Grace.{scanned, counts_grace, held_back}
use Rattle.call_machine.specs.Lock.{lock_row}
use Rattle.call_machine.specs.Pass.{pass_row, free_row, passes_on, begins_pass}
use Rattle.call_machine.specs.Poll.{polling, work_left}
use Rattle.call_machine.specs.Work.{of_clean}
use Rattle.cht_core.specs.declared.seat.Seat.{Seat}
use Rattle.cht_core.specs.declared.seat.Seat.TheVariants as doing
use Rattle.cht_core.specs.Bounds.{raised_by, raises_work}
use Rattle.cht_core.specs.Memory.{Memory, IsMade, found}
use Rattle.cht_core.proofs.BoundSteps.{IsPlain, counter_stays, counter_raised, lock_plain, pass_plain, free_plain}
use Rattle.cht_core.proofs.GraceStages.{CanRaise}
use Rattle.cht_core.proofs.WorkBounds.{RaisesBy}

-- a work after a step that raises nothing: its last grace is the same, and no grace that is held back comes next
abbrev pub StaysLow : CleanAlong → Went → Type 0
StaysLow w came = (came.0.grace.raised ≡ w.grace.raised) × (came.2 ≡ None → resumed came.0 came.1 ≡ None)

passed_low : (w w' : CleanAlong) (next : Option PassStage) → w'.grace.raised ≡ w.grace.raised → StaysLow w (goes w' (cleans_on next))
passed_low w w' None same = (same, λ is. refl)
passed_low w w' (Some s) same = (same, λ is. refl)

locked_low : (w : CleanAlong) (came : Locking) → StaysLow w (locks_on w came)
locked_low w (locking.Goes s) = (refl, λ is. refl)
locked_low w locking.Waits = (refl, λ is. refl)
locked_low w (locking.Locked first) = passed_low w (record w { cleaning = begins_pass w.cleaning first }) (passes_on first) refl

ended_low : (w : CleanAlong) (xs : List Waiting) → StaysLow w (ends w xs)
ended_low w [] = (refl, λ is. refl)
ended_low w (x ∷ xs) = (refl, λ is. is)

counted_low : (w : CleanAlong) → StaysLow w (raises (counts_pass w) freeing.Again)
counted_low w = either_way (λ (c : CleanAlong). StaysLow w (raises c freeing.Again)) (w.cleaning.pass_waiting == 256) (record w { full_passes = min (w.full_passes + 1) 4294967295 }) w
    (refl, λ is. is) (refl, λ is. is)

next_low : (w : CleanAlong) → StaysLow w (next_bucket w)
next_low w = either_way (StaysLow w) (length w.cleaning.waiting.items == 256) _ _ (counted_low w)
    (either_way (StaysLow w) (nat_lt (w.cleaning.bucket + 1) (2 ^ w.cleaning.row)) _ _ (refl, λ is. refl) (ended_low w w.cleaning.waiting.items))

graced_low : (w w' : CleanAlong) (freeing : Freeing) (gracing : Gracing) → w'.grace.raised ≡ w.grace.raised → StaysLow w (graces_on w' freeing gracing)
graced_low w w' freeing gracing.Goes same = (same, λ is. refl)
graced_low w w' freeing gracing.Waits same = (same, λ is. refl)
graced_low w w' freeing gracing.Over same = (same, λ is. refl)

scanned_low : (seats : ℕ) (g : Grace) (word : ℕ) → (scanned seats g word).0.raised ≡ g.raised
scanned_low seats g word = either_way (λ (came : Grace × Gracing). came.0.raised ≡ g.raised) (waits_for g.raised word) _ _ refl
    (either_way (λ (came : Grace × Gracing). came.0.raised ≡ g.raised) (g.next + 1 == seats) _ _ refl refl)

freed_low : (shape : Shape) (w w' : CleanAlong) (freeing : Freeing) (next : Option FreeStage) → w'.grace.raised ≡ w.grace.raised → StaysLow w (frees_on shape w' freeing next)
freed_low shape w w' freeing (Some s) same = (same, λ is. refl)
freed_low shape w w' freeing.Again None same = either_way (StaysLow w) (nat_lt (shape.slots / 256) w'.full_passes) _ _ (same, λ is. refl) (same, λ is. refl)
freed_low shape w w' freeing.Last None same = (same, λ is. refl)

-- each step of a clean but for the raise
pub clean_low : (shape : Shape) (w : CleanAlong) (s : CleanStage) (word : ℕ) → (clean_row shape w s).step ≢ step.RaiseCounter → StaysLow w ((clean_row shape w s).next word)
clean_low shape w clean.LoadLevel word other = (refl, λ is. refl)
clean_low shape w (clean.Lock s) word other = locked_low w ((lock_row w.cleaning.row w.cleaning.bucket s).next word)
clean_low shape w (clean.Pass s) word other = passed_low w (record w { cleaning = ((pass_row w.cleaning s).next word).0 }) ((pass_row w.cleaning s).next word).1 refl
clean_low shape w clean.UnlockHead word other = next_low w
clean_low shape w (clean.Grace freeing grace.RaiseCounter) word other = absurd (other refl)
clean_low shape w (clean.Grace freeing grace.LoadSection) word other =
    graced_low w (record w { grace = (scanned shape.seats w.grace word).0; graces = w.graces }) freeing (scanned shape.seats w.grace word).1 (scanned_low shape.seats w.grace word)
clean_low shape w (clean.Free freeing s) word other = freed_low shape w (record w { cleaning = ((free_row w.cleaning s).next word).0 }) freeing ((free_row w.cleaning s).next word).1 refl
clean_low shape w clean.GiveResizeLock word other = (refl, λ is. let clash : Some (answer.Done (worked w)) ≡ None = is in absurd (cc))

-- a seat that polls its work
abbrev pub polls_at : Caller → Work × Option Answer → Seat
polls_at caller at = doing.Running (machine.Poll (polling caller at))

-- a work is left after a poll or not
left_or_not : (w : Work) (a : Option Answer) → (work_left w a ≡ None) ⊎ (work_left w a ≡ Some w)
left_or_not w None = inr refl
left_or_not w (Some (answer.Done worked)) = inl refl
left_or_not w (Some a) = inr refl

-- what is left has raised the counter as far as the work
left_raised : (w : Work) (a : Option Answer) (k : Work) → work_left w a ≡ Some k → raised_by k ≡ raised_by w
left_raised w a k is = elim (left_or_not w a) [
  | inl none ↦ let clash : None ≡ Some k = sym none ∙ is in absurd (cc)
  | inr left ↦ let same : Some w ≡ Some k = sym left ∙ is in let works : w ≡ k = cc in ap raised_by (sym works)
]

-- how often it may raise it without looking
left_weight : (w : Work) (a : Option Answer) (P : ℕ → Type 0) → P 0 → P (raises_work (Some w)) → P (raises_work (work_left w a))
left_weight w a P none some = elim (left_or_not w a) [
  | inl gone ↦ subst (λ (o : Option Work). P (raises_work o)) (sym gone) none
  | inr left ↦ subst (λ (o : Option Work). P (raises_work o)) (sym left) some
]

-- a step that leaves the counter, of a work whose last grace stays
pub work_stays_low : (before after : ℕ) (caller : Caller) (w k : Work) (a : Option Answer) → after ≡ before → raised_by k ≡ raised_by w
    → RaisesBy before after (polls_at caller (w, None)) (polls_at caller (k, a))
work_stays_low before after caller w k a same raised =
    let weight : raises_work (Some k) ≡ raises_work (Some w) = ap (λ r. if r == 0 then 1 else 0) raised in
    inl (record {
      counter = left_weight k a (λ r. after + 2 * r ≤ before + 2 * raises_work (Some w)) (omega (arith, same)) (omega (arith, same, weight));
      works = λ u is. inl (w, refl, sym raised ∙ sym (left_raised k a u is));
    })

-- a step that raises the counter, of a work that had raised it to less than 2^63
pub work_raises_it : (before after : ℕ) (caller : Caller) (w k : Work) (a : Option Answer) → after ≡ before + 2 → raised_by k ≡ after → raised_by w < 2 ^ 63
    → RaisesBy before after (polls_at caller (w, None)) (polls_at caller (k, a))
work_raises_it before after caller w k a more raised low = by_test (raised_by w == 0) refl
  where
    none_left : raises_work (work_left k a) ≡ 0
    none_left = left_weight k a (λ r. r ≡ 0) refl (ap (λ b. if b then 1 else 0) (ne_eqb (raised_by k) 0 (λ zero. omega (arith, more, raised, zero))))

    by_test : (first : Bool) → (raised_by w == 0) ≡ first → RaisesBy before after (polls_at caller (w, None)) (polls_at caller (k, a))
    by_test true is =
        let weight : raises_work (Some w) ≡ 1 = ap (λ b. if b then 1 else 0) is in
        let none : raises_work (work_left k a) ≡ 0 = none_left in
        inl (record { counter = omega (arith, more, weight, none); works = λ u at. inr (left_raised k a u at ∙ raised) })
    by_test false is =
        let some : raised_by w ≢ 0 = eqb-false (raised_by w) 0 is in
        inr (inr (record {
          counter = more;
          last = none_left;
          was = w;
          at_work = refl;
          raised = omega (arith, some);
          low = low;
          works = λ u at. left_raised k a u at ∙ raised;
        }))

-- a grace that is not held back is one of a work that has raised the counter to less than 2^63
pub not_held_back : (raised : ℕ) → held_back raised ≡ None → raised < 2 ^ 63
not_held_back raised is = by_test (nat_le (2 ^ 63) raised) refl is
  where
    by_test : (held : Bool) → nat_le (2 ^ 63) raised ≡ held → (if held then Some (answer.PendingSeat 0) else None) ≡ None → raised < 2 ^ 63
    by_test true at is = absurd (cc)
    by_test false at is = grind (arith, nat_tests)

-- a clean raises the counter at one stage alone, and draws nothing
raise_or_not : (shape : Shape) (w : CleanAlong) (s : CleanStage) → ((freeing : Freeing) × (s ≡ clean.Grace freeing grace.RaiseCounter)) ⊎ IsPlain (clean_row shape w s).step
raise_or_not shape w clean.LoadLevel = inr ((λ e. cc), (λ e. cc))
raise_or_not shape w (clean.Lock s) = inr (lock_plain w.cleaning.row w.cleaning.bucket s)
raise_or_not shape w (clean.Pass s) = inr (pass_plain w.cleaning s)
raise_or_not shape w clean.UnlockHead = inr ((λ e. cc), (λ e. cc))
raise_or_not shape w (clean.Grace freeing grace.RaiseCounter) = inl (freeing, refl)
raise_or_not shape w (clean.Grace freeing grace.LoadSection) = inr ((λ e. cc), (λ e. cc))
raise_or_not shape w (clean.Free freeing s) = inr (free_plain w.cleaning s)
raise_or_not shape w clean.GiveResizeLock = inr ((λ e. cc), (λ e. cc))

-- so a step that raises it comes after a look at what the last grace raised
pub raises_below : (shape : Shape) (w : CleanAlong) (s : CleanStage) → resumed w s ≡ None → (clean_row shape w s).step ≡ step.RaiseCounter → w.grace.raised < 2 ^ 63
raises_below shape w s low is = elim (raise_or_not shape w s) [
  | inl at ↦ not_held_back w.grace.raised (ap (resumed w) (sym at.1) ∙ low)
  | inr plain ↦ absurd (plain.0 is)
]

-- no step of a clean draws a number
pub clean_draws_not : (shape : Shape) (w : CleanAlong) (s : CleanStage) → (clean_row shape w s).step ≢ step.Draw
clean_draws_not shape w s is = elim (raise_or_not shape w s) [
  | inl at ↦ (let same : step.RaiseCounter ≡ step.Draw = sym (ap (λ (k : CleanStage). (clean_row shape w k).step) at.1) ∙ is in absurd (cc))
  | inr plain ↦ plain.1 is
]

-- what a poll of a clean comes to
abbrev pub ComesTo : Memory → Memory → Caller → Shape → CleanAlong → CleanStage → Type 0
ComesTo m m' caller shape w s = let came = (clean_row shape w s).next (found (clean_row shape w s).step m) in
    RaisesBy (m place.Counter) (m' place.Counter) (polls_at caller (work.Clean (record { along = w; stage = s }), None)) (polls_at caller (of_clean came))
    × (came.2 ≡ None → resumed came.0 came.1 ≡ None)

-- what goes along with a clean that found the counter and raised it
abbrev after_raise : CleanAlong → ℕ → CleanAlong
after_raise w counter = record w { grace = record { raised = counter + 2; next = 0 }; graces = counts_grace grace.RaiseCounter w.graces }

-- each step of a clean
pub clean_raises : (m m' : Memory) (caller : Caller) (shape : Shape) (w : CleanAlong) (s : CleanStage) → IsMade (clean_row shape w s).step m m' → CanRaise m (clean_row shape w s).step
    → resumed w s ≡ None → ComesTo m m' caller shape w s
clean_raises m m' caller shape w s made may low = elim (raise_or_not shape w s) [
  | inl at ↦ subst (λ (k : CleanStage). IsMade (clean_row shape w k).step m m' → CanRaise m (clean_row shape w k).step → resumed w k ≡ None → ComesTo m m' caller shape w k) (sym at.1)
      (λ made may low. (
        work_raises_it (m place.Counter) (m' place.Counter) caller (work.Clean (record { along = w; stage = clean.Grace at.0 grace.RaiseCounter }))
            (work.Clean (record { along = after_raise w (m place.Counter); stage = clean.Grace at.0 grace.LoadSection })) None
            (counter_raised m m' made (may refl)) (sym (counter_raised m m' made (may refl))) (not_held_back w.grace.raised low),
        λ is. refl,
      )) made may low
  | inr plain ↦ (
      let came : Went = (clean_row shape w s).next (found (clean_row shape w s).step m) in
      let stays : StaysLow w came = clean_low shape w s (found (clean_row shape w s).step m) plain.0 in (
        work_stays_low (m place.Counter) (m' place.Counter) caller (work.Clean (record { along = w; stage = s })) (of_clean came).0 came.2
            (counter_stays m m' (clean_row shape w s).step made plain.0) stays.0,
        stays.1,
      ))
]
