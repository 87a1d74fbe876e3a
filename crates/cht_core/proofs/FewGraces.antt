-- A grow begins at most one grace for each entry, and one more after its level: each of its steps keeps that.
use Rattle.std.specs.Prelude.{nat_lt, nat_le}
use Rattle.std.proofs.Common.{◌≡◌, ◌≢◌, Bool, true, false, cond, ℕ, ◌+◌, ◌^◌, ◌≤◌, List, [], ◌∷◌, length, Option, Some, None, IfSome, inl, inr, refl, sym, ap, subst, ◌∙◌, arith}
use Rattle.std.proofs.Math.Nat.{min-le_left}
use Rattle.chain_core.specs.Nodes.{On, Once}
use Rattle.text_words.specs.Hash.{hash_of}
use Rattle.intern_log.specs.declared.event.Event.{Event}
use Rattle.intern_log.specs.declared.event.What.{What}
use Rattle.intern_log.specs.Counts.{is_create, events_in}
use Rattle.intern_log.specs.Now.{Now, owner_of, now_of}
use Rattle.atomic_step.specs.declared.answer.Answer.{Answer}
use Rattle.atomic_step.specs.declared.answer.Answer.TheVariants as answer
use Rattle.atomic_step.specs.declared.step.Step.TheVariants as step
use Rattle.atomic_step.proofs.Choices.{either_way}
use Rattle.call_machine.specs.declared.grace.GraceStage.TheVariants.{RaiseCounter, LoadSection}
use Rattle.call_machine.specs.declared.grace.Gracing.{Gracing}
use Rattle.call_machine.specs.declared.grace.Gracing.TheVariants as gracing
use Rattle.call_machine.specs.declared.lock.LockStage.TheVariants.{LoadHead}
use Rattle.call_machine.specs.declared.lock.Locking.{Locking}
use Rattle.call_machine.specs.declared.lock.Locking.TheVariants as locking
use Rattle.call_machine.specs.declared.resize.AfterGrace.TheVariants as after
use Rattle.call_machine.specs.declared.resize.Direction.TheVariants.{Grow}
use Rattle.call_machine.specs.declared.resize.ResizeAlong.{ResizeAlong}
use Rattle.call_machine.specs.declared.resize.ResizeStage.{ResizeStage}
use Rattle.call_machine.specs.declared.resize.ResizeStage.TheVariants.{PutNewLevel, Lock, PutHead, RedirectHead, Unzip, Join, UnlockHead, Grace, StoreLevel, ClearNewLevel, GiveResizeLock}
use Rattle.call_machine.specs.declared.resize.Side as sides
use Rattle.call_machine.specs.declared.resize.Side.TheVariants.{Even, Odd}
use Rattle.call_machine.specs.declared.resize.UnzipStage.TheVariants as unzip
use Rattle.call_machine.specs.Grace.{counts_grace, grace_row, held_back}
use Rattle.call_machine.specs.Lock.{lock_row}
use Rattle.call_machine.specs.Resize.{Went, resize_row, bucket_at, half, locks_on, graces_on, unzips_on, end_of, other, goes}
use Rattle.cht_core.specs.declared.table.Table.{Table}
use Rattle.cht_core.specs.Flow.{Flow, is_owner_in, raised_at}
use Rattle.cht_core.specs.Graces.{creates_in, entered_below, entered_in, enters_below, AreFew, HasFewGraces, WorkedWithFew}
use Rattle.cht_core.specs.KnowsResize.{Unzipping, Over, KnowsGrow, KnowsUnzip}
use Rattle.cht_core.specs.Memory.{Memory, IsMade, found}
use Rattle.cht_core.specs.Past.{Past, past_of}
use Rattle.cht_core.specs.Stage.{Stage, Parted, Whole, Pending, Since, Splitting, bucket_in, IsUnzipped}
use Rattle.cht_core.specs.TableState.{IsTable}
use Rattle.cht_core.proofs.EnteredCounts.{are_entered, below_and_in, below_at_most}
use Rattle.cht_core.proofs.MovedWhole.{move_parts}
use Rattle.cht_core.proofs.Turns.{flow_of}

-- a slot that was moved past is not whole after the counter is raised
pub raised_parted : (y : Bool) (place : ℕ) (parted : ℕ → Parted) (s : ℕ) → parted s ≢ Whole → cond y (λ s. raised_at place (parted s)) parted s ≢ Whole
raised_parted false place parted s not = not
raised_parted true place parted s not = go (parted s) not
  where
    go : (part : Parted) → part ≢ Whole → raised_at place part ≢ Whole
    go Whole not same = not refl
    go Pending not same = absurd (cc)
    go (Since at) not same = absurd (cc)

-- a grow that has answered has begun few graces
abbrev pub AnswersFew : List Event → Answer → Type 0
AnswersFew log (answer.Done did) = WorkedWithFew log Grow did
AnswersFew log _ = Unit {0}

held_few : (log : List Event) (raised : ℕ) → IfSome (held_back raised) (AnswersFew log)
held_few log raised = either_way (λ (a : Option Answer). IfSome a (AnswersFew log)) (nat_le (2 ^ 63) raised) (Some (answer.PendingSeat 0)) None tt tt

-- WHAT STAYS

module _ (n n' : Now) (log log' : List Event) (seed : n'.seed ≡ n.seed) (more : (test : What → Bool) → events_in test log ≤ events_in test log') where
  -- entries become no fewer
  below_stays : (level b g : ℕ) → g ≤ entered_below n.seed level b log → g ≤ entered_below n'.seed level b log'
  below_stays level b g few = subst (λ (x : ℕ). g ≤ entered_below x level b log') (sym seed) (let least = more (enters_below n.seed level b) in omega (arith, few, least))

  all_stay : (g : ℕ) → g ≤ creates_in log → g ≤ creates_in log'
  all_stay g few = let least = more is_create in omega (arith, few, least)

  one_more_stays : (g : ℕ) → g ≤ creates_in log + 1 → g ≤ creates_in log' + 1
  one_more_stays g few = let least = more is_create in omega (arith, few, least)

  are_few : (f f' : Flow) → ((s : ℕ) → f.parted s ≢ Whole → f'.parted s ≢ Whole) → (level b g : ℕ) → AreFew f g (entered_below n.seed level b log) → AreFew f' g (entered_below n'.seed level b log')
  are_few f f' parted level b g few = (
    few.0,
    few.1,
    λ s on. parted s (few.2 s on),
    subst (λ (x : ℕ). g ≤ entered_below x level b log' + length few.0) (sym seed) (let least = more (enters_below n.seed level b) in let most = few.3 in omega (arith, most, least)),
  )

  -- as long as the slots that were moved past are none that is whole, few graces stay few
  pub few_stays : (f f' : Flow) → ((s : ℕ) → f.parted s ≢ Whole → f'.parted s ≢ Whole) → (w : ResizeAlong) (s : ResizeStage) → HasFewGraces n log f w s → HasFewGraces n' log' f' w s
  few_stays f f' parted w PutNewLevel few = below_stays w.level w.bucket w.graces few
  few_stays f f' parted w (Lock side s) few = below_stays w.level w.bucket w.graces few
  few_stays f f' parted w (PutHead side) few = below_stays w.level w.bucket w.graces few
  few_stays f f' parted w (RedirectHead side) few = below_stays w.level w.bucket w.graces few
  few_stays f f' parted w (Unzip s) few = are_few f f' parted w.level w.bucket w.graces few
  few_stays f f' parted w (Join s) few = few
  few_stays f f' parted w (UnlockHead Even) few = are_few f f' parted w.level w.bucket w.graces few
  few_stays f f' parted w (UnlockHead Odd) few = below_stays w.level (w.bucket + 1) w.graces few
  few_stays f f' parted w (Grace after.Unzip RaiseCounter) few = are_few f f' parted w.level w.bucket (w.graces + 1) few
  few_stays f f' parted w (Grace after.Unzip LoadSection) few = are_few f f' parted w.level w.bucket w.graces few
  few_stays f f' parted w (Grace after.UnlockHead s) few = few
  few_stays f f' parted w (Grace after.ClearNewLevel RaiseCounter) few = all_stay w.graces few
  few_stays f f' parted w (Grace after.ClearNewLevel LoadSection) few = one_more_stays w.graces few
  few_stays f f' parted w StoreLevel few = all_stay w.graces few
  few_stays f f' parted w ClearNewLevel few = one_more_stays w.graces few
  few_stays f f' parted w GiveResizeLock few = one_more_stays w.graces few

  -- what a grow comes to
  abbrev pub ComesToFew : Flow → Went → Type 0
  ComesToFew f' came = HasFewGraces n' log' f' came.0 came.1 × IfSome came.2 (AnswersFew log')

  -- THE STAGES

  locks_few : (f' : Flow) (w : ResizeAlong) (side : sides.Side) (came : Locking) → w.graces ≤ entered_below n'.seed w.level w.bucket log' → ComesToFew f' (locks_on Grow w side came)
  locks_few f' w side (locking.Goes s) few = (few, tt)
  locks_few f' w side locking.Waits few = (few, tt)
  locks_few f' w side (locking.Locked first) few = (few, tt)

  unzips_few : (f' : Flow) (w : ResizeAlong) (node : Option ℕ) → AreFew f' w.graces (entered_below n'.seed w.level w.bucket log') → HasFewGraces n' log' f' w (unzips_on node)
  unzips_few f' w None few = few
  unzips_few f' w (Some x) few = few

  none_moved : (f' : Flow) (w : ResizeAlong) → w.graces ≤ entered_below n'.seed w.level w.bucket log' → AreFew f' w.graces (entered_below n'.seed w.level w.bucket log')
  none_moved f' w few = ([], tt, λ s on. absurd on, omega (arith, few))

  scans_few : (f' : Flow) (w : ResizeAlong) (came : Gracing) → AreFew f' w.graces (entered_below n'.seed w.level w.bucket log') → ComesToFew f' (graces_on w after.Unzip came)
  scans_few f' w gracing.Goes few = (few, tt)
  scans_few f' w gracing.Waits few = (few, tt)
  scans_few f' w gracing.Over few = (unzips_few f' w w.rest few, tt)

  last_few : (f' : Flow) (w : ResizeAlong) (came : Gracing) → w.graces ≤ creates_in log' + 1 → ComesToFew f' (graces_on w after.ClearNewLevel came)
  last_few f' w gracing.Goes few = (few, tt)
  last_few f' w gracing.Waits few = (few, tt)
  last_few f' w gracing.Over few = (few, tt)

  pair_few : (f' : Flow) (w : ResizeAlong) (y : Bool) → w.graces ≤ entered_below n'.seed w.level (w.bucket + 1) log'
      → ComesToFew f' (cond y (goes (record w { bucket = w.bucket + 1; passed = 0 }) (Lock Even LoadHead)) (goes w StoreLevel))
  pair_few f' w true few = (few, tt)
  pair_few f' w false few = (let most = below_at_most n'.seed w.level (w.bucket + 1) log' in omega (arith, few, most), tt)

  counted : (g bound : ℕ) → g + 1 ≤ bound → counts_grace RaiseCounter g ≤ bound
  counted g bound less = let most = min-le_left (g + 1) 18446744073709551615 in omega (arith, less, most)

  raised_few : (f' : Flow) (g bound : ℕ) → AreFew f' (g + 1) bound → AreFew f' (counts_grace RaiseCounter g) bound
  raised_few f' g bound few = (few.0, few.1, few.2, counted g (bound + length few.0) few.3)

-- the slots that were moved past are linked with texts of the bucket, so that they are no more than its entries
pub moved_entered : (t : Table) (m : Memory) (log : List Event) (f : Flow) (level b : ℕ) → IsTable t m (past_of t.shape.min_level log) f → f.stage ≡ Splitting b → (now_of t.shape.min_level log).level ≡ level
    → (moved : List ℕ) → Once moved → ((s : ℕ) → On s moved → f.parted s ≢ Whole) → length moved ≤ entered_in (now_of t.shape.min_level log).seed level b log
moved_entered t m log f level b table stage at moved once parted =
    let n : Now = now_of t.shape.min_level log in
    are_entered t.shape.min_level n.seed level b log moved once (λ s on. elim (table.chains.loose s) [
      | inl whole ↦ absurd (parted s on whole)
      | inr l ↦ (l.0, l.1, l.2, l.3, subst (λ (k : ℕ). bucket_in k (hash_of n.seed l.0) ≡ b) at (subst (λ (st : Stage). IsUnzipped st n.level (hash_of n.seed l.0)) stage l.4))
    ])

-- A STEP

module _ (t : Table) (m m' : Memory) (log log' : List Event) (f : Flow) (i : ℕ) (text : List ℕ) (n' : Now) (table : IsTable t m (past_of t.shape.min_level log) f)
    (seed : n'.seed ≡ (now_of t.shape.min_level log).seed) (more : (test : What → Bool) → events_in test log ≤ events_in test log') where
  abbrev p : Past
  p = past_of t.shape.min_level log

  abbrev After : Flow → Went → Type 0
  After f' came = ComesToFew p.now n' log log' seed more f' came

  -- one more slot is moved past, and one more grace follows
  move_few : (w : ResizeAlong) (x : ℕ) (side : sides.Side) (next : Option ℕ) → KnowsUnzip m p.now f i w (unzip.MoveEdge x side next) → IsMade (step.MoveEdge (end_of Grow w (other side)) next) m m'
      → AreFew f w.graces (entered_below p.now.seed w.level w.bucket log)
      → AreFew (flow_of p f i text (step.MoveEdge (end_of Grow w (other side)) next) m) (w.graces + 1) (entered_below n'.seed w.level w.bucket log')
  move_few w x side next knows made few =
      let parts = move_parts t m m' p f i text w x side next table knows made in
      let off : On x few.0 → ⊥ = λ on. few.2 x on parts.0 in
      let size : length (x ∷ few.0) ≡ length few.0 + 1 = omega arith in
      let most = few.3 in
      let all : w.graces + 1 ≤ entered_below p.now.seed w.level w.bucket log + length (x ∷ few.0) = omega (arith, most, size) in
      let grown : AreFew (flow_of p f i text (step.MoveEdge (end_of Grow w (other side)) next) m) (w.graces + 1) (entered_below p.now.seed w.level w.bucket log) = (
        x ∷ few.0,
        (off, few.1),
        (λ s on. elim on [
          | inl here ↦ (λ whole. let pending = parts.1 in let at = ap (flow_of p f i text (step.MoveEdge (end_of Grow w (other side)) next) m).parted here ∙ whole in absurd (let both : Pending ≡ Whole = sym pending ∙ at in cc))
          | inr later ↦ (λ whole. few.2 s later (sym (parts.2 s (λ same. off (subst (λ (a : ℕ). On a few.0) same later))) ∙ whole))
        ]),
        all,
      ) in
      are_few p.now n' log log' seed more (flow_of p f i text (step.MoveEdge (end_of Grow w (other side)) next) m) (flow_of p f i text (step.MoveEdge (end_of Grow w (other side)) next) m) (λ s not. not)
      w.level w.bucket (w.graces + 1) grown

  -- at the end of an unzipping each grace of the bucket was for one of its entries
  unlock_few : (w : ResizeAlong) → Unzipping m p.now f i w.level w.bucket w.chains None Over → AreFew f w.graces (entered_below p.now.seed w.level w.bucket log)
      → w.graces ≤ entered_below n'.seed w.level (w.bucket + 1) log'
  unlock_few w u few =
      let moved = moved_entered t m log f w.level w.bucket table u.resizing.at_stage u.resizing.at_level few.0 few.1 few.2 in
      let both = below_and_in p.now.seed w.level w.bucket log in
      let most = few.3 in
      below_stays p.now n' log log' seed more w.level (w.bucket + 1) w.graces (omega (arith, moved, both, most))

  -- each step of a grow
  pub grow_few : (w : ResizeAlong) (s : ResizeStage) → KnowsGrow m p.now f i w s → HasFewGraces p.now log f w s → IsMade (resize_row t.shape Grow w s).step m m'
      → let does = resize_row t.shape Grow w s in After (flow_of p f i text does.step m) (does.next (found does.step m))
  grow_few w PutNewLevel knows few made = (below_stays p.now n' log log' seed more w.level w.bucket w.graces few, tt)
  grow_few w (Lock side s) knows few made =
      let does = resize_row t.shape Grow w (Lock side s) in
      locks_few p.now n' log log' seed more (flow_of p f i text does.step m) w side ((lock_row w.level (bucket_at Grow w side) s).next (found does.step m))
      (below_stays p.now n' log log' seed more w.level w.bucket w.graces few)
  grow_few w (PutHead Even) knows few made = (below_stays p.now n' log log' seed more w.level w.bucket w.graces few, tt)
  grow_few w (PutHead Odd) knows few made = (below_stays p.now n' log log' seed more w.level w.bucket w.graces few, tt)
  grow_few w (RedirectHead side) knows few made =
      let does = resize_row t.shape Grow w (RedirectHead side) in
      let f' : Flow = flow_of p f i text does.step m in
      (unzips_few p.now n' log log' seed more f' w w.chains.even.first (none_moved p.now n' log log' seed more f' w (below_stays p.now n' log log' seed more w.level w.bucket w.graces few)), tt)
  grow_few w (Unzip (unzip.LoadMeta x)) knows few made =
      (are_few p.now n' log log' seed more f (flow_of p f i text (step.LoadMeta x) m) (λ s not. not) w.level w.bucket w.graces few, tt)
  grow_few w (Unzip (unzip.LoadLink x side)) knows few made =
      (are_few p.now n' log log' seed more f (flow_of p f i text (step.LoadLink x) m) (λ s not. not) w.level w.bucket w.graces few, tt)
  grow_few w (Unzip (unzip.MoveEdge x side next)) knows few made = (move_few w x side next knows made few, held_few log' w.grace.raised)
  grow_few w (Join s) knows few made = absurd few
  grow_few w (UnlockHead Even) knows few made = (unlock_few w knows few, tt)
  grow_few w (UnlockHead Odd) knows few made =
      let does = resize_row t.shape Grow w (UnlockHead Odd) in
      pair_few p.now n' log log' seed more (flow_of p f i text does.step m) w (nat_lt (w.bucket + 1) (half Grow w.level)) (below_stays p.now n' log log' seed more w.level (w.bucket + 1) w.graces few)
  grow_few w (Grace after.Unzip RaiseCounter) knows few made =
      let f' : Flow = flow_of p f i text step.RaiseCounter m in (
        raised_few p.now n' log log' seed more f' w.graces (entered_below n'.seed w.level w.bucket log') (are_few p.now n' log log' seed more f f'
            (λ s not. raised_parted (is_owner_in (owner_of p.now.resizing) i) p.now.place f.parted s not) w.level w.bucket (w.graces + 1) few),
        tt,
      )
  grow_few w (Grace after.Unzip LoadSection) knows few made =
      let came = (grace_row t.shape.seats w.grace LoadSection).next (found (grace_row t.shape.seats w.grace LoadSection).step m) in
      let f' : Flow = flow_of p f i text (step.LoadSection w.grace.next) m in
      scans_few p.now n' log log' seed more f' (record w { grace = came.0; graces = w.graces }) came.1
      (are_few p.now n' log log' seed more f f' (λ s not. not) w.level w.bucket w.graces few)
  grow_few w (Grace after.UnlockHead s) knows few made = absurd few
  grow_few w (Grace after.ClearNewLevel RaiseCounter) knows few made =
      (counted p.now n' log log' seed more w.graces (creates_in log' + 1) (let all = all_stay p.now n' log log' seed more w.graces few in omega (arith, all)), tt)
  grow_few w (Grace after.ClearNewLevel LoadSection) knows few made =
      let came = (grace_row t.shape.seats w.grace LoadSection).next (found (grace_row t.shape.seats w.grace LoadSection).step m) in
      last_few p.now n' log log' seed more (flow_of p f i text (step.LoadSection w.grace.next) m) (record w { grace = came.0; graces = w.graces }) came.1
      (one_more_stays p.now n' log log' seed more w.graces few)
  grow_few w StoreLevel knows few made = (all_stay p.now n' log log' seed more w.graces few, held_few log' w.grace.raised)
  grow_few w ClearNewLevel knows few made = (one_more_stays p.now n' log log' seed more w.graces few, tt)
  grow_few w GiveResizeLock knows few made =
      let most : w.graces ≤ creates_in log' + 1 = one_more_stays p.now n' log log' seed more w.graces few in
      (most, most)
