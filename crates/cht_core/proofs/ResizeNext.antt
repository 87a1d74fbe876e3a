-- After each step of a grow or a shrink the next stage is known.
use Rattle.std.specs.Prelude.{nat_lt}
use Rattle.std.proofs.Common.{◌≡◌, ◌≢◌, ℕ, ◌+◌, ◌-◌, ◌^◌, ◌<◌, ◌⊎◌, List, Option, Some, None, IfSome, refl, sym, subst, ◌∙◌, inl, inr}
use Rattle.table_shape.specs.declared.shape.Shape.{Shape}
use Rattle.atomic_step.specs.declared.answer.Answer.{Answer}
use Rattle.atomic_step.specs.declared.answer.Answer.TheVariants as answer
use Rattle.atomic_step.specs.declared.step.Step.{Step}
use Rattle.atomic_step.specs.declared.step.Step.TheVariants as step
use Rattle.call_machine.specs.declared.grace.GraceStage.TheVariants.{RaiseCounter, LoadSection}
use Rattle.call_machine.specs.declared.grace.Gracing.{Gracing}
use Rattle.call_machine.specs.declared.grace.Gracing.TheVariants as gracing
use Rattle.call_machine.specs.declared.lock.Locking.{Locking}
use Rattle.call_machine.specs.declared.lock.Locking.TheVariants as locking
use Rattle.call_machine.specs.declared.resize.AfterGrace.{AfterGrace}
use Rattle.call_machine.specs.declared.resize.Direction.{Direction}
use Rattle.call_machine.specs.declared.resize.Direction.TheVariants.{Grow, Shrink}
use Rattle.call_machine.specs.declared.resize.JoinStage.TheVariants as join
use Rattle.call_machine.specs.declared.resize.Resize.{Resize}
use Rattle.call_machine.specs.declared.resize.ResizeAlong.{ResizeAlong}
use Rattle.call_machine.specs.declared.resize.ResizeStage.{ResizeStage}
use Rattle.call_machine.specs.declared.resize.ResizeStage.TheVariants.{PutNewLevel, Lock, PutHead, RedirectHead, Unzip, Join, UnlockHead, Grace, StoreLevel, ClearNewLevel, GiveResizeLock}
use Rattle.call_machine.specs.declared.resize.Side.{Side}
use Rattle.call_machine.specs.declared.resize.Side.TheVariants.{Even, Odd}
use Rattle.call_machine.specs.declared.resize.UnzipStage.TheVariants as unzip
use Rattle.call_machine.specs.declared.work.Work.{Work}
use Rattle.call_machine.specs.Grace.{counts_grace, scanned}
use Rattle.call_machine.specs.Lock.{lock_row}
use Rattle.call_machine.specs.Poll.{work_left}
use Rattle.call_machine.specs.Resize.{Went, resize_row, joined_first, bucket_at, half, locks_on, graces_on}
use Rattle.call_machine.specs.SoundResize.{IsSoundResize}
use Rattle.call_machine.specs.Work.{of_resize}
use Rattle.atomic_step.proofs.Choices.{either_way}
use Rattle.cht_core.specs.declared.table.Table.{Table}
use Rattle.cht_core.specs.Flow.{Flow}
use Rattle.cht_core.specs.KnowsResize.{NoHead, Resizing, KnowsGrow, KnowsShrink, KnowsResize, evens, odds}
use Rattle.cht_core.specs.KnowsWork.{KnowsWork}
use Rattle.cht_core.specs.Memory.{Memory, IsMade, found}
use Rattle.cht_core.specs.Past.{Past}
use Rattle.cht_core.specs.Stage.{Growing, Shrinking, Closing}
use Rattle.cht_core.specs.TableState.{IsTable}
use Rattle.cht_core.proofs.Joins.{join_knows}
use Rattle.cht_core.proofs.MoveKnows.{move_known}
use Rattle.cht_core.proofs.ResizeBacks.{half_of}
use Rattle.cht_core.proofs.ResizeGraces.{grow_raises, shrink_raises, grow_scans, shrink_scans}
use Rattle.cht_core.proofs.ResizeLevels.{grow_begun, shrink_begun, resize_quiet, grow_stored, shrink_stored}
use Rattle.cht_core.proofs.ResizeLocking.{grow_locks, even_locks, odd_locks}
use Rattle.cht_core.proofs.ResizePut.{grow_puts_even, grow_puts_odd, shrink_puts}
use Rattle.cht_core.proofs.ResizeRedirect.{grow_redirects, even_redirects, odd_redirects}
use Rattle.cht_core.proofs.ResizeUnlock.{grow_opens_even, grow_opens_odd, shrink_opens}
use Rattle.cht_core.proofs.ResizeWalks.{grow_loads_meta, grow_loads_link, shrink_loads_link}
use Rattle.cht_core.proofs.Turns.{past_by, flow_of}

-- a grow that came of a step, and a shrink
abbrev pub GrowsOn : Memory → Past → Flow → ℕ → Went → Type 0
GrowsOn m p f i came = KnowsGrow m p.now f i came.0 came.1

abbrev pub ShrinksOn : Memory → Past → Flow → ℕ → ℕ → Went → Type 0
ShrinksOn m p f i k came = KnowsShrink m p.now f i k came.0 came.1

pub grow_knows : (t : Table) (m m' : Memory) (p : Past) (f : Flow) (i : ℕ) (text : List ℕ) (w : ResizeAlong) (s : ResizeStage) → IsTable t m p f → IsSoundResize t.shape Grow w s
    → IsMade (resize_row t.shape Grow w s).step m m' → KnowsGrow m p.now f i w s → s ≢ GiveResizeLock
    → let does = resize_row t.shape Grow w s in GrowsOn m' (past_by p i text does.step m) (flow_of p f i text does.step m) i (does.next (found does.step m))
grow_knows t m m' p f i text w PutNewLevel table sound made h more =
    (sound.along.bucket, subst (λ (b : ℕ). Resizing p.now (flow_of p f i text (step.PutNewLevel (Some (w.level + 1))) m) i w.level (Growing b) NoHead) (sym sound.at) (grow_begun m p f i text w.level h))
grow_knows t m m' p f i text w (Lock Even s) table sound made h more = grow_locks t m m' p f i text w s table h (sound.step i) made
grow_knows t m m' p f i text w (Lock Odd s) table sound made h more = absurd sound.at
grow_knows t m m' p f i text w (PutHead Even) table sound made h more = grow_puts_even m m' p f i text w h made
grow_knows t m m' p f i text w (PutHead Odd) table sound made h more = grow_puts_odd m m' p f i text w h made
grow_knows t m m' p f i text w (RedirectHead Even) table sound made h more = grow_redirects t m m' p f i text w table h made
grow_knows t m m' p f i text w (RedirectHead Odd) table sound made h more = absurd sound.at
grow_knows t m m' p f i text w (Unzip (unzip.LoadMeta x)) table sound made h more = grow_loads_meta t m m' p f i w x table h made
grow_knows t m m' p f i text w (Unzip (unzip.LoadLink x side)) table sound made h more = grow_loads_link m m' p f i w x side h made
grow_knows t m m' p f i text w (Unzip (unzip.MoveEdge x side next)) table sound made h more = move_known t m m' p f i text w x side next table h made
grow_knows t m m' p f i text w (Join s) table sound made h more = absurd h
grow_knows t m m' p f i text w (UnlockHead Even) table sound made h more = grow_opens_even m m' p f i text w (evens w) h made
grow_knows t m m' p f i text w (UnlockHead Odd) table sound made h more = grow_opens_odd m m' p f i text w (odds w) h
grow_knows t m m' p f i text w (Grace then_do RaiseCounter) table sound made h more = grow_raises m m' p f i text made t w (counts_grace RaiseCounter w.graces) then_do table h
grow_knows t m m' p f i text w (Grace then_do LoadSection) table sound made h more = grow_scans t m m' p f i w table made then_do h
grow_knows t m m' p f i text w StoreLevel table sound made h more = grow_stored m p f i text w.level h
grow_knows t m m' p f i text w ClearNewLevel table sound made h more = resize_quiet m p f i text (w.level + 1) h.0
grow_knows t m m' p f i text w GiveResizeLock table sound made h more = absurd (more refl)

module _ (t : Table) (m m' : Memory) (p : Past) (f : Flow) (i : ℕ) (text : List ℕ) (k : ℕ) (w : ResizeAlong) (table : IsTable t m p f) (level : w.level ≡ k + 1) where
  -- after a step a stage is known
  abbrev After : ResizeAlong → ResizeStage → Step → Type 0
  After w' s' does = IsMade does m m' → KnowsShrink m' (past_by p i text does m).now (flow_of p f i text does m) i k w' s'

  lower : w.level - 1 ≡ k
  lower = half_of w k level

  shrink_turns : KnowsShrink m p.now f i k w (RedirectHead Even) → After w (RedirectHead Odd) (step.RedirectHead w.level w.bucket (evens w))
  shrink_turns h = subst (λ (r : ℕ). After w (RedirectHead Odd) (step.RedirectHead r w.bucket (evens w))) (sym level)
      (λ made. even_redirects t m m' p f i text k w.bucket (evens w) (odds w) table h.0 h.1 made)

  pub shrink_knows : (s : ResizeStage) → IsSoundResize t.shape Shrink w s → IsMade (resize_row t.shape Shrink w s).step m m' → KnowsShrink m p.now f i k w s → s ≢ GiveResizeLock
      → let does = resize_row t.shape Shrink w s in ShrinksOn m' (past_by p i text does.step m) (flow_of p f i text does.step m) i k (does.next (found does.step m))
  shrink_knows PutNewLevel sound made h more = (
    subst (λ (c : ℕ). w.bucket < 2 ^ c) lower sound.along.bucket,
    subst (λ (c : ℕ). Resizing p.now (flow_of p f i text (step.PutNewLevel (Some c)) m) i (k + 1) (Shrinking k w.bucket) NoHead) (sym lower)
        (subst (λ (b : ℕ). Resizing p.now (flow_of p f i text (step.PutNewLevel (Some k)) m) i (k + 1) (Shrinking k b) NoHead) (sym sound.at) (shrink_begun m p f i text k h)),
  )
  shrink_knows (Lock Even s) sound made h more = even_locks t m m' p f i text k w s table level h (sound.step i) made
  shrink_knows (Lock Odd s) sound made h more = odd_locks t m m' p f i text k w s table level h (sound.step i) made
  shrink_knows (PutHead Even) sound made h more = subst (λ (r : ℕ).
      let does = step.PutHead r w.bucket (joined_first (evens w) (odds w)) in IsMade does m m' → ShrinksOn m' (past_by p i text does m) (flow_of p f i text does m) i k ((resize_row t.shape Shrink w (PutHead Even)).next 0)) (sym lower)
      (λ made. shrink_puts t m m' p f i text k w table h made) made
  shrink_knows (PutHead Odd) sound made h more = absurd sound.at
  shrink_knows (RedirectHead Even) sound made h more = shrink_turns h made
  shrink_knows (RedirectHead Odd) sound made h more =
      subst (λ (r : ℕ). let does = step.RedirectHead r (w.bucket + 2 ^ (w.level - 1)) (odds w) in IsMade does m m' → ShrinksOn m' (past_by p i text does m) (flow_of p f i text does m) i k ((resize_row t.shape Shrink w (RedirectHead Odd)).next 0)) (sym level)
      (subst (λ (c : ℕ). let does = step.RedirectHead (k + 1) (w.bucket + 2 ^ c) (odds w) in IsMade does m m' → ShrinksOn m' (past_by p i text does m) (flow_of p f i text does m) i k ((resize_row t.shape Shrink w (RedirectHead Odd)).next 0)) (sym lower)
      (λ made. odd_redirects t m m' p f i text k w.bucket (evens w) (odds w) table h made)) made
  shrink_knows (Unzip s) sound made h more = absurd h
  shrink_knows (Join (join.LoadLink x)) sound made h more = shrink_loads_link t m m' p f i k w x table h made
  shrink_knows (Join (join.JoinChains x)) sound made h more = join_knows t m m' p f i text k w.bucket x (evens w) (odds w) table h.0 h.1 h.2 made
  shrink_knows (UnlockHead Even) sound made h more = shrink_opens m m' p f i text k (w.level - 1) w (joined_first (evens w) (odds w)) (joined_first (evens w) (odds w)) level h
  shrink_knows (UnlockHead Odd) sound made h more = absurd sound.at
  shrink_knows (Grace then_do RaiseCounter) sound made h more = shrink_raises m m' p f i text made t k w (counts_grace RaiseCounter w.graces) then_do table h
  shrink_knows (Grace then_do LoadSection) sound made h more = shrink_scans t m m' p f i w table made k then_do h
  shrink_knows StoreLevel sound made h more = subst (λ (c : ℕ). let does = step.StoreLevel c in Resizing (past_by p i text does m).now (flow_of p f i text does m) i k Closing NoHead) (sym lower) (shrink_stored m p f i text k h)
  shrink_knows ClearNewLevel sound made h more = resize_quiet m p f i text k h.0
  shrink_knows GiveResizeLock sound made h more = absurd (more refl)

-- the level from which a resize went stays
locked_level : (w : ResizeAlong) (side : Side) (came : Locking) → (locks_on Shrink w side came).0.level ≡ w.level
locked_level w side (locking.Goes s) = refl
locked_level w side locking.Waits = refl
locked_level w Even (locking.Locked first) = refl
locked_level w Odd (locking.Locked first) = refl

graced_level : (w : ResizeAlong) (then_do : AfterGrace) (gracing : Gracing) → (graces_on w then_do gracing).0.level ≡ w.level
graced_level w then_do gracing.Goes = refl
graced_level w then_do gracing.Waits = refl
graced_level w then_do gracing.Over = refl

level_stays : (shape : Shape) (w : ResizeAlong) (s : ResizeStage) (word : ℕ) → ((resize_row shape Shrink w s).next word).0.level ≡ w.level
level_stays shape w PutNewLevel word = refl
level_stays shape w (Lock side s) word = locked_level w side ((lock_row w.level (bucket_at Shrink w side) s).next word)
level_stays shape w (PutHead side) word = refl
level_stays shape w (RedirectHead Even) word = refl
level_stays shape w (RedirectHead Odd) word = refl
level_stays shape w (Unzip (unzip.LoadMeta x)) word = refl
level_stays shape w (Unzip (unzip.LoadLink x side)) word = refl
level_stays shape w (Unzip (unzip.MoveEdge x side next)) word = refl
level_stays shape w (Join (join.LoadLink x)) word = refl
level_stays shape w (Join (join.JoinChains x)) word = refl
level_stays shape w (UnlockHead side) word = either_way (λ (came : Went). came.0.level ≡ w.level) (nat_lt (w.bucket + 1) (half Shrink w.level)) _ _ refl refl
level_stays shape w (Grace then_do RaiseCounter) word = refl
level_stays shape w (Grace then_do LoadSection) word =
    let came = scanned shape.seats w.grace word in graced_level (record w { grace = came.0; graces = w.graces }) then_do came.1
level_stays shape w StoreLevel word = refl
level_stays shape w ClearNewLevel word = refl
level_stays shape w GiveResizeLock word = refl

-- a work that has not ended is left
knows_left : (m : Memory) (p : Past) (f : Flow) (i : ℕ) (w : Work) (a : Option Answer) → KnowsWork m p f i w → IfSome (work_left w a) (KnowsWork m p f i)
knows_left m p f i w None known = known
knows_left m p f i w (Some (answer.Done worked)) known = tt
knows_left m p f i w (Some a) known = known

-- a resize is at its last step or not
pub last_or_not : (s : ResizeStage) → (s ≡ GiveResizeLock) ⊎ (s ≢ GiveResizeLock)
last_or_not PutNewLevel = inr (λ e. cc)
last_or_not (Lock side s) = inr (λ e. cc)
last_or_not (PutHead side) = inr (λ e. cc)
last_or_not (RedirectHead side) = inr (λ e. cc)
last_or_not (Unzip s) = inr (λ e. cc)
last_or_not (Join s) = inr (λ e. cc)
last_or_not (UnlockHead side) = inr (λ e. cc)
last_or_not (Grace then_do s) = inr (λ e. cc)
last_or_not StoreLevel = inr (λ e. cc)
last_or_not ClearNewLevel = inr (λ e. cc)
last_or_not GiveResizeLock = inl refl

-- what the work that is left knows after a step
abbrev pub KnowsResizeLeft : Memory → Past → Flow → ℕ → Resize → Went → Type 0
KnowsResizeLeft m p f i r came = IfSome (work_left (of_resize r came).0 (of_resize r came).1) (KnowsWork m p f i)

resize_knows : (t : Table) (m m' : Memory) (p : Past) (f : Flow) (i : ℕ) (text : List ℕ) (d : Direction) (w : ResizeAlong) (s : ResizeStage) → IsTable t m p f → IsSoundResize t.shape d w s
    → IsMade (resize_row t.shape d w s).step m m' → KnowsResize m p.now f i d w s → s ≢ GiveResizeLock
    → let does = resize_row t.shape d w s in let came = does.next (found does.step m) in KnowsResize m' (past_by p i text does.step m).now (flow_of p f i text does.step m) i d came.0 came.1
resize_knows t m m' p f i text Grow w s table sound made h more = grow_knows t m m' p f i text w s table sound made h more
resize_knows t m m' p f i text Shrink w s table sound made h more =
    let does = resize_row t.shape Shrink w s in let came = does.next (found does.step m) in
    (h.0, level_stays t.shape w s (found does.step m) ∙ h.1, shrink_knows t m m' p f i text h.0 w table h.1 s sound made h.2 more)

-- the work that is left after a step knows its stage
pub resize_next : (t : Table) (m m' : Memory) (p : Past) (f : Flow) (i : ℕ) (text : List ℕ) (r : Resize) → IsTable t m p f → IsSoundResize t.shape r.direction r.along r.stage
    → IsMade (resize_row t.shape r.direction r.along r.stage).step m m' → KnowsResize m p.now f i r.direction r.along r.stage
    → let does = resize_row t.shape r.direction r.along r.stage in KnowsResizeLeft m' (past_by p i text does.step m) (flow_of p f i text does.step m) i r (does.next (found does.step m))
resize_next t m m' p f i text r table sound made h = elim (last_or_not r.stage) [
  | inl last ↦ subst (λ (s : ResizeStage). let does = resize_row t.shape r.direction r.along s in KnowsResizeLeft m' (past_by p i text does.step m) (flow_of p f i text does.step m) i r
      (does.next (found does.step m))) (sym last) tt
  | inr more ↦ (
      let does = resize_row t.shape r.direction r.along r.stage in
      let came : Went = does.next (found does.step m) in
      knows_left m' (past_by p i text does.step m) (flow_of p f i text does.step m) i (of_resize r came).0 came.2
      (resize_knows t m m' p f i text r.direction r.along r.stage table sound made h more))
]
