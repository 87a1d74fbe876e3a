-- Each step of a shrink looks at the next node of the even chain of its pair, so that it has looked at no more than the table has slots.
use Rattle.std.specs.Prelude.{nat_lt, min}
use Rattle.std.proofs.Common.{◌≡◌, Bool, true, false, cond, ℕ, ◌+◌, ◌≤◌, List, [], ◌∷◌, ◌++◌, length, length-append, Option, Some, None, refl, sym, ap, subst, ◌∙◌, arith}
use Rattle.std.proofs.lemmas.List.{append_assoc}
use Rattle.chain_core.specs.Path.{IsPath}
use Rattle.marked_word.specs.Link.{node_of}
use Rattle.table_shape.specs.declared.place.Place.TheVariants as place
use Rattle.atomic_step.specs.declared.step.Step.TheVariants as step
use Rattle.call_machine.specs.declared.grace.GraceStage.TheVariants.{RaiseCounter, LoadSection}
use Rattle.call_machine.specs.declared.grace.Gracing.{Gracing}
use Rattle.call_machine.specs.declared.grace.Gracing.TheVariants as gracing
use Rattle.call_machine.specs.declared.lock.LockStage.TheVariants.{LoadHead}
use Rattle.call_machine.specs.declared.lock.Locking.{Locking}
use Rattle.call_machine.specs.declared.lock.Locking.TheVariants as locking
use Rattle.call_machine.specs.declared.resize.AfterGrace.TheVariants as after
use Rattle.call_machine.specs.declared.resize.Direction.TheVariants.{Shrink}
use Rattle.call_machine.specs.declared.resize.JoinStage.TheVariants as join
use Rattle.call_machine.specs.declared.resize.ResizeAlong.{ResizeAlong}
use Rattle.call_machine.specs.declared.resize.ResizeStage.{ResizeStage}
use Rattle.call_machine.specs.declared.resize.ResizeStage.TheVariants.{PutNewLevel, Lock, PutHead, RedirectHead, Unzip, Join, UnlockHead, Grace, StoreLevel, ClearNewLevel, GiveResizeLock}
use Rattle.call_machine.specs.declared.resize.Side as sides
use Rattle.call_machine.specs.declared.resize.Side.TheVariants.{Even, Odd}
use Rattle.call_machine.specs.Grace.{grace_row}
use Rattle.call_machine.specs.Lock.{lock_row}
use Rattle.call_machine.specs.Resize.{Went, resize_row, bucket_at, half, locks_on, graces_on, joins_from, joins_at, looks_at, goes}
use Rattle.cht_core.specs.declared.table.Table.{Table}
use Rattle.cht_core.specs.Flow.{Flow, IsUsed}
use Rattle.cht_core.specs.KnowsResize.{NoHead, OneHead, KnowsShrink, evens}
use Rattle.cht_core.specs.Looks.{ComesBehind, ShrinkLooksAtFew}
use Rattle.cht_core.specs.Memory.{Memory, IsMade, found, links}
use Rattle.cht_core.specs.Past.{Past}
use Rattle.cht_core.specs.TableState.{IsTable}
use Rattle.cht_core.proofs.LooksGrow.{linked_few}
use Rattle.cht_core.proofs.ResizeParts.{locked_chain}
use Rattle.cht_core.proofs.ResizeUsed.{even_used}
use Rattle.cht_core.proofs.Turns.{flow_of}
use Rattle.cht_core.proofs.Walks.{first_ahead}

-- CHAINS

-- what comes behind a node of a path is the path from its link
path_behind : (next : ℕ → Option ℕ) (first : Option ℕ) (before : List ℕ) (x : ℕ) (behind : List ℕ) → IsPath next first (before ++ x ∷ behind) → IsPath next (next x) behind
path_behind next first [] x behind path = path.1
path_behind next first (y ∷ before) x behind path = path_behind next (next y) before x behind path.1

-- so the next node comes behind one more
next_behind : (next : ℕ → Option ℕ) (first : Option ℕ) (chain : List ℕ) (x y passed : ℕ) → IsPath next first chain → next x ≡ Some y → ComesBehind chain x passed → ComesBehind chain y (min (passed + 1) 4294967295)
next_behind next first chain x y passed path is few =
    let from : IsPath next (Some y) few.1 = subst (λ (to : Option ℕ). IsPath next to few.1) is (path_behind next first few.0 x few.1 (subst (IsPath next first) few.2 path)) in
    let rest = first_ahead next y few.1 from in
    let size = length-append few.0 (x ∷ []) in
    let looked = few.3 in (
      few.0 ++ x ∷ [],
      rest.0,
      few.2 ∙ ap (λ (nodes : List ℕ). few.0 ++ x ∷ nodes) rest.1 ∙ sym (append_assoc few.0 (x ∷ []) (y ∷ rest.0)),
      omega (arith, size, looked),
    )

-- and the nodes before it with itself are no more than the chain has
pub behind_few : (chain : List ℕ) (x passed slots : ℕ) → length chain ≤ slots → ComesBehind chain x passed → passed + 1 ≤ slots
behind_few chain x passed slots most few =
    let size : length chain ≡ length (few.0 ++ x ∷ few.1) = ap length few.2 in
    let parts = length-append few.0 (x ∷ few.1) in
    let looked = few.3 in
    omega (arith, most, size, parts, looked)

-- WHERE A SHRINK COMES TO

module _ (slots : ℕ) (f' : Flow) where
  abbrev ComesToFew : Went → Type 0
  ComesToFew came = ShrinkLooksAtFew slots f' came.0 came.1

  locks_few : (w : ResizeAlong) (side : sides.Side) (came : Locking) → w.passed ≡ 0 → ComesToFew (locks_on Shrink w side came)
  locks_few w side (locking.Goes s) none = none
  locks_few w side locking.Waits none = none
  locks_few w Even (locking.Locked first) none = none
  locks_few w Odd (locking.Locked first) none = none

  pair_few : (w : ResizeAlong) (y : Bool) → w.passed ≤ slots → ComesToFew (cond y (goes (record w { bucket = w.bucket + 1; passed = 0 }) (Lock Even LoadHead)) (goes w StoreLevel))
  pair_few w true few = refl
  pair_few w false few = few

  unlock_few : (w : ResizeAlong) (came : Gracing) → w.passed ≤ slots → ComesToFew (graces_on w after.UnlockHead came)
  unlock_few w gracing.Goes few = few
  unlock_few w gracing.Waits few = few
  unlock_few w gracing.Over few = few

  last_few : (w : ResizeAlong) (came : Gracing) → w.passed ≤ slots → ComesToFew (graces_on w after.ClearNewLevel came)
  last_few w gracing.Goes few = few
  last_few w gracing.Waits few = few
  last_few w gracing.Over few = few

-- A STEP

module _ (t : Table) (m m' : Memory) (p : Past) (f : Flow) (i : ℕ) (text : List ℕ) (table : IsTable t m p f) where
  -- the chain of a head that is used has no more nodes than the table has slots
  pub chain_few : (row bucket : ℕ) → IsUsed p.now f row bucket → length (f.chain row bucket) ≤ t.shape.slots
  chain_few row bucket used =
      linked_few t m p f table (f.chain row bucket) (table.chains.once row bucket used) (λ s on. let is = table.chains.on_linked row bucket s used on in (is.0, is.1, is.2, is.3))

  module _ (k : ℕ) (w : ResizeAlong) (level : w.level ≡ k + 1) where
    at_level : (x passed : ℕ) → ComesBehind (f.chain (k + 1) w.bucket) x passed → ComesBehind (f.chain w.level w.bucket) x passed
    at_level x passed = subst (λ (row : ℕ). ComesBehind (f.chain row w.bucket) x passed) (sym level)

    -- the even chain is walked from its first node on
    put_few : (side : sides.Side) → KnowsShrink m p.now f i k w (PutHead side) → w.passed ≡ 0 → ShrinkLooksAtFew t.shape.slots f w (joins_from w.chains.even.first)
    put_few side knows none = by_first w.chains.even.first (locked_chain t m p f i (k + 1) w.bucket (evens w) table (even_used p.now f i k w.bucket NoHead knows.resizing knows.below) knows.low)
      where
        by_first : (first : Option ℕ) → IsPath (links m) first (f.chain (k + 1) w.bucket) → ShrinkLooksAtFew t.shape.slots f w (joins_from first)
        by_first None path = omega (arith, none)
        by_first (Some x) path = at_level x w.passed (let rest = first_ahead (links m) x (f.chain (k + 1) w.bucket) path in ([], rest.0, rest.1, omega (arith, none)))

    -- and goes on along its links
    link_few : (x : ℕ) → KnowsShrink m p.now f i k w (Join (join.LoadLink x)) → ComesBehind (f.chain w.level w.bucket) x w.passed
        → ShrinkLooksAtFew t.shape.slots f (looks_at w) (joins_at x (node_of (m (place.Link x))))
    link_few x knows few = by_next (node_of (m (place.Link x))) refl
      where
        used : IsUsed p.now f (k + 1) w.bucket
        used = even_used p.now f i k w.bucket (OneHead k w.bucket) knows.0.0.resizing knows.0.0.below

        here : ComesBehind (f.chain (k + 1) w.bucket) x w.passed
        here = subst (λ (row : ℕ). ComesBehind (f.chain row w.bucket) x w.passed) level few

        by_next : (next : Option ℕ) → node_of (m (place.Link x)) ≡ next → ShrinkLooksAtFew t.shape.slots f (looks_at w) (joins_at x next)
        by_next None is = let most = behind_few (f.chain (k + 1) w.bucket) x w.passed t.shape.slots (chain_few (k + 1) w.bucket used) here in omega (arith, most)
        by_next (Some y) is = at_level y (min (w.passed + 1) 4294967295)
            (next_behind (links m) (evens w) (f.chain (k + 1) w.bucket) x y w.passed (locked_chain t m p f i (k + 1) w.bucket (evens w) table used knows.0.0.low) is here)

    -- each step of a shrink
    pub shrink_looks : (s : ResizeStage) → KnowsShrink m p.now f i k w s → ShrinkLooksAtFew t.shape.slots f w s → IsMade (resize_row t.shape Shrink w s).step m m'
        → let does = resize_row t.shape Shrink w s in let came = does.next (found does.step m) in ShrinkLooksAtFew t.shape.slots (flow_of p f i text does.step m) came.0 came.1
    shrink_looks PutNewLevel knows few made = few
    shrink_looks (Lock side s) knows few made =
        let does = resize_row t.shape Shrink w (Lock side s) in
        locks_few t.shape.slots (flow_of p f i text does.step m) w side ((lock_row w.level (bucket_at Shrink w side) s).next (found does.step m)) few
    shrink_looks (PutHead side) knows few made = from_put w.chains.even.first (put_few side knows few)
      where
        from_put : (first : Option ℕ) → ShrinkLooksAtFew t.shape.slots f w (joins_from first) → ShrinkLooksAtFew t.shape.slots (flow_of p f i text (resize_row t.shape Shrink w (PutHead side)).step m) w (joins_from first)
        from_put None few = few
        from_put (Some x) few = few
    shrink_looks (RedirectHead Even) knows few made = few
    shrink_looks (RedirectHead Odd) knows few made = few
    shrink_looks (Unzip s) knows few made = absurd few
    shrink_looks (Join (join.LoadLink x)) knows few made = from_link (node_of (m (place.Link x))) (link_few x knows few)
      where
        from_link : (next : Option ℕ) → ShrinkLooksAtFew t.shape.slots f (looks_at w) (joins_at x next) → ShrinkLooksAtFew t.shape.slots (flow_of p f i text (step.LoadLink x) m) (looks_at w) (joins_at x next)
        from_link None few = few
        from_link (Some y) few = few
    shrink_looks (Join (join.JoinChains x)) knows few made = few
    shrink_looks (UnlockHead side) knows few made =
        pair_few t.shape.slots (flow_of p f i text (resize_row t.shape Shrink w (UnlockHead side)).step m) w (nat_lt (w.bucket + 1) (half Shrink w.level)) few
    shrink_looks (Grace after.Unzip s) knows few made = absurd few
    shrink_looks (Grace after.UnlockHead RaiseCounter) knows few made = few
    shrink_looks (Grace after.UnlockHead LoadSection) knows few made =
        let came = (grace_row t.shape.seats w.grace LoadSection).next (found (grace_row t.shape.seats w.grace LoadSection).step m) in
        unlock_few t.shape.slots (flow_of p f i text (step.LoadSection w.grace.next) m) (record w { grace = came.0; graces = w.graces }) came.1 few
    shrink_looks (Grace after.ClearNewLevel RaiseCounter) knows few made = few
    shrink_looks (Grace after.ClearNewLevel LoadSection) knows few made =
        let came = (grace_row t.shape.seats w.grace LoadSection).next (found (grace_row t.shape.seats w.grace LoadSection).step m) in
        last_few t.shape.slots (flow_of p f i text (step.LoadSection w.grace.next) m) (record w { grace = came.0; graces = w.graces }) came.1 few
    shrink_looks StoreLevel knows few made = few
    shrink_looks ClearNewLevel knows few made = few
    shrink_looks GiveResizeLock knows few made = few
