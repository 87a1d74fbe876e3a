-- Each step of a grow looks at no node that it has moved past, so that it has looked at no more than the table has slots.
use Rattle.std.specs.Prelude.{nat_lt, min}
use Rattle.std.proofs.Common.{◌≡◌, ◌≢◌, Bool, true, false, cond, ℕ, ◌+◌, ◌^◌, ◌<◌, ◌≤◌, List, [], ◌∷◌, length, Option, Some, None, inl, inr, refl, sym, ap, subst, ◌∙◌, arith}
use Rattle.std.proofs.lemmas.Nat.{pow_pos}
use Rattle.chain_core.specs.Nodes.{On, Once}
use Rattle.chain_core.proofs.Members.{on_right}
use Rattle.chain_core.proofs.Ways.{path_begins}
use Rattle.text_words.specs.Hash.{hash_of}
use Rattle.intern_log.specs.Now.{owner_of}
use Rattle.atomic_step.specs.declared.step.Step.TheVariants as step
use Rattle.call_machine.specs.declared.grace.GraceStage.TheVariants.{RaiseCounter, LoadSection}
use Rattle.call_machine.specs.declared.grace.Gracing.{Gracing}
use Rattle.call_machine.specs.declared.grace.Gracing.TheVariants as gracing
use Rattle.call_machine.specs.declared.lock.LockStage.TheVariants.{LoadHead}
use Rattle.call_machine.specs.declared.lock.Locking.{Locking}
use Rattle.call_machine.specs.declared.lock.Locking.TheVariants as locking
use Rattle.call_machine.specs.declared.resize.AfterGrace.TheVariants as after
use Rattle.call_machine.specs.declared.resize.Chains as pairs
use Rattle.call_machine.specs.declared.resize.Direction.TheVariants.{Grow}
use Rattle.call_machine.specs.declared.resize.ResizeAlong.{ResizeAlong}
use Rattle.call_machine.specs.declared.resize.ResizeStage.{ResizeStage}
use Rattle.call_machine.specs.declared.resize.ResizeStage.TheVariants.{PutNewLevel, Lock, PutHead, RedirectHead, Unzip, Join, UnlockHead, Grace, StoreLevel, ClearNewLevel, GiveResizeLock}
use Rattle.call_machine.specs.declared.resize.Side as sides
use Rattle.call_machine.specs.declared.resize.Side.TheVariants.{Even, Odd}
use Rattle.call_machine.specs.declared.resize.UnzipStage.TheVariants as unzip
use Rattle.call_machine.specs.Grace.{grace_row}
use Rattle.call_machine.specs.Lock.{lock_row}
use Rattle.call_machine.specs.Resize.{Went, resize_row, bucket_at, half, locks_on, graces_on, unzips_on, end_of, other, goes}
use Rattle.cht_core.specs.declared.table.Table.{Table}
use Rattle.cht_core.specs.Flow.{Flow, is_owner_in}
use Rattle.cht_core.specs.KnowsResize.{Grade, Unzipping, KnowsGrow, KnowsUnzip}
use Rattle.cht_core.specs.Looks.{LooksAtMoved, GrowLooksAtFew}
use Rattle.cht_core.specs.Memory.{Memory, IsMade, found, links}
use Rattle.cht_core.specs.Past.{Past}
use Rattle.cht_core.specs.Search.{IsLinked}
use Rattle.cht_core.specs.Stage.{Whole, Pending, bucket_in}
use Rattle.cht_core.specs.TableState.{IsTable}
use Rattle.cht_core.proofs.FewGraces.{raised_parted}
use Rattle.cht_core.proofs.LooksStay.{moved_stay}
use Rattle.cht_core.proofs.MovedWhole.{move_parts}
use Rattle.cht_core.proofs.ResizeUsed.{split_used}
use Rattle.cht_core.proofs.Turns.{flow_of}
use Rattle.cht_core.proofs.Walks.{few_held}

-- FEW SLOTS

module _ (t : Table) (m : Memory) (p : Past) (f : Flow) (table : IsTable t m p f) where
  -- linked slots, none of them twice, are no more than the table has
  pub linked_few : (nodes : List ℕ) → Once nodes → ((s : ℕ) → On s nodes → IsLinked p.now s) → length nodes ≤ t.shape.slots
  linked_few nodes once linked = few_held t m p f table 0 nodes once (λ s on. inl (linked s on))

  -- a slot that was moved past is linked
  parted_linked : (s : ℕ) → f.parted s ≢ Whole → IsLinked p.now s
  parted_linked s parted = elim (table.chains.loose s) [ inl whole ↦ absurd (parted whole) | inr l ↦ (l.0, l.1, l.2, l.3) ]

  pub moved_few : (passed : ℕ) → LooksAtMoved f passed 0 → passed ≤ t.shape.slots
  moved_few passed few =
      let most : length few.0 ≤ t.shape.slots = linked_few few.0 few.1 (λ s on. parted_linked s (few.2 s on)) in
      let looked = few.3 in
      omega (arith, most, looked)

  -- the next node of what is left is linked, and on the chains of both sides, so that it was not moved past
  next_linked : (i level b : ℕ) (chains : pairs.Chains) (x : ℕ) (grade : Grade) → Unzipping m p.now f i level b chains (Some x) grade → IsLinked p.now x × (f.parted x ≡ Whole)
  next_linked i level b chains x grade u =
      let even = split_used p.now f i level b b u.resizing u.below (inl refl) in
      let odd = split_used p.now f i level b (b + 2 ^ level) u.resizing u.below (inr refl) in
      let first : On x u.rest = path_begins (links m) x u.rest u.path in
      let on_even : On x (f.chain (level + 1) b) = subst (λ (nodes : List ℕ). On x nodes) (sym u.even.order) (on_right u.even.own u.rest x first) in
      let on_odd : On x (f.chain (level + 1) (b + 2 ^ level)) = subst (λ (nodes : List ℕ). On x nodes) (sym u.odd.order) (on_right u.odd.own u.rest x first) in
      let is = table.chains.on_linked (level + 1) b x even on_even in (
        (is.0, is.1, is.2, is.3),
        elim (table.chains.sides (level + 1) b x is.0 is.1 is.2 even on_even is.3) [
          | inl whole ↦ whole
          | inr low ↦ elim (table.chains.sides (level + 1) (b + 2 ^ level) x is.0 is.1 is.2 odd on_odd is.3) [
            | inl whole ↦ whole
            | inr high ↦ absurd (apart b (2 ^ level) (bucket_in (level + 1) (hash_of p.now.seed is.0)) (pow_pos level) low.1 high.1)
          ]
        ],
      )
    where
      apart : (b size at : ℕ) → 0 < size → at ≡ b → at ≡ b + size → ⊥
      apart b size at some low high = omega (arith, some, low, high)

  -- so at most one more than were moved past are no more either, while one is looked at
  pub next_few : (i level b : ℕ) (chains : pairs.Chains) (x passed : ℕ) (grade : Grade) → Unzipping m p.now f i level b chains (Some x) grade → LooksAtMoved f passed 1 → passed ≤ t.shape.slots
  next_few i level b chains x passed grade u few =
      let next = next_linked i level b chains x grade u in
      let size : length (x ∷ few.0) ≡ length few.0 + 1 = omega arith in
      let most : length (x ∷ few.0) ≤ t.shape.slots = linked_few (x ∷ few.0) ((λ on. few.2 x on next.1), few.1) (λ s on. elim on [
        | inl here ↦ subst (IsLinked p.now) here next.0
        | inr later ↦ parted_linked s (few.2 s later)
      ]) in
      let looked = few.3 in
      omega (arith, size, most, looked)

-- WHERE A GROW COMES TO

module _ (slots : ℕ) (f' : Flow) where
  abbrev ComesToFew : Went → Type 0
  ComesToFew came = GrowLooksAtFew slots f' came.0 came.1

  locks_few : (w : ResizeAlong) (side : sides.Side) (came : Locking) → w.passed ≡ 0 → ComesToFew (locks_on Grow w side came)
  locks_few w side (locking.Goes s) none = none
  locks_few w side locking.Waits none = none
  locks_few w side (locking.Locked first) none = none

  unzips_few : (w : ResizeAlong) (node : Option ℕ) → LooksAtMoved f' w.passed 0 → GrowLooksAtFew slots f' w (unzips_on node)
  unzips_few w None few = few
  unzips_few w (Some x) few = few

  none_moved : (passed : ℕ) → passed ≡ 0 → LooksAtMoved f' passed 0
  none_moved passed none = ([], tt, λ s on. absurd on, omega (arith, none))

  one_more : (passed : ℕ) → LooksAtMoved f' passed 0 → LooksAtMoved f' (min (passed + 1) 4294967295) 1
  one_more passed few = (few.0, few.1, few.2, let looked = few.3 in omega (arith, looked))

  scans_few : (w : ResizeAlong) (came : Gracing) → LooksAtMoved f' w.passed 0 → ComesToFew (graces_on w after.Unzip came)
  scans_few w gracing.Goes few = few
  scans_few w gracing.Waits few = few
  scans_few w gracing.Over few = unzips_few w w.rest few

  last_few : (w : ResizeAlong) (came : Gracing) → w.passed ≤ slots → ComesToFew (graces_on w after.ClearNewLevel came)
  last_few w gracing.Goes few = few
  last_few w gracing.Waits few = few
  last_few w gracing.Over few = few

  pair_few : (w : ResizeAlong) (y : Bool) → w.passed ≤ slots → ComesToFew (cond y (goes (record w { bucket = w.bucket + 1; passed = 0 }) (Lock Even LoadHead)) (goes w StoreLevel))
  pair_few w true few = refl
  pair_few w false few = few

-- A STEP

module _ (t : Table) (m m' : Memory) (p : Past) (f : Flow) (i : ℕ) (text : List ℕ) (table : IsTable t m p f) where
  -- the node that was looked at last is moved past
  move_few : (w : ResizeAlong) (x : ℕ) (side : sides.Side) (next : Option ℕ) → KnowsUnzip m p.now f i w (unzip.MoveEdge x side next) → IsMade (step.MoveEdge (end_of Grow w (other side)) next) m m'
      → LooksAtMoved f w.passed 1 → LooksAtMoved (flow_of p f i text (step.MoveEdge (end_of Grow w (other side)) next) m) w.passed 0
  move_few w x side next knows made few =
      let f' : Flow = flow_of p f i text (step.MoveEdge (end_of Grow w (other side)) next) m in
      let parts = move_parts t m m' p f i text w x side next table knows made in
      let off : On x few.0 → ⊥ = λ on. few.2 x on parts.0 in
      let size : length (x ∷ few.0) ≡ length few.0 + 1 = omega arith in
      let looked = few.3 in (
        x ∷ few.0,
        (off, few.1),
        (λ s on. elim on [
          | inl here ↦ (λ whole. let pending = parts.1 in let at = ap f'.parted here ∙ whole in absurd (let both : Pending ≡ Whole = sym pending ∙ at in cc))
          | inr later ↦ (λ whole. few.2 s later (sym (parts.2 s (λ same. off (subst (λ (a : ℕ). On a few.0) same later))) ∙ whole))
        ]),
        omega (arith, looked, size),
      )

  -- each step of a grow
  pub grow_looks : (w : ResizeAlong) (s : ResizeStage) → KnowsGrow m p.now f i w s → GrowLooksAtFew t.shape.slots f w s → IsMade (resize_row t.shape Grow w s).step m m'
      → let does = resize_row t.shape Grow w s in let came = does.next (found does.step m) in GrowLooksAtFew t.shape.slots (flow_of p f i text does.step m) came.0 came.1
  grow_looks w PutNewLevel knows few made = few
  grow_looks w (Lock side s) knows few made =
      let does = resize_row t.shape Grow w (Lock side s) in
      locks_few t.shape.slots (flow_of p f i text does.step m) w side ((lock_row w.level (bucket_at Grow w side) s).next (found does.step m)) few
  grow_looks w (PutHead Even) knows few made = few
  grow_looks w (PutHead Odd) knows few made = few
  grow_looks w (RedirectHead side) knows few made =
      let f' : Flow = flow_of p f i text (resize_row t.shape Grow w (RedirectHead side)).step m in
      unzips_few t.shape.slots f' w w.chains.even.first (none_moved t.shape.slots f' w.passed few)
  grow_looks w (Unzip (unzip.LoadMeta x)) knows few made = one_more t.shape.slots (flow_of p f i text (step.LoadMeta x) m) w.passed few
  grow_looks w (Unzip (unzip.LoadLink x side)) knows few made = few
  grow_looks w (Unzip (unzip.MoveEdge x side next)) knows few made = move_few w x side next knows made few
  grow_looks w (Join s) knows few made = absurd few
  grow_looks w (UnlockHead Even) knows few made = moved_few t m p f table w.passed few
  grow_looks w (UnlockHead Odd) knows few made =
      pair_few t.shape.slots (flow_of p f i text (resize_row t.shape Grow w (UnlockHead Odd)).step m) w (nat_lt (w.bucket + 1) (half Grow w.level)) few
  grow_looks w (Grace after.Unzip RaiseCounter) knows few made =
      moved_stay t.shape.slots f (flow_of p f i text step.RaiseCounter m) (λ s not. raised_parted (is_owner_in (owner_of p.now.resizing) i) p.now.place f.parted s not) w.passed 0 few
  grow_looks w (Grace after.Unzip LoadSection) knows few made =
      let came = (grace_row t.shape.seats w.grace LoadSection).next (found (grace_row t.shape.seats w.grace LoadSection).step m) in
      scans_few t.shape.slots (flow_of p f i text (step.LoadSection w.grace.next) m) (record w { grace = came.0; graces = w.graces }) came.1 few
  grow_looks w (Grace after.UnlockHead s) knows few made = absurd few
  grow_looks w (Grace after.ClearNewLevel RaiseCounter) knows few made = few
  grow_looks w (Grace after.ClearNewLevel LoadSection) knows few made =
      let came = (grace_row t.shape.seats w.grace LoadSection).next (found (grace_row t.shape.seats w.grace LoadSection).step m) in
      last_few t.shape.slots (flow_of p f i text (step.LoadSection w.grace.next) m) (record w { grace = came.0; graces = w.graces }) came.1 few
  grow_looks w StoreLevel knows few made = few
  grow_looks w ClearNewLevel knows few made = few
  grow_looks w GiveResizeLock knows few made = few
