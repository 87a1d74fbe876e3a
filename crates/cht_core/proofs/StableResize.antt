-- What a grow or a shrink knows still holds after a step that leaves its seat what it has.
use Rattle.std.proofs.Common.{◌≡◌, ℕ, ◌+◌, ◌^◌, ◌<◌, ◌≤◌, List, ◌++◌, Option, Some, None, refl, sym, ap, subst, ◌∙◌, inl, inr, arith}
use Rattle.chain_core.specs.Nodes.{On}
use Rattle.chain_core.proofs.Members.{on_left, on_right}
use Rattle.chain_core.proofs.Ways.{path_begins}
use Rattle.marked_word.specs.Link.{node_of}
use Rattle.text_words.specs.Hash.{hash_of}
use Rattle.table_shape.specs.declared.place.Place.TheVariants as place
use Rattle.intern_log.specs.Now.{owner_of}
use Rattle.call_machine.specs.declared.grace.Grace as graces
use Rattle.call_machine.specs.declared.grace.GraceStage.{GraceStage}
use Rattle.call_machine.specs.declared.grace.GraceStage.TheVariants as grace
use Rattle.call_machine.specs.declared.resize.AfterGrace.TheVariants as after
use Rattle.call_machine.specs.declared.resize.Chain.{Chain}
use Rattle.call_machine.specs.declared.resize.Chains.{Chains}
use Rattle.call_machine.specs.declared.resize.Direction.{Direction}
use Rattle.call_machine.specs.declared.resize.Direction.TheVariants.{Grow, Shrink}
use Rattle.call_machine.specs.declared.resize.JoinStage.{JoinStage}
use Rattle.call_machine.specs.declared.resize.JoinStage.TheVariants as join
use Rattle.call_machine.specs.declared.resize.ResizeAlong.{ResizeAlong}
use Rattle.call_machine.specs.declared.resize.ResizeStage.{ResizeStage}
use Rattle.call_machine.specs.declared.resize.ResizeStage.TheVariants.{PutNewLevel, Lock, PutHead, RedirectHead, Unzip, Join, UnlockHead, Grace, StoreLevel, ClearNewLevel, GiveResizeLock}
use Rattle.call_machine.specs.declared.resize.Side as sides
use Rattle.call_machine.specs.declared.resize.Side.TheVariants.{Even, Odd}
use Rattle.call_machine.specs.declared.resize.UnzipStage.{UnzipStage}
use Rattle.call_machine.specs.declared.resize.UnzipStage.TheVariants as unzip
use Rattle.call_machine.specs.Resize.{joined_first, side_of}
use Rattle.cht_core.specs.declared.table.Table.{Table}
use Rattle.cht_core.specs.Flow.{Flow, IsUsed}
use Rattle.cht_core.specs.KnowsResize.{Graced, NoHead, OneHead, TwoHeads, Resizing, HasLocked, Grade, Over, Raising, Until, IsOver, IsReady, Side, Unzipping, IsOfSide, KnowsUnzip, Joint, Pair, HasPair, HasTurned, HasOpened, HasSplit, AreNew}
use Rattle.cht_core.specs.KnowsResize.{KnowsJoin, KnowsLast, KnowsMoved, KnowsGrow, KnowsShrink, KnowsResize, evens, odds}
use Rattle.cht_core.specs.Memory.{Memory, links}
use Rattle.cht_core.specs.Past.{Past}
use Rattle.cht_core.specs.Rely.{Grows, Leaves, Still}
use Rattle.cht_core.specs.Stage.{Stage, Quiet, Growing, Splitting, Shrinking, Joining, Turning, Closing, bucket_in, next_row, IsLeft, IsOpen}
use Rattle.cht_core.specs.Tidy.{IsTidy}
use Rattle.cht_core.proofs.ResizeUsed.{path_kept, split_used, even_used, even_joined_used, odd_joined_used, odd_turned_used, new_turned_used}
use Rattle.cht_core.proofs.UnzipSides.{StaysLinked, evens_of, odds_of, sides_stay}

module _ (t : Table) (m : Memory) (p : Past) (f : Flow) (m' : Memory) (p' : Past) (f' : Flow) (g : Grows m p f m' p' f') (tidy : IsTidy t p.now) (i : ℕ) (z : Leaves i m p f m' p' f') where
  -- the resize lock is still the seat's, and the resize where it was
  pub resizing_grows : (level : ℕ) (stage : Stage) (except : ℕ → ℕ → Type 0) → Resizing p.now f i level stage except → Resizing p'.now f' i level stage except
  resizing_grows level stage except h =
      let k : Still p.now f p'.now f' = z.still h.owner in
      let same : (row bucket : ℕ) → IsUsed p.now f row bucket → IsUsed p'.now f' row bucket = λ row bucket used. elim used [
        | inl a ↦ inl (a.0 ∙ sym k.level, subst (λ (st : Stage). IsLeft st bucket) (sym k.stage) a.1, a.2)
        | inr a ↦ inr (
          a.0 ∙ sym (ap (λ (st : Stage). next_row st p.now.level) k.stage) ∙ sym (ap (next_row f'.stage) k.level),
          subst (λ (l : ℕ). IsOpen f'.stage l bucket) (sym k.level) (subst (λ (st : Stage). IsOpen st p.now.level bucket) (sym k.stage) a.1),
        )
      ] in
      record {
        owner = z.owner h.owner;
        at_level = k.level ∙ h.at_level;
        at_stage = k.stage ∙ h.at_stage;
        free = λ row bucket unused out up. k.free row bucket (λ used. unused (same row bucket used))
            (h.free row bucket (λ used. unused (same row bucket used)) out (λ e. subst (λ (l : ℕ). 2 ^ l ≤ bucket) k.level (up (e ∙ sym k.level))));
      }

  -- at its level, where that is the table's
  pub resizing_here_grows : Resizing p.now f i p.now.level Quiet NoHead → Resizing p'.now f' i p'.now.level Quiet NoHead
  resizing_here_grows h = subst (λ (l : ℕ). Resizing p'.now f' i l Quiet NoHead) (sym (z.still h.owner).level) (resizing_grows p.now.level Quiet NoHead h)

  pub has_locked_grows : (row bucket : ℕ) (first : Option ℕ) → HasLocked m p.now i row bucket first → HasLocked m' p'.now i row bucket first
  has_locked_grows row bucket first h = (z.locks row bucket h.0, z.heads row bucket h.0 ∙ h.1)

  -- parted slots
  over_still : (s : ℕ) → owner_of p.now.resizing ≡ Some i → IsOver p.now f s → IsOver p'.now f' s
  over_still s own h =
      let early : h.0 < p.now.place = h.2 in
      let later : p.now.place ≤ p'.now.place = g.later in (
        h.0,
        (z.still own).parted s ∙ h.1,
        omega (arith, early, later),
        λ k o is. elim (g.sections k o is) [
          | inl old ↦ h.3 k o old
          | inr new ↦ let late : p.now.place ≤ o.place = new.0 in omega (arith, early, late)
        ],
      )

  ready_still : (grade : Grade) (s : ℕ) → owner_of p.now.resizing ≡ Some i → IsReady p.now f grade s → IsReady p'.now f' grade s
  ready_still Over s own h = over_still s own h
  ready_still (Raising x) s own h = elim h [ inl k ↦ inl (over_still s own k) | inr k ↦ inr (k.0, (z.still own).parted s ∙ k.1) ]
  ready_still (Until x at) s own h = elim h [ inl k ↦ inl (over_still s own k) | inr k ↦ inr (k.0, (z.still own).parted s ∙ k.1) ]

  side_grows : (level b : ℕ) (chain : Chain) (rest : List ℕ) (grade : Grade) → owner_of p.now.resizing ≡ Some i → IsUsed p.now f (level + 1) b → Side m p.now f i level b chain rest grade
      → Side m' p'.now f' i level b chain rest grade
  side_grows level b chain rest grade own used h = record {
    own = h.own;
    order = z.chains (level + 1) b used h.locked.0 ∙ h.order;
    locked = has_locked_grows (level + 1) b chain.first h.locked;
    last = h.last;
    mine = λ s on.
        let k = h.mine s on in (
          k.0,
          k.1,
          k.2,
          z.nodes (level + 1) b s k.0 k.1 k.2 used h.locked.0 (subst (λ (nodes : List ℕ). On s nodes) (sym h.order) (on_left h.own rest s on)) k.3,
          subst (λ (seed : ℕ). bucket_in (level + 1) (hash_of seed k.0) ≡ b) (sym g.seed) k.4,
          ready_still grade s own k.5,
        );
  }

  -- a node of a side stays linked as it is
  stays_linked : (level b : ℕ) (chain : Chain) (rest : List ℕ) (grade : Grade) → IsUsed p.now f (level + 1) b → (h : Side m p.now f i level b chain rest grade) (s : ℕ) → On s h.own → StaysLinked p.now p'.now s
  stays_linked level b chain rest grade used h s on =
      let k = h.mine s on in
      (k.0, k.1, k.2, k.3, z.nodes (level + 1) b s k.0 k.1 k.2 used h.locked.0 (subst (λ (nodes : List ℕ). On s nodes) (sym h.order) (on_left h.own rest s on)) k.3)

  -- a node of what is left of the old chain is on the even side's chain
  on_even : (level b : ℕ) (chains : Chains) (first : Option ℕ) (grade : Grade) (h : Unzipping m p.now f i level b chains first grade) (s : ℕ) → On s h.rest → On s (f.chain (level + 1) b)
  on_even level b chains first grade h s on = subst (λ (nodes : List ℕ). On s nodes) (sym h.even.order) (on_right h.even.own h.rest s on)

  pub unzipping_grows : (level b : ℕ) (chains : Chains) (first : Option ℕ) (grade : Grade) → Unzipping m p.now f i level b chains first grade → Unzipping m' p'.now f' i level b chains first grade
  unfolding side_grows
  unzipping_grows level b chains first grade h =
      let even : IsUsed p.now f (level + 1) b = split_used p.now f i level b b h.resizing h.below (inl refl) in
      let odd : IsUsed p.now f (level + 1) (b + 2 ^ level) = split_used p.now f i level b (b + 2 ^ level) h.resizing h.below (inr refl) in
      let sides : (h.even.own ≡ evens_of p'.now level b h.done) × (h.odd.own ≡ odds_of p'.now level b h.done) = sides_stay p.now p'.now level b h.even.own h.odd.own h.done g.seed (λ s on. elim on [
        | inl e ↦ stays_linked level b chains.even h.rest grade even h.even s e
        | inr o ↦ stays_linked level (b + 2 ^ level) chains.odd h.rest grade odd h.odd s o
      ]) h.even_is h.odd_is in
      record {
        done = h.done;
        rest = h.rest;
        path = path_kept (links m) (links m') first h.rest (λ s on. ap node_of (z.links (level + 1) b s even h.even.locked.0 (on_even level b chains first grade h s on))) h.path;
        even = side_grows level b chains.even h.rest grade h.resizing.owner even h.even;
        odd = side_grows level (b + 2 ^ level) chains.odd h.rest grade h.resizing.owner odd h.odd;
        even_is = sides.0;
        odd_is = sides.1;
        latest = h.latest;
        below = h.below;
        resizing = resizing_grows level (Splitting b) NoHead h.resizing;
      }

  -- the first of them
  of_side_grows : (level b : ℕ) (chains : Chains) (x : ℕ) (side : sides.Side) → Unzipping m p.now f i level b chains (Some x) Over → IsOfSide p.now level x side → IsOfSide p'.now level x side
  of_side_grows level b chains x side h k = (
    k.0,
    k.1,
    k.2,
    z.nodes (level + 1) b x k.0 k.1 k.2 (split_used p.now f i level b b h.resizing h.below (inl refl)) h.even.locked.0
        (on_even level b chains (Some x) Over h x (path_begins (links m) x h.rest h.path)) k.3,
    subst (λ (seed : ℕ). side_of level (hash_of seed k.0) ≡ side) (sym g.seed) k.4,
  )

  unzip_link_grows : (level b : ℕ) (chains : Chains) (x : ℕ) → Unzipping m p.now f i level b chains (Some x) Over → m' (place.Link x) ≡ m (place.Link x)
  unzip_link_grows level b chains x h = z.links (level + 1) b x (split_used p.now f i level b b h.resizing h.below (inl refl)) h.even.locked.0
      (on_even level b chains (Some x) Over h x (path_begins (links m) x h.rest h.path))

  unzip_grows : (w : ResizeAlong) (s : UnzipStage) → KnowsUnzip m p.now f i w s → KnowsUnzip m' p'.now f' i w s
  unzip_grows w (unzip.LoadMeta x) h = unzipping_grows w.level w.bucket w.chains (Some x) Over h
  unzip_grows w (unzip.LoadLink x side) h = (unzipping_grows w.level w.bucket w.chains (Some x) Over h.0, of_side_grows w.level w.bucket w.chains x side h.0 h.1)
  unzip_grows w (unzip.MoveEdge x side next) h =
      (unzipping_grows w.level w.bucket w.chains (Some x) Over h.0, of_side_grows w.level w.bucket w.chains x side h.0 h.1, unzip_link_grows w.level w.bucket w.chains x h.0 ∙ h.2)

  -- the heads of a pair
  pub pair_grows : (k b : ℕ) (even odd : Option ℕ) (stage : Stage) (except : ℕ → ℕ → Type 0) → Pair m p.now f i k b even odd stage except → Pair m' p'.now f' i k b even odd stage except
  pair_grows k b even odd stage except h = record {
    below = h.below;
    low = has_locked_grows (k + 1) b even h.low;
    high = has_locked_grows (k + 1) (b + 2 ^ k) odd h.high;
    resizing = resizing_grows (k + 1) stage except h.resizing;
  }

  has_pair_grows : (k b : ℕ) (even odd : Option ℕ) (stage : Stage) → HasPair m p.now f i k b even odd stage → HasPair m' p'.now f' i k b even odd stage
  has_pair_grows k b even odd stage h = (pair_grows k b even odd stage (OneHead k b) h.0, has_locked_grows k b (joined_first even odd) h.1)

  joint_grows : (k b : ℕ) (even odd first : Option ℕ) (except : ℕ → ℕ → Type 0) → Pair m p.now f i k b even odd (Joining k b) except → Joint m f k b first → Joint m' f' k b first
  joint_grows k b even odd first except h j =
      let low : IsUsed p.now f (k + 1) b = even_joined_used p.now f i k b except h.resizing h.below in
      let high : IsUsed p.now f (k + 1) (b + 2 ^ k) = odd_joined_used p.now f i k b except h.resizing h.below in
      let a : f'.chain (k + 1) b ≡ f.chain (k + 1) b = z.chains (k + 1) b low h.low.0 in
      let c : f'.chain (k + 1) (b + 2 ^ k) ≡ f.chain (k + 1) (b + 2 ^ k) = z.chains (k + 1) (b + 2 ^ k) high h.high.0 in
      record {
        whole = j.whole;
        evens = j.evens;
        order = j.order ∙ ap (λ (nodes : List ℕ). j.evens ++ nodes) (sym c);
        path = path_kept (links m) (links m') first j.whole (λ s on. elim (j.back s on) [
          | inl o ↦ ap node_of (z.links (k + 1) b s low h.low.0 o)
          | inr o ↦ ap node_of (z.links (k + 1) (b + 2 ^ k) s high h.high.0 o)
        ]) j.path;
        once = j.once;
        even = λ s on. j.even s (subst (λ (nodes : List ℕ). On s nodes) a on);
        odd = λ s on. j.odd s (subst (λ (nodes : List ℕ). On s nodes) c on);
        back = λ s on. elim (j.back s on) [
          | inl o ↦ inl (subst (λ (nodes : List ℕ). On s nodes) (sym a) o)
          | inr o ↦ inr (subst (λ (nodes : List ℕ). On s nodes) (sym c) o)
        ];
      }

  -- a node of the even chain of a pair
  on_low_grows : (k b : ℕ) (even odd : Option ℕ) (x : ℕ) → HasPair m p.now f i k b even odd (Shrinking k b) → On x (f.chain (k + 1) b) → On x (f'.chain (k + 1) b)
  on_low_grows k b even odd x h on =
      subst (λ (nodes : List ℕ). On x nodes) (sym (z.chains (k + 1) b (even_used p.now f i k b (OneHead k b) h.0.resizing h.0.below) h.0.low.0)) on

  join_grows : (k : ℕ) (w : ResizeAlong) (s : JoinStage) → KnowsJoin m p.now f i k w s → KnowsJoin m' p'.now f' i k w s
  join_grows k w (join.LoadLink x) h =
      (has_pair_grows k w.bucket (evens w) (odds w) (Shrinking k w.bucket) h.0, on_low_grows k w.bucket (evens w) (odds w) x h.0 h.1)
  join_grows k w (join.JoinChains x) h = (
    has_pair_grows k w.bucket (evens w) (odds w) (Shrinking k w.bucket) h.0,
    on_low_grows k w.bucket (evens w) (odds w) x h.0 h.1,
    z.links (k + 1) w.bucket x (even_used p.now f i k w.bucket (OneHead k w.bucket) h.0.0.resizing h.0.0.below) h.0.0.low.0 h.1 ∙ h.2,
  )

  turned_grows : (k b : ℕ) (even odd : Option ℕ) → HasTurned m p.now f i k b even odd → HasTurned m' p'.now f' i k b even odd
  turned_grows k b even odd h =
      let high : IsUsed p.now f (k + 1) (b + 2 ^ k) = odd_turned_used p.now f i k b NoHead h.3 h.0 in
      let new : IsUsed p.now f k b = new_turned_used p.now f i k b NoHead h.3 in (
        h.0,
        has_locked_grows (k + 1) (b + 2 ^ k) odd h.1,
        has_locked_grows k b (joined_first even odd) h.2,
        resizing_grows (k + 1) (Turning k b) NoHead h.3,
        (h.4.0, z.chains k b new h.2.0 ∙ h.4.1 ∙ ap (λ (nodes : List ℕ). h.4.0 ++ nodes) (sym (z.chains (k + 1) (b + 2 ^ k) high h.1.0))),
      )

  opened_grows : (k b : ℕ) (first : Option ℕ) → HasOpened m p.now f i k b first → HasOpened m' p'.now f' i k b first
  opened_grows k b first h = (h.0, has_locked_grows k b first h.1, resizing_grows (k + 1) (Shrinking k (b + 1)) NoHead h.2)

  split_grows : (level b : ℕ) (first : Option ℕ) → HasSplit m p.now f i level b first → HasSplit m' p'.now f' i level b first
  split_grows level b first h = (
    h.0,
    has_locked_grows level b first h.1,
    has_locked_grows (level + 1) b first h.2,
    has_locked_grows (level + 1) (b + 2 ^ level) first h.3,
    resizing_grows level (Growing b) (TwoHeads (level + 1) b (b + 2 ^ level)) h.4,
  )

  -- graces
  graced_still : (r : graces.Grace) (at : ℕ) → Graced p.now r at → Graced p'.now r at
  graced_still r at h =
      let early : at < p.now.place = h.early in
      let later : p.now.place ≤ p'.now.place = g.later in
      record {
        early = omega (arith, early, later);
        newer = λ k o is counter. elim (g.sections k o is) [ inl old ↦ h.newer k o old counter | inr new ↦ let late : p.now.place ≤ o.place = new.0 in omega (arith, early, late) ];
        passed = λ k o below is. elim (g.sections k o is) [ inl old ↦ h.passed k o below old | inr new ↦ let late : p.now.place ≤ o.place = new.0 in omega (arith, early, late) ];
      }

  since_same : owner_of p.now.resizing ≡ Some i → p'.now.since ≡ p.now.since
  since_same own = (z.still own).since

  new_still : owner_of p.now.resizing ≡ Some i → AreNew p.now → AreNew p'.now
  new_still own h k o is =
      let same : p'.now.since ≡ p.now.since = since_same own in
      let now : p.now.since ≤ p.now.place = tidy.since in
      elim (g.sections k o is) [
        | inl old ↦ let known : p.now.since ≤ o.place = h k o old in omega (arith, same, known)
        | inr new ↦ let late : p.now.place ≤ o.place = new.0 in omega (arith, same, now, late)
      ]

  last_grows : (level : ℕ) (r : graces.Grace) (s : GraceStage) → KnowsLast p.now f i level r s → KnowsLast p'.now f' i level r s
  last_grows level r grace.RaiseCounter h = resizing_grows level Closing NoHead h
  last_grows level r grace.LoadSection h =
      (resizing_grows level Closing NoHead h.0, (h.1.0, graced_still r h.1.0 h.1.1, (let same : p'.now.since ≡ p.now.since = since_same h.0.owner in let early : p.now.since ≤ h.1.0 = h.1.2 in omega (arith, same, early))))

  moved_grows : (w : ResizeAlong) (s : GraceStage) → KnowsMoved m p.now f i w s → KnowsMoved m' p'.now f' i w s
  moved_grows w grace.RaiseCounter h = (h.0, unzipping_grows w.level w.bucket w.chains w.rest (Raising h.0) h.1, (z.still h.1.resizing.owner).parted h.0 ∙ h.2)
  moved_grows w grace.LoadSection h = (h.0, h.1, unzipping_grows w.level w.bucket w.chains w.rest (Until h.0 h.1) h.2, graced_still w.grace h.1 h.3)

  -- A GROW AND A SHRINK

  grow_grows : (w : ResizeAlong) (s : ResizeStage) → KnowsGrow m p.now f i w s → KnowsGrow m' p'.now f' i w s
  grow_grows w PutNewLevel h = resizing_grows w.level Quiet NoHead h
  grow_grows w (Lock side s) h = (h.0, resizing_grows w.level (Growing w.bucket) NoHead h.1)
  grow_grows w (PutHead Even) h = (h.0, has_locked_grows w.level w.bucket (evens w) h.1, h.2, resizing_grows w.level (Growing w.bucket) NoHead h.3)
  grow_grows w (PutHead Odd) h = (
    h.0,
    has_locked_grows w.level w.bucket (evens w) h.1,
    h.2,
    has_locked_grows (w.level + 1) w.bucket (evens w) h.3,
    resizing_grows w.level (Growing w.bucket) (OneHead (w.level + 1) w.bucket) h.4,
  )
  grow_grows w (RedirectHead side) h = (h.0, split_grows w.level w.bucket (evens w) h.1)
  grow_grows w (Unzip s) h = unzip_grows w s h
  grow_grows w (Join s) h = absurd h
  grow_grows w (UnlockHead Even) h = unzipping_grows w.level w.bucket w.chains None Over h
  grow_grows w (UnlockHead Odd) h =
      (h.0, has_locked_grows (w.level + 1) (w.bucket + 2 ^ w.level) (odds w) h.1, resizing_grows w.level (Growing (w.bucket + 1)) NoHead h.2)
  grow_grows w (Grace after.Unzip s) h = moved_grows w s h
  grow_grows w (Grace after.UnlockHead s) h = absurd h
  grow_grows w (Grace after.ClearNewLevel s) h = last_grows (w.level + 1) w.grace s h
  grow_grows w StoreLevel h = resizing_grows w.level (Growing (2 ^ w.level)) NoHead h
  grow_grows w ClearNewLevel h = (resizing_grows (w.level + 1) Closing NoHead h.0, new_still h.0.owner h.1)
  grow_grows w GiveResizeLock h = resizing_grows (w.level + 1) Quiet NoHead h

  shrink_grows : (k : ℕ) (w : ResizeAlong) (s : ResizeStage) → KnowsShrink m p.now f i k w s → KnowsShrink m' p'.now f' i k w s
  shrink_grows k w PutNewLevel h = resizing_grows (k + 1) Quiet NoHead h
  shrink_grows k w (Lock Even s) h = (h.0, resizing_grows (k + 1) (Shrinking k w.bucket) NoHead h.1)
  shrink_grows k w (Lock Odd s) h = (h.0, has_locked_grows (k + 1) w.bucket (evens w) h.1, resizing_grows (k + 1) (Shrinking k w.bucket) NoHead h.2)
  shrink_grows k w (PutHead side) h = pair_grows k w.bucket (evens w) (odds w) (Shrinking k w.bucket) NoHead h
  shrink_grows k w (RedirectHead Even) h = (
    has_pair_grows k w.bucket (evens w) (odds w) (Joining k w.bucket) h.0,
    joint_grows k w.bucket (evens w) (odds w) (joined_first (evens w) (odds w)) (OneHead k w.bucket) h.0.0 h.1,
  )
  shrink_grows k w (RedirectHead Odd) h = turned_grows k w.bucket (evens w) (odds w) h
  shrink_grows k w (Unzip s) h = absurd h
  shrink_grows k w (Join s) h = join_grows k w s h
  shrink_grows k w (UnlockHead side) h = opened_grows k w.bucket (joined_first (evens w) (odds w)) h
  shrink_grows k w (Grace after.Unzip s) h = absurd h
  shrink_grows k w (Grace after.UnlockHead s) h = opened_grows k w.bucket (joined_first (evens w) (odds w)) h
  shrink_grows k w (Grace after.ClearNewLevel s) h = last_grows k w.grace s h
  shrink_grows k w StoreLevel h = resizing_grows (k + 1) (Shrinking k (2 ^ k)) NoHead h
  shrink_grows k w ClearNewLevel h = (resizing_grows k Closing NoHead h.0, new_still h.0.owner h.1)
  shrink_grows k w GiveResizeLock h = resizing_grows k Quiet NoHead h

  -- what a grow or a shrink knows
  pub resize_grows : (d : Direction) (w : ResizeAlong) (s : ResizeStage) → KnowsResize m p.now f i d w s → KnowsResize m' p'.now f' i d w s
  resize_grows Grow w s h = grow_grows w s h
  resize_grows Shrink w s h = (h.0, h.1, shrink_grows h.0 w s h.2)
