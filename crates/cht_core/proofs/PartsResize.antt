-- The parts of the invariant in a resize hold.
use Rattle.std.proofs.Common.{◌≡◌, ◌≢◌, ℕ, ◌+◌, ◌-◌, ◌^◌, ◌<◌, ◌≤◌, List, length, ◌++◌, Option, Some, None, sym, subst, ◌∙◌, inl, inr, arith}
use Rattle.text_words.specs.Hash.{hash_of}
use Rattle.intern_log.specs.declared.event.Event.{Event}
use Rattle.intern_log.specs.declared.event.Handle.{Handle}
use Rattle.intern_log.specs.Now.{Now, OpenSection, Linked}
use Rattle.call_machine.specs.declared.grace.GraceStage.TheVariants.{RaiseCounter, LoadSection}
use Rattle.call_machine.specs.declared.resize.AfterGrace.TheVariants as after
use Rattle.call_machine.specs.declared.resize.Direction.{Direction}
use Rattle.call_machine.specs.declared.resize.Direction.TheVariants.{Grow, Shrink}
use Rattle.call_machine.specs.declared.resize.ResizeAlong.{ResizeAlong}
use Rattle.call_machine.specs.declared.resize.ResizeStage.{ResizeStage}
use Rattle.call_machine.specs.declared.resize.ResizeStage.TheVariants.{PutNewLevel, Lock, PutHead, RedirectHead, Unzip, Join, UnlockHead, Grace, StoreLevel, ClearNewLevel, GiveResizeLock}
use Rattle.call_machine.specs.declared.resize.Side.{Side}
use Rattle.call_machine.specs.declared.resize.Side.TheVariants.{Even, Odd}
use Rattle.call_machine.specs.declared.resize.UnzipStage.TheVariants as unzip
use Rattle.call_machine.specs.declared.work.Work.TheVariants as work
use Rattle.cht_core.specs.declared.table.Table.{Table}
use Rattle.cht_core.specs.Flow.{Flow}
use Rattle.cht_core.specs.Invariant.{Inv}
use Rattle.cht_core.specs.KnowsResize.{Grade, Over, Raising, Until, Unzipping, KnowsUnzip, KnowsGrow, KnowsShrink, KnowsResize}
use Rattle.cht_core.specs.Memory.{Memory}
use Rattle.cht_core.specs.PartsResize.{IsResize, IsUnzip, IsUnzipped, IsBeforeRaise, IsOnPathFrom, StandsOnItsSide, StandsInItsPair, unzips_at}
use Rattle.cht_core.specs.PartsResize.{LinkedSlotsAreOnPaths, ChainsAreUnzipped, MovesAreOfUnzipping, PairsAreJoined, WalkersKeepToTheirSides, WalkersStayInTheirPairs}
use Rattle.cht_core.specs.Past.{Past, past_of}
use Rattle.cht_core.specs.Stage.{Stage, bucket_in, IsNearIn}
use Rattle.cht_core.specs.View.{View}
use Rattle.cht_core.proofs.PartsResizeOwner.{work_known}
use Rattle.cht_core.proofs.PartsResizeMoves.{next_move}
use Rattle.cht_core.proofs.PartsResizePairs.{PairHere, redirect_pair, pair_at, on_pair}
use Rattle.cht_core.proofs.PartsResizePaths.{linked_on_paths}
use Rattle.cht_core.proofs.PartsResizeSides.{IsLateFor, slots_here, once_here, few_moves, split_here, next_here, stands_here}
use Rattle.cht_core.proofs.PartsResizeWalks.{walk_within}
use Rattle.cht_core.proofs.Stages.{row_up}

-- a section that a move still waits for is from before the raise for it
abbrev IsWaitedFor : Now → ResizeAlong → ResizeStage → Grade → Type 0
IsWaitedFor n w s Over = Unit {0}
IsWaitedFor n w s (Raising x) = (o : OpenSection) → IsBeforeRaise n w s o
IsWaitedFor n w s (Until x at) = (o : OpenSection) → o.place ≤ at → IsBeforeRaise n w s o

-- a grow that unzips a bucket knows its chains
abbrev KnowsChains : Memory → Now → Flow → ℕ → ResizeAlong → ResizeStage → Option ℕ → Type 0
KnowsChains m n f i w s node = (grade : Grade) × Unzipping m n f i w.level w.bucket w.chains node grade × IsWaitedFor n w s grade

known_at : (m : Memory) (n : Now) (f : Flow) (i : ℕ) (w : ResizeAlong) (s : ResizeStage) (a b : Option ℕ) → Some a ≡ Some b → KnowsChains m n f i w s a → KnowsChains m n f i w s b
known_at m n f i w s a b is known = let same : a ≡ b = cc in subst (KnowsChains m n f i w s) same known

unzip_known : (m : Memory) (n : Now) (f : Flow) (i : ℕ) (w : ResizeAlong) (s : ResizeStage) (node : Option ℕ) → KnowsGrow m n f i w s → unzips_at w s ≡ Some node → KnowsChains m n f i w s node
unzip_known m n f i w PutNewLevel next h is = absurd (cc)
unzip_known m n f i w (Lock side s) next h is = absurd (cc)
unzip_known m n f i w (PutHead side) next h is = absurd (cc)
unzip_known m n f i w (RedirectHead side) next h is = absurd (cc)
unzip_known m n f i w (Unzip (unzip.LoadMeta x)) next h is = known_at m n f i w (Unzip (unzip.LoadMeta x)) (Some x) next is (Over, h, tt)
unzip_known m n f i w (Unzip (unzip.LoadLink x side)) next h is = known_at m n f i w (Unzip (unzip.LoadLink x side)) (Some x) next is (Over, h.0, tt)
unzip_known m n f i w (Unzip (unzip.MoveEdge x side to)) next h is = known_at m n f i w (Unzip (unzip.MoveEdge x side to)) (Some x) next is (Over, h.0, tt)
unzip_known m n f i w (Join s) next h is = absurd (cc)
unzip_known m n f i w (UnlockHead Even) next h is = known_at m n f i w (UnlockHead Even) None next is (Over, h, tt)
unzip_known m n f i w (UnlockHead Odd) next h is = absurd (cc)
unzip_known m n f i w (Grace after.Unzip RaiseCounter) next h is = known_at m n f i w (Grace after.Unzip RaiseCounter) w.rest next is (Raising h.0, h.1, λ o. tt)
unzip_known m n f i w (Grace after.Unzip LoadSection) next h is = known_at m n f i w (Grace after.Unzip LoadSection) w.rest next is (Until h.0 h.1, h.2, λ o early. (h.1, h.3, early))
unzip_known m n f i w (Grace after.UnlockHead s) next h is = absurd (cc)
unzip_known m n f i w (Grace after.ClearNewLevel s) next h is = absurd (cc)
unzip_known m n f i w StoreLevel next h is = absurd (cc)
unzip_known m n f i w ClearNewLevel next h is = absurd (cc)
unzip_known m n f i w GiveResizeLock next h is = absurd (cc)

module _ (t : Table) (m : Memory) (seat : ℕ → Option View) (log : List Event) (inv : Inv t m seat log) where
  abbrev past : Past
  past = past_of t.shape.min_level log

  -- what a seat knows of its grow or its shrink
  resize_known : (i : ℕ) (v : View) (d : Direction) (w : ResizeAlong) (s : ResizeStage) → IsResize seat i v d w s → KnowsResize m past.now inv.flow i d w s
  resize_known i v d w s is = work_known t m past inv.flow i v (work.Resize (record { direction = d; along = w; stage = s })) (inv.knows i v is.view) is.work

  chains_known : (i : ℕ) (v : View) (w : ResizeAlong) (s : ResizeStage) (node : Option ℕ) → IsUnzip seat i v w s node → KnowsChains m past.now inv.flow i w s node
  chains_known i v w s node is = unzip_known m past.now inv.flow i w s node (resize_known i v Grow w s is.resize) is.at

  -- each linked slot is on a path
  pub linked_hold : LinkedSlotsAreOnPaths m past.now
  linked_hold = linked_on_paths t m past inv.flow inv.table

  -- the chains of a bucket that is unzipped
  unzipped_by : (i : ℕ) (w : ResizeAlong) (node : Option ℕ) (grade : Grade) (u : Unzipping m past.now inv.flow i w.level w.bucket w.chains node grade)
      → IsUnzipped m past.now w node (u.done ++ u.rest) (length u.done)
  unzipped_by i w node grade u = record {
    slots = slots_here t m past inv.flow i w.level w.bucket w.chains node grade inv.table u;
    once = once_here t m past inv.flow i w.level w.bucket w.chains node grade inv.table u;
    moves = few_moves t m past inv.flow i w.level w.bucket w.chains node grade inv.table u;
    sides = split_here t m past inv.flow i w.level w.bucket w.chains node grade inv.table u;
    next = next_here t m past inv.flow i w.level w.bucket w.chains node grade inv.table u;
  }

  pub unzipped_hold : ChainsAreUnzipped m past.now seat
  unzipped_hold i v w s node is =
      let known : KnowsChains m past.now inv.flow i w s node = chains_known i v w s node is in
      (known.1.done ++ known.1.rest, length known.1.done, unzipped_by i w node known.0 known.1)

  -- the move that comes next
  pub moves_hold : MovesAreOfUnzipping m past.now seat
  moves_hold i v w x side to is =
      let known : KnowsUnzip m past.now inv.flow i w (unzip.MoveEdge x side to) = resize_known i v Grow w (Unzip (unzip.MoveEdge x side to)) is in
      (known.0.done ++ known.0.rest, length known.0.done, unzipped_by i w (Some x) Over known.0, next_move t m past inv.flow i w x inv.table known.0 side to known.1 known.2)

  -- and its walkers
  late_waits : (i : ℕ) (w : ResizeAlong) (s : ResizeStage) (node : Option ℕ) (grade : Grade) (u : Unzipping m past.now inv.flow i w.level w.bucket w.chains node grade) (o : OpenSection) (x : ℕ)
      → IsWaitedFor past.now w s grade → IsLateFor t m past inv.flow i w.level w.bucket w.chains node grade inv.table u o grade x → IsBeforeRaise past.now w s o
  late_waits i w s next Over u o x waits late = absurd late
  late_waits i w s next (Raising y) u o x waits late = waits o
  late_waits i w s next (Until y at) u o x waits late = waits o late.1

  pub sides_hold : WalkersKeepToTheirSides m past.now seat
  sides_hold i v w s node is =
      let known : KnowsChains m past.now inv.flow i w s node = chains_known i v w s node is in (
        known.1.done ++ known.1.rest,
        length known.1.done,
        unzipped_by i w node known.0 known.1,
        λ j u c at walk mine. walk_within t m seat log inv j u c at (StandsOnItsSide past.now w s (known.1.done ++ known.1.rest) (length known.1.done) c.asked.text) walk
            (λ o x text h born inside linked fit.
            elim (stands_here t m past inv.flow i w.level w.bucket w.chains node known.0 inv.table known.1 j x (hash_of past.now.seed c.asked.text) o text h born inside linked fit mine) [
              | inl on ↦ inl on
              | inr late ↦ inr (late_waits i w s node known.0 known.1 o x known.2 late.0, late.1)
            ]),
      )

  -- the chains of a pair that is redirected
  pub pairs_hold : PairsAreJoined m past.now seat
  pairs_hold i v w side is =
      let known : KnowsResize m past.now inv.flow i Shrink w (RedirectHead side) = resize_known i v Shrink w (RedirectHead side) is in
      let pair : PairHere m past.now known.0 w.bucket = redirect_pair t m past inv.flow i known.0 w side inv.table known.2 in
      (pair.0, pair.1, pair_at m past.now known.0 w pair.0 pair.1 known.1 pair.2)

  -- and its walkers
  abbrev NearInPair : ℕ → ℕ → ℕ → ℕ → Type 0
  NearInPair k b hash other = (bucket_in k other ≡ bucket_in k hash) × ((b ≤ bucket_in k hash) × (bucket_in (k + 1) hash ≢ b) → bucket_in (k + 1) other ≡ bucket_in (k + 1) hash)

  near_pair : (i k : ℕ) (w : ResizeAlong) (side : Side) (since hash other : ℕ) → KnowsShrink m past.now inv.flow i k w (RedirectHead side)
      → IsNearIn inv.flow.stage past.now.level past.now.since since hash other → NearInPair k w.bucket hash other
  near_pair i k w Even since hash other known near = subst (λ (st : Stage). IsNearIn st past.now.level past.now.since since hash other) known.0.0.resizing.at_stage near
  near_pair i k w Odd since hash other known near = subst (λ (st : Stage). IsNearIn st past.now.level past.now.since since hash other) known.3.at_stage near

  -- at the pair's own levels
  in_pair : (k : ℕ) (w : ResizeAlong) (pair : PairHere m past.now k w.bucket) (hash s : ℕ) (text : List ℕ) (h : Handle) (born : ℕ) → past.now.slot s ≡ Linked text h born
      → NearInPair k w.bucket hash (hash_of past.now.seed text) → bucket_in k hash ≡ w.bucket
      → IsOnPathFrom m k w.bucket s × (bucket_in (k + 1) hash ≡ w.bucket + 2 ^ k → IsOnPathFrom m (k + 1) (w.bucket + 2 ^ k) s)
  in_pair k w pair hash s text h born linked near mine =
      let up : 0 < 2 ^ k = row_up k in (
        (pair.0 ++ pair.1, pair.2.new, on_pair m past.now k w.bucket s pair.0 pair.1 pair.2 (text, h, born, linked, near.0 ∙ mine)),
        λ odd.
            let same : bucket_in (k + 1) (hash_of past.now.seed text) ≡ bucket_in (k + 1) hash = near.1 (omega (arith, mine), λ low. omega (arith, up, odd, low)) in
            (pair.1, pair.2.odd, (pair.2.are_odd s).1 (text, h, born, linked, same ∙ odd)),
      )

  pub in_pairs_hold : WalkersStayInTheirPairs m past.now seat
  in_pairs_hold i v w side j u c at is walk mine =
      let known : KnowsResize m past.now inv.flow i Shrink w (RedirectHead side) = resize_known i v Shrink w (RedirectHead side) is in
      let pair : PairHere m past.now known.0 w.bucket = redirect_pair t m past inv.flow i known.0 w side inv.table known.2 in
      let less : w.level - 1 ≡ known.0 = (let level : w.level ≡ known.0 + 1 = known.1 in omega (arith, level)) in
      let hash : ℕ = hash_of past.now.seed c.asked.text in
      let here : bucket_in known.0 hash ≡ w.bucket = subst (λ (r : ℕ). bucket_in r hash ≡ w.bucket) less mine in
      walk_within t m seat log inv j u c at (λ o. StandsInItsPair m past.now w c.asked.text) walk (λ o s text h born inside linked fit.
      let on = in_pair known.0 w pair hash s text h born linked (near_pair i known.0 w side o.place hash (hash_of past.now.seed text) known.2 (fit.near text h born linked)) here in
      record {
        new = subst (λ (r : ℕ). IsOnPathFrom m r w.bucket s) (sym less) on.0;
        odd = subst (λ (r : ℕ). bucket_in w.level hash ≡ w.bucket + 2 ^ r → IsOnPathFrom m w.level (w.bucket + 2 ^ r) s) (sym less)
            (subst (λ (l : ℕ). bucket_in l hash ≡ w.bucket + 2 ^ known.0 → IsOnPathFrom m l (w.bucket + 2 ^ known.0) s) (sym known.1) on.1);
      })
