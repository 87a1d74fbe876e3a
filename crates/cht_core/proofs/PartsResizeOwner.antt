-- The texts whose nodes are on two chains are those of the bucket that a grow unzips, or of the pair that a shrink redirects.
use Rattle.std.proofs.Common.{◌≡◌, ℕ, ◌+◌, ◌-◌, ◌^◌, true, List, Option, Some, None, is_some, IfSome, refl, sym, ap, subst, ◌∙◌, arith}
use Rattle.std.specs.Option.{option_map}
use Rattle.text_words.specs.Hash.{hash_of}
use Rattle.intern_log.specs.declared.event.Event.{Event}
use Rattle.intern_log.specs.Now.{Now, Resizing, owner_of}
use Rattle.call_machine.specs.declared.begin.BeginStage.{BeginStage}
use Rattle.call_machine.specs.declared.begin.BeginStage.TheVariants as begin
use Rattle.call_machine.specs.declared.begin.Left.TheVariants as left
use Rattle.call_machine.specs.declared.grace.GraceStage.TheVariants.{RaiseCounter, LoadSection}
use Rattle.call_machine.specs.declared.machine.Machine.TheVariants as machine
use Rattle.call_machine.specs.declared.resize.AfterGrace.TheVariants as after
use Rattle.call_machine.specs.declared.resize.Direction.{Direction}
use Rattle.call_machine.specs.declared.resize.Direction.TheVariants.{Grow, Shrink}
use Rattle.call_machine.specs.declared.resize.JoinStage.TheVariants as join
use Rattle.call_machine.specs.declared.resize.ResizeAlong.{ResizeAlong}
use Rattle.call_machine.specs.declared.resize.ResizeStage.{ResizeStage}
use Rattle.call_machine.specs.declared.resize.ResizeStage.TheVariants.{PutNewLevel, Lock, PutHead, RedirectHead, Unzip, Join, UnlockHead, Grace, StoreLevel, ClearNewLevel, GiveResizeLock}
use Rattle.call_machine.specs.declared.resize.Side.{Side}
use Rattle.call_machine.specs.declared.resize.Side.TheVariants.{Even, Odd}
use Rattle.call_machine.specs.declared.resize.UnzipStage.TheVariants as unzip
use Rattle.call_machine.specs.declared.work.Work.{Work}
use Rattle.call_machine.specs.declared.work.Work.TheVariants as work
use Rattle.call_machine.specs.Poll.{work_left}
use Rattle.call_machine.specs.WholeMachine.{has_lock_at}
use Rattle.cht_core.specs.declared.seat.Seat.{Seat}
use Rattle.cht_core.specs.declared.seat.Seat.TheVariants as doing
use Rattle.cht_core.specs.declared.table.Table.{Table}
use Rattle.cht_core.specs.Bounds.{work_of}
use Rattle.cht_core.specs.Flow.{Flow}
use Rattle.cht_core.specs.Invariant.{Inv}
use Rattle.cht_core.specs.KnowsResize.{KnowsGrow, KnowsShrink, KnowsResize}
use Rattle.cht_core.specs.KnowsWork.{KnowsWork, KnowsBegin}
use Rattle.cht_core.specs.Memory.{Memory}
use Rattle.cht_core.specs.Owes.{IsAllOf, is_owner}
use Rattle.cht_core.specs.PartsResize.{IsAside, unzips_at}
use Rattle.cht_core.specs.Past.{Past, past_of}
use Rattle.cht_core.specs.Stage.{Stage, Quiet, Growing, Splitting, Shrinking, Joining, Turning, Closing, bucket_in, IsOnTwo}
use Rattle.cht_core.specs.View.{View, Knows}

-- WHAT A WORK KNOWS OF ITS TABLE

-- the work of a seat knows what its stage says
pub work_known : (t : Table) (m : Memory) (p : Past) (f : Flow) (k : ℕ) (v : View) (w : Work) → Knows t m p f k v → work_of v.seat ≡ Some w → KnowsWork m p f k w
work_known t m p f k v w known is = go v.seat known is
  where
    of_some : (o : Option Work) → IfSome o (KnowsWork m p f k) → o ≡ Some w → KnowsWork m p f k w
    of_some o known is = subst (λ (x : Option Work). IfSome x (KnowsWork m p f k)) is known

    go : (s : Seat) → Knows t m p f k (record v { seat = s }) → work_of s ≡ Some w → KnowsWork m p f k w
    go (doing.Idle own) known is = of_some own.work known.1.1 is
    go (doing.Running (machine.Call c x g)) known is = of_some x known.1.1 is
    go (doing.Running (machine.Begin b)) known is = absurd (cc)
    go (doing.Running (machine.Poll q)) known is = of_some (work_left q.work q.answer) known.1.1 is
    go (doing.Running (machine.Sweep s)) known is = absurd (cc)

-- the text with a hash is of the bucket, or of the pair, that a work has in hand
abbrev pub InHand : Now → ℕ → Direction → ResizeAlong → ResizeStage → Type 0
InHand n hash Grow w s = (node : Option ℕ) × (unzips_at w s ≡ Some node) × (bucket_in n.level hash ≡ w.bucket) × (n.level ≡ w.level)
InHand n hash Shrink w s = (side : Side) × (s ≡ RedirectHead side) × (bucket_in (w.level - 1) hash ≡ w.bucket)

module _ (m : Memory) (p : Past) (f : Flow) (i hash : ℕ) (two : IsOnTwo f.stage p.now.level hash) where
  at : (st : Stage) → f.stage ≡ st → IsOnTwo st p.now.level hash
  at st is = subst (λ (x : Stage). IsOnTwo x p.now.level hash) is two

  grow_in_hand : (w : ResizeAlong) (s : ResizeStage) → KnowsGrow m p.now f i w s → InHand p.now hash Grow w s
  grow_in_hand w PutNewLevel h = absurd (at Quiet h.at_stage)
  grow_in_hand w (Lock side s) h = absurd (at (Growing w.bucket) h.1.at_stage)
  grow_in_hand w (PutHead Even) h = absurd (at (Growing w.bucket) h.3.at_stage)
  grow_in_hand w (PutHead Odd) h = absurd (at (Growing w.bucket) h.4.at_stage)
  grow_in_hand w (RedirectHead side) h = absurd (at (Growing w.bucket) h.1.4.at_stage)
  grow_in_hand w (Unzip (unzip.LoadMeta x)) h = (Some x, refl, at (Splitting w.bucket) h.resizing.at_stage, h.resizing.at_level)
  grow_in_hand w (Unzip (unzip.LoadLink x side)) h = (Some x, refl, at (Splitting w.bucket) h.0.resizing.at_stage, h.0.resizing.at_level)
  grow_in_hand w (Unzip (unzip.MoveEdge x side next)) h = (Some x, refl, at (Splitting w.bucket) h.0.resizing.at_stage, h.0.resizing.at_level)
  grow_in_hand w (Join s) h = absurd h
  grow_in_hand w (UnlockHead Even) h = (None, refl, at (Splitting w.bucket) h.resizing.at_stage, h.resizing.at_level)
  grow_in_hand w (UnlockHead Odd) h = absurd (at (Growing (w.bucket + 1)) h.2.at_stage)
  grow_in_hand w (Grace after.Unzip RaiseCounter) h = (w.rest, refl, at (Splitting w.bucket) h.1.resizing.at_stage, h.1.resizing.at_level)
  grow_in_hand w (Grace after.Unzip LoadSection) h = (w.rest, refl, at (Splitting w.bucket) h.2.resizing.at_stage, h.2.resizing.at_level)
  grow_in_hand w (Grace after.UnlockHead s) h = absurd h
  grow_in_hand w (Grace after.ClearNewLevel RaiseCounter) h = absurd (at Closing h.at_stage)
  grow_in_hand w (Grace after.ClearNewLevel LoadSection) h = absurd (at Closing h.0.at_stage)
  grow_in_hand w StoreLevel h = absurd (at (Growing (2 ^ w.level)) h.at_stage)
  grow_in_hand w ClearNewLevel h = absurd (at Closing h.0.at_stage)
  grow_in_hand w GiveResizeLock h = absurd (at Quiet h.at_stage)

  half_is : (k : ℕ) (w : ResizeAlong) → w.level ≡ k + 1 → bucket_in k hash ≡ w.bucket → bucket_in (w.level - 1) hash ≡ w.bucket
  half_is k w level mine = ap (λ (r : ℕ). bucket_in r hash) (let less : w.level - 1 ≡ k = omega (arith, level) in less) ∙ mine

  shrink_in_hand : (k : ℕ) (w : ResizeAlong) (s : ResizeStage) → w.level ≡ k + 1 → KnowsShrink m p.now f i k w s → InHand p.now hash Shrink w s
  shrink_in_hand k w PutNewLevel level h = absurd (at Quiet h.at_stage)
  shrink_in_hand k w (Lock Even s) level h = absurd (at (Shrinking k w.bucket) h.1.at_stage)
  shrink_in_hand k w (Lock Odd s) level h = absurd (at (Shrinking k w.bucket) h.2.at_stage)
  shrink_in_hand k w (PutHead side) level h = absurd (at (Shrinking k w.bucket) h.resizing.at_stage)
  shrink_in_hand k w (RedirectHead Even) level h = (Even, refl, half_is k w level (at (Joining k w.bucket) h.0.0.resizing.at_stage))
  shrink_in_hand k w (RedirectHead Odd) level h = (Odd, refl, half_is k w level (at (Turning k w.bucket) h.3.at_stage))
  shrink_in_hand k w (Unzip s) level h = absurd h
  shrink_in_hand k w (Join (join.LoadLink x)) level h = absurd (at (Shrinking k w.bucket) h.0.0.resizing.at_stage)
  shrink_in_hand k w (Join (join.JoinChains x)) level h = absurd (at (Shrinking k w.bucket) h.0.0.resizing.at_stage)
  shrink_in_hand k w (UnlockHead side) level h = absurd (at (Shrinking k (w.bucket + 1)) h.2.at_stage)
  shrink_in_hand k w (Grace after.Unzip s) level h = absurd h
  shrink_in_hand k w (Grace after.UnlockHead s) level h = absurd (at (Shrinking k (w.bucket + 1)) h.2.at_stage)
  shrink_in_hand k w (Grace after.ClearNewLevel RaiseCounter) level h = absurd (at Closing h.at_stage)
  shrink_in_hand k w (Grace after.ClearNewLevel LoadSection) level h = absurd (at Closing h.0.at_stage)
  shrink_in_hand k w StoreLevel level h = absurd (at (Shrinking k (2 ^ k)) h.at_stage)
  shrink_in_hand k w ClearNewLevel level h = absurd (at Closing h.0.at_stage)
  shrink_in_hand k w GiveResizeLock level h = absurd (at Quiet h.at_stage)

  resize_in_hand : (d : Direction) (w : ResizeAlong) (s : ResizeStage) → KnowsResize m p.now f i d w s → InHand p.now hash d w s
  resize_in_hand Grow w s h = grow_in_hand w s h
  resize_in_hand Shrink w s h = shrink_in_hand h.0 w s h.1 h.2

  -- who has the resize lock has such a work
  abbrev pub HasInHand : Option Work → Type 0
  HasInHand o = (d : Direction) × (w : ResizeAlong) × (s : ResizeStage) × (o ≡ Some (work.Resize (record { direction = d; along = w; stage = s }))) × InHand p.now hash d w s

  work_in_hand : (o : Option Work) → IfSome o (KnowsWork m p f i) → is_some o ≡ true → HasInHand o
  work_in_hand None known has = absurd (cc)
  work_in_hand (Some (work.Clean c)) known has = absurd (at Quiet known.0.at_stage)
  work_in_hand (Some (work.Resize r)) known has = (r.direction, r.along, r.stage, refl, resize_in_hand r.direction r.along r.stage known)

  begin_apart : (s : BeginStage) → KnowsBegin p.now f i s → has_lock_at s ≡ true → ⊥
  begin_apart (begin.LoadCounter x) known has = cc
  begin_apart (begin.TakeResizeLock x) known has = cc
  begin_apart (begin.LoadLevel d) known has = at Quiet known.at_stage
  begin_apart (begin.GiveResizeLock a) known has = at Quiet known.at_stage
  begin_apart (begin.Grace g s) known has = cc
  begin_apart (begin.Answered a left.Nothing) known has = cc
  begin_apart (begin.Answered a left.Clean) known has = at Quiet known.at_stage
  begin_apart (begin.Answered a (left.Resize d level)) known has = at Quiet known.at_stage
  begin_apart (begin.Answered a (left.Grace g)) known has = cc

  owner_in_hand : (t : Table) (v : View) (s : Seat) → Knows t m p f i (record v { seat = s }) → is_owner s ≡ true → HasInHand (work_of s)
  owner_in_hand t v (doing.Idle own) known has = work_in_hand own.work known.1.1 has
  owner_in_hand t v (doing.Running (machine.Call c w g)) known has = work_in_hand w known.1.1 has
  owner_in_hand t v (doing.Running (machine.Begin b)) known has = absurd (begin_apart b.stage known.1.1 has)
  owner_in_hand t v (doing.Running (machine.Poll q)) known has = work_in_hand (work_left q.work q.answer) known.1.1 has
  owner_in_hand t v (doing.Running (machine.Sweep s)) known has = absurd (cc)

module _ (t : Table) (m : Memory) (seat : ℕ → Option View) (log : List Event) (inv : Inv t m seat log) where
  abbrev past : Past
  past = past_of t.shape.min_level log

  -- a seat that has the resize lock is there
  pub owner_seat : (i : ℕ) → owner_of past.now.resizing ≡ Some i → (v : View) × (seat i ≡ Some v) × (is_owner v.seat ≡ true)
  owner_seat i own = go (seat i) refl (inv.owes i)
    where
      go : (o : Option View) → seat i ≡ o → IsAllOf past i (option_map (λ (x : View). x.seat) o) → (v : View) × (seat i ≡ Some v) × (is_owner v.seat ≡ true)
      go None is owes = absurd (owes.owner own)
      go (Some v) is owes = (v, is, owes.owner own)

  -- a text whose nodes are on two chains is in hand
  pub aside_one : (text : List ℕ) → IsAside past.now seat text → IsOnTwo inv.flow.stage past.now.level (hash_of past.now.seed text) → ⊥
  aside_one text aside two = by_owner past.now.resizing refl
    where
      hash : ℕ
      hash = hash_of past.now.seed text

      in_hand : (i : ℕ) (v : View) (d : Direction) (w : ResizeAlong) (s : ResizeStage) → seat i ≡ Some v → work_of v.seat ≡ Some (work.Resize (record { direction = d; along = w; stage = s }))
          → InHand past.now hash d w s → ⊥
      in_hand i v Grow w s here is has =
          aside.unzips i v w s has.0 (record { resize = record { view = here; work = is }; at = has.1 }) (ap (λ (r : ℕ). bucket_in r hash) (sym has.3) ∙ has.2)
      in_hand i v Shrink w s here is has =
          aside.joins i v w has.0 (record { view = here; work = subst (λ (x : ResizeStage). work_of v.seat ≡ Some (work.Resize (record { direction = Shrink; along = w; stage = x }))) has.1 is }) has.2

      by_owner : (o : Option Resizing) → past.now.resizing ≡ o → ⊥
      by_owner None none = subst (λ (st : Stage). IsOnTwo st past.now.level hash) (inv.table.idle none) two
      by_owner (Some r) is =
          let k : (v : View) × (seat r.seat ≡ Some v) × (is_owner v.seat ≡ true) = owner_seat r.seat (ap owner_of is) in
          let work = owner_in_hand m past inv.flow r.seat hash two t k.0 k.0.seat (inv.knows r.seat k.0 k.1) k.2 in
          in_hand r.seat k.0 work.0 work.1 work.2 k.1 work.3 work.4
