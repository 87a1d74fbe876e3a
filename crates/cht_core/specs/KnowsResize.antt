-- What a grow or a shrink knows of the table at each of its stages.
use Rattle.std.specs.Prelude.{◌≡◌, ℕ, ◌+◌, ◌^◌, ◌<◌, ◌≤◌, ◌⊎◌, Bool, false, nat_eq, not, List, [], ◌∷◌, ◌++◌, filter, Option, Some, None}
use Rattle.chain_core.specs.Nodes.{On, Once}
use Rattle.chain_core.specs.Path.{IsPath}
use Rattle.marked_word.specs.Link.{link_word}
use Rattle.table_shape.specs.declared.place.Place.TheVariants as place
use Rattle.text_words.specs.Hash.{hash_of}
use Rattle.intern_log.specs.declared.event.Handle.{Handle}
use Rattle.intern_log.specs.Now.{Now, OpenSection, Phase, Linked, owner_of}
use Rattle.atomic_step.specs.declared.step.Edge.{Edge}
use Rattle.atomic_step.specs.Step.{locked_head}
use Rattle.call_machine.specs.declared.grace.Grace as graces
use Rattle.call_machine.specs.declared.grace.GraceStage.{GraceStage}
use Rattle.call_machine.specs.declared.grace.GraceStage.TheVariants as grace
use Rattle.call_machine.specs.declared.resize.AfterGrace.TheVariants as after
use Rattle.call_machine.specs.declared.resize.Chain.{Chain}
use Rattle.call_machine.specs.declared.resize.Chains.{Chains}
use Rattle.call_machine.specs.declared.resize.Direction.{Direction}
use Rattle.call_machine.specs.declared.resize.Direction.TheVariants.{Grow, Shrink}
use Rattle.call_machine.specs.declared.resize.JoinStage.{JoinStage}
use Rattle.call_machine.specs.declared.resize.JoinStage.TheVariants as join
use Rattle.call_machine.specs.declared.resize.ResizeAlong.{ResizeAlong}
use Rattle.call_machine.specs.declared.resize.ResizeStage.{ResizeStage}
use Rattle.call_machine.specs.declared.resize.ResizeStage.TheVariants.{PutNewLevel, Lock, PutHead, RedirectHead, Unzip, Join, UnlockHead, Grace, StoreLevel, ClearNewLevel, GiveResizeLock}
use Rattle.call_machine.specs.declared.resize.Side as sides
use Rattle.call_machine.specs.declared.resize.Side.TheVariants.{Even, Odd}
use Rattle.call_machine.specs.declared.resize.UnzipStage.{UnzipStage}
use Rattle.call_machine.specs.declared.resize.UnzipStage.TheVariants as unzip
use Rattle.call_machine.specs.Resize.{chains_from, joined_first, side_of, other, chain_at, edge_from}
use Rattle.cht_core.specs.Flow.{Flow, IsUsed}
use Rattle.cht_core.specs.Memory.{Memory, links}
use Rattle.cht_core.specs.Stage.{Stage, Quiet, Growing, Splitting, Shrinking, Joining, Turning, Closing, Pending, Since, bucket_in}

-- GRACES

-- a grace that began at a place: each section with a counter from the raised one on was opened after it, and so was each of those that were passed
pub record Graced (n : Now) (g : graces.Grace) (at : ℕ) : Type 0 where
  pub early : at < n.place
  pub newer : (k : ℕ) (o : OpenSection) → n.section k ≡ Some o → g.raised ≤ o.counter → at < o.place
  pub passed : (k : ℕ) (o : OpenSection) → k < g.next → n.section k ≡ Some o → at < o.place

-- THE ROWS

-- some heads, to which no callers come, that the owner has locked
abbrev pub NoHead : ℕ → ℕ → Type 0
NoHead row bucket = ⊥

abbrev pub OneHead : ℕ → ℕ → ℕ → ℕ → Type 0
OneHead level b row bucket = (row ≡ level) × (bucket ≡ b)

abbrev pub TwoHeads : ℕ → ℕ → ℕ → ℕ → ℕ → Type 0
TwoHeads level b other row bucket = (row ≡ level) × ((bucket ≡ b) ⊎ (bucket ≡ other))

-- the seat has the resize lock, at this level and stage; of the heads to which no callers come nobody has locked any, except for some, and for those
-- of the level's row, which are redirected
pub record Resizing (n : Now) (f : Flow) (i level : ℕ) (stage : Stage) (except : ℕ → ℕ → Type 0) : Type 0 where
  pub owner : owner_of n.resizing ≡ Some i
  pub at_level : n.level ≡ level
  pub at_stage : f.stage ≡ stage
  pub free : (row bucket : ℕ) → ¬ (IsUsed n f row bucket) → ¬ (except row bucket) → (row ≡ n.level → 2 ^ n.level ≤ bucket) → n.lock row bucket ≡ None

-- the seat has locked the head, which leads to a first node
abbrev pub HasLocked : Memory → Now → ℕ → ℕ → ℕ → Option ℕ → Type 0
HasLocked m n i row bucket first = (n.lock row bucket ≡ Some i) × (m (place.Head row bucket) ≡ locked_head first)

-- UNZIPPING

-- how far the grace after the last move is: it is over, or the counter is to be raised for a node, or that was done at a place and the grace goes on
pub data Grade : Type 0 where
  Over : Grade
  Raising : ℕ → Grade
  Until : ℕ → ℕ → Grade

-- the slot was moved past, and every section was opened after the raise for it
abbrev pub IsOver : Now → Flow → ℕ → Type 0
IsOver n f s = (at : ℕ) × (f.parted s ≡ Since at) × (at < n.place) × ((k : ℕ) (o : OpenSection) → n.section k ≡ Some o → at < o.place)

abbrev pub IsReady : Now → Flow → Grade → ℕ → Type 0
IsReady n f Over s = IsOver n f s
IsReady n f (Raising x) s = IsOver n f s ⊎ ((s ≡ x) × (f.parted s ≡ Pending))
IsReady n f (Until x at) s = IsOver n f s ⊎ ((s ≡ x) × (f.parted s ≡ Since at))

-- the last node of a list, or none
abbrev pub IsLast : Option ℕ → List ℕ → Type 0
IsLast None own = own ≡ []
IsLast (Some last) own = (front : List ℕ) × (own ≡ front ++ last ∷ [])

-- one side of a bucket that is unzipped: its own nodes so far, and then what is left of the old chain
pub record Side (m : Memory) (n : Now) (f : Flow) (i level b : ℕ) (chain : Chain) (rest : List ℕ) (grade : Grade) : Type 0 where
  pub own : List ℕ
  pub order : f.chain (level + 1) b ≡ own ++ rest
  pub locked : HasLocked m n i (level + 1) b chain.first
  pub last : IsLast chain.last own
  pub mine : (s : ℕ) → On s own → (text : List ℕ) × (h : Handle) × (at : ℕ) × (n.slot s ≡ Linked text h at) × (bucket_in (level + 1) (hash_of n.seed text) ≡ b) × IsReady n f grade s

-- a slot is linked with a text of a bucket, in a row
abbrev pub is_phase_of : ℕ → ℕ → ℕ → Phase → Bool
is_phase_of seed row bucket (Linked text h born) = nat_eq (bucket_in row (hash_of seed text)) bucket
is_phase_of seed row bucket _ = false

-- whether a node is on the odd side of a bucket
abbrev pub is_odd_in : Now → ℕ → ℕ → ℕ → Bool
is_odd_in n level b node = is_phase_of n.seed (level + 1) (b + 2 ^ level) (n.slot node)

-- while a node is the one that was passed last, it is the last of those that were passed
abbrev pub IsLatest : Grade → List ℕ → Type 0
IsLatest Over done = Unit {0}
IsLatest (Raising x) done = (front : List ℕ) × (done ≡ front ++ x ∷ [])
IsLatest (Until x at) done = (front : List ℕ) × (done ≡ front ++ x ∷ [])

-- the nodes that were passed, in their order, and those that are left: each side has its own of the first, and all of the second
pub record Unzipping (m : Memory) (n : Now) (f : Flow) (i level b : ℕ) (chains : Chains) (node : Option ℕ) (grade : Grade) : Type 0 where
  pub done : List ℕ
  pub rest : List ℕ
  pub path : IsPath (links m) node rest
  pub even : Side m n f i level b chains.even rest grade
  pub odd : Side m n f i level (b + 2 ^ level) chains.odd rest grade
  pub even_is : even.own ≡ filter (λ s. not (is_odd_in n level b s)) done
  pub odd_is : odd.own ≡ filter (is_odd_in n level b) done
  pub latest : IsLatest grade done
  pub below : b < 2 ^ level
  pub resizing : Resizing n f i level (Splitting b) NoHead

-- the node is linked with a text of a side
abbrev pub IsOfSide : Now → ℕ → ℕ → sides.Side → Type 0
IsOfSide n level s side = (text : List ℕ) × (h : Handle) × (at : ℕ) × (n.slot s ≡ Linked text h at) × (side_of level (hash_of n.seed text) ≡ side)

abbrev pub KnowsUnzip : Memory → Now → Flow → ℕ → ResizeAlong → UnzipStage → Type 0
KnowsUnzip m n f i w (unzip.LoadMeta x) = Unzipping m n f i w.level w.bucket w.chains (Some x) Over
KnowsUnzip m n f i w (unzip.LoadLink x side) = Unzipping m n f i w.level w.bucket w.chains (Some x) Over × IsOfSide n w.level x side
KnowsUnzip m n f i w (unzip.MoveEdge x side next) =
    Unzipping m n f i w.level w.bucket w.chains (Some x) Over × IsOfSide n w.level x side × (m (place.Link x) ≡ link_word next)

-- JOINING

-- from the word of the new head on: the nodes of both old chains, the even ones first
pub record Joint (m : Memory) (f : Flow) (k b : ℕ) (first : Option ℕ) : Type 0 where
  pub whole : List ℕ
  pub evens : List ℕ
  pub order : whole ≡ evens ++ f.chain (k + 1) (b + 2 ^ k)
  pub path : IsPath (links m) first whole
  pub once : Once whole
  pub even : (s : ℕ) → On s (f.chain (k + 1) b) → On s whole
  pub odd : (s : ℕ) → On s (f.chain (k + 1) (b + 2 ^ k)) → On s whole
  pub back : (s : ℕ) → On s whole → On s (f.chain (k + 1) b) ⊎ On s (f.chain (k + 1) (b + 2 ^ k))

-- both old heads of a pair are locked
pub record Pair (m : Memory) (n : Now) (f : Flow) (i k b : ℕ) (even odd : Option ℕ) (stage : Stage) (except : ℕ → ℕ → Type 0) : Type 0 where
  pub below : b < 2 ^ k
  pub low : HasLocked m n i (k + 1) b even
  pub high : HasLocked m n i (k + 1) (b + 2 ^ k) odd
  pub resizing : Resizing n f i (k + 1) stage except

-- the same, and its new head is locked, which leads to the even nodes, or where there are none to the odd ones; no callers know it yet
abbrev pub HasPair : Memory → Now → Flow → ℕ → ℕ → ℕ → Option ℕ → Option ℕ → Stage → Type 0
HasPair m n f i k b even odd stage = Pair m n f i k b even odd stage (OneHead k b) × HasLocked m n i k b (joined_first even odd)

-- the odd bucket of the pair is still to be redirected: the new chain ends with its nodes
abbrev pub HasTurned : Memory → Now → Flow → ℕ → ℕ → ℕ → Option ℕ → Option ℕ → Type 0
HasTurned m n f i k b even odd = (b < 2 ^ k) × HasLocked m n i (k + 1) (b + 2 ^ k) odd × HasLocked m n i k b (joined_first even odd)
    × Resizing n f i (k + 1) (Turning k b) NoHead × ((evens : List ℕ) × (f.chain k b ≡ evens ++ f.chain (k + 1) (b + 2 ^ k)))

-- the pair is redirected, and its new head still locked
abbrev pub HasOpened : Memory → Now → Flow → ℕ → ℕ → ℕ → Option ℕ → Type 0
HasOpened m n f i k b first = (b < 2 ^ k) × HasLocked m n i k b first × Resizing n f i (k + 1) (Shrinking k (b + 1)) NoHead

-- the bucket is locked with both new heads, which lead to its first node
abbrev pub HasSplit : Memory → Now → Flow → ℕ → ℕ → ℕ → Option ℕ → Type 0
HasSplit m n f i level b first = (b < 2 ^ level) × HasLocked m n i level b first × HasLocked m n i (level + 1) b first × HasLocked m n i (level + 1) (b + 2 ^ level) first
    × Resizing n f i level (Growing b) (TwoHeads (level + 1) b (b + 2 ^ level))

-- every section was opened after the last Level
abbrev pub AreNew : Now → Type 0
AreNew n = (k : ℕ) (o : OpenSection) → n.section k ≡ Some o → n.since ≤ o.place

-- WHAT THE STEPS OF A RESIZE ASK

-- the new level is told, or it is no more since every section was opened after the last Level
abbrev pub MayPutNewLevel : Now → Flow → ℕ → Option ℕ → Type 0
MayPutNewLevel n f i (Some new) = Resizing n f i n.level Quiet NoHead × ((new ≡ n.level + 1) ⊎ (n.level ≡ new + 1))
MayPutNewLevel n f i None = Resizing n f i n.level Closing NoHead × AreNew n

-- one of the two new heads of a bucket; or the new head of a pair
abbrev pub IsNewOfBucket : Now → Flow → ℕ → ℕ → ℕ → Type 0
IsNewOfBucket n f i row bucket = (b : ℕ) × (owner_of n.resizing ≡ Some i) × (f.stage ≡ Growing b) × (b < 2 ^ n.level) × (row ≡ n.level + 1) × ((bucket ≡ b) ⊎ (bucket ≡ b + 2 ^ n.level))
    × (n.lock row bucket ≡ None)

abbrev pub IsNewOfPair : Memory → Now → Flow → ℕ → ℕ → ℕ → Option ℕ → Type 0
IsNewOfPair m n f i row bucket first = (even : Option ℕ) × (odd : Option ℕ) × Pair m n f i row bucket even odd (Shrinking row bucket) NoHead × (first ≡ joined_first even odd)

-- a bucket is redirected; or the even bucket of a pair, or the odd one
abbrev pub MayRedirect : Memory → Now → Flow → ℕ → ℕ → ℕ → Option ℕ → Type 0
MayRedirect m n f i row bucket first = ((row ≡ n.level) × HasSplit m n f i row bucket first)
    ⊎ (((k : ℕ) × (odd : Option ℕ) × (row ≡ k + 1) × HasPair m n f i k bucket first odd (Joining k bucket) × Joint m f k bucket (joined_first first odd))
    ⊎ ((k : ℕ) × (b : ℕ) × (even : Option ℕ) × (row ≡ k + 1) × (bucket ≡ b + 2 ^ k) × HasTurned m n f i k b even first))

-- the bucket of a side of a row's bucket
abbrev pub side_bucket : ℕ → ℕ → sides.Side → ℕ
side_bucket level b Even = b
side_bucket level b Odd = b + 2 ^ level

-- the end of the chain of the side to which the next node does not belong is moved past it
pub record MayMove (m : Memory) (n : Now) (f : Flow) (i : ℕ) (from : Edge) (next : Option ℕ) : Type 0 where
  pub bucket : ℕ
  pub chains : Chains
  pub node : ℕ
  pub side : sides.Side
  pub unzipping : Unzipping m n f i n.level bucket chains (Some node) Over
  pub of_side : IsOfSide n n.level node side
  pub link : m (place.Link node) ≡ link_word next
  pub edge : from ≡ edge_from (n.level + 1) (side_bucket n.level bucket (other side)) (chain_at chains (other side)).last

-- the level comes after the last bucket, or the last pair
abbrev pub MayStoreLevel : Now → Flow → ℕ → ℕ → Type 0
MayStoreLevel n f i new = ((new ≡ n.level + 1) × Resizing n f i n.level (Growing (2 ^ n.level)) NoHead) ⊎ Resizing n f i (new + 1) (Shrinking new (2 ^ new)) NoHead

-- the last even node of a pair leads to none, and is made to lead to the odd ones
abbrev pub MayJoin : Memory → Now → Flow → ℕ → ℕ → Option ℕ → Type 0
MayJoin m n f i slot next = (k : ℕ) × (b : ℕ) × (even : Option ℕ) × HasPair m n f i k b even next (Shrinking k b) × On slot (f.chain (k + 1) b) × (m (place.Link slot) ≡ link_word None)

-- the first of the two new heads of a bucket is unlocked once that is unzipped
abbrev pub EndsUnzip : Memory → Now → Flow → ℕ → ℕ → ℕ → Option ℕ → Type 0
EndsUnzip m n f i row bucket first = (chains : Chains) × (row ≡ n.level + 1) × Unzipping m n f i n.level bucket chains None Over × (first ≡ chains.even.first)

-- STAGES

abbrev pub evens : ResizeAlong → Option ℕ
evens w = w.chains.even.first

abbrev pub odds : ResizeAlong → Option ℕ
odds w = w.chains.odd.first

abbrev pub KnowsJoin : Memory → Now → Flow → ℕ → ℕ → ResizeAlong → JoinStage → Type 0
KnowsJoin m n f i k w (join.LoadLink x) = HasPair m n f i k w.bucket (evens w) (odds w) (Shrinking k w.bucket) × On x (f.chain (k + 1) w.bucket)
KnowsJoin m n f i k w (join.JoinChains x) =
    HasPair m n f i k w.bucket (evens w) (odds w) (Shrinking k w.bucket) × On x (f.chain (k + 1) w.bucket) × (m (place.Link x) ≡ link_word None)

-- the last grace, after the level: once it is over every section was opened after the last Level
abbrev pub KnowsLast : Now → Flow → ℕ → ℕ → graces.Grace → GraceStage → Type 0
KnowsLast n f i level g grace.RaiseCounter = Resizing n f i level Closing NoHead
KnowsLast n f i level g grace.LoadSection = Resizing n f i level Closing NoHead × ((at : ℕ) × Graced n g at × (n.since ≤ at))

-- the graces of a grow: after a move, for the node that was moved past
abbrev pub KnowsMoved : Memory → Now → Flow → ℕ → ResizeAlong → GraceStage → Type 0
KnowsMoved m n f i w grace.RaiseCounter = (x : ℕ) × Unzipping m n f i w.level w.bucket w.chains w.rest (Raising x) × (f.parted x ≡ Pending)
KnowsMoved m n f i w grace.LoadSection = (x : ℕ) × (at : ℕ) × Unzipping m n f i w.level w.bucket w.chains w.rest (Until x at) × Graced n w.grace at

-- a grow, by its old level
abbrev pub KnowsGrow : Memory → Now → Flow → ℕ → ResizeAlong → ResizeStage → Type 0
KnowsGrow m n f i w PutNewLevel = Resizing n f i w.level Quiet NoHead
KnowsGrow m n f i w (Lock side s) = (w.bucket < 2 ^ w.level) × Resizing n f i w.level (Growing w.bucket) NoHead
KnowsGrow m n f i w (PutHead Even) =
    (w.bucket < 2 ^ w.level) × HasLocked m n i w.level w.bucket (evens w) × (w.chains ≡ chains_from (evens w) (evens w)) × Resizing n f i w.level (Growing w.bucket) NoHead
KnowsGrow m n f i w (PutHead Odd) = (w.bucket < 2 ^ w.level) × HasLocked m n i w.level w.bucket (evens w) × (w.chains ≡ chains_from (evens w) (evens w))
    × HasLocked m n i (w.level + 1) w.bucket (evens w) × Resizing n f i w.level (Growing w.bucket) (OneHead (w.level + 1) w.bucket)
KnowsGrow m n f i w (RedirectHead side) = (w.chains ≡ chains_from (evens w) (evens w)) × HasSplit m n f i w.level w.bucket (evens w)
KnowsGrow m n f i w (Unzip s) = KnowsUnzip m n f i w s
KnowsGrow m n f i w (Join s) = ⊥
KnowsGrow m n f i w (UnlockHead Even) = Unzipping m n f i w.level w.bucket w.chains None Over
KnowsGrow m n f i w (UnlockHead Odd) =
    (w.bucket < 2 ^ w.level) × HasLocked m n i (w.level + 1) (w.bucket + 2 ^ w.level) (odds w) × Resizing n f i w.level (Growing (w.bucket + 1)) NoHead
KnowsGrow m n f i w (Grace after.Unzip s) = KnowsMoved m n f i w s
KnowsGrow m n f i w (Grace after.UnlockHead s) = ⊥
KnowsGrow m n f i w (Grace after.ClearNewLevel s) = KnowsLast n f i (w.level + 1) w.grace s
KnowsGrow m n f i w StoreLevel = Resizing n f i w.level (Growing (2 ^ w.level)) NoHead
KnowsGrow m n f i w ClearNewLevel = Resizing n f i (w.level + 1) Closing NoHead × AreNew n
KnowsGrow m n f i w GiveResizeLock = Resizing n f i (w.level + 1) Quiet NoHead

-- a shrink to a level
abbrev pub KnowsShrink : Memory → Now → Flow → ℕ → ℕ → ResizeAlong → ResizeStage → Type 0
KnowsShrink m n f i k w PutNewLevel = Resizing n f i (k + 1) Quiet NoHead
KnowsShrink m n f i k w (Lock Even s) = (w.bucket < 2 ^ k) × Resizing n f i (k + 1) (Shrinking k w.bucket) NoHead
KnowsShrink m n f i k w (Lock Odd s) = (w.bucket < 2 ^ k) × HasLocked m n i (k + 1) w.bucket (evens w) × Resizing n f i (k + 1) (Shrinking k w.bucket) NoHead
KnowsShrink m n f i k w (PutHead side) = Pair m n f i k w.bucket (evens w) (odds w) (Shrinking k w.bucket) NoHead
KnowsShrink m n f i k w (RedirectHead Even) =
    HasPair m n f i k w.bucket (evens w) (odds w) (Joining k w.bucket) × Joint m f k w.bucket (joined_first (evens w) (odds w))
KnowsShrink m n f i k w (RedirectHead Odd) = HasTurned m n f i k w.bucket (evens w) (odds w)
KnowsShrink m n f i k w (Unzip s) = ⊥
KnowsShrink m n f i k w (Join s) = KnowsJoin m n f i k w s
KnowsShrink m n f i k w (UnlockHead side) = HasOpened m n f i k w.bucket (joined_first (evens w) (odds w))
KnowsShrink m n f i k w (Grace after.Unzip s) = ⊥
KnowsShrink m n f i k w (Grace after.UnlockHead s) = HasOpened m n f i k w.bucket (joined_first (evens w) (odds w))
KnowsShrink m n f i k w (Grace after.ClearNewLevel s) = KnowsLast n f i k w.grace s
KnowsShrink m n f i k w StoreLevel = Resizing n f i (k + 1) (Shrinking k (2 ^ k)) NoHead
KnowsShrink m n f i k w ClearNewLevel = Resizing n f i k Closing NoHead × AreNew n
KnowsShrink m n f i k w GiveResizeLock = Resizing n f i k Quiet NoHead

abbrev pub KnowsResize : Memory → Now → Flow → ℕ → Direction → ResizeAlong → ResizeStage → Type 0
KnowsResize m n f i Grow w s = KnowsGrow m n f i w s
KnowsResize m n f i Shrink w s = (k : ℕ) × (w.level ≡ k + 1) × KnowsShrink m n f i k w s
