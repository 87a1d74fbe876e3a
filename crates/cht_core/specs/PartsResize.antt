-- The parts of the invariant of a table in a resize: where its heads lead, and where its walkers may stand.
use Rattle.std.specs.Prelude.{◌≡◌, ◌≢◌, ℕ, ◌+◌, ◌-◌, ◌^◌, ◌<◌, ◌≤◌, ◌⊎◌, ◌↔◌, Bool, true, false, nat_eq, not, List, ◌++◌, take, drop, length, Option, Some, None}
use Rattle.chain_core.specs.Nodes.{On, Once}
use Rattle.chain_core.specs.Path.{IsPath}
use Rattle.resize_core.specs.Moves.{Split}
use Rattle.resize_core.specs.declared.moves.Place.{Place}
use Rattle.resize_core.specs.declared.moves.Place.TheVariants.{EvenHead, OddHead, Link}
use Rattle.resize_core.specs.Unzip.{side_after, move_past, IsSplit}
use Rattle.marked_word.specs.Head.{is_redirected, first_of}
use Rattle.marked_word.specs.Number.{new_level_word}
use Rattle.table_shape.specs.declared.place.Place.TheVariants as place
use Rattle.intern_log.specs.declared.event.Handle.{Handle}
use Rattle.intern_log.specs.Buckets.{bucket_of}
use Rattle.intern_log.specs.Now.{Now, OpenSection, Linked}
use Rattle.atomic_step.specs.declared.step.Edge.{Edge}
use Rattle.atomic_step.specs.declared.step.Edge.TheVariants as edge
use Rattle.call_machine.specs.declared.grace.GraceStage.TheVariants as grace
use Rattle.call_machine.specs.declared.resize.AfterGrace.TheVariants as after
use Rattle.call_machine.specs.declared.resize.Direction.{Direction}
use Rattle.call_machine.specs.declared.resize.Direction.TheVariants.{Grow, Shrink}
use Rattle.call_machine.specs.declared.resize.ResizeAlong.{ResizeAlong}
use Rattle.call_machine.specs.declared.resize.ResizeStage.{ResizeStage}
use Rattle.call_machine.specs.declared.resize.ResizeStage.TheVariants as stage
use Rattle.call_machine.specs.declared.resize.Side.{Side}
use Rattle.call_machine.specs.declared.resize.Side.TheVariants.{Even}
use Rattle.call_machine.specs.declared.resize.UnzipStage.{UnzipStage}
use Rattle.call_machine.specs.declared.resize.UnzipStage.TheVariants as unzip
use Rattle.call_machine.specs.declared.stage.Calling.{Calling}
use Rattle.call_machine.specs.declared.work.Work.TheVariants as work
use Rattle.call_machine.specs.Resize.{other, end_of}
use Rattle.cht_core.specs.Bounds.{work_of}
use Rattle.cht_core.specs.KnowsResize.{Graced, is_odd_in}
use Rattle.cht_core.specs.Memory.{Memory, links}
use Rattle.cht_core.specs.Parts.{IsWalk}
use Rattle.cht_core.specs.Search.{IsLinked, IsUnlinkedSince}
use Rattle.cht_core.specs.View.{View}

-- PATHS

-- the slot is linked with a text of a bucket, in a row
abbrev pub IsLinkedIn : Now → ℕ → ℕ → ℕ → Type 0
IsLinkedIn n row bucket s = (text : List ℕ) × (h : Handle) × (born : ℕ) × (n.slot s ≡ Linked text h born) × (bucket_of n.seed row text ≡ bucket)

-- the slot is on the path from a head
abbrev pub IsOnPathFrom : Memory → ℕ → ℕ → ℕ → Type 0
IsOnPathFrom m row bucket s = (nodes : List ℕ) × IsPath (links m) (first_of (m (place.Head row bucket))) nodes × On s nodes

-- a caller comes to the level's row, or where the head of its text is redirected there, to the row that the new-level word names
abbrev pub CallersComeTo : Memory → Now → List ℕ → ℕ → Type 0
CallersComeTo m n text row = ((row ≡ n.level) × (is_redirected (m (place.Head n.level (bucket_of n.seed n.level text))) ≡ false))
    ⊎ ((m place.NewLevel ≡ new_level_word (Some row)) × (is_redirected (m (place.Head n.level (bucket_of n.seed n.level text))) ≡ true))

-- each linked slot is on the path from the head to which callers of its text come
abbrev pub LinkedSlotsAreOnPaths : Memory → Now → Type 0
LinkedSlotsAreOnPaths m n = (s : ℕ) (text : List ℕ) (h : Handle) (born : ℕ) → n.slot s ≡ Linked text h born →
    (row : ℕ) × CallersComeTo m n text row × IsOnPathFrom m row (bucket_of n.seed row text) s

-- SEATS THAT RESIZE

-- the seat has a grow or a shrink that is at a stage
pub record IsResize (seat : ℕ → Option View) (i : ℕ) (v : View) (d : Direction) (w : ResizeAlong) (s : ResizeStage) : Type 0 where
  pub view : seat i ≡ Some v
  pub work : work_of v.seat ≡ Some (work.Resize (record { direction = d; along = w; stage = s }))

-- from the redirect of a bucket to its first unlock a grow unzips it: the node that comes next, if one is left
abbrev pub unzips_node : UnzipStage → ℕ
unzips_node (unzip.LoadMeta x) = x
unzips_node (unzip.LoadLink x side) = x
unzips_node (unzip.MoveEdge x side next) = x

abbrev pub unzips_at : ResizeAlong → ResizeStage → Option (Option ℕ)
unzips_at w (stage.Unzip s) = Some (Some (unzips_node s))
unzips_at w (stage.Grace after.Unzip s) = Some w.rest
unzips_at w (stage.UnlockHead Even) = Some None
unzips_at w s = None

pub record IsUnzip (seat : ℕ → Option View) (i : ℕ) (v : View) (w : ResizeAlong) (s : ResizeStage) (node : Option ℕ) : Type 0 where
  pub resize : IsResize seat i v Grow w s
  pub at : unzips_at w s ≡ Some node

-- from the join of a pair to the second of its redirects a shrink redirects its heads
abbrev pub IsRedirect : (ℕ → Option View) → ℕ → View → ResizeAlong → Side → Type 0
IsRedirect seat i v w side = IsResize seat i v Shrink w (stage.RedirectHead side)

-- CHAINS THAT ARE UNZIPPED, AND THAT ARE JOINED

-- both new heads of a bucket, with the links
abbrev pub split_of : Memory → ℕ → ℕ → Split
split_of m level b = record {
  heads = record { even = first_of (m (place.Head (level + 1) b)); odd = first_of (m (place.Head (level + 1) (b + 2 ^ level))) };
  next = links m;
}

-- after so many moves at the nodes of a bucket, which are its linked slots, each new head leads to those of its own side among the passed ones and then to
-- all that are left; of these the next one comes first
pub record IsUnzipped (m : Memory) (n : Now) (w : ResizeAlong) (node : Option ℕ) (nodes : List ℕ) (k : ℕ) : Type 0 where
  pub slots : (s : ℕ) → On s nodes ↔ IsLinkedIn n w.level w.bucket s
  pub once : Once nodes
  pub moves : k ≤ length nodes
  pub sides : IsSplit (split_of m w.level w.bucket) (is_odd_in n w.level w.bucket) nodes k
  pub next : IsPath (links m) node (drop k nodes)

abbrev pub ChainsAreUnzipped : Memory → Now → (ℕ → Option View) → Type 0
ChainsAreUnzipped m n seat = (i : ℕ) (v : View) (w : ResizeAlong) (s : ResizeStage) (node : Option ℕ) → IsUnzip seat i v w s node → (nodes : List ℕ) × (k : ℕ) × IsUnzipped m n w node nodes k

-- where a place of an unzipping is in the table
abbrev pub edge_at : ℕ → ℕ → Place → Edge
edge_at level b EvenHead = edge.Head (level + 1) b
edge_at level b OddHead = edge.Head (level + 1) (b + 2 ^ level)
edge_at level b (Link s) = edge.Link s

-- the move that a grow makes next is that of unzipping these nodes at the node that comes after the passed ones
pub record IsMoveOf (m : Memory) (n : Now) (w : ResizeAlong) (x : ℕ) (passed : List ℕ) (from : Edge) (to : Option ℕ) : Type 0 where
  pub place : edge_at w.level w.bucket (move_past (links m) (is_odd_in n w.level w.bucket) passed x).place ≡ from
  pub next : (move_past (links m) (is_odd_in n w.level w.bucket) passed x).to ≡ to

abbrev pub MovesAreOfUnzipping : Memory → Now → (ℕ → Option View) → Type 0
MovesAreOfUnzipping m n seat = (i : ℕ) (v : View) (w : ResizeAlong) (x : ℕ) (side : Side) (to : Option ℕ) → IsResize seat i v Grow w (stage.Unzip (unzip.MoveEdge x side to)) →
    (nodes : List ℕ) × (k : ℕ) × IsUnzipped m n w (Some x) nodes k × IsMoveOf m n w x (take k nodes) (end_of Grow w (other side)) to

-- the new head of a pair leads to the even nodes and then to the odd ones
pub record IsJoinedPair (m : Memory) (n : Now) (w : ResizeAlong) (evens odds : List ℕ) : Type 0 where
  pub are_even : (s : ℕ) → On s evens ↔ IsLinkedIn n w.level w.bucket s
  pub are_odd : (s : ℕ) → On s odds ↔ IsLinkedIn n w.level (w.bucket + 2 ^ (w.level - 1)) s
  pub once : Once (evens ++ odds)
  pub new : IsPath (links m) (first_of (m (place.Head (w.level - 1) w.bucket))) (evens ++ odds)
  pub odd : IsPath (links m) (first_of (m (place.Head w.level (w.bucket + 2 ^ (w.level - 1))))) odds

abbrev pub PairsAreJoined : Memory → Now → (ℕ → Option View) → Type 0
PairsAreJoined m n seat = (i : ℕ) (v : View) (w : ResizeAlong) (side : Side) → IsRedirect seat i v w side → (evens : List ℕ) × (odds : List ℕ) × IsJoinedPair m n w evens odds

-- WALKERS

-- each node of a walk, from its own one on, is linked and an allowed one, or was unlinked after the Open of the walker's section
pub record IsWalkWithin (m : Memory) (n : Now) (j : ℕ) (at : Option ℕ) (Allowed : OpenSection → ℕ → Type 0) : Type 0 where
  pub section : OpenSection
  pub inside : n.section j ≡ Some section
  pub ahead : List ℕ
  pub path : IsPath (links m) at ahead
  pub nodes : (s : ℕ) → On s ahead → (IsLinked n s × Allowed section s) ⊎ IsUnlinkedSince n section.place s

-- a section is from before the raise for the last move: that was not made yet, or it was at a place, by which the section was open
abbrev pub IsBeforeRaise : Now → ResizeAlong → ResizeStage → OpenSection → Type 0
IsBeforeRaise n w (stage.Grace after.Unzip grace.RaiseCounter) o = Unit {0}
IsBeforeRaise n w (stage.Grace after.Unzip grace.LoadSection) o = (at : ℕ) × Graced n w.grace at × (o.place ≤ at)
IsBeforeRaise n w s o = ⊥

-- the path of the side of a text after so many moves
abbrev pub side_nodes : Bool → (ℕ → Bool) → ℕ → List ℕ → List ℕ
side_nodes true is_odd k nodes = side_after is_odd k nodes
side_nodes false is_odd k nodes = side_after (λ node. not (is_odd node)) k nodes

abbrev pub path_of : Now → ResizeAlong → List ℕ → ℕ → List ℕ → List ℕ
path_of n w text k nodes = side_nodes (nat_eq (bucket_of n.seed (w.level + 1) text) (w.bucket + 2 ^ w.level)) (is_odd_in n w.level w.bucket) k nodes

-- a walker of the bucket stands on the path of its text's side; or on that before the last move, where its section is from before the raise for that
abbrev pub StandsOnItsSide : Now → ResizeAlong → ResizeStage → List ℕ → ℕ → List ℕ → OpenSection → ℕ → Type 0
StandsOnItsSide n w stage nodes k text o s = On s (path_of n w text k nodes) ⊎ (IsBeforeRaise n w stage o × On s (path_of n w text (k - 1) nodes))

abbrev pub WalkersKeepToTheirSides : Memory → Now → (ℕ → Option View) → Type 0
WalkersKeepToTheirSides m n seat = (i : ℕ) (v : View) (w : ResizeAlong) (s : ResizeStage) (node : Option ℕ) → IsUnzip seat i v w s node →
    (nodes : List ℕ) × (k : ℕ) × IsUnzipped m n w node nodes k
    × ((j : ℕ) (u : View) (c : Calling) (at : Option ℕ) → IsWalk seat j u c at → bucket_of n.seed w.level c.asked.text ≡ w.bucket → IsWalkWithin m n j at (StandsOnItsSide n w s nodes k c.asked.text))

-- a walker of a pair that is redirected stands on the path from its new head, and where its text is of the odd bucket on that from the odd head
pub record StandsInItsPair (m : Memory) (n : Now) (w : ResizeAlong) (text : List ℕ) (s : ℕ) : Type 0 where
  pub new : IsOnPathFrom m (w.level - 1) w.bucket s
  pub odd : bucket_of n.seed w.level text ≡ w.bucket + 2 ^ (w.level - 1) → IsOnPathFrom m w.level (w.bucket + 2 ^ (w.level - 1)) s

abbrev pub WalkersStayInTheirPairs : Memory → Now → (ℕ → Option View) → Type 0
WalkersStayInTheirPairs m n seat = (i : ℕ) (v : View) (w : ResizeAlong) (side : Side) (j : ℕ) (u : View) (c : Calling) (at : Option ℕ) → IsRedirect seat i v w side → IsWalk seat j u c at →
    bucket_of n.seed (w.level - 1) c.asked.text ≡ w.bucket → IsWalkWithin m n j at (λ o. StandsInItsPair m n w c.asked.text)

-- no grow unzips the bucket of a text, and no shrink redirects its pair
pub record IsAside (n : Now) (seat : ℕ → Option View) (text : List ℕ) : Type 0 where
  pub unzips : (i : ℕ) (v : View) (w : ResizeAlong) (s : ResizeStage) (node : Option ℕ) → IsUnzip seat i v w s node → bucket_of n.seed w.level text ≢ w.bucket
  pub joins : (i : ℕ) (v : View) (w : ResizeAlong) (side : Side) → IsRedirect seat i v w side → bucket_of n.seed (w.level - 1) text ≢ w.bucket

-- a walker whose section was opened since the last Level stands on the path from the head to which callers of its text come; and an older one on the path from
-- a head of the level's row
pub record StandsOnPaths (m : Memory) (n : Now) (text : List ℕ) (row : ℕ) (o : OpenSection) (s : ℕ) : Type 0 where
  pub new : n.since ≤ o.place → IsOnPathFrom m row (bucket_of n.seed row text) s
  pub old : o.place < n.since → (bucket : ℕ) × (bucket < 2 ^ n.level) × IsOnPathFrom m n.level bucket s

abbrev pub WalkersStandOnPaths : Memory → Now → (ℕ → Option View) → Type 0
WalkersStandOnPaths m n seat = (j : ℕ) (u : View) (c : Calling) (at : Option ℕ) (row : ℕ) → IsWalk seat j u c at → IsAside n seat c.asked.text → CallersComeTo m n c.asked.text row →
    IsWalkWithin m n j at (StandsOnPaths m n c.asked.text row)
