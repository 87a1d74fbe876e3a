-- The parts of the invariant of a table: what its words, its log and what its seats are at say together.
use Rattle.std.specs.Prelude.{◌≡◌, ℕ, ◌+◌, ◌*◌, ◌/◌, ◌^◌, ◌<◌, ◌≤◌, ◌⊎◌, false, List, [], length, Option, Some, None}
use Rattle.chain_core.specs.Nodes.{On, Once}
use Rattle.chain_core.specs.Path.{IsPath}
use Rattle.marked_word.specs.Head.{is_redirected, first_of}
use Rattle.table_shape.specs.declared.place.Place.TheVariants as place
use Rattle.intern_log.specs.declared.event.Entry.{Entry}
use Rattle.intern_log.specs.declared.event.Event.{Event}
use Rattle.intern_log.specs.declared.event.Handle.{Handle}
use Rattle.intern_log.specs.declared.event.What.TheVariants.{Open}
use Rattle.intern_log.specs.Buckets.{bucket_of}
use Rattle.intern_log.specs.Counts.{events_in}
use Rattle.intern_log.specs.Lawful.{IsGracedSince}
use Rattle.intern_log.specs.Now.{Now, OpenSection, Claimed, Linked, Unlinked}
use Rattle.intern_log.specs.Orderly.{is_grace}
use Rattle.intern_log.specs.Sections.{with_event}
use Rattle.intern_log.specs.TextMap.{entry_of}
use Rattle.atomic_step.specs.Count.{holds_of}
use Rattle.call_machine.specs.declared.begin.BeginStage.{BeginStage}
use Rattle.call_machine.specs.declared.begin.BeginStage.TheVariants as begin
use Rattle.call_machine.specs.declared.begin.Left.TheVariants as left
use Rattle.call_machine.specs.declared.clean.CleanAlong.{CleanAlong}
use Rattle.call_machine.specs.declared.clean.CleanStage.{CleanStage}
use Rattle.call_machine.specs.declared.clean.CleanStage.TheVariants as clean
use Rattle.call_machine.specs.declared.grace.Grace.{Grace}
use Rattle.call_machine.specs.declared.grace.GraceStage.TheVariants as grace
use Rattle.call_machine.specs.declared.machine.Machine.TheVariants as machine
use Rattle.call_machine.specs.declared.node.NodeStage.{NodeStage}
use Rattle.call_machine.specs.declared.node.NodeStage.TheVariants as node
use Rattle.call_machine.specs.declared.stage.Calling.{Calling}
use Rattle.call_machine.specs.declared.stage.CallStage.{CallStage}
use Rattle.call_machine.specs.declared.stage.CallStage.TheVariants as stage
use Rattle.call_machine.specs.declared.sweep.SweepAlong.{SweepAlong}
use Rattle.call_machine.specs.declared.sweep.SweepStage.{SweepStage}
use Rattle.call_machine.specs.declared.sweep.SweepStage.TheVariants as sweep
use Rattle.call_machine.specs.declared.work.Work.{Work}
use Rattle.call_machine.specs.declared.work.Work.TheVariants as work
use Rattle.call_machine.specs.Poll.{work_left}
use Rattle.cht_core.specs.declared.seat.Seat.{Seat}
use Rattle.cht_core.specs.declared.seat.Seat.TheVariants as doing
use Rattle.cht_core.specs.declared.table.Table.{Table}
use Rattle.cht_core.specs.KnowsResize.{Graced}
use Rattle.cht_core.specs.KnowsWork.{slots_in}
use Rattle.cht_core.specs.Memory.{Memory, links}
use Rattle.cht_core.specs.Owes.{claimed_by, waiting_of}
use Rattle.cht_core.specs.Past.{is_use}
use Rattle.cht_core.specs.Search.{IsLinked, IsHeld}
use Rattle.cht_core.specs.TableState.{IsSettled}
use Rattle.cht_core.specs.View.{View}

-- the link of a linked slot, and the head of a bucket of the level's row that is not redirected, lead to a linked slot or to none
pub record EdgesLead (m : Memory) (n : Now) : Type 0 where
  pub of_links : (s next : ℕ) → IsLinked n s → links m s ≡ Some next → IsLinked n next
  pub of_heads : (bucket first : ℕ) → bucket < 2 ^ n.level → is_redirected (m (place.Head n.level bucket)) ≡ false → first_of (m (place.Head n.level bucket)) ≡ Some first → IsLinked n first

-- a slot to which the link of an unlinked slot leads, and which is itself unlinked, was unlinked after it
abbrev pub UnlinkedLeadLater : Memory → Now → Type 0
UnlinkedLeadLater m n = (s next i j at by : ℕ) → n.slot s ≡ Unlinked i at → links m s ≡ Some next → n.slot next ≡ Unlinked j by → at < by

-- a section word without its lowest bit is at most the counter
abbrev pub SectionsAreCounted : Memory → Type 0
SectionsAreCounted m = (k : ℕ) → m (place.Section k) / 2 * 2 ≤ m place.Counter

-- and at most what the counter was at its Open: the first counter and twice the Graces before that
pub record IsCountedAtOpen (t : Table) (m : Memory) (log : List Event) (k : ℕ) (o : OpenSection) : Type 0 where
  pub front : List Event
  pub back : List Event
  pub opened : log ≡ with_event front k (Open o.counter) back
  pub here : length front ≡ o.place
  pub counted : m (place.Section k) / 2 * 2 ≤ t.first_counter + 2 * events_in is_grace front

abbrev pub SectionsAreCountedAtOpen : Table → Memory → Now → List Event → Type 0
SectionsAreCountedAtOpen t m n log = (k : ℕ) (o : OpenSection) → n.section k ≡ Some o → IsCountedAtOpen t m log k o

-- the call that a seat is in the middle of, and the node at which it is
abbrev pub call_of : Seat → Option Calling
call_of (doing.Running (machine.Call c w g)) = Some c
call_of _ = None

abbrev pub node_in : NodeStage → ℕ
node_in (node.Meta s) = s
node_in (node.Text s at) = s
node_in (node.Count s) = s
node_in (node.Link s) = s
node_in (node.Take s count) = s

abbrev pub node_at : CallStage → Option ℕ
node_at (stage.Node s) = Some (node_in s)
node_at _ = None

-- the node of a walker is linked, or was unlinked after the Open of the walker's section
abbrev pub WalkersStandSafely : Now → (ℕ → Option View) → Type 0
WalkersStandSafely n seat = (k : ℕ) (v : View) (c : Calling) (s : ℕ) → seat k ≡ Some v → call_of v.seat ≡ Some c → node_at c.stage ≡ Some s →
    (o : OpenSection) × (n.section k ≡ Some o) × IsHeld n o.place s

-- the grace that a seat has begun by itself
abbrev pub begun_grace : BeginStage → Option Grace
begun_grace (begin.Grace g grace.LoadSection) = Some g
begun_grace (begin.Answered a (left.Grace g)) = Some g
begun_grace _ = None

abbrev pub own_grace : Seat → Option Grace
own_grace (doing.Idle own) = own.grace
own_grace (doing.Running (machine.Call c w g)) = g
own_grace (doing.Running (machine.Begin b)) = begun_grace b.stage
own_grace _ = None

-- the grace that its clean or its sweep has begun, with the slots that wait for it
abbrev pub clean_grace : CleanAlong → CleanStage → Option (Grace × List ℕ)
clean_grace w (clean.Grace freeing grace.LoadSection) = Some (w.grace, slots_in w.cleaning.waiting.items)
clean_grace w _ = None

abbrev pub work_grace : Option Work → Option (Grace × List ℕ)
work_grace (Some (work.Clean c)) = clean_grace c.along c.stage
work_grace _ = None

abbrev pub sweep_grace : SweepAlong → SweepStage → Option (Grace × List ℕ)
sweep_grace w (sweep.Grace grace.LoadSection) = Some (w.grace, slots_in w.cleaning.waiting.items)
sweep_grace w _ = None

abbrev pub waited_grace : Seat → Option (Grace × List ℕ)
waited_grace (doing.Idle own) = work_grace own.work
waited_grace (doing.Running (machine.Call c w g)) = work_grace w
waited_grace (doing.Running (machine.Begin b)) = None
waited_grace (doing.Running (machine.Poll q)) = work_grace (work_left q.work q.answer)
waited_grace (doing.Running (machine.Sweep s)) = sweep_grace s.along s.stage

-- the seat has begun the grace, and these slots wait for it
abbrev pub HasGrace : Seat → Grace → List ℕ → Type 0
HasGrace s g waiting = ((own_grace s ≡ Some g) × (waiting ≡ [])) ⊎ (waited_grace s ≡ Some (g, waiting))

-- for each grace of a seat there is a place: each open section of a number that the grace has passed was opened after it, as was each
-- with a counter from the raised one on, and each slot that waits for the grace was unlinked by the seat before it
abbrev pub GracesHavePlaces : Now → (ℕ → Option View) → Type 0
GracesHavePlaces n seat = (k : ℕ) (v : View) (g : Grace) (waiting : List ℕ) → seat k ≡ Some v → HasGrace v.seat g waiting →
    (at : ℕ) × Graced n g at × ((s : ℕ) → On s waiting → (by : ℕ) × (n.slot s ≡ Unlinked k by) × (by < at))

-- so no section of a number that a grace has passed was open as a slot was unlinked that waits for the grace
abbrev pub PassedSectionsAreNewer : Now → (ℕ → Option View) → Type 0
PassedSectionsAreNewer n seat = (k : ℕ) (v : View) (g : Grace) (waiting : List ℕ) (s j : ℕ) (o : OpenSection) → seat k ≡ Some v → HasGrace v.seat g waiting → On s waiting →
    j < g.next → n.section j ≡ Some o → (by : ℕ) × (n.slot s ≡ Unlinked k by) × (by < o.place)

-- where the walk of a call is: at a node, or at its end; a call that takes an entry that it has found walks no further
abbrev pub walk_at_node : NodeStage → Option (Option ℕ)
walk_at_node (node.Take s count) = None
walk_at_node s = Some (Some (node_in s))

abbrev pub walk_at : CallStage → Option (Option ℕ)
walk_at (stage.Node s) = walk_at_node s
walk_at (stage.Insert s) = Some None
walk_at _ = None

pub record IsWalk (seat : ℕ → Option View) (k : ℕ) (v : View) (c : Calling) (node : Option ℕ) : Type 0 where
  pub view : seat k ≡ Some v
  pub call : call_of v.seat ≡ Some c
  pub at : walk_at c.stage ≡ Some node

-- each node on the path from the node of a walk is linked, or was unlinked after the Open of the walker's section
abbrev pub WalkersAreLedSafely : Memory → Now → (ℕ → Option View) → Type 0
WalkersAreLedSafely m n seat = (k : ℕ) (v : View) (c : Calling) (node : Option ℕ) (ahead : List ℕ) → IsWalk seat k v c node → IsPath (links m) node ahead →
    (o : OpenSection) × (n.section k ≡ Some o) × ((s : ℕ) → On s ahead → IsHeld n o.place s)

-- a walk is in the bucket of its text in its row; that is the level's row while nobody has the resize lock, and for a section that was opened since the
-- last Level also while no row is being replaced
abbrev pub WalksAreRouted : Now → (ℕ → Option View) → Type 0
WalksAreRouted n seat = (k : ℕ) (v : View) (c : Calling) (node : Option ℕ) → IsWalk seat k v c node →
    (c.along.walk.bucket ≡ bucket_of n.seed c.along.walk.row c.asked.text)
    × (n.resizing ≡ None → c.along.walk.row ≡ n.level)
    × ((o : OpenSection) → n.section k ≡ Some o → n.since ≤ o.place → IsSettled n → c.along.walk.row ≡ n.level)

-- the entry was made at or after a place; or before it
abbrev pub IsMadeSince : Now → ℕ → List ℕ → Entry → Type 0
IsMadeSince n load text e = (born : ℕ) × (n.slot e.handle.slot ≡ Linked text e.handle born) × (load ≤ born)

abbrev pub IsMadeBefore : Now → ℕ → List ℕ → Entry → Type 0
IsMadeBefore n load text e = (born : ℕ) × (n.slot e.handle.slot ≡ Linked text e.handle born) × (born < load)

-- the live entry of the text that a walk looks for was made at or after the load of the head, or lies ahead on the path from the node
abbrev pub WalkersMissNothing : Memory → Now → (ℕ → Option View) → Type 0
WalkersMissNothing m n seat = (k : ℕ) (v : View) (c : Calling) (node : Option ℕ) → IsWalk seat k v c node →
    (ahead : List ℕ) × IsPath (links m) node ahead
    × ((e : Entry) → entry_of n.texts c.asked.text ≡ Some e → IsMadeSince n v.load c.asked.text e ⊎ On e.handle.slot ahead)

-- the head of its bucket is the word that an inserter loaded
pub record IsHeadAsLoaded (m : Memory) (seat : ℕ → Option View) (k : ℕ) (v : View) (c : Calling) : Type 0 where
  pub walk : IsWalk seat k v c None
  pub head : m (place.Head c.along.walk.row c.along.walk.bucket) ≡ c.along.walk.head

-- then each live entry of the bucket in that row was made before the load
abbrev pub FirstNodesAreOld : Memory → Now → (ℕ → Option View) → Type 0
FirstNodesAreOld m n seat = (k : ℕ) (v : View) (c : Calling) (text : List ℕ) (e : Entry) → IsHeadAsLoaded m seat k v c → entry_of n.texts text ≡ Some e →
    bucket_of n.seed c.along.walk.row text ≡ c.along.walk.bucket → IsMadeBefore n v.load text e

-- and so the text that is to be inserted has no live entry
abbrev pub InsertedTextsAreAbsent : Memory → Now → (ℕ → Option View) → Type 0
InsertedTextsAreAbsent m n seat = (k : ℕ) (v : View) (c : Calling) → IsHeadAsLoaded m seat k v c → entry_of n.texts c.asked.text ≡ None

-- no node that a walk has passed lies ahead of it, none was passed twice, and they are at most the slots; at a node the call has counted them
pub record IsVisitedOnce (t : Table) (m : Memory) (c : Calling) (node : Option ℕ) (passed : List ℕ) : Type 0 where
  pub apart : (s : ℕ) (ahead : List ℕ) → IsPath (links m) node ahead → On s passed → On s ahead → ⊥
  pub once : Once passed
  pub few : length passed ≤ t.shape.slots
  pub counted : (s : ℕ) → node ≡ Some s → c.along.walk.passed ≡ length passed

abbrev pub NodesAreVisitedOnce : Table → Memory → (ℕ → Option View) → Type 0
NodesAreVisitedOnce t m seat = (k : ℕ) (v : View) (c : Calling) (node : Option ℕ) → IsWalk seat k v c node → IsVisitedOnce t m c node v.passed

-- a call has passed no more nodes, since it last began to find its head, than there are slots
abbrev pub PassedNodesAreFew : Table → (ℕ → Option View) → Type 0
PassedNodesAreFew t seat = (k : ℕ) (v : View) (c : Calling) → seat k ≡ Some v → call_of v.seat ≡ Some c → c.along.walk.passed ≤ t.shape.slots

-- two live texts never have one slot
abbrev pub LiveSlotsDiffer : Now → Type 0
LiveSlotsDiffer n = (text other : List ℕ) (e d : Entry) → entry_of n.texts text ≡ Some e → entry_of n.texts other ≡ Some d → e.handle.slot ≡ d.handle.slot → text ≡ other

-- the slot is linked with the text, and its count word has a hold: no two slots are so with one text
abbrev pub HasLiveEntry : Memory → Now → List ℕ → ℕ → Type 0
HasLiveEntry m n text s = (h : Handle) × (born : ℕ) × (n.slot s ≡ Linked text h born) × (1 ≤ holds_of (m (place.Count s)))

abbrev pub TextsHaveOneEntry : Memory → Now → Type 0
TextsHaveOneEntry m n = (text : List ℕ) (s r : ℕ) → HasLiveEntry m n text s → HasLiveEntry m n text r → s ≡ r

-- a seat frees a slot that it has claimed; or one that it has unlinked, after each section has closed that was open at the Unlink
abbrev pub IsFreedSafely : Now → ℕ → ℕ → Type 0
IsFreedSafely n i s = (n.slot s ≡ Claimed i) ⊎ ((at : ℕ) × (n.slot s ≡ Unlinked i at) × IsGracedSince n at)

-- the slot is claimed by a seat whose call has it; or unlinked by a seat that is still to free it; or an entry was made in it 2^48 times
abbrev pub IsOfCall : Now → (ℕ → Option View) → ℕ → Type 0
IsOfCall n seat s = (k : ℕ) × (v : View) × (seat k ≡ Some v) × (n.slot s ≡ Claimed k) × (claimed_by v.seat ≡ Some s)

abbrev pub IsToBeFreed : Now → (ℕ → Option View) → ℕ → Type 0
IsToBeFreed n seat s = (k : ℕ) × (at : ℕ) × (v : View) × (seat k ≡ Some v) × (n.slot s ≡ Unlinked k at) × On s (waiting_of v.seat)

abbrev pub IsUsedUp : List Event → ℕ → Type 0
IsUsedUp log s = 2 ^ 48 ≤ events_in (is_use s) log

-- each slot that is taken is linked, or one of these
abbrev pub TakenSlotsAreKnown : Memory → Now → (ℕ → Option View) → List Event → Type 0
TakenSlotsAreKnown m n seat log = (s : ℕ) → m (place.Claim s) ≡ 1 → IsLinked n s ⊎ (IsOfCall n seat s ⊎ (IsToBeFreed n seat s ⊎ IsUsedUp log s))
