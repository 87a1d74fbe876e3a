-- What the calls and the graces of the seats of a table are known to know.
use Rattle.std.proofs.Common.{◌≡◌, ℕ, false, List, [], length, Option, Some, None, refl, subst, inl, inr}
use Rattle.chain_core.specs.Path.{IsPath}
use Rattle.text_words.specs.Hash.{hash_of}
use Rattle.marked_word.specs.Head.{is_locked, is_redirected, first_of}
use Rattle.intern_log.specs.Now.{OpenSection}
use Rattle.call_machine.specs.declared.insert.InsertStage.{InsertStage}
use Rattle.call_machine.specs.declared.insert.InsertStage.TheVariants as insert
use Rattle.call_machine.specs.declared.machine.Machine.TheVariants as machine
use Rattle.call_machine.specs.declared.node.NodeStage.{NodeStage}
use Rattle.call_machine.specs.declared.node.NodeStage.TheVariants as node
use Rattle.call_machine.specs.declared.stage.Along.{Along}
use Rattle.call_machine.specs.declared.stage.Asked.{Asked}
use Rattle.call_machine.specs.declared.stage.Calling.{Calling}
use Rattle.call_machine.specs.declared.stage.CallStage.{CallStage}
use Rattle.call_machine.specs.declared.stage.CallStage.TheVariants as stage
use Rattle.cht_core.specs.declared.seat.Seat.{Seat}
use Rattle.cht_core.specs.declared.seat.Seat.TheVariants as doing
use Rattle.cht_core.specs.declared.table.Table.{Table}
use Rattle.cht_core.specs.Flow.{Flow}
use Rattle.cht_core.specs.Stage.{bucket_in}
use Rattle.cht_core.specs.KnowsCall.{KnowsCall, KnowsNode, KnowsInsert, AtEnd, AtNode}
use Rattle.cht_core.specs.Memory.{Memory, links}
use Rattle.cht_core.specs.Parts.{call_of, node_in, node_at, walk_at, walk_at_node}
use Rattle.cht_core.specs.Past.{Past}
use Rattle.cht_core.specs.Search.{IsHeld, Searched, IsSeenWith}
use Rattle.cht_core.specs.TableState.{IsTable}
use Rattle.cht_core.specs.View.{View, Knows}
use Rattle.cht_core.proofs.Walks.{node_fit}

-- the call that a seat is in the middle of is of its table, and knows what its stage says
pub record CallKnown (t : Table) (m : Memory) (p : Past) (f : Flow) (k : ℕ) (v : View) (c : Calling) : Type 0 where
  pub shape : c.asked.shape ≡ t.shape
  pub seed : c.asked.seed ≡ p.now.seed
  pub knows : KnowsCall m p f k v.load v.passed c.asked c.along c.stage

pub call_known : (t : Table) (m : Memory) (p : Past) (f : Flow) (k : ℕ) (v : View) (c : Calling) → Knows t m p f k v → call_of v.seat ≡ Some c → CallKnown t m p f k v c
call_known t m p f k v c known is = go v.seat known is
  where
    go : (s : Seat) → Knows t m p f k (record v { seat = s }) → call_of s ≡ Some c → CallKnown t m p f k v c
    go (doing.Idle own) known is = absurd (cc)
    go (doing.Running (machine.Call d w g)) known is =
        let same : d ≡ c = cc in
        subst (CallKnown t m p f k v) same (record { shape = known.0.shape; seed = known.0.seed; knows = known.1.0 })
    go (doing.Running (machine.Begin b)) known is = absurd (cc)
    go (doing.Running (machine.Poll q)) known is = absurd (cc)
    go (doing.Running (machine.Sweep s)) known is = absurd (cc)

-- a walk at a node, or at its end
pub record WalkKnown (m : Memory) (p : Past) (f : Flow) (k load : ℕ) (passed : List ℕ) (q : Asked) (w : Along) (node : Option ℕ) : Type 0 where
  pub ahead : List ℕ
  pub path : IsPath (links m) node ahead
  pub searched : Searched p.now f k q.text (hash_of q.seed q.text) w.walk.row load (first_of w.walk.head) passed ahead
  pub bucket : w.walk.bucket ≡ bucket_in w.walk.row (hash_of q.seed q.text)
  pub counted : (s : ℕ) → node ≡ Some s → w.walk.passed ≡ length passed
  pub open_head : node ≡ None → is_locked w.walk.head ≡ false
  pub plain : is_redirected w.walk.head ≡ false

module _ (m : Memory) (p : Past) (f : Flow) (k load : ℕ) (passed : List ℕ) (q : Asked) (w : Along) where
  -- an inserter is at the end of its walk
  at_end : (s : InsertStage) → KnowsInsert m p.now f k load passed q w s → AtEnd p.now f k load passed q w
  at_end (insert.Claim slot tried) known = known
  at_end (insert.OwnCount slot) known = known.0
  at_end (insert.PutMeta h) known = known.0
  at_end (insert.PutText h at) known = known.0
  at_end (insert.PutLink h) known = known.0
  at_end (insert.PutCount h) known = known.0
  at_end (insert.Create h) known = known.0

  walk_at_end : AtEnd p.now f k load passed q w → WalkKnown m p f k load passed q w None
  walk_at_end at = record {
    ahead = [];
    path = refl;
    searched = at.searched;
    bucket = at.bucket;
    counted = λ s is. absurd (cc);
    open_head = λ _. at.open_head;
    plain = at.plain;
  }

  walk_here : (s : ℕ) → AtNode m p.now f k load passed q w s → WalkKnown m p f k load passed q w (Some s)
  walk_here s at = record {
    ahead = at.walking.ahead;
    path = at.walking.path;
    searched = at.walking.searched;
    bucket = at.bucket;
    counted = λ _ _. at.counted;
    open_head = λ is. absurd (cc);
    plain = at.plain;
  }

  same_walk : (a b : Option ℕ) → Some a ≡ Some b → WalkKnown m p f k load passed q w a → WalkKnown m p f k load passed q w b
  same_walk a b is known = let same : a ≡ b = cc in subst (WalkKnown m p f k load passed q w) same known

  node_known : (x : Option ℕ) (s : NodeStage) → KnowsNode m p.now f k load passed q w s → walk_at_node s ≡ Some x → WalkKnown m p f k load passed q w x
  node_known x (node.Meta s) known is = same_walk (Some s) x is (walk_here s known)
  node_known x (node.Text s at) known is = same_walk (Some s) x is (walk_here s known.0)
  node_known x (node.Count s) known is = same_walk (Some s) x is (walk_here s known.0)
  node_known x (node.Link s) known is = same_walk (Some s) x is (walk_here s known.0)
  node_known x (node.Take s count) known is = absurd (cc)

  -- the walk of a call
  pub walk_known : (x : Option ℕ) (s : CallStage) → KnowsCall m p f k load passed q w s → walk_at s ≡ Some x → WalkKnown m p f k load passed q w x
  walk_known x (stage.Answered a) known is = absurd (cc)
  walk_known x (stage.Draw s) known is = absurd (cc)
  walk_known x (stage.Find s) known is = absurd (cc)
  walk_known x (stage.Node s) known is = node_known x s known.0.0 is
  walk_known x (stage.Insert s) known is = same_walk None x is (walk_at_end (at_end s known.0))
  walk_known x (stage.Leave s) known is = absurd (cc)
  walk_known x (stage.Handle s) known is = absurd (cc)
  walk_known x (stage.Read s) known is = absurd (cc)

  -- a node is held since the Open of the section
  abbrev pub IsHeldHere : ℕ → Type 0
  IsHeldHere s = (o : OpenSection) × (p.now.section k ≡ Some o) × IsHeld p.now o.place s

  same_held : (a b : ℕ) → Some a ≡ Some b → IsHeldHere a → IsHeldHere b
  same_held a b is held = let same : a ≡ b = cc in subst IsHeldHere same held

  walked_held : (t : Table) → IsTable t m p f → (s : ℕ) → AtNode m p.now f k load passed q w s → IsHeldHere s
  walked_held t table s at = (
    at.walking.searched.section,
    at.walking.searched.inside,
    (node_fit t m p f table k q.text (hash_of q.seed q.text) w.walk.row load (first_of w.walk.head) passed s at.walking).held,
  )

  seen_held : (s : ℕ) → IsSeenWith p.now k s q.text → IsHeldHere s
  seen_held s seen = (seen.0, seen.1, elim seen.2 [ inl linked ↦ inl (linked.0, linked.1, linked.2, linked.3) | inr unlinked ↦ inr unlinked ])

  node_held : (t : Table) → IsTable t m p f → (s : NodeStage) → KnowsNode m p.now f k load passed q w s → IsHeldHere (node_in s)
  node_held t table (node.Meta s) known = walked_held t table s known
  node_held t table (node.Text s at) known = walked_held t table s known.0
  node_held t table (node.Count s) known = walked_held t table s known.0
  node_held t table (node.Link s) known = walked_held t table s known.0
  node_held t table (node.Take s count) known = seen_held s known.0

  -- the node of a call
  pub held_known : (t : Table) → IsTable t m p f → (x : ℕ) (s : CallStage) → KnowsCall m p f k load passed q w s → node_at s ≡ Some x → IsHeldHere x
  held_known t table x (stage.Answered a) known is = absurd (cc)
  held_known t table x (stage.Draw s) known is = absurd (cc)
  held_known t table x (stage.Find s) known is = absurd (cc)
  held_known t table x (stage.Node s) known is = same_held (node_in s) x is (node_held t table s known.0.0)
  held_known t table x (stage.Insert s) known is = absurd (cc)
  held_known t table x (stage.Leave s) known is = absurd (cc)
  held_known t table x (stage.Handle s) known is = absurd (cc)
  held_known t table x (stage.Read s) known is = absurd (cc)
