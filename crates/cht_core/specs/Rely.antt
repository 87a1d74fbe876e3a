-- What a step of any seat may do to what the others know.
use Rattle.std.specs.Prelude.{◌≡◌, ℕ, ◌<◌, ◌≤◌, ◌⊎◌, true, List, Option, Some, None}
use Rattle.chain_core.specs.Nodes.{On}
use Rattle.chain_core.specs.Path.{IsPath}
use Rattle.table_shape.specs.declared.place.Place.TheVariants as place
use Rattle.text_words.specs.Hash.{hash_of}
use Rattle.intern_log.specs.declared.event.Entry.{Entry}
use Rattle.intern_log.specs.declared.event.Handle.{Handle}
use Rattle.intern_log.specs.Now.{Now, OpenSection, Claimed, Linked, Unlinked, owner_of}
use Rattle.intern_log.specs.TextMap.{entry_of}
use Rattle.cht_core.specs.Flow.{Flow, IsUsed}
use Rattle.cht_core.specs.Stage.{bucket_in}
use Rattle.cht_core.specs.Memory.{Memory, links}
use Rattle.cht_core.specs.Past.{Past}
use Rattle.cht_core.specs.Search.{IsFit, IsHeld, IsRouted, IsSentOn}

-- no live entry of the text is in the slot
abbrev pub IsUnwanted : Now → List ℕ → ℕ → Type 0
IsUnwanted n text s = (e : Entry) → entry_of n.texts text ≡ Some e → e.handle.slot ≡ s → ⊥

-- the nodes of a walk after a step: fit ones, all that its text may want, and none that was passed
pub record Rerouted (n : Now) (f : Flow) (m' : Memory) (n' : Now) (f' : Flow) (since : ℕ) (text : List ℕ) (hash : ℕ) (node : Option ℕ) (ahead : List ℕ) : Type 0 where
  pub left : List ℕ
  pub path : IsPath (links m') node left
  pub fit : (s : ℕ) → On s left → IsFit n' f' since hash s
  pub kept : (s : ℕ) → On s ahead → On s left ⊎ (hash ≡ hash_of n.seed text → IsUnwanted n' text s)
  pub fresh : (s : ℕ) → On s left → On s ahead ⊎ (IsFit n f since hash s → ⊥)

-- what a step does to nodes that were passed, and to walks
pub record Walks (m : Memory) (n : Now) (f : Flow) (m' : Memory) (n' : Now) (f' : Flow) : Type 0 where
  pub fits : (k hash s : ℕ) (o : OpenSection) → n.section k ≡ Some o → IsFit n f o.place hash s → IsFit n' f' o.place hash s
  pub go : (k : ℕ) (o : OpenSection) (text : List ℕ) (hash : ℕ) (node : Option ℕ) (ahead : List ℕ) → n.section k ≡ Some o →
      IsPath (links m) node ahead → ((s : ℕ) → On s ahead → IsFit n f o.place hash s) → Rerouted n f m' n' f' o.place text hash node ahead

-- what every step does, whoever makes it
pub record Grows (m : Memory) (p : Past) (f : Flow) (m' : Memory) (p' : Past) (f' : Flow) : Type 0 where
  pub later : p.now.place ≤ p'.now.place
  pub seed : p'.now.seed ≡ p.now.seed
  pub counter : m place.Counter ≤ m' place.Counter
  pub made : (h : Handle) → p.made h ≡ true → p'.made h ≡ true
  pub made_back : (h : Handle) → p'.made h ≡ true → (p.made h ≡ true) ⊎ ((k : ℕ) × (p.now.slot h.slot ≡ Claimed k))
  pub uses : (s : ℕ) → p.uses s ≤ p'.uses s
  pub linked : (s : ℕ) (text : List ℕ) (h : Handle) (born : ℕ) → p.now.slot s ≡ Linked text h born →
      (p'.now.slot s ≡ Linked text h born) ⊎ ((seat : ℕ) × (p'.now.slot s ≡ Unlinked seat p.now.place))
  pub unlinked : (s seat at k : ℕ) (o : OpenSection) → p.now.slot s ≡ Unlinked seat at → p.now.section k ≡ Some o → o.place < at → p'.now.slot s ≡ Unlinked seat at
  pub entries : (text : List ℕ) (e : Entry) → entry_of p'.now.texts text ≡ Some e →
      ((was : Entry) × (entry_of p.now.texts text ≡ Some was) × (was.handle ≡ e.handle))
      ⊎ ((born : ℕ) × (p'.now.slot e.handle.slot ≡ Linked text e.handle born) × (p.now.place ≤ born))
  pub sections : (k : ℕ) (o : OpenSection) → p'.now.section k ≡ Some o → (p.now.section k ≡ Some o) ⊎ ((p.now.place ≤ o.place) × (o.counter ≤ m place.Counter))
  pub words : (k s : ℕ) (o : OpenSection) → p.now.section k ≡ Some o → IsHeld p.now o.place s →
      (m' (place.Meta s) ≡ m (place.Meta s)) × ((at : ℕ) → m' (place.Text s at) ≡ m (place.Text s at))
  pub walks : Walks m p.now f m' p'.now f'
  pub routes : (k hash row : ℕ) (o : OpenSection) → p.now.section k ≡ Some o → IsRouted p.now f o.place hash row → IsRouted p'.now f' o.place hash row
  pub onward : (k hash row : ℕ) (o : OpenSection) → p.now.section k ≡ Some o → IsSentOn p.now f o.place hash row → IsSentOn p'.now f' o.place hash row
  -- a head has its base before any caller is sent to it
  pub based : (k hash row : ℕ) (o : OpenSection) → p.now.section k ≡ Some o → IsRouted p.now f o.place hash row → f'.base row (bucket_in row hash) ≡ f.base row (bucket_in row hash)

-- what a step of a seat without the resize lock leaves its owner
pub record Still (n : Now) (f : Flow) (n' : Now) (f' : Flow) : Type 0 where
  pub level : n'.level ≡ n.level
  pub since : n'.since ≡ n.since
  pub stage : f'.stage ≡ f.stage
  pub before : f'.before ≡ f.before
  pub parted : (s : ℕ) → f'.parted s ≡ f.parted s
  -- a head to which no callers come is locked by nobody else
  pub free : (row bucket : ℕ) → ¬ (IsUsed n f row bucket) → n.lock row bucket ≡ None → n'.lock row bucket ≡ None

-- what a step leaves a seat of what its works and sweeps have: also one of its own, where it is that of a try call
pub record Leaves (i : ℕ) (m : Memory) (p : Past) (f : Flow) (m' : Memory) (p' : Past) (f' : Flow) : Type 0 where
  pub locks : (row bucket : ℕ) → p.now.lock row bucket ≡ Some i → p'.now.lock row bucket ≡ Some i
  pub locks_back : (row bucket : ℕ) → p'.now.lock row bucket ≡ Some i → p.now.lock row bucket ≡ Some i
  pub heads : (row bucket : ℕ) → p.now.lock row bucket ≡ Some i → m' (place.Head row bucket) ≡ m (place.Head row bucket)
  pub used : (row bucket : ℕ) → IsUsed p.now f row bucket → p.now.lock row bucket ≡ Some i → IsUsed p'.now f' row bucket
  pub chains : (row bucket : ℕ) → IsUsed p.now f row bucket → p.now.lock row bucket ≡ Some i → f'.chain row bucket ≡ f.chain row bucket
  pub links : (row bucket s : ℕ) → IsUsed p.now f row bucket → p.now.lock row bucket ≡ Some i → On s (f.chain row bucket) → m' (place.Link s) ≡ m (place.Link s)
  pub nodes : (row bucket s : ℕ) (text : List ℕ) (h : Handle) (born : ℕ) → IsUsed p.now f row bucket → p.now.lock row bucket ≡ Some i → On s (f.chain row bucket) →
      p.now.slot s ≡ Linked text h born → p'.now.slot s ≡ Linked text h born
  pub unlinked : (s at : ℕ) → p.now.slot s ≡ Unlinked i at → p'.now.slot s ≡ Unlinked i at
  pub unlinked_back : (s at : ℕ) → p'.now.slot s ≡ Unlinked i at → p.now.slot s ≡ Unlinked i at
  pub counts : (s at : ℕ) → p.now.slot s ≡ Unlinked i at → m' (place.Count s) ≡ m (place.Count s)
  pub owner : owner_of p.now.resizing ≡ Some i → owner_of p'.now.resizing ≡ Some i
  pub owner_back : owner_of p'.now.resizing ≡ Some i → owner_of p.now.resizing ≡ Some i
  pub still : owner_of p.now.resizing ≡ Some i → Still p.now f p'.now f'

-- what a step of another seat leaves a seat
pub record Spares (i : ℕ) (m : Memory) (p : Past) (f : Flow) (m' : Memory) (p' : Past) (f' : Flow) : Type 0 where
  pub section : p'.now.section i ≡ p.now.section i
  pub claimed : (s : ℕ) → p.now.slot s ≡ Claimed i → p'.now.slot s ≡ Claimed i
  pub claimed_back : (s : ℕ) → p'.now.slot s ≡ Claimed i → p.now.slot s ≡ Claimed i
  pub link : (s : ℕ) → p.now.slot s ≡ Claimed i → m' (place.Link s) ≡ m (place.Link s)
  pub count : (s : ℕ) → p.now.slot s ≡ Claimed i → m' (place.Count s) ≡ m (place.Count s)
  pub meta : (s : ℕ) → p.now.slot s ≡ Claimed i → m' (place.Meta s) ≡ m (place.Meta s)
  pub text : (s at : ℕ) → p.now.slot s ≡ Claimed i → m' (place.Text s at) ≡ m (place.Text s at)
  pub holds : (h : Handle) → f'.holds i h ≡ f.holds i h
  pub leaves : Leaves i m p f m' p' f'
