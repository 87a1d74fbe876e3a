-- The edge to a node of a locked bucket leads past it.
use Rattle.std.proofs.Common.{◌≡◌, ◌≢◌, ℕ, List, Option, Some, inl, sym, ap, subst, ◌∙◌}
use Rattle.chain_core.specs.Nodes.{On}
use Rattle.chain_core.specs.Path.{IsPath, without}
use Rattle.chain_core.proofs.Stores.{head_past}
use Rattle.marked_word.specs.Link.{node_of, link_word}
use Rattle.table_shape.specs.declared.place.Place.{Place}
use Rattle.table_shape.specs.declared.place.Place.TheVariants as place
use Rattle.atomic_step.specs.declared.step.Edge.{Edge}
use Rattle.atomic_step.specs.declared.step.Edge.TheVariants as edge
use Rattle.atomic_step.specs.declared.step.Step.TheVariants as step
use Rattle.atomic_step.specs.Step.{locked_head}
use Rattle.cht_core.specs.declared.table.Table.{Table}
use Rattle.cht_core.specs.Backs.{LeadsFrom}
use Rattle.cht_core.specs.Flow.{Flow}
use Rattle.cht_core.specs.KnowsWork.{Locked}
use Rattle.cht_core.specs.Memory.{Memory, IsMade, links}
use Rattle.cht_core.specs.Past.{Past}
use Rattle.cht_core.specs.TableState.{IsTable}
use Rattle.cht_core.proofs.Buckets.{head_of_bucket}
use Rattle.cht_core.proofs.HeadWords.{node_of_link}
use Rattle.cht_core.proofs.Locking.{locked_path}
use Rattle.cht_core.proofs.Withouts.{WayPast, path_without, goes_past}

-- a word that is no edge of a chain
abbrev pub IsNoEdge : Place → Type 0
IsNoEdge (place.Head row bucket) = ⊥
IsNoEdge (place.Link slot) = ⊥
IsNoEdge _ = Unit {0}

-- the edge to a node of a locked bucket leads past it, and no other word is changed
pub record Relinked (m m' : Memory) (f : Flow) (row bucket slot : ℕ) (first : Option ℕ) : Type 0 where
  pub heads : (r b : ℕ) → (r ≡ row → b ≡ bucket → ⊥) → m' (place.Head r b) ≡ m (place.Head r b)
  pub elsewhere : (s : ℕ) → (On s (f.chain row bucket) → ⊥) → m' (place.Link s) ≡ m (place.Link s)
  pub others : (q : Place) → IsNoEdge q → m' q ≡ m q
  pub head : m' (place.Head row bucket) ≡ locked_head first
  pub path : IsPath (links m') first (without slot (f.chain row bucket))
  pub ways : (from : Option ℕ) (nodes : List ℕ) → IsPath (links m) from nodes → WayPast (links m') slot from nodes

-- so does an edge that a seat may unlink by
pub relinked : (t : Table) (m m' : Memory) (p : Past) (f : Flow) (i row bucket slot : ℕ) (from : Edge) (next : Option ℕ) → IsTable t m p f → LeadsFrom m p.now f i row bucket from slot →
    m (place.Link slot) ≡ link_word next → IsMade (step.Unlink slot from next) m m' → (first : Option ℕ) × Relinked m m' f row bucket slot first
relinked t m m' p f i row bucket slot (edge.Head r b) next table leads link made =
    let rows : r ≡ row = leads.0 in
    let buckets : b ≡ bucket = leads.1 in
    let locked : Locked m p.now f i row bucket (Some slot) = leads.2 in
    let same : links m' ≡ links m = λ k s. node_of (made.there (place.Link s) (λ is. cc) k) in
    let after : links m slot ≡ next = ap node_of link ∙ node_of_link next in
    let path : IsPath (links m) (links m slot) (without slot (f.chain row bucket)) = head_past (links m) slot (f.chain row bucket) (locked_path t m p f i row bucket (Some slot) table locked) in (
      next,
      record {
        heads = λ q c differ. made.there (place.Head q c) (λ is. let both = head_of_bucket r b q c is in differ (both.0 ∙ rows) (both.1 ∙ buckets));
        elsewhere = λ s off. made.there (place.Link s) (λ is. cc);
        others = λ q none. made.there q (λ is. subst IsNoEdge is none);
        head = ap (λ (x : ℕ). m' (place.Head x bucket)) (sym rows) ∙ ap (λ (x : ℕ). m' (place.Head r x)) (sym buckets) ∙ made.here;
        path = subst (λ (links' : ℕ → Option ℕ). IsPath links' next (without slot (f.chain row bucket))) (sym same)
            (subst (λ (start : Option ℕ). IsPath (links m) start (without slot (f.chain row bucket))) after path);
        ways = λ from nodes way. record {
          left = nodes;
          path = subst (λ (links' : ℕ → Option ℕ). IsPath links' from nodes) (sym same) way;
          fresh = λ s on. on;
          kept = λ s on. inl on;
        };
      },
    )
relinked t m m' p f i row bucket slot (edge.Link last) next table leads link made =
    let first : Option ℕ = leads.0.0 in
    let locked : Locked m p.now f i row bucket first = leads.0.1 in
    let other : (s : ℕ) → s ≢ last → m' (place.Link s) ≡ m (place.Link s) = λ s differ. made.there (place.Link s) (λ (is : place.Link s ≡ place.Link last). differ (cc)) in
    let others : (s : ℕ) → s ≢ last → links m' s ≡ links m s = λ s differ. ap node_of (other s differ) in
    let before : links m last ≡ Some slot = ap node_of leads.2 ∙ node_of_link (Some slot) in
    let after : links m' last ≡ links m slot = ap node_of made.here ∙ ap node_of (sym link) in
    let chain : List ℕ = f.chain row bucket in (
      first,
      record {
        heads = λ q c differ. made.there (place.Head q c) (λ is. cc);
        elsewhere = λ s off. other s (λ same. off (subst (λ (x : ℕ). On x (f.chain row bucket)) (sym same) leads.1));
        others = λ q none. made.there q (λ is. subst IsNoEdge is none);
        head = made.there (place.Head row bucket) (λ is. cc) ∙ locked.head;
        path = path_without (links m) (links m') last slot before after others first chain (locked_path t m p f i row bucket first table locked) leads.1;
        ways = λ from nodes way. goes_past (links m) (links m') last slot before after others from nodes way;
      },
    )
