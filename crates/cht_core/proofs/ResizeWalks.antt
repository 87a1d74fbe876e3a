-- What a resize knows after it loads a word of a node: its side, and the next node.
use Rattle.std.proofs.Common.{◌≡◌, ℕ, ◌+◌, ◌*◌, ◌/◌, ◌≤◌, List, [], ◌∷◌, length, Option, Some, None, refl, sym, ap, subst, ◌∙◌, inl, inr, arith}
use Rattle.chain_core.specs.Nodes.{On}
use Rattle.chain_core.specs.Path.{IsPath}
use Rattle.chain_core.proofs.Members.{on_right}
use Rattle.chain_core.proofs.Ways.{path_begins}
use Rattle.marked_word.specs.Link.{link_word, node_of}
use Rattle.marked_word.specs.Meta.{meta_word, hash_in}
use Rattle.table_shape.specs.declared.place.Place.TheVariants as place
use Rattle.text_words.specs.Hash.{hash_of}
use Rattle.atomic_step.specs.declared.step.Step.TheVariants as step
use Rattle.call_machine.specs.declared.resize.JoinStage.TheVariants as join
use Rattle.call_machine.specs.declared.resize.ResizeAlong.{ResizeAlong}
use Rattle.call_machine.specs.declared.resize.ResizeStage.TheVariants as stage
use Rattle.call_machine.specs.declared.resize.Side as sides
use Rattle.call_machine.specs.declared.resize.UnzipStage.TheVariants as unzip
use Rattle.call_machine.specs.Resize.{side_of, looks_at, joins_at}
use Rattle.call_machine.specs.Sought.{meta_of}
use Rattle.cht_core.specs.declared.table.Table.{Table}
use Rattle.cht_core.specs.Flow.{Flow}
use Rattle.cht_core.specs.KnowsResize.{OneHead, Over, Unzipping, IsOfSide, KnowsGrow, KnowsShrink, evens}
use Rattle.cht_core.specs.Memory.{Memory, IsMade, links}
use Rattle.cht_core.specs.Past.{Past}
use Rattle.cht_core.specs.TableState.{IsTable}
use Rattle.cht_core.proofs.Basics.{after_load}
use Rattle.cht_core.proofs.HeadWords.{link_of_node}
use Rattle.cht_core.proofs.ResizeParts.{locked_chain}
use Rattle.cht_core.proofs.ResizeUsed.{split_used, even_used}

-- the hash in the meta word of a text
hash_back : (hash bytes : ℕ) → bytes ≤ 65535 → (hash * 65536 + bytes) / 65536 ≡ hash
hash_back hash bytes small = omega (arith, small)

-- the node of what is left of the old chain is linked, and its meta word has the hash of its text
of_side : (t : Table) (m : Memory) (p : Past) (f : Flow) (i : ℕ) (w : ResizeAlong) (x : ℕ) → IsTable t m p f → Unzipping m p.now f i w.level w.bucket w.chains (Some x) Over
    → IsOfSide p.now w.level x (side_of w.level (hash_in (m (place.Meta x))))
of_side t m p f i w x table u =
    let on : On x (f.chain (w.level + 1) w.bucket) = subst (λ (nodes : List ℕ). On x nodes) (sym u.even.order) (on_right u.even.own u.rest x (path_begins (links m) x u.rest u.path)) in
    let (text, h, at, linked, home) = table.chains.on_linked (w.level + 1) w.bucket x (split_used p.now f i w.level w.bucket w.bucket u.resizing u.below (inl refl)) on in
    let word : m (place.Meta x) ≡ meta_word (meta_of p.now.seed text) = table.slots.metas x text h at linked in
    let hash : hash_in (m (place.Meta x)) ≡ hash_of p.now.seed text = ap hash_in word ∙ hash_back (hash_of p.now.seed text) (length text) (table.slots.rooms x text h at linked).0.0 in
    (text, h, at, linked, ap (side_of w.level) (sym hash))

pub grow_loads_meta : (t : Table) (m m' : Memory) (p : Past) (f : Flow) (i : ℕ) (w : ResizeAlong) (x : ℕ) → IsTable t m p f → KnowsGrow m p.now f i w (stage.Unzip (unzip.LoadMeta x))
    → IsMade (step.LoadMeta x) m m' → KnowsGrow m' p.now f i (looks_at w) (stage.Unzip (unzip.LoadLink x (side_of w.level (hash_in (m (place.Meta x))))))
grow_loads_meta t m m' p f i w x table u made =
    subst (λ (now : Memory). KnowsGrow now p.now f i (looks_at w) (stage.Unzip (unzip.LoadLink x (side_of w.level (hash_in (m (place.Meta x)))))))
    (sym (after_load (step.LoadMeta x) m m' refl made)) (u, of_side t m p f i w x table u)

pub grow_loads_link : (m m' : Memory) (p : Past) (f : Flow) (i : ℕ) (w : ResizeAlong) (x : ℕ) (side : sides.Side) → KnowsGrow m p.now f i w (stage.Unzip (unzip.LoadLink x side))
    → IsMade (step.LoadLink x) m m' → KnowsGrow m' p.now f i w (stage.Unzip (unzip.MoveEdge x side (node_of (m (place.Link x)))))
grow_loads_link m m' p f i w x side known made =
    subst (λ (now : Memory). KnowsGrow now p.now f i w (stage.Unzip (unzip.MoveEdge x side (node_of (m (place.Link x)))))) (sym (after_load (step.LoadLink x) m m' refl made))
    (known.0, known.1, sym (link_of_node (m (place.Link x))))

-- the node after one of a path is on it
on_next : (next : ℕ → Option ℕ) (first : Option ℕ) (nodes : List ℕ) (x y : ℕ) → IsPath next first nodes → On x nodes → next x ≡ Some y → On y nodes
on_next next first [] x y path on is = absurd on
on_next next first (z ∷ nodes) x y path on is = elim on [
  | inl e ↦ inr (path_begins next y nodes (subst (λ (to : Option ℕ). IsPath next to nodes) (ap next e ∙ is) path.1))
  | inr later ↦ inr (on_next next (next z) nodes x y path.1 later is)
]

pub shrink_loads_link : (t : Table) (m m' : Memory) (p : Past) (f : Flow) (i k : ℕ) (w : ResizeAlong) (x : ℕ) → IsTable t m p f → KnowsShrink m p.now f i k w (stage.Join (join.LoadLink x))
    → IsMade (step.LoadLink x) m m' → KnowsShrink m' p.now f i k (looks_at w) (joins_at x (node_of (m (place.Link x))))
shrink_loads_link t m m' p f i k w x table known made =
    subst (λ (now : Memory). KnowsShrink now p.now f i k (looks_at w) (joins_at x (node_of (m (place.Link x))))) (sym (after_load (step.LoadLink x) m m' refl made))
    (by_next (node_of (m (place.Link x))) refl)
  where
    by_next : (next : Option ℕ) → node_of (m (place.Link x)) ≡ next → KnowsShrink m p.now f i k (looks_at w) (joins_at x next)
    by_next None is = (known.0, known.1, sym (link_of_node (m (place.Link x))) ∙ ap link_word is)
    by_next (Some y) is = (
      known.0,
      on_next (links m) (evens w) (f.chain (k + 1) w.bucket) x y
          (locked_chain t m p f i (k + 1) w.bucket (evens w) table (even_used p.now f i k w.bucket (OneHead k w.bucket) known.0.0.resizing known.0.0.below) known.0.0.low) known.1 is,
    )
