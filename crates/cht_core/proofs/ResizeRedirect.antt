-- What a resize knows after it redirects a head.
use Rattle.std.proofs.Common.{◌≡◌, ◌≢◌, ℕ, ◌+◌, ◌^◌, ◌<◌, ◌⊎◌, List, [], ◌∷◌, ◌++◌, Option, Some, None, refl, sym, ap, subst, ◌∙◌, inl, inr, arith}
use Rattle.chain_core.specs.Path.{IsPath}
use Rattle.chain_core.proofs.Ways.{path_one}
use Rattle.marked_word.specs.Link.{node_of}
use Rattle.table_shape.specs.declared.place.Place.TheVariants as place
use Rattle.atomic_step.specs.declared.step.Step.TheVariants as step
use Rattle.call_machine.specs.declared.resize.Chains.{Chains}
use Rattle.call_machine.specs.declared.resize.ResizeAlong.{ResizeAlong}
use Rattle.call_machine.specs.declared.resize.ResizeStage.TheVariants as stage
use Rattle.call_machine.specs.declared.resize.Side.TheVariants.{Even}
use Rattle.call_machine.specs.Resize.{chain_from, chains_from, joined_first, unzips_on}
use Rattle.cht_core.specs.declared.table.Table.{Table}
use Rattle.cht_core.specs.Flow.{Flow, with_chain, chain_turned, or_else, stage_turned}
use Rattle.cht_core.specs.KnowsResize.{NoHead, OneHead, TwoHeads, Resizing, HasLocked, Over, Side, Unzipping, Joint, HasPair, HasTurned, HasOpened, HasSplit, KnowsGrow, evens}
use Rattle.cht_core.specs.Memory.{Memory, IsMade, links}
use Rattle.cht_core.specs.Past.{Past}
use Rattle.cht_core.specs.Stage.{Growing, Splitting, Shrinking, Joining, Turning}
use Rattle.cht_core.specs.TableState.{IsTable}
use Rattle.cht_core.proofs.CreateParts.{chain_here, chain_elsewhere}
use Rattle.cht_core.proofs.ResizeParts.{resizing_on, locked_apart, other_rows, other_buckets, locked_chain}
use Rattle.cht_core.proofs.ResizeUsed.{path_kept, left_used, even_joined_used}
use Rattle.cht_core.proofs.Turns.{flow_of}

-- A BUCKET

module _ (t : Table) (m m' : Memory) (p : Past) (f : Flow) (i : ℕ) (text : List ℕ) (level b : ℕ) (first : Option ℕ) (table : IsTable t m p f) (h : HasSplit m p.now f i level b first)
    (made : IsMade (step.RedirectHead level b first) m m') where
  abbrev split_flow : Flow
  split_flow = flow_of p f i text (step.RedirectHead level b first) m

  split_chain : split_flow.chain ≡ chain_turned level f.chain (Growing b)
  split_chain = ap (λ (l : ℕ). chain_turned l f.chain f.stage) h.4.at_level ∙ ap (chain_turned level f.chain) h.4.at_stage

  low_chain : split_flow.chain (level + 1) b ≡ f.chain level b
  low_chain =
      let size : 0 < 2 ^ level = omega (arith, h.0) in
      ap (λ (c : ℕ → ℕ → List ℕ). c (level + 1) b) split_chain
      ∙ chain_elsewhere (with_chain f.chain (level + 1) b (f.chain level b)) (level + 1) (b + 2 ^ level) (f.chain level b) (level + 1) b (λ rows buckets. omega (arith, size, buckets))
      ∙ chain_here f.chain (level + 1) b (f.chain level b) (level + 1) b refl refl

  high_chain : split_flow.chain (level + 1) (b + 2 ^ level) ≡ f.chain level b
  high_chain =
      ap (λ (c : ℕ → ℕ → List ℕ). c (level + 1) (b + 2 ^ level)) split_chain
      ∙ chain_here (with_chain f.chain (level + 1) b (f.chain level b)) (level + 1) (b + 2 ^ level) (f.chain level b) (level + 1) (b + 2 ^ level) refl refl

  new_row : level + 1 ≢ level
  new_row e = omega (arith, e)

  split_resizing : Resizing p.now split_flow i level (Splitting b) NoHead
  split_resizing = resizing_on p.now p.now f split_flow i level (Growing b) (Splitting b) (TwoHeads (level + 1) b (b + 2 ^ level)) NoHead h.4 refl refl (ap stage_turned h.4.at_stage)
      (λ row bucket is comes. inl (is, elim comes [ inl x ↦ inl (omega (arith, x)) | inr x ↦ (let y : bucket < b + 2 ^ level = x.1 in inr (x.0, omega (arith, y))) ]))
      (λ row bucket two. inl (two.0, elim two.1 [ inl e ↦ inl (omega (arith, e)) | inr e ↦ inr (omega (arith, e), omega (arith, e)) ]))
      (λ row bucket unused out free. free)

  -- both sides begin without a node of their own
  side_begins : (c : ℕ) → split_flow.chain (level + 1) c ≡ f.chain level b → HasLocked m p.now i (level + 1) c first → Side m' p.now split_flow i level c (chain_from first) (f.chain level b) Over
  side_begins c order locked = record {
    own = [];
    order = order;
    locked = locked_apart m m' p.now p.now i (level + 1) c first (step.RedirectHead level b first) made (other_rows level b (level + 1) c new_row) refl locked;
    last = refl;
    mine = λ s on. absurd on;
  }

  pub begins_unzip : Unzipping m' p.now split_flow i level b (chains_from first first) first Over
  unfolding side_begins
  begins_unzip = record {
    done = [];
    rest = f.chain level b;
    path = path_kept (links m) (links m') first (f.chain level b) (λ s on. ap node_of (made.there (place.Link s) (λ e. cc)))
        (locked_chain t m p f i level b first table (left_used p.now f i level b (Growing b) (TwoHeads (level + 1) b (b + 2 ^ level)) h.4 (omega arith) h.0) h.1);
    even = side_begins b low_chain h.2;
    odd = side_begins (b + 2 ^ level) high_chain h.3;
    even_is = refl;
    odd_is = refl;
    latest = tt;
    below = h.0;
    resizing = split_resizing;
  }

pub grow_redirects : (t : Table) (m m' : Memory) (p : Past) (f : Flow) (i : ℕ) (text : List ℕ) (w : ResizeAlong) → IsTable t m p f → KnowsGrow m p.now f i w (stage.RedirectHead Even)
    → IsMade (step.RedirectHead w.level w.bucket (evens w)) m m' → KnowsGrow m' p.now (flow_of p f i text (step.RedirectHead w.level w.bucket (evens w)) m) i w (unzips_on (evens w))
grow_redirects t m m' p f i text w table known made = by_first (evens w)
    (subst (λ (c : Chains). Unzipping m' p.now (flow_of p f i text (step.RedirectHead w.level w.bucket (evens w)) m) i w.level w.bucket c (evens w) Over) (sym known.0)
    (begins_unzip t m m' p f i text w.level w.bucket (evens w) table known.1 made))
  where
    by_first : (first : Option ℕ) → Unzipping m' p.now (flow_of p f i text (step.RedirectHead w.level w.bucket (evens w)) m) i w.level w.bucket w.chains first Over
        → KnowsGrow m' p.now (flow_of p f i text (step.RedirectHead w.level w.bucket (evens w)) m) i w (unzips_on first)
    by_first None u = u
    by_first (Some x) u = u

-- A PAIR

-- the even chain is what the new head leads to, where it has nodes
even_is_whole : (next : ℕ → Option ℕ) (even odd : Option ℕ) (low whole : List ℕ) → IsPath next even low → IsPath next (joined_first even odd) whole → (low ≡ []) ⊎ (low ≡ whole)
even_is_whole next None odd [] whole here path = inl refl
even_is_whole next None odd (x ∷ low) whole here path = absurd (let clash : None ≡ Some x = here.0 in cc)
even_is_whole next (Some x) odd low whole here path = inr (path_one next (Some x) whole low path here)

ends_with : (low odd whole front : List ℕ) → (low ≡ []) ⊎ (low ≡ whole) → whole ≡ front ++ odd → (before : List ℕ) × (or_else low odd ≡ before ++ odd)
ends_with [] odd whole front either order = ([], refl)
ends_with (x ∷ low) odd whole front either order = elim either [ inl e ↦ absurd (cc) | inr e ↦ (front, e ∙ order) ]

module _ (t : Table) (m m' : Memory) (p : Past) (f : Flow) (i : ℕ) (text : List ℕ) (k b : ℕ) (even odd : Option ℕ) (table : IsTable t m p f) where
  up_row : k ≢ k + 1
  up_row e = omega (arith, e)

  -- the even head
  module _ (h : HasPair m p.now f i k b even odd (Joining k b)) (j : Joint m f k b (joined_first even odd)) (made : IsMade (step.RedirectHead (k + 1) b even) m m') where
    abbrev turned_flow : Flow
    turned_flow = flow_of p f i text (step.RedirectHead (k + 1) b even) m

    turned_chain : turned_flow.chain ≡ with_chain f.chain k b (or_else (f.chain (k + 1) b) (f.chain (k + 1) (b + 2 ^ k)))
    turned_chain = ap (chain_turned p.now.level f.chain) h.0.resizing.at_stage

    new_chain : (before : List ℕ) × (turned_flow.chain k b ≡ before ++ turned_flow.chain (k + 1) (b + 2 ^ k))
    new_chain =
        let low : IsPath (links m) even (f.chain (k + 1) b) = locked_chain t m p f i (k + 1) b even table (even_joined_used p.now f i k b (OneHead k b) h.0.resizing h.0.below) h.0.low in
        let ends = ends_with (f.chain (k + 1) b) (f.chain (k + 1) (b + 2 ^ k)) j.whole j.evens (even_is_whole (links m) even odd (f.chain (k + 1) b) j.whole low j.path) j.order in
        let here : turned_flow.chain k b ≡ or_else (f.chain (k + 1) b) (f.chain (k + 1) (b + 2 ^ k)) =
        ap (λ (c : ℕ → ℕ → List ℕ). c k b) turned_chain ∙ chain_here f.chain k b (or_else (f.chain (k + 1) b) (f.chain (k + 1) (b + 2 ^ k))) k b refl refl in
        let there : turned_flow.chain (k + 1) (b + 2 ^ k) ≡ f.chain (k + 1) (b + 2 ^ k) =
        ap (λ (c : ℕ → ℕ → List ℕ). c (k + 1) (b + 2 ^ k)) turned_chain
        ∙ chain_elsewhere f.chain k b (or_else (f.chain (k + 1) b) (f.chain (k + 1) (b + 2 ^ k))) (k + 1) (b + 2 ^ k) (λ rows buckets. up_row (sym rows)) in
        (ends.0, here ∙ ends.1 ∙ ap (λ (nodes : List ℕ). ends.0 ++ nodes) (sym there))

    pub even_redirects : HasTurned m' p.now turned_flow i k b even odd
    even_redirects =
        let size : 0 < 2 ^ k = omega (arith, h.0.below) in (
          h.0.below,
          locked_apart m m' p.now p.now i (k + 1) (b + 2 ^ k) odd (step.RedirectHead (k + 1) b even) made (other_buckets (k + 1) b (k + 1) (b + 2 ^ k) (λ e. omega (arith, size, e))) refl h.0.high,
          locked_apart m m' p.now p.now i k b (joined_first even odd) (step.RedirectHead (k + 1) b even) made (other_rows (k + 1) b k b up_row) refl h.1,
          resizing_on p.now p.now f turned_flow i (k + 1) (Joining k b) (Turning k b) (OneHead k b) NoHead h.0.resizing refl refl (ap stage_turned h.0.resizing.at_stage)
              (λ row bucket is comes. inl (is, omega (arith, comes))) (λ row bucket one. let same : bucket ≡ b = one.1 in inl (one.0, omega (arith, same))) (λ row bucket unused out free. free),
          new_chain,
        )

  -- and the odd one
  pub odd_redirects : HasTurned m p.now f i k b even odd → IsMade (step.RedirectHead (k + 1) (b + 2 ^ k) odd) m m'
      → HasOpened m' p.now (flow_of p f i text (step.RedirectHead (k + 1) (b + 2 ^ k) odd) m) i k b (joined_first even odd)
  odd_redirects h made = (
    h.0,
    locked_apart m m' p.now p.now i k b (joined_first even odd) (step.RedirectHead (k + 1) (b + 2 ^ k) odd) made (other_rows (k + 1) (b + 2 ^ k) k b up_row) refl h.2,
    resizing_on p.now p.now f (flow_of p f i text (step.RedirectHead (k + 1) (b + 2 ^ k) odd) m) i (k + 1) (Turning k b) (Shrinking k (b + 1)) NoHead NoHead h.3 refl refl (ap stage_turned h.3.at_stage)
        (λ row bucket is comes. inl (is, comes)) (λ row bucket no. absurd no) (λ row bucket unused out free. free),
  )
