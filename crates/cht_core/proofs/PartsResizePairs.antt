-- The chains of a pair that a shrink redirects: its new head leads to the even nodes and then to the odd ones.
use Rattle.std.proofs.Common.{◌≡◌, ℕ, ◌+◌, ◌-◌, ◌^◌, ◌<◌, ◌⊎◌, ◌↔◌, List, ◌++◌, Option, Some, sym, ap, subst, ◌∙◌, inl, inr, arith}
use Rattle.chain_core.specs.Nodes.{On, Once}
use Rattle.chain_core.specs.Path.{IsPath}
use Rattle.chain_core.proofs.Members.{on_left, on_right, on_either, once_parts}
use Rattle.text_words.specs.Hash.{hash_of}
use Rattle.marked_word.specs.Head.{first_of}
use Rattle.table_shape.specs.declared.place.Place.TheVariants as place
use Rattle.intern_log.specs.Now.{Now, Linked}
use Rattle.call_machine.specs.declared.resize.ResizeAlong.{ResizeAlong}
use Rattle.call_machine.specs.declared.resize.ResizeStage.TheVariants.{RedirectHead}
use Rattle.call_machine.specs.declared.resize.Side.{Side}
use Rattle.call_machine.specs.declared.resize.Side.TheVariants.{Even, Odd}
use Rattle.call_machine.specs.Resize.{joined_first}
use Rattle.cht_core.specs.declared.table.Table.{Table}
use Rattle.cht_core.specs.Flow.{Flow, IsUsed, ComesTo}
use Rattle.cht_core.specs.KnowsResize.{NoHead, OneHead, Resizing, HasPair, HasTurned, Joint, KnowsShrink, evens, odds}
use Rattle.cht_core.specs.Memory.{Memory, links}
use Rattle.cht_core.specs.PartsResize.{IsLinkedIn, IsJoinedPair}
use Rattle.cht_core.specs.Past.{Past}
use Rattle.cht_core.specs.Stage.{Stage, Joining, Turning, bucket_in, next_row, IsSent, IsUnsent, IsMixed}
use Rattle.cht_core.specs.TableState.{IsTable}
use Rattle.cht_core.proofs.HeadWords.{first_of_head}
use Rattle.cht_core.proofs.PartsResizePaths.{path_of_head}
use Rattle.cht_core.proofs.ResizeUsed.{even_joined_used, odd_joined_used, odd_turned_used, new_turned_used}
use Rattle.cht_core.proofs.Stages.{halves, halves_low, halves_high, row_up}

-- the pair of a bucket, in the row of half as many heads
pub record IsPairHere (m : Memory) (n : Now) (k b : ℕ) (evens odds : List ℕ) : Type 0 where
  pub are_even : (s : ℕ) → On s evens ↔ IsLinkedIn n (k + 1) b s
  pub are_odd : (s : ℕ) → On s odds ↔ IsLinkedIn n (k + 1) (b + 2 ^ k) s
  pub once : Once (evens ++ odds)
  pub new : IsPath (links m) (first_of (m (place.Head k b))) (evens ++ odds)
  pub odd : IsPath (links m) (first_of (m (place.Head (k + 1) (b + 2 ^ k)))) odds

-- a text of a bucket of the old row is in the lower one of its pair, or in the higher
pair_cases : (hash k b : ℕ) → bucket_in k hash ≡ b → (bucket_in (k + 1) hash ≡ b) ⊎ (bucket_in (k + 1) hash ≡ b + 2 ^ k)
pair_cases hash k b mine = elim (halves hash k) [ inl low ↦ inl (low ∙ mine) | inr high ↦ inr (high ∙ ap (λ (x : ℕ). x + 2 ^ k) mine) ]

both_halves : (hash k b : ℕ) → bucket_in (k + 1) hash ≡ b → bucket_in (k + 1) hash ≡ b + 2 ^ k → ⊥
both_halves hash k b low high = let up : 0 < 2 ^ k = row_up k in omega (arith, up, low, high)

module _ (t : Table) (m : Memory) (p : Past) (f : Flow) (i k b : ℕ) (table : IsTable t m p f) (below : b < 2 ^ k) where
  -- the odd chain, where callers of the odd texts still come to it
  module _ (st : Stage) (except : ℕ → ℕ → Type 0) (h : Resizing p.now f i (k + 1) st except) (odd_used : IsUsed p.now f (k + 1) (b + 2 ^ k))
      (unsent : (hash : ℕ) → bucket_in (k + 1) hash ≡ b + 2 ^ k → IsUnsent st (k + 1) hash) (exact : (hash : ℕ) → IsMixed st (k + 1) (k + 1) (b + 2 ^ k) hash → ⊥) where
    old_comes : (hash : ℕ) → IsUnsent st (k + 1) hash → ComesTo p.now f hash (k + 1)
    old_comes hash is = inl (sym h.at_level, subst (λ (x : Stage). IsUnsent x p.now.level hash) (sym h.at_stage) (subst (λ (l : ℕ). IsUnsent st l hash) (sym h.at_level) is))

    mixed_at : (c hash : ℕ) → IsMixed f.stage p.now.level (k + 1) c hash → IsMixed st (k + 1) (k + 1) c hash
    mixed_at c hash mixed = subst (λ (l : ℕ). IsMixed st l (k + 1) c hash) h.at_level (subst (λ (x : Stage). IsMixed x p.now.level (k + 1) c hash) h.at_stage mixed)

    odd_nodes : (s : ℕ) → On s (f.chain (k + 1) (b + 2 ^ k)) ↔ IsLinkedIn p.now (k + 1) (b + 2 ^ k) s
    odd_nodes s = (
      λ on.
          let is = table.chains.on_linked (k + 1) (b + 2 ^ k) s odd_used on in
          (is.0, is.1, is.2, is.3, elim is.4 [ inl here ↦ here | inr mixed ↦ absurd (exact (hash_of p.now.seed is.0) (mixed_at (b + 2 ^ k) (hash_of p.now.seed is.0) mixed)) ]),
      λ is.
          let hash : ℕ = hash_of p.now.seed is.0 in
          subst (λ (c : ℕ). On s (f.chain (k + 1) c)) is.4 (table.chains.linked_on s is.0 is.1 is.2 (k + 1) is.3 (old_comes hash (unsent hash is.4))),
    )

  -- the even nodes, where they stand before the odd ones on a list of all
  module _ (front : List ℕ) (once : Once (front ++ f.chain (k + 1) (b + 2 ^ k))) (are_odd : (s : ℕ) → On s (f.chain (k + 1) (b + 2 ^ k)) ↔ IsLinkedIn p.now (k + 1) (b + 2 ^ k) s)
      (of_pair : (s : ℕ) → On s front → IsLinkedIn p.now k b s) (all : (s : ℕ) → IsLinkedIn p.now (k + 1) b s → On s (front ++ f.chain (k + 1) (b + 2 ^ k))) where
    even_nodes : (s : ℕ) → On s front ↔ IsLinkedIn p.now (k + 1) b s
    even_nodes s = (
      λ on.
          let is = of_pair s on in
          elim (pair_cases (hash_of p.now.seed is.0) k b is.4) [
            | inl low ↦ (is.0, is.1, is.2, is.3, low)
            | inr high ↦ absurd (once_parts front (f.chain (k + 1) (b + 2 ^ k)) s once on ((are_odd s).1 (is.0, is.1, is.2, is.3, high)))
          ],
      λ is. elim (on_either front (f.chain (k + 1) (b + 2 ^ k)) s (all s is)) [
        | inl even ↦ even
        | inr odd ↦ (
            let other = (are_odd s).0 odd in
            let same : Linked is.0 is.1 is.2 ≡ Linked other.0 other.1 other.2 = sym is.3 ∙ other.3 in
            let texts : other.0 ≡ is.0 = cc in
            absurd (both_halves (hash_of p.now.seed is.0) k b is.4 (subst (λ (text : List ℕ). bucket_in (k + 1) (hash_of p.now.seed text) ≡ b + 2 ^ k) texts other.4)))
      ],
    )

  size : 0 < 2 ^ k
  size = row_up k

  -- after the join, before the redirects
  pub joined_pair : (even odd : Option ℕ) → HasPair m p.now f i k b even odd (Joining k b) → (j : Joint m f k b (joined_first even odd)) → IsPairHere m p.now k b j.evens (f.chain (k + 1) (b + 2 ^ k))
  joined_pair even odd h j =
      let low : IsUsed p.now f (k + 1) b = even_joined_used p.now f i k b (OneHead k b) h.0.resizing below in
      let high : IsUsed p.now f (k + 1) (b + 2 ^ k) = odd_joined_used p.now f i k b (OneHead k b) h.0.resizing below in
      let once : Once (j.evens ++ f.chain (k + 1) (b + 2 ^ k)) = subst Once j.order j.once in
      let are_odd : (s : ℕ) → On s (f.chain (k + 1) (b + 2 ^ k)) ↔ IsLinkedIn p.now (k + 1) (b + 2 ^ k) s =
      odd_nodes (Joining k b) (OneHead k b) h.0.resizing high (λ hash is. let mine : bucket_in k hash ≡ b = halves_high hash k b is in omega (arith, mine)) (λ hash mixed. omega (arith, mixed.2, size)) in
      let of_pair : (s : ℕ) → On s j.evens → IsLinkedIn p.now k b s = λ s on.
      elim (j.back s (subst (λ (list : List ℕ). On s list) (sym j.order) (on_left j.evens (f.chain (k + 1) (b + 2 ^ k)) s on))) [
        | inl here ↦ (
            let is = table.chains.on_linked (k + 1) b s low here in (
              is.0,
              is.1,
              is.2,
              is.3,
              elim is.4 [
                | inl exact ↦ halves_low (hash_of p.now.seed is.0) k b below exact
                | inr mixed ↦ (
                    let at : IsMixed (Joining k b) p.now.level (k + 1) b (hash_of p.now.seed is.0) =
                    subst (λ (x : Stage). IsMixed x p.now.level (k + 1) b (hash_of p.now.seed is.0)) h.0.resizing.at_stage mixed in
                    at.1)
              ],
            ))
        | inr there ↦ absurd (once_parts j.evens (f.chain (k + 1) (b + 2 ^ k)) s once on there)
      ] in
      let all : (s : ℕ) → IsLinkedIn p.now (k + 1) b s → On s (j.evens ++ f.chain (k + 1) (b + 2 ^ k)) = λ s is.
      let hash : ℕ = hash_of p.now.seed is.0 in
      let mine : bucket_in k hash ≡ b = halves_low hash k b below is.4 in
      let to : ComesTo p.now f hash (k + 1) = inl (sym h.0.resizing.at_level, subst (λ (x : Stage). IsUnsent x p.now.level hash) (sym h.0.resizing.at_stage) (omega (arith, mine))) in
      subst (λ (list : List ℕ). On s list) j.order (j.even s (subst (λ (c : ℕ). On s (f.chain (k + 1) c)) is.4 (table.chains.linked_on s is.0 is.1 is.2 (k + 1) is.3 to))) in
      record {
        are_even = even_nodes j.evens once are_odd of_pair all;
        are_odd = are_odd;
        once = once;
        new = subst (λ (from : Option ℕ). IsPath (links m) from (j.evens ++ f.chain (k + 1) (b + 2 ^ k))) (sym (ap first_of h.1.1 ∙ first_of_head (joined_first even odd) (Some i)))
            (subst (λ (list : List ℕ). IsPath (links m) (joined_first even odd) list) j.order j.path);
        odd = path_of_head t m p f table (k + 1) (b + 2 ^ k) high;
      }

  -- and between the redirects
  pub turned_pair : (even odd : Option ℕ) → (h : HasTurned m p.now f i k b even odd) → IsPairHere m p.now k b h.4.0 (f.chain (k + 1) (b + 2 ^ k))
  turned_pair even odd h =
      let high : IsUsed p.now f (k + 1) (b + 2 ^ k) = odd_turned_used p.now f i k b NoHead h.3 below in
      let new : IsUsed p.now f k b = new_turned_used p.now f i k b NoHead h.3 in
      let once : Once (h.4.0 ++ f.chain (k + 1) (b + 2 ^ k)) = subst Once h.4.1 (table.chains.once k b new) in
      let are_odd : (s : ℕ) → On s (f.chain (k + 1) (b + 2 ^ k)) ↔ IsLinkedIn p.now (k + 1) (b + 2 ^ k) s =
      odd_nodes (Turning k b) NoHead h.3 high
      (λ hash is. let mine : bucket_in k hash ≡ b = halves_high hash k b is in (omega (arith, mine), λ low. both_halves hash k b low is)) (λ hash mixed. mixed) in
      let of_pair : (s : ℕ) → On s h.4.0 → IsLinkedIn p.now k b s = λ s on.
      let is = table.chains.on_linked k b s new (subst (λ (list : List ℕ). On s list) (sym h.4.1) (on_left h.4.0 (f.chain (k + 1) (b + 2 ^ k)) s on)) in (
        is.0,
        is.1,
        is.2,
        is.3,
        elim is.4 [
          | inl exact ↦ exact
          | inr mixed ↦ absurd (let none : IsMixed (Turning k b) p.now.level k b (hash_of p.now.seed is.0) = subst (λ (x : Stage). IsMixed x p.now.level k b (hash_of p.now.seed is.0)) h.3.at_stage mixed in none)
        ],
      ) in
      let all : (s : ℕ) → IsLinkedIn p.now (k + 1) b s → On s (h.4.0 ++ f.chain (k + 1) (b + 2 ^ k)) = λ s is.
      let hash : ℕ = hash_of p.now.seed is.0 in
      let mine : bucket_in k hash ≡ b = halves_low hash k b below is.4 in
      let to : ComesTo p.now f hash k =
      inr (sym (ap (λ (x : Stage). next_row x p.now.level) h.3.at_stage), subst (λ (x : Stage). IsSent x p.now.level hash) (sym h.3.at_stage) (inr is.4)) in
      subst (λ (list : List ℕ). On s list) h.4.1 (subst (λ (c : ℕ). On s (f.chain k c)) mine (table.chains.linked_on s is.0 is.1 is.2 k is.3 to)) in
      record {
        are_even = even_nodes h.4.0 once are_odd of_pair all;
        are_odd = are_odd;
        once = once;
        new = subst (λ (list : List ℕ). IsPath (links m) (first_of (m (place.Head k b))) list) h.4.1 (path_of_head t m p f table k b new);
        odd = path_of_head t m p f table (k + 1) (b + 2 ^ k) high;
      }

-- the pair that a shrink redirects
abbrev pub PairHere : Memory → Now → ℕ → ℕ → Type 0
PairHere m n k b = (evens : List ℕ) × (odds : List ℕ) × IsPairHere m n k b evens odds

pub redirect_pair : (t : Table) (m : Memory) (p : Past) (f : Flow) (i k : ℕ) (w : ResizeAlong) (side : Side) → IsTable t m p f → KnowsShrink m p.now f i k w (RedirectHead side) → PairHere m p.now k w.bucket
redirect_pair t m p f i k w Even table h =
    (h.1.evens, f.chain (k + 1) (w.bucket + 2 ^ k), joined_pair t m p f i k w.bucket table h.0.0.below (evens w) (odds w) h.0 h.1)
redirect_pair t m p f i k w Odd table h = (h.4.0, f.chain (k + 1) (w.bucket + 2 ^ k), turned_pair t m p f i k w.bucket table h.0 (evens w) (odds w) h)

-- in the words of the level at which the shrink began
pub pair_at : (m : Memory) (n : Now) (k : ℕ) (w : ResizeAlong) (evens odds : List ℕ) → w.level ≡ k + 1 → IsPairHere m n k w.bucket evens odds → IsJoinedPair m n w evens odds
pair_at m n k w evens odds level h =
    let less : k ≡ w.level - 1 = omega (arith, level) in
    let up : k + 1 ≡ w.level = sym level in
    record {
      are_even = λ s. subst (λ (l : ℕ). On s evens ↔ IsLinkedIn n l w.bucket s) up (h.are_even s);
      are_odd = λ s. subst (λ (r : ℕ). On s odds ↔ IsLinkedIn n w.level (w.bucket + 2 ^ r) s) less (subst (λ (l : ℕ). On s odds ↔ IsLinkedIn n l (w.bucket + 2 ^ k) s) up (h.are_odd s));
      once = h.once;
      new = subst (λ (r : ℕ). IsPath (links m) (first_of (m (place.Head r w.bucket))) (evens ++ odds)) less h.new;
      odd = subst (λ (r : ℕ). IsPath (links m) (first_of (m (place.Head w.level (w.bucket + 2 ^ r)))) odds) less
          (subst (λ (l : ℕ). IsPath (links m) (first_of (m (place.Head l (w.bucket + 2 ^ k)))) odds) up h.odd);
    }

-- a linked slot of the pair's bucket is on its new path
pub on_pair : (m : Memory) (n : Now) (k b s : ℕ) (evens odds : List ℕ) → IsPairHere m n k b evens odds → IsLinkedIn n k b s → On s (evens ++ odds)
on_pair m n k b s evens odds h is = elim (pair_cases (hash_of n.seed is.0) k b is.4) [
  | inl low ↦ on_left evens odds s ((h.are_even s).1 (is.0, is.1, is.2, is.3, low))
  | inr high ↦ on_right evens odds s ((h.are_odd s).1 (is.0, is.1, is.2, is.3, high))
]
