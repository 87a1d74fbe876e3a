-- Of which texts the nodes are on two chains, and that those of all others are on one.
use Rattle.std.proofs.Common.{◌≡◌, ℕ, ◌+◌, ◌^◌, ◌<◌, ◌≤◌, ◌⊎◌, List, sym, ap, subst, ◌∙◌, inl, inr, arith}
use Rattle.std.proofs.lemmas.Bool.{cases_eq}
use Rattle.chain_core.specs.Nodes.{On}
use Rattle.text_words.specs.Hash.{hash_of}
use Rattle.intern_log.specs.declared.event.Handle.{Handle}
use Rattle.intern_log.specs.Now.{Now, Linked}
use Rattle.cht_core.specs.Chains.{Chains}
use Rattle.cht_core.specs.Flow.{Flow, IsUsed, ComesTo, IsHome}
use Rattle.cht_core.specs.Stage.{Stage, Quiet, Growing, Splitting, Shrinking, Joining, Turning, Closing, bucket_in, next_row, IsInPairs, IsOffPairs}
use Rattle.cht_core.specs.Stage.{IsGone, IsLeft, IsOpen, IsSent, IsUnsent, IsUnzipped, IsMixed, IsOnTwo, IsPinned, IsWithin, IsWhole}
use Rattle.cht_core.proofs.Stages.{bucket_below, below_or, halves}

off_or_in : (half e o b : ℕ) → IsOffPairs half e o b ⊎ IsInPairs half e o b
off_or_in half e o b = elim (below_or b e) [
  | inl x ↦ inr (inl x)
  | inr x ↦ elim (below_or b half) [
    | inl y ↦ inl (x, inl y)
    | inr y ↦ elim (below_or b (o + half)) [ inl z ↦ inr (inr (y, z)) | inr z ↦ inl (x, inr z) ]
  ]
]

-- a head to which callers come, at a stage
abbrev UsedAt : Stage → ℕ → ℕ → ℕ → Type 0
UsedAt st l row b = ((row ≡ l) × IsLeft st b × (b < 2 ^ row)) ⊎ ((row ≡ next_row st l) × IsOpen st l b)

abbrev HomeAt : Stage → ℕ → ℕ → ℕ → ℕ → Type 0
HomeAt st l row b hash = (bucket_in row hash ≡ b) ⊎ IsMixed st l row b hash

-- a head on whose chain a text of two chains may be is one that the resize has locked
two_pinned : (st : Stage) (l row b hash : ℕ) → IsWithin st l → UsedAt st l row b → HomeAt st l row b hash → IsOnTwo st l hash → IsPinned st l row b
two_pinned Quiet l row b hash w used home two = absurd two
two_pinned (Growing d) l row b hash w used home two = absurd two
two_pinned (Splitting a) l row b hash w used home two = elim home [
  | inr mixed ↦ (mixed.0, mixed.2)
  | inl exact ↦ elim used [
    | inl old ↦ absurd (let g : bucket_in l hash ≡ b = subst (λ (r : ℕ). bucket_in r hash ≡ b) old.0 exact in let least : a + 1 ≤ b = old.1 in omega (arith, g, least, two))
    | inr new ↦ (
        let g : bucket_in (l + 1) hash ≡ b = subst (λ (r : ℕ). bucket_in r hash ≡ b) new.0 exact in
        (new.0, elim (halves hash l) [ inl x ↦ inl (omega (arith, g, x, two)) | inr x ↦ inr (omega (arith, g, x, two)) ]))
  ]
]
two_pinned (Shrinking k d) l row b hash w used home two = absurd two
two_pinned (Joining k a) l row b hash w used home two = elim home [
  | inr mixed ↦ (mixed.0, inl mixed.2)
  | inl exact ↦ elim used [
    | inl old ↦ (
        let g : bucket_in (k + 1) hash ≡ b = subst (λ (r : ℕ). bucket_in r hash ≡ b) (old.0 ∙ w.0) exact in
        (old.0 ∙ w.0, elim (halves hash k) [ inl x ↦ inl (omega (arith, g, x, two)) | inr x ↦ inr (omega (arith, g, x, two)) ]))
    | inr new ↦ absurd (let g : bucket_in k hash ≡ b = subst (λ (r : ℕ). bucket_in r hash ≡ b) new.0 exact in let less : b < a = new.1 in omega (arith, g, less, two))
  ]
]
two_pinned (Turning k a) l row b hash w used home two = elim home [
  | inr mixed ↦ absurd mixed
  | inl exact ↦ elim used [
    | inl old ↦ (
        let g : bucket_in (k + 1) hash ≡ b = subst (λ (r : ℕ). bucket_in r hash ≡ b) (old.0 ∙ w.0) exact in
        let least : a + 1 ≤ b = old.1.0 in
        inl (old.0 ∙ w.0, elim (halves hash k) [ inl x ↦ absurd (omega (arith, g, x, two, least)) | inr x ↦ omega (arith, g, x, two) ]))
    | inr new ↦ (let g : bucket_in k hash ≡ b = subst (λ (r : ℕ). bucket_in r hash ≡ b) new.0 exact in inr (new.0, omega (arith, g, two)))
  ]
]
two_pinned Closing l row b hash w used home two = absurd two

-- a text of the bucket of such a head is on one chain
pub exact_one : (n : Now) (f : Flow) (row b hash : ℕ) → IsWithin f.stage n.level → IsUsed n f row b → bucket_in row hash ≡ b → ¬ (IsPinned f.stage n.level row b) → IsOnTwo f.stage n.level hash → ⊥
exact_one n f row b hash w used home unpinned two = unpinned (two_pinned f.stage n.level row b hash w used (inl home) two)

-- a node of a head that no resize has locked is of a text that is on one chain
pub on_one : (n : Now) (f : Flow) → Chains n f → (row b s : ℕ) (text : List ℕ) (h : Handle) (at : ℕ) → IsUsed n f row b → On s (f.chain row b) → n.slot s ≡ Linked text h at
    → ¬ (IsPinned f.stage n.level row b) → IsOnTwo f.stage n.level (hash_of n.seed text) → ⊥
on_one n f chains row b s text h at used on linked unpinned two =
    let node : (u : List ℕ) × (k : Handle) × (since : ℕ) × (n.slot s ≡ Linked u k since) × IsHome n f row b (hash_of n.seed u) = chains.on_linked row b s used on in
    let same : Linked node.0 node.1 node.2 ≡ Linked text h at = sym node.3 ∙ linked in
    let texts : node.0 ≡ text = cc in
    let home : IsHome n f row b (hash_of n.seed text) = subst (λ (u : List ℕ). IsHome n f row b (hash_of n.seed u)) texts node.4 in
    unpinned (two_pinned f.stage n.level row b (hash_of n.seed text) chains.within used home two)

-- THE LEVEL'S ROW

-- of the heads of the level's row each is redirected or one to which callers come
pub left_or_gone : (st : Stage) (b : ℕ) → IsLeft st b ⊎ IsGone st b
left_or_gone Quiet b = inl tt
left_or_gone (Growing d) b = elim (below_or b d) [ inl x ↦ inr x | inr x ↦ inl x ]
left_or_gone (Splitting a) b = elim (below_or b (a + 1)) [ inl x ↦ inr x | inr x ↦ inl x ]
left_or_gone (Shrinking k d) b = off_or_in (2 ^ k) d d b
left_or_gone (Joining k a) b = off_or_in (2 ^ k) a a b
left_or_gone (Turning k a) b = off_or_in (2 ^ k) (a + 1) a b
left_or_gone Closing b = inl tt

-- where none is redirected and no chains are joined callers come to each head of the row, and each text to the row
pub whole_left : (st : Stage) (b : ℕ) → IsWhole st → IsLeft st b
whole_left Quiet b whole = tt
whole_left (Growing d) b whole = omega (arith, whole)
whole_left (Splitting a) b whole = absurd whole
whole_left (Shrinking k d) b whole = (omega (arith, whole), elim (below_or b (2 ^ k)) [ inl x ↦ inl x | inr x ↦ inr (omega (arith, whole, x)) ])
whole_left (Joining k a) b whole = absurd whole
whole_left (Turning k a) b whole = absurd whole
whole_left Closing b whole = tt

pub whole_unsent : (st : Stage) (l hash : ℕ) → IsWhole st → IsUnsent st l hash
whole_unsent Quiet l hash whole = tt
whole_unsent (Growing d) l hash whole = omega (arith, whole)
whole_unsent (Splitting a) l hash whole = absurd whole
whole_unsent (Shrinking k d) l hash whole = omega (arith, whole)
whole_unsent (Joining k a) l hash whole = absurd whole
whole_unsent (Turning k a) l hash whole = absurd whole
whole_unsent Closing l hash whole = tt

pub whole_exact : (st : Stage) (l row b hash : ℕ) → IsWhole st → HomeAt st l row b hash → bucket_in row hash ≡ b
whole_exact Quiet l row b hash whole home = elim home [ inl exact ↦ exact | inr mixed ↦ absurd mixed ]
whole_exact (Growing d) l row b hash whole home = elim home [ inl exact ↦ exact | inr mixed ↦ absurd mixed ]
whole_exact (Splitting a) l row b hash whole home = absurd whole
whole_exact (Shrinking k d) l row b hash whole home = elim home [ inl exact ↦ exact | inr mixed ↦ absurd mixed ]
whole_exact (Joining k a) l row b hash whole home = absurd whole
whole_exact (Turning k a) l row b hash whole home = absurd whole
whole_exact Closing l row b hash whole home = elim home [ inl exact ↦ exact | inr mixed ↦ absurd mixed ]

-- WHERE A TEXT COMES TO, BY ITS BUCKET

pairs_in : (hash k d : ℕ) → IsInPairs (2 ^ k) d d (bucket_in (k + 1) hash) → bucket_in k hash < d
pairs_in hash k d h =
    let less : bucket_in k hash < 2 ^ k = bucket_below k hash in
    elim h [
      | inl x ↦ elim (halves hash k) [ inl y ↦ omega (arith, x, y, less) | inr y ↦ omega (arith, x, y, less) ]
      | inr x ↦ (
          let u : 2 ^ k ≤ bucket_in (k + 1) hash = x.0 in
          let v : bucket_in (k + 1) hash < d + 2 ^ k = x.1 in
          elim (halves hash k) [ inl y ↦ omega (arith, u, v, y, less) | inr y ↦ omega (arith, u, v, y, less) ])
    ]

pairs_off : (hash k e d : ℕ) → d ≤ e → IsOffPairs (2 ^ k) e d (bucket_in (k + 1) hash) → d ≤ bucket_in k hash
pairs_off hash k e d le h =
    let less : bucket_in k hash < 2 ^ k = bucket_below k hash in
    let least : e ≤ bucket_in (k + 1) hash = h.0 in
    elim (halves hash k) [
      | inl y ↦ omega (arith, least, le, y)
      | inr y ↦ elim h.1 [ inl x ↦ absurd (omega (arith, x, y)) | inr x ↦ omega (arith, x, y) ]
    ]

unsent_here : (st : Stage) (l hash : ℕ) → IsWithin st l → IsLeft st (bucket_in l hash) → IsUnsent st l hash
unsent_here Quiet l hash w h = tt
unsent_here (Growing d) l hash w h = h
unsent_here (Splitting a) l hash w h = h
unsent_here (Shrinking k d) l hash w h = pairs_off hash k d d (omega arith) (subst (λ (x : ℕ). IsLeft (Shrinking k d) (bucket_in x hash)) w.0 h)
unsent_here (Joining k a) l hash w h = pairs_off hash k a a (omega arith) (subst (λ (x : ℕ). IsLeft (Joining k a) (bucket_in x hash)) w.0 h)
unsent_here (Turning k a) l hash w h =
    let off : IsOffPairs (2 ^ k) (a + 1) a (bucket_in (k + 1) hash) = subst (λ (x : ℕ). IsLeft (Turning k a) (bucket_in x hash)) w.0 h in
    let least : a + 1 ≤ bucket_in (k + 1) hash = off.0 in
    (pairs_off hash k (a + 1) a (omega arith) off, λ e. absurd (omega (arith, least, e)))
unsent_here Closing l hash w h = tt

sent_there : (st : Stage) (l hash : ℕ) → ¬ (IsOnTwo st l hash) → IsOpen st l (bucket_in (next_row st l) hash) → IsSent st l hash
sent_there Quiet l hash one h = h
sent_there (Growing d) l hash one h = pairs_in hash l d h
sent_there (Splitting a) l hash one h = pairs_in hash l (a + 1) h
sent_there (Shrinking k d) l hash one h = h
sent_there (Joining k a) l hash one h = h
sent_there (Turning k a) l hash one h = inl (elim (cases_eq (bucket_in k hash) a) [ inl e ↦ absurd (one e) | inr ne ↦ omega (arith, h, ne) ])
sent_there Closing l hash one h = h

-- a text that is on one chain comes to the used head of its bucket
pub used_comes : (n : Now) (f : Flow) (hash row b : ℕ) → IsWithin f.stage n.level → ¬ (IsOnTwo f.stage n.level hash) → IsUsed n f row b → bucket_in row hash ≡ b → ComesTo n f hash row
used_comes n f hash row b w one used home = elim used [
  | inl a ↦ inl (a.0, unsent_here f.stage n.level hash w (subst (IsLeft f.stage) (sym home ∙ ap (λ (x : ℕ). bucket_in x hash) a.0) a.1))
  | inr a ↦ inr (a.0, sent_there f.stage n.level hash one (subst (IsOpen f.stage n.level) (sym home ∙ ap (λ (x : ℕ). bucket_in x hash) a.0) a.1))
]

pub unzipped_two : (st : Stage) (l hash : ℕ) → IsUnzipped st l hash → IsOnTwo st l hash
unzipped_two Quiet l hash h = absurd h
unzipped_two (Growing d) l hash h = absurd h
unzipped_two (Splitting a) l hash h = h
unzipped_two (Shrinking k d) l hash h = absurd h
unzipped_two (Joining k a) l hash h = absurd h
unzipped_two (Turning k a) l hash h = absurd h
unzipped_two Closing l hash h = absurd h

pub mixed_two : (st : Stage) (l row b hash : ℕ) → IsMixed st l row b hash → IsOnTwo st l hash
mixed_two Quiet l row b hash h = absurd h
mixed_two (Growing d) l row b hash h = absurd h
mixed_two (Splitting a) l row b hash h = h.1
mixed_two (Shrinking k d) l row b hash h = absurd h
mixed_two (Joining k a) l row b hash h = h.1
mixed_two (Turning k a) l row b hash h = absurd h
mixed_two Closing l row b hash h = absurd h
