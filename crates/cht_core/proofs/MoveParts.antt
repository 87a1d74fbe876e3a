-- A bucket is unzipped: a node of one side, the winner, is moved past on the chain of the other side, the loser.
use Rattle.std.proofs.Common.{◌≡◌, ◌≢◌, ℕ, ◌+◌, ◌^◌, ◌<◌, ◌≤◌, ◌⊎◌, inl, inr, List, [], ◌∷◌, ◌++◌, Some, refl, sym, ap, subst, ◌∙◌, arith}
use Rattle.std.proofs.lemmas.Bool.{cases_eq}
use Rattle.chain_core.specs.Nodes.{On, Once}
use Rattle.chain_core.specs.Path.{without}
use Rattle.chain_core.proofs.Members.{on_right, on_either, once_parts, without-absent, without-here, without-other}
use Rattle.text_words.specs.Hash.{hash_of}
use Rattle.intern_log.specs.declared.event.Handle.{Handle}
use Rattle.intern_log.specs.Now.{Now, Phase, Linked, owner_of}
use Rattle.call_machine.specs.declared.resize.Chain.{Chain}
use Rattle.cht_core.specs.Chains.{Chains, AreRanked, born}
use Rattle.cht_core.specs.Flow.{Flow, IsUsed, IsHome}
use Rattle.cht_core.specs.KnowsResize.{Side, Over}
use Rattle.cht_core.specs.Memory.{Memory}
use Rattle.cht_core.specs.Stage.{Stage, Splitting, Parted, Whole, Pending, bucket_in, IsUnzipped, IsMixed, IsLeft, IsOpen, next_row}
use Rattle.cht_core.proofs.Buckets.{bucket_cases}
use Rattle.cht_core.proofs.Stages.{comes_used, halves, halves_low, halves_high}
use Rattle.cht_core.proofs.Withouts.{on_within, on_without, once_without, ranked_without}

-- one of the two buckets of the next row for those of a bucket
abbrev pub IsHalf : ℕ → ℕ → ℕ → Type 0
IsHalf level b c = (c ≡ b) ⊎ (c ≡ b + 2 ^ level)

-- the two sides, and the node that is to be moved past
pub record Moving (m : Memory) (n : Now) (f : Flow) (i b winner loser x : ℕ) (won_chain lost_chain : Chain) (rest : List ℕ) : Type 0 where
  pub stage : f.stage ≡ Splitting b
  pub below : b < 2 ^ n.level
  pub owner : owner_of n.resizing ≡ Some i
  pub win : IsHalf n.level b winner
  pub lose : IsHalf n.level b loser
  pub two : winner ≢ loser
  pub text : List ℕ
  pub handle : Handle
  pub made : ℕ
  pub at : n.slot x ≡ Linked text handle made
  pub in_half : bucket_in (n.level + 1) (hash_of n.seed text) ≡ winner
  pub won : Side m n f i n.level winner won_chain (x ∷ rest) Over
  pub lost : Side m n f i n.level loser lost_chain (x ∷ rest) Over

-- the chains and the parted slots once it was moved past
pub record Moved (n : Now) (f : Flow) (loser x : ℕ) (chain : ℕ → ℕ → List ℕ) (parted : ℕ → Parted) : Type 0 where
  pub here : chain (n.level + 1) loser ≡ without x (f.chain (n.level + 1) loser)
  pub away : (row bucket : ℕ) → IsUsed n f row bucket → (row ≡ n.level + 1 → bucket ≡ loser → ⊥) → chain row bucket ≡ f.chain row bucket
  pub pending : parted x ≡ Pending
  pub others : (s : ℕ) → s ≢ x → parted s ≡ f.parted s

-- a slot is linked with one text
pub one_text : (slot : ℕ → Phase) (s : ℕ) (a : List ℕ) (h : Handle) (p : ℕ) (b : List ℕ) (k : Handle) (q : ℕ) → slot s ≡ Linked a h p → slot s ≡ Linked b k q → a ≡ b
one_text slot s a h p b k q one two = let same : Linked a h p ≡ Linked b k q = sym one ∙ two in cc

-- the other of two
other_half : (level b one two c : ℕ) → IsHalf level b one → IsHalf level b two → one ≢ two → IsHalf level b c → c ≢ two → c ≡ one
other_half level b one two c is_one is_two apart is_c differ = elim is_c [
  | inl e ↦ elim is_two [ inl w ↦ absurd (differ (e ∙ sym w)) | inr w ↦ elim is_one [ inl o ↦ e ∙ sym o | inr o ↦ absurd (apart (o ∙ sym w)) ] ]
  | inr e ↦ elim is_two [ inr w ↦ absurd (differ (e ∙ sym w)) | inl w ↦ elim is_one [ inr o ↦ e ∙ sym o | inl o ↦ absurd (apart (o ∙ sym w)) ] ]
]

-- the text of a half is one of the bucket
pub half_in : (level b c hash : ℕ) → b < 2 ^ level → IsHalf level b c → bucket_in (level + 1) hash ≡ c → bucket_in level hash ≡ b
half_in level b c hash below half is = elim half [ inl e ↦ halves_low hash level b below (is ∙ e) | inr e ↦ halves_high hash level b (is ∙ e) ]

-- callers come to both halves
pub half_used : (n : Now) (f : Flow) (b c : ℕ) → f.stage ≡ Splitting b → IsHalf n.level b c → IsUsed n f (n.level + 1) c
half_used n f b c stage half = subst (λ (st : Stage). ((n.level + 1 ≡ n.level) × IsLeft st c × (c < 2 ^ (n.level + 1))) ⊎ ((n.level + 1 ≡ next_row st n.level) × IsOpen st n.level c)) (sym stage)
    (inr (refl, elim half [ inl e ↦ inl (omega (arith, e)) | inr e ↦ inr (omega (arith, e), omega (arith, e)) ]))

-- a text of the bucket is on a chain of one of them alone
pub on_half : (n : Now) (f : Flow) (b row bucket hash : ℕ) → f.stage ≡ Splitting b → IsUsed n f row bucket → IsHome n f row bucket hash → bucket_in n.level hash ≡ b
    → (row ≡ n.level + 1) × IsHalf n.level b bucket
on_half n f b row bucket hash stage used home mine =
    go (subst (λ (st : Stage). ((row ≡ n.level) × IsLeft st bucket × (bucket < 2 ^ row)) ⊎ ((row ≡ next_row st n.level) × IsOpen st n.level bucket)) stage used)
    (subst (λ (st : Stage). (bucket_in row hash ≡ bucket) ⊎ IsMixed st n.level row bucket hash) stage home)
  where
    go : ((row ≡ n.level) × IsLeft (Splitting b) bucket × (bucket < 2 ^ row)) ⊎ ((row ≡ next_row (Splitting b) n.level) × IsOpen (Splitting b) n.level bucket)
        → (bucket_in row hash ≡ bucket) ⊎ IsMixed (Splitting b) n.level row bucket hash → (row ≡ n.level + 1) × IsHalf n.level b bucket
    go used home = elim home [
      | inr mixed ↦ (mixed.0, mixed.2)
      | inl exact ↦ elim used [
        | inl old ↦ (let same : bucket_in n.level hash ≡ bucket = subst (λ (r : ℕ). bucket_in r hash ≡ bucket) old.0 exact in let least : b + 1 ≤ bucket = old.1 in absurd (omega (arith, same, mine, least)))
        | inr new ↦ (
            let same : bucket_in (n.level + 1) hash ≡ bucket = subst (λ (r : ℕ). bucket_in r hash ≡ bucket) new.0 exact in
            (new.0, elim (halves hash n.level) [ inl low ↦ inl (omega (arith, same, mine, low)) | inr high ↦ inr (omega (arith, same, mine, high)) ]))
      ]
    ]

-- The chains before.
module _ (m : Memory) (n : Now) (f : Flow) (i b winner loser x : ℕ) (won_chain lost_chain : Chain) (rest : List ℕ) (chains : Chains n f)
    (h : Moving m n f i b winner loser x won_chain lost_chain rest) where
  pub in_bucket : bucket_in n.level (hash_of n.seed h.text) ≡ b
  in_bucket = half_in n.level b winner (hash_of n.seed h.text) h.below h.win h.in_half

  pub once_lost : Once (h.lost.own ++ x ∷ rest)
  once_lost = subst Once h.lost.order (chains.once (n.level + 1) loser (half_used n f b loser h.stage h.lose))

  pub once_won : Once (h.won.own ++ x ∷ rest)
  once_won = subst Once h.won.order (chains.once (n.level + 1) winner (half_used n f b winner h.stage h.win))

  -- the chain of the loser has its own nodes and the others, but for the one
  pub past_lost : without x (h.lost.own ++ x ∷ rest) ≡ h.lost.own ++ rest
  past_lost = cut h.lost.own once_lost
    where
      cut : (own : List ℕ) → Once (own ++ x ∷ rest) → without x (own ++ x ∷ rest) ≡ own ++ rest
      cut [] once = without-here x rest ∙ without-absent x rest once.0
      cut (y ∷ own) once = without-other x y (own ++ x ∷ rest) (λ e. once.0 (subst (λ (a : ℕ). On a (own ++ x ∷ rest)) (sym e) (on_right own (x ∷ rest) x (inl refl)))) ∙ ap (λ (nodes : List ℕ). y ∷ nodes) (cut own once.1)

  -- an own node of the loser is on its chain alone
  pub only_lost : (y row bucket : ℕ) → On y h.lost.own → IsUsed n f row bucket → On y (f.chain row bucket) → (row ≡ n.level + 1) × (bucket ≡ loser)
  only_lost y row bucket own used on =
      let mine = h.lost.mine y own in
      let there = chains.on_linked row bucket y used on in
      let same : there.0 ≡ mine.0 = one_text n.slot y there.0 there.1 there.2 mine.0 mine.1 mine.2 there.3 mine.3 in
      let home : IsHome n f row bucket (hash_of n.seed mine.0) = subst (λ (text : List ℕ). IsHome n f row bucket (hash_of n.seed text)) same there.4 in
      let half : (row ≡ n.level + 1) × IsHalf n.level b bucket =
      on_half n f b row bucket (hash_of n.seed mine.0) h.stage used home (half_in n.level b loser (hash_of n.seed mine.0) h.below h.lose mine.4) in
      let away : bucket ≢ winner = λ e.
      let on_won : On y (h.won.own ++ x ∷ rest) = subst (λ (nodes : List ℕ). On y nodes) h.won.order (subst (λ (c : ℕ). On y (f.chain (n.level + 1) c)) e (subst (λ (r : ℕ). On y (f.chain r bucket)) half.0 on)) in
      elim (on_either h.won.own (x ∷ rest) y on_won) [
        | inl o ↦ (
            let w = h.won.mine y o in
            let texts : w.0 ≡ mine.0 = one_text n.slot y w.0 w.1 w.2 mine.0 mine.1 mine.2 w.3 mine.3 in
            h.two (sym w.4 ∙ ap (λ (text : List ℕ). bucket_in (n.level + 1) (hash_of n.seed text)) texts ∙ mine.4))
        | inr o ↦ once_parts h.lost.own (x ∷ rest) y once_lost own o
      ] in
      (half.0, other_half n.level b loser winner bucket h.lose h.win (λ e. h.two (sym e)) half.1 away)

-- The chains after.
module _ (m : Memory) (n : Now) (f : Flow) (i b winner loser x : ℕ) (won_chain lost_chain : Chain) (rest : List ℕ) (chain : ℕ → ℕ → List ℕ) (parted : ℕ → Parted)
    (chains : Chains n f) (h : Moving m n f i b winner loser x won_chain lost_chain rest) (z : Moved n f loser x chain parted) where
  abbrev pub moved_flow : Flow
  moved_flow = record f { chain = chain; parted = parted }

  -- what is on a chain then was on it
  pub was_on : (row bucket s : ℕ) → IsUsed n f row bucket → On s (chain row bucket) → On s (f.chain row bucket)
  was_on row bucket s used on = elim (bucket_cases (n.level + 1) loser row bucket) [
    | inl same ↦ subst (λ (r : ℕ). On s (f.chain r bucket)) (sym same.0) (subst (λ (c : ℕ). On s (f.chain (n.level + 1) c)) (sym same.1)
        (on_within x s (f.chain (n.level + 1) loser) (subst (λ (nodes : List ℕ). On s nodes) z.here
        (subst (λ (c : ℕ). On s (chain (n.level + 1) c)) same.1 (subst (λ (r : ℕ). On s (chain r bucket)) same.0 on)))).0)
    | inr differ ↦ subst (λ (nodes : List ℕ). On s nodes) (z.away row bucket used differ) on
  ]

  -- what is on a chain with the same nodes, and on that of the loser
  pub chain_cases : (P : ℕ → ℕ → List ℕ → Type 0) → P (n.level + 1) loser (without x (f.chain (n.level + 1) loser))
      → ((row bucket : ℕ) → IsUsed n f row bucket → (row ≡ n.level + 1 → bucket ≡ loser → ⊥) → P row bucket (f.chain row bucket)) → (row bucket : ℕ) → IsUsed n f row bucket → P row bucket (chain row bucket)
  chain_cases P at_loser elsewhere row bucket used = elim (bucket_cases (n.level + 1) loser row bucket) [
    | inl same ↦ subst (λ (r : ℕ). P r bucket (chain r bucket)) (sym same.0) (subst (λ (c : ℕ). P (n.level + 1) c (chain (n.level + 1) c)) (sym same.1) (subst (P (n.level + 1) loser) (sym z.here) at_loser))
    | inr differ ↦ subst (P row bucket) (sym (z.away row bucket used differ)) (elsewhere row bucket used differ)
  ]

  -- then the node is on the winner's chain alone
  pub alone : (row bucket : ℕ) → IsUsed n f row bucket → On x (chain row bucket) → (row ≡ n.level + 1) × (bucket ≡ winner)
  alone = chain_cases (λ row bucket nodes. On x nodes → (row ≡ n.level + 1) × (bucket ≡ winner))
      (λ on. absurd ((on_within x x (f.chain (n.level + 1) loser) on).1 refl))
      (λ row bucket used differ on.
      let there = chains.on_linked row bucket x used on in
      let same : there.0 ≡ h.text = one_text n.slot x there.0 there.1 there.2 h.text h.handle h.made there.3 h.at in
      let home : IsHome n f row bucket (hash_of n.seed h.text) = subst (λ (text : List ℕ). IsHome n f row bucket (hash_of n.seed text)) same there.4 in
      let half : (row ≡ n.level + 1) × IsHalf n.level b bucket = on_half n f b row bucket (hash_of n.seed h.text) h.stage used home (in_bucket m n f i b winner loser x won_chain lost_chain rest chains h) in
      (half.0, other_half n.level b winner loser bucket h.win h.lose h.two half.1 (differ half.0)))

  pub moved_chains : Chains n moved_flow
  moved_chains = record {
    on_linked = λ row bucket s used on. chains.on_linked row bucket s used (was_on row bucket s used on);
    linked_on = λ s text k at row is to.
        chain_cases (λ r c nodes. On s (f.chain r c) → c ≡ bucket_in r (hash_of n.seed text) → On s nodes)
        (λ on mine. on_without x s (f.chain (n.level + 1) loser) on (λ e.
        let texts : text ≡ h.text = one_text n.slot x text k at h.text h.handle h.made (ap n.slot (sym e) ∙ is) h.at in
        h.two (sym h.in_half ∙ ap (λ (a : List ℕ). bucket_in (n.level + 1) (hash_of n.seed a)) (sym texts) ∙ sym mine)))
        (λ r c used differ on mine. on)
        row (bucket_in row (hash_of n.seed text)) (comes_used n f (hash_of n.seed text) row chains.within to) (chains.linked_on s text k at row is to) refl;
    once = chain_cases (λ row bucket nodes. Once nodes)
        (once_without x (f.chain (n.level + 1) loser) (chains.once (n.level + 1) loser (half_used n f b loser h.stage h.lose)))
        (λ row bucket used differ. chains.once row bucket used);
    ranked = λ row bucket used. elim (chains.ranked row bucket used) [
      | inl joined ↦ inl joined
      | inr ranked ↦ inr (chain_cases (λ row bucket nodes. AreRanked (f.base row bucket) (born n.slot) (f.chain row bucket) → AreRanked (f.base row bucket) (born n.slot) nodes)
          (λ was. ranked_without (f.base (n.level + 1) loser) (born n.slot) x (f.chain (n.level + 1) loser) was)
          (λ row bucket used differ was. was) row bucket used ranked)
    ];
    bases = chains.bases;
    sides = λ row bucket s text k at used on is. elim (cases_eq s x) [
      | inl e ↦ (
          let only : (row ≡ n.level + 1) × (bucket ≡ winner) = alone row bucket used (subst (λ (a : ℕ). On a (chain row bucket)) e on) in
          let texts : text ≡ h.text = one_text n.slot x text k at h.text h.handle h.made (ap n.slot (sym e) ∙ is) h.at in
          inr (only.0, ap (λ (r : ℕ). bucket_in r (hash_of n.seed text)) only.0 ∙ ap (λ (a : List ℕ). bucket_in (n.level + 1) (hash_of n.seed a)) texts ∙ h.in_half ∙ sym only.1))
      | inr ne ↦ subst (λ (a : Parted). (a ≡ Whole) ⊎ ((row ≡ n.level + 1) × (bucket_in row (hash_of n.seed text) ≡ bucket))) (sym (z.others s ne))
          (chains.sides row bucket s text k at used (was_on row bucket s used on) is)
    ];
    loose = λ s. elim (cases_eq s x) [
      | inl e ↦ inr (h.text, h.handle, h.made, ap n.slot e ∙ h.at, subst (λ (st : Stage). IsUnzipped st n.level (hash_of n.seed h.text)) (sym h.stage) (in_bucket m n f i b winner loser x won_chain lost_chain rest chains h))
      | inr ne ↦ subst (λ (a : Parted). (a ≡ Whole) ⊎ ((text : List ℕ) × (k : Handle) × (at : ℕ) × (n.slot s ≡ Linked text k at) × IsUnzipped f.stage n.level (hash_of n.seed text))) (sym (z.others s ne)) (chains.loose s)
    ];
    within = chains.within;
  }
