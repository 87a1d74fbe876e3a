-- The odd head of a pair is redirected, after the even one.
use Rattle.std.proofs.Common.{◌≡◌, ℕ, ◌+◌, ◌^◌, ◌<◌, ◌≤◌, inl, inr, List, Option, Some, refl, sym, ap, subst, ◌∙◌, arith}
use Rattle.std.proofs.lemmas.Bool.{cases_eq}
use Rattle.chain_core.specs.Nodes.{On}
use Rattle.chain_core.proofs.Members.{on_right}
use Rattle.text_words.specs.Hash.{hash_of}
use Rattle.intern_log.specs.declared.event.Handle.{Handle}
use Rattle.intern_log.specs.Now.{Now, OpenSection, Linked}
use Rattle.cht_core.specs.Chains.{Chains}
use Rattle.cht_core.specs.Flow.{Flow, IsUsed, IsHome}
use Rattle.cht_core.specs.KnowsResize.{HasTurned}
use Rattle.cht_core.specs.Memory.{Memory}
use Rattle.cht_core.specs.Search.{IsRouted, IsSentOn}
use Rattle.cht_core.specs.Stage.{Shrinking, Turning, bucket_in, IsSent}
use Rattle.cht_core.proofs.JoinState.{at_row}
use Rattle.cht_core.proofs.RedirectParts.{Redirects}
use Rattle.cht_core.proofs.Stages.{row_up, halves, halves_low}

-- the flow at this stage of the shrink, and afterwards
abbrev pub half_turned : Flow → ℕ → ℕ → Flow
half_turned g k b = record g { stage = Turning k b }

abbrev pub shrunk : Flow → ℕ → ℕ → Flow
shrunk g k b = record g { stage = Shrinking k (b + 1) }

module _ (n : Now) (g : Flow) (k b : ℕ) where
  -- callers came before to each head to which they come then; and to all but the redirected one they still come
  used_was : (r c : ℕ) → IsUsed (at_row n k) (shrunk g k b) r c → IsUsed (at_row n k) (half_turned g k b) r c
  used_was r c used = elim used [
    | inl a ↦ inl (a.0, (a.1.0, elim a.1.1 [ inl x ↦ inl x | inr x ↦ inr (let most : b + 1 + 2 ^ k ≤ c = x in omega (arith, most)) ]), a.2)
    | inr a ↦ inr a
  ]

  not_odd : (r c : ℕ) → IsUsed (at_row n k) (shrunk g k b) r c → r ≡ k + 1 → c ≡ b + 2 ^ k → ⊥
  not_odd r c used rows buckets = elim used [
    | inl a ↦ elim a.1.1 [ inl x ↦ omega (arith, x, buckets) | inr x ↦ (let most : b + 1 + 2 ^ k ≤ c = x in omega (arith, most, buckets)) ]
    | inr a ↦ (let down : r ≡ k = a.0 in omega (arith, down, rows))
  ]

  used_still : (r c : ℕ) → (r ≡ k + 1 → c ≡ b + 2 ^ k → ⊥) → IsUsed (at_row n k) (half_turned g k b) r c → IsUsed (at_row n k) (shrunk g k b) r c
  used_still r c differ used = elim used [
    | inl a ↦ inl (
      a.0,
      (a.1.0, elim a.1.1 [ inl x ↦ inl x | inr x ↦ inr (elim (cases_eq c (b + 2 ^ k)) [ inl same ↦ absurd (differ a.0 same) | inr other ↦ (let least : b + 2 ^ k ≤ c = x in omega (arith, least, other)) ]) ]),
      a.2,
    )
    | inr a ↦ inr a
  ]

  was_sent : (hash : ℕ) → b < 2 ^ k → IsSent (Turning k b) (k + 1) hash → bucket_in k hash < b + 1
  was_sent hash below sent = elim sent [ inl x ↦ omega (arith, x) | inr x ↦ (let mine : bucket_in k hash ≡ b = halves_low hash k b below x in omega (arith, mine)) ]

  module _ (m : Memory) (i : ℕ) (even first : Option ℕ) (turned : HasTurned m (at_row n k) (half_turned g k b) i k b even first) where
    below : b < 2 ^ k
    below = turned.0

    pub odd_chains : Chains (at_row n k) (half_turned g k b) → Chains (at_row n k) (shrunk g k b)
    odd_chains c0 = record {
      on_linked = λ r c s used on.
          let a : (text : List ℕ) × (h : Handle) × (at : ℕ) × (n.slot s ≡ Linked text h at) × IsHome (at_row n k) (half_turned g k b) r c (hash_of n.seed text) = c0.on_linked r c s (used_was r c used) on in
          (a.0, a.1, a.2, a.3, elim a.4 [ inl e ↦ inl e | inr z ↦ absurd z ]);
      linked_on = λ s text h at r is to. elim to [
        | inl a ↦ (
            let most : b + 1 ≤ bucket_in k (hash_of n.seed text) = a.1 in
            c0.linked_on s text h at r is (inl (a.0, (omega (arith, most), λ even. let mine : bucket_in k (hash_of n.seed text) ≡ b = halves_low (hash_of n.seed text) k b below even in omega (arith, mine, most)))))
        | inr a ↦ elim (cases_eq (bucket_in k (hash_of n.seed text)) b) [
          | inl mine ↦ elim (halves (hash_of n.seed text) k) [
            | inl low ↦ c0.linked_on s text h at r is (inr (a.0, inr (low ∙ mine)))
            | inr high ↦ (
                let up : 0 < 2 ^ k = row_up k in
                let odd : bucket_in (k + 1) (hash_of n.seed text) ≡ b + 2 ^ k = high ∙ ap (λ (x : ℕ). x + 2 ^ k) mine in
                let on : On s (g.chain (k + 1) (bucket_in (k + 1) (hash_of n.seed text))) = c0.linked_on s text h at (k + 1) is (inl (refl, (omega (arith, mine), λ even. omega (arith, even, odd, up)))) in
                let new : On s (g.chain k b) = subst (On s) (sym turned.4.1) (on_right turned.4.0 (g.chain (k + 1) (b + 2 ^ k)) s (subst (λ (x : ℕ). On s (g.chain (k + 1) x)) odd on)) in
                subst (λ (x : ℕ). On s (g.chain x (bucket_in x (hash_of n.seed text)))) (sym a.0) (subst (λ (x : ℕ). On s (g.chain k x)) (sym mine) new))
          ]
          | inr other ↦ c0.linked_on s text h at r is (inr (a.0, inl (let most : bucket_in k (hash_of n.seed text) < b + 1 = a.1 in omega (arith, most, other))))
        ]
      ];
      once = λ r c used. c0.once r c (used_was r c used);
      ranked = λ r c used. elim (c0.ranked r c (used_was r c used)) [ inl z ↦ absurd z | inr ranked ↦ inr ranked ];
      bases = c0.bases;
      sides = λ r c s text h at used on is. c0.sides r c s text h at (used_was r c used) on is;
      loose = λ s. elim (c0.loose s) [ inl is ↦ inl is | inr is ↦ absurd is.4 ];
      within = (refl, (let less : b < 2 ^ k = below in omega (arith, less)));
    }

    pub odd_heads : Redirects m (at_row n k) (half_turned g k b) g.chain (Shrinking k (b + 1)) i (k + 1) (b + 2 ^ k)
    odd_heads = record {
      at_level = refl;
      owner = turned.3.owner;
      lock = turned.1.0;
      unused = λ used. not_odd (k + 1) (b + 2 ^ k) used refl refl;
      new_or_old = λ r c used. inr (used_was r c used, refl);
      stays = used_still;
      chains = λ r c other. refl;
      behind = λ r c behind. behind;
      gone = λ c gone. elim gone [
        | inl x ↦ inr (inl x)
        | inr x ↦ elim (cases_eq c (b + 2 ^ k)) [ inl same ↦ inl same | inr other ↦ inr (inr (x.0, (let most : c < b + 1 + 2 ^ k = x.1 in omega (arith, most, other)))) ]
      ];
      pinned = λ r c pinned. absurd pinned;
      named = refl;
    }

    -- who was sent to a row or on stays so
    pub odd_routes : (k' hash r : ℕ) (o : OpenSection) → n.section k' ≡ Some o → IsRouted (at_row n k) (half_turned g k b) o.place hash r → IsRouted (at_row n k) (shrunk g k b) o.place hash r
    odd_routes k' hash r o inside routed = elim routed [
      | inl here ↦ inl here
      | inr other ↦ elim other [ inl there ↦ inr (inl (there.0, was_sent hash below there.1)) | inr before ↦ inr (inr before) ]
    ]

    pub odd_onward : (k' hash r : ℕ) (o : OpenSection) → n.section k' ≡ Some o → IsSentOn (at_row n k) (half_turned g k b) o.place hash r → IsSentOn (at_row n k) (shrunk g k b) o.place hash r
    odd_onward k' hash r o inside sent = elim sent [ inl here ↦ inl (here.0, was_sent hash below here.1) | inr before ↦ inr before ]
