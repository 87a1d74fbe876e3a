-- A bucket of a grow is redirected: both new heads lead along its chain from here on.
use Rattle.std.proofs.Common.{◌≡◌, ℕ, ◌+◌, ◌^◌, ◌<◌, ◌≤◌, ◌⊎◌, inl, inr, List, Option, Some, refl, sym, ap, subst, ◌∙◌, arith}
use Rattle.std.proofs.lemmas.Bool.{cases_eq}
use Rattle.chain_core.specs.Nodes.{On, Once}
use Rattle.chain_core.specs.Path.{IsPath}
use Rattle.text_words.specs.Hash.{hash_of}
use Rattle.intern_log.specs.declared.event.Handle.{Handle}
use Rattle.intern_log.specs.Now.{Now, OpenSection, Linked}
use Rattle.cht_core.specs.Chains.{Chains, AreRanked, born, birth}
use Rattle.cht_core.specs.Flow.{Flow, IsUsed, IsHome, with_chain, with_base}
use Rattle.cht_core.specs.Heads.{Heads}
use Rattle.cht_core.specs.KnowsResize.{HasLocked, HasSplit}
use Rattle.cht_core.specs.Memory.{Memory, links}
use Rattle.cht_core.specs.Search.{IsRouted, IsSentOn}
use Rattle.cht_core.specs.Stage.{Growing, Splitting, Whole, bucket_in}
use Rattle.cht_core.specs.TableState.{IsClear}
use Rattle.cht_core.proofs.CreateParts.{chain_here, chain_elsewhere}
use Rattle.cht_core.proofs.JoinState.{head_path}
use Rattle.cht_core.proofs.RedirectFlows.{base_here, base_elsewhere, ranked_old}
use Rattle.cht_core.proofs.RedirectParts.{Redirects}
use Rattle.cht_core.proofs.Stages.{halves, halves_low, halves_high}

-- the flow at this stage of the grow
abbrev pub growing : Flow → ℕ → Flow
growing g b = record g { stage = Growing b }

module _ (n : Now) (g : Flow) (b : ℕ) where
  -- the chains, the bases and the flow afterwards
  abbrev pub split_chain : ℕ → ℕ → List ℕ
  split_chain = with_chain (with_chain g.chain (n.level + 1) b (g.chain n.level b)) (n.level + 1) (b + 2 ^ n.level) (g.chain n.level b)

  abbrev pub split_base : ℕ → ℕ → ℕ
  split_base = with_base (with_base g.base (n.level + 1) b n.place) (n.level + 1) (b + 2 ^ n.level) n.place

  abbrev pub splitting : Flow
  splitting = record g { chain = split_chain; base = split_base; stage = Splitting b }

  -- a head of the new row is one of the two that begin, or not
  abbrev IsHalf : ℕ → Type 0
  IsHalf c = (c ≡ b) ⊎ (c ≡ b + 2 ^ n.level)

  cases_half : (r c : ℕ) → ((r ≡ n.level + 1) × IsHalf c) ⊎ (r ≡ n.level + 1 → IsHalf c → ⊥)
  cases_half r c = elim (cases_eq r (n.level + 1)) [
    | inr differ ↦ inr (λ rows half. differ rows)
    | inl rows ↦ elim (cases_eq c b) [
      | inl low ↦ inl (rows, inl low)
      | inr not_low ↦ elim (cases_eq c (b + 2 ^ n.level)) [
        | inl high ↦ inl (rows, inr high)
        | inr not_high ↦ inr (λ rows half. elim half [ inl low ↦ not_low low | inr high ↦ not_high high ])
      ]
    ]
  ]

  split_new : (r c : ℕ) → r ≡ n.level + 1 → IsHalf c → split_chain r c ≡ g.chain n.level b
  split_new r c rows half = elim (cases_eq c (b + 2 ^ n.level)) [
    | inl high ↦ chain_here (with_chain g.chain (n.level + 1) b (g.chain n.level b)) (n.level + 1) (b + 2 ^ n.level) (g.chain n.level b) r c rows high
    | inr differ ↦ chain_elsewhere (with_chain g.chain (n.level + 1) b (g.chain n.level b)) (n.level + 1) (b + 2 ^ n.level) (g.chain n.level b) r c (λ same high. differ high)
        ∙ elim half [ inl low ↦ chain_here g.chain (n.level + 1) b (g.chain n.level b) r c rows low | inr high ↦ absurd (differ high) ]
  ]

  split_old : (r c : ℕ) → (r ≡ n.level + 1 → IsHalf c → ⊥) → split_chain r c ≡ g.chain r c
  split_old r c differ =
      chain_elsewhere (with_chain g.chain (n.level + 1) b (g.chain n.level b)) (n.level + 1) (b + 2 ^ n.level) (g.chain n.level b) r c (λ rows high. differ rows (inr high))
      ∙ chain_elsewhere g.chain (n.level + 1) b (g.chain n.level b) r c (λ rows low. differ rows (inl low))

  base_new : (r c : ℕ) → r ≡ n.level + 1 → IsHalf c → split_base r c ≡ n.place
  base_new r c rows half = elim (cases_eq c (b + 2 ^ n.level)) [
    | inl high ↦ base_here (with_base g.base (n.level + 1) b n.place) (n.level + 1) (b + 2 ^ n.level) n.place r c rows high
    | inr differ ↦ base_elsewhere (with_base g.base (n.level + 1) b n.place) (n.level + 1) (b + 2 ^ n.level) n.place r c (λ same high. differ high)
        ∙ elim half [ inl low ↦ base_here g.base (n.level + 1) b n.place r c rows low | inr high ↦ absurd (differ high) ]
  ]

  base_old : (r c : ℕ) → (r ≡ n.level + 1 → IsHalf c → ⊥) → split_base r c ≡ g.base r c
  base_old r c differ =
      base_elsewhere (with_base g.base (n.level + 1) b n.place) (n.level + 1) (b + 2 ^ n.level) n.place r c (λ rows high. differ rows (inr high))
      ∙ base_elsewhere g.base (n.level + 1) b n.place r c (λ rows low. differ rows (inl low))

  -- a head to which callers come then is one of the two, or callers came to it before; and to all but the redirected one they still come
  used_was : (r c : ℕ) → (r ≡ n.level + 1 → IsHalf c → ⊥) → IsUsed n splitting r c → IsUsed n (growing g b) r c
  used_was r c differ used = elim used [
    | inl a ↦ inl (a.0, (let least : b + 1 ≤ c = a.1 in omega (arith, least)), a.2)
    | inr a ↦ inr (
      a.0,
      elim a.1 [
        | inl x ↦ inl (elim (cases_eq c b) [ inl low ↦ absurd (differ a.0 (inl low)) | inr not_low ↦ (let most : c < b + 1 = x in omega (arith, most, not_low)) ])
        | inr x ↦ inr (x.0, elim (cases_eq c (b + 2 ^ n.level)) [ inl high ↦ absurd (differ a.0 (inr high)) | inr not_high ↦ (let most : c < b + 1 + 2 ^ n.level = x.1 in omega (arith, most, not_high)) ])
      ],
    )
  ]

  used_still : (r c : ℕ) → (r ≡ n.level → c ≡ b → ⊥) → IsUsed n (growing g b) r c → IsUsed n splitting r c
  used_still r c differ used = elim used [
    | inl a ↦ inl (a.0, elim (cases_eq c b) [ inl same ↦ absurd (differ a.0 same) | inr other ↦ (let least : b ≤ c = a.1 in omega (arith, least, other)) ], a.2)
    | inr a ↦ inr (a.0, elim a.1 [ inl x ↦ inl (let most : c < b = x in omega (arith, most)) | inr x ↦ inr (x.0, (let most : c < b + 2 ^ n.level = x.1 in omega (arith, most))) ])
  ]

  module _ (bound : b < 2 ^ n.level) (births : (s : ℕ) (text : List ℕ) (h : Handle) (at : ℕ) → n.slot s ≡ Linked text h at → (h.slot ≡ s) × (at < n.place)) (h : Chains n (growing g b)) where
    old_used : IsUsed n (growing g b) n.level b
    old_used = inl (refl, omega arith, bound)

    whole : (s : ℕ) → g.parted s ≡ Whole
    whole s = elim (h.loose s) [ inl is ↦ is | inr is ↦ absurd is.4 ]

    pub split_chains : Chains n splitting
    split_chains = record {
      on_linked = λ r c s used on. elim (cases_half r c) [
        | inl e ↦ (
            let k : (text : List ℕ) × (hd : Handle) × (at : ℕ) × (n.slot s ≡ Linked text hd at) × IsHome n (growing g b) n.level b (hash_of n.seed text) =
            h.on_linked n.level b s old_used (subst (On s) (split_new r c e.0 e.1) on) in
            (k.0, k.1, k.2, k.3, inr (e.0, elim k.4 [ inl x ↦ x | inr x ↦ absurd x ], e.1)))
        | inr differ ↦ (
            let k : (text : List ℕ) × (hd : Handle) × (at : ℕ) × (n.slot s ≡ Linked text hd at) × IsHome n (growing g b) r c (hash_of n.seed text) =
            h.on_linked r c s (used_was r c differ used) (subst (On s) (split_old r c differ) on) in
            (k.0, k.1, k.2, k.3, elim k.4 [ inl x ↦ inl x | inr x ↦ absurd x ]))
      ];
      linked_on = λ s text hd at r is to. elim to [
        | inl a ↦ subst (On s) (sym (split_old r (bucket_in r (hash_of n.seed text)) (λ rows half. let y : r ≡ n.level = a.0 in omega (arith, y, rows))))
            (h.linked_on s text hd at r is (inl (a.0, (let y : b + 1 ≤ bucket_in n.level (hash_of n.seed text) = a.1 in omega (arith, y)))))
        | inr a ↦ elim (cases_eq (bucket_in n.level (hash_of n.seed text)) b) [
          | inl e ↦ (
              let on : On s (g.chain n.level b) = subst (λ (x : ℕ). On s (g.chain n.level x)) e (h.linked_on s text hd at n.level is (inl (refl, omega (arith, e)))) in
              let half : IsHalf (bucket_in (n.level + 1) (hash_of n.seed text)) =
              elim (halves (hash_of n.seed text) n.level) [ inl x ↦ inl (x ∙ e) | inr x ↦ inr (x ∙ ap (λ (y : ℕ). y + 2 ^ n.level) e) ] in
              subst (On s) (sym (split_new r (bucket_in r (hash_of n.seed text)) a.0 (subst (λ (x : ℕ). IsHalf (bucket_in x (hash_of n.seed text))) (sym a.0) half))) on)
          | inr other ↦ (
              let less : bucket_in n.level (hash_of n.seed text) < b + 1 = a.1 in
              subst (On s) (sym (split_old r (bucket_in r (hash_of n.seed text)) (λ rows half. other (elim half [
                | inl y ↦ halves_low (hash_of n.seed text) n.level b bound (subst (λ (x : ℕ). bucket_in x (hash_of n.seed text) ≡ b) rows y)
                | inr y ↦ halves_high (hash_of n.seed text) n.level b (subst (λ (x : ℕ). bucket_in x (hash_of n.seed text) ≡ b + 2 ^ n.level) rows y)
              ])))) (h.linked_on s text hd at r is (inr (a.0, omega (arith, less, other)))))
        ]
      ];
      once = λ r c used. elim (cases_half r c) [
        | inl e ↦ subst Once (sym (split_new r c e.0 e.1)) (h.once n.level b old_used)
        | inr differ ↦ subst Once (sym (split_old r c differ)) (h.once r c (used_was r c differ used))
      ];
      ranked = λ r c used. inr (elim (cases_half r c) [
        | inl e ↦ subst (λ (a : ℕ). AreRanked a (born n.slot) (split_chain r c)) (sym (base_new r c e.0 e.1)) (subst (AreRanked n.place (born n.slot)) (sym (split_new r c e.0 e.1))
            (ranked_old n.place (born n.slot) (g.chain n.level b) (λ s on.
            let k : (text : List ℕ) × (hd : Handle) × (at : ℕ) × (n.slot s ≡ Linked text hd at) × IsHome n (growing g b) n.level b (hash_of n.seed text) = h.on_linked n.level b s old_used on in
            let less : k.2 < n.place = (births s k.0 k.1 k.2 k.3).1 in
            let same : born n.slot s ≡ k.2 = ap birth k.3 in
            omega (arith, less, same))))
        | inr differ ↦ subst (λ (a : ℕ). AreRanked a (born n.slot) (split_chain r c)) (sym (base_old r c differ)) (subst (AreRanked (g.base r c) (born n.slot)) (sym (split_old r c differ))
            (elim (h.ranked r c (used_was r c differ used)) [ inl joined ↦ absurd joined | inr ranked ↦ ranked ]))
      ]);
      bases = λ r c. elim (cases_half r c) [
        | inl e ↦ (let same : split_base r c ≡ n.place = base_new r c e.0 e.1 in omega (arith, same))
        | inr differ ↦ (let same : split_base r c ≡ g.base r c = base_old r c differ in let most : g.base r c ≤ n.place = h.bases r c in omega (arith, same, most))
      ];
      sides = λ r c s text hd at used on is. inl (whole s);
      loose = λ s. inl (whole s);
      within = bound;
    }

  -- who was sent to a row or on stays so
  pub split_routes : (k hash r : ℕ) (o : OpenSection) → n.section k ≡ Some o → IsRouted n (growing g b) o.place hash r → IsRouted n splitting o.place hash r
  split_routes k hash r o inside routed = elim routed [
    | inl here ↦ inl here
    | inr other ↦ elim other [ inl there ↦ inr (inl (there.0, (let less : bucket_in n.level hash < b = there.1 in omega (arith, less)))) | inr before ↦ inr (inr before) ]
  ]

  pub split_onward : (k hash r : ℕ) (o : OpenSection) → n.section k ≡ Some o → IsSentOn n (growing g b) o.place hash r → IsSentOn n splitting o.place hash r
  split_onward k hash r o inside sent = elim sent [ inl here ↦ inl (here.0, (let less : bucket_in n.level hash < b = here.1 in omega (arith, less))) | inr before ↦ inr before ]

  -- the heads
  module _ (m : Memory) (i : ℕ) (first : Option ℕ) (split : HasSplit m n (growing g b) i n.level b first) (heads : Heads m n (growing g b)) where
    half_lock : (c : ℕ) → IsHalf c → HasLocked m n i (n.level + 1) c first
    half_lock c half = elim half [
      | inl low ↦ subst (λ (x : ℕ). HasLocked m n i (n.level + 1) x first) (sym low) split.2
      | inr high ↦ subst (λ (x : ℕ). HasLocked m n i (n.level + 1) x first) (sym high) split.3
    ]

    half_locked : (r c : ℕ) → r ≡ n.level + 1 → IsHalf c → HasLocked m n i r c first
    half_locked r c rows half = subst (λ (x : ℕ). HasLocked m n i x c first) (sym rows) (half_lock c half)

    old_here : IsUsed n (growing g b) n.level b
    old_here = let bound : b < 2 ^ n.level = split.0 in inl (refl, omega arith, bound)

    pub split_heads : Redirects m n (growing g b) split_chain (Splitting b) i n.level b
    split_heads = record {
      at_level = refl;
      owner = split.4.owner;
      lock = split.1.0;
      unused = λ used. elim used [ inl a ↦ (let least : b + 1 ≤ b = a.1 in omega (arith, least)) | inr a ↦ (let up : n.level ≡ n.level + 1 = a.0 in omega (arith, up)) ];
      new_or_old = λ r c used. elim (cases_half r c) [
        | inl e ↦ (
            let lock : HasLocked m n i r c first = half_locked r c e.0 e.1 in
            inl (first, lock.0, lock.1, subst (IsPath (links m) first) (sym (split_new r c e.0 e.1)) (head_path m n (growing g b) i n.level b first heads old_here split.1)))
        | inr differ ↦ inr (used_was r c differ used, split_old r c differ)
      ];
      stays = used_still;
      chains = λ r c other. split_old r c (λ rows half. other (half_locked r c rows half).0);
      behind = λ r c behind. behind;
      gone = λ c gone. elim (cases_eq c b) [ inl same ↦ inl same | inr other ↦ inr (let most : c < b + 1 = gone in omega (arith, most, other)) ];
      pinned = λ r c pinned. (half_locked r c pinned.0 pinned.1).0;
      named = refl;
    }

    -- nobody was sent to a head before it begins
    pub split_based : IsClear (Growing b) n → (k hash r : ℕ) (o : OpenSection) → n.section k ≡ Some o → IsRouted n (growing g b) o.place hash r →
        split_base r (bucket_in r hash) ≡ g.base r (bucket_in r hash)
    split_based clear k hash r o inside routed = base_old r (bucket_in r hash) (λ rows half.
        let bound : b < 2 ^ n.level = split.0 in
        let mine : bucket_in n.level hash ≡ b = elim half [
          | inl y ↦ halves_low hash n.level b bound (subst (λ (x : ℕ). bucket_in x hash ≡ b) rows y)
          | inr y ↦ halves_high hash n.level b (subst (λ (x : ℕ). bucket_in x hash ≡ b + 2 ^ n.level) rows y)
        ] in
        elim routed [
          | inl here ↦ omega (arith, rows, here)
          | inr other ↦ elim other [
            | inl there ↦ (let less : bucket_in n.level hash < b = there.1 in omega (arith, less, mine))
            | inr before ↦ (let less : o.place < n.since = before.1 in let most : n.since ≤ o.place = clear k o inside in omega (arith, less, most))
          ]
        ])
