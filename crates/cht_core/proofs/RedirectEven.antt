-- The even head of a pair is redirected: the new head of the pair leads along the chain of both from here on.
use Rattle.std.proofs.Common.{◌≡◌, ℕ, ◌+◌, ◌^◌, ◌<◌, ◌≤◌, inl, inr, List, [], ◌∷◌, Option, Some, None, refl, sym, ap, subst, ◌∙◌, arith}
use Rattle.std.proofs.lemmas.Bool.{cases_eq}
use Rattle.chain_core.specs.Nodes.{On, Once}
use Rattle.chain_core.specs.Path.{IsPath}
use Rattle.chain_core.proofs.Ways.{path_one}
use Rattle.call_machine.specs.Resize.{joined_first}
use Rattle.text_words.specs.Hash.{hash_of}
use Rattle.intern_log.specs.declared.event.Handle.{Handle}
use Rattle.intern_log.specs.Now.{Now, OpenSection, Linked}
use Rattle.cht_core.specs.Chains.{Chains, AreRanked, born, birth}
use Rattle.cht_core.specs.Flow.{Flow, IsUsed, IsHome, with_chain, with_base, or_else}
use Rattle.cht_core.specs.Heads.{Heads}
use Rattle.cht_core.specs.KnowsResize.{HasLocked, HasPair, Joint}
use Rattle.cht_core.specs.Memory.{Memory, links}
use Rattle.cht_core.specs.Search.{IsRouted, IsSentOn}
use Rattle.cht_core.specs.Stage.{Joining, Turning, Whole, bucket_in}
use Rattle.cht_core.specs.TableState.{IsClear}
use Rattle.cht_core.proofs.Buckets.{bucket_cases}
use Rattle.cht_core.proofs.CreateParts.{chain_here, chain_elsewhere}
use Rattle.cht_core.proofs.JoinState.{at_row, head_path}
use Rattle.cht_core.proofs.RedirectFlows.{base_here, base_elsewhere, ranked_old}
use Rattle.cht_core.proofs.RedirectParts.{Redirects}
use Rattle.cht_core.proofs.Stages.{next_row_size, halves_low, halves_high}

-- the flow at this stage of the shrink
abbrev pub joined_pair : Flow → ℕ → ℕ → Flow
joined_pair g k b = record g { stage = Joining k b }

-- from the joined first node on the path is the even chain, or the odd one where that is empty
joined_is : (next : ℕ → Option ℕ) (even odd : Option ℕ) (evens odds whole : List ℕ) → IsPath next even evens → IsPath next odd odds → IsPath next (joined_first even odd) whole → or_else evens odds ≡ whole
joined_is next None odd [] odds whole empty along path = path_one next odd whole odds path along
joined_is next None odd (x ∷ evens) odds whole along other path = let clash : None ≡ Some x = along.0 in absurd (cc)
joined_is next (Some x) odd [] odds whole empty other path = let clash : Some x ≡ None = empty in absurd (cc)
joined_is next (Some x) odd (y ∷ evens) odds whole along other path = path_one next (Some x) whole (y ∷ evens) path along

module _ (n : Now) (g : Flow) (k b : ℕ) where
  -- the chains, the bases and the flow afterwards
  abbrev pub even_chain : ℕ → ℕ → List ℕ
  even_chain = with_chain g.chain k b (or_else (g.chain (k + 1) b) (g.chain (k + 1) (b + 2 ^ k)))

  abbrev pub even_base : ℕ → ℕ → ℕ
  even_base = with_base g.base k b n.place

  abbrev pub turning : Flow
  turning = record g { chain = even_chain; base = even_base; stage = Turning k b }

  -- a head to which callers come then is the new one, or callers came to it before; and to all but the redirected one they still come
  used_was : (r c : ℕ) → (r ≡ k → c ≡ b → ⊥) → IsUsed (at_row n k) turning r c → IsUsed (at_row n k) (joined_pair g k b) r c
  used_was r c differ used = elim used [
    | inl a ↦ inl (a.0, ((let least : b + 1 ≤ c = a.1.0 in omega (arith, least)), a.1.1), a.2)
    | inr a ↦ inr (a.0, elim (cases_eq c b) [ inl same ↦ absurd (differ a.0 same) | inr other ↦ (let most : c < b + 1 = a.1 in omega (arith, most, other)) ])
  ]

  used_still : (r c : ℕ) → (r ≡ k + 1 → c ≡ b → ⊥) → IsUsed (at_row n k) (joined_pair g k b) r c → IsUsed (at_row n k) turning r c
  used_still r c differ used = elim used [
    | inl a ↦ inl (a.0, (elim (cases_eq c b) [ inl same ↦ absurd (differ a.0 same) | inr other ↦ (let least : b ≤ c = a.1.0 in omega (arith, least, other)) ], a.1.1), a.2)
    | inr a ↦ inr (a.0, (let most : c < b = a.1 in omega (arith, most)))
  ]

  not_even : (r c : ℕ) → IsUsed (at_row n k) turning r c → r ≡ k + 1 → c ≡ b → ⊥
  not_even r c used rows buckets = elim used [
    | inl a ↦ (let least : b + 1 ≤ c = a.1.0 in omega (arith, least, buckets))
    | inr a ↦ (let down : r ≡ k = a.0 in omega (arith, down, rows))
  ]

  base_new : (r c : ℕ) → r ≡ k → c ≡ b → even_base r c ≡ n.place
  base_new r c = base_here g.base k b n.place r c

  base_old : (r c : ℕ) → (r ≡ k → c ≡ b → ⊥) → even_base r c ≡ g.base r c
  base_old r c = base_elsewhere g.base k b n.place r c

  even_old : (r c : ℕ) → (r ≡ k → c ≡ b → ⊥) → even_chain r c ≡ g.chain r c
  even_old r c = chain_elsewhere g.chain k b (or_else (g.chain (k + 1) b) (g.chain (k + 1) (b + 2 ^ k))) r c

  module _ (m : Memory) (i : ℕ) (first odd : Option ℕ) (pair : HasPair m (at_row n k) (joined_pair g k b) i k b first odd (Joining k b)) (joint : Joint m (joined_pair g k b) k b (joined_first first odd))
      (heads : Heads m (at_row n k) (joined_pair g k b)) where
    below : b < 2 ^ k
    below = pair.0.below

    low_used : IsUsed (at_row n k) (joined_pair g k b) (k + 1) b
    low_used = let less : b < 2 ^ k = below in let size : 2 ^ (k + 1) ≡ 2 ^ k + 2 ^ k = next_row_size k in inl (refl, (omega arith, inl less), omega (arith, size, less))

    high_used : IsUsed (at_row n k) (joined_pair g k b) (k + 1) (b + 2 ^ k)
    high_used = let less : b < 2 ^ k = below in let size : 2 ^ (k + 1) ≡ 2 ^ k + 2 ^ k = next_row_size k in inl (refl, (omega arith, inr (omega arith)), omega (arith, size, less))

    even_new : (r c : ℕ) → r ≡ k → c ≡ b → even_chain r c ≡ joint.whole
    even_new r c rows buckets = chain_here g.chain k b (or_else (g.chain (k + 1) b) (g.chain (k + 1) (b + 2 ^ k))) r c rows buckets
        ∙ joined_is (links m) first odd (g.chain (k + 1) b) (g.chain (k + 1) (b + 2 ^ k)) joint.whole (head_path m (at_row n k) (joined_pair g k b) i (k + 1) b first heads low_used pair.0.low)
        (head_path m (at_row n k) (joined_pair g k b) i (k + 1) (b + 2 ^ k) odd heads high_used pair.0.high) joint.path

    module _ (births : (s : ℕ) (text : List ℕ) (h : Handle) (at : ℕ) → n.slot s ≡ Linked text h at → (h.slot ≡ s) × (at < n.place)) (c0 : Chains (at_row n k) (joined_pair g k b)) where
      -- a node of the joined chain is one of the pair
      joined_text : (s : ℕ) → On s joint.whole → (text : List ℕ) × (h : Handle) × (at : ℕ) × (n.slot s ≡ Linked text h at) × (bucket_in k (hash_of n.seed text) ≡ b)
      joined_text s on = elim (joint.back s on) [
        | inl even ↦ (
            let a : (text : List ℕ) × (h : Handle) × (at : ℕ) × (n.slot s ≡ Linked text h at) × IsHome (at_row n k) (joined_pair g k b) (k + 1) b (hash_of n.seed text) = c0.on_linked (k + 1) b s low_used even in
            (a.0, a.1, a.2, a.3, elim a.4 [ inl e ↦ halves_low (hash_of n.seed a.0) k b below e | inr z ↦ z.1 ]))
        | inr odd ↦ (
            let a : (text : List ℕ) × (h : Handle) × (at : ℕ) × (n.slot s ≡ Linked text h at) × IsHome (at_row n k) (joined_pair g k b) (k + 1) (b + 2 ^ k) (hash_of n.seed text) = c0.on_linked (k + 1) (b + 2 ^ k) s high_used odd in
            (a.0, a.1, a.2, a.3, elim a.4 [ inl e ↦ halves_high (hash_of n.seed a.0) k b e | inr z ↦ z.1 ]))
      ]

      whole_slot : (s : ℕ) → g.parted s ≡ Whole
      whole_slot s = elim (c0.loose s) [ inl is ↦ is | inr is ↦ absurd is.4 ]

      pub even_chains : Chains (at_row n k) turning
      even_chains = record {
        on_linked = λ r c s used on. elim (bucket_cases k b r c) [
          | inl e ↦ (
              let a : (text : List ℕ) × (h : Handle) × (at : ℕ) × (n.slot s ≡ Linked text h at) × (bucket_in k (hash_of n.seed text) ≡ b) = joined_text s (subst (On s) (even_new r c e.0 e.1) on) in
              (a.0, a.1, a.2, a.3, inl (ap (λ (y : ℕ). bucket_in y (hash_of n.seed a.0)) e.0 ∙ a.4 ∙ sym e.1)))
          | inr differ ↦ (
              let a : (text : List ℕ) × (h : Handle) × (at : ℕ) × (n.slot s ≡ Linked text h at) × IsHome (at_row n k) (joined_pair g k b) r c (hash_of n.seed text) =
              c0.on_linked r c s (used_was r c differ used) (subst (On s) (even_old r c differ) on) in
              (a.0, a.1, a.2, a.3, elim a.4 [ inl e ↦ inl e | inr z ↦ absurd (not_even r c used z.0 z.2) ]))
        ];
        linked_on = λ s text h at r is to. elim to [
          | inl a ↦ subst (On s) (sym (even_old r (bucket_in r (hash_of n.seed text)) (λ rows buckets. let up : r ≡ k + 1 = a.0 in omega (arith, up, rows)))) (c0.linked_on s text h at r is (inl (a.0, a.1.0)))
          | inr a ↦ elim a.1 [
            | inl less ↦ subst (On s) (sym (even_old r (bucket_in r (hash_of n.seed text)) (λ rows buckets.
                let mine : bucket_in k (hash_of n.seed text) ≡ b = subst (λ (x : ℕ). bucket_in x (hash_of n.seed text) ≡ b) rows buckets in
                omega (arith, mine, less)))) (c0.linked_on s text h at r is (inr (a.0, less)))
            | inr even ↦ (
                let mine : bucket_in k (hash_of n.seed text) ≡ b = halves_low (hash_of n.seed text) k b below even in
                let on : On s (g.chain (k + 1) (bucket_in (k + 1) (hash_of n.seed text))) = c0.linked_on s text h at (k + 1) is (inl (refl, omega (arith, mine))) in
                subst (On s) (sym (even_new r (bucket_in r (hash_of n.seed text)) a.0 (ap (λ (x : ℕ). bucket_in x (hash_of n.seed text)) a.0 ∙ mine)))
                (joint.even s (subst (λ (c : ℕ). On s (g.chain (k + 1) c)) even on)))
          ]
        ];
        once = λ r c used. elim (bucket_cases k b r c) [
          | inl e ↦ subst Once (sym (even_new r c e.0 e.1)) joint.once
          | inr differ ↦ subst Once (sym (even_old r c differ)) (c0.once r c (used_was r c differ used))
        ];
        ranked = λ r c used. inr (elim (bucket_cases k b r c) [
          | inl e ↦ subst (λ (a : ℕ). AreRanked a (born n.slot) (even_chain r c)) (sym (base_new r c e.0 e.1)) (subst (AreRanked n.place (born n.slot)) (sym (even_new r c e.0 e.1))
              (ranked_old n.place (born n.slot) joint.whole (λ s on.
              let a : (text : List ℕ) × (h : Handle) × (at : ℕ) × (n.slot s ≡ Linked text h at) × (bucket_in k (hash_of n.seed text) ≡ b) = joined_text s on in
              let less : a.2 < n.place = (births s a.0 a.1 a.2 a.3).1 in
              let same : born n.slot s ≡ a.2 = ap birth a.3 in
              omega (arith, less, same))))
          | inr differ ↦ subst (λ (a : ℕ). AreRanked a (born n.slot) (even_chain r c)) (sym (base_old r c differ)) (subst (AreRanked (g.base r c) (born n.slot)) (sym (even_old r c differ))
              (elim (c0.ranked r c (used_was r c differ used)) [ inl z ↦ absurd (not_even r c used z.0 z.1) | inr ranked ↦ ranked ]))
        ]);
        bases = λ r c. elim (bucket_cases k b r c) [
          | inl e ↦ (let same : even_base r c ≡ n.place = base_new r c e.0 e.1 in omega (arith, same))
          | inr differ ↦ (let same : even_base r c ≡ g.base r c = base_old r c differ in let most : g.base r c ≤ n.place = c0.bases r c in omega (arith, same, most))
        ];
        sides = λ r c s text h at used on is. inl (whole_slot s);
        loose = λ s. inl (whole_slot s);
        within = (refl, below);
      }

    pub even_heads : Redirects m (at_row n k) (joined_pair g k b) even_chain (Turning k b) i (k + 1) b
    even_heads = record {
      at_level = refl;
      owner = pair.0.resizing.owner;
      lock = pair.0.low.0;
      unused = λ used. not_even (k + 1) b used refl refl;
      new_or_old = λ r c used. elim (bucket_cases k b r c) [
        | inl e ↦ (
            let lock : HasLocked m (at_row n k) i r c (joined_first first odd) =
            subst (λ (x : ℕ). HasLocked m (at_row n k) i x c (joined_first first odd)) (sym e.0) (subst (λ (x : ℕ). HasLocked m (at_row n k) i k x (joined_first first odd)) (sym e.1) pair.1) in
            inl (joined_first first odd, lock.0, lock.1, subst (IsPath (links m) (joined_first first odd)) (sym (even_new r c e.0 e.1)) joint.path))
        | inr differ ↦ inr (used_was r c differ used, even_old r c differ)
      ];
      stays = used_still;
      chains = λ r c other. even_old r c (λ rows buckets. other (ap (λ (x : ℕ). n.lock x c) rows ∙ ap (n.lock k) buckets ∙ pair.1.0));
      behind = λ r c behind. behind;
      gone = λ c gone. elim gone [
        | inl x ↦ elim (cases_eq c b) [ inl same ↦ inl same | inr other ↦ inr (inl (let most : c < b + 1 = x in omega (arith, most, other))) ]
        | inr x ↦ inr (inr x)
      ];
      pinned = λ r c pinned. elim pinned [
        | inl x ↦ ap (λ (y : ℕ). n.lock y c) x.0 ∙ ap (n.lock (k + 1)) x.1 ∙ pair.0.high.0
        | inr x ↦ ap (λ (y : ℕ). n.lock y c) x.0 ∙ ap (n.lock k) x.1 ∙ pair.1.0
      ];
      named = refl;
    }

  -- who was sent to a row or on stays so
  pub even_routes : (k' hash r : ℕ) (o : OpenSection) → n.section k' ≡ Some o → IsRouted (at_row n k) (joined_pair g k b) o.place hash r → IsRouted (at_row n k) turning o.place hash r
  even_routes k' hash r o inside routed = elim routed [ inl here ↦ inl here | inr other ↦ elim other [ inl there ↦ inr (inl (there.0, inl there.1)) | inr before ↦ inr (inr before) ] ]

  pub even_onward : (k' hash r : ℕ) (o : OpenSection) → n.section k' ≡ Some o → IsSentOn (at_row n k) (joined_pair g k b) o.place hash r → IsSentOn (at_row n k) turning o.place hash r
  even_onward k' hash r o inside sent = elim sent [ inl here ↦ inl (here.0, inl here.1) | inr before ↦ inr before ]

  -- nobody was sent to the new head before it begins
  pub even_based : IsClear (Joining k b) (at_row n k) → (k' hash r : ℕ) (o : OpenSection) → n.section k' ≡ Some o → IsRouted (at_row n k) (joined_pair g k b) o.place hash r →
      even_base r (bucket_in r hash) ≡ g.base r (bucket_in r hash)
  even_based clear k' hash r o inside routed = base_old r (bucket_in r hash) (λ rows buckets.
      let mine : bucket_in k hash ≡ b = subst (λ (x : ℕ). bucket_in x hash ≡ b) rows buckets in
      elim routed [
        | inl here ↦ omega (arith, rows, here)
        | inr other ↦ elim other [
          | inl there ↦ (let less : bucket_in k hash < b = there.1 in omega (arith, less, mine))
          | inr before ↦ (let less : o.place < n.since = before.1 in let most : n.since ≤ o.place = clear k' o inside in omega (arith, less, most))
        ]
      ])
