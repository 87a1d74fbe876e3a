-- What a walker knows is stable: it still holds after any step that leaves its section alone.
use Rattle.std.proofs.Common.{◌≡◌, ℕ, ◌≤◌, ◌⊎◌, List, [], Option, Some, None, refl, sym, ap, subst, ◌∙◌, inl, inr, arith}
use Rattle.chain_core.specs.Nodes.{On}
use Rattle.text_words.specs.Hash.{hash_of}
use Rattle.intern_log.specs.declared.event.Entry.{Entry}
use Rattle.intern_log.specs.declared.event.Handle.{Handle}
use Rattle.intern_log.specs.Now.{OpenSection, Linked, Unlinked}
use Rattle.intern_log.specs.TextMap.{entry_of}
use Rattle.cht_core.specs.declared.table.Table.{Table}
use Rattle.cht_core.specs.Flow.{Flow}
use Rattle.cht_core.specs.Memory.{Memory}
use Rattle.cht_core.specs.Past.{Past}
use Rattle.cht_core.specs.Rely.{Grows, Rerouted, IsUnwanted}
use Rattle.cht_core.specs.Search.{IsHeld, IsFit, IsUnlinkedSince, IsAnchor, IsLate, IsNoMatch, IsSeen, Searched, Walking}
use Rattle.cht_core.specs.Tidy.{IsTidy}

module _ (t : Table) (m : Memory) (p : Past) (f : Flow) (m' : Memory) (p' : Past) (f' : Flow) (tidy : IsTidy t p.now) (tidy' : IsTidy t p'.now) (g : Grows m p f m' p' f') where
  module _ (k : ℕ) (o : OpenSection) (inside : p.now.section k ≡ Some o) where
    -- a slot that was unlinked since a section was opened stays so
    pub unlinked_since_grows : (s : ℕ) → IsUnlinkedSince p.now o.place s → IsUnlinkedSince p'.now o.place s
    unlinked_since_grows s h = (h.0, h.1, g.unlinked s h.0 h.1 k o h.2 inside h.3, h.3)

    -- a slot that is unlinked by the step was unlinked since any section was opened
    pub newly_unlinked : (s : ℕ) → (seat : ℕ) × (p'.now.slot s ≡ Unlinked seat p.now.place) → IsUnlinkedSince p'.now o.place s
    newly_unlinked s h = (h.0, p.now.place, h.1, (tidy.sections k o inside).0)

    -- a slot on which a reader may stand stays one
    pub held_grows : (s : ℕ) → IsHeld p.now o.place s → IsHeld p'.now o.place s
    held_grows s h = elim h [
      | inl l ↦ elim (g.linked s l.0 l.1 l.2 l.3) [ inl is ↦ inl (l.0, l.1, l.2, is) | inr cut ↦ inr (newly_unlinked s cut) ]
      | inr u ↦ inr (unlinked_since_grows s u)
    ]

    -- the first node that a walk has loaded stays linked from before the load, or is unlinked since
    pub anchor_grows : (load : ℕ) (first : Option ℕ) → IsAnchor p.now o.place load first → IsAnchor p'.now o.place load first
    anchor_grows load None h = tt
    anchor_grows load (Some s) h = elim h [
      | inl l ↦ elim (g.linked s l.0 l.1 l.2 l.3) [ inl is ↦ inl (l.0, l.1, l.2, is, l.4) | inr cut ↦ inr (newly_unlinked s cut) ]
      | inr u ↦ inr (unlinked_since_grows s u)
    ]

  -- the live entry of a text that was made at or after a load is still that
  pub late_grows : (text : List ℕ) (load : ℕ) (e : Entry) → entry_of p'.now.texts text ≡ Some e → IsLate p.now text load e.handle.slot → IsLate p'.now text load e.handle.slot
  late_grows text load e is h =
      let linked : (born : ℕ) × (p'.now.slot e.handle.slot ≡ Linked text e.handle born) × (1 ≤ e.count) × (e.count ≤ 65535) = tidy'.entries text e is in
      elim (g.linked e.handle.slot text h.0 h.1 h.2) [
        | inl l ↦ (h.0, h.1, l, h.3)
        | inr cut ↦ absurd (let clash : Linked text e.handle linked.0 ≡ Unlinked cut.0 p.now.place = sym linked.1 ∙ cut.1 in cc)
      ]

  -- a slot without an entry of the text from before a load gets none
  pub no_match_grows : (text : List ℕ) (load s : ℕ) → load ≤ p.now.place → IsNoMatch p.now text load s → IsNoMatch p'.now text load s
  no_match_grows text load s early h e is at = elim (g.entries text e is) [
    | inl old ↦
        let same : old.0.handle.slot ≡ s = ap (λ (k : Handle). k.slot) old.2 ∙ at in
        subst (λ (x : ℕ). IsLate p'.now text load x) at (late_grows text load e is (subst (λ (x : ℕ). IsLate p.now text load x) (sym at) (h old.0 old.1 same)))
    | inr new ↦
        let late : p.now.place ≤ new.0 = new.2 in
        (e.handle, new.0, ap p'.now.slot (sym at) ∙ new.1, omega (arith, early, late))
  ]

  module _ (i : ℕ) (section : p'.now.section i ≡ p.now.section i) where
    -- the facts of a walk, where the nodes ahead are what the step made of them
    pub ahead_grows : (text : List ℕ) (hash row load : ℕ) (first : Option ℕ) (passed ahead left : List ℕ) (h : Searched p.now f i text hash row load first passed ahead)
        → ((s : ℕ) → On s left → IsFit p'.now f' h.section.place hash s) → ((s : ℕ) → On s ahead → On s left ⊎ IsUnwanted p'.now text s)
        → ((s : ℕ) → On s left → On s ahead ⊎ (IsFit p.now f h.section.place hash s → ⊥)) → Searched p'.now f' i text hash row load first passed left
    ahead_grows text hash row load first passed ahead left h fit kept fresh = record {
      hashed = subst (λ (seed : ℕ). hash ≡ hash_of seed text) (sym g.seed) h.hashed;
      section = h.section;
      inside = section ∙ h.inside;
      early = let early : load ≤ p.now.place = h.early in let later : p.now.place ≤ p'.now.place = g.later in omega (arith, early, later);
      based = subst (λ (base : ℕ). base ≤ load) (sym (g.based i hash row h.section h.inside h.routed)) h.based;
      routed = g.routes i hash row h.section h.inside h.routed;
      anchor = anchor_grows i h.section h.inside load first h.anchor;
      fit = fit;
      once = h.once;
      apart = λ s was on. elim (fresh s on) [ inl there ↦ h.apart s was there | inr not ↦ not (h.been s was) ];
      been = λ s was. g.walks.fits i hash s h.section h.inside (h.been s was);
      live = λ e is. elim (g.entries text e is) [
        | inl old ↦
            let same : old.0.handle.slot ≡ e.handle.slot = ap (λ (k : Handle). k.slot) old.2 in
            elim (h.live old.0 old.1) [
              | inl late ↦ inl (late_grows text load e is (subst (λ (x : ℕ). IsLate p.now text load x) same late))
              | inr on ↦ elim (kept e.handle.slot (subst (λ (x : ℕ). On x ahead) same on)) [
                | inl there ↦ inr there
                | inr unwanted ↦ absurd (unwanted e is refl)
              ]
            ]
        | inr new ↦
            let early : load ≤ p.now.place = h.early in
            let late : p.now.place ≤ new.0 = new.2 in
            inl (e.handle, new.0, new.1, omega (arith, early, late))
      ];
    }

    -- a text that was looked for to the end of its chain is still
    pub searched_grows : (text : List ℕ) (hash row load : ℕ) (first : Option ℕ) (passed : List ℕ)
        → Searched p.now f i text hash row load first passed [] → Searched p'.now f' i text hash row load first passed []
    searched_grows text hash row load first passed h = ahead_grows text hash row load first passed [] [] h (λ s on. absurd on) (λ s on. inl on) (λ s on. absurd on)

    -- a walk that goes on to a node still does
    pub walking_grows : (text : List ℕ) (hash row load : ℕ) (first : Option ℕ) (passed : List ℕ) (node : Option ℕ)
        → Walking m p.now f i text hash row load first passed node → Walking m' p'.now f' i text hash row load first passed node
    walking_grows text hash row load first passed node h =
        let next : Rerouted p.now f m' p'.now f' h.searched.section.place text hash node h.ahead =
        g.walks.go i h.searched.section text hash node h.ahead h.searched.inside h.path h.searched.fit in
        record {
          ahead = next.left;
          path = next.path;
          searched = ahead_grows text hash row load first passed h.ahead next.left h.searched next.fit
              (λ s on. elim (next.kept s on) [ inl stays ↦ inl stays | inr unwanted ↦ inr (unwanted h.searched.hashed) ]) next.fresh;
        }

    -- what a slot was seen with, it was
    pub seen_grows : (s : ℕ) (P : List ℕ → Handle → Type 0) → IsSeen p.now i s P → IsSeen p'.now i s P
    seen_grows s P h = (
      h.0,
      section ∙ h.1,
      elim h.2 [
        | inl l ↦ elim (g.linked s l.0 l.1 l.2 l.3) [ inl is ↦ inl (l.0, l.1, l.2, is, l.4) | inr cut ↦ inr (newly_unlinked i h.0 h.1 s cut) ]
        | inr u ↦ inr (unlinked_since_grows i h.0 h.1 s u)
      ],
    )
