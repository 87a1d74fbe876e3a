-- Where walkers stand: within what is allowed for their nodes, and those that no resize has in hand on the path to which callers of their texts come.
use Rattle.std.proofs.Common.{◌≡◌, ℕ, ◌+◌, ◌^◌, ◌<◌, ◌≤◌, ◌⊎◌, List, Option, Some, refl, sym, subst, ◌∙◌, inl, inr, arith}
use Rattle.chain_core.specs.Nodes.{On}
use Rattle.text_words.specs.Hash.{hash_of}
use Rattle.intern_log.specs.declared.event.Event.{Event}
use Rattle.intern_log.specs.declared.event.Handle.{Handle}
use Rattle.intern_log.specs.Now.{OpenSection, Linked}
use Rattle.call_machine.specs.declared.stage.Calling.{Calling}
use Rattle.cht_core.specs.declared.table.Table.{Table}
use Rattle.cht_core.specs.Flow.{ComesTo}
use Rattle.cht_core.specs.Invariant.{Inv}
use Rattle.cht_core.specs.Memory.{Memory}
use Rattle.cht_core.specs.Parts.{IsWalk}
use Rattle.cht_core.specs.PartsResize.{IsWalkWithin, IsOnPathFrom, StandsOnPaths, WalkersStandOnPaths}
use Rattle.cht_core.specs.Past.{Past, past_of}
use Rattle.cht_core.specs.Search.{IsFit, IsNear}
use Rattle.cht_core.specs.Stage.{Stage, Quiet, Growing, Splitting, Shrinking, Joining, Turning, Closing, bucket_in, next_row, IsSent, IsUnsent, IsNearIn, IsOnTwo, IsWithin}
use Rattle.cht_core.specs.View.{View}
use Rattle.cht_core.proofs.PartsKnown.{CallKnown, call_known, WalkKnown, walk_known}
use Rattle.cht_core.proofs.PartsResizeOwner.{aside_one}
use Rattle.cht_core.proofs.PartsResizePaths.{on_path_from, read_comes}
use Rattle.cht_core.proofs.Stages.{comes_used, halves_low, bucket_below, old_is_closing}

module _ (t : Table) (m : Memory) (seat : ℕ → Option View) (log : List Event) (inv : Inv t m seat log) where
  abbrev past : Past
  past = past_of t.shape.min_level log

  -- what is linked on a walk fits it, and is allowed
  pub walk_within : (j : ℕ) (u : View) (c : Calling) (at : Option ℕ) (Allowed : OpenSection → ℕ → Type 0) → IsWalk seat j u c at
      → ((o : OpenSection) (s : ℕ) (text : List ℕ) (h : Handle) (born : ℕ) → past.now.section j ≡ Some o → past.now.slot s ≡ Linked text h born
      → IsFit past.now inv.flow o.place (hash_of past.now.seed c.asked.text) s → Allowed o s) → IsWalkWithin m past.now j at Allowed
  walk_within j u c at Allowed walk allow =
      let call : CallKnown t m past inv.flow j u c = call_known t m past inv.flow j u c (inv.knows j u walk.view) walk.call in
      let known : WalkKnown m past inv.flow j u.load u.passed c.asked c.along at = walk_known m past inv.flow j u.load u.passed c.asked c.along at c.stage call.knows walk.at in
      let o : OpenSection = known.searched.section in
      record {
        section = o;
        inside = known.searched.inside;
        ahead = known.ahead;
        path = known.path;
        nodes = λ s on.
            let fit : IsFit past.now inv.flow o.place (hash_of past.now.seed c.asked.text) s =
            subst (λ (hash : ℕ). IsFit past.now inv.flow o.place hash s) known.searched.hashed (known.searched.fit s on) in
            elim fit.held [
              | inl linked ↦ inl (linked, allow o s linked.0 linked.1 linked.2 known.searched.inside linked.3 fit)
              | inr unlinked ↦ inr unlinked
            ];
      }

-- a caller with a hash comes to a row, at a stage
abbrev ComesAt : Stage → ℕ → ℕ → ℕ → Type 0
ComesAt st l hash row = ((row ≡ l) × IsUnsent st l hash) ⊎ ((row ≡ next_row st l) × IsSent st l hash)

abbrev ComesAlong : Stage → ℕ → ℕ → ℕ → ℕ → Type 0
ComesAlong st l hash other row = ComesAt st l other row × (bucket_in row other ≡ bucket_in row hash)

in_row : (row l hash other : ℕ) → row ≡ l → bucket_in l other ≡ bucket_in l hash → bucket_in row other ≡ bucket_in row hash
in_row row l hash other is same = subst (λ (r : ℕ). bucket_in r other ≡ bucket_in r hash) (sym is) same

-- a text that may be on the walk of one on one chain comes to the same head
near_comes : (st : Stage) (l since at hash other row : ℕ) → IsWithin st l → (IsOnTwo st l hash → ⊥) → since ≤ at → IsNearIn st l since at hash other → ComesAt st l hash row → ComesAlong st l hash other row
near_comes Quiet l since at hash other row w one young near to = elim to [ inl a ↦ (inl (a.0, tt), in_row row l hash other a.0 near) | inr a ↦ absurd a.1 ]
near_comes (Growing d) l since at hash other row w one young near to = elim to [
  | inl a ↦ (let least : d ≤ bucket_in l hash = a.1 in (inl (a.0, let same : bucket_in l other ≡ bucket_in l hash = near.0 in omega (arith, same, least)), in_row row l hash other a.0 near.0))
  | inr a ↦ (let less : bucket_in l hash < d = a.1 in (inr (a.0, let same : bucket_in l other ≡ bucket_in l hash = near.0 in omega (arith, same, less)), in_row row (l + 1) hash other a.0 (near.1 less)))
]
near_comes (Splitting d) l since at hash other row w one young near to = elim to [
  | inl a ↦ (let least : d + 1 ≤ bucket_in l hash = a.1 in (inl (a.0, let same : bucket_in l other ≡ bucket_in l hash = near.0 in omega (arith, same, least)), in_row row l hash other a.0 near.0))
  | inr a ↦ (
      let less : bucket_in l hash < d + 1 = a.1 in
      let below : bucket_in l hash < d = omega (arith, less, one) in
      (inr (a.0, let same : bucket_in l other ≡ bucket_in l hash = near.0 in omega (arith, same, less)), in_row row (l + 1) hash other a.0 (near.1 below)))
]
near_comes (Shrinking k d) l since at hash other row w one young near to =
    let same : bucket_in k other ≡ bucket_in k hash = near.0 in
    elim to [
      | inl a ↦ (let least : d ≤ bucket_in k hash = a.1 in (inl (a.0, omega (arith, same, least)), in_row row (k + 1) hash other (a.0 ∙ w.0) (near.1 least)))
      | inr a ↦ (let less : bucket_in k hash < d = a.1 in (inr (a.0, omega (arith, same, less)), in_row row k hash other a.0 same))
    ]
near_comes (Joining k d) l since at hash other row w one young near to =
    let same : bucket_in k other ≡ bucket_in k hash = near.0 in
    elim to [
      | inl a ↦ (
          let least : d ≤ bucket_in k hash = a.1 in
          let below : d < 2 ^ k = w.1 in
          (inl (a.0, omega (arith, same, least)), in_row row (k + 1) hash other (a.0 ∙ w.0) (near.1 (least, λ low. one (halves_low hash k d below low)))))
      | inr a ↦ (let less : bucket_in k hash < d = a.1 in (inr (a.0, omega (arith, same, less)), in_row row k hash other a.0 same))
    ]
near_comes (Turning k d) l since at hash other row w one young near to =
    let same : bucket_in k other ≡ bucket_in k hash = near.0 in
    elim to [
      | inl a ↦ (
          let least : d ≤ bucket_in k hash = a.1.0 in
          let fine : bucket_in (k + 1) other ≡ bucket_in (k + 1) hash = near.1 a.1 in
          (inl (a.0, (omega (arith, same, least), λ e. a.1.1 (sym fine ∙ e))), in_row row (k + 1) hash other (a.0 ∙ w.0) fine))
      | inr a ↦ elim a.1 [
        | inl less ↦ (inr (a.0, inl (omega (arith, same, less))), in_row row k hash other a.0 same)
        | inr low ↦ absurd (let below : d < 2 ^ k = w.1 in one (halves_low hash k d below low))
      ]
    ]
near_comes Closing l since at hash other row w one young near to = elim to [ inl a ↦ (inl (a.0, tt), in_row row l hash other a.0 (near young)) | inr a ↦ absurd a.1 ]

module _ (t : Table) (m : Memory) (seat : ℕ → Option View) (log : List Event) (inv : Inv t m seat log) where
  abbrev here : Past
  here = past_of t.shape.min_level log

  -- a linked node on a walk in an old section is on a chain of the level's row
  old_stands : (j s : ℕ) (o : OpenSection) (text : List ℕ) (h : Handle) (born : ℕ) → here.now.section j ≡ Some o → here.now.slot s ≡ Linked text h born → o.place < here.now.since
      → (bucket : ℕ) × (bucket < 2 ^ here.now.level) × IsOnPathFrom m here.now.level bucket s
  old_stands j s o text h born inside linked old =
      let hash : ℕ = hash_of here.now.seed text in
      let closing : inv.flow.stage ≡ Closing = old_is_closing inv.flow.stage here.now j o inv.table.clear inside old in
      let to : ComesTo here.now inv.flow hash here.now.level = inl (refl, subst (λ (st : Stage). IsUnsent st here.now.level hash) (sym closing) tt) in (
        bucket_in here.now.level hash,
        bucket_below here.now.level hash,
        on_path_from t m here inv.flow inv.table here.now.level (bucket_in here.now.level hash) s (comes_used here.now inv.flow hash here.now.level inv.table.chains.within to)
            (inv.table.chains.linked_on s text h born here.now.level linked to),
      )

  -- a walker that no resize has in hand stands where callers of its text come
  pub stand_on_paths : WalkersStandOnPaths m here.now seat
  stand_on_paths j u c at row walk aside reads =
      let hash : ℕ = hash_of here.now.seed c.asked.text in
      let to : ComesTo here.now inv.flow hash row = read_comes t m here inv.flow inv.table c.asked.text row reads in
      walk_within t m seat log inv j u c at (StandsOnPaths m here.now c.asked.text row) walk
      (λ o s text h born inside linked fit. record {
        new = λ young.
            let near : IsNear here.now inv.flow o.place hash (hash_of here.now.seed text) = fit.near text h born linked in
            let along : ComesAlong inv.flow.stage here.now.level hash (hash_of here.now.seed text) row =
            near_comes inv.flow.stage here.now.level here.now.since o.place hash (hash_of here.now.seed text) row inv.table.chains.within
            (aside_one t m seat log inv c.asked.text aside) young near to in
            on_path_from t m here inv.flow inv.table row (bucket_in row hash) s (comes_used here.now inv.flow hash row inv.table.chains.within to)
            (subst (λ (b : ℕ). On s (inv.flow.chain row b)) along.1 (inv.table.chains.linked_on s text h born row linked along.0));
        old = old_stands j s o text h born inside linked;
      })
