-- The chains of a table that is made anew.
use Rattle.std.proofs.Common.{◌≡◌, ℕ, ◌+◌, ◌^◌, ◌<◌, ◌⊎◌, List, [], ◌∷◌, Option, None, inl, inr, refl, sym, ap, subst, ◌∙◌, arith}
use Rattle.chain_core.specs.Nodes.{On, Once}
use Rattle.chain_core.specs.Path.{IsPath}
use Rattle.chain_core.proofs.Ways.{path_once}
use Rattle.text_words.specs.Hash.{hash_of}
use Rattle.marked_word.specs.Number.{new_level_word}
use Rattle.table_shape.specs.declared.place.Place.TheVariants as place
use Rattle.intern_log.specs.Lawful.{IsQuiet}
use Rattle.intern_log.specs.Now.{Phase, Vacant, Claimed, Linked, Unlinked}
use Rattle.cht_core.specs.declared.table.Table.{Table}
use Rattle.cht_core.specs.Chains.{Chains, AreEarlier, AreRanked, birth, born}
use Rattle.cht_core.specs.Flow.{Flow, IsUsed}
use Rattle.cht_core.specs.Heads.{Heads, used_head}
use Rattle.cht_core.specs.Memory.{Memory, links}
use Rattle.cht_core.specs.Past.{Past, by, past_after}
use Rattle.cht_core.specs.Rehash.{IsRehashed, IsMadeAnew, by_next_seed, seeds}
use Rattle.cht_core.specs.Shows.{IsOfBucket}
use Rattle.cht_core.specs.Stage.{Stage, Quiet, Whole, bucket_in, named_level}
use Rattle.cht_core.specs.TableState.{IsTable}
use Rattle.cht_core.proofs.RehashWords.{bucket_below, below_or_not}

-- nodes that were all made before a base stand in any order
ranked_below : (base : ℕ) (births : ℕ → ℕ) → ((s : ℕ) → births s < base) → (nodes : List ℕ) → AreRanked base births nodes
ranked_below base births early [] = tt
ranked_below base births early (s ∷ nodes) = (earlier (births s) nodes, ranked_below base births early nodes)
  where
    earlier : (at : ℕ) (nodes : List ℕ) → AreEarlier base births at nodes
    earlier at [] = tt
    earlier at (x ∷ nodes) = (inr (early x), earlier at nodes)

module _ (t : Table) (m m' : Memory) (p : Past) (f : Flow) (table : IsTable t m p f) (made : IsRehashed m m' (by_next_seed p.now)) where
  -- the nodes of a bucket of the level's row, and none for a number that is no bucket of it
  abbrev pub chain_by : (bucket : ℕ) → (bucket < 2 ^ p.now.level) ⊎ (bucket < 2 ^ p.now.level → ⊥) → List ℕ
  chain_by bucket (inl below) = (made.chains bucket below).nodes
  chain_by bucket (inr not) = []

  made_by : (bucket : ℕ) → bucket < 2 ^ p.now.level → (o : (bucket < 2 ^ p.now.level) ⊎ (bucket < 2 ^ p.now.level → ⊥)) →
      (r : IsMadeAnew m' (by_next_seed p.now) bucket) × (r.nodes ≡ chain_by bucket o)
  made_by bucket inside (inl below) = (made.chains bucket below, refl)
  made_by bucket inside (inr not) = absurd (not inside)

  abbrev pub chain_of : ℕ → List ℕ
  chain_of bucket = chain_by bucket (below_or_not bucket (2 ^ p.now.level))

  made_at : (bucket : ℕ) → bucket < 2 ^ p.now.level → (r : IsMadeAnew m' (by_next_seed p.now) bucket) × (r.nodes ≡ chain_of bucket)
  made_at bucket inside = made_by bucket inside (below_or_not bucket (2 ^ p.now.level))

  -- the flow of the table that is made anew: callers come to each chain after the event, and no resize goes on
  abbrev pub flow_anew : Flow
  flow_anew = record { chain = λ row bucket. chain_of bucket; base = λ row bucket. p.now.place + 1; holds = f.holds; stage = Quiet; parted = λ s. Whole; before = f.before }

  abbrev pub after : Past
  after = past_after p (by 0 (seeds p.now))

  path_anew : (bucket : ℕ) → bucket < 2 ^ p.now.level → (first : Option ℕ) × (m' (place.Head p.now.level bucket) ≡ used_head first None) × IsPath (links m') first (chain_of bucket)
  path_anew bucket below =
      let r = made_at bucket below in
      (r.0.first, r.0.head, subst (IsPath (links m') r.0.first) r.1 r.0.path)

  -- callers come to the heads of the level's row
  used_here : (row bucket : ℕ) → IsUsed after.now flow_anew row bucket → (row ≡ p.now.level) × (bucket < 2 ^ p.now.level)
  used_here row bucket used = elim used [ inl here ↦ (here.0, subst (λ r. bucket < 2 ^ r) here.0 here.2) | inr next ↦ absurd next.1 ]

  -- its heads lead to its chains, and no bucket is locked
  pub heads_anew : IsQuiet p.now → Heads m' after.now flow_anew
  heads_anew quiet = record {
    level = made.stay place.Level (λ new. new) ∙ table.heads.level;
    new_level = made.stay place.NewLevel (λ new. new) ∙ table.heads.new_level ∙ ap (λ (st : Stage). new_level_word (named_level st p.now.level)) (table.idle quiet.resizing);
    owner = made.stay place.ResizeLock (λ new. new) ∙ table.heads.owner;
    paths = λ row bucket used.
        let here : (row ≡ p.now.level) × (bucket < 2 ^ p.now.level) = used_here row bucket used in
        let path = path_anew bucket here.1 in
        let unlocked : used_head path.0 None ≡ used_head path.0 (p.now.lock row bucket) = ap (used_head path.0) (sym (quiet.locks row bucket)) in
        (path.0, ap (λ r. m' (place.Head r bucket)) here.0 ∙ path.1 ∙ unlocked, path.2);
    behind = λ row bucket left. absurd left.1;
    held = λ row bucket k is. let none : p.now.lock row bucket ≡ None = quiet.locks row bucket in absurd (cc);
    gone = λ bucket gone. absurd gone;
    pinned = λ row bucket pinned. absurd pinned;
  }

  on_bucket : (bucket s : ℕ) → bucket < 2 ^ p.now.level → On s (chain_of bucket) → IsOfBucket (by_next_seed p.now) bucket s
  on_bucket bucket s below on = let r = made_at bucket below in (r.0.slots s).0 (subst (On s) (sym r.1) on)

  of_chain : (bucket s : ℕ) → bucket < 2 ^ p.now.level → IsOfBucket (by_next_seed p.now) bucket s → On s (chain_of bucket)
  of_chain bucket s below of = let r = made_at bucket below in subst (On s) r.1 ((r.0.slots s).1 of)

  once_anew : (bucket : ℕ) → bucket < 2 ^ p.now.level → Once (chain_of bucket)
  once_anew bucket below = let path = path_anew bucket below in path_once (links m') path.0 (chain_of bucket) path.2

  -- each entry was made before the event
  born_before : (s : ℕ) → born p.now.slot s < p.now.place + 1
  born_before s = go (p.now.slot s) refl
    where
      go : (phase : Phase) → p.now.slot s ≡ phase → birth phase < p.now.place + 1
      go Vacant is = omega arith
      go (Claimed i) is = omega arith
      go (Unlinked i at) is = omega arith
      go (Linked text h at) is = let early : at < p.now.place = (table.tidy.linked s text h at is).1 in omega (arith, early)

  -- the chains have the linked slots of their buckets
  pub chains_anew : Chains after.now flow_anew
  chains_anew = record {
    on_linked = λ row bucket s used on.
        let here : (row ≡ p.now.level) × (bucket < 2 ^ p.now.level) = used_here row bucket used in
        let of : IsOfBucket (by_next_seed p.now) bucket s = on_bucket bucket s here.1 on in
        (of.0, of.1, of.2, of.3, inl (ap (λ r. bucket_in r (hash_of (p.now.seed + 1) of.0)) here.0 ∙ of.4));
    linked_on = λ s text h at row is comes.
        let on : On s (chain_of (bucket_in p.now.level (hash_of (p.now.seed + 1) text))) =
        of_chain (bucket_in p.now.level (hash_of (p.now.seed + 1) text)) s (bucket_below (p.now.seed + 1) p.now.level text) (text, h, at, is, refl) in
        elim comes [ inl here ↦ subst (λ r. On s (chain_of (bucket_in r (hash_of (p.now.seed + 1) text)))) (sym here.0) on | inr next ↦ absurd next.1 ];
    once = λ row bucket used. let here : (row ≡ p.now.level) × (bucket < 2 ^ p.now.level) = used_here row bucket used in once_anew bucket here.1;
    ranked = λ row bucket used. inr (ranked_below (p.now.place + 1) (born p.now.slot) born_before (chain_of bucket));
    bases = λ row bucket. omega arith;
    sides = λ row bucket s text h at used on is. inl refl;
    loose = λ s. inl refl;
    within = tt;
  }
