-- A walk from its head to its end: how it begins, how it passes a node, and how few nodes it can pass.
use Rattle.std.proofs.Common.{◌≡◌, ◌≢◌, ℕ, zero, suc, ◌+◌, ◌-◌, ◌<◌, ◌≤◌, nat_lt, Bool, true, false, List, [], ◌∷◌, All, length, Option, Some, None, refl, sym, ap, subst}
use Rattle.std.proofs.Common.{◌∙◌, inl, inr, arith}
use Rattle.std.proofs.lemmas.Bool.Decides.{nat_tests}
use Rattle.chain_core.specs.Nodes.{On, Once}
use Rattle.chain_core.specs.Path.{IsPath}
use Rattle.chain_core.proofs.Members.{once_within}
use Rattle.chain_core.proofs.Ways.{path_begins, path_once}
use Rattle.text_words.specs.Hash.{hash_of}
use Rattle.marked_word.specs.Head.{is_redirected, first_of}
use Rattle.marked_word.specs.Number.{new_level_of, new_level_word}
use Rattle.table_shape.specs.declared.place.Place.TheVariants as place
use Rattle.intern_log.specs.Now.{OpenSection, Linked}
use Rattle.cht_core.specs.declared.table.Table.{Table}
use Rattle.cht_core.specs.Flow.{Flow, IsUsed, ComesTo, IsHome}
use Rattle.cht_core.specs.Stage.{Stage, Closing, Parted, bucket_in, next_row, named_level, IsLeft, IsBehind, IsSent, IsSpared}
use Rattle.cht_core.specs.Memory.{Memory, links}
use Rattle.cht_core.specs.Past.{Past}
use Rattle.cht_core.specs.Search.{IsHeld, IsFit, IsRouted, IsSentOn, IsAnchor, IsLate, IsNoMatch, Searched, Walking}
use Rattle.cht_core.specs.Slots.{claim_word}
use Rattle.cht_core.specs.TableState.{IsTable}
use Rattle.cht_core.proofs.Routes.{lands_at, behind_unused}
use Rattle.cht_core.proofs.Stages.{old_is_closing, sent_named, next_is_another, comes_used, home_near, row_up}
use Rattle.cht_core.proofs.WalkWords.{head_first, head_plain}

-- what holds of each node of a list
pub all_from_on : (P : ℕ → Type 0) (xs : List ℕ) → ((s : ℕ) → On s xs → P s) → All P xs
all_from_on P [] each k d below = absurd (omega (arith, below))
all_from_on P (x ∷ xs) each zero d below = each x (inl refl)
all_from_on P (x ∷ xs) each (suc k) d below = all_from_on P xs (λ s on. each s (inr on)) k d (omega (arith, below))

-- a walk without a node has none ahead
pub none_ahead : (next : ℕ → Option ℕ) (nodes : List ℕ) → IsPath next None nodes → nodes ≡ []
none_ahead next [] path = refl
none_ahead next (x ∷ nodes) path = absurd (let clash : None ≡ Some x = path.0 in cc)

-- and a walk at a node has it ahead first
pub first_ahead : (next : ℕ → Option ℕ) (node : ℕ) (nodes : List ℕ) → IsPath next (Some node) nodes → (rest : List ℕ) × (nodes ≡ node ∷ rest) × IsPath next (next node) rest
first_ahead next node [] path = absurd (let clash : Some node ≡ None = path in cc)
first_ahead next node (x ∷ rest) path =
    let same : node ≡ x = (let is : Some node ≡ Some x = path.0 in cc) in
    (rest, ap (λ (k : ℕ). k ∷ rest) (sym same), subst (λ (k : ℕ). IsPath next (next k) rest) (sym same) path.1)

module _ (t : Table) (m : Memory) (p : Past) (f : Flow) (table : IsTable t m p f) where
  -- a slot that is held is one of the table
  pub held_inside : (since s : ℕ) → IsHeld p.now since s → s < t.shape.slots
  held_inside since s held = go (nat_lt s t.shape.slots) refl
    where
      taken : m (place.Claim s) ≡ 1
      taken = table.slots.claims s ∙ elim held [ inl l ↦ ap claim_word l.3 | inr u ↦ ap claim_word u.2 ]

      go : (b : Bool) → nat_lt s t.shape.slots ≡ b → s < t.shape.slots
      go true is = grind (arith, nat_tests)
      go false is = absurd (let none : m (place.Claim s) ≡ 0 = table.words.outside (place.Claim s) is in let one : m (place.Claim s) ≡ 1 = taken in omega (arith, none, one))

  -- nodes that are held, none of them twice, are no more than the slots
  pub few_held : (since : ℕ) (nodes : List ℕ) → Once nodes → ((s : ℕ) → On s nodes → IsHeld p.now since s) → length nodes ≤ t.shape.slots
  few_held since nodes once held = once_within t.shape.slots nodes once (all_from_on (λ s. s < t.shape.slots) nodes (λ s on. held_inside since s (held s on)))

  -- what the head to which callers come says: it is not redirected, and its path is the chain of the bucket
  pub comes_head : (hash row : ℕ) → ComesTo p.now f hash row
      → (is_redirected (m (place.Head row (bucket_in row hash))) ≡ false) × IsPath (links m) (first_of (m (place.Head row (bucket_in row hash)))) (f.chain row (bucket_in row hash))
  comes_head hash row to =
      let (first, word, path) = table.heads.paths row (bucket_in row hash) (comes_used p.now f hash row table.chains.within to) in (
        ap is_redirected word ∙ head_plain first (p.now.lock row (bucket_in row hash)),
        subst (λ (node : Option ℕ). IsPath (links m) node (f.chain row (bucket_in row hash))) (sym (ap first_of word ∙ head_first first (p.now.lock row (bucket_in row hash)))) path,
      )

  -- where the head of a row to which a seat was sent is redirected, the seat is sent on
  pub redirected_on : (i : ℕ) (o : OpenSection) (hash row : ℕ) → p.now.section i ≡ Some o → IsRouted p.now f o.place hash row → is_redirected (m (place.Head row (bucket_in row hash))) ≡ true
      → IsSentOn p.now f o.place hash row
  redirected_on i o hash row inside routed redirected = elim (lands_at t m p f i hash row o table inside routed) [
    | inl to ↦ absurd (let clash : false ≡ true = sym (comes_head hash row to).0 ∙ redirected in cc)
    | inr on ↦ on.0
  ]

  -- the row before is another than that of the level, while it is left
  before_is_another : f.stage ≡ Closing → f.before ≢ p.now.level
  before_is_another closing same =
      let behind : IsBehind f.stage p.now.level f.before p.now.level 0 =
      subst (λ (st : Stage). IsBehind st p.now.level f.before p.now.level 0) (sym closing) (sym same, row_up p.now.level) in
      behind_unused m p.now f p.now.level 0 table.heads behind (inl (refl, subst (λ (st : Stage). IsLeft st 0) (sym closing) tt, row_up p.now.level))

  -- a seat that is sent on from a row is sent to the named level, which is another
  pub sent_to : (i : ℕ) (o : OpenSection) (hash row : ℕ) → p.now.section i ≡ Some o → IsSentOn p.now f o.place hash row
      → (level : ℕ) × (named_level f.stage p.now.level ≡ Some level) × (row ≢ level) × IsRouted p.now f o.place hash level
  sent_to i o hash row inside on = elim on [
    | inl here ↦ (
      next_row f.stage p.now.level,
      sent_named f.stage p.now.level hash here.1,
      λ same. next_is_another f.stage p.now.level hash table.chains.within here.1 (sym here.0 ∙ same),
      inr (inl (refl, here.1)),
    )
    | inr old ↦
        let closing : f.stage ≡ Closing = old_is_closing f.stage p.now i o table.clear inside old.1 in
        (p.now.level, ap (λ (st : Stage). named_level st p.now.level) closing, λ same. before_is_another closing (sym old.0 ∙ same), inl refl)
  ]

  -- the new-level word says the named level
  pub new_level_says : (level : ℕ) → named_level f.stage p.now.level ≡ Some level → new_level_of (m place.NewLevel) ≡ level
  new_level_says level is = ap new_level_of (table.heads.new_level ∙ ap new_level_word is) ∙ back level
    where
      back : (k : ℕ) → (k + 1) - 1 ≡ k
      back k = omega arith

  -- to the head of a row to which a seat was sent on callers come
  pub new_comes : (i : ℕ) (o : OpenSection) (hash old row : ℕ) → p.now.section i ≡ Some o → IsRouted p.now f o.place hash row → old ≢ row → IsSentOn p.now f o.place hash old → ComesTo p.now f hash row
  new_comes i o hash old row inside routed another on = elim (lands_at t m p f i hash row o table inside routed) [
    | inl to ↦ to
    | inr again ↦ elim on [
      | inl here ↦ elim again.0 [
        | inl same ↦ absurd (another (here.0 ∙ sym same.0))
        | inr before ↦ absurd (subst (λ (st : Stage). IsSent st p.now.level hash) (old_is_closing f.stage p.now i o table.clear inside before.1) here.1)
      ]
      | inr before ↦ elim again.0 [
        | inl here ↦ absurd (subst (λ (st : Stage). IsSent st p.now.level hash) (old_is_closing f.stage p.now i o table.clear inside before.1) here.1)
        | inr same ↦ absurd (another (before.0 ∙ sym same.0))
      ]
    ]
  ]

  -- a walk begins with the chain of its head, as the head is loaded
  pub begins_walk : (i : ℕ) (o : OpenSection) (text : List ℕ) (hash row : ℕ) (first : Option ℕ) → p.now.section i ≡ Some o → hash ≡ hash_of p.now.seed text
      → IsRouted p.now f o.place hash row → ComesTo p.now f hash row
      → IsPath (links m) first (f.chain row (bucket_in row hash)) → Walking m p.now f i text hash row p.now.place first [] first
  begins_walk i o text hash row first inside hashed routed to path =
      let used : IsUsed p.now f row (bucket_in row hash) = comes_used p.now f hash row table.chains.within to in
      record {
        ahead = f.chain row (bucket_in row hash);
        path = path;
        searched = record {
          hashed = hashed;
          section = o;
          inside = inside;
          early = omega arith;
          based = table.chains.bases row (bucket_in row hash);
          routed = routed;
          anchor = anchor first path;
          fit = λ s on.
              let node = table.chains.on_linked row (bucket_in row hash) s used on in
              record {
                held = inl (node.0, node.1, node.2, node.3);
                near = λ other h born is.
                    let same : node.0 ≡ other = (let both : Linked node.0 node.1 node.2 ≡ Linked other h born = sym node.3 ∙ is in cc) in
                    home_near p.now f o.place hash row (hash_of p.now.seed other) table.chains.within to
                    (subst (λ (u : List ℕ). IsHome p.now f row (bucket_in row hash) (hash_of p.now.seed u)) same node.4);
                side = λ other h born is apart. elim (table.chains.sides row (bucket_in row hash) s other h born used on is) [
                  | inl whole ↦ subst (λ (part : Parted). IsSpared part o.place) (sym whole) tt
                  | inr mine ↦ absurd (apart (subst (λ (r : ℕ). bucket_in r (hash_of p.now.seed other) ≡ bucket_in r hash) mine.0 mine.1))
                ];
              };
          once = tt;
          apart = λ s was on. was;
          been = λ s was. absurd was;
          live = λ e is.
              let linked = table.tidy.entries text e is in
              inr (subst (λ (x : ℕ). On e.handle.slot (f.chain row (bucket_in row x))) (sym hashed) (table.chains.linked_on e.handle.slot text e.handle linked.0 row linked.1 (subst (λ (x : ℕ). ComesTo p.now f x row) hashed to)));
        };
      }
    where
      anchor : (node : Option ℕ) → IsPath (links m) node (f.chain row (bucket_in row hash)) → IsAnchor p.now o.place p.now.place node
      anchor None way = tt
      anchor (Some s) way =
          let on : On s (f.chain row (bucket_in row hash)) = path_begins (links m) s (f.chain row (bucket_in row hash)) way in
          let node = table.chains.on_linked row (bucket_in row hash) s (comes_used p.now f hash row table.chains.within to) on in
          inl (node.0, node.1, node.2, node.3, (table.tidy.linked s node.0 node.1 node.2 node.3).1)

  module _ (i : ℕ) (text : List ℕ) (hash row load : ℕ) (first : Option ℕ) (passed : List ℕ) where
    -- the node of a walk is one on which its reader may stand
    pub node_fit : (x : ℕ) (h : Walking m p.now f i text hash row load first passed (Some x)) → IsFit p.now f h.searched.section.place hash x
    node_fit x h = h.searched.fit x (path_begins (links m) x h.ahead h.path)

    -- a walk passes a node that is no match
    pub passes_node : (x : ℕ) → IsNoMatch p.now text load x → Walking m p.now f i text hash row load first passed (Some x)
        → Walking m p.now f i text hash row load first (x ∷ passed) (links m x)
    passes_node x none h =
        let (rest, is, path) = first_ahead (links m) x h.ahead h.path in
        let on : (s : ℕ) → On s (x ∷ rest) → On s h.ahead = λ s o. subst (λ (nodes : List ℕ). On s nodes) (sym is) o in
        record {
          ahead = rest;
          path = path;
          searched = record {
            hashed = h.searched.hashed;
            section = h.searched.section;
            inside = h.searched.inside;
            early = h.searched.early;
            based = h.searched.based;
            routed = h.searched.routed;
            anchor = h.searched.anchor;
            fit = λ s o. h.searched.fit s (on s (inr o));
            once = (λ was. h.searched.apart x was (on x (inl refl)), h.searched.once);
            apart = λ s was o. elim was [
              | inl e ↦ (path_once (links m) (Some x) (x ∷ rest) (refl, path)).0 (subst (λ (k : ℕ). On k rest) (sym e) o)
              | inr earlier ↦ h.searched.apart s earlier (on s (inr o))
            ];
            been = λ s was. elim was [
              | inl e ↦ subst (λ (k : ℕ). IsFit p.now f h.searched.section.place hash k) e (h.searched.fit x (on x (inl refl)))
              | inr earlier ↦ h.searched.been s earlier
            ];
            live = λ e here. elim (h.searched.live e here) [
              | inl late ↦ inl late
              | inr there ↦ elim (subst (λ (nodes : List ℕ). On e.handle.slot nodes) is there) [
                | inl same ↦ inl (subst (λ (s : ℕ). IsLate p.now text load s) same (none e here (sym same)))
                | inr later ↦ inr later
              ]
            ];
          };
        }

    -- the nodes that a walk has passed are no more than the slots
    pub few_passed : (ahead : List ℕ) → Searched p.now f i text hash row load first passed ahead → length passed ≤ t.shape.slots
    few_passed ahead h = few_held h.section.place passed h.once (λ s on. (h.been s on).held)
