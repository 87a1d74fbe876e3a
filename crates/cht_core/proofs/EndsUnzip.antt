-- A bucket is unzipped: the first of its two new heads is unlocked, and each of them has the nodes of its own side alone.
use Rattle.std.proofs.Common.{◌≡◌, ◌≢◌, ℕ, ◌+◌, ◌^◌, ◌<◌, ◌≤◌, ◌++◌, ◌⊎◌, inl, inr, true, cond, Bool, List, [], ◌∷◌, Option, Some, None, refl, sym, ap, subst, ◌∙◌, arith}
use Rattle.std.specs.Prelude.{nat_eq, ◌&&◌}
use Rattle.std.proofs.lemmas.Bool.{eq-eqb, cases_eq}
use Rattle.std.proofs.lemmas.List.{append-nil}
use Rattle.chain_core.specs.Nodes.{On}
use Rattle.chain_core.specs.Path.{IsPath}
use Rattle.text_words.specs.Hash.{hash_of}
use Rattle.intern_log.specs.declared.event.Handle.{Handle}
use Rattle.intern_log.specs.declared.event.What.{What}
use Rattle.intern_log.specs.declared.event.What.TheVariants as what
use Rattle.intern_log.specs.Now.{Now, OpenSection, Linked, owner_of}
use Rattle.atomic_step.specs.declared.step.Step.{Step}
use Rattle.atomic_step.specs.declared.step.Step.TheVariants as step
use Rattle.atomic_step.specs.SoundStep.{IsSoundStep}
use Rattle.call_machine.specs.declared.resize.Chain.{Chain}
use Rattle.call_machine.specs.declared.resize.Chains as pairs
use Rattle.cht_core.specs.declared.table.Table.{Table}
use Rattle.cht_core.specs.Backs.{KeepsTable, LeadsOn, Goes, IsOfTry}
use Rattle.cht_core.specs.Chains.{Chains}
use Rattle.cht_core.specs.Flow.{Flow, ComesTo, IsHome}
use Rattle.cht_core.specs.Heads.{Heads}
use Rattle.cht_core.specs.KnowsResize.{Side, Unzipping, Over, IsOver, EndsUnzip}
use Rattle.cht_core.specs.KnowsWork.{Locked}
use Rattle.cht_core.specs.Memory.{Memory, IsMade, links}
use Rattle.cht_core.specs.Past.{Past, told}
use Rattle.cht_core.specs.Rely.{Grows, Leaves, Rerouted}
use Rattle.cht_core.specs.Search.{IsFit}
use Rattle.cht_core.specs.Stage.{Stage, Growing, Splitting, Parted, Whole, bucket_in, IsNearIn, IsSpared}
use Rattle.cht_core.specs.TableState.{IsTable}
use Rattle.cht_core.proofs.Locking.{unlock_goes}
use Rattle.cht_core.proofs.Stages.{halves}

-- no node lies on a path from none
path_from_none : (next : ℕ → Option ℕ) (nodes : List ℕ) → IsPath next None nodes → nodes ≡ []
path_from_none next [] path = refl
path_from_none next (x ∷ nodes) path = absurd (let clash : None ≡ Some x = path.0 in cc)

-- at the end of an unzipping each node of a side is of the side's bucket
pub exact_side : (m : Memory) (n : Now) (f : Flow) (i level c : ℕ) (chain : Chain) (rest : List ℕ) → rest ≡ [] → Side m n f i level c chain rest Over → (s : ℕ) → On s (f.chain (level + 1) c)
    → (text : List ℕ) × (h : Handle) × (at : ℕ) × (n.slot s ≡ Linked text h at) × (bucket_in (level + 1) (hash_of n.seed text) ≡ c)
exact_side m n f i level c chain rest none side s on =
    let own : f.chain (level + 1) c ≡ side.own = side.order ∙ ap (λ (nodes : List ℕ). side.own ++ nodes) none ∙ append-nil side.own in
    let node = side.mine s (subst (λ (nodes : List ℕ). On s nodes) own on) in
    (node.0, node.1, node.2, node.3, node.4)

-- and was moved past for all
pub over_side : (m : Memory) (n : Now) (f : Flow) (i level c : ℕ) (chain : Chain) (rest : List ℕ) → rest ≡ [] → Side m n f i level c chain rest Over → (s : ℕ) → On s (f.chain (level + 1) c) → IsOver n f s
over_side m n f i level c chain rest none side s on =
    let own : f.chain (level + 1) c ≡ side.own = side.order ∙ ap (λ (nodes : List ℕ). side.own ++ nodes) none ∙ append-nil side.own in
    (side.mine s (subst (λ (nodes : List ℕ). On s nodes) own on)).5

-- The flow at the end of an unzipping, before and after the first unlock.
module _ (t : Table) (m : Memory) (p : Past) (f : Flow) (i b : ℕ) (chains : pairs.Chains) (table : IsTable t m p (record f { stage = Splitting b }))
    (h : Unzipping m p.now (record f { stage = Splitting b }) i p.now.level b chains None Over) where
  abbrev pub split_flow : Flow
  split_flow = record f { stage = Splitting b }

  abbrev pub ended_flow : Flow
  ended_flow = record f { stage = Growing (b + 1); parted = λ s. Whole }

  no_rest : h.rest ≡ []
  no_rest = path_from_none (links m) h.rest h.path

  ended_node : (row bucket s : ℕ) → row ≡ p.now.level + 1 → (bucket ≡ b) ⊎ (bucket ≡ b + 2 ^ p.now.level) → On s (f.chain row bucket)
      → (text : List ℕ) × (k : Handle) × (at : ℕ) × (p.now.slot s ≡ Linked text k at) × IsHome p.now ended_flow row bucket (hash_of p.now.seed text)
  ended_node row bucket s rows side on = elim side [
    | inl even ↦ (
        let there : On s (f.chain (p.now.level + 1) b) = subst (λ (c : ℕ). On s (f.chain (p.now.level + 1) c)) even (subst (λ (r : ℕ). On s (f.chain r bucket)) rows on) in
        let node = exact_side m p.now split_flow i p.now.level b chains.even h.rest no_rest h.even s there in
        (node.0, node.1, node.2, node.3, inl (ap (λ (r : ℕ). bucket_in r (hash_of p.now.seed node.0)) rows ∙ node.4 ∙ sym even)))
    | inr odd ↦ (
        let there : On s (f.chain (p.now.level + 1) (b + 2 ^ p.now.level)) = subst (λ (c : ℕ). On s (f.chain (p.now.level + 1) c)) odd (subst (λ (r : ℕ). On s (f.chain r bucket)) rows on) in
        let node = exact_side m p.now split_flow i p.now.level (b + 2 ^ p.now.level) chains.odd h.rest no_rest h.odd s there in
        (node.0, node.1, node.2, node.3, inl (ap (λ (r : ℕ). bucket_in r (hash_of p.now.seed node.0)) rows ∙ node.4 ∙ sym odd)))
  ]

  ended_chains : Chains p.now ended_flow
  ended_chains = record {
    on_linked = λ row bucket s used on.
        let l = table.chains.on_linked row bucket s used on in
        elim l.4 [ inl exact ↦ (l.0, l.1, l.2, l.3, inl exact) | inr mixed ↦ ended_node row bucket s mixed.0 mixed.2 on ];
    linked_on = table.chains.linked_on;
    once = table.chains.once;
    ranked = λ row bucket used. elim (table.chains.ranked row bucket used) [ inl joined ↦ absurd joined | inr ranked ↦ inr ranked ];
    bases = table.chains.bases;
    sides = λ row bucket s text k at used on is. inl refl;
    loose = λ s. inl refl;
    within = let below : b < 2 ^ p.now.level = h.below in omega (arith, below);
  }

  ended_heads : Heads m p.now ended_flow
  ended_heads = record {
    level = table.heads.level;
    new_level = table.heads.new_level;
    owner = table.heads.owner;
    paths = table.heads.paths;
    behind = table.heads.behind;
    held = table.heads.held;
    gone = table.heads.gone;
    pinned = λ row bucket pinned. absurd pinned;
  }

  -- once it is unzipped the table is as it should be with its bucket done
  pub ended_table : IsTable t m p ended_flow
  ended_table = record {
    shape = table.shape;
    tidy = table.tidy;
    words = table.words;
    slots = table.slots;
    sections = table.sections;
    heads = ended_heads;
    chains = ended_chains;
    clear = table.clear;
    idle = λ none. absurd (let clash : None ≡ Some i = sym (ap owner_of none) ∙ h.resizing.owner in cc);
    whole = λ settled. absurd (table.whole settled);
    row = table.row;
    named = table.named;
    ledger = table.ledger;
  }

  -- the even head is a locked one like each other
  pub ended_locked : Locked m p.now ended_flow i (p.now.level + 1) b chains.even.first
  ended_locked = record {
    used = inr (refl, inl (omega arith));
    unpinned = λ pinned. pinned;
    lock = h.even.locked.0;
    head = h.even.locked.1;
  }

  -- each linked node of the bucket was moved past for all
  all_over : (s : ℕ) (text : List ℕ) (k : Handle) (born : ℕ) → p.now.slot s ≡ Linked text k born → bucket_in p.now.level (hash_of p.now.seed text) ≡ b → IsOver p.now split_flow s
  all_over s text k born linked mine =
      let hash : ℕ = hash_of p.now.seed text in
      let to : ComesTo p.now split_flow hash (p.now.level + 1) = inr (refl, omega (arith, mine)) in
      let on : On s (f.chain (p.now.level + 1) (bucket_in (p.now.level + 1) hash)) = table.chains.linked_on s text k born (p.now.level + 1) linked to in
      elim (halves hash p.now.level) [
        | inl low ↦ over_side m p.now split_flow i p.now.level b chains.even h.rest no_rest h.even s (subst (λ (c : ℕ). On s (f.chain (p.now.level + 1) c)) (low ∙ mine) on)
        | inr high ↦ over_side m p.now split_flow i p.now.level (b + 2 ^ p.now.level) chains.odd h.rest no_rest h.odd s
            (subst (λ (c : ℕ). On s (f.chain (p.now.level + 1) c)) (high ∙ ap (λ (x : ℕ). x + 2 ^ p.now.level) mine) on)
      ]

  -- so a walker in the bucket is at nodes of its own side alone
  own_side : (j hash s : ℕ) (o : OpenSection) (text : List ℕ) (k : Handle) (born : ℕ) → p.now.section j ≡ Some o → IsFit p.now split_flow o.place hash s → p.now.slot s ≡ Linked text k born
      → bucket_in p.now.level hash ≡ b → bucket_in (p.now.level + 1) (hash_of p.now.seed text) ≡ bucket_in (p.now.level + 1) hash
  own_side j hash s o text k born inside fit linked mine = elim (cases_eq (bucket_in (p.now.level + 1) (hash_of p.now.seed text)) (bucket_in (p.now.level + 1) hash)) [
    | inl same ↦ same
    | inr differ ↦ (
        let over : IsOver p.now split_flow s = all_over s text k born linked ((fit.near text k born linked).0 ∙ mine) in
        let early : o.place ≤ over.0 = subst (λ (part : Parted). IsSpared part o.place) over.1 (fit.side text k born linked differ) in
        let late : over.0 < o.place = over.3 j o inside in
        absurd (omega (arith, early, late)))
  ]

  weaker : (j hash s : ℕ) (o : OpenSection) → p.now.section j ≡ Some o → IsFit p.now split_flow o.place hash s → IsFit p.now ended_flow o.place hash s
  weaker j hash s o inside fit = record {
    held = fit.held;
    near = λ text k born linked.
        let was : IsNearIn (Splitting b) p.now.level p.now.since o.place hash (hash_of p.now.seed text) = fit.near text k born linked in (
          was.0,
          λ below. elim (cases_eq (bucket_in p.now.level hash) b) [
            | inl mine ↦ own_side j hash s o text k born inside fit linked mine
            | inr other ↦ was.1 (omega (arith, below, other))
          ],
        );
    side = λ text k born linked differ. tt;
  }

  module _ (m' : Memory) (p' : Past) (f' : Flow) where
    ended_grows : Grows m p ended_flow m' p' f' → Grows m p split_flow m' p' f'
    ended_grows g = record {
      later = g.later;
      seed = g.seed;
      counter = g.counter;
      made = g.made;
      made_back = g.made_back;
      uses = g.uses;
      linked = g.linked;
      unlinked = g.unlinked;
      entries = g.entries;
      sections = g.sections;
      words = g.words;
      walks = record {
        fits = λ k hash s o inside fit. g.walks.fits k hash s o inside (weaker k hash s o inside fit);
        go = λ k o text hash node ahead inside path fit.
            let way : Rerouted p.now ended_flow m' p'.now f' o.place text hash node ahead = g.walks.go k o text hash node ahead inside path (λ s on. weaker k hash s o inside (fit s on)) in
            record {
              left = way.left;
              path = way.path;
              fit = way.fit;
              kept = way.kept;
              fresh = λ s on. elim (way.fresh s on) [ inl was ↦ inl was | inr unfit ↦ inr (λ fit. unfit (weaker k hash s o inside fit)) ];
            };
      };
      routes = g.routes;
      onward = g.onward;
      based = g.based;
    }

    ended_leaves : (k : ℕ) → k ≢ i → Leaves k m p ended_flow m' p' f' → Leaves k m p split_flow m' p' f'
    ended_leaves k differ l = record {
      locks = l.locks;
      locks_back = l.locks_back;
      heads = l.heads;
      used = l.used;
      chains = l.chains;
      links = l.links;
      nodes = l.nodes;
      unlinked = l.unlinked;
      unlinked_back = l.unlinked_back;
      counts = l.counts;
      owner = l.owner;
      owner_back = l.owner_back;
      still = λ own. absurd (let same : Some k ≡ Some i = sym own ∙ h.resizing.owner in differ (cc));
    }

    -- what a step leads to from there, where it is none of a try call, it leads to from before
    pub ended_leads : (s : Step) (e : Option What) → (IsOfTry p.now i s → ⊥) → LeadsOn t m p ended_flow i s e m' p' f' → LeadsOn t m p split_flow i s e m' p' f'
    ended_leads s e none on = record {
      told = on.told;
      table = on.table;
      grows = ended_grows on.grows;
      spares = λ k differ. let was = on.spares k differ in record {
        section = was.section;
        claimed = was.claimed;
        claimed_back = was.claimed_back;
        link = was.link;
        count = was.count;
        meta = was.meta;
        text = was.text;
        holds = was.holds;
        leaves = ended_leaves k differ was.leaves;
      };
      leaves = λ try. absurd (none try);
    }

-- the first of the two new heads of the bucket that is unzipped
pub first_unlocked : (level row bucket : ℕ) → row ≡ level + 1 → (nat_eq row (level + 1) && nat_eq bucket bucket) ≡ true
first_unlocked level row bucket rows = ap (λ (x : Bool). x && nat_eq bucket bucket) (eq-eqb row (level + 1) rows) ∙ eq-eqb bucket bucket refl

-- an unlock leads on, to a stage and to what has become of the slots that were moved past
abbrev EndsAt : Table → Memory → Memory → Past → Flow → Flow → ℕ → ℕ → ℕ → Option ℕ → Stage → (ℕ → Parted) → Type 0
EndsAt t m m' p f g i row bucket first st parted =
    LeadsOn t m p g i (step.UnlockHead row bucket first) (Some (what.Unlock row bucket)) m' (told p i (Some (what.Unlock row bucket))) (record f { stage = st; parted = parted })

-- the owner of the resize lock unlocks the even head of the bucket that it has unzipped
pub ends_unzip_goes : (t : Table) (m m' : Memory) (p : Past) (f : Flow) (i : ℕ) (text : List ℕ) (b : ℕ) (chains : pairs.Chains) → IsTable t m p f → i < t.shape.seats
    → IsSoundStep t.shape i (step.UnlockHead (p.now.level + 1) b chains.even.first) → Unzipping m p.now f i p.now.level b chains None Over
    → IsMade (step.UnlockHead (p.now.level + 1) b chains.even.first) m m' → Goes t m p f i text (step.UnlockHead (p.now.level + 1) b chains.even.first) m'
ends_unzip_goes t m m' p f i text b chains table inside sound h made =
    subst (λ (g : Flow). Goes t m p g i text (step.UnlockHead (p.now.level + 1) b chains.even.first) m') (sym split)
    (subst (λ (y : Bool). EndsAt t m m' p f (record f { stage = Splitting b }) i (p.now.level + 1) b chains.even.first (cond y (Growing (b + 1)) (Splitting b)) (cond y (λ s. Whole) f.parted))
    (sym (first_unlocked p.now.level (p.now.level + 1) b refl)) leads)
  where
    split : f ≡ record f { stage = Splitting b }
    split = ap (λ (st : Stage). record f { stage = st }) h.resizing.at_stage

    table' : IsTable t m p (record f { stage = Splitting b })
    table' = subst (λ (g : Flow). IsTable t m p g) split table

    unzipping : Unzipping m p.now (record f { stage = Splitting b }) i p.now.level b chains None Over
    unzipping = subst (λ (g : Flow). Unzipping m p.now g i p.now.level b chains None Over) split h

    leads : EndsAt t m m' p f (record f { stage = Splitting b }) i (p.now.level + 1) b chains.even.first (Growing (b + 1)) (λ s. Whole)
    leads =
        ended_leads t m p f i b chains table' unzipping m' (told p i (Some (what.Unlock (p.now.level + 1) b))) (record f { stage = Growing (b + 1); parted = λ s. Whole })
        (step.UnlockHead (p.now.level + 1) b chains.even.first) (Some (what.Unlock (p.now.level + 1) b)) (λ try. try)
        (unlock_goes (p.now.level + 1) b chains.even.first t m m' p (record f { stage = Growing (b + 1); parted = λ s. Whole }) i text (ended_table t m p f i b chains table' unzipping) inside sound
        (ended_locked t m p f i b chains table' unzipping) made)

-- the same, as the table asks for it
abbrev UnlocksAt : Table → Memory → Memory → Past → Flow → ℕ → List ℕ → ℕ → ℕ → Option ℕ → Type 0
UnlocksAt t m m' p f i text bucket row first =
    IsSoundStep t.shape i (step.UnlockHead row bucket first) → IsMade (step.UnlockHead row bucket first) m m' → Goes t m p f i text (step.UnlockHead row bucket first) m'

pub ends_unzip_keeps : (t : Table) (m m' : Memory) (p : Past) (f : Flow) (i : ℕ) (text : List ℕ) (row bucket : ℕ) (first : Option ℕ) → IsTable t m p f → i < t.shape.seats
    → IsSoundStep t.shape i (step.UnlockHead row bucket first) → EndsUnzip m p.now f i row bucket first → IsMade (step.UnlockHead row bucket first) m m'
    → Goes t m p f i text (step.UnlockHead row bucket first) m'
ends_unzip_keeps t m m' p f i text row bucket first table inside sound ends made =
    subst (λ (x : Option ℕ). UnlocksAt t m m' p f i text bucket row x) (sym ends.3) (subst (λ (r : ℕ). UnlocksAt t m m' p f i text bucket r ends.0.even.first) (sym ends.1)
    (λ sound made. ends_unzip_goes t m m' p f i text bucket ends.0 table inside sound ends.2 made)) sound made

-- a seat unlocks a head that it has locked, be it the first one of a bucket that it has unzipped
pub unlock_head_keeps : (row bucket : ℕ) (first : Option ℕ) → KeepsTable (step.UnlockHead row bucket first)
unlock_head_keeps row bucket first t m m' p f i text table inside sound backs made = elim backs [
  | inl locked ↦ unlock_goes row bucket first t m m' p f i text table inside sound locked made
  | inr ends ↦ ends_unzip_keeps t m m' p f i text row bucket first table inside sound ends made
]
