-- A head is locked, and unlocked.
use Rattle.std.proofs.Common.{◌≡◌, ◌≢◌, ℕ, ◌+◌, ◌-◌, ◌<◌, ◌≤◌, ◌^◌, ◌||◌, inl, inr, Bool, true, false, cond, List, Option, Some, None, refl, sym, ap, subst, ◌∙◌, arith}
use Rattle.std.proofs.Math.Bool.{or-false}
use Rattle.std.proofs.lemmas.Bool.{cases_eq, eqb-true, eq-eqb, ne_eqb}
use Rattle.std.specs.Option.{option_map}
use Rattle.std.specs.Prelude.{◌==◌, nat_eq, ◌&&◌}
use Rattle.chain_core.specs.Path.{IsPath}
use Rattle.marked_word.specs.Head.{is_locked, locked}
use Rattle.marked_word.specs.Link.{node_of}
use Rattle.marked_word.specs.Number.{owner_word}
use Rattle.table_shape.specs.declared.place.Place.{Place}
use Rattle.table_shape.specs.declared.place.Place.TheVariants as place
use Rattle.intern_log.specs.declared.event.What.TheVariants as what
use Rattle.intern_log.specs.Now.{Resizing, owner_of, resizing_after_lock, with_lock}
use Rattle.intern_log.specs.Orderly.{is_lock_elsewhere}
use Rattle.intern_log.proofs.Slots.{same_owner}
use Rattle.atomic_step.specs.declared.step.Step.TheVariants as step
use Rattle.atomic_step.specs.Count.{generation_of, holds_of}
use Rattle.atomic_step.specs.Access.{word_after}
use Rattle.atomic_step.specs.SoundStep.{IsSoundStep}
use Rattle.atomic_step.specs.Step.{access_of, plain_head, locked_head}
use Rattle.cht_core.specs.declared.table.Table.{Table}
use Rattle.cht_core.specs.Backs.{KeepsTable, LeadsOn, Goes}
use Rattle.cht_core.specs.Chains.{Chains}
use Rattle.cht_core.specs.Flow.{Flow, IsUsed, holds_after, stage_unlocked, parted_unlocked}
use Rattle.cht_core.specs.Heads.{Heads, Sections, used_head}
use Rattle.cht_core.specs.KnowsWork.{Locked}
use Rattle.cht_core.specs.Memory.{Memory, IsMade, links}
use Rattle.cht_core.specs.Past.{Past, told}
use Rattle.cht_core.specs.Rely.{Grows, Spares}
use Rattle.cht_core.specs.Slots.{Slots, IsPast}
use Rattle.cht_core.specs.Stage.{Stage, Quiet, Growing, Splitting, Shrinking, Joining, Turning, Closing, Parted, Whole, IsPinned}
use Rattle.cht_core.specs.TableState.{IsTable, Words, IsSettled, KeepsRow}
use Rattle.cht_core.specs.Tidy.{IsTidy}
use Rattle.cht_core.proofs.Basics.{after_same}
use Rattle.cht_core.proofs.Buckets.{bucket_cases, head_of_bucket, lock_here, lock_elsewhere}
use Rattle.cht_core.proofs.Calm.{calm_leads}
use Rattle.cht_core.proofs.CalmParts.{clear_kept}
use Rattle.cht_core.proofs.KeepsRow.{row_locked, row_unlocked}
use Rattle.cht_core.proofs.HeadWords.{one_first, no_lock, lock_set}
use Rattle.cht_core.proofs.Routes.{behind_unused, gone_unused}
use Rattle.cht_core.proofs.TidyKept.{tidy_told}
use Rattle.cht_core.proofs.WordsKept.{words_kept}

some_number : (a b : ℕ) → Some a ≡ Some b → a ≡ b
some_number a b same = cc

not_first : (level row bucket a : ℕ) → (IsPinned (Splitting a) level row bucket → ⊥) → (nat_eq row (level + 1) && nat_eq bucket a) ≡ false
not_first level row bucket a apart = elim (cases_eq row (level + 1)) [
  | inr differ ↦ ap (λ (b : Bool). b && nat_eq bucket a) (ne_eqb row (level + 1) differ)
  | inl rows ↦ elim (cases_eq bucket a) [
    | inl buckets ↦ absurd (apart (rows, inl buckets))
    | inr differ ↦ ap (λ (b : Bool). b && nat_eq bucket a) (eq-eqb row (level + 1) rows) ∙ ne_eqb bucket a differ
  ]
]

-- who owns nothing is nobody
unowned : (resizing : Option Resizing) → owner_of resizing ≡ None → resizing ≡ None
unowned None none = refl
unowned (Some r) none = absurd (cc)

-- a row that was being replaced is so after a lock
replaces_on : (i row : ℕ) (resizing : Option Resizing) → ((r : Resizing) → option_map (resizing_after_lock i row) resizing ≡ Some r → r.replacing ≡ true → ⊥)
    → (r : Resizing) → resizing ≡ Some r → r.replacing ≡ true → ⊥
replaces_on i row None settled r is replacing = absurd (cc)
replaces_on i row (Some was) settled r is replacing =
    let same : was ≡ r = cc in
    let marked : was.replacing ≡ true = ap (λ (x : Resizing). x.replacing) same ∙ replacing in
    settled (resizing_after_lock i row was) refl (ap (λ (b : Bool). b || is_lock_elsewhere was.seat was.level i row) marked)

-- an unlock of a head that no resize has locked ends no stage
stage_stays : (st : Stage) (level row bucket : ℕ) → (IsPinned st level row bucket → ⊥) → stage_unlocked level row bucket st ≡ st
stage_stays Quiet level row bucket apart = refl
stage_stays (Growing d) level row bucket apart = refl
stage_stays (Splitting a) level row bucket apart = ap (λ (b : Bool). cond b (Growing (a + 1)) (Splitting a)) (not_first level row bucket a apart)
stage_stays (Shrinking k d) level row bucket apart = refl
stage_stays (Joining k a) level row bucket apart = refl
stage_stays (Turning k a) level row bucket apart = refl
stage_stays Closing level row bucket apart = refl

parted_stays : (st : Stage) (level row bucket : ℕ) (parted : ℕ → Parted) → (IsPinned st level row bucket → ⊥) → parted_unlocked level row bucket st parted ≡ parted
parted_stays Quiet level row bucket parted apart = refl
parted_stays (Growing d) level row bucket parted apart = refl
parted_stays (Splitting a) level row bucket parted apart = ap (λ (b : Bool). cond b (λ (s : ℕ). Whole) parted) (not_first level row bucket a apart)
parted_stays (Shrinking k d) level row bucket parted apart = refl
parted_stays (Joining k a) level row bucket parted apart = refl
parted_stays (Turning k a) level row bucket parted apart = refl
parted_stays Closing level row bucket parted apart = refl

-- a head that the seat has locked leads along its chain
pub locked_path : (t : Table) (m : Memory) (p : Past) (f : Flow) (i row bucket : ℕ) (first : Option ℕ) → IsTable t m p f → Locked m p.now f i row bucket first →
    IsPath (links m) first (f.chain row bucket)
locked_path t m p f i row bucket first table at =
    let along = table.heads.paths row bucket at.used in
    let word : used_head along.0 (Some i) ≡ used_head first (Some i) = sym (along.1 ∙ ap (used_head along.0) at.lock) ∙ at.head in
    subst (λ (start : Option ℕ). IsPath (links m) start (f.chain row bucket)) (one_first along.0 first (Some i) word) along.2

-- One head word is changed: its lock is another, and its first node is what it was.
module _ (t : Table) (m m' : Memory) (p : Past) (f : Flow) (i row bucket word : ℕ) (owner : Option ℕ) (resizing : Option Resizing) (table : IsTable t m p f)
    (here : m' (place.Head row bucket) ≡ word) (there : (q : Place) → q ≢ place.Head row bucket → m' q ≡ m q)
    (used : IsUsed p.now f row bucket) (first : Option ℕ) (is : word ≡ used_head first owner) (path : IsPath (links m) first (f.chain row bucket))
    (owned : owner_of resizing ≡ owner_of p.now.resizing) (settles : ((r : Resizing) → resizing ≡ Some r → r.replacing ≡ true → ⊥) → IsSettled p.now)
    (apart : IsPinned f.stage p.now.level row bucket → ⊥) where
  -- what the log says then
  unfoldable pub lock_past : Past
  lock_past = record {
    now = record p.now { place = p.now.place + 1; lock = with_lock p.now.lock row bucket owner; resizing = resizing };
    made = λ h. p.made h || false;
    uses = λ s. p.uses s + 0;
  }

  used_at : (r b : ℕ) → r ≡ row → b ≡ bucket → IsUsed p.now f r b
  used_at r b rows buckets = subst (λ (x : ℕ). IsUsed p.now f x b) (sym rows) (subst (IsUsed p.now f row) (sym buckets) used)

  lock_links : links m' ≡ links m
  lock_links = λ k s. node_of (there (place.Link s) (λ same. cc) k)

  lock_slots : Slots t m' lock_past
  unfolding lock_past
  lock_slots = record {
    claims = λ s. there (place.Claim s) (λ same. cc) ∙ table.slots.claims s;
    counts = λ s text h born linked. there (place.Count s) (λ same. cc) ∙ table.slots.counts s text h born linked;
    gone = λ s seat at unlinked. ap holds_of (there (place.Count s) (λ same. cc)) ∙ table.slots.gone s seat at unlinked;
    metas = λ s text h born linked. there (place.Meta s) (λ same. cc) ∙ table.slots.metas s text h born linked;
    texts = λ s text h born linked at below inside. there (place.Text s at) (λ same. cc) ∙ table.slots.texts s text h born linked at below inside;
    rooms = table.slots.rooms;
    made = λ h was. subst (λ (count : ℕ). IsPast (generation_of count) h (p.now.slot h.slot)) (sym (there (place.Count h.slot) (λ same. cc)))
        (table.slots.made h (sym (or-false (p.made h)) ∙ was));
    uses = λ s. let same : m' (place.Count s) ≡ m (place.Count s) = there (place.Count s) (λ same. cc) in
        subst (λ (count : ℕ). generation_of count ≤ p.uses s + 0) (sym same) (let few = table.slots.uses s in omega (arith, few));
    used = λ s text h born linked. let before = table.slots.used s text h born linked in omega (arith, before);
  }

  lock_heads : Heads m' lock_past.now f
  unfolding lock_past
  lock_heads = record {
    level = there place.Level (λ same. cc) ∙ table.heads.level;
    new_level = there place.NewLevel (λ same. cc) ∙ table.heads.new_level;
    owner = there place.ResizeLock (λ same. cc) ∙ table.heads.owner ∙ ap owner_word (sym owned);
    paths = λ r b at. elim (bucket_cases row bucket r b) [
      | inl same ↦ (
        first,
        ap (λ (x : ℕ). m' (place.Head x b)) same.0 ∙ ap (λ (x : ℕ). m' (place.Head row x)) same.1 ∙ here ∙ is
            ∙ sym (ap (used_head first) (lock_here p.now.lock row bucket owner r b same.0 same.1)),
        subst (λ (x : ℕ). IsPath (links m') first (f.chain x b)) (sym same.0) (subst (λ (x : ℕ). IsPath (links m') first (f.chain row x)) (sym same.1)
            (subst (λ (next : ℕ → Option ℕ). IsPath next first (f.chain row bucket)) (sym lock_links) path)),
      )
      | inr differ ↦ (
          let along = table.heads.paths r b at in (
            along.0,
            there (place.Head r b) (λ same. let both = head_of_bucket row bucket r b same in differ both.0 both.1) ∙ along.1
                ∙ sym (ap (used_head along.0) (lock_elsewhere p.now.lock row bucket owner r b differ)),
            subst (λ (next : ℕ → Option ℕ). IsPath next along.0 (f.chain r b)) (sym lock_links) along.2,
          ))
    ];
    behind = λ r b left. let word = table.heads.behind r b left in
        (word.0, there (place.Head r b) (λ same. let both = head_of_bucket row bucket r b same in behind_unused m p.now f r b table.heads left (used_at r b both.0 both.1)) ∙ word.1);
    held = λ r b k at. elim (bucket_cases row bucket r b) [
      | inl same ↦ inl (used_at r b same.0 same.1)
      | inr differ ↦ elim (table.heads.held r b k (sym (lock_elsewhere p.now.lock row bucket owner r b differ) ∙ at)) [ inl was ↦ inl was | inr own ↦ inr (owned ∙ own) ]
    ];
    gone = λ b gone. let lock = table.heads.gone b gone in
        let differ : p.now.level ≡ row → b ≡ bucket → ⊥ = λ rows buckets. gone_unused m p.now f p.now.level b table.heads refl gone (used_at p.now.level b rows buckets) in
        (lock.0, owned ∙ lock.1, lock_elsewhere p.now.lock row bucket owner p.now.level b differ ∙ lock.2);
    pinned = λ r b pinned. let lock = table.heads.pinned r b pinned in (
      lock.0,
      owned ∙ lock.1,
      lock_elsewhere p.now.lock row bucket owner r b (λ rows buckets.
          apart (subst (λ (x : ℕ). IsPinned f.stage p.now.level x bucket) rows (subst (IsPinned f.stage p.now.level r) buckets pinned))) ∙ lock.2,
    );
  }

  lock_chains : Chains lock_past.now f
  unfolding lock_past
  lock_chains = record {
    on_linked = table.chains.on_linked;
    linked_on = table.chains.linked_on;
    once = table.chains.once;
    ranked = table.chains.ranked;
    bases = λ r b. let before = table.chains.bases r b in omega (arith, before);
    sides = table.chains.sides;
    loose = table.chains.loose;
    within = table.chains.within;
  }

  lock_sections : Sections t m' lock_past.now
  unfolding lock_past
  lock_sections = record {
    counter = there place.Counter (λ same. cc) ∙ table.sections.counter;
    words = λ k. there (place.Section k) (λ same. cc) ∙ table.sections.words k;
    seats = table.sections.seats;
  }

  -- the table stays as it should be
  pub lock_table : IsTidy t lock_past.now → Words t m' → KeepsRow lock_past.now → IsTable t m' lock_past f
  unfolding lock_past
  lock_table tidy words row_after = record {
    shape = table.shape;
    tidy = tidy;
    words = words;
    slots = lock_slots;
    sections = lock_sections;
    heads = lock_heads;
    chains = lock_chains;
    clear = clear_kept f.stage p.now lock_past.now refl table.tidy.since (λ k o is. inl is) table.clear;
    idle = λ none. table.idle (unowned p.now.resizing (sym owned ∙ ap owner_of none));
    whole = λ settled. table.whole (settles settled);
    row = row_after;
    named = table.named;
    ledger = table.ledger;
  }

  -- what everybody knows of it
  pub lock_grows : Grows m p f m' lock_past f
  unfolding lock_past
  lock_grows = record {
    later = omega arith;
    seed = refl;
    counter = let same : m' place.Counter ≡ m place.Counter = there place.Counter (λ same. cc) in omega (arith, same);
    made = λ h was. or-false (p.made h) ∙ was;
    made_back = λ h was. inl (sym (or-false (p.made h)) ∙ was);
    uses = λ s. omega arith;
    linked = λ s text h born linked. inl linked;
    unlinked = λ s seat at k o unlinked inside less. unlinked;
    entries = λ text e live. inl (e, live, refl);
    sections = λ k o open_now. inl open_now;
    words = λ k s o inside held. (there (place.Meta s) (λ same. cc), λ at. there (place.Text s at) (λ same. cc));
    walks = record {
      fits = λ k hash s o inside fit. record { held = fit.held; near = fit.near; side = fit.side };
      go = λ k o text hash node ahead inside along fit. record {
        left = ahead;
        path = subst (λ (next : ℕ → Option ℕ). IsPath next node ahead) (sym lock_links) along;
        fit = λ s on. record { held = (fit s on).held; near = (fit s on).near; side = (fit s on).side };
        kept = λ s on. inl on;
        fresh = λ s on. inl on;
      };
    };
    routes = λ k hash r o inside routed. routed;
    onward = λ k hash r o inside sent. sent;
    based = λ k hash r o inside routed. refl;
  }

  -- it spares a seat that had not locked the head and has not locked it now
  pub lock_spares : (k : ℕ) → (p.now.lock row bucket ≡ Some k → ⊥) → (owner ≡ Some k → ⊥) → Spares k m p f m' lock_past f
  unfolding lock_past
  lock_spares k not_before not_after = record {
    section = refl;
    claimed = λ s claimed. claimed;
    claimed_back = λ s claimed. claimed;
    link = λ s claimed. there (place.Link s) (λ same. cc);
    count = λ s claimed. there (place.Count s) (λ same. cc);
    meta = λ s claimed. there (place.Meta s) (λ same. cc);
    text = λ s at claimed. there (place.Text s at) (λ same. cc);
    holds = λ h. refl;
    leaves = record {
      locks = λ r b at. lock_elsewhere p.now.lock row bucket owner r b (elsewhere r b at) ∙ at;
      locks_back = λ r b at. elim (bucket_cases row bucket r b) [
        | inl same ↦ absurd (not_after (sym (lock_here p.now.lock row bucket owner r b same.0 same.1) ∙ at))
        | inr differ ↦ sym (lock_elsewhere p.now.lock row bucket owner r b differ) ∙ at
      ];
      heads = λ r b at. there (place.Head r b) (λ same. let both = head_of_bucket row bucket r b same in elsewhere r b at both.0 both.1);
      used = λ r b at lock. at;
      chains = λ r b at lock. refl;
      links = λ r b s at lock on. there (place.Link s) (λ same. cc);
      nodes = λ r b s text h born at lock on linked. linked;
      unlinked = λ s at unlinked. unlinked;
      unlinked_back = λ s at unlinked. unlinked;
      counts = λ s at unlinked. there (place.Count s) (λ same. cc);
      owner = λ own. owned ∙ own;
      owner_back = λ own. sym owned ∙ own;
      still = λ own. record {
        level = refl;
        since = refl;
        stage = refl;
        before = refl;
        parted = λ s. refl;
        free = λ r b unused none. lock_elsewhere p.now.lock row bucket owner r b (λ rows buckets. unused (used_at r b rows buckets)) ∙ none;
      };
    };
  }
    where
      elsewhere : (r b : ℕ) → p.now.lock r b ≡ Some k → r ≡ row → b ≡ bucket → ⊥
      elsewhere r b at rows buckets = not_before (sym (ap (λ (x : ℕ). p.now.lock x b) rows ∙ ap (p.now.lock row) buckets) ∙ at)

-- an unlock leads on, to a stage and to what has become of the slots that were moved past
abbrev UnlocksTo : Table → Memory → Memory → Past → Flow → ℕ → ℕ → ℕ → Option ℕ → Stage → (ℕ → Parted) → Type 0
UnlocksTo t m m' p f i row bucket first st parted =
    LeadsOn t m p f i (step.UnlockHead row bucket first) (Some (what.Unlock row bucket)) m' (told p i (Some (what.Unlock row bucket))) (record f { stage = st; parted = parted })

-- a seat opens a head that it has locked, and that no resize has
pub unlock_goes : (row bucket : ℕ) (first : Option ℕ) (t : Table) (m m' : Memory) (p : Past) (f : Flow) (i : ℕ) (text : List ℕ) → IsTable t m p f → i < t.shape.seats
    → IsSoundStep t.shape i (step.UnlockHead row bucket first) → Locked m p.now f i row bucket first → IsMade (step.UnlockHead row bucket first) m m' → Goes t m p f i text (step.UnlockHead row bucket first) m'
unfolding lock_past
unlock_goes row bucket first t m m' p f i text table inside sound backs made =
    let path : IsPath (links m) first (f.chain row bucket) = locked_path t m p f i row bucket first table backs in
    let word : m (place.Head row bucket) ≡ locked_head first = backs.head in
    let fits : m (place.Head row bucket) < 2 ^ 64 = table.words.small (place.Head row bucket) in
    let counter : m' place.Counter ≡ m place.Counter = made.there place.Counter (λ same. cc) in
    let before : m place.Counter ≤ 2 ^ 64 - 4 = table.words.counter in
    let words : Words t m' = words_kept t m m' i (step.UnlockHead row bucket first) table.words inside sound made (omega arith) (omega arith) in
    let tidy = tidy_told t p i (Some (what.Unlock row bucket)) table.tidy backs.lock in
    let settles : ((r : Resizing) → p.now.resizing ≡ Some r → r.replacing ≡ true → ⊥) → IsSettled p.now = λ settled. settled in
    let leads : LeadsOn t m p f i (step.UnlockHead row bucket first) (Some (what.Unlock row bucket)) m' (told p i (Some (what.Unlock row bucket))) f = record {
      told = backs.lock;
      table = lock_table t m m' p f i row bucket (plain_head first) None p.now.resizing table made.here made.there backs.used first refl path refl settles backs.unpinned tidy words (row_unlocked p.now row bucket table.row);
      grows = lock_grows t m m' p f i row bucket (plain_head first) None p.now.resizing table made.here made.there backs.used first refl path refl settles backs.unpinned;
      spares = λ k differ. lock_spares t m m' p f i row bucket (plain_head first) None p.now.resizing table made.here made.there backs.used first refl path refl settles backs.unpinned k
          (λ lock. differ (some_number k i (sym lock ∙ backs.lock))) (λ lock. absurd (cc));
      leaves = λ try. absurd try;
    } in
    subst (λ (st : Stage). UnlocksTo t m m' p f i row bucket first st (parted_unlocked p.now.level row bucket f.stage f.parted)) (sym (stage_stays f.stage p.now.level row bucket backs.unpinned))
    (subst (λ (parted : ℕ → Parted). UnlocksTo t m m' p f i row bucket first f.stage parted) (sym (parted_stays f.stage p.now.level row bucket f.parted backs.unpinned)) leads)

-- a step that found its head as it expected, or not
abbrev LocksBy : Table → Memory → Memory → Past → Flow → ℕ → List ℕ → ℕ → ℕ → ℕ → Bool → Type 0
LocksBy t m m' p f i text row bucket head b =
    LeadsOn t m p f i (step.LockHead row bucket head) (cond b (Some (what.Lock row bucket)) None) m' (told p i (cond b (Some (what.Lock row bucket)) None))
    (record f { holds = holds_after i (cond b (Some (what.Lock row bucket)) None) f.holds })

-- the head had no lock, and its first node stays
pub record Unlocked (m : Memory) (p : Past) (f : Flow) (row bucket head : ℕ) : Type 0 where
  pub first : Option ℕ
  pub lock : p.now.lock row bucket ≡ None
  pub word : head ≡ used_head first None
  pub path : IsPath (links m) first (f.chain row bucket)

-- a word without the lock mark is that of a head that nobody has locked
pub unlocked_path : (t : Table) (m : Memory) (p : Past) (f : Flow) (row bucket head : ℕ) → IsTable t m p f → IsUsed p.now f row bucket → m (place.Head row bucket) ≡ head →
    is_locked head ≡ false → Unlocked m p f row bucket head
unlocked_path t m p f row bucket head table used word open_head =
    let along = table.heads.paths row bucket used in
    let lock : p.now.lock row bucket ≡ None = no_lock along.0 (p.now.lock row bucket) (ap is_locked (sym along.1 ∙ word) ∙ open_head) in
    record { first = along.0; lock = lock; word = sym word ∙ along.1 ∙ ap (used_head along.0) lock; path = along.2 }

-- the two outcomes of the exchange
lock_head_leads : (row bucket head : ℕ) (t : Table) (m m' : Memory) (p : Past) (f : Flow) (i : ℕ) (text : List ℕ) → IsTable t m p f → i < t.shape.seats →
    IsSoundStep t.shape i (step.LockHead row bucket head) →
    (m (place.Head row bucket) ≡ head → IsUsed p.now f row bucket) → IsMade (step.LockHead row bucket head) m m' → (b : Bool) →
    (m (place.Head row bucket) == head) ≡ b → LocksBy t m m' p f i text row bucket head b
unfolding lock_past
lock_head_leads row bucket head t m m' p f i text table inside sound backs made false other =
    let same : m' ≡ m = after_same (step.LockHead row bucket head) m m' (ap (λ b. cond b (locked head) (m (place.Head row bucket))) other) made in
    subst (λ (now : Memory). LocksBy t m now p f i text row bucket head false) (sym same) (calm_leads t m p f i (step.LockHead row bucket head) table)
lock_head_leads row bucket head t m m' p f i text table inside sound backs made true met =
    let word : m (place.Head row bucket) ≡ head = eqb-true (m (place.Head row bucket)) head met in
    let used : IsUsed p.now f row bucket = backs word in
    let was = unlocked_path t m p f row bucket head table used word sound.1 in
    let here : m' (place.Head row bucket) ≡ locked head = made.here ∙ ap (λ b. cond b (locked head) (m (place.Head row bucket))) met in
    let is : locked head ≡ used_head was.first (Some i) = ap locked was.word ∙ lock_set was.first i in
    let owned = same_owner (λ owner. owner ≡ owner_of p.now.resizing) i row p.now.resizing refl in
    let settles : ((r : Resizing) → option_map (resizing_after_lock i row) p.now.resizing ≡ Some r → r.replacing ≡ true → ⊥) → IsSettled p.now = replaces_on i row p.now.resizing in
    let apart : IsPinned f.stage p.now.level row bucket → ⊥ = λ pinned.
    (let lock = table.heads.pinned row bucket pinned in let clash : None ≡ Some lock.0 = sym was.lock ∙ lock.2 in absurd (cc)) in
    let fits : m (place.Head row bucket) < 2 ^ 64 = table.words.small (place.Head row bucket) in
    let plain : head ≡ used_head was.first None = was.word in
    let after : word_after (access_of (step.LockHead row bucket head)).deed (m (place.Head row bucket)) ≡ head + 1 = ap (λ b. cond b (locked head) (m (place.Head row bucket))) met in
    let counter : m' place.Counter ≡ m place.Counter = made.there place.Counter (λ same. cc) in
    let before : m place.Counter ≤ 2 ^ 64 - 4 = table.words.counter in
    let words : Words t m' = words_kept t m m' i (step.LockHead row bucket head) table.words inside sound made (omega arith) (omega arith) in
    let tidy = tidy_told t p i (Some (what.Lock row bucket)) table.tidy was.lock in
    record {
      told = was.lock;
      table = lock_table t m m' p f i row bucket (locked head) (Some i) (option_map (resizing_after_lock i row) p.now.resizing) table here made.there used was.first is was.path owned
          settles apart tidy words (row_locked p.now i row bucket table.row);
      grows = lock_grows t m m' p f i row bucket (locked head) (Some i) (option_map (resizing_after_lock i row) p.now.resizing) table here made.there used was.first is was.path owned
          settles apart;
      spares = λ k differ. lock_spares t m m' p f i row bucket (locked head) (Some i) (option_map (resizing_after_lock i row) p.now.resizing) table here made.there used was.first is was.path owned
          settles apart k (λ lock. let none : None ≡ Some k = sym was.lock ∙ lock in absurd (cc)) (λ lock. differ (some_number k i (sym lock)));
      leaves = λ try. absurd try;
    }

-- a seat locks a head that is not locked, or finds another word
pub lock_head_keeps : (row bucket head : ℕ) → KeepsTable (step.LockHead row bucket head)
lock_head_keeps row bucket head t m m' p f i text table inside sound backs made =
    lock_head_leads row bucket head t m m' p f i text table inside sound backs.1 made (m (place.Head row bucket) == head) refl
