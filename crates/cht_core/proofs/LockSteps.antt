-- Taking the resize lock and giving it back keep the table.
use Rattle.std.proofs.Common.{cond, ◌≡◌, ℕ, ◌+◌, ◌-◌, ◌^◌, ◌<◌, ◌≤◌, false, Option, Some, None, refl, sym, ap, subst, ◌∙◌, inl, inr, arith}
use Rattle.std.proofs.Math.Bool.{or-false}
use Rattle.std.proofs.lemmas.Bool.{cases_eq, eq-eqb, ne_eqb}
use Rattle.table_shape.specs.declared.place.Place.TheVariants as place
use Rattle.marked_word.specs.Number.{owner_word}
use Rattle.intern_log.specs.declared.event.What.{What}
use Rattle.intern_log.specs.declared.event.What.TheVariants as what
use Rattle.intern_log.specs.Lawful.{IsResizing}
use Rattle.intern_log.specs.Now.{Now, Resizing, owner_of}
use Rattle.atomic_step.specs.declared.step.Step.{Step}
use Rattle.atomic_step.specs.declared.step.Step.TheVariants as step
use Rattle.atomic_step.specs.Access.{word_after}
use Rattle.atomic_step.specs.SoundStep.{IsSoundStep}
use Rattle.atomic_step.specs.Step.{access_of}
use Rattle.cht_core.specs.declared.table.Table.{Table}
use Rattle.cht_core.specs.Backs.{KeepsTable, LeadsOn, IsOfTry}
use Rattle.cht_core.specs.Flow.{Flow, IsUsed}
use Rattle.cht_core.specs.KnowsResize.{NoHead}
use Rattle.cht_core.specs.KnowsResize as resize
use Rattle.cht_core.specs.KnowsWork.{IsOwner}
use Rattle.cht_core.specs.Memory.{Memory, IsMade, found}
use Rattle.cht_core.specs.Past.{Past, told, MayTell, kind_of}
use Rattle.cht_core.specs.Stage.{Stage, Quiet, IsGone, IsLeft, IsOpen, IsPinned, IsWhole}
use Rattle.cht_core.specs.TableState.{IsTable}
use Rattle.cht_core.specs.Tidy.{IsTidy}
use Rattle.cht_core.proofs.Basics.{after_same}
use Rattle.cht_core.proofs.CalmParts.{Calm, SameResize, SameSeats, calm_now, calm_past, calm_goes_on}
use Rattle.cht_core.proofs.CalmWords.{private_words, same_slots, same_sections, calm_same_slots}
use Rattle.cht_core.proofs.Loads.{event_goes, idle_goes}
use Rattle.cht_core.proofs.Stages.{below_or}
use Rattle.cht_core.proofs.TidyKept.{tidy_told}
use Rattle.cht_core.proofs.WordsKept.{words_kept}

-- a resize lock with the word 0 is nobody's
pub nobody : (resizing : Option Resizing) → owner_word (owner_of resizing) ≡ 0 → resizing ≡ None
nobody None is = refl
nobody (Some r) is = absurd (omega (arith, is))

-- the owner of the resize lock is resizing
pub owner_resizes : (n : Now) (i : ℕ) → IsOwner n i → IsResizing n i
owner_resizes n i is = go n.resizing refl is
  where
    go : (resizing : Option Resizing) → n.resizing ≡ resizing → owner_of resizing ≡ Some i → IsResizing n i
    go None at own = absurd (cc)
    go (Some r) at own = (r, at, cc)

-- the resize lock of nobody or of the seat becomes that of the seat or of nobody
lock_seats : (i : ℕ) (m : Memory) (n n' : Now) → n'.section ≡ n.section → ((k : ℕ) → owner_of n.resizing ≡ Some k → k ≡ i) → ((k : ℕ) → owner_of n'.resizing ≡ Some k → k ≡ i) → SameSeats i m n n'
lock_seats i m n n' sections was will = record {
  section = λ k differs. ap (λ g. g k) sections;
  opened = λ k o is. inl (sym (ap (λ g. g k) sections) ∙ is);
  owner = λ k differs is. absurd (differs (was k is));
  owner_back = λ k differs is. absurd (differs (will k is));
}

-- while nobody had the resize lock nothing was redirected, and nobody had locked a head to which no callers come
taken_resize : (t : Table) (m : Memory) (p : Past) (f : Flow) (n' : Now) → IsTable t m p f → p.now.resizing ≡ None → (n'.resizing ≡ None → ⊥) → ((r : Resizing) → n'.resizing ≡ Some r → r.level ≡ p.now.level) → SameResize p.now n' f
taken_resize t m p f n' table free taken level = record {
  held = λ row bucket k is. elim (table.heads.held row bucket k is) [
    | inl used ↦ inl used
    | inr owner ↦ (let clash : None ≡ Some k = sym (ap owner_of free) ∙ owner in absurd (cc))
  ];
  gone = λ bucket is. absurd (subst (λ (st : Stage). IsGone st bucket) quiet is);
  pinned = λ row bucket is. absurd (subst (λ (st : Stage). IsPinned st p.now.level row bucket) quiet is);
  idle = λ none. absurd (taken none);
  whole = λ settled. subst IsWhole (sym quiet) tt;
  row = λ r is. inr (
    level r is,
    λ row bucket lock. elim (table.heads.held row bucket r.seat lock) [
      | inl used ↦ elim used [
        | inl here ↦ here.0
        | inr there ↦ absurd (subst (λ (st : Stage). IsOpen st p.now.level bucket) quiet there.1)
      ]
      | inr owner ↦ (let clash : None ≡ Some r.seat = sym (ap owner_of free) ∙ owner in absurd (cc))
    ],
  );
}
  where
    quiet : f.stage ≡ Quiet
    quiet = table.idle free

-- who gives the resize lock back has no resize, and has locked no head to which no callers come
given_resize : (n n' : Now) (f : Flow) (i : ℕ) → resize.Resizing n f i n.level Quiet NoHead → n'.resizing ≡ None → SameResize n n' f
given_resize n n' f i h free = record {
  held = λ row bucket k is. inl (used row bucket k is);
  gone = λ bucket is. absurd (subst (λ (st : Stage). IsGone st bucket) h.at_stage is);
  pinned = λ row bucket is. absurd (subst (λ (st : Stage). IsPinned st n.level row bucket) h.at_stage is);
  idle = λ none. h.at_stage;
  whole = λ settled. subst IsWhole (sym h.at_stage) tt;
  row = λ r is. absurd (let clash : None ≡ Some r = sym free ∙ is in cc);
}
  where
    used_at : (row bucket : ℕ) → row ≡ n.level → bucket < 2 ^ n.level → IsUsed n f row bucket
    used_at row bucket here below = inl (here, subst (λ (st : Stage). IsLeft st bucket) (sym h.at_stage) tt, subst (λ (r : ℕ). bucket < 2 ^ r) (sym here) below)

    unused : (row bucket k : ℕ) → n.lock row bucket ≡ Some k → (IsUsed n f row bucket → ⊥) → (row ≡ n.level → 2 ^ n.level ≤ bucket) → ⊥
    unused row bucket k is not high = let clash : None ≡ Some k = sym (h.free row bucket not (λ e. e) high) ∙ is in absurd (cc)

    not_used : (row bucket : ℕ) → (row ≡ n.level → 2 ^ n.level ≤ bucket) → IsUsed n f row bucket → ⊥
    not_used row bucket high used = elim used [
      | inl a ↦ (
          let below : bucket < 2 ^ n.level = subst (λ (r : ℕ). bucket < 2 ^ r) a.0 a.2 in
          let least : 2 ^ n.level ≤ bucket = high a.0 in
          absurd (omega (arith, below, least)))
      | inr a ↦ absurd (subst (λ (st : Stage). IsOpen st n.level bucket) h.at_stage a.1)
    ]

    used : (row bucket k : ℕ) → n.lock row bucket ≡ Some k → IsUsed n f row bucket
    used row bucket k is = elim (cases_eq row n.level) [
      | inr other ↦ absurd (unused row bucket k is (not_used row bucket (λ here. absurd (other here))) (λ here. absurd (other here)))
      | inl here ↦ elim (below_or bucket (2 ^ n.level)) [
        | inl below ↦ used_at row bucket here below
        | inr high ↦ absurd (unused row bucket k is (not_used row bucket (λ e. high)) (λ e. high))
      ]
    ]

-- a step on the resize lock leads on, with the event that it tells and the seat that has it then
lock_goes : (t : Table) (m m' : Memory) (p q : Past) (f : Flow) (i : ℕ) (s : Step) (e : Option What) → IsTable t m p f → i < t.shape.seats → IsSoundStep t.shape i s → IsMade s m m'
    → (access_of s).place ≡ place.ResizeLock → word_after (access_of s).deed (found s m) < 2 ^ 64 → Calm i m m' p q → MayTell (kind_of t) p i e → IsTidy t (calm_now p.now q.now)
    → q.now.slot ≡ p.now.slot → q.now.section ≡ p.now.section → q.now.graces ≡ p.now.graces → m' place.ResizeLock ≡ owner_word (owner_of q.now.resizing)
    → SameResize p.now q.now f → (IsOfTry p.now i s → ⊥) → LeadsOn t m p f i s e m' (calm_past p q) f
lock_goes t m m' p q f i s e table inside sound made at small calm told tidy slots sections graces owner resize none =
    let same : m' place.Counter ≡ m place.Counter = made.there place.Counter (λ is. let clash : place.Counter ≡ place.ResizeLock = is ∙ at in cc) in
    calm_goes_on i m m' p q calm t f s e table told tidy
    (words_kept t m m' i s table.words inside sound made small (subst (λ (word : ℕ). word ≤ 2 ^ 64 - 4) (sym same) table.words.counter))
    (calm_same_slots i m m' p q calm t table.slots slots (λ x. made.there (place.Claim x) (λ is. let clash : place.Claim x ≡ place.ResizeLock = is ∙ at in cc))
    (λ x. made.there (place.Count x) (λ is. let clash : place.Count x ≡ place.ResizeLock = is ∙ at in cc)))
    (same_sections t m m' p.now (calm_now p.now q.now) sections graces same (λ k. made.there (place.Section k) (λ is. let clash : place.Section k ≡ place.ResizeLock = is ∙ at in cc)) table.sections)
    owner
    resize
    (λ try. absurd (none try))

-- whose it is taken at the level
taken_level : (i : ℕ) (n : Now) (r : Resizing) → Some (record { seat = i; place = n.place; level = n.level; replacing = false }) ≡ Some r → r.level ≡ n.level
taken_level i n r is = ap level_in (sym is)
  where
    level_in : Option Resizing → ℕ
    level_in None = 0
    level_in (Some x) = x.level

-- taking the resize lock of nobody leads on
takes : (t : Table) (m m' : Memory) (p : Past) (f : Flow) (i number : ℕ) → IsTable t m p f → i < t.shape.seats → IsSoundStep t.shape i (step.TakeResizeLock number) → m place.ResizeLock ≡ 0
    → IsMade (step.TakeResizeLock number) m m' → LeadsOn t m p f i (step.TakeResizeLock number) (Some what.ResizeTaken) m' (told p i (Some what.ResizeTaken)) f
takes t m m' p f i number table inside sound zero made =
    let q : Past = told p i (Some what.ResizeTaken) in
    let free : p.now.resizing ≡ None = nobody p.now.resizing (sym table.heads.owner ∙ zero) in
    let by : number ≡ i = sound.3 in
    let word : word_after (access_of (step.TakeResizeLock number)).deed (m place.ResizeLock) ≡ number + 1 = ap (λ b. cond b (number + 1) (m place.ResizeLock)) (eq-eqb (m place.ResizeLock) 0 zero) in
    let same : m' place.Counter ≡ m place.Counter = made.there place.Counter (λ e. cc) in
    let seats : t.shape.seats ≤ 256 = table.shape.seats.1 in
    let calm : Calm i m m' p q = record {
      later = omega arith;
      made = λ h. or-false (p.made h);
      uses = λ s. omega arith;
      words = private_words i m m' p.now (step.TakeResizeLock number) made tt (omega (arith, same));
      slots = same_slots i p.now q.now refl;
      seats = lock_seats i m p.now q.now refl (λ k is. let clash : None ≡ Some k = sym (ap owner_of free) ∙ is in absurd (cc)) (λ k is. let owns : Some i ≡ Some k = is in cc);
    } in
    lock_goes t m m' p q f i (step.TakeResizeLock number) (Some what.ResizeTaken) table inside sound made refl (omega (arith, word, by, inside, seats)) calm free
    (tidy_told t p i (Some what.ResizeTaken) table.tidy free) refl refl refl (made.here ∙ word ∙ ap (λ k. k + 1) by)
    (taken_resize t m p f q.now table free (λ none. absurd (cc)) (λ r is. taken_level i p.now r is)) (λ try. try)

-- an exchange of the resize lock keeps the table, whether it was free or taken
pub take_resize_lock_keeps : (number : ℕ) → KeepsTable (step.TakeResizeLock number)
take_resize_lock_keeps number t m m' p f i text table inside sound backs made = elim (cases_eq (m place.ResizeLock) 0) [
  | inl zero ↦ event_goes t m m' p f i text (step.TakeResizeLock number) (Some what.ResizeTaken) (ap (λ b. cond b (Some what.ResizeTaken) None) (eq-eqb (m place.ResizeLock) 0 zero))
      (takes t m m' p f i number table inside sound zero made)
  | inr taken ↦ idle_goes t m m' p f i text (step.TakeResizeLock number)
      (after_same (step.TakeResizeLock number) m m' (ap (λ b. cond b (number + 1) (m place.ResizeLock)) (ne_eqb (m place.ResizeLock) 0 taken)) made)
      (ap (λ b. cond b (Some what.ResizeTaken) None) (ne_eqb (m place.ResizeLock) 0 taken)) refl table
]

-- giving the resize lock back keeps the table
pub give_resize_lock_keeps : KeepsTable step.GiveResizeLock
give_resize_lock_keeps t m m' p f i text table inside sound backs made =
    let q : Past = told p i (Some what.ResizeGiven) in
    let owner : owner_of p.now.resizing ≡ Some i = backs.0.owner in
    let may : MayTell (kind_of t) p i (Some what.ResizeGiven) = (owner_resizes p.now i owner, backs.1) in
    let same : m' place.Counter ≡ m place.Counter = made.there place.Counter (λ e. cc) in
    let calm : Calm i m m' p q = record {
      later = omega arith;
      made = λ h. or-false (p.made h);
      uses = λ s. omega arith;
      words = private_words i m m' p.now step.GiveResizeLock made tt (omega (arith, same));
      slots = same_slots i p.now q.now refl;
      seats = lock_seats i m p.now q.now refl (λ k is. let owns : Some i ≡ Some k = sym owner ∙ is in cc) (λ k is. absurd (cc));
    } in
    lock_goes t m m' p q f i step.GiveResizeLock (Some what.ResizeGiven) table inside sound made refl (omega arith) calm may
    (tidy_told t p i (Some what.ResizeGiven) table.tidy may) refl refl refl made.here (given_resize p.now q.now f i backs.0 refl) (λ try. try)
