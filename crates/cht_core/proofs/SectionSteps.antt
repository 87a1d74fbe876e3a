-- Drawing a number, opening and closing a section, and raising the counter keep the table.
use Rattle.std.proofs.Common.{◌≡◌, ◌≢◌, ℕ, ◌+◌, ◌-◌, ◌%◌, ◌^◌, ◌<◌, ◌≤◌, Bool, true, false, cond, if◌then◌else◌, Option, Some, None, refl, sym, ap, subst, ◌∙◌, inl, inr, arith}
use Rattle.std.specs.Prelude.{◌*◌}
use Rattle.std.specs.Option.{option_map}
use Rattle.std.proofs.Math.Bool.{or-false}
use Rattle.std.proofs.lemmas.Bool.{cases_eq, eqb-true}
use Rattle.table_shape.specs.declared.place.Place.TheVariants as place
use Rattle.marked_word.specs.Number.{section_word}
use Rattle.intern_log.specs.declared.event.What.TheVariants as what
use Rattle.intern_log.specs.Now.{Now, OpenSection, with_at, owner_of}
use Rattle.atomic_step.specs.declared.step.Step.TheVariants as step
use Rattle.atomic_step.specs.SoundStep.{IsSoundStep}
use Rattle.cht_core.specs.declared.table.Table.{Table}
use Rattle.cht_core.specs.Backs.{KeepsTable, Goes}
use Rattle.cht_core.specs.Flow.{Flow, is_owner_in, raised_at, parted_after}
use Rattle.cht_core.specs.Heads.{Sections}
use Rattle.cht_core.specs.Memory.{Memory, IsMade}
use Rattle.cht_core.specs.Past.{Past, told, MayTell, kind_of}
use Rattle.cht_core.specs.Stage.{Parted, Whole, Pending, Since, IsSpared}
use Rattle.cht_core.specs.Tidy.{IsTidy}
use Rattle.cht_core.proofs.Basics.{with_here, with_other}
use Rattle.cht_core.proofs.CalmParts.{Calm, SameParted, SameSeats, calm_now, calm_goes_on, calm_parts_go_on, same_resize}
use Rattle.cht_core.proofs.CalmWords.{private_words, slot_words, slot_still_goes, still_calm, same_slots, same_seats, same_works, calm_same_slots}
use Rattle.cht_core.proofs.TidyKept.{tidy_told}
use Rattle.cht_core.proofs.WordsKept.{words_kept}

-- drawing a number keeps the table
pub draw_keeps : KeepsTable step.Draw
draw_keeps t m m' p f i text table inside sound backs made =
    let calm = still_calm i m m' p (slot_words t m m' p f i step.Draw table inside sound made tt tt) in
    slot_still_goes t m m' p f i step.Draw table inside sound made tt tt
    (calm_same_slots i m m' p p calm t table.slots refl (λ s. made.there (place.Claim s) (λ e. cc)) (λ s. made.there (place.Count s) (λ e. cc)))
    (omega arith) (λ try s at is. made.there (place.Count s) (λ e. cc))

-- a raise of the counter by the owner of the resize lock puts its place to the slots that wait for it
raise_parts : (t : Table) (n : Now) (f : Flow) (i : ℕ) → IsTidy t n → (owner : Option ℕ) → owner_of n.resizing ≡ owner
    → SameParted i n f (if is_owner_in owner i then (λ s. raised_at n.place (f.parted s)) else f.parted)
raise_parts t n f i tidy owner is = go (is_owner_in owner i) refl
  where
    raised_spared : (at : ℕ) (part : Parted) → at ≤ n.place → IsSpared part at → IsSpared (raised_at n.place part) at
    raised_spared at Whole early spared = tt
    raised_spared at Pending early spared = early
    raised_spared at (Since raise) early spared = spared

    raised_whole : (part : Parted) → part ≡ Whole → raised_at n.place part ≡ Whole
    raised_whole part is = ap (raised_at n.place) is

    mine : (o : Option ℕ) (k : ℕ) → is_owner_in o i ≡ true → o ≡ Some k → k ≡ i
    mine None k owns at = absurd (cc)
    mine (Some j) k owns at = let same : j ≡ k = cc in sym same ∙ eqb-true j i owns

    go : (b : Bool) → is_owner_in owner i ≡ b → SameParted i n f (cond b (λ s. raised_at n.place (f.parted s)) f.parted)
    go true owns = record {
      spared = λ k s o inside spared. raised_spared o.place (f.parted s) (let early : o.place < n.place = (tidy.sections k o inside).0 in omega (arith, early)) spared;
      whole = λ s whole. raised_whole (f.parted s) whole;
      others = λ k differs at s. absurd (differs (mine owner k owns (sym is ∙ at)));
    }
    go false owns = record { spared = λ k s o inside spared. spared; whole = λ s whole. whole; others = λ k differs at s. refl }

-- raising the counter keeps the table
pub raise_counter_keeps : KeepsTable step.RaiseCounter
raise_counter_keeps t m m' p f i text table inside sound backs made =
    let q : Past = told p i (Some what.Grace) in
    let room : m place.Counter + 2 ≤ 2 ^ 64 - 4 = backs in
    let word : m' place.Counter ≡ (m place.Counter + 2) % 2 ^ 64 = made.here in
    let raised : m' place.Counter ≡ m place.Counter + 2 = omega (arith, room, word) in
    let was : m place.Counter ≡ t.first_counter + 2 * p.now.graces = table.sections.counter in
    let counts : (s : ℕ) → m' (place.Count s) ≡ m (place.Count s) = λ s. made.there (place.Count s) (λ e. cc) in
    let calm : Calm i m m' p q = record {
      later = omega arith;
      made = λ h. or-false (p.made h);
      uses = λ s. omega arith;
      words = private_words i m m' p.now step.RaiseCounter made tt (omega (arith, raised));
      slots = same_slots i p.now q.now refl;
      seats = same_seats i m p.now q.now refl refl;
    } in
    calm_parts_go_on i m m' p q calm t f (parted_after p.now i f.stage step.RaiseCounter (m place.Counter) f.parted) step.RaiseCounter (Some what.Grace)
    (raise_parts t p.now f i table.tidy (owner_of p.now.resizing) refl) table tt (tidy_told t p i (Some what.Grace) table.tidy tt)
    (words_kept t m m' i step.RaiseCounter table.words inside sound made (omega arith) (omega (arith, raised, room)))
    (calm_same_slots i m m' p q calm t table.slots refl (λ s. made.there (place.Claim s) (λ e. cc)) counts)
    (record { counter = omega (arith, raised, was); words = λ k. made.there (place.Section k) (λ e. cc) ∙ table.sections.words k; seats = table.sections.seats })
    (made.there place.ResizeLock (λ e. cc) ∙ table.heads.owner)
    (same_resize t m p f q.now table refl)
    (λ try. absurd try)
    (λ try. absurd try)

-- a section that is opened or closed: the others stay
section_seats : (i : ℕ) (m : Memory) (n n' : Now) (value : Option OpenSection) → n'.section ≡ with_at n.section i value → n'.resizing ≡ n.resizing
    → ((o : OpenSection) → value ≡ Some o → (n.place ≤ o.place) × (o.counter ≤ m place.Counter)) → SameSeats i m n n'
section_seats i m n n' value is resizing new = record {
  section = λ k differs. at k ∙ with_other n.section i value k differs;
  opened = λ k o e. elim (cases_eq k i) [
    | inl same ↦ inr (new o (sym (at k ∙ with_here n.section i value k same) ∙ e))
    | inr differ ↦ inl (sym (at k ∙ with_other n.section i value k differ) ∙ e)
  ];
  owner = (same_seats i m n (record n { resizing = n'.resizing }) refl resizing).owner;
  owner_back = (same_seats i m n (record n { resizing = n'.resizing }) refl resizing).owner_back;
}
  where
    at : (k : ℕ) → n'.section k ≡ with_at n.section i value k
    at k = ap (λ (g : ℕ → Option OpenSection). g k) is

-- and its word is the only one that changes
section_words : (t : Table) (m m' : Memory) (n n' : Now) (i : ℕ) (value : Option OpenSection) → n'.section ≡ with_at n.section i value → n'.graces ≡ n.graces → m' place.Counter ≡ m place.Counter
    → m' (place.Section i) ≡ section_word (option_map (λ (o : OpenSection). o.counter) value) → ((k : ℕ) → k ≢ i → m' (place.Section k) ≡ m (place.Section k)) → i < t.shape.seats
    → Sections t m n → Sections t m' n'
section_words t m m' n n' i value is graces counter here there inside h = record {
  counter = counter ∙ h.counter ∙ ap (λ g. t.first_counter + 2 * g) (sym graces);
  words = λ k. elim (cases_eq k i) [
    | inl same ↦ ap (λ x. m' (place.Section x)) same ∙ here ∙ ap (λ v. section_word (option_map (λ (o : OpenSection). o.counter) v)) (sym (at k ∙ with_here n.section i value k same))
    | inr differ ↦ there k differ ∙ h.words k ∙ ap (λ v. section_word (option_map (λ (o : OpenSection). o.counter) v)) (sym (at k ∙ with_other n.section i value k differ))
  ];
  seats = λ k o e. elim (cases_eq k i) [
    | inl same ↦ subst (λ x. x < t.shape.seats) (sym same) inside
    | inr differ ↦ h.seats k o (sym (at k ∙ with_other n.section i value k differ) ∙ e)
  ];
}
  where
    at : (k : ℕ) → n'.section k ≡ with_at n.section i value k
    at k = ap (λ (g : ℕ → Option OpenSection). g k) is

-- a section that is opened has the place and a counter that was there
newly_opened : (now counter most : ℕ) (o : OpenSection) → counter ≤ most → Some (record { place = now; counter = counter }) ≡ Some o → (now ≤ o.place) × (o.counter ≤ most)
newly_opened now counter most o low is =
    let same : record { place = now; counter = counter } ≡ o = cc in
    let places : now ≡ o.place = ap (λ (x : OpenSection). x.place) same in
    let counters : counter ≡ o.counter = ap (λ (x : OpenSection). x.counter) same in
    (omega (arith, places), omega (arith, counters, low))

-- opening a section keeps the table
pub open_section_keeps : (number counter : ℕ) → KeepsTable (step.OpenSection number counter)
open_section_keeps number counter t m m' p f i text table inside sound backs made =
    subst (λ k. IsSoundStep t.shape i (step.OpenSection k counter) → IsMade (step.OpenSection k counter) m m' → Goes t m p f i text (step.OpenSection k counter) m') (sym sound.3) opens sound made
  where
    opens : IsSoundStep t.shape i (step.OpenSection i counter) → IsMade (step.OpenSection i counter) m m' → Goes t m p f i text (step.OpenSection i counter) m'
    opens sound made =
        let q : Past = told p i (Some (what.Open counter)) in
        let low : counter ≤ m place.Counter = backs.1 in
        let was : m place.Counter ≡ t.first_counter + 2 * p.now.graces = table.sections.counter in
        let few : m place.Counter ≤ 2 ^ 64 - 4 = table.words.counter in
        let same : m' place.Counter ≡ m place.Counter = made.there place.Counter (λ e. cc) in
        let may : MayTell (kind_of t) p i (Some (what.Open counter)) = (backs.0, omega (arith, low, was)) in
        let counts : (s : ℕ) → m' (place.Count s) ≡ m (place.Count s) = λ s. made.there (place.Count s) (λ e. cc) in
        let calm : Calm i m m' p q = record {
          later = omega arith;
          made = λ h. or-false (p.made h);
          uses = λ s. omega arith;
          words = private_words i m m' p.now (step.OpenSection i counter) made tt (omega (arith, same));
          slots = same_slots i p.now q.now refl;
          seats = section_seats i m p.now q.now (Some (record { place = p.now.place; counter = counter })) refl refl (λ o e. newly_opened p.now.place counter (m place.Counter) o low e);
        } in
        calm_goes_on i m m' p q calm t f (step.OpenSection i counter) (Some (what.Open counter)) table may (tidy_told t p i (Some (what.Open counter)) table.tidy may)
        (words_kept t m m' i (step.OpenSection i counter) table.words inside sound made (omega (arith, low, few)) (omega (arith, same, few)))
        (calm_same_slots i m m' p q calm t table.slots refl (λ s. made.there (place.Claim s) (λ e. cc)) counts)
        (section_words t m m' p.now (calm_now p.now q.now) i (Some (record { place = p.now.place; counter = counter })) refl refl same made.here
        (λ k differ. made.there (place.Section k) (λ e. differ (cc))) inside table.sections)
        (made.there place.ResizeLock (λ e. cc) ∙ table.heads.owner)
        (same_resize t m p f q.now table refl)
        (λ try. same_works i m m' p.now q.now refl refl (λ s at is. counts s))

-- closing a section keeps the table
pub close_section_keeps : (number : ℕ) → KeepsTable (step.CloseSection number)
close_section_keeps number t m m' p f i text table inside sound backs made =
    subst (λ k. IsSoundStep t.shape i (step.CloseSection k) → IsMade (step.CloseSection k) m m' → Goes t m p f i text (step.CloseSection k) m') (sym sound.3) closes sound made
  where
    closes : IsSoundStep t.shape i (step.CloseSection i) → IsMade (step.CloseSection i) m m' → Goes t m p f i text (step.CloseSection i) m'
    closes sound made =
        let q : Past = told p i (Some what.Close) in
        let few : m place.Counter ≤ 2 ^ 64 - 4 = table.words.counter in
        let same : m' place.Counter ≡ m place.Counter = made.there place.Counter (λ e. cc) in
        let counts : (s : ℕ) → m' (place.Count s) ≡ m (place.Count s) = λ s. made.there (place.Count s) (λ e. cc) in
        let calm : Calm i m m' p q = record {
          later = omega arith;
          made = λ h. or-false (p.made h);
          uses = λ s. omega arith;
          words = private_words i m m' p.now (step.CloseSection i) made tt (omega (arith, same));
          slots = same_slots i p.now q.now refl;
          seats = section_seats i m p.now q.now None refl refl (λ o e. absurd (cc));
        } in
        calm_goes_on i m m' p q calm t f (step.CloseSection i) (Some what.Close) table backs (tidy_told t p i (Some what.Close) table.tidy backs)
        (words_kept t m m' i (step.CloseSection i) table.words inside sound made (omega arith) (omega (arith, same, few)))
        (calm_same_slots i m m' p q calm t table.slots refl (λ s. made.there (place.Claim s) (λ e. cc)) counts)
        (section_words t m m' p.now (calm_now p.now q.now) i None refl refl same made.here (λ k differ. made.there (place.Section k) (λ e. differ (cc))) inside table.sections)
        (made.there place.ResizeLock (λ e. cc) ∙ table.heads.owner)
        (same_resize t m p f q.now table refl)
        (λ try. same_works i m m' p.now q.now refl refl (λ s at is. counts s))
