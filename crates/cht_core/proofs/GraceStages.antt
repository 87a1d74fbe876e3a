-- The stages of a grace: what was unlinked before the counter was raised may be freed once every section was looked at.
use Rattle.std.proofs.Common.{◌≡◌, ℕ, ◌+◌, ◌*◌, ◌^◌, ◌<◌, ◌≤◌, inl, inr, refl, sym, ap, subst, ◌∙◌, arith, Bool, true, false, List, Option, Some}
use Rattle.std.specs.Prelude.{◌==◌, ◌%◌, ◌-◌, if◌then◌else◌}
use Rattle.std.specs.Option.{option_map}
use Rattle.std.proofs.lemmas.Bool.{cases_eq, eqb-true}
use Rattle.std.proofs.lemmas.Bool.Decides.{nat_tests}
use Rattle.chain_core.specs.Nodes.{Once}
use Rattle.marked_word.specs.Number.{section_word}
use Rattle.section_core.specs.Words.{waits_for}
use Rattle.table_shape.specs.declared.place.Place.TheVariants as place
use Rattle.intern_log.specs.declared.event.What.TheVariants as what
use Rattle.intern_log.specs.Lawful.{IsGracedSince}
use Rattle.intern_log.specs.Now.{Now, OpenSection}
use Rattle.atomic_step.specs.declared.step.Step.{Step}
use Rattle.atomic_step.specs.declared.step.Step.TheVariants as step
use Rattle.atomic_step.specs.Event.{event_of}
use Rattle.call_machine.specs.declared.grace.Grace.{Grace}
use Rattle.call_machine.specs.declared.grace.GraceStage.{GraceStage}
use Rattle.call_machine.specs.declared.grace.GraceStage.TheVariants.{RaiseCounter, LoadSection}
use Rattle.call_machine.specs.declared.grace.Gracing.{Gracing}
use Rattle.call_machine.specs.declared.grace.Gracing.TheVariants.{Goes, Waits, Over}
use Rattle.call_machine.specs.declared.pass.Waiting.{Waiting}
use Rattle.call_machine.specs.Grace.{scanned, grace_row}
use Rattle.cht_core.specs.declared.table.Table.{Table}
use Rattle.cht_core.specs.Backs.{Backs}
use Rattle.cht_core.specs.Flow.{Flow}
use Rattle.cht_core.specs.Heads.{Sections}
use Rattle.cht_core.specs.KnowsResize.{Graced}
use Rattle.cht_core.specs.KnowsWork.{AreWaiting, slots_in, KnowsWaiting, KnowsWaited, KnowsOver, KnowsGrace, KnowsGracing}
use Rattle.cht_core.specs.Memory.{Memory, IsMade, found}
use Rattle.cht_core.specs.Past.{Past, by, past_after, told}
use Rattle.cht_core.specs.TableState.{IsTable, Words}
use Rattle.cht_core.specs.Tidy.{IsTidy}
use Rattle.cht_core.proofs.Basics.{after_load}
use Rattle.cht_core.proofs.Waits.{waiting_stays}

-- the grace that has begun as the counter was found
abbrev pub begun_grace : ℕ → Grace
begun_grace word = record { raised = word + 2; next = 0 }

-- the past after the Grace of a seat
abbrev pub after_grace : Past → ℕ → Past
after_grace p i = past_after p (by i what.Grace)

-- every open section has a counter below the one to which the counter is raised
pub raised_is_graced : (t : Table) (m : Memory) (p : Past) (i : ℕ) → IsTidy t p.now → Sections t m p.now → Graced (after_grace p i).now (begun_grace (m place.Counter)) p.now.place
raised_is_graced t m p i tidy sections = record {
  early = omega arith;
  newer = λ k o is above.
      let low : o.counter ≤ t.first_counter + 2 * p.now.graces = (tidy.sections k o is).1 in
      let counter : m place.Counter ≡ t.first_counter + 2 * p.now.graces = sections.counter in
      let high : m place.Counter + 2 ≤ o.counter = above in
      absurd (omega (arith, low, counter, high));
  passed = λ k o below is. absurd (omega (arith, below));
}

-- those that waited as the counter was raised wait for the grace
pub raise_knows_waited : (t : Table) (m m' : Memory) (p : Past) (i : ℕ) (xs : List Waiting) → IsTidy t p.now → Sections t m p.now → IsMade step.RaiseCounter m m' → KnowsWaiting m p i xs
    → KnowsWaited m' (after_grace p i) i xs (begun_grace (m place.Counter))
raise_knows_waited t m m' p i xs tidy sections made waiting = (
  p.now.place,
  raised_is_graced t m p i tidy sections,
  waiting_stays m p m' (after_grace p i) i p.now.place xs (λ s on. record { phase = refl; count = made.there (place.Count s) (λ e. cc); uses = omega arith }) waiting.0,
  waiting.1,
)

-- the word of a section by what the log says of it
abbrev section_says : Option OpenSection → ℕ
section_says section = section_word (option_map (λ (o : OpenSection). o.counter) section)

-- an open section that is not waited for has a counter from the raised one on
not_waited : (raised counter : ℕ) → (counter + 1) % 2 ≡ 1 → waits_for raised (counter + 1) ≡ false → raised ≤ counter
not_waited raised counter odd passed = grind (arith, nat_tests)

-- the section of the number that was looked at is closed or new
pub looked_at : (t : Table) (m : Memory) (n : Now) (g : Grace) (at : ℕ) → Words t m → Sections t m n → Graced n g at → waits_for g.raised (m (place.Section g.next)) ≡ false
    → (o : OpenSection) → n.section g.next ≡ Some o → at < o.place
looked_at t m n g at words sections graced passed o is =
    let word : m (place.Section g.next) ≡ o.counter + 1 = sections.words g.next ∙ ap section_says is in
    let odd : (o.counter + 1) % 2 ≡ 1 = elim (words.sound (place.Section g.next)) [
      | inl zero ↦ (let clash : o.counter + 1 ≡ 0 = sym word ∙ zero in absurd (omega (arith, clash)))
      | inr odd ↦ ap (λ w. w % 2) (sym word) ∙ odd
    ] in
    graced.newer g.next o is (not_waited g.raised o.counter odd (ap (waits_for g.raised) (sym word) ∙ passed))

-- what is known of a grace that began at a place, after one more section word: that it goes on or waits, or that it is over
abbrev pub KnowsScanned : Now → ℕ → Grace → Gracing → Type 0
KnowsScanned n at g Over = (at < n.place) × IsGracedSince n at
KnowsScanned n at g _ = Graced n g at

-- and of those that wait for it
abbrev pub KnowsScannedFor : Memory → Past → ℕ → List Waiting → Grace → Gracing → Type 0
KnowsScannedFor m p i xs g Over = KnowsOver m p i xs
KnowsScannedFor m p i xs g _ = KnowsWaited m p i xs g

-- of the numbers up to the next one each was passed
one_more : (n : Now) (g : Grace) (at : ℕ) → Graced n g at → ((o : OpenSection) → n.section g.next ≡ Some o → at < o.place)
    → (k : ℕ) (o : OpenSection) → k < g.next + 1 → n.section k ≡ Some o → at < o.place
one_more n g at graced here k o below is = elim (cases_eq k g.next) [
  | inl same ↦ here o (subst (λ q. n.section q ≡ Some o) same is)
  | inr differ ↦ graced.passed k o (omega (arith, below, differ)) is
]

-- what comes of a section word, by whether it is waited for and whether it was the last one
abbrev by_answers : Grace → Bool → Bool → Grace × Gracing
by_answers g waits last = if waits then (g, Waits) else if last then (g, Over) else (record g { next = g.next + 1 }, Goes)

-- a section word was looked at
pub scan_knows : (t : Table) (m : Memory) (n : Now) (g : Grace) (at : ℕ) → Words t m → Sections t m n → Graced n g at
    → KnowsScanned n at (scanned t.shape.seats g (m (place.Section g.next))).0 (scanned t.shape.seats g (m (place.Section g.next))).1
scan_knows t m n g at words sections graced = by_tests (waits_for g.raised (m (place.Section g.next))) (g.next + 1 == t.shape.seats) refl refl
  where
    by_tests : (waits last : Bool) → waits_for g.raised (m (place.Section g.next)) ≡ waits → (g.next + 1 == t.shape.seats) ≡ last
        → KnowsScanned n at (by_answers g waits last).0 (by_answers g waits last).1
    by_tests true last waits ends = graced
    by_tests false true waits ends = (
      graced.early,
      λ k o is.
          let all : k < t.shape.seats = sections.seats k o is in
          let end : g.next + 1 ≡ t.shape.seats = eqb-true (g.next + 1) t.shape.seats ends in
          one_more n g at graced (looked_at t m n g at words sections graced waits) k o (omega (arith, all, end)) is,
    )
    by_tests false false waits ends = record {
      early = graced.early;
      newer = graced.newer;
      passed = one_more n g at graced (looked_at t m n g at words sections graced waits);
    }

-- and of those that wait for the grace
scanned_for : (m : Memory) (p : Past) (i : ℕ) (xs : List Waiting) (at : ℕ) (g : Grace) (gracing : Gracing) → AreWaiting m p i at xs → Once (slots_in xs) → KnowsScanned p.now at g gracing
    → KnowsScannedFor m p i xs g gracing
scanned_for m p i xs at g Over waiting once scan = (at, scan.0, scan.1, waiting, once)
scanned_for m p i xs at g Goes waiting once scan = (at, scan, waiting, once)
scanned_for m p i xs at g Waits waiting once scan = (at, scan, waiting, once)

-- a section word was looked at, and these wait for the grace
pub scan_knows_waited : (t : Table) (m : Memory) (p : Past) (i : ℕ) (xs : List Waiting) (g : Grace) → Words t m → Sections t m p.now → KnowsWaited m p i xs g
    → KnowsScannedFor m p i xs (scanned t.shape.seats g (m (place.Section g.next))).0 (scanned t.shape.seats g (m (place.Section g.next))).1
scan_knows_waited t m p i xs g words sections waited =
    scanned_for m p i xs waited.0 (scanned t.shape.seats g (m (place.Section g.next))).0 (scanned t.shape.seats g (m (place.Section g.next))).1 waited.2 waited.3
    (scan_knows t m p.now g waited.0 words sections waited.1)

-- what is known of a grace of its own
abbrev pub KnowsGraced : Now → Grace → Gracing → Type 0
KnowsGraced n g Over = Unit {0}
KnowsGraced n g _ = KnowsGrace n g

came_from_scan : (n : Now) (at : ℕ) (g : Grace) (gracing : Gracing) → KnowsScanned n at g gracing → KnowsGraced n g gracing
came_from_scan n at g Over scan = tt
came_from_scan n at g Goes scan = (at, scan)
came_from_scan n at g Waits scan = (at, scan)

-- what a stage of a grace of its own knows
abbrev pub KnowsOwnGrace : Now → Grace → GraceStage → Type 0
KnowsOwnGrace n g RaiseCounter = Unit {0}
KnowsOwnGrace n g LoadSection = KnowsGrace n g

-- the counter can be raised, where a step raises it
abbrev pub CanRaise : Memory → Step → Type 0
CanRaise m s = s ≡ step.RaiseCounter → m place.Counter + 2 ≤ 2 ^ 64 - 4

-- a step of a grace is backed
pub grace_backs : (t : Table) (m : Memory) (p : Past) (f : Flow) (i : ℕ) (text : List ℕ) (seats : ℕ) (g : Grace) (s : GraceStage) → CanRaise m (grace_row seats g s).step
    → Backs t m p f i text (grace_row seats g s).step
grace_backs t m p f i text seats g RaiseCounter may = may refl
grace_backs t m p f i text seats g LoadSection may = tt

-- after a step of a grace of a work or a sweep
pub grace_knows_waited : (t : Table) (m m' : Memory) (p : Past) (f : Flow) (i : ℕ) (text : List ℕ) (xs : List Waiting) (g : Grace) (s : GraceStage) → IsTable t m p f
    → IsMade (grace_row t.shape.seats g s).step m m' → KnowsGracing m p i xs g s
    → let word = found (grace_row t.shape.seats g s).step m in let came = (grace_row t.shape.seats g s).next word in
    KnowsScannedFor m' (told p i (event_of text (grace_row t.shape.seats g s).step word)) i xs came.0 came.1
grace_knows_waited t m m' p f i text xs g RaiseCounter table made waiting = raise_knows_waited t m m' p i xs table.tidy table.sections made waiting
grace_knows_waited t m m' p f i text xs g LoadSection table made waited =
    subst (λ (now : Memory). KnowsScannedFor now p i xs (scanned t.shape.seats g (m (place.Section g.next))).0 (scanned t.shape.seats g (m (place.Section g.next))).1)
    (sym (after_load (step.LoadSection g.next) m m' refl made)) (scan_knows_waited t m p i xs g table.words table.sections waited)

-- after a step of a grace of its own
pub grace_knows : (t : Table) (m : Memory) (p : Past) (f : Flow) (i : ℕ) (text : List ℕ) (g : Grace) (s : GraceStage) → IsTable t m p f → KnowsOwnGrace p.now g s
    → let word = found (grace_row t.shape.seats g s).step m in let came = (grace_row t.shape.seats g s).next word in
    KnowsGraced (told p i (event_of text (grace_row t.shape.seats g s).step word)).now came.0 came.1
grace_knows t m p f i text g RaiseCounter table known = (p.now.place, raised_is_graced t m p i table.tidy table.sections)
grace_knows t m p f i text g LoadSection table known =
    came_from_scan p.now known.0 (scanned t.shape.seats g (m (place.Section g.next))).0 (scanned t.shape.seats g (m (place.Section g.next))).1
    (scan_knows t m p.now g known.0 table.words table.sections known.1)
