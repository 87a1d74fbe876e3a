-- A state that is made anew by the next seed.
use Rattle.std.proofs.Common.{◌≡◌, ℕ, ◌+◌, ◌*◌, ◌%◌, ◌<◌, ◌≤◌, ◌↔◌, ◌==◌, ◌&&◌, Bool, true, false, not, List, [], ◌∷◌, ◌++◌, length, get_or, Option, Some, refl, sym, ap, subst, ◌∙◌, arith}
use Rattle.std.specs.Bool.{IsTrue}
use Rattle.std.proofs.lemmas.Bool.{eqb-true, eq-eqb}
use Rattle.std.proofs.lemmas.List.{get_or_read}
use Rattle.table_shape.specs.declared.place.Place.TheVariants as place
use Rattle.table_shape.specs.Place.{index_of}
use Rattle.intern_log.specs.declared.event.Event.{Event}
use Rattle.intern_log.specs.declared.event.What.TheVariants as what
use Rattle.intern_log.specs.Lawful.{IsLinkedDead}
use Rattle.intern_log.specs.Now.{Now}
use Rattle.intern_log.proofs.Handles.{both_hold}
use Rattle.atomic_step.specs.Count.{holds_of}
use Rattle.atomic_step.specs.Table.{word_at}
use Rattle.cht_core.specs.declared.seat.Seat.{Seat}
use Rattle.cht_core.specs.Anew.{is_linked_in, is_dead_in, HaveRoom, made_anew}
use Rattle.cht_core.specs.Invariant.{events_of}
use Rattle.cht_core.specs.Memory.{Memory, memory_of}
use Rattle.cht_core.specs.Past.{Past, past_of, by}
use Rattle.cht_core.specs.Rehash.{IsFree, IsRehashed, seeds, by_next_seed}
use Rattle.cht_core.specs.State.{Core, IsCore, seat_in, views_of, now_at, CanRehash, Rehashed}
use Rattle.cht_core.proofs.RunRehashes.{may_rehash, rehashed_core}
use Rattle.cht_core.proofs.AnewReady.{IsReady, ready, ready_by_next_seed, linked_of_log, dead_by_words, dead_in_words}
use Rattle.cht_core.proofs.AnewSteps.{words_rehashed, anew_sized}
use Rattle.cht_core.proofs.RehashQuiet.{has_nothing}
use Rattle.cht_core.proofs.StateWords.{memory_at}

-- WHETHER A STATE MAY BE MADE ANEW

module _ (c : Core) (core : IsCore c) where
  abbrev m : Memory
  m = memory_of c.table.shape c.words

  abbrev past_here : Past
  past_here = past_of c.table.shape.min_level c.log

  -- the words and the log tell which slots are linked and dead
  dead_told : (s : ℕ) → s < c.table.shape.slots → is_dead_in c.table.shape c.words c.log s ≡ true → IsLinkedDead past_here.now (past_here.now.slot s)
  dead_told s inside is =
      let parts = both_hold ((word_at c.table.shape (place.Claim s) c.words == 1) && (holds_of (word_at c.table.shape (place.Count s) c.words) == 0)) (is_linked_in c.log s) is in
      let words = both_hold (word_at c.table.shape (place.Claim s) c.words == 1) (holds_of (word_at c.table.shape (place.Count s) c.words) == 0) parts.0 in
      dead_by_words c.table m past_here core.inv.flow core.inv.table s (sym (linked_of_log c.table.shape.min_level c.log s) ∙ parts.1)
      (ap holds_of (memory_at c.table.shape c.words (place.Count s) inside) ∙ eqb-true (holds_of (word_at c.table.shape (place.Count s) c.words)) 0 words.1)

  told_dead : (s : ℕ) → IsLinkedDead past_here.now (past_here.now.slot s) → (slot : ℕ) × (slot < c.table.shape.slots) × (is_dead_in c.table.shape c.words c.log slot ≡ true)
  told_dead s dead =
      let told = dead_in_words c.table m past_here core.inv.flow core.inv.table s dead in
      let claim : (word_at c.table.shape (place.Claim s) c.words == 1) ≡ true =
      eq-eqb (word_at c.table.shape (place.Claim s) c.words) 1 (sym (memory_at c.table.shape c.words (place.Claim s) told.0) ∙ told.1) in
      let holds : (holds_of (word_at c.table.shape (place.Count s) c.words) == 0) ≡ true =
      eq-eqb (holds_of (word_at c.table.shape (place.Count s) c.words)) 0 (ap holds_of (sym (memory_at c.table.shape c.words (place.Count s) told.0)) ∙ told.2) in (
        s,
        told.0,
        ap (λ b. (b && (holds_of (word_at c.table.shape (place.Count s) c.words) == 0)) && is_linked_in c.log s) claim ∙ ap (λ b. b && is_linked_in c.log s) holds
            ∙ linked_of_log c.table.shape.min_level c.log s ∙ told.3,
      )

  module _ (dead : Bool) (exact : (dead ≡ true) ↔ ((slot : ℕ) × (slot < c.table.shape.slots) × (is_dead_in c.table.shape c.words c.log slot ≡ true))) where
    -- it may be made anew exactly where no slot is linked and dead, if a seed is left and the seats are free
    pub may_where_alive : c.seed < 2 → ((k : ℕ) (s : Seat) → seat_in c.seats k ≡ Some s → IsFree s) → dead ≡ false → CanRehash c
    may_where_alive few free alive = record {
      seats = free;
      dead = λ s is. let told : dead ≡ true = exact.1 (told_dead s is) in let clash : true ≡ false = sym told ∙ alive in absurd (cc);
      seed = few;
    }

    pub alive_where_may : CanRehash c → dead ≡ false
    alive_where_may can = go dead refl
      where
        go : (b : Bool) → dead ≡ b → b ≡ false
        go false is = refl
        go true is = let told = exact.0 is in absurd (can.dead told.0 (dead_told told.0 told.1 told.2))

  -- each slot has room for its text
  pub have_room : HaveRoom c.table.shape c.words
  have_room slot inside =
      let sound = (core.inv.table.words.sound (place.Meta slot)).1 in
      let same : m (place.Meta slot) ≡ word_at c.table.shape (place.Meta slot) c.words = memory_at c.table.shape c.words (place.Meta slot) inside in
      subst (λ word. word % 65536 ≤ 8 * c.table.shape.text_words) same sound

not_true : (b : Bool) → not b ≡ true → b ≡ false
not_true true is = absurd (cc)
not_true false is = refl

abbrev AreFree : List (Option Seat) → Type 0
AreFree seats = (k : ℕ) (s : Seat) → seat_in seats k ≡ Some s → IsFree s

abbrev HasDead : Core → List ℕ → List Event → Type 0
HasDead c words log = (slot : ℕ) × (slot < c.table.shape.slots) × (is_dead_in c.table.shape words log slot ≡ true)

-- not where a seat is not free
pub not_where_busy : (c : Core) (seats : List (Option Seat)) (free : Bool) → seats ≡ c.seats → (free ≡ true) ↔ AreFree seats → free ≡ false → IsTrue false ↔ CanRehash c
not_where_busy c seats free same exact busy = (λ is. absurd (cc), λ can. sym busy ∙ exact.1 (subst AreFree (sym same) can.seats))

-- and else where no slot is linked and dead
pub may_where_none_dead : (c : Core) → IsCore c → c.seed < 2 → (seats : List (Option Seat)) (words : List ℕ) (log : List Event) (free dead : Bool) → seats ≡ c.seats → words ≡ c.words → log ≡ c.log
    → (free ≡ true) ↔ AreFree seats → free ≡ true → (dead ≡ true) ↔ HasDead c words log → IsTrue (not dead) ↔ CanRehash c
may_where_none_dead c core few seats words log free dead same same_words same_log free_exact all_free dead_exact =
    let exact : (dead ≡ true) ↔ HasDead c c.words c.log = subst (λ (l : List Event). (dead ≡ true) ↔ HasDead c c.words l) same_log (subst (λ w. (dead ≡ true) ↔ HasDead c w log) same_words dead_exact) in (
      λ is. may_where_alive c core dead exact few (subst AreFree same (free_exact.0 all_free)) (not_true dead is),
      λ can. ap not (alive_where_may c core dead exact can),
    )

-- THE STATE THAT IS MADE ANEW

module _ (c : Core) (core : IsCore c) (can : CanRehash c) where
  abbrev n : Now
  n = now_at c

  abbrev old : Memory
  old = memory_of c.table.shape c.words

  abbrev new_words : List ℕ
  new_words = made_anew c.table.shape n.level (n.seed + 1) c.words

  abbrev new_log : List Event
  new_log = c.log ++ by 0 (seeds n) ∷ []

  ready_here : IsReady c.table.shape old (by_next_seed n)
  ready_here = ready_by_next_seed c.table.shape old n
      (ready c.table old (past_of c.table.shape.min_level c.log) core.inv.flow core.inv.table
      (λ s i is. (has_nothing c.table old (views_of core.sights c.seats) c.log core.inv (may_rehash c core can) i).claimed s is) can.dead)

  words_are : IsRehashed old (memory_of c.table.shape new_words) (by_next_seed n)
  words_are = words_rehashed c.table.shape c.words (by_next_seed n) core.sized ready_here

  sized : length new_words ≡ length c.words
  sized = anew_sized c.table.shape c.words (by_next_seed n) core.sized ready_here

  abbrev anew : Core
  anew = record c { seed = c.seed + 1; words = new_words; log = new_log }

  anew_rehashed : Rehashed c anew
  anew_rehashed = record { can = can; sized = sized; words = words_are; state = refl }

  anew_core : IsCore anew
  anew_core = rehashed_core c anew core anew_rehashed

  -- the same over what was read and made on the way
  module _ (index word level seed : ℕ) (words : List ℕ) (log : List Event) (is_index : index ≡ index_of c.table.shape place.Level) (is_word : word ≡ get_or c.words index word) (is_level : level ≡ word)
      (is_seed : seed ≡ c.seed + 1) (is_words : words ≡ made_anew c.table.shape level seed c.words) (is_log : log ≡ c.log ++ events_of 0 (Some (what.Rehash seed))) where
    level_is : level ≡ n.level
    level_is =
        let within : index < length c.words = let whole = core.sized in omega (arith, is_index, whole) in
        is_level ∙ get_or_read c.words index word within is_word 0 ∙ ap (λ i. get_or c.words i 0) is_index ∙ core.inv.table.heads.level

    seed_is : seed ≡ n.seed + 1
    seed_is = is_seed ∙ ap (λ s. s + 1) core.seed

    anew_is : record c { seed = seed; words = words; log = log } ≡ anew
    anew_is = λ i. record c {
      seed = is_seed i;
      words = (is_words ∙ ap (λ l. made_anew c.table.shape l seed c.words) level_is ∙ ap (λ s. made_anew c.table.shape n.level s c.words) seed_is) i;
      log = (is_log ∙ ap (λ s. c.log ++ by 0 (what.Rehash s) ∷ []) seed_is) i;
    }

    pub code_core : IsCore (record c { seed = seed; words = words; log = log })
    code_core = subst IsCore (sym anew_is) anew_core

    pub code_rehashed : Rehashed c (record c { seed = seed; words = words; log = log })
    code_rehashed = subst (Rehashed c) (sym anew_is) anew_rehashed
