-- A table that is made anew meets the invariant again.
use Rattle.std.proofs.Common.{◌≡◌, ℕ, ◌+◌, true, List, [], ◌∷◌, ◌++◌, Option, Some, None, IfSome, inl, inr, refl, sym, subst, ◌∙◌, arith}
use Rattle.std.specs.Option.{option_map}
use Rattle.std.proofs.lemmas.List.{append-nil}
use Rattle.std.proofs.lemmas.List.Elements.{All-push}
use Rattle.table_shape.specs.declared.place.Place.TheVariants as place
use Rattle.intern_log.specs.declared.event.Event.{Event}
use Rattle.intern_log.specs.declared.event.What.TheVariants as what
use Rattle.intern_log.specs.Lawful.{IsQuiet}
use Rattle.intern_log.specs.Now.{Now, Linked, Unlinked, now_of}
use Rattle.intern_log.specs.Own.{is_visible, is_among, mine, gains, losses}
use Rattle.intern_log.proofs.OneMore.{mine-one_more}
use Rattle.call_machine.specs.declared.machine.Own.{Own}
use Rattle.cht_core.specs.declared.seat.Seat.{Seat}
use Rattle.cht_core.specs.declared.seat.Seat.TheVariants as doing
use Rattle.cht_core.specs.declared.table.Table.{Table}
use Rattle.cht_core.specs.Bounds.{Bounds}
use Rattle.cht_core.specs.Flow.{Flow}
use Rattle.cht_core.specs.Graces.{WorksWithFew, GrowsWithFew}
use Rattle.cht_core.specs.Passes.{WorkFinds, PassesFind}
use Rattle.cht_core.specs.Invariant.{Inv, Numbers, Holds}
use Rattle.cht_core.specs.KnowsWork.{KnowsGrace, KnowsWork}
use Rattle.cht_core.specs.Looks.{WorkLooksAtFew, LooksAtFew}
use Rattle.cht_core.specs.Memory.{Memory}
use Rattle.cht_core.specs.Owes.{IsAllOf}
use Rattle.cht_core.specs.Past.{Past, past_of, past_after, by}
use Rattle.cht_core.specs.Rehash.{IsRehashed, KeepsRehash, MayRehash, by_next_seed, seeds}
use Rattle.cht_core.specs.TableState.{IsTable}
use Rattle.cht_core.specs.View.{View, Knows, KnowsOwn, IsOwnOf}
use Rattle.cht_core.proofs.CauseLogs.{told_more}
use Rattle.cht_core.proofs.EdgesKept.{unlinked_lead_told}
use Rattle.cht_core.proofs.LawfulKept.{lawful_told}
use Rattle.cht_core.proofs.RehashChains.{flow_anew, heads_anew, chains_anew}
use Rattle.cht_core.proofs.RehashQuiet.{free_seat, is_quiet, known_own, may_tell}
use Rattle.cht_core.proofs.RehashWords.{words_anew, slots_anew}
use Rattle.cht_core.proofs.TidyKept.{past_of-one_more, tidy_told}

-- nothing is known of what is not there
none_known : {A : Type 0} (P : A → Type 0) (o : Option A) → o ≡ None → IfSome o P
none_known P o none = subst (λ x. IfSome x P) (sym none) tt

-- an event that no caller sees is none of anybody's
rehash_unheard : (log : List Event) (seed : ℕ) (numbers : List ℕ) → mine (log ++ by 0 (what.Rehash seed) ∷ []) numbers ≡ mine log numbers
rehash_unheard log seed numbers = mine-one_more log (by 0 (what.Rehash seed)) numbers ∙ append-nil (mine log numbers)

module _ (t : Table) (m m' : Memory) (seat : ℕ → Option View) (log : List Event) (inv : Inv t m seat log) (may : MayRehash (now_of t.shape.min_level log) seat)
    (made : IsRehashed m m' (by_next_seed (now_of t.shape.min_level log))) where
  abbrev past_here : Past
  past_here = past_of t.shape.min_level log

  abbrev after : Past
  after = past_after past_here (by 0 (seeds past_here.now))

  abbrev log_after : List Event
  log_after = log ++ by 0 (seeds past_here.now) ∷ []

  abbrev flow : Flow
  flow = flow_anew t m m' past_here inv.flow inv.table made

  quiet : IsQuiet past_here.now
  quiet = is_quiet t m seat log inv may

  table_anew : IsTable t m' after flow
  table_anew = record {
    shape = inv.table.shape;
    tidy = tidy_told t past_here 0 (Some (seeds past_here.now)) inv.table.tidy (may_tell t m seat log inv may);
    words = words_anew t m m' past_here inv.flow inv.table made;
    slots = slots_anew t m m' past_here inv.flow inv.table made;
    sections = record {
      counter = made.stay place.Counter (λ new. new) ∙ inv.table.sections.counter;
      words = λ k. made.stay (place.Section k) (λ new. new) ∙ inv.table.sections.words k;
      seats = inv.table.sections.seats;
    };
    heads = heads_anew t m m' past_here inv.flow inv.table made quiet;
    chains = chains_anew t m m' past_here inv.flow inv.table made;
    clear = λ k o inside. let none : past_here.now.section k ≡ None = quiet.sections k in absurd (cc);
    idle = λ none. refl;
    whole = λ settled. tt;
    row = λ r is. let none : past_here.now.resizing ≡ None = quiet.resizing in absurd (cc);
    named = λ level is. absurd (cc);
    ledger = inv.table.ledger;
  }

  -- a seat between its calls knows what it knew
  knows_anew : (k : ℕ) (v : View) → seat k ≡ Some v → Knows t m' after flow k v
  knows_anew k v is =
      let free : (own : Own) × (v.seat ≡ doing.Idle own) × (own.work ≡ None) × (own.grace ≡ None) = free_seat v.seat (may.seats k v is) in
      let known : IsOwnOf t k free.0 × KnowsOwn m past_here inv.flow k free.0 = known_own t m seat log inv may k v free.0 is free.1 in
      let knows : IsOwnOf t k free.0 × KnowsOwn m' after flow k free.0 =
      (known.0, (known.1.0, none_known (KnowsWork m' after flow k) free.0.work free.2, none_known (KnowsGrace after.now) free.0.grace free.3)) in
      subst (λ (s : Seat). Knows t m' after flow k (record v { seat = s })) (sym free.1) knows

  owes_anew : (k : ℕ) (o : Option Seat) → IsAllOf past_here k o → IsAllOf after k o
  owes_anew k None owes = record {
    section = owes.section;
    claimed = owes.claimed;
    unlinked = λ slot at is. let used = owes.unlinked slot at is in omega (arith, used);
    locked = owes.locked;
    owner = owes.owner;
  }
  owes_anew k (Some s) owes = record {
    claimed = owes.claimed;
    unlinked = λ slot at is. elim (owes.unlinked slot at is) [ inl on ↦ inl on | inr used ↦ inr (omega (arith, used)) ];
    locked = owes.locked;
    owner = owes.owner;
  }

  bounds_anew : Bounds t m' seat
  bounds_anew =
      let draws : m' place.Draws ≡ m place.Draws = made.stay place.Draws (λ new. new) in
      let counter : m' place.Counter ≡ m place.Counter = made.stay place.Counter (λ new. new) in
      record {
        draws = let most = inv.bounds.draws in omega (arith, draws, most);
        counter = let most = inv.bounds.counter in omega (arith, counter, most);
        works = λ k v w is works raised. let most = inv.bounds.works k v w is works raised in omega (arith, counter, most);
        polls = inv.bounds.polls;
      }

  numbers_anew : Numbers t seat log_after
  numbers_anew = record {
    seats = inv.numbers.seats;
    apart = inv.numbers.apart;
    heard = All-push (λ (e : Event). is_visible e.what ≡ true → (k : ℕ) × (v : View) × (seat k ≡ Some v) × (is_among v.numbers e.seat ≡ true)) log (by 0 (seeds past_here.now))
        inv.numbers.heard (λ visible. absurd (cc));
  }

  holds_anew : Holds seat log_after inv.flow.holds
  holds_anew = record {
    own = λ k v h is. subst (λ (events : List Event). inv.flow.holds k h + losses events h ≡ gains events h) (sym (rehash_unheard log (past_here.now.seed + 1) v.numbers)) (inv.holds.own k v h is);
    none = inv.holds.none;
  }

  -- nobody has a work
  graces_anew : (n : Now) (k : ℕ) (v : View) → seat k ≡ Some v → GrowsWithFew n log_after flow v.seat
  graces_anew n k v is =
      let free : (own : Own) × (v.seat ≡ doing.Idle own) × (own.work ≡ None) × (own.grace ≡ None) = free_seat v.seat (may.seats k v is) in
      subst (GrowsWithFew n log_after flow) (sym free.1) (none_known (WorksWithFew n log_after flow) free.0.work free.2, tt)

  looks_anew : (k : ℕ) (v : View) → seat k ≡ Some v → LooksAtFew t.shape.slots flow v.seat
  looks_anew k v is =
      let free : (own : Own) × (v.seat ≡ doing.Idle own) × (own.work ≡ None) × (own.grace ≡ None) = free_seat v.seat (may.seats k v is) in
      subst (LooksAtFew t.shape.slots flow) (sym free.1) (none_known (WorkLooksAtFew t.shape.slots flow) free.0.work free.2)

  passes_anew : (n : Now) (k : ℕ) (v : View) → seat k ≡ Some v → PassesFind t n log_after flow k v.seat
  passes_anew n k v is =
      let free : (own : Own) × (v.seat ≡ doing.Idle own) × (own.work ≡ None) × (own.grace ≡ None) = free_seat v.seat (may.seats k v is) in
      subst (PassesFind t n log_after flow k) (sym free.1) (none_known (WorkFinds t n log_after flow k) free.0.work free.2, tt)

  inv_anew : Inv t m' seat log_after
  inv_anew =
      let told_is : past_of t.shape.min_level log_after ≡ after = past_of-one_more t.shape.min_level log (by 0 (seeds past_here.now)) in
      record {
        flow = flow;
        table = subst (λ (p : Past). IsTable t m' p flow) (sym told_is) table_anew;
        knows = λ k v is. subst (λ (p : Past). Knows t m' p flow k v) (sym told_is) (knows_anew k v is);
        owes = λ k. subst (λ (p : Past). IsAllOf p k (option_map (λ (u : View). u.seat) (seat k))) (sym told_is) (owes_anew k (option_map (λ (u : View). u.seat) (seat k)) (inv.owes k));
        bounds = bounds_anew;
        numbers = numbers_anew;
        holds = holds_anew;
        told = told_more t log 0 (Some (seeds past_here.now)) inv.told (may_tell t m seat log inv may);
        lawful = lawful_told t log 0 (Some (seeds past_here.now)) inv.lawful (may_tell t m seat log inv may);
        edges = unlinked_lead_told t m m' log 0 (Some (seeds past_here.now)) inv.table.tidy inv.edges
            (λ s k at is. made.stay (place.Link s) (λ linked. let both : Unlinked k at ≡ Linked linked.0 linked.1 linked.2 = sym is ∙ linked.3 in cc)) (λ s next is. absurd (cc));
        graces = λ k v is. graces_anew (past_of t.shape.min_level log_after).now k v is;
        looks = looks_anew;
        passes = λ k v is. passes_anew (past_of t.shape.min_level log_after).now k v is;
      }

-- the law
pub rehash_keeps : KeepsRehash
rehash_keeps t m m' seat log inv may made = (may_tell t m seat log inv may, inv_anew t m m' seat log inv may made)
