-- The state after one step of a seat.
use Rattle.std.proofs.Common.{◌≡◌, ◌≢◌, ℕ, ◌+◌, ◌%◌, ◌<◌, ◌≤◌, ◌^◌, ◌⊎◌, Bool, true, false, cond, ◌||◌, nat_eq, nat_lt, List, [], ◌∷◌, ◌++◌, length}
use Rattle.std.proofs.Common.{get_or, set, Option, Some, None, inl, inr, refl, sym, ap, subst, ◌∙◌, arith}
use Rattle.std.proofs.lemmas.Bool.{cases_eq, ltb-true, ltb-false, ne_eqb}
use Rattle.std.proofs.lemmas.List.{get_or_read, length-set}
use Rattle.table_shape.specs.declared.place.Place.TheVariants as place
use Rattle.table_shape.specs.declared.shape.Shape.{Shape}
use Rattle.table_shape.specs.Place.{index_of}
use Rattle.table_shape.proofs.Places.{index_within}
use Rattle.intern_log.specs.declared.event.Event.{Event}
use Rattle.intern_log.specs.declared.event.What.{What}
use Rattle.intern_log.specs.Lawful.{IsLawful}
use Rattle.intern_log.specs.Now.{Now, with_at, now_of}
use Rattle.intern_log.specs.Own.{is_among}
use Rattle.intern_log.specs.Short.{IsShort}
use Rattle.atomic_step.specs.declared.access.Deed.{Deed}
use Rattle.atomic_step.specs.declared.access.Deed.TheVariants as deed
use Rattle.atomic_step.specs.declared.access.Op.{Op}
use Rattle.atomic_step.specs.declared.answer.Answer.{Answer}
use Rattle.atomic_step.specs.declared.plan.Plan.{Plan}
use Rattle.atomic_step.specs.declared.plan.Plan.TheVariants as plan
use Rattle.atomic_step.specs.declared.step.Edge.TheVariants as edge
use Rattle.atomic_step.specs.declared.step.Step.{Step}
use Rattle.atomic_step.specs.declared.step.Step.TheVariants as step
use Rattle.atomic_step.specs.Access.{word_after, index_in, deed_in}
use Rattle.atomic_step.specs.SoundStep.{IsSoundStep}
use Rattle.atomic_step.specs.Step.{access_of, op_at}
use Rattle.atomic_step.specs.Table.{word_at, words_after}
use Rattle.call_machine.specs.declared.machine.Machine.{Machine}
use Rattle.call_machine.specs.declared.caller.Caller.{Caller}
use Rattle.call_machine.specs.declared.machine.Machine.TheVariants as machine
use Rattle.call_machine.specs.Machine.{plan_of, got_of, event_of, shape_of, passed_of, IsSameMachine}
use Rattle.call_machine.specs.SoundMachine.{IsSoundMachine, FitsMachine}
use Rattle.call_machine.proofs.Machines.{step_law, same_law}
use Rattle.cht_core.specs.declared.seat.Seat.{Seat}
use Rattle.cht_core.specs.declared.seat.Seat.TheVariants as doing
use Rattle.cht_core.specs.declared.state.Stepped.{Stepped}
use Rattle.cht_core.specs.declared.table.Table.{Table}
use Rattle.cht_core.specs.Begins.{first_own}
use Rattle.cht_core.specs.Invariant.{Inv, Moves, events_of}
use Rattle.cht_core.specs.Memory.{Memory, IsMade, found, memory_of}
use Rattle.cht_core.specs.Past.{past_of, MayTell, kind_of}
use Rattle.cht_core.specs.Shows.{ShowsLog}
use Rattle.cht_core.specs.State.{Core, IsCore, IsGoing, HasResting, seat_in, view_of, views_of, seat_after, answer_by, stepped_by, stepped_as, drawn_in, with_drawn, after_step, StepsAs}
use Rattle.cht_core.specs.View.{View, IsOfSeat, load_after, passed_after, view_after, seed_in}
use Rattle.cht_core.proofs.Basics.{place_cases, with_here, with_other}
use Rattle.cht_core.proofs.CauseLogs.{told_more}
use Rattle.cht_core.proofs.PartsHold.{passed_hold}
use Rattle.cht_core.proofs.SeatJoins.{may_be_added}
use Rattle.cht_core.proofs.ShowsLog.{reached_words_show_the_log}
use Rattle.cht_core.proofs.StateRests.{rests_on, rests_after}
use Rattle.cht_core.proofs.StateStarts.{IsAfter, seat_same, seat_other, view_at, view_is, no_view, views_move, comes_to_rest, goes_after, all_are, AreDrawn, drawn_still}
use Rattle.cht_core.proofs.StateWords.{memory_at, words_made, index_in_op, deed_in_op}

-- a step of any kind by any seat whose call is running: its event may be added, and the invariant is met again; and its machine may be told the word that is found
abbrev pub StepLaw : Type 0
StepLaw = (t : Table) (m m' : Memory) (seat seat' : ℕ → Option View) (log : List Event) (i : ℕ) (v : View) (machine : Machine) (s : Step)
    → Inv t m seat log → seat i ≡ Some v → v.seat ≡ doing.Running machine → plan_of machine ≡ plan.Step s → IsMade s m m'
    → Moves seat seat' i (view_after (past_of t.shape.min_level log).now v machine s (found s m))
    → MayTell (kind_of t) (past_of t.shape.min_level log) i (event_of machine (found s m)) × Inv t m' seat' (log ++ events_of i (event_of machine (found s m)))

abbrev pub FitLaw : Type 0
FitLaw = (t : Table) (m m' : Memory) (seat : ℕ → Option View) (log : List Event) (i : ℕ) (v : View) (machine : Machine) (s : Step)
    → Inv t m seat log → seat i ≡ Some v → v.seat ≡ doing.Running machine → plan_of machine ≡ plan.Step s → IsMade s m m' → FitsMachine machine (found s m)

-- NUMBERS THAT ARE DRAWN

-- a step that is no draw draws no number, and at most loads how many are drawn
abbrev DrawsNot : Step → Type 0
DrawsNot s = ((shape : Shape) (word : ℕ) → drawn_in shape s word ≡ None) × ((access_of s).place ≡ place.Draws → (access_of s).deed ≡ deed.Load)

draws_or_not : (s : Step) → (s ≡ step.Draw) ⊎ DrawsNot s
draws_or_not step.Draw = inl refl
draws_or_not step.LoadDraws = inr (λ shape word. refl, λ is. refl)
draws_or_not (step.Unlink slot (edge.Head row bucket) next) = inr (λ shape word. refl, λ is. absurd (cc))
draws_or_not (step.Unlink slot (edge.Link from) next) = inr (λ shape word. refl, λ is. absurd (cc))
draws_or_not (step.MoveEdge (edge.Head row bucket) next) = inr (λ shape word. refl, λ is. absurd (cc))
draws_or_not (step.MoveEdge (edge.Link from) next) = inr (λ shape word. refl, λ is. absurd (cc))
draws_or_not _ = inr (λ shape word. refl, λ is. absurd (cc))

draws_same : (s : Step) (m m' : Memory) → IsMade s m m' → ((access_of s).place ≡ place.Draws → (access_of s).deed ≡ deed.Load) → m' place.Draws ≡ m place.Draws
draws_same s m m' made loads = elim (place_cases place.Draws (access_of s).place) [
  | inl same ↦ ap m' same ∙ made.here ∙ ap (λ (d : Deed). word_after d (found s m)) (loads (sym same)) ∙ ap m (sym same)
  | inr differ ↦ made.there place.Draws differ
]

-- what a view tells of its number
seen_number : (sight : ℕ × List ℕ) (k i : ℕ) (s : Option Seat) (v : View) → view_of sight k s ≡ Some v → (k ≡ i → s ≡ None) → is_among v.numbers i ≡ false
seen_number sight k i None v is none = absurd (cc)
seen_number sight k i (Some s) v is none =
    let numbers : v.numbers ≡ k ∷ [] = ap (λ (u : View). u.numbers) (let same : v ≡ view_at sight k s = cc in same) in
    let apart : nat_eq i k ≡ false = ne_eqb i k (λ same. let gone : Some s ≡ None = none (sym same) in absurd (cc)) in
    ap (λ l. is_among l i) numbers ∙ ap (λ b. b || false) apart

pub none_is : (seats : List (Option Seat)) (k : ℕ) → ¬ (seat_in seats k ≢ None) → seat_in seats k ≡ None
none_is seats k not = go (seat_in seats k) refl
  where
    go : (o : Option Seat) → seat_in seats k ≡ o → o ≡ None
    go None is = refl
    go (Some s) is = absurd (not (λ none. absurd (cc)))

-- what holds of the seats of a state
record AreSeats (t : Table) (m : Memory) (log : List Event) (seats : List (Option Seat)) (word : ℕ) : Type 0 where
  sights : ℕ → ℕ × List ℕ
  whole : length seats ≡ t.shape.seats
  inv : Inv t m (views_of sights seats) log
  going : (k : ℕ) (s : Seat) → seat_in seats k ≡ Some s → IsGoing s
  drawn : AreDrawn t.shape.seats seats word
  rests : (k : ℕ) (s : Seat) → seat_in seats k ≡ Some s → HasResting s

-- the same of seats that may have come to be more, with the sights of those that were there
record AreMore (t : Table) (m : Memory) (log : List Event) (seats new : List (Option Seat)) (sights : ℕ → ℕ × List ℕ) (word : ℕ) : Type 0 where
  are : AreSeats t m log new word
  same : (k : ℕ) (s : Seat) → seat_in seats k ≡ Some s → (are.sights k ≡ sights k) × (seat_in new k ≡ Some s)

-- a new seat comes where a number is drawn
new_comes : (t : Table) (m : Memory) (log : List Event) (seats : List (Option Seat)) (word : ℕ) (are : AreSeats t m log seats word) → word < t.shape.seats
    → AreMore t m log seats (set seats word (Some (doing.Idle (first_own t.shape word)))) are.sights (word + 1)
new_comes t m log seats word are inside =
    let below : word < length seats = let whole = are.whole in omega (arith, inside, whole) in
    let empty : seat_in seats word ≡ None = none_is seats word (λ some. let less = (are.drawn word inside).0 some in absurd (omega (arith, less))) in
    let all : AreSeats t m log (set seats word (Some (doing.Idle (first_own t.shape word)))) (word + 1) = record {
      sights = with_at are.sights word (0, []);
      whole = length-set seats word (Some (doing.Idle (first_own t.shape word))) ∙ are.whole;
      inv = may_be_added t m (views_of are.sights seats) (views_of (with_at are.sights word (0, [])) (set seats word (Some (doing.Idle (first_own t.shape word))))) log word
          are.inv (no_view are.sights seats word empty) inside
          (λ k v is. seen_number (are.sights k) k word (seat_in seats k) v is (λ same. ap (seat_in seats) same ∙ empty))
          (views_move are.sights seats word (0, []) (doing.Idle (first_own t.shape word)) below);
      going = all_are IsGoing seats word (doing.Idle (first_own t.shape word)) below are.going tt;
      drawn = λ j within. elim (cases_eq j word) [
        | inl here ↦
            let now : seat_in (set seats word (Some (doing.Idle (first_own t.shape word)))) j ≡ Some (doing.Idle (first_own t.shape word)) =
            ap (seat_in (set seats word (Some (doing.Idle (first_own t.shape word))))) here ∙ seat_same seats word (Some (doing.Idle (first_own t.shape word))) below in
            (λ some. omega (arith, here), λ less none. absurd (cc))
        | inr differ ↦
            let same = seat_other seats word j (Some (doing.Idle (first_own t.shape word))) differ in (
              λ some. let less = (are.drawn j within).0 (λ none. some (same ∙ none)) in omega (arith, less),
              λ less none. (are.drawn j within).1 (omega (arith, less, differ)) (sym same ∙ none),
            )
      ];
      rests = all_are HasResting seats word (doing.Idle (first_own t.shape word)) below are.rests tt;
    } in
    record {
      are = all;
      same = λ k s is. elim (cases_eq k word) [
        | inl here ↦ let none : seat_in seats k ≡ None = ap (seat_in seats) here ∙ empty in absurd (cc)
        | inr differ ↦ (with_other are.sights word (0, []) k differ, seat_other seats word k (Some (doing.Idle (first_own t.shape word))) differ ∙ is)
      ];
    }

-- where all numbers are drawn, one more makes no difference
none_left : (seats : List (Option Seat)) (bound word : ℕ) → bound ≤ word → AreDrawn bound seats word → AreDrawn bound seats (word + 1)
none_left seats bound word past drawn k inside =
    (λ some. omega (arith, inside, past), λ less. (drawn k inside).1 (omega (arith, inside, past)))

-- the seats after a step on the words
drawn_after : (t : Table) (s : Step) (words : List ℕ) (m' : Memory) (log : List Event) (seats : List (Option Seat)) → IsMade s (memory_of t.shape words) m'
    → word_at t.shape place.Draws words + 1 < 2 ^ 64
    → (are : AreSeats t m' log seats (word_at t.shape place.Draws words))
    → AreMore t m' log seats (with_drawn t.shape (drawn_in t.shape s (word_at t.shape (access_of s).place words)) seats) are.sights (m' place.Draws)
drawn_after t s words m' log seats made small are = elim (draws_or_not s) [
  | inl is ↦
      subst (λ (s : Step). AreMore t m' log seats (with_drawn t.shape (drawn_in t.shape s (word_at t.shape (access_of s).place words)) seats) are.sights (m' place.Draws)) (sym is)
      (draw (subst (λ (s : Step). IsMade s (memory_of t.shape words) m') is made))
  | inr not ↦
      let none = not.0 t.shape (word_at t.shape (access_of s).place words) in
      subst (λ (n : Option ℕ). AreMore t m' log seats (with_drawn t.shape n seats) are.sights (m' place.Draws)) (sym none)
      (subst (AreMore t m' log seats seats are.sights) (sym (draws_same s (memory_of t.shape words) m' made not.1)) (record { are = are; same = λ k s is. (refl, is) }))
]
  where
    by_test : (b : Bool) → nat_lt (word_at t.shape place.Draws words) t.shape.seats ≡ b → m' place.Draws ≡ (word_at t.shape place.Draws words) + 1
        → AreMore t m' log seats (with_drawn t.shape (cond b (Some (word_at t.shape place.Draws words)) None) seats) are.sights (m' place.Draws)
    by_test true is raised = subst (AreMore t m' log seats (set seats (word_at t.shape place.Draws words) (Some (doing.Idle (first_own t.shape (word_at t.shape place.Draws words))))) are.sights)
        (sym raised) (new_comes t m' log seats (word_at t.shape place.Draws words) are (ltb-true (word_at t.shape place.Draws words) t.shape.seats is))
    by_test false is raised =
        let all : AreSeats t m' log seats (word_at t.shape place.Draws words + 1) = record {
          sights = are.sights;
          whole = are.whole;
          inv = are.inv;
          going = are.going;
          drawn = none_left seats t.shape.seats (word_at t.shape place.Draws words) (ltb-false (word_at t.shape place.Draws words) t.shape.seats is) are.drawn;
          rests = are.rests;
        } in
        subst (AreMore t m' log seats seats are.sights) (sym raised) (record { are = all; same = λ k s is. (refl, is) })

    draw : IsMade step.Draw (memory_of t.shape words) m' → AreMore t m' log seats (with_drawn t.shape (drawn_in t.shape step.Draw (word_at t.shape place.Draws words)) seats) are.sights
        (m' place.Draws)
    draw made =
        let raised : m' place.Draws ≡ ((word_at t.shape place.Draws words) + 1) % 2 ^ 64 = made.here in
        by_test (nat_lt (word_at t.shape place.Draws words) t.shape.seats) refl (omega (arith, raised, small))

-- ONE STEP

-- a machine after a step has the seed that it had
same_seed : (a b : Machine) → IsSameMachine a b → seed_in b ≡ seed_in a
same_seed (machine.Call c w g) (machine.Call d v e) same = ap (λ q. q.seed) same.0
same_seed (machine.Begin b) (machine.Begin d) same = ap (λ (c : Caller). c.seed) same
same_seed (machine.Poll p) (machine.Poll d) same = ap (λ (c : Caller). c.seed) same.0
same_seed (machine.Sweep s) (machine.Sweep d) same = ap (λ q. q.caller.seed) same
same_seed _ _ same = absurd same

-- the nodes that a running call has passed
passed_few : (t : Table) (m : Memory) (seat : ℕ → Option View) (log : List Event) → Inv t m seat log → (k : ℕ) (sight : ℕ × List ℕ) (x : Machine) →
    seat k ≡ Some (view_at sight k (doing.Running x)) → passed_of x ≤ t.shape.slots
passed_few t m seat log inv k sight (machine.Call d w g) is = passed_hold t m seat log inv k (view_at sight k (doing.Running (machine.Call d w g))) d is refl
passed_few t m seat log inv k sight (machine.Begin b) is = omega arith
passed_few t m seat log inv k sight (machine.Poll p) is = omega arith
passed_few t m seat log inv k sight (machine.Sweep x) is = omega arith

module _ (law : StepLaw) (fit : FitLaw) (c : Core) (core : IsCore c) (k : ℕ) (machine : Machine) (s : Step) (at : seat_in c.seats k ≡ Some (doing.Running machine))
    (planned : plan_of machine ≡ plan.Step s) where
  abbrev m : Memory
  m = memory_of c.table.shape c.words

  abbrev m' : Memory
  m' = memory_of c.table.shape (words_after c.table.shape s c.words)

  abbrev word : ℕ
  word = word_at c.table.shape (access_of s).place c.words

  abbrev now : Now
  now = (past_of c.table.shape.min_level c.log).now

  abbrev sight : ℕ × List ℕ
  sight = (load_after s now.place (core.sights k).0, passed_after s (core.sights k).1)

  pub seen : views_of core.sights c.seats k ≡ Some (view_at (core.sights k) k (doing.Running machine))
  seen = view_is core.sights c.seats k (doing.Running machine) at

  pub known : IsOfSeat c.table now k machine
  known = (core.inv.knows k (view_at (core.sights k) k (doing.Running machine)) seen).0

  pub step_sound : IsSoundStep c.table.shape k s
  step_sound = subst (λ (shape : Shape). IsSoundStep shape k s) known.shape (subst (λ n. IsSoundStep (shape_of machine) n s) known.number (step_law machine s known.sound planned))

  pub step_index : index_of c.table.shape (access_of s).place < length c.words
  step_index = let within = index_within c.table.shape (access_of s).place step_sound.0 in let whole = core.sized in omega (arith, within, whole)

  below : k < length c.seats
  below =
      let inside : k < c.table.shape.seats = (core.inv.numbers.seats k (view_at (core.sights k) k (doing.Running machine)) seen).0 in
      let whole = core.seats in
      omega (arith, inside, whole)

  pub step_made : IsMade s m m'
  step_made = words_made c.table.shape s c.words core.sized step_sound.0

  pub found_is : found s m ≡ word
  found_is = memory_at c.table.shape c.words (access_of s).place step_sound.0

  pub step_fits : FitsMachine machine word
  step_fits = subst (FitsMachine machine) found_is (fit c.table m m' (views_of core.sights c.seats) c.log k (view_at (core.sights k) k (doing.Running machine)) machine s core.inv seen refl
      planned step_made)

  small : word_at c.table.shape place.Draws c.words + 1 < 2 ^ 64
  small =
      let few = core.inv.bounds.draws in
      let seats = core.inv.table.shape.seats.1 in
      omega (arith, few, seats)

  abbrev log' : List Event
  log' = c.log ++ events_of k (event_of machine word)

  pub kept : MayTell (kind_of c.table) (past_of c.table.shape.min_level c.log) k (event_of machine word)
      × Inv c.table m' (views_of (with_at core.sights k sight) (set c.seats k (Some (doing.Running (got_of machine word))))) log'
  kept =
      let moved : Moves (views_of core.sights c.seats) (views_of (with_at core.sights k sight) (set c.seats k (Some (doing.Running (got_of machine word))))) k
      (view_after now (view_at (core.sights k) k (doing.Running machine)) machine s (found s m)) =
      subst (λ w. Moves (views_of core.sights c.seats) (views_of (with_at core.sights k sight) (set c.seats k (Some (doing.Running (got_of machine word))))) k
      (view_at sight k (doing.Running (got_of machine w))))
      (sym found_is) (views_move core.sights c.seats k sight (doing.Running (got_of machine word)) below) in
      subst (λ w. MayTell (kind_of c.table) (past_of c.table.shape.min_level c.log) k (event_of machine w)
      × Inv c.table m' (views_of (with_at core.sights k sight) (set c.seats k (Some (doing.Running (got_of machine word))))) (c.log ++ events_of k (event_of machine w))) found_is
      (law c.table m m' (views_of core.sights c.seats) (views_of (with_at core.sights k sight) (set c.seats k (Some (doing.Running (got_of machine word))))) c.log k
      (view_at (core.sights k) k (doing.Running machine)) machine s core.inv seen refl planned step_made moved)

  abbrev pub running : Inv c.table m' (views_of (with_at core.sights k sight) (set c.seats k (Some (doing.Running (got_of machine word))))) log'
  running = kept.1

  pub moves : Moves (views_of core.sights c.seats) (views_of (with_at core.sights k sight) (set c.seats k (Some (doing.Running (got_of machine word))))) k
      (view_at sight k (doing.Running (got_of machine word)))
  moves = views_move core.sights c.seats k sight (doing.Running (got_of machine word)) below

  -- with its machine at rest
  abbrev rested : AreSeats c.table m' log' (set c.seats k (Some (seat_after (got_of machine word)))) (word_at c.table.shape place.Draws c.words)
  rested = record {
    sights = with_at core.sights k sight;
    whole = length-set c.seats k (Some (seat_after (got_of machine word))) ∙ core.seats;
    inv = comes_to_rest c.table m' log' (with_at core.sights k sight) c.seats k (got_of machine word) below running;
    going = all_are IsGoing c.seats k (seat_after (got_of machine word)) below core.going (goes_after (got_of machine word));
    drawn = drawn_still c.table.shape.seats c.seats (word_at c.table.shape place.Draws c.words) k (doing.Running machine) (seat_after (got_of machine word)) below at core.drawn;
    rests = all_are HasResting c.seats k (seat_after (got_of machine word)) below core.rests
        (rests_after (got_of machine word) (rests_on machine word (core.rests k (doing.Running machine) at)));
  }

  more : AreMore c.table m' log' (set c.seats k (Some (seat_after (got_of machine word)))) (after_step c k machine s word).seats rested.sights (m' place.Draws)
  more = drawn_after c.table s c.words m' log' (set c.seats k (Some (seat_after (got_of machine word)))) step_made small rested

  pub got_sound : IsSoundMachine (got_of machine word)
  got_sound = (running.knows k (view_at sight k (doing.Running (got_of machine word))) moves.own).0.sound

  -- it has passed no more nodes than there are slots
  pub got_passed : passed_of (got_of machine word) ≤ c.table.shape.slots
  got_passed = passed_few c.table m' (views_of (with_at core.sights k sight) (set c.seats k (Some (doing.Running (got_of machine word))))) log' running k sight (got_of machine word) moves.own

  -- the seed stays
  seed_after : c.seed ≡ (now_of c.table.shape.min_level log').seed
  seed_after =
      let of : IsOfSeat c.table (past_of c.table.shape.min_level log').now k (got_of machine word) =
      (running.knows k (view_at sight k (doing.Running (got_of machine word))) (moves.own)).0 in
      core.seed ∙ sym known.seed ∙ sym (same_seed machine (got_of machine word) (same_law machine word)) ∙ of.seed

  -- the state after the step, and what is left of the others
  pub stepped_after : IsAfter c (after_step c k machine s word) core k sight (seat_after (got_of machine word))
  stepped_after = record {
    core = record {
      sights = more.are.sights;
      sized = length-set c.words (index_of c.table.shape (access_of s).place) (word_after (access_of s).deed word) ∙ core.sized;
      seats = more.are.whole;
      seed = seed_after;
      inv = more.are.inv;
      going = more.are.going;
      drawn = more.are.drawn;
      told = told_more c.table c.log k (event_of machine word) core.told kept.0;
      rests = more.are.rests;
    };
    own =
        let now = more.same k (seat_after (got_of machine word)) (seat_same c.seats k (Some (seat_after (got_of machine word))) below) in
        (now.0 ∙ with_here core.sights k sight k refl, now.1);
    other = λ i u differ is.
        let now = more.same i u (seat_other c.seats k i (Some (seat_after (got_of machine word))) differ ∙ is) in
        (now.0 ∙ with_other core.sights k sight i differ, now.1);
  }

  pub stepped_core : IsCore (after_step c k machine s word)
  stepped_core = stepped_after.core

  -- what the step came to
  pub stepped_as_said : (said : Stepped) (new : Core) → said ≡ stepped_as (plan_of (got_of machine word)) → new ≡ after_step c k machine s word → StepsAs c k (seat_in c.seats k) said new
  stepped_as_said said new says is = subst (λ (o : Option Seat). StepsAs c k o said new) (sym at) (record { step = s; plan = planned; answer = says; state = is })

-- WHAT IS SAID OF EACH STATE

pub shows_core : (c : Core) → IsCore c → ShowsLog c.table (memory_of c.table.shape c.words) (now_of c.table.shape.min_level c.log)
shows_core c core = reached_words_show_the_log c.table (memory_of c.table.shape c.words) (views_of core.sights c.seats) c.log core.inv

pub lawful_core : (c : Core) → IsCore c → IsShort c.log → IsLawful (kind_of c.table) c.log
lawful_core c core = core.inv.lawful

-- a running call has not answered
pub running_goes : (c : Core) → IsCore c → (k : ℕ) (machine : Machine) (p : Plan) (a : Answer) → seat_in c.seats k ≡ Some (doing.Running machine) → p ≡ plan_of machine → p ≡ plan.Answered a → ⊥
running_goes c core k machine p a at is answered =
    let goes : (s : Step) × (plan_of machine ≡ plan.Step s) = core.going k (doing.Running machine) at in
    let next : plan_of machine ≡ plan.Step goes.0 = goes.1 in
    absurd (cc)

-- the step over what was read and written on the way
module _ (law : StepLaw) (fit : FitLaw) (c : Core) (core : IsCore c) (k : ℕ) (machine : Machine) (at : seat_in c.seats k ≡ Some (doing.Running machine))
    (s : Step) (planned : plan_of machine ≡ plan.Step s) (op : Op) (is_op : op ≡ op_at c.table.shape (access_of s)) (index : ℕ) (is_index : index ≡ index_in op) where
  abbrev found_word : ℕ
  found_word = word_at c.table.shape (access_of s).place c.words

  index_is : index ≡ index_of c.table.shape (access_of s).place
  index_is = is_index ∙ ap index_in is_op ∙ index_in_op (index_of c.table.shape (access_of s).place) (access_of s).deed

  pub code_index : index < length c.words
  code_index = subst (λ i. i < length c.words) (sym index_is) (step_index law fit c core k machine s at planned)

  module _ (word : ℕ) (is_word : word ≡ get_or c.words index word) where
    word_is : word ≡ found_word
    word_is = get_or_read c.words index word code_index is_word 0 ∙ ap (λ i. get_or c.words i 0) index_is

    pub code_fits : FitsMachine machine word
    code_fits = subst (FitsMachine machine) (sym word_is) (step_fits law fit c core k machine s at planned)

    module _ (after : ℕ) (event : Option What) (log : List Event) (next : Option Seat) (seats : List (Option Seat)) (is_after : after ≡ word_after (deed_in op) word)
        (is_event : event ≡ event_of machine word)
        (is_log : log ≡ c.log ++ events_of k event) (is_next : next ≡ Some (seat_after (got_of machine word)))
        (is_seats : seats ≡ with_drawn c.table.shape (drawn_in c.table.shape s word) (set c.seats k next)) where
      after_is : after ≡ word_after (access_of s).deed found_word
      after_is = is_after ∙ ap (λ (o : Op). word_after (deed_in o) word) is_op
          ∙ ap (λ (d : Deed). word_after d word) (deed_in_op (index_of c.table.shape (access_of s).place) (access_of s).deed) ∙ ap (word_after (access_of s).deed) word_is

      words_is : set c.words index after ≡ words_after c.table.shape s c.words
      words_is = ap (λ i. set c.words i after) index_is ∙ ap (set c.words (index_of c.table.shape (access_of s).place)) after_is

      next_is : next ≡ Some (seat_after (got_of machine found_word))
      next_is = is_next ∙ ap (λ w. Some (seat_after (got_of machine w))) word_is

      seats_is : seats ≡ (after_step c k machine s found_word).seats
      seats_is = is_seats ∙ ap (λ w. with_drawn c.table.shape (drawn_in c.table.shape s w) (set c.seats k next)) word_is
          ∙ ap (λ (n : Option Seat). with_drawn c.table.shape (drawn_in c.table.shape s found_word) (set c.seats k n)) next_is

      log_is : log ≡ c.log ++ events_of k (event_of machine found_word)
      log_is = is_log ∙ ap (λ (e : Option What). c.log ++ events_of k e) (is_event ∙ ap (event_of machine) word_is)

      new_is : record c { words = set c.words index after; seats = seats; log = log } ≡ after_step c k machine s found_word
      new_is = λ i. record c { words = words_is i; seats = seats_is i; log = log_is i }

      pub code_core : IsCore (record c { words = set c.words index after; seats = seats; log = log })
      code_core = subst IsCore (sym new_is) (stepped_core law fit c core k machine s at planned)

      pub code_said : (said : Stepped) (answer : Option Answer) → said ≡ stepped_by answer → answer ≡ answer_by (plan_of (got_of machine word))
          → StepsAs c k (seat_in c.seats k) said (record c { words = set c.words index after; seats = seats; log = log })
      code_said said answer says is_answer = stepped_as_said law fit c core k machine s at planned said (record c { words = set c.words index after; seats = seats; log = log })
          (says ∙ ap stepped_by (is_answer ∙ ap (λ w. answer_by (plan_of (got_of machine w))) word_is)) new_is
