-- Seat 0 draws a number of the table.
use Rattle.std.proofs.Common.{◌≡◌, ℕ, ◌+◌, ◌%◌, ◌^◌, ◌<◌, ◌≤◌, nat_le, false, cond, List, [], ◌++◌, length, set, Option, Some, None, inl, inr, refl, sym, ap, subst, ◌∙◌, arith}
use Rattle.std.proofs.lemmas.Bool.{cases_eq}
use Rattle.std.proofs.lemmas.Bool.Decides.{nat_tests}
use Rattle.std.proofs.lemmas.List.{length-set}
use Rattle.table_shape.specs.declared.shape.Shape.{Shape}
use Rattle.table_shape.specs.declared.place.Place.TheVariants as place
use Rattle.table_shape.specs.Shape.{IsSound, words_of}
use Rattle.atomic_step.specs.declared.answer.Answer.TheVariants as answer
use Rattle.atomic_step.specs.declared.plan.Plan.TheVariants as plan
use Rattle.atomic_step.specs.declared.step.Step.{Step as AtomicStep}
use Rattle.atomic_step.specs.declared.step.Step.TheVariants as step
use Rattle.atomic_step.specs.Table.{word_at}
use Rattle.atomic_step.proofs.Words.{own as word_of_step}
use Rattle.call_machine.specs.declared.call.Call.{Call}
use Rattle.call_machine.specs.declared.call.Call.TheVariants as call
use Rattle.call_machine.specs.declared.draw.DrawStage.TheVariants as draw
use Rattle.call_machine.specs.declared.machine.Machine.{Machine}
use Rattle.call_machine.specs.declared.machine.Machine.TheVariants as machine
use Rattle.call_machine.specs.declared.machine.Own.{Own}
use Rattle.call_machine.specs.declared.stage.CallStage.{CallStage}
use Rattle.call_machine.specs.declared.stage.CallStage.TheVariants as stage
use Rattle.call_machine.specs.BeginCall.{begun_split}
use Rattle.call_machine.specs.Machine.{caller_of, started, plan_of, got_of}
use Rattle.cht_core.specs.declared.seat.Seat.{Seat}
use Rattle.cht_core.specs.declared.seat.Seat.TheVariants as doing
use Rattle.cht_core.specs.declared.state.Started.{Started}
use Rattle.cht_core.specs.declared.state.Stepped.{Stepped}
use Rattle.cht_core.specs.Begins.{first_own}
use Rattle.cht_core.specs.Runs.{LeadsTo, word_in}
use Rattle.cht_core.specs.State.{Core, IsCore, CanStart, StartsAs, StepsAs, seat_in, seat_after, with_seat, with_drawn, after_step}
use Rattle.cht_core.proofs.RunMoves.{run_core}
use Rattle.cht_core.proofs.StateStarts.{seat_same, seat_other}
use Rattle.schedule_sim.specs.Turns.{a_draw}

-- ONE MOVE

start_is : (c d : Core) (own : Own) (asked : Call) (o : Option Seat) (said : Started) → o ≡ Some (doing.Idle own) → CanStart c own asked → StartsAs c 0 asked o said d →
    d ≡ with_seat c 0 (seat_after (started c.table.kind c.table.shape c.seed own asked))
start_is c d own asked o said at can makes = go (subst (λ x. StartsAs c 0 asked x said d) at makes)
  where
    go : StartsAs c 0 asked (Some (doing.Idle own)) said d → d ≡ with_seat c 0 (seat_after (started c.table.kind c.table.shape c.seed own asked))
    go (inl starts) = starts.state
    go (inr refused) = absurd (refused.2 can)

pub one_step : (s x : AtomicStep) → plan.Step s ≡ plan.Step x → s ≡ x
one_step s x is = cc

step_is : (c d : Core) (k : ℕ) (m : Machine) (s : AtomicStep) (o : Option Seat) (said : Stepped) → o ≡ Some (doing.Running m) → plan_of m ≡ plan.Step s → StepsAs c k o said d →
    d ≡ after_step c k m s (word_in c s)
step_is c d k m s o said at wants makes = go (subst (λ x. StepsAs c k x said d) at makes)
  where
    go : StepsAs c k (Some (doing.Running m)) said d → d ≡ after_step c k m s (word_in c s)
    go steps = subst (λ x. d ≡ after_step c k m x (word_in c x)) (one_step steps.step s (sym steps.plan ∙ wants)) steps.state

-- ONE NUMBER

-- so many numbers are drawn, seat 0 is between its calls and has nothing unfinished, and nothing is in the log
pub record HasDrawn (n : ℕ) (c : Core) : Type 0 where
  pub core : IsCore c
  pub idle : seat_in c.seats 0 ≡ Some (doing.Idle (first_own c.table.shape 0))
  pub word : word_at c.table.shape place.Draws c.words ≡ n
  pub log : c.log ≡ []

not_le : (seats word : ℕ) → word < seats → nat_le seats word ≡ false
not_le seats word few = grind (arith, nat_tests)

one_more : (word n seats : ℕ) → word ≡ n → n < seats → seats ≤ 256 → (word + 1) % 2 ^ 64 ≡ n + 1
one_more word n seats is few most = omega arith

-- seat 0 stays between its calls as a seat is brought
first_stays : (shape : Shape) (o : Option ℕ) (seats : List (Option Seat)) → seat_in seats 0 ≡ Some (doing.Idle (first_own shape 0)) → 0 < length seats →
    seat_in (with_drawn shape o seats) 0 ≡ Some (doing.Idle (first_own shape 0))
first_stays shape None seats at some = at
first_stays shape (Some number) seats at some = elim (cases_eq 0 number) [
  | inl here ↦
      subst (λ k. seat_in (set seats k (Some (doing.Idle (first_own shape k)))) 0 ≡ Some (doing.Idle (first_own shape 0))) here (seat_same seats 0 (Some (doing.Idle (first_own shape 0))) some)
  | inr differ ↦ seat_other seats number 0 (Some (doing.Idle (first_own shape number))) differ ∙ at
]

module _ (c : Core) (n : ℕ) (has : HasDrawn n c) (sound : IsSound c.table.shape) (few : n < c.table.shape.seats) where
  abbrev first : Own
  first = first_own c.table.shape 0

  -- the call of seat 0 at a stage
  abbrev split_at : CallStage → Machine
  split_at s = machine.Call (record (begun_split (caller_of c.table.kind c.table.shape c.seed first)) { stage = s }) None None

  abbrev loads : Machine
  loads = split_at (stage.Draw draw.Load)

  abbrev adds : Machine
  adds = split_at (stage.Draw draw.Add)

  abbrev begun : Core
  begun = with_seat c 0 (doing.Running loads)

  abbrev loaded : Core
  loaded = after_step begun 0 loads step.LoadDraws (word_in begun step.LoadDraws)

  abbrev drawn : Core
  drawn = after_step loaded 0 adds step.Draw (word_in loaded step.Draw)

  seat_inside : first.number < c.table.shape.seats
  seat_inside = let some = sound.seats.0 in omega (arith, some)

  slot_inside : first.cursor < c.table.shape.slots
  slot_inside = let some = sound.slots in omega (arith, some)

  can : CanStart c first call.Split
  can = record {
    may = ((seat_inside, slot_inside, tt), tt, (refl, refl));
    log = tt;
  }

  some_seat : 0 < length c.seats
  some_seat = let all = has.core.seats in let some = sound.seats.0 in omega (arith, all, some)

  goes_on : got_of loads (word_in begun step.LoadDraws) ≡ adds
  goes_on =
      let less : word_in begun step.LoadDraws < c.table.shape.seats = let is = has.word in omega (arith, is, few) in
      ap (λ b. split_at (cond b (stage.Answered answer.SeatsSpent) (stage.Draw draw.Add))) (not_le c.table.shape.seats (word_in begun step.LoadDraws) less)

  at_load : seat_in begun.seats 0 ≡ Some (doing.Running loads)
  at_load = seat_same c.seats 0 (Some (doing.Running loads)) some_seat

  some_begun : 0 < length begun.seats
  some_begun = let same = length-set c.seats 0 (Some (doing.Running loads)) in omega (arith, some_seat, same)

  at_add : seat_in loaded.seats 0 ≡ Some (doing.Running adds)
  at_add = seat_same begun.seats 0 (Some (seat_after (got_of loads (word_in begun step.LoadDraws)))) some_begun ∙ ap (λ m. Some (seat_after m)) goes_on

  some_loaded : 0 < length loaded.seats
  some_loaded = let same = length-set begun.seats 0 (Some (seat_after (got_of loads (word_in begun step.LoadDraws)))) in omega (arith, some_begun, same)

  sized : length loaded.words ≡ words_of c.table.shape
  sized = length-set c.words _ _ ∙ has.core.sized

  finds : word_in loaded step.Draw ≡ n
  finds = word_of_step c.table.shape step.LoadDraws c.words has.core.sized tt ∙ has.word

  has_added : word_at c.table.shape place.Draws drawn.words ≡ n + 1
  has_added = word_of_step c.table.shape step.Draw loaded.words sized tt ∙ one_more (word_in loaded step.Draw) n c.table.shape.seats finds few sound.seats.1

  at_rest_again : seat_in drawn.seats 0 ≡ Some (doing.Idle first)
  at_rest_again =
      let same = length-set loaded.seats 0 (Some (doing.Idle first)) in
      first_stays c.table.shape _ (set loaded.seats 0 (Some (doing.Idle first))) (seat_same loaded.seats 0 (Some (doing.Idle first)) some_loaded) (omega (arith, some_loaded, same))

  no_event : drawn.log ≡ []
  no_event = ap (λ l. (l ++ []) ++ []) has.log

  pub drawn_is : (d : Core) → LeadsTo c a_draw d → d ≡ drawn
  drawn_is d (one, (bytes, (said, starts)), (two, (did, steps), (three, (made, adds_one), same))) =
      let is_one : one ≡ begun = start_is c one first call.Split (seat_in c.seats 0) said has.idle can starts in
      let is_two : two ≡ loaded = step_is begun two 0 loads step.LoadDraws (seat_in begun.seats 0) did at_load refl (subst (λ x. StepsAs x 0 (seat_in x.seats 0) did two) is_one steps) in
      let is_three : three ≡ drawn = step_is loaded three 0 adds step.Draw (seat_in loaded.seats 0) made at_add refl (subst (λ x. StepsAs x 0 (seat_in x.seats 0) made three) is_two adds_one) in
      sym same ∙ is_three

  pub one_drawn : (d : Core) → LeadsTo c a_draw d → (d.table ≡ c.table) × HasDrawn (n + 1) d
  one_drawn d leads =
      let is : drawn ≡ d = sym (drawn_is d leads) in (
        ap (λ (e : Core). e.table) (sym is),
        record {
          core = run_core c d a_draw has.core leads;
          idle = subst (λ (e : Core). seat_in e.seats 0 ≡ Some (doing.Idle (first_own e.table.shape 0))) is at_rest_again;
          word = subst (λ (e : Core). word_at e.table.shape place.Draws e.words ≡ n + 1) is has_added;
          log = subst (λ (e : Core). e.log ≡ []) is no_event;
        },
      )
