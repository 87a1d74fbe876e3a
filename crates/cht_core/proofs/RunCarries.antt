-- What a call carries along a run: from its first stage to its last step, through the moves of anybody.
use Rattle.std.proofs.Common.{◌≡◌, ◌≢◌, ◌==◌, ◌⊎◌, ℕ, zero, suc, ◌+◌, ◌<◌, Bool, true, false, cond, List, [], ◌∷◌, length, set, Option, Some, None, inl, inr}
use Rattle.std.proofs.Common.{refl, sym, ap, subst, ◌∙◌, arith}
use Rattle.std.specs.List.{All}
use Rattle.std.proofs.lemmas.Bool.{cases_eq, eq-eqb, ne_eqb}
use Rattle.std.proofs.lemmas.List.Elements.{All-head, All-tail}
use Rattle.table_shape.specs.declared.shape.Shape.{Shape}
use Rattle.intern_log.specs.declared.event.Event.{Event}
use Rattle.atomic_step.specs.declared.plan.Plan.{Plan}
use Rattle.atomic_step.specs.declared.plan.Plan.TheVariants as plan
use Rattle.atomic_step.specs.declared.step.Step.{Step as AtomicStep}
use Rattle.call_machine.specs.declared.call.Call.{Call}
use Rattle.call_machine.specs.declared.machine.Machine.{Machine}
use Rattle.call_machine.specs.declared.machine.Own.{Own}
use Rattle.call_machine.specs.Machine.{started, plan_of, got_of, own_of}
use Rattle.cht_core.specs.declared.rehash.Rehashing.{Rehashing}
use Rattle.cht_core.specs.declared.rehash.Rehashing.TheVariants as rehashing
use Rattle.cht_core.specs.declared.seat.Seat.{Seat}
use Rattle.cht_core.specs.declared.seat.Seat.TheVariants as doing
use Rattle.cht_core.specs.declared.state.Started.{Started}
use Rattle.cht_core.specs.declared.state.Stepped.{Stepped}
use Rattle.cht_core.specs.Begins.{HasBytes, first_own}
use Rattle.cht_core.specs.CauseCalls.{Way}
use Rattle.cht_core.specs.Caused.{way_of}
use Rattle.cht_core.specs.Runs.{Move, Start, Step, Rehash, Makes, LeadsTo, IsNoStart, steps_of, IsUnderWay, word_in}
use Rattle.cht_core.specs.State.{Core, IsCore, seat_in, at_rest, seat_after, with_seat, with_drawn, drawn_in, after_step, StartsAs, Steps, StepsAs, RehashesAs}
use Rattle.cht_core.proofs.RunBegins.{begun_following}
use Rattle.cht_core.proofs.RunFollows.{Following, others_start, others_step, own_step}
use Rattle.cht_core.proofs.StateLaw.{any_step_keeps, any_word_fits}
use Rattle.cht_core.proofs.StateStarts.{seat_same, seat_other, idle_below}
use Rattle.cht_core.proofs.StateSteps.{stepped_after}

-- A SEAT BETWEEN ITS CALLS

abbrev pub IsBetween : ℕ → List (Option Seat) → Type 0
IsBetween k seats = (own : Own) × (seat_in seats k ≡ Some (doing.Idle own))

seat_within : (seats : List (Option Seat)) (k : ℕ) (s : Seat) → seat_in seats k ≡ Some s → k < length seats
seat_within [] k s is = absurd (cc)
seat_within (x ∷ seats) zero s is = omega arith
seat_within (x ∷ seats) (suc k) s is = let less = seat_within seats k s is in omega (arith, less)

-- it stays so where another seat is at something else, and where a new seat comes
between_set : (k j : ℕ) (seats : List (Option Seat)) (s : Option Seat) → j ≢ k → IsBetween k seats → IsBetween k (set seats j s)
between_set k j seats s differ idle = (idle.0, seat_other seats j k s (λ e. differ (sym e)) ∙ idle.1)

between_drawn : (k : ℕ) (shape : Shape) (o : Option ℕ) (seats : List (Option Seat)) → IsBetween k seats → IsBetween k (with_drawn shape o seats)
between_drawn k shape None seats idle = idle
between_drawn k shape (Some number) seats idle = elim (cases_eq number k) [
  | inl same ↦
      let below : number < length seats = let within = seat_within seats k (doing.Idle idle.0) idle.1 in omega (arith, within, same) in (
        first_own shape number,
        subst (λ j. seat_in (set seats number (Some (doing.Idle (first_own shape number)))) j ≡ Some (doing.Idle (first_own shape number))) same
            (seat_same seats number (Some (doing.Idle (first_own shape number))) below),
      )
  | inr differ ↦ between_set k number seats (Some (doing.Idle (first_own shape number))) differ idle
]

-- and by each move that starts no call of it
between_starts : (k j : ℕ) (asked : Call) (c d : Core) (o : Option Seat) (said : Started) → j ≢ k → StartsAs c j asked o said d → IsBetween k c.seats → IsBetween k d.seats
between_starts k j asked c d None said differ makes idle = subst (λ (e : Core). IsBetween k e.seats) (sym makes.1) idle
between_starts k j asked c d (Some (doing.Running m)) said differ makes idle = subst (λ (e : Core). IsBetween k e.seats) (sym makes.1) idle
between_starts k j asked c d (Some (doing.Idle own)) said differ (inl starts) idle =
    subst (λ (e : Core). IsBetween k e.seats) (sym starts.state) (between_set k j c.seats (Some (seat_after (started c.table.kind c.table.shape c.seed own asked))) differ idle)
between_starts k j asked c d (Some (doing.Idle own)) said differ (inr refused) idle = subst (λ (e : Core). IsBetween k e.seats) (sym refused.1) idle

between_steps : (k j : ℕ) (c d : Core) (o : Option Seat) (said : Stepped) → seat_in c.seats j ≡ o → StepsAs c j o said d → IsBetween k c.seats → IsBetween k d.seats
between_steps k j c d None said at makes idle = subst (λ (e : Core). IsBetween k e.seats) (sym makes.1) idle
between_steps k j c d (Some (doing.Idle own)) said at makes idle = subst (λ (e : Core). IsBetween k e.seats) (sym makes.1) idle
between_steps k j c d (Some (doing.Running m)) said at makes idle =
    let word : ℕ = word_in c makes.step in
    let differ : j ≢ k = λ same. let here : seat_in c.seats j ≡ Some (doing.Idle idle.0) = ap (seat_in c.seats) same ∙ idle.1 in absurd (cc) in
    subst (λ (e : Core). IsBetween k e.seats) (sym makes.state)
    (between_drawn k c.table.shape (drawn_in c.table.shape makes.step word) (set c.seats j (Some (seat_after (got_of m word)))) (between_set k j c.seats (Some (seat_after (got_of m word))) differ idle))

between_rehashes : (k : ℕ) (c d : Core) (said : Rehashing) → RehashesAs c said d → IsBetween k c.seats → IsBetween k d.seats
between_rehashes k c d rehashing.Done makes idle = subst (λ (e : Core). IsBetween k e.seats) (sym makes.state) idle
between_rehashes k c d rehashing.Refused makes idle = subst (λ (e : Core). IsBetween k e.seats) (sym makes.0) idle
between_rehashes k c d rehashing.OutOfMemory makes idle = subst (λ (e : Core). IsBetween k e.seats) (sym makes.0) idle

between_on : (k : ℕ) (c d : Core) (move : Move) → IsNoStart k move → Makes c move d → IsBetween k c.seats → IsBetween k d.seats
between_on k c d (Start j asked) none makes idle = between_starts k j asked c d (seat_in c.seats j) makes.1.0 none makes.1.1 idle
between_on k c d (Step j) none makes idle = between_steps k j c d (seat_in c.seats j) makes.0 refl makes.1 idle
between_on k c d Rehash none makes idle = between_rehashes k c d makes.0 makes.1 idle

-- HOW MANY STEPS A MOVE IS

abbrev step_in : ℕ → Move → ℕ
step_in k (Step j) = cond (j == k) 1 0
step_in k _ = 0

steps_more : (k : ℕ) (move : Move) (moves : List Move) → steps_of k (move ∷ moves) ≡ step_in k move + steps_of k moves
steps_more k (Start j asked) moves = omega arith
steps_more k Rehash moves = omega arith
steps_more k (Step j) moves = go (j == k)
  where
    go : (b : Bool) → cond b (steps_of k moves + 1) (steps_of k moves) ≡ cond b 1 0 + steps_of k moves
    go true = omega arith
    go false = omega arith

-- A RUNNING CALL

-- a move of others leaves it as it is
module _ (k : ℕ) (way : Way) (seen : List Event) (c d : Core) (m : Machine) (is : Following k way seen c m) where
  same_state : d ≡ c → Following k way seen d m
  same_state same = subst (λ (e : Core). Following k way seen e m) (sym same) is

  by_start : (j : ℕ) (asked : Call) (o : Option Seat) (said : Started) → j ≢ k → HasBytes asked → seat_in c.seats j ≡ o → StartsAs c j asked o said d → Following k way seen d m
  by_start j asked None said differ bytes at makes = same_state makes.1
  by_start j asked (Some (doing.Running other)) said differ bytes at makes = same_state makes.1
  by_start j asked (Some (doing.Idle own)) said differ bytes at (inl starts) =
      subst (λ (e : Core). Following k way seen e m) (sym starts.state) (others_start k way seen c m is j differ own asked at bytes starts.can)
  by_start j asked (Some (doing.Idle own)) said differ bytes at (inr refused) = same_state refused.1

  by_other : (j : ℕ) (o : Option Seat) (said : Stepped) → j ≢ k → seat_in c.seats j ≡ o → StepsAs c j o said d → Following k way seen d m
  by_other j None said differ at makes = same_state makes.1
  by_other j (Some (doing.Idle own)) said differ at makes = same_state makes.1
  by_other j (Some (doing.Running other)) said differ at makes =
      subst (λ (e : Core). Following k way seen e m) (sym makes.state) (others_step k way seen c m is j differ other makes.step at makes.plan)

  -- no table is made anew while a call runs
  by_rehash : (said : Rehashing) → RehashesAs c said d → Following k way seen d m
  by_rehash rehashing.Done makes = absurd (makes.can.seats k (doing.Running m) is.at)
  by_rehash rehashing.Refused makes = same_state makes.0
  by_rehash rehashing.OutOfMemory makes = same_state makes.0

  pub by_others : (move : Move) → IsNoStart k move → move ≢ Step k → Makes c move d → Following k way seen d m
  by_others (Start j asked) none other makes = by_start j asked (seat_in c.seats j) makes.1.0 none makes.0 refl makes.1.1
  by_others (Step j) none other makes = by_other j (seat_in c.seats j) makes.0 (λ same. other (ap Step same)) refl makes.1
  by_others Rehash none other makes = by_rehash makes.0 makes.1

module _ (k : ℕ) (way : Way) (seen : List Event) (Is : ℕ → Machine → Type 0)
    (goes : (n : ℕ) (c : Core) (m : Machine) (s : AtomicStep) → Following k way seen c m → plan_of m ≡ plan.Step s → Is n m → Is (n + 1) (got_of m (word_in c s))) where
  -- a call that is followed, with what holds of its machine after so many of its steps
  abbrev pub Carried : ℕ → Core → Type 0
  Carried n c = (m : Machine) × Following k way seen c m × Is n m

  abbrev Comes : ℕ → Core → Type 0
  Comes n c = Carried n c ⊎ IsBetween k c.seats

  by_own : (n : ℕ) (c d : Core) (said : Stepped) (is : Carried n c) → Steps c k is.0 said d → Comes (n + 1) d
  by_own n c d said is makes =
      let m : Machine = is.0 in
      let s : AtomicStep = makes.step in
      let word : ℕ = word_in c s in
      subst (Comes (n + 1)) (sym makes.state) (go (plan_of (got_of m word)) refl)
    where
      go : (p : Plan) → plan_of (got_of is.0 (word_in c makes.step)) ≡ p → Comes (n + 1) (after_step c k is.0 makes.step (word_in c makes.step))
      go (plan.Step next) on = inl (
        got_of is.0 (word_in c makes.step),
        own_step k way seen c is.0 is.1 makes.step makes.plan next on,
        goes n c is.0 makes.step is.1 makes.plan is.2,
      )
      go (plan.Answered a) on = inr (
        own_of (got_of is.0 (word_in c makes.step)),
        (stepped_after any_step_keeps any_word_fits c is.1.core k is.0 makes.step is.1.at makes.plan).own.1 ∙ ap (λ (p : Plan). Some (at_rest (got_of is.0 (word_in c makes.step)) p)) on,
      )

  by_move : (n : ℕ) (c d : Core) (move : Move) → IsNoStart k move → Makes c move d → Carried n c → Comes (n + step_in k move) d
  by_move n c d (Start j asked) none makes is =
      subst (λ x. Comes x d) (omega arith) (inl (is.0, by_start k way seen c d is.0 is.1 j asked (seat_in c.seats j) makes.1.0 none makes.0 refl makes.1.1, is.2))
  by_move n c d Rehash none makes is = subst (λ x. Comes x d) (omega arith) (inl (is.0, by_rehash k way seen c d is.0 is.1 makes.0 makes.1, is.2))
  by_move n c d (Step j) none makes is = elim (cases_eq j k) [
    | inl same ↦
        let one : (j == k) ≡ true = eq-eqb j k same in
        let at : seat_in c.seats j ≡ Some (doing.Running is.0) = ap (seat_in c.seats) same ∙ is.1.at in
        let steps : Steps c k is.0 makes.0 d = subst (λ i. Steps c i is.0 makes.0 d) same (subst (λ (o : Option Seat). StepsAs c j o makes.0 d) at makes.1) in
        subst (λ b. Comes (n + cond b 1 0) d) (sym one) (by_own n c d makes.0 is steps)
    | inr differ ↦
        let none : (j == k) ≡ false = ne_eqb j k differ in
        subst (λ b. Comes (n + cond b 1 0) d) (sym none)
        (subst (λ x. Comes x d) (omega arith) (inl (is.0, by_other k way seen c d is.0 is.1 j (seat_in c.seats j) makes.0 differ refl makes.1, is.2)))
  ]

  by_moves : (n : ℕ) (c d : Core) (moves : List Move) → All (IsNoStart k) moves → LeadsTo c moves d → Comes n c → Comes (n + steps_of k moves) d
  by_moves n c d [] none same is = subst (Comes (n + 0)) same (subst (λ x. Comes x c) (omega arith) is)
  by_moves n c d (move ∷ moves) none leads (inr idle) =
      subst (λ x. Comes (n + x) d) (sym (steps_more k move moves)) (subst (λ x. Comes x d) (omega arith)
      (by_moves (n + step_in k move) leads.0 d moves (All-tail (IsNoStart k) move moves none) leads.2 (inr (between_on k c leads.0 move (All-head (IsNoStart k) move moves none) leads.1 idle))))
  by_moves n c d (move ∷ moves) none leads (inl is) =
      subst (λ x. Comes (n + x) d) (sym (steps_more k move moves)) (subst (λ x. Comes x d) (omega arith)
      (by_moves (n + step_in k move) leads.0 d moves (All-tail (IsNoStart k) move moves none) leads.2 (by_move n c leads.0 move (All-head (IsNoStart k) move moves none) leads.1 is)))

-- what a call that is under way is known by
module _ (c d : Core) (core : IsCore c) (k : ℕ) (own : Own) (asked : Call) (moves : List Move) (m : Machine) (is : IsUnderWay c k own asked moves d m) (Is : ℕ → Machine → Type 0)
    (begins : Is 0 (started c.table.kind c.table.shape c.seed own asked))
    (goes : (n : ℕ) (b : Core) (x : Machine) (s : AtomicStep) → Following k (way_of asked) c.log b x → plan_of x ≡ plan.Step s → Is n x → Is (n + 1) (got_of x (word_in b s))) where
  abbrev first : Machine
  first = started c.table.kind c.table.shape c.seed own asked

  begun : Carried k (way_of asked) c.log Is goes 0 (with_seat c k (seat_after first)) ⊎ IsBetween k (with_seat c k (seat_after first)).seats
  begun = go (plan_of first) refl
    where
      go : (p : Plan) → plan_of first ≡ p → Carried k (way_of asked) c.log Is goes 0 (with_seat c k (seat_after first)) ⊎ IsBetween k (with_seat c k (seat_after first)).seats
      go (plan.Step s) on = inl (first, begun_following c core k own asked is.idle is.bytes is.can s on, begins)
      go (plan.Answered a) on = inr (own_of first, seat_same c.seats k (Some (seat_after first)) (idle_below c core k own is.idle) ∙ ap (λ (p : Plan). Some (at_rest first p)) on)

  pub carried : Following k (way_of asked) c.log d m × Is (steps_of k moves) m
  carried = elim (by_moves k (way_of asked) c.log Is goes 0 (with_seat c k (seat_after first)) d moves is.alone is.leads begun) [
    | inl on ↦
        let there = on.1.at in
        let here = is.running in
        let same : on.0 ≡ m = cc in
        (subst (Following k (way_of asked) c.log d) same on.1, subst (Is (steps_of k moves)) same (subst (λ n. Is n on.0) (omega arith) on.2))
    | inr idle ↦
        let there = idle.1 in
        let here = is.running in
        absurd (cc)
  ]

-- no move of others changes what it is at
pub others_leave : (c d new : Core) (k : ℕ) (own : Own) (asked : Call) (moves : List Move) (move : Move) (m : Machine) → IsCore c → IsUnderWay c k own asked moves d m → Makes d move new →
    IsNoStart k move → move ≢ Step k → seat_in new.seats k ≡ Some (doing.Running m)
others_leave c d new k own asked moves move m core is makes none other =
    let follows : Following k (way_of asked) c.log d m = (carried c d core k own asked moves m is (λ n x. Unit {0}) tt (λ n b x s is planned so. tt)).0 in
    (by_others k (way_of asked) c.log d new m follows move none other makes).at
