-- The words and the log stay while seats are at something else: what is left of the invariant, and what one seat is to bring with it.
use Rattle.std.proofs.Common.{◌≡◌, ◌≢◌, ℕ, zero, suc, ◌+◌, ◌*◌, ◌^◌, ◌<◌, ◌≤◌, max, List, Option, Some, None, inl, inr}
use Rattle.std.proofs.Common.{refl, sym, ap, subst, ◌∙◌, arith}
use Rattle.std.specs.Option.{option_map}
use Rattle.std.proofs.lemmas.Bool.{cases_eq}
use Rattle.std.proofs.lemmas.List.{append-nil}
use Rattle.table_shape.specs.declared.place.Place.TheVariants as place
use Rattle.intern_log.specs.declared.event.Event.{Event}
use Rattle.call_machine.specs.declared.machine.Machine.TheVariants as machine
use Rattle.call_machine.specs.declared.machine.Own.{Own}
use Rattle.call_machine.specs.declared.poll.Polling.{Polling}
use Rattle.call_machine.specs.declared.work.Work.{Work}
use Rattle.call_machine.specs.Work.{resumes}
use Rattle.cht_core.specs.declared.seat.Seat.{Seat}
use Rattle.cht_core.specs.declared.seat.Seat.TheVariants as doing
use Rattle.cht_core.specs.declared.table.Table.{Table}
use Rattle.cht_core.specs.Bounds.{Bounds, draws_in, raises_in, raised_by, work_of, of_seat, over_seats}
use Rattle.cht_core.specs.Graces.{GrowsWithFew}
use Rattle.cht_core.specs.Passes.{PassesFind}
use Rattle.cht_core.specs.Invariant.{Inv, Moves, Numbers, Holds}
use Rattle.cht_core.specs.Ledger.{sum_below}
use Rattle.cht_core.specs.Looks.{LooksAtFew}
use Rattle.cht_core.specs.Memory.{Memory}
use Rattle.cht_core.specs.Owes.{Owes, IsAllOf}
use Rattle.cht_core.specs.Past.{Past, past_of}
use Rattle.cht_core.specs.View.{View, Knows}
use Rattle.cht_core.proofs.NumbersKept.{numbers_after_step, holds_after_step}

-- a sum of values none of which is greater is no greater
pub sum_at_most : (bound : ℕ) (value other : ℕ → ℕ) → ((k : ℕ) → other k ≤ value k) → sum_below bound other ≤ sum_below bound value
sum_at_most zero value other less = omega arith
sum_at_most (suc k) value other less =
    let rest : sum_below k other ≤ sum_below k value = sum_at_most k value other less in
    let last : other k ≤ value k = less k in
    omega (arith, rest, last)

-- a poll that has not answered is not before a grace that is held back
abbrev pub IsGoodPoll : Seat → Type 0
IsGoodPoll s = (q : Polling) → s ≡ doing.Running (machine.Poll q) → q.answer ≡ None → (resumes q.work).1 ≡ None

-- what a seat is at now may draw and raise no more than what it was at before, and its work has raised the counter as far
pub record IsNoMore (before now : Seat) : Type 0 where
  pub draws : draws_in now ≤ draws_in before
  pub raises : raises_in now ≤ raises_in before
  pub works : (w : Work) → work_of now ≡ Some w → 0 < raised_by w → (was : Work) × (work_of before ≡ Some was) × (raised_by was ≡ raised_by w)
  pub polls : IsGoodPoll now

-- a seat that was not there before is between its calls, without a work
abbrev pub IsFrom : Option View → Seat → Type 0
IsFrom (Some v) s = IsNoMore v.seat s
IsFrom None s = (own : Own) × (s ≡ doing.Idle own) × (own.work ≡ None)

drawn_before : (before : Option View) (s : Seat) → IsFrom before s → draws_in s ≤ of_seat draws_in before
drawn_before (Some v) s from = from.draws
drawn_before None s from = let none : draws_in s ≡ 0 = ap draws_in from.1 in omega (arith, none)

raised_before : (before : Option View) (s : Seat) → IsFrom before s → raises_in s ≤ of_seat raises_in before
raised_before (Some v) s from = from.raises
raised_before None s from =
    let none : raises_in s ≡ 0 = subst (λ (o : Option Work). raises_in s ≡ raises_in (doing.Idle (record from.0 { work = o }))) from.2 (ap raises_in from.1) in
    omega (arith, none)

poll_before : (before : Option View) (s : Seat) → IsFrom before s → IsGoodPoll s
poll_before (Some v) s from = from.polls
poll_before None s from = λ q running unanswered. let idle : s ≡ doing.Idle from.0 = from.1 in absurd (cc)

work_before : (before : Option View) (s : Seat) (w : Work) → IsFrom before s → work_of s ≡ Some w → 0 < raised_by w →
    (v : View) × (was : Work) × (before ≡ Some v) × (work_of v.seat ≡ Some was) × (raised_by was ≡ raised_by w)
work_before (Some v) s w from is raised = let had = from.works w is raised in (v, had.0, refl, had.1, had.2)
work_before None s w from is raised =
    let none : work_of s ≡ None = ap work_of from.1 ∙ from.2 in
    absurd (cc)

module _ (t : Table) (m : Memory) (seat seat' : ℕ → Option View) (bounds : Bounds t m seat) where
  -- a seat that stays is at no more
  pub stays_no_more : (k : ℕ) (v : View) → seat k ≡ Some v → IsNoMore v.seat v.seat
  stays_no_more k v at = record {
    draws = omega arith;
    raises = omega arith;
    works = λ w is raised. (w, is, refl);
    polls = λ q running unanswered. bounds.polls k v q at running unanswered;
  }

  module _ (from : (k : ℕ) (v : View) → seat' k ≡ Some v → IsFrom (seat k) v.seat) where
    each_at_most : (value : Seat → ℕ) → ((before : Option View) (s : Seat) → IsFrom before s → value s ≤ of_seat value before) → (k : ℕ) →
        of_seat value (seat' k) ≤ of_seat value (seat k)
    each_at_most value less k = go (seat' k) refl
      where
        go : (now : Option View) → seat' k ≡ now → of_seat value now ≤ of_seat value (seat k)
        go None is = omega arith
        go (Some v) is = less (seat k) v.seat (from k v is)

    raises_at_most : over_seats t.shape.seats raises_in seat' ≤ over_seats t.shape.seats raises_in seat
    raises_at_most = sum_at_most t.shape.seats (λ k. of_seat raises_in (seat k)) (λ k. of_seat raises_in (seat' k)) (each_at_most raises_in raised_before)

    -- seats that are at no more than before keep within the bounds
    pub bounds_kept : Bounds t m seat'
    bounds_kept =
        let drawn : over_seats t.shape.seats draws_in seat' ≤ over_seats t.shape.seats draws_in seat =
        sum_at_most t.shape.seats (λ k. of_seat draws_in (seat k)) (λ k. of_seat draws_in (seat' k)) (each_at_most draws_in drawn_before) in
        let raised = raises_at_most in
        let draws = bounds.draws in
        let counter = bounds.counter in
        record {
          draws = omega (arith, drawn, draws);
          counter = omega (arith, raised, counter);
          works = λ k v w at is high.
              let had = work_before (seat k) v.seat w (from k v at) is high in
              let same : raised_by had.1 ≡ raised_by w = had.4 in
              let most : m place.Counter + 2 * over_seats t.shape.seats raises_in seat ≤ max (raised_by had.1) (2 ^ 48) + 512 =
              bounds.works k had.0 had.1 had.2 had.3 (subst (λ n. 0 < n) (sym same) high) in
              let now : m place.Counter + 2 * over_seats t.shape.seats raises_in seat ≤ max (raised_by w) (2 ^ 48) + 512 =
              subst (λ n. m place.Counter + 2 * over_seats t.shape.seats raises_in seat ≤ max n (2 ^ 48) + 512) same most in
              at_most (m place.Counter) (over_seats t.shape.seats raises_in seat') (over_seats t.shape.seats raises_in seat) (max (raised_by w) (2 ^ 48) + 512) raised now;
          polls = λ k v q at running unanswered. poll_before (seat k) v.seat (from k v at) q running unanswered;
        }
      where
        at_most : (counter less more bound : ℕ) → less ≤ more → counter + 2 * more ≤ bound → counter + 2 * less ≤ bound
        at_most counter less more bound first second = omega (arith, first, second)

-- what a seat that is there owes
pub owed_by : (t : Table) (m : Memory) (seat : ℕ → Option View) (log : List Event) (i : ℕ) (v : View) → Inv t m seat log → seat i ≡ Some v → Owes (past_of t.shape.min_level log) i v.seat
owed_by t m seat log i v inv at = subst (λ (o : Option View). IsAllOf (past_of t.shape.min_level log) i (option_map (λ (x : View). x.seat) o)) at (inv.owes i)

module _ (seat seat' : ℕ → Option View) (i : ℕ) (v' : View) (moves : Moves seat seat' i v') where
  -- what holds of the seat that moves, and of all others as they were, holds of each seat after it
  pub each_seat : (P : ℕ → View → Type 0) → P i v' → ((k : ℕ) (u : View) → k ≢ i → seat k ≡ Some u → P k u) → (k : ℕ) (u : View) → seat' k ≡ Some u → P k u
  each_seat P here there k u is = elim (cases_eq k i) [
    | inl same ↦
        let own : seat' i ≡ Some v' = moves.own in
        let now : seat' i ≡ Some u = ap seat' (sym same) ∙ is in
        let views : v' ≡ u = cc in
        subst (P k) views (subst (λ j. P j v') (sym same) here)
    | inr differ ↦ there k u differ (sym (moves.other k differ) ∙ is)
  ]

  -- the seat that moves owes no more than it is to, and all others as they did
  pub each_owes : (p : Past) → ((k : ℕ) → IsAllOf p k (option_map (λ (x : View). x.seat) (seat k))) → Owes p i v'.seat → (k : ℕ) →
      IsAllOf p k (option_map (λ (x : View). x.seat) (seat' k))
  each_owes p owes own k = elim (cases_eq k i) [
    | inl here ↦ subst (λ j. IsAllOf p j (option_map (λ (x : View). x.seat) (seat' j))) (sym here)
        (subst (λ (o : Option View). IsAllOf p i (option_map (λ (x : View). x.seat) o)) (sym moves.own) own)
    | inr differ ↦ subst (λ (o : Option View). IsAllOf p k (option_map (λ (x : View). x.seat) o)) (sym (moves.other k differ)) (owes k)
  ]

module _ (t : Table) (m : Memory) (seat seat' : ℕ → Option View) (log : List Event) (i : ℕ) (v v' : View) (inv : Inv t m seat log)
    (at : seat i ≡ Some v) (moves : Moves seat seat' i v') where
  from_before : IsNoMore v.seat v'.seat → (k : ℕ) (u : View) → seat' k ≡ Some u → IsFrom (seat k) u.seat
  from_before more = each_seat seat seat' i v' moves (λ k u. IsFrom (seat k) u.seat) (subst (λ (o : Option View). IsFrom o v'.seat) (sym at) more)
      (λ k u differ is. subst (λ (o : Option View). IsFrom o u.seat) (sym is) (stays_no_more t m seat seat' inv.bounds k u is))

  -- a seat that keeps its numbers may be at something else that it knows, where it owes and may do no more
  pub moved_inv : v'.numbers ≡ v.numbers → Knows t m (past_of t.shape.min_level log) inv.flow i v' → Owes (past_of t.shape.min_level log) i v'.seat → IsNoMore v.seat v'.seat →
      GrowsWithFew (past_of t.shape.min_level log).now log inv.flow v'.seat → LooksAtFew t.shape.slots inv.flow v'.seat → PassesFind t (past_of t.shape.min_level log).now log inv.flow i v'.seat → Inv t m seat' log
  moved_inv same knows owes more few looks finds = record {
    flow = inv.flow;
    table = inv.table;
    knows = each_seat seat seat' i v' moves (λ k u. Knows t m (past_of t.shape.min_level log) inv.flow k u) knows (λ k u differ is. inv.knows k u is);
    owes = each_owes seat seat' i v' moves (past_of t.shape.min_level log) inv.owes owes;
    bounds = bounds_kept t m seat seat' inv.bounds (from_before more);
    numbers = subst (λ l. Numbers t seat' l) (append-nil log) (numbers_after_step t seat seat' log i v v' None at same moves inv.numbers);
    holds = subst (λ l. Holds seat' l inv.flow.holds) (append-nil log)
        (holds_after_step t seat seat' log i v v' None at same moves inv.flow.holds inv.numbers inv.holds (λ h is. absurd (cc)));
    told = inv.told;
    lawful = inv.lawful;
    edges = inv.edges;
    graces = each_seat seat seat' i v' moves (λ k u. GrowsWithFew (past_of t.shape.min_level log).now log inv.flow u.seat) few (λ k u differ is. inv.graces k u is);
    looks = each_seat seat seat' i v' moves (λ k u. LooksAtFew t.shape.slots inv.flow u.seat) looks (λ k u differ is. inv.looks k u is);
    passes = each_seat seat seat' i v' moves (λ k u. PassesFind t (past_of t.shape.min_level log).now log inv.flow k u.seat) finds (λ k u differ is. inv.passes k u is);
  }
