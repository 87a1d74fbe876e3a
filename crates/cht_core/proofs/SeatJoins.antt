-- A seat may be added, and an idle seat without a work may be joined into another one.
use Rattle.std.proofs.Common.{◌≡◌, ◌≢◌, true, false, ℕ, zero, suc, ◌+◌, ◌*◌, ◌/◌, ◌<◌, ◌≤◌, List, ◌++◌, Option, Some, None, inl, inr, refl, sym, ap, subst, ◌∙◌, arith}
use Rattle.std.proofs.lemmas.List.{append-nil}
use Rattle.std.specs.Option.{option_map}
use Rattle.std.proofs.lemmas.Bool.{cases_eq}
use Rattle.std.proofs.Math.Nat.{mul-le-mul_right, mul-div-le, suc-mul}
use Rattle.table_shape.specs.declared.shape.Shape.{Shape}
use Rattle.table_shape.specs.Shape.{IsSound}
use Rattle.intern_log.specs.declared.event.Event.{Event}
use Rattle.intern_log.specs.declared.event.Handle.{Handle}
use Rattle.intern_log.specs.Now.{with_at}
use Rattle.intern_log.specs.TextMap.{TextMap}
use Rattle.call_machine.specs.declared.machine.Own.{Own}
use Rattle.call_machine.specs.declared.work.Work.{Work}
use Rattle.call_machine.specs.SoundMachine.{IsSoundOwn}
use Rattle.cht_core.specs.declared.seat.Seat.{Seat}
use Rattle.cht_core.specs.declared.seat.Seat.TheVariants as doing
use Rattle.cht_core.specs.declared.table.Table.{Table}
use Rattle.cht_core.specs.Begins.{MayBeAdded, MayJoin, Joins, first_own, new_view}
use Rattle.cht_core.specs.Flow.{Flow}
use Rattle.cht_core.specs.Graces.{GrowsWithFew}
use Rattle.cht_core.specs.Passes.{PassesFind}
use Rattle.cht_core.specs.Invariant.{Inv, Numbers, Holds}
use Rattle.cht_core.specs.Ledger.{Balanced, sum_below}
use Rattle.cht_core.specs.Looks.{LooksAtFew}
use Rattle.cht_core.specs.Memory.{Memory}
use Rattle.cht_core.specs.Owes.{Owes, OwesNothing, IsAllOf}
use Rattle.cht_core.specs.Past.{Past, past_of}
use Rattle.cht_core.specs.Search.{IsOutside}
use Rattle.cht_core.specs.View.{View, IsOwnOf, KnowsOwn, Knows}
use Rattle.cht_core.proofs.Basics.{with_here, with_other}
use Rattle.cht_core.proofs.FewSeats.{seat_stays}
use Rattle.cht_core.proofs.FoundSeats.{finds_stay}
use Rattle.cht_core.proofs.FlowHolds.{with_holds, table_with_holds, knows_with_holds}
use Rattle.cht_core.proofs.Ledgers.{sum_changed}
use Rattle.cht_core.proofs.LooksStay.{same_looks}
use Rattle.cht_core.proofs.OwesRests.{owes_of_new_seat}
use Rattle.cht_core.proofs.SeatMoves.{IsFrom, stays_no_more, bounds_kept, each_seat, each_owes, owed_by}
use Rattle.cht_core.proofs.SeatsKept.{HandsOver, new_seat, joined}

-- the share of the slots at which a seat begins to look is inside the table
first_slot_small : (number seats slots : ℕ) → number < seats → 1 ≤ slots → number * (slots / seats) < slots
first_slot_small number seats slots inside some = go (slots / seats) (mul-div-le slots seats)
  where
    less : (before next whole share : ℕ) → next ≡ before + share → next ≤ whole → whole ≤ slots → 1 ≤ share → before < slots
    less before next whole share is first second positive = omega (arith, is, first, second, positive)

    go : (share : ℕ) → seats * share ≤ slots → number * share < slots
    go zero most = omega (arith, some)
    go (suc share) most =
        let upper : suc number * suc share ≤ seats * suc share = mul-le-mul_right (suc share) (omega (arith, inside)) in
        less (number * suc share) (suc number * suc share) (seats * suc share) (suc share) (suc-mul number (suc share)) upper most (omega arith)

first_own_sound : (shape : Shape) (number : ℕ) → IsSound shape → number < shape.seats → IsSoundOwn shape (first_own shape number)
first_own_sound shape number sound inside = ((inside, first_slot_small number shape.seats shape.slots inside sound.slots, tt), tt)

-- a seat whose number nobody has may be added
pub may_be_added : MayBeAdded
may_be_added t m seat seat' log i inv free inside unused moves =
    let p : Past = past_of t.shape.min_level log in
    let nothing : OwesNothing p i = subst (λ (o : Option View). IsAllOf p i (option_map (λ (x : View). x.seat) o)) free (inv.owes i) in
    let own : Own = first_own t.shape i in
    let seats : Numbers t seat' log × Holds seat' log inv.flow.holds =
    new_seat t seat seat' log inv.flow.holds i (new_view t.shape i) inv.numbers inv.holds free inside unused moves refl in
    let knows : Knows t m p inv.flow i (new_view t.shape i) = (
      record { number = refl; sound = first_own_sound t.shape i inv.table.shape inside; single = inl refl },
      (nothing.section, tt, tt),
    ) in
    let from : (k : ℕ) (u : View) → seat' k ≡ Some u → IsFrom (seat k) u.seat = each_seat seat seat' i (new_view t.shape i) moves (λ k u. IsFrom (seat k) u.seat)
    (subst (λ (o : Option View). IsFrom o (doing.Idle own)) (sym free) (own, refl, refl))
    (λ k u differ is. subst (λ (o : Option View). IsFrom o u.seat) (sym is) (stays_no_more t m seat seat' inv.bounds k u is)) in
    record {
      flow = inv.flow;
      table = inv.table;
      knows = each_seat seat seat' i (new_view t.shape i) moves (λ k u. Knows t m p inv.flow k u) knows (λ k u differ is. inv.knows k u is);
      owes = each_owes seat seat' i (new_view t.shape i) moves p inv.owes (owes_of_new_seat p i own nothing);
      bounds = bounds_kept t m seat seat' inv.bounds from;
      numbers = seats.0;
      holds = seats.1;
      told = inv.told;
      lawful = inv.lawful;
      edges = inv.edges;
      graces = each_seat seat seat' i (new_view t.shape i) moves (λ k u. GrowsWithFew p.now log inv.flow u.seat) (tt, tt) (λ k u differ is. inv.graces k u is);
      looks = each_seat seat seat' i (new_view t.shape i) moves (λ k u. LooksAtFew t.shape.slots inv.flow u.seat) tt (λ k u differ is. inv.looks k u is);
      passes = each_seat seat seat' i (new_view t.shape i) moves (λ k u. PassesFind t p.now log inv.flow k u.seat) (tt, tt) (λ k u differ is. inv.passes k u is);
    }

-- the holds with those of one seat added to another one's
abbrev pub handed_over : (ℕ → Handle → ℕ) → ℕ → ℕ → ℕ → Handle → ℕ
handed_over holds i j = with_at (with_at holds i (λ h. holds i h + holds j h)) j (λ h. 0)

module _ (holds : ℕ → Handle → ℕ) (i j : ℕ) (differ : i ≢ j) (h : Handle) where
  handed_to : handed_over holds i j i h ≡ holds i h + holds j h
  handed_to =
      ap (λ (x : Handle → ℕ). x h) (with_other (with_at holds i (λ k. holds i k + holds j k)) j (λ k. 0) i differ)
      ∙ ap (λ (x : Handle → ℕ). x h) (with_here holds i (λ k. holds i k + holds j k) i refl)

  handed_from : handed_over holds i j j h ≡ 0
  handed_from = ap (λ (x : Handle → ℕ). x h) (with_here (with_at holds i (λ k. holds i k + holds j k)) j (λ k. 0) j refl)

  given_elsewhere : (k : ℕ) → k ≢ i → with_at holds i (λ k. holds i k + holds j k) k h ≡ holds k h
  given_elsewhere k other = ap (λ (x : Handle → ℕ). x h) (with_other holds i (λ k. holds i k + holds j k) k other)

  taken_elsewhere : (k : ℕ) → k ≢ j → handed_over holds i j k h ≡ with_at holds i (λ k. holds i k + holds j k) k h
  taken_elsewhere k other = ap (λ (x : Handle → ℕ). x h) (with_other (with_at holds i (λ k. holds i k + holds j k)) j (λ k. 0) k other)

  handed_elsewhere : (k : ℕ) → k ≢ i → k ≢ j → handed_over holds i j k h ≡ holds k h
  handed_elsewhere k first second = taken_elsewhere k second ∙ given_elsewhere k first

  -- together all seats hold as much as before
  handed_sum : (seats : ℕ) → i < seats → j < seats → sum_below seats (λ k. handed_over holds i j k h) ≡ sum_below seats (λ k. holds k h)
  handed_sum seats inside also =
      let given : ℕ → ℕ = λ k. with_at holds i (λ k. holds i k + holds j k) k h in
      let first : sum_below seats given + holds i h ≡ sum_below seats (λ k. holds k h) + given i = sum_changed seats (λ k. holds k h) given i inside given_elsewhere in
      let second : sum_below seats (λ k. handed_over holds i j k h) + given j ≡ sum_below seats given + handed_over holds i j j h =
      sum_changed seats given (λ k. handed_over holds i j k h) j also taken_elsewhere in
      let to : given i ≡ holds i h + holds j h = ap (λ (x : Handle → ℕ). x h) (with_here holds i (λ k. holds i k + holds j k) i refl) in
      let from : given j ≡ holds j h = given_elsewhere j (λ same. differ (sym same)) in
      let none = handed_from in
      omega (arith, first, second, to, from, none)

handed_balanced : (seats : ℕ) (texts : TextMap) (holds : ℕ → Handle → ℕ) (i j : ℕ) → i ≢ j → i < seats → j < seats → Balanced seats texts holds →
    Balanced seats texts (handed_over holds i j)
handed_balanced seats texts holds i j differ inside also balanced = record {
  live = λ text e is below. handed_sum holds i j differ e.handle seats inside also ∙ balanced.live text e is below;
  gone = λ h dead. handed_sum holds i j differ h seats inside also ∙ balanced.gone h dead;
}

-- a seat that is given another one's holds holds no less, and neither does a third one
handed_more : (holds : ℕ → Handle → ℕ) (i j k : ℕ) → i ≢ j → k ≢ j → (h : Handle) → holds k h ≤ handed_over holds i j k h
handed_more holds i j k differ other h = elim (cases_eq k i) [
  | inl here ↦ subst (λ x. holds x h ≤ handed_over holds i j x h) (sym here) (let sum = handed_to holds i j differ h in omega (arith, sum))
  | inr third ↦ let same = handed_elsewhere holds i j differ h k third other in omega (arith, same)
]

-- a seat that is idle without a work has nothing
pub idle_owes_nothing : (p : Past) (i : ℕ) (own : Own) → own.work ≡ None → IsOutside p.now i → Owes p i (doing.Idle own) → OwesNothing p i
idle_owes_nothing p i own none outside owes =
    let had : Owes p i (doing.Idle (record own { work = None })) = subst (λ (o : Option Work). Owes p i (doing.Idle (record own { work = o }))) none owes in
    record {
      section = outside;
      claimed = λ slot is. let never : None ≡ Some slot = had.claimed slot is in absurd (cc);
      unlinked = λ slot at is. elim (had.unlinked slot at is) [ inl on ↦ absurd on | inr used ↦ used ];
      locked = λ row bucket is. let never : false ≡ true = had.locked row bucket is in absurd (cc);
      owner = λ is. absurd (let never = had.owner is in cc);
    }

module _ (t : Table) (m : Memory) (seat seat' : ℕ → Option View) (log : List Event) (i j : ℕ) (v u : View) (own : Own)
    (inv : Inv t m seat log) (joins : Joins seat seat' i j v u own) where
  abbrev past_here : Past
  past_here = past_of t.shape.min_level log

  abbrev joined_view : View
  joined_view = record v { numbers = u.numbers ++ v.numbers }

  abbrev joined_flow : Flow
  joined_flow = with_holds m past_here inv.flow (handed_over inv.flow.holds i j)

  -- each seat that is there still is the one that was given the numbers, or as it was
  each_joined : (P : ℕ → View → Type 0) → P i joined_view → ((k : ℕ) (w : View) → k ≢ i → k ≢ j → seat k ≡ Some w → P k w) → (k : ℕ) (w : View) → seat' k ≡ Some w → P k w
  each_joined P here there k w is = elim (cases_eq k i) [
    | inl same ↦
        let to : seat' i ≡ Some joined_view = joins.joined in
        let now : seat' i ≡ Some w = ap seat' (sym same) ∙ is in
        let views : joined_view ≡ w = cc in
        subst (P k) views (subst (λ x. P x joined_view) (sym same) here)
    | inr differ ↦ elim (cases_eq k j) [
      | inl gone ↦ let none : seat' j ≡ None = joins.gone in let now : seat' j ≡ Some w = ap seat' (sym gone) ∙ is in absurd (cc)
      | inr other ↦ there k w differ other (sym (joins.other k differ other) ∙ is)
    ]
  ]

  hands_over : HandsOver seat seat' inv.flow.holds (handed_over inv.flow.holds i j) i j v u joined_view
  hands_over = record {
    to = joins.to;
    from = joins.from;
    differ = joins.differ;
    own = joins.joined;
    numbers = refl;
    gone = joins.gone;
    other = joins.other;
    held = λ h. handed_to inv.flow.holds i j joins.differ h;
    none = λ h. handed_from inv.flow.holds i j joins.differ h;
    stay = λ k h first second. handed_elsewhere inv.flow.holds i j joins.differ h k first second;
  }

  knows_after : (k : ℕ) (w : View) → k ≢ j → seat k ≡ Some w → (numbers : List ℕ) → Knows t m past_here joined_flow k (record w { numbers = numbers })
  knows_after k w other is numbers =
      knows_with_holds m past_here inv.flow (handed_over inv.flow.holds i j) k (handed_more inv.flow.holds i j k joins.differ other) t w numbers (inv.knows k w is)

  from_after : (k : ℕ) (w : View) → seat k ≡ Some w → IsFrom (seat k) w.seat
  from_after k w is = subst (λ (o : Option View). IsFrom o w.seat) (sym is) (stays_no_more t m seat seat' inv.bounds k w is)

  few_after : (k : ℕ) (w : View) → seat k ≡ Some w → GrowsWithFew past_here.now log joined_flow w.seat
  few_after k w is = seat_stays past_here.now past_here.now log log refl (λ test. omega arith) inv.flow joined_flow w.seat (λ u has x not. not) (inv.graces k w is)

  looks_after : (k : ℕ) (w : View) → seat k ≡ Some w → LooksAtFew t.shape.slots joined_flow w.seat
  looks_after k w is = same_looks t.shape.slots inv.flow joined_flow (λ x. refl) (λ row bucket. refl) w.seat (inv.looks k w is)

  finds_after : (k : ℕ) (w : View) → seat k ≡ Some w → PassesFind t past_here.now log joined_flow k w.seat
  finds_after k w is = subst (λ (l : List Event). PassesFind t past_here.now l joined_flow k w.seat) (append-nil log)
      (finds_stay t m log inv.flow joined_flow k k None refl (λ row bucket used lock. refl) (inr tt) (inr tt) w (inv.knows k w is) (inv.passes k w is))

  nothing_after : OwesNothing past_here j
  nothing_after =
      let known : IsOwnOf t j own × KnowsOwn m past_here inv.flow j own =
      subst (λ (s : Seat). Knows t m past_here inv.flow j (record u { seat = s })) joins.idle (inv.knows j u joins.from) in
      idle_owes_nothing past_here j own joins.no_work known.1.0 (subst (Owes past_here j) joins.idle (owed_by t m seat log j u inv joins.from))

  owes_after : (k : ℕ) → IsAllOf past_here k (option_map (λ (x : View). x.seat) (seat' k))
  owes_after k = elim (cases_eq k i) [
    | inl here ↦ subst (λ x. IsAllOf past_here x (option_map (λ (y : View). y.seat) (seat' x))) (sym here)
        (subst (λ (o : Option View). IsAllOf past_here i (option_map (λ (y : View). y.seat) o)) (sym joins.joined) (owed_by t m seat log i v inv joins.to))
    | inr differ ↦ elim (cases_eq k j) [
      | inl gone ↦ subst (λ x. IsAllOf past_here x (option_map (λ (y : View). y.seat) (seat' x))) (sym gone)
          (subst (λ (o : Option View). IsAllOf past_here j (option_map (λ (y : View). y.seat) o)) (sym joins.gone) nothing_after)
      | inr other ↦ subst (λ (o : Option View). IsAllOf past_here k (option_map (λ (y : View). y.seat) o)) (sym (joins.other k differ other)) (inv.owes k)
    ]
  ]

  -- the invariant, with the flow in which the one seat holds for both
  inv_of_joined : Inv t m seat' log
  inv_of_joined =
      let seats : Numbers t seat' log × Holds seat' log (handed_over inv.flow.holds i j) =
      joined t seat seat' log inv.flow.holds (handed_over inv.flow.holds i j) i j v u joined_view inv.numbers inv.holds hands_over in
      let first = (inv.numbers.seats i v joins.to).0 in
      let second = (inv.numbers.seats j u joins.from).0 in
      record {
        flow = joined_flow;
        table = table_with_holds m past_here inv.flow (handed_over inv.flow.holds i j) t inv.table
            (λ counted. handed_balanced t.shape.seats past_here.now.texts inv.flow.holds i j joins.differ first second (inv.table.ledger counted));
        knows = each_joined (λ k w. Knows t m past_here joined_flow k w) (knows_after i v joins.differ joins.to (u.numbers ++ v.numbers))
            (λ k w differ other is. knows_after k w other is w.numbers);
        owes = owes_after;
        bounds = bounds_kept t m seat seat' inv.bounds
            (each_joined (λ k w. IsFrom (seat k) w.seat) (from_after i v joins.to) (λ k w differ other is. from_after k w is));
        numbers = seats.0;
        holds = seats.1;
        told = inv.told;
        lawful = inv.lawful;
        edges = inv.edges;
        graces = each_joined (λ k w. GrowsWithFew past_here.now log joined_flow w.seat) (few_after i v joins.to) (λ k w differ other is. few_after k w is);
        looks = each_joined (λ k w. LooksAtFew t.shape.slots joined_flow w.seat) (looks_after i v joins.to) (λ k w differ other is. looks_after k w is);
        passes = each_joined (λ k w. PassesFind t past_here.now log joined_flow k w.seat) (finds_after i v joins.to) (λ k w differ other is. finds_after k w is);
      }

-- an idle seat without a work may be joined into another one, which then has the numbers and the holds of both
pub may_join : MayJoin
may_join t m seat seat' log i j v u own inv joins = inv_of_joined t m seat seat' log i j v u own inv joins
