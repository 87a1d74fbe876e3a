-- Two seats are made one, or one hears what the other has seen; and then it knows what came since.
use Rattle.std.proofs.Common.{◌≡◌, ◌≢◌, ⊎_elim, ℕ, ◌≤◌, Bool, true, false, cond, ◌||◌, nat_eq, nat_lt, List, [], ◌∷◌, ◌++◌, length, set, Option, Some, None, inl, inr, refl, sym, ap, subst, ◌∙◌, arith}
use Rattle.std.specs.Prelude.{not}
use Rattle.std.proofs.lemmas.Bool.{cases_eq, ltb-true, ltb-false, eqb-true, ne_eqb}
use Rattle.std.proofs.lemmas.List.{append-nil, set-get_or}
use Rattle.std.proofs.lemmas.List.Elements.{All-nil, All-cons, All-head, All-tail}
use Rattle.std.proofs.lemmas.Map.Views.{any-filter_same}
use mathlib.Core.Option.{some}
use lib.ListN.{get_elem?}
use Rattle.atomic_table.specs.Table.{Me, keeps, Allows, Joins}
use Rattle.atomic_table.proofs.Lists.{at_set, set_else, set_again}
use Rattle.chain_core.specs.Path.{without}
use Rattle.intern_log.specs.Now.{with_at, now_of}
use Rattle.intern_log.specs.Own.{is_among}
use Rattle.atomic_step.specs.declared.plan.Plan.{Plan}
use Rattle.atomic_step.specs.declared.plan.Plan.TheVariants as plan
use Rattle.call_machine.specs.declared.machine.Machine.{Machine}
use Rattle.call_machine.specs.declared.machine.Own.{Own}
use Rattle.call_machine.specs.Machine.{plan_of, own_of}
use Rattle.cht_core.specs.declared.seat.Seat.{Seat}
use Rattle.cht_core.specs.declared.seat.Seat.TheVariants as doing
use Rattle.cht_core.specs.Begins as core
use Rattle.cht_core.specs.Invariant.{Inv}
use Rattle.cht_core.specs.Memory.{Memory, memory_of}
use Rattle.cht_core.specs.View.{View}
use Rattle.cht_core.specs.Windows.{IsTold}
use Rattle.cht_core.proofs.Basics.{with_here, with_other}
use Rattle.cht_core.proofs.SeatJoins.{may_join}
use Rattle.cht_core.proofs.SeatRests.{may_rest}
use Rattle.cht_run.specs.declared.sight.Earlier.{Earlier}
use Rattle.cht_run.specs.declared.sight.Entry.{Entry}
use Rattle.cht_run.specs.declared.sight.Entry.TheVariants as entry
use Rattle.cht_run.specs.declared.sight.Origin.{Origin}
use Rattle.cht_run.specs.declared.sight.Sight.{Sight}
use Rattle.cht_run.specs.Begins.{own_at, is_over, is_resting}
use Rattle.cht_run.specs.History.{log_of, by_of, is_drawn, NoneBy, draws_of, IsOrderly, IsNumbered, IsOut, AreOut, AreApart, Follows, Remembers, WasTold}
use Rattle.cht_run.specs.Rule.{view_of, is_seat, Owns, IsNew, IsPart, Fits, IsSnapshot, Kept}
use Rattle.cht_run.proofs.CoversFirst.{resting_covers}
use Rattle.cht_run.specs.Views.{spent, longer, earlier_of, hears, joined}
use Rattle.cht_run.proofs.Fronts.{was_told_front}
use Rattle.cht_run.proofs.Histories.{among_append, among_either, among_left, among_right, all_first, none_first, none_second, out_since}
use Rattle.cht_run.proofs.Steps.{Seats, part_of}
use Rattle.cht_run.proofs.Views.{nobody_fits, nobody_owns, no_snapshot}

abbrev IsNone : List ℕ → Entry → Type 0
IsNone numbers e = is_among numbers (by_of e) ≡ false

-- TWO PARTS OF ONE HISTORY

-- of two beginnings of one list
between : (a b c d : List Entry) → a ++ b ≡ c ++ d → length c ≤ length a → (middle : List Entry) × (a ≡ c ++ middle) × (d ≡ middle ++ b)
between a b [] d same less = (a, refl, sym same)
between [] b (z ∷ c) d same less = absurd (omega arith)
between (x ∷ a) b (z ∷ c) d same less =
    let rest = between a b c d (cc) (omega arith) in
    let first : x ≡ z = cc in
    (rest.0, ap (λ y. y ∷ a) first ∙ ap (λ l. z ∷ l) rest.1, rest.2)

-- the longer of two beginnings of one list goes on from both
pub record Tops (whole a b : List Entry) (ns ms : List ℕ) : Type 0 where
  pub later : List Entry
  pub splits : whole ≡ longer a b ++ later
  pub first_none : NoneBy ns later
  pub second_none : NoneBy ms later
  pub first : Follows ns a (longer a b)
  pub second : Follows ms b (longer a b)

follows_itself : (ns : List ℕ) (a : List Entry) → Follows ns a a
follows_itself ns a = record { later = []; whole = sym (append-nil a); none = All-nil (λ (e : Entry). is_among ns (by_of e) ≡ false) }

pub tops : (whole a b : List Entry) (ns ms : List ℕ) → Follows ns a whole → Follows ms b whole → Tops whole a b ns ms
tops whole a b ns ms f g = go (nat_lt (length a) (length b)) refl
  where
    go : (less : Bool) → nat_lt (length a) (length b) ≡ less → Tops whole a b ns ms
    go true is =
        let less = ltb-true (length a) (length b) is in
        let m = between b g.later a f.later (sym g.whole ∙ f.whole) (omega (arith, less)) in
        let none : NoneBy ns (m.0 ++ g.later) = subst (NoneBy ns) m.2 f.none in
        let top : longer a b ≡ b = ap (λ c. cond c b a) is in
        record {
          later = g.later;
          splits = g.whole ∙ ap (λ l. l ++ g.later) (sym top);
          first_none = none_second ns m.0 g.later none;
          second_none = g.none;
          first = subst (Follows ns a) (sym top) (record { later = m.0; whole = m.1; none = none_first ns m.0 g.later none });
          second = subst (Follows ms b) (sym top) (follows_itself ms b);
        }
    go false is =
        let most = ltb-false (length a) (length b) is in
        let m = between a f.later b g.later (sym f.whole ∙ g.whole) most in
        let none : NoneBy ms (m.0 ++ f.later) = subst (NoneBy ms) m.2 g.none in
        let top : longer a b ≡ a = ap (λ c. cond c b a) is in
        record {
          later = f.later;
          splits = f.whole ∙ ap (λ l. l ++ f.later) (sym top);
          first_none = f.none;
          second_none = none_second ms m.0 f.later none;
          first = subst (Follows ns a) (sym top) (follows_itself ns a);
          second = subst (Follows ms b) (sym top) (record { later = m.0; whole = m.1; none = none_first ms m.0 f.later none });
        }

-- what a seat knows of two that were made one
remembers_two : (v w : Sight) (history : List Entry) → Follows v.numbers v.history history → Follows w.numbers w.history history → AreApart v.numbers w.numbers →
    Remembers history (earlier_of v ∷ earlier_of w ∷ [])
remembers_two v w history first second apart =
    let Was : Earlier → Type 0 = λ e. Follows e.numbers e.history history in
    let Apart : Earlier → Type 0 = λ e. AreApart v.numbers e.numbers in
    record {
      seen = All-cons Was (earlier_of v) (earlier_of w ∷ []) first (All-cons Was (earlier_of w) [] second (All-nil Was));
      apart = (All-cons Apart (earlier_of w) [] apart (All-nil Apart), (All-nil (λ (e : Earlier). AreApart w.numbers e.numbers), tt));
    }

-- and what it is told of them
pub of_first : (v w : Sight) (history : List Entry) → Remembers history (earlier_of v ∷ earlier_of w ∷ []) → Follows v.numbers v.history history
of_first v w history r = All-head (λ (e : Earlier). Follows e.numbers e.history history) (earlier_of v) (earlier_of w ∷ []) r.seen

pub of_second : (v w : Sight) (history : List Entry) → Remembers history (earlier_of v ∷ earlier_of w ∷ []) → Follows w.numbers w.history history
of_second v w history r = let Was : Earlier → Type 0 = λ e. Follows e.numbers e.history history in All-head Was (earlier_of w) [] (All-tail Was (earlier_of v) (earlier_of w ∷ []) r.seen)

pub of_both : (v w : Sight) (history : List Entry) → Remembers history (earlier_of v ∷ earlier_of w ∷ []) → AreApart v.numbers w.numbers
of_both v w history r = All-head (λ (e : Earlier). AreApart v.numbers e.numbers) (earlier_of w) [] r.apart.0

-- THE VIEWS AFTER IT

abbrev joined_views : Seats → ℕ → Sight → ℕ → List Sight
joined_views s id both other = set (set s.views id both) other spent

module _ (o : Origin) (s : Seats) (k : Kept o s) (id : ℕ) (v : Sight) (at : get_elem? s.views id ≡ some v) (other : ℕ) (w : Sight) (both : Sight) (differ : ¬ (other ≡ id))
    (after : get_elem? (set s.views id both) other ≡ some w) where
  abbrev m : Memory
  m = memory_of o.table.shape s.words

  pub was : get_elem? s.views other ≡ some w
  was = sym (set_else s.views id other both differ) ∙ after

  -- a fact of each view after it
  each_after : (P : ℕ → Sight → Type 0) → P id both → P other spent → ((j : ℕ) (u : Sight) → j ≢ id → j ≢ other → get_elem? s.views j ≡ some u → P j u) →
      (j : ℕ) (u : Sight) → get_elem? (joined_views s id both other) j ≡ some u → P j u
  each_after P here gone there j u e = ⊎_elim
      (λ (x : (j ≡ other) × (spent ≡ u)). subst (λ n. P n u) (sym x.0) (subst (P other) x.1 gone))
      (λ (x : (j ≢ other) × (get_elem? (set s.views id both) j ≡ some u)). ⊎_elim
      (λ (y : (j ≡ id) × (both ≡ u)). subst (λ n. P n u) (sym y.0) (subst (P id) y.1 here))
      (λ (y : (j ≢ id) × (get_elem? s.views j ≡ some u)). there j u y.0 x.0 y.1)
      (at_set s.views id j both u x.1))
      (at_set (set s.views id both) other j spent u e)

  -- where the one owns what it owned, no two own one number
  apart_after : ((x : ℕ) → Owns both x → Owns v x) → (i j x : ℕ) (u y : Sight) → get_elem? (joined_views s id both other) i ≡ some u → get_elem? (joined_views s id both other) j ≡ some y →
      Owns u x → Owns y x → i ≡ j
  apart_after mine i j x u y at_i at_j own_u own_y =
      let a = owned i u at_i own_u in
      let b = owned j y at_j own_y in
      k.apart i j x a.0 b.0 a.1 b.1 a.2 b.2
    where
      owned : (n : ℕ) (z : Sight) → get_elem? (joined_views s id both other) n ≡ some z → Owns z x → (z' : Sight) × (get_elem? s.views n ≡ some z') × Owns z' x
      owned n z e = each_after (λ q r. Owns r x → (r' : Sight) × (get_elem? s.views q ≡ some r') × Owns r' x)
          (λ owns. (v, at, mine x owns)) (λ owns. absurd (nobody_owns spent.origin [] x owns)) (λ q r no_id no_other at' owns. (r, at', owns)) n z e

  spent_fits : (seat : ℕ → Option View) → Fits o m seat k.history spent
  spent_fits seat = nobody_fits o spent.origin m seat [] k.history k.history refl

-- A SEAT HEARS OF A NOTE
module _ (o : Origin) (s : Seats) (k : Kept o s) (id : ℕ) (v : Sight) (at : get_elem? s.views id ≡ some v) (other : ℕ) (w : Sight) (differ : ¬ (other ≡ id))
    (after : get_elem? (set s.views id (hears v w)) other ≡ some w) (nobody : w.numbers ≡ []) where
  abbrev mem : Memory
  mem = memory_of o.table.shape s.words

  abbrev mine : Fits o mem k.seat k.history v
  mine = k.fits id v at

  abbrev theirs : Fits o mem k.seat k.history w
  theirs = k.fits other w (was o s k id v at other w (hears v w) differ after)

  top : Tops k.history v.history w.history v.numbers w.numbers
  top = tops k.history v.history w.history v.numbers w.numbers mine.seen theirs.seen

  all_out : AreOut v.numbers v.kids (longer v.history w.history ++ top.later)
  all_out = subst (AreOut v.numbers v.kids) (sym mine.seen.whole ∙ top.splits) (out_since v.numbers v.kids v.history mine.seen.later mine.out mine.seen.none)

  fits_hearer : Fits o mem k.seat k.history (hears v w)
  fits_hearer = record {
    of = mine.of;
    seen = record { later = top.later; whole = top.splits; none = top.first_none };
    part = elim mine.part [ inl part ↦ inl (part.0, record { at = part.1.at; rests = part.1.rests; headed = part.1.headed; reads = part.1.reads; covers = part.1.covers }) | inr none ↦ inr none ];
    given = mine.given;
    out = all_first (IsOut v.numbers v.kids) (longer v.history w.history) top.later all_out;
    earlier = remembers_two v w (longer v.history w.history) top.first top.second (λ number has. ap (λ l. is_among l number) nobody);
  }

  owned_hearer : (x : ℕ) → Owns (hears v w) x → Owns v x
  owned_hearer x (inl own) = inl own
  owned_hearer x (inr given) = inr given

  heard_kept : Kept o (record { words = s.words; homes = s.homes; views = joined_views s id (hears v w) other })
  heard_kept = record {
    seat = k.seat;
    history = k.history;
    sized = k.sized;
    inv = k.inv;
    seed = k.seed;
    told = k.told;
    orderly = k.orderly;
    numbered = k.numbered;
    counted = k.counted;
    below = k.below;
    drawn = k.drawn;
    apart = apart_after o s k id v at other w (hears v w) differ after owned_hearer;
    fits = each_after o s k id v at other w (hears v w) differ after (λ n u. Fits o mem k.seat k.history u) fits_hearer
        (spent_fits o s k id v at other w (hears v w) differ after k.seat) (λ n u no_id no_other at'. k.fits n u at');
    shown = each_after o s k id v at other w (hears v w) differ after (λ n u. IsSnapshot s.words u) (k.shown id v at) (no_snapshot s.words spent refl) (λ n u no_id no_other at'. k.shown n u at');
  }

pub hearing : (o : Origin) (id : ℕ) (v : Sight) (other : ℕ) (w : Sight) → w.numbers ≡ [] → Joins (Kept o) id v other w (hears v w) spent
hearing o id v other w nobody s k at differ after = heard_kept o s k id v at other w differ after nobody

-- WHO IS OUT AFTER A JOIN

-- a number that is not taken out is still there
kid_stays : (n x : ℕ) (kids : List ℕ) → x ≢ n → is_among kids x ≡ true → is_among (without n kids) x ≡ true
kid_stays n x kids differ is = any-filter_same (nat_eq x) (λ k. not (nat_eq k n)) true (λ k same. ap not (ap (λ y. nat_eq y n) (sym (eqb-true x k same)) ∙ ne_eqb x n differ)) kids ∙ is

module _ (ns kids ms outs : List ℕ) (n : ℕ) (own : is_among ms n ≡ true) where
  -- what was out of the first one: the second one is not out any more
  first_out : (x : ℕ) → is_among (ns ++ kids) x ≡ true → is_among ((ms ++ ns) ++ (without n kids ++ outs)) x ≡ true
  first_out x is = elim (among_either (is_among ns x) (is_among kids x) (sym (among_append ns kids x) ∙ is)) [
    | inl mine ↦ among_left (ms ++ ns) (without n kids ++ outs) x (among_right ms ns x mine)
    | inr kid ↦ elim (cases_eq x n) [
      | inl same ↦ among_left (ms ++ ns) (without n kids ++ outs) x (among_left ms ns x (ap (is_among ms) same ∙ own))
      | inr differ ↦ among_right (ms ++ ns) (without n kids ++ outs) x (among_left (without n kids) outs x (kid_stays n x kids differ kid))
    ]
  ]

  second_out : (x : ℕ) → is_among (ms ++ outs) x ≡ true → is_among ((ms ++ ns) ++ (without n kids ++ outs)) x ≡ true
  second_out x is = elim (among_either (is_among ms x) (is_among outs x) (sym (among_append ms outs x) ∙ is)) [
    | inl theirs ↦ among_left (ms ++ ns) (without n kids ++ outs) x (among_left ms ns x theirs)
    | inr out ↦ among_right (ms ++ ns) (without n kids ++ outs) x (among_right (without n kids) outs x out)
  ]

  both_out : (e : Entry) → IsOut ns kids e → IsOut ms outs e → IsOut (ms ++ ns) (without n kids ++ outs) e
  both_out (entry.Told e) first second = tt
  both_out (entry.Drew by number) first second = λ is. elim (among_either (is_among ms by) (is_among ns by) (sym (among_append ms ns by) ∙ is)) [
    | inl theirs ↦ second_out number (second theirs)
    | inr mine ↦ first_out number (first mine)
  ]

  pub all_both_out : (xs : List Entry) → AreOut ns kids xs → AreOut ms outs xs → AreOut (ms ++ ns) (without n kids ++ outs) xs
  all_both_out [] first second = All-nil (IsOut (ms ++ ns) (without n kids ++ outs))
  all_both_out (e ∷ xs) first second = All-cons (IsOut (ms ++ ns) (without n kids ++ outs)) e xs
      (both_out e (All-head (IsOut ns kids) e xs first) (All-head (IsOut ms outs) e xs second))
      (all_both_out xs (All-tail (IsOut ns kids) e xs first) (All-tail (IsOut ms outs) e xs second))

-- nobody of both has made an entry that neither has made
none_of_both : (ms ns : List ℕ) (xs : List Entry) → NoneBy ms xs → NoneBy ns xs → NoneBy (ms ++ ns) xs
none_of_both ms ns [] first second = All-nil (IsNone (ms ++ ns))
none_of_both ms ns (e ∷ xs) first second = All-cons (IsNone (ms ++ ns)) e xs
    (among_append ms ns (by_of e) ∙ ap (λ b. b || is_among ns (by_of e)) (All-head (IsNone ms) e xs first) ∙ All-head (IsNone ns) e xs second)
    (none_of_both ms ns xs (All-tail (IsNone ms) e xs first) (All-tail (IsNone ns) e xs second))

-- A SEAT COMES TO REST IN THE CORE

pub record Rested (o : Origin) (m : Memory) (seat : ℕ → Option View) (history : List Entry) (w : Sight) : Type 0 where
  pub seat' : ℕ → Option View
  pub inv : Inv o.table m seat' (log_of history)
  pub own : seat' w.number ≡ Some (core.idle_view (view_of w) (own_at w.seat))
  pub other : (j : ℕ) → j ≢ w.number → seat' j ≡ seat j

pub rested : (o : Origin) (m : Memory) (seat : ℕ → Option View) (history : List Entry) (w : Sight) → Inv o.table m seat (log_of history) → seat w.number ≡ Some (view_of w) → is_resting w.seat ≡ true →
    Rested o m seat history w
rested o m seat history w inv at rests = go w.seat refl rests
  where
    plans : (mach : Machine) (next : Plan) → plan_of mach ≡ next → is_over next ≡ true → w.seat ≡ doing.Running mach → Rested o m seat history w
    plans mach (plan.Step s) is over running = absurd (cc)
    plans mach (plan.Answered a) is over running =
        let rest : View = core.idle_view (view_of w) (own_of mach) in
        let here = with_here seat w.number (Some rest) w.number refl in
        record {
          seat' = with_at seat w.number (Some rest);
          inv = may_rest o.table m seat (with_at seat w.number (Some rest)) (log_of history) w.number (view_of w) mach a inv at running is
              (record { own = here; other = λ j differ. with_other seat w.number (Some rest) j differ });
          own = here ∙ ap (λ (x : Seat). Some (core.idle_view (view_of w) (own_at x))) (sym running);
          other = λ j differ. with_other seat w.number (Some rest) j differ;
        }

    go : (x : Seat) → w.seat ≡ x → is_resting x ≡ true → Rested o m seat history w
    go (doing.Idle own) is over = record {
      seat' = seat;
      inv = inv;
      own = at ∙ ap (λ (x : Seat). Some (record (view_of w) { seat = x })) is ∙ ap (λ (x : Seat). Some (core.idle_view (view_of w) (own_at x))) (sym is);
      other = λ j differ. refl;
    }
    go (doing.Running mach) is over = plans mach (plan_of mach) refl over is

-- A SEAT IS JOINED INTO ANOTHER ONE
module _ (o : Origin) (s : Seats) (k : Kept o s) (id : ℕ) (v : Sight) (at : get_elem? s.views id ≡ some v) (other : ℕ) (w : Sight) (differ : ¬ (other ≡ id))
    (after : get_elem? (set s.views id (joined v w)) other ≡ some w) (is_v : is_seat v ≡ true) (is_w : is_seat w ≡ true) (rests_v : is_resting v.seat ≡ true) (rests : is_resting w.seat ≡ true) (no_work : (own_at w.seat).work ≡ None) where
  abbrev here : Memory
  here = memory_of o.table.shape s.words

  at_w : get_elem? s.views other ≡ some w
  at_w = was o s k id v at other w (joined v w) differ after

  abbrev first : Fits o here k.seat k.history v
  first = k.fits id v at

  abbrev second : Fits o here k.seat k.history w
  second = k.fits other w at_w

  part_v : IsPart o here k.seat k.history v
  part_v = part_of o here k.seat k.history v first is_v

  part_w : IsPart o here k.seat k.history w
  part_w = part_of o here k.seat k.history w second is_w

  numbers_differ : v.number ≢ w.number
  numbers_differ same = differ (k.apart other id v.number w v at_w at (inl (is_w, same)) (inl (is_v, refl)))

  numbers_apart : AreApart v.numbers w.numbers
  numbers_apart number has = go (is_among w.numbers number) refl
    where
      go : (b : Bool) → is_among w.numbers number ≡ b → b ≡ false
      go false is = refl
      go true is = absurd (numbers_differ (k.inv.numbers.apart v.number w.number number (view_of v) (view_of w) part_v.at part_w.at has is))

  abbrev r : Rested o here k.seat k.history w
  r = rested o here k.seat k.history w k.inv part_w.at rests

  abbrev view : View
  view = view_of (joined v w)

  abbrev seat' : ℕ → Option View
  seat' = with_at (with_at r.seat' v.number (Some view)) w.number None

  seat_v : seat' v.number ≡ Some view
  seat_v = with_other (with_at r.seat' v.number (Some view)) w.number None v.number numbers_differ ∙ with_here r.seat' v.number (Some view) v.number refl

  seat_w : seat' w.number ≡ None
  seat_w = with_here (with_at r.seat' v.number (Some view)) w.number None w.number refl

  seat_other : (j : ℕ) → j ≢ v.number → j ≢ w.number → seat' j ≡ r.seat' j
  seat_other j no_v no_w = with_other (with_at r.seat' v.number (Some view)) w.number None j no_w ∙ with_other r.seat' v.number (Some view) j no_v

  seat_else : (j : ℕ) → j ≢ v.number → j ≢ w.number → seat' j ≡ k.seat j
  seat_else j no_v no_w = seat_other j no_v no_w ∙ r.other j no_w

  joins_core : core.Joins r.seat' seat' v.number w.number (view_of v) (core.idle_view (view_of w) (own_at w.seat)) (own_at w.seat)
  joins_core = record {
    to = r.other v.number numbers_differ ∙ part_v.at;
    from = r.own;
    differ = numbers_differ;
    idle = refl;
    no_work = no_work;
    joined = seat_v;
    gone = seat_w;
    other = seat_other;
  }

  inv_joined : Inv o.table here seat' (log_of k.history)
  inv_joined = may_join o.table here r.seat' seat' (log_of k.history) v.number w.number (view_of v) (core.idle_view (view_of w) (own_at w.seat)) (own_at w.seat) r.inv joins_core

  given_still : (j : ℕ) (u : Sight) (own : Own) → j ≢ other → get_elem? s.views j ≡ some u → u.given ≡ Some own → own.number ≢ v.number → IsNew o seat' k.history u.number own
  given_still j u own no_other at' gave no_v = let new = (k.fits j u at').given own gave in record {
    own_is = new.own_is;
    differ = new.differ;
    at = seat_else own.number no_v (λ same. no_other (k.apart j other own.number u w at' at_w (inr (own, gave, refl)) (inl (is_w, same)))) ∙ new.at;
    unused = new.unused;
  }

  fits_third : (j : ℕ) (u : Sight) → j ≢ id → j ≢ other → get_elem? s.views j ≡ some u → Fits o here seat' k.history u
  fits_third j u no_id no_other at' = let f = k.fits j u at' in record {
    of = f.of;
    seen = f.seen;
    part = elim f.part [
      | inl part ↦ inl (
        part.0,
        record {
          at = seat_else u.number (λ same. no_id (k.apart j id u.number u v at' at (inl (part.0, refl)) (inl (is_v, same))))
              (λ same. no_other (k.apart j other u.number u w at' at_w (inl (part.0, refl)) (inl (is_w, same)))) ∙ part.1.at;
          rests = part.1.rests;
          headed = part.1.headed;
          reads = part.1.reads;
          covers = part.1.covers;
        },
      )
      | inr none ↦ inr none
    ];
    given = λ own gave. given_still j u own no_other at' gave (λ same. no_id (k.apart j id own.number u v at' at (inr (own, gave, refl)) (inl (is_v, same))));
    out = f.out;
    earlier = f.earlier;
  }

  ends : Tops k.history v.history w.history v.numbers w.numbers
  ends = tops k.history v.history w.history v.numbers w.numbers first.seen second.seen

  whole_out : AreOut (w.numbers ++ v.numbers) (without w.number v.kids ++ w.kids) k.history
  whole_out = all_both_out v.numbers v.kids w.numbers w.kids w.number is_w k.history
      (subst (AreOut v.numbers v.kids) (sym first.seen.whole) (out_since v.numbers v.kids v.history first.seen.later first.out first.seen.none))
      (subst (AreOut w.numbers w.kids) (sym second.seen.whole) (out_since w.numbers w.kids w.history second.seen.later second.out second.seen.none))

  still_seat : is_seat (joined v w) ≡ true
  still_seat = among_right w.numbers v.numbers v.number is_v

  fits_joined : Fits o here seat' k.history (joined v w)
  fits_joined = record {
    of = λ is. first.of is_v;
    seen = record { later = ends.later; whole = ends.splits; none = none_of_both w.numbers v.numbers ends.later ends.second_none ends.first_none };
    part = inl (
      still_seat,
      record {
        at = seat_v;
        rests = part_v.rests;
        headed = part_v.headed;
        reads = part_v.reads;
        covers = λ none_out root. resting_covers here (now_of o.table.shape.min_level (log_of k.history)) v.passed v.seat rests_v;
      },
    );
    given = λ own gave. given_still id v own (λ same. differ (sym same)) at gave (first.given own gave).differ;
    out = all_first (IsOut (w.numbers ++ v.numbers) (without w.number v.kids ++ w.kids)) (longer v.history w.history) ends.later
        (subst (AreOut (w.numbers ++ v.numbers) (without w.number v.kids ++ w.kids)) ends.splits whole_out);
    earlier = remembers_two v w (longer v.history w.history) ends.first ends.second numbers_apart;
  }

  -- each number of a seat is drawn
  drawn_joined : (j number : ℕ) (x : View) → seat' j ≡ Some x → is_among x.numbers number ≡ true → is_drawn k.history number ≡ true
  drawn_joined j number x at' has = elim (cases_eq j w.number) [
    | inl gone ↦ let never : Some x ≡ None = sym at' ∙ ap seat' gone ∙ seat_w in absurd (cc)
    | inr no_w ↦ elim (cases_eq j v.number) [
      | inl same ↦
          let one : Some view ≡ Some x = sym seat_v ∙ ap seat' (sym same) ∙ at' in
          let views : view ≡ x = cc in
          elim (among_either (is_among w.numbers number) (is_among v.numbers number) (sym (among_append w.numbers v.numbers number) ∙ ap (λ (y : View). is_among y.numbers number) views ∙ has)) [
            | inl theirs ↦ k.drawn w.number number (view_of w) part_w.at theirs
            | inr mine ↦ k.drawn v.number number (view_of v) part_v.at mine
          ]
      | inr no_v ↦ k.drawn j number x (sym (seat_else j no_v no_w) ∙ at') has
    ]
  ]

  owned_joined : (x : ℕ) → Owns (joined v w) x → Owns v x
  owned_joined x (inl own) = inl (is_v, own.1)
  owned_joined x (inr given) = inr given

  joined_kept : Kept o (record { words = s.words; homes = s.homes; views = joined_views s id (joined v w) other })
  joined_kept = record {
    seat = seat';
    history = k.history;
    sized = k.sized;
    inv = inv_joined;
    seed = k.seed;
    told = k.told;
    orderly = k.orderly;
    numbered = k.numbered;
    counted = k.counted;
    below = k.below;
    drawn = drawn_joined;
    apart = apart_after o s k id v at other w (joined v w) differ after owned_joined;
    fits = each_after o s k id v at other w (joined v w) differ after (λ n u. Fits o here seat' k.history u) fits_joined
        (spent_fits o s k id v at other w (joined v w) differ after seat') fits_third;
    shown = each_after o s k id v at other w (joined v w) differ after (λ n u. IsSnapshot s.words u) (no_snapshot s.words (joined v w) refl) (no_snapshot s.words spent refl)
        (λ n u no_id no_other at'. k.shown n u at');
  }

pub joins : (o : Origin) (id : ℕ) (v : Sight) (other : ℕ) (w : Sight) → is_seat v ≡ true → is_seat w ≡ true → is_resting v.seat ≡ true → is_resting w.seat ≡ true → (own_at w.seat).work ≡ None →
    Joins (Kept o) id v other w (joined v w) spent
joins o id v other w is_v is_w rests_v rests no_work s k at differ after = joined_kept o s k id v at other w differ after is_v is_w rests_v rests no_work

-- RECALL: a load that changes nothing, and tells what a seat knows of before its last join
pub recalls : (o : Origin) (slots id : ℕ) (me : Me (Unit {0}) Sight) → Allows (Kept o) slots id me 0 (λ n. n) (λ n after. (after ≡ me) × Remembers me.0.history me.0.earlier × (is_seat me.0 ≡ true → WasTold me.0.origin.table me.0.history))
recalls o slots id me s k homes at small = (
  me.0,
  keeps,
  tt,
  subst (λ (z : List ℕ × List Sight). Kept o (record { words = z.0; homes = s.homes; views = z.1 })) (λ i. (sym (set-get_or s.words 0 0) i, sym (set_again s.views id me.0 at) i)) k,
  (
    refl,
    (k.fits id me.0 at).earlier,
    λ is.
        let fits = k.fits id me.0 at in
        let whole = fits.seen.whole in
        subst (λ (z : Origin). WasTold z.table me.0.history) (sym (fits.of is))
        (was_told_front o.table me.0.history fits.seen.later (subst (λ (h : List Entry). IsTold o.table (log_of h)) whole k.told) (subst IsOrderly whole k.orderly) (subst (λ (h : List Entry). IsNumbered 1 (draws_of h)) whole k.numbered)),
  ),
)
