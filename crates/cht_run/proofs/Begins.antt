-- A seat between its calls begins one, and the rule is kept.
use Rattle.std.proofs.Common.{◌≡◌, ◌≢◌, ⊎_elim, ℕ, zero, suc, length, ◌≤◌, ◌<◌, Bool, true, false, cond, ◌&&◌, ◌||◌, List, [], ◌∷◌, ◌++◌, set, Option, Some, IfSome, inl, inr, refl, sym, ap, subst, ◌∙◌, arith}
use Rattle.std.proofs.lemmas.Bool.{cases_eq}
use Rattle.std.proofs.lemmas.List.Elements.{All-head, All-tail}
use Rattle.std.proofs.lemmas.List.Folds.{list_any-append}
use Rattle.std.proofs.lemmas.List.{append-nil}
use Rattle.std.specs.List.{list_any}
use mathlib.Core.Option.{some, some-injective, some-ne-none}
use lib.ListN.{get_elem?}
use Rattle.atomic_table.proofs.Lists.{at_set}
use Rattle.intern_log.specs.declared.event.Event.{Event}
use Rattle.intern_log.specs.declared.event.Handle.{Handle}
use Rattle.intern_log.specs.declared.event.Kind.{Kind}
use Rattle.intern_log.specs.declared.event.Kind.TheVariants.{Counted, Weak}
use Rattle.intern_log.specs.Log.{creates}
use Rattle.intern_log.specs.Now.{with_at}
use Rattle.intern_log.specs.Own.{is_among, is_visible, mine, held, total}
use Rattle.intern_log.proofs.Logs.{mine-append}
use Rattle.atomic_step.specs.declared.plan.Plan.{Plan}
use Rattle.atomic_step.specs.declared.plan.Plan.TheVariants as plan
use Rattle.call_machine.specs.declared.call.Call.{Call}
use Rattle.call_machine.specs.declared.call.Call.TheVariants as call
use Rattle.call_machine.specs.declared.machine.Machine.{Machine}
use Rattle.call_machine.specs.declared.machine.Own.{Own}
use Rattle.call_machine.specs.Machine.{caller_of, started, plan_of, own_of}
use Rattle.call_machine.specs.SoundMachine.{MayStart, IsInsideOwn}
use Rattle.cht_core.specs.declared.seat.Seat.{Seat}
use Rattle.cht_core.specs.declared.seat.Seat.TheVariants as doing
use Rattle.cht_core.specs.Begins.{MeetsLog, MayRead, IsCreated, idle_view}
use Rattle.cht_core.specs.Causes.{IsResting, now_in}
use Rattle.cht_core.specs.Invariant.{Inv}
use Rattle.cht_core.specs.Memory.{Memory, memory_of}
use Rattle.cht_core.specs.Past.{past_of}
use Rattle.cht_core.specs.State.{HasResting, at_rest}
use Rattle.cht_core.specs.View.{View, IsOwnOf, KnowsOwn}
use Rattle.cht_core.proofs.Basics.{with_here, with_other}
use Rattle.cht_core.proofs.CauseRests.{headed_begins}
use Rattle.cht_core.proofs.CauseFew.{work_has_lock}
use Rattle.call_machine.specs.declared.work.Work.{Work}
use Rattle.intern_log.specs.Now.{owner_of}
use Rattle.cht_core.proofs.SeatBegins.{may_begin}
use Rattle.cht_core.proofs.SeatRests.{may_rest}
use Rattle.cht_core.proofs.StateRests.{rests_begun, rests_after}
use Rattle.cht_run.specs.declared.sight.Entry.{Entry}
use Rattle.cht_run.specs.declared.sight.Entry.TheVariants as entry
use Rattle.cht_run.specs.declared.sight.Origin.{Origin}
use Rattle.cht_run.specs.declared.sight.Sight.{Sight}
use Rattle.cht_run.specs.Begins.{own_at, is_over, is_resting, first_of, begun, MayCall}
use Rattle.cht_run.specs.History.{log_of, by_of, NoneBy}
use Rattle.cht_run.specs.Rule.{view_of, is_seat, Owns, HeadedIn, ReadsIn, SeatCovers, IsNew, IsPart, Fits, IsSnapshot, Kept}
use Rattle.cht_run.proofs.CoversFirst.{covers_begins}
use Rattle.cht_run.proofs.ReadKept.{reads_begins}
use Rattle.cht_run.proofs.Histories.{log-append}
use Rattle.cht_run.proofs.Steps.{Seats, part_of}

-- A VIEW IS AT SOMETHING ELSE

-- the same seat, at another stage
abbrev pub at_seat : Sight → Seat → List ℕ → Sight
at_seat v x passed = record v { seat = x; passed = passed }

module _ (o : Origin) (s : Seats) (k : Kept o s) (id : ℕ) (v : Sight) (at : get_elem? s.views id ≡ some v) (is : is_seat v ≡ true) (x : Seat) (passed : List ℕ) where
  abbrev now : Sight
  now = at_seat v x passed

  abbrev mem : Memory
  mem = memory_of o.table.shape s.words

  -- the rule holds where the seat alone has moved in the core
  module _ (seat' : ℕ → Option View) (inv : Inv o.table mem seat' (log_of k.history)) (own : seat' v.number ≡ Some (view_of now)) (other : (j : ℕ) → j ≢ v.number → seat' j ≡ k.seat j)
      (rests : HasResting x) (headed : HeadedIn o mem v.number v.load (log_of k.history) x) (reads : ReadsIn o mem (log_of k.history) x)
      (covers : SeatCovers mem (now_in o.table (log_of k.history)) passed x) where
    placed : k.seat v.number ≡ Some (view_of v)
    placed = (part_of o mem k.seat k.history v (k.fits id v at) is).at

    given_still : (j : ℕ) (u : Sight) (given : Own) → get_elem? s.views j ≡ some u → u.given ≡ Some given → IsNew o seat' k.history u.number given
    given_still j u given at' gave =
        let was = (k.fits j u at').given given gave in
        let apart : given.number ≢ v.number = elim (cases_eq j id) [
          | inl same ↦
              let one : u ≡ v = some-injective u v (sym at' ∙ ap (get_elem? s.views) same ∙ at) in
              subst (λ n. given.number ≢ n) (ap (λ (y : Sight). y.number) one) was.differ
          | inr differ ↦ λ same. differ (k.apart j id v.number u v at' at (inr (given, gave, sym same)) (inl (is, refl)))
        ] in
        record { own_is = was.own_is; differ = was.differ; at = other given.number apart ∙ was.at; unused = was.unused }

    fits_other : (j : ℕ) (u : Sight) → j ≢ id → get_elem? s.views j ≡ some u → Fits o mem seat' k.history u
    fits_other j u differ at' = let f = k.fits j u at' in record {
      of = f.of;
      seen = f.seen;
      part = elim f.part [
        | inl of ↦ inl (
          of.0,
          record {
            at = other u.number (λ same. differ (k.apart j id v.number u v at' at (inl (of.0, sym same)) (inl (is, refl)))) ∙ of.1.at;
            rests = of.1.rests;
            headed = of.1.headed;
            reads = of.1.reads;
            covers = of.1.covers;
          },
        )
        | inr none ↦ inr none
      ];
      given = λ given gave. given_still j u given at' gave;
      out = f.out;
      earlier = f.earlier;
    }

    fits_mine : Fits o mem seat' k.history now
    fits_mine = let f = k.fits id v at in record {
      of = f.of;
      seen = f.seen;
      part = inl (is, record { at = own; rests = rests; headed = headed; reads = reads; covers = λ none_out root. covers });
      given = λ given gave. given_still id v given at gave;
      out = f.out;
      earlier = f.earlier;
    }

    abbrev moved : Seats
    moved = record { words = s.words; homes = s.homes; views = set s.views id now }

    fits_all : (j : ℕ) (u : Sight) → get_elem? moved.views j ≡ some u → Fits o mem seat' k.history u
    fits_all j u e = ⊎_elim (λ (y : (j ≡ id) × (now ≡ u)). subst (Fits o mem seat' k.history) y.1 fits_mine) (λ (y : (j ≢ id) × (get_elem? s.views j ≡ some u)). fits_other j u y.0 y.1) (at_set s.views id j now u e)

    -- what a view owns it owned before
    owned : (j : ℕ) (u : Sight) (n : ℕ) → get_elem? moved.views j ≡ some u → Owns u n → (w : Sight) × (get_elem? s.views j ≡ some w) × Owns w n
    owned j u n e owns = ⊎_elim (λ (y : (j ≡ id) × (now ≡ u)). (v, ap (get_elem? s.views) y.0 ∙ at, subst (λ z. Owns z n) (sym y.1) owns)) (λ (y : (j ≢ id) × (get_elem? s.views j ≡ some u)). (u, y.1, owns)) (at_set s.views id j now u e)

    drawn_all : (j number : ℕ) (u : View) → seat' j ≡ Some u → is_among u.numbers number ≡ true → Rattle.cht_run.specs.History.is_drawn k.history number ≡ true
    drawn_all j number u at' has = elim (cases_eq j v.number) [
      | inl same ↦
          let one : Some (view_of now) ≡ Some u = sym own ∙ ap seat' (sym same) ∙ at' in
          let view : view_of now ≡ u = cc in
          k.drawn v.number number (view_of v) placed (ap (λ (y : View). is_among y.numbers number) view ∙ has)
      | inr differ ↦ k.drawn j number u (sym (other j differ) ∙ at') has
    ]

    pub reseated : Kept o moved
    reseated = record {
      seat = seat';
      history = k.history;
      sized = k.sized;
      inv = inv;
      seed = k.seed;
      told = k.told;
      orderly = k.orderly;
      numbered = k.numbered;
      counted = k.counted;
      below = k.below;
      drawn = drawn_all;
      apart = λ i j n u w at_i at_j own_u own_w. let a = owned i u n at_i own_u in let b = owned j w n at_j own_w in k.apart i j n a.0 b.0 a.1 b.1 a.2 b.2;
      fits = fits_all;
      shown = λ j u e. ⊎_elim
          (λ (y : (j ≡ id) × (now ≡ u)). subst (IsSnapshot s.words) y.1 (k.shown id v at))
          (λ (y : (j ≢ id) × (get_elem? s.views j ≡ some u)). k.shown j u y.1)
          (at_set s.views id j now u e);
    }

-- WHAT A SEAT HAS SEEN OF ITS OWN

abbrev IsNone : List ℕ → Entry → Type 0
IsNone numbers e = is_among numbers (by_of e) ≡ false

and_false : (b : Bool) → (b && false) ≡ false
and_false true = refl
and_false false = refl

-- nothing that came since is by the seat
mine_none : (numbers : List ℕ) (later : List Entry) → NoneBy numbers later → mine (log_of later) numbers ≡ []
mine_none numbers [] none = refl
mine_none numbers (entry.Told e ∷ later) none =
    let out : is_among numbers e.seat ≡ false = All-head (IsNone numbers) (entry.Told e) later none in
    let rest = mine_none numbers later (All-tail (IsNone numbers) (entry.Told e) later none) in
    ap (λ b. cond b (e ∷ mine (log_of later) numbers) (mine (log_of later) numbers)) (ap (λ b. is_visible e.what && b) out ∙ and_false (is_visible e.what)) ∙ rest
mine_none numbers (entry.Drew by number ∷ later) none = mine_none numbers later (All-tail (IsNone numbers) (entry.Drew by number) later none)

pub mine_still : (numbers : List ℕ) (history later : List Entry) → NoneBy numbers later → mine (log_of (history ++ later)) numbers ≡ mine (log_of history) numbers
mine_still numbers history later none =
    ap (λ l. mine l numbers) (log-append history later) ∙ mine-append (log_of history) (log_of later) numbers ∙ ap (λ l. mine (log_of history) numbers ++ l) (mine_none numbers later none) ∙ append-nil (mine (log_of history) numbers)

-- so it holds what it held
pub held_still : (numbers : List ℕ) (history later : List Entry) (h : Handle) → NoneBy numbers later → held (log_of (history ++ later)) numbers h ≡ held (log_of history) numbers h
held_still numbers history later h none =
    ap (λ l. held l numbers h) (log-append history later)
    ∙ ap (λ l. total l h) (mine-append (log_of history) (log_of later) numbers ∙ ap (λ l. mine (log_of history) numbers ++ l) (mine_none numbers later none) ∙ append-nil (mine (log_of history) numbers))

-- and what was created stays created
created_still : (history later : List Entry) (h : Handle) → IsCreated (log_of history) h → IsCreated (log_of (history ++ later)) h
created_still history later h is =
    ap (list_any (λ (e : Event). creates e.what h)) (log-append history later) ∙ list_any-append (λ (e : Event). creates e.what h) (log_of history) (log_of later)
    ∙ ap (λ b. b || list_any (λ (e : Event). creates e.what h) (log_of later)) is

read_still : (kind : Kind) (numbers : List ℕ) (history later : List Entry) (h : Handle) → NoneBy numbers later → MayRead kind (log_of history) numbers h → MayRead kind (log_of (history ++ later)) numbers h
read_still Counted numbers history later h none may = subst (λ n. 1 ≤ n) (sym (held_still numbers history later h none)) may
read_still Weak numbers history later h none may = created_still history later h may

-- the condition of a call by what its seat has seen is one by all that there is
pub meets_still : (kind : Kind) (numbers : List ℕ) (history later : List Entry) (c : Call) → NoneBy numbers later → MeetsLog kind (log_of history) numbers c → MeetsLog kind (log_of (history ++ later)) numbers c
meets_still kind numbers history later (call.Drop h) none meets = subst (λ n. 1 ≤ n) (sym (held_still numbers history later h none)) meets
meets_still kind numbers history later (call.Permanent h) none meets = subst (λ n. 1 ≤ n) (sym (held_still numbers history later h none)) meets
meets_still kind numbers history later (call.Kill h) none meets = created_still history later h meets
meets_still kind numbers history later (call.TextOf h) none meets = read_still kind numbers history later h none meets
meets_still kind numbers history later _ none meets = tt

-- A CALL BEGINS

module _ (o : Origin) (s : Seats) (k : Kept o s) (id : ℕ) (v : Sight) (at : get_elem? s.views id ≡ some v) (is : is_seat v ≡ true) where
  abbrev m : Memory
  m = memory_of o.table.shape s.words

  part : IsPart o m k.seat k.history v
  part = part_of o m k.seat k.history v (k.fits id v at) is

  -- the core lets the seat rest
  record IsIdle (own : Own) : Type 0 where
    seat : ℕ → Option View
    inv : Inv o.table m seat (log_of k.history)
    at_rest : seat v.number ≡ Some (idle_view (view_of v) own)
    other : (j : ℕ) → j ≢ v.number → seat j ≡ k.seat j
    work : IfSome own.work IsResting

  comes_to_rest : is_resting v.seat ≡ true → IsIdle (own_at v.seat)
  comes_to_rest rests = go v.seat refl rests
    where
      idle : (x : Seat) (own : Own) → v.seat ≡ x → x ≡ doing.Idle own → IsIdle own
      idle x own is_x is_idle =
          let same : v.seat ≡ doing.Idle own = is_x ∙ is_idle in
          record {
            seat = k.seat;
            inv = k.inv;
            at_rest = part.at ∙ ap (λ (y : Seat). Some (record (view_of v) { seat = y })) same;
            other = λ j differ. refl;
            work = subst HasResting same part.rests;
          }

      over : (x : Machine) (p : Plan) → v.seat ≡ doing.Running x → plan_of x ≡ p → is_over p ≡ true → IsIdle (own_of x)
      over x (plan.Step s) is_x is_p answered = absurd (cc)
      over x (plan.Answered a) is_x is_p answered = record {
        seat = with_at k.seat v.number (Some (idle_view (view_of v) (own_of x)));
        inv = may_rest o.table m k.seat (with_at k.seat v.number (Some (idle_view (view_of v) (own_of x)))) (log_of k.history) v.number (view_of v) x a k.inv part.at is_x is_p
            (record { own = with_here k.seat v.number (Some (idle_view (view_of v) (own_of x))) v.number refl; other = λ j differ. with_other k.seat v.number (Some (idle_view (view_of v) (own_of x))) j differ });
        at_rest = with_here k.seat v.number (Some (idle_view (view_of v) (own_of x))) v.number refl;
        other = λ j differ. with_other k.seat v.number (Some (idle_view (view_of v) (own_of x))) j differ;
        work = subst (λ p. HasResting (at_rest x p)) is_p (rests_after x (subst HasResting is_x part.rests));
      }

      go : (x : Seat) → v.seat ≡ x → is_resting x ≡ true → IsIdle (own_at x)
      go (doing.Idle own) is_x rests = idle (doing.Idle own) own is_x refl
      go (doing.Running x) is_x rests = over x (plan_of x) is_x refl rests

  -- and then begin its call
  pub begins : (c : Call) → MayCall v c → Kept o (record { words = s.words; homes = s.homes; views = set s.views id (begun v c) })
  begins c may =
      let idle = comes_to_rest may.rests in
      let f = k.fits id v at in
      let own : Own = own_at v.seat in
      let now : View = view_of (begun v c) in
      let seat' = with_at idle.seat v.number (Some now) in
      let known : IsOwnOf o.table v.number own × KnowsOwn m (past_of o.table.shape.min_level (log_of k.history)) idle.inv.flow v.number own = idle.inv.knows v.number (idle_view (view_of v) own) idle.at_rest in
      let first : first_of v c ≡ started o.table.kind o.table.shape (now_in o.table (log_of k.history)).seed own c = ap (λ (z : Origin). started z.table.kind z.table.shape z.seed own c) (f.of is) ∙ ap (λ n. started o.table.kind o.table.shape n own c) (sym k.seed) in
      let may_start : MayStart o.table.kind o.table.shape own c = subst (λ (z : Origin). MayStart z.table.kind z.table.shape own c) (f.of is) (subst (λ (z : Origin). IsInsideOwn z.table.shape own) (sym (f.of is)) known.0.sound.0, may.handle, may.allowed) in
      let meets : MeetsLog o.table.kind (log_of k.history) v.numbers c = subst (λ h. MeetsLog o.table.kind (log_of h) v.numbers c) (sym f.seen.whole)
      (meets_still o.table.kind v.numbers v.history f.seen.later c f.seen.none (subst (λ (z : Origin). MeetsLog z.table.kind (log_of v.history) v.numbers c) (f.of is) may.log)) in
      let inv : Inv o.table m seat' (log_of k.history) = may_begin o.table m idle.seat seat' (log_of k.history) v.number (idle_view (view_of v) own) own c idle.inv idle.at_rest refl may_start may.bytes meets
      (record {
        own = with_here idle.seat v.number (Some now) v.number refl ∙ ap (λ (x : Machine). Some (record (view_of v) { seat = doing.Running x; passed = [] })) first;
        other = λ j differ. with_other idle.seat v.number (Some now) j differ;
      }) in
      reseated o s k id v at is (doing.Running (first_of v c)) [] seat' inv (with_here idle.seat v.number (Some now) v.number refl)
      (λ j differ. with_other idle.seat v.number (Some now) j differ ∙ idle.other j differ)
      (subst (λ (x : Machine). HasResting (doing.Running x)) (sym first) (rests_begun o.table (now_in o.table (log_of k.history)).seed own c idle.work))
      (subst (λ (x : Machine). HeadedIn o m v.number v.load (log_of k.history) (doing.Running x)) (sym first) (headed_begins o.table m v.number v.load (log_of k.history) (now_in o.table (log_of k.history)).seed own c idle.work))
      (reads_begins m o.seed (log_of k.history) (caller_of v.origin.table.kind v.origin.table.shape v.origin.seed own) own c)
      (covers_begins m (now_in o.table (log_of k.history)) [] (caller_of v.origin.table.kind v.origin.table.shape v.origin.seed own) own c)

  -- what is known of its own
  pub own_known : is_resting v.seat ≡ true → IsOwnOf o.table v.number (own_at v.seat) × IfSome (own_at v.seat).work IsResting
  own_known rests = let idle = comes_to_rest rests in ((idle.inv.knows v.number (idle_view (view_of v) (own_at v.seat)) idle.at_rest).0, idle.work)

  pub own_owner : is_resting v.seat ≡ true → (x : Work) → (own_at v.seat).work ≡ Some x → owner_of (now_in o.table (log_of k.history)).resizing ≡ Some v.number
  own_owner rests x is = let idle = comes_to_rest rests in
      work_has_lock o.table m idle.seat (log_of k.history) v.number (idle_view (view_of v) (own_at v.seat)) (own_at v.seat) x idle.inv idle.at_rest refl is

-- a view that is there is within the list
pub at_within : {A : Type 0} (l : List A) (i : ℕ) (a : A) → get_elem? l i ≡ some a → i < length l
at_within [] i a is = absurd (some-ne-none a (sym is))
at_within (x ∷ xs) zero a is = omega arith
at_within (x ∷ xs) (suc i) a is = let within = at_within xs i a is in omega (arith, within)
