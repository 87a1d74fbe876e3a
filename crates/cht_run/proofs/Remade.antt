-- A table that was made anew meets the rule, with the seat that comes from the table before.
use Rattle.std.proofs.Common.{◌≡◌, ℕ, zero, suc, ◌+◌, ◌*◌, ◌%◌, ◌<◌, ◌≤◌, Bool, true, false, ◌||◌, List, [], ◌∷◌, ◌++◌, length, get_or, Some, None, inl, inr, refl, sym, ap, subst, ◌∙◌, arith}
use Rattle.std.proofs.lemmas.Bool.{cases_eq}
use Rattle.std.proofs.lemmas.List.{append-nil, get_or_read}
use Rattle.std.proofs.lemmas.List.Elements.{All-nil, All-cons, All-append}
use Rattle.std.proofs.lemmas.List.Folds.{list_any-append}
use mathlib.Core.Option.{some, some-injective, some-ne-none}
use lib.ListN.{get_elem?}
use Rattle.atomic_table.specs.Table.{opening}
use Rattle.table_shape.specs.declared.place.Place.TheVariants as place
use Rattle.table_shape.specs.declared.shape.Shape.{Shape}
use Rattle.table_shape.specs.Place.{index_of}
use Rattle.intern_log.specs.declared.event.Event.{Event}
use Rattle.intern_log.specs.declared.event.What.TheVariants as what
use Rattle.intern_log.specs.Now.{Now, now_of}
use Rattle.intern_log.specs.Own.{is_among, is_gain}
use Rattle.call_machine.specs.declared.machine.Own.{Own}
use Rattle.cht_core.specs.Anew.{HaveRoom, made_anew}
use Rattle.cht_core.specs.Begins as core
use Rattle.cht_core.specs.Invariant.{Inv}
use Rattle.cht_core.specs.Memory.{Memory, memory_of}
use Rattle.cht_core.specs.Past.{past_of, kind_of, by, MayTell}
use Rattle.cht_core.specs.Rehash.{IsFree, HasNoDead, MayRehash, IsRehashed, seeds, by_next_seed}
use Rattle.cht_core.specs.View.{View}
use Rattle.cht_core.specs.Windows.{IsTold}
use Rattle.cht_core.proofs.AnewReady.{IsReady, ready, ready_by_next_seed}
use Rattle.cht_core.proofs.AnewSteps.{anew_sized, words_rehashed}
use Rattle.cht_core.proofs.CauseLogs.{told_more}
use Rattle.cht_core.proofs.RehashKeeps.{rehash_keeps}
use Rattle.cht_core.proofs.RehashQuiet.{has_nothing}
use Rattle.cht_core.proofs.RehashStays.{says_the_same}
use Rattle.cht_core.proofs.StateWords.{memory_at}
use Rattle.cht_run.specs.declared.sight.Entry.{Entry}
use Rattle.cht_run.specs.declared.sight.Origin.{Origin}
use Rattle.cht_run.specs.declared.sight.Sight.{Sight}
use Rattle.cht_run.specs.Begins.{own_at}
use Rattle.cht_run.specs.Heirs.{legacy_of, rehash_of, heir_of, MayRemake}
use Rattle.cht_run.specs.History.{log_of, draws_of, by_of, is_drawn, is_known, HasHandles, IsOut, AreOut, IsNumbered}
use Rattle.cht_run.specs.Rule.{view_of, IsPart, Fits, CountsDraws, Kept}
use Rattle.cht_run.proofs.Histories.{log-append, draws-append, drawn_still, among_here, orderly_append}
use Rattle.cht_run.proofs.Joining.{Rested, rested}
use Rattle.cht_run.proofs.Loading.{only_seat, none_since}
use Rattle.cht_run.proofs.Steps.{Seats, part_of}
use Rattle.cht_run.proofs.Views.{no_earlier}

module _ (o : Origin) (s : Seats) (k : Kept o s) (id : ℕ) (v : Sight) (at : get_elem? s.views id ≡ some v) (can : MayRemake o v) where
  abbrev log : List Event
  log = log_of k.history

  abbrev n : Now
  n = now_of o.table.shape.min_level log

  abbrev m : Memory
  m = memory_of o.table.shape s.words

  abbrev own : Own
  own = own_at v.seat

  abbrev fit : Fits o m k.seat k.history v
  fit = k.fits id v at

  part : IsPart o m k.seat k.history v
  part = part_of o m k.seat k.history v fit can.seat

  abbrev r : Rested o m k.seat k.history v
  r = rested o m k.seat k.history v k.inv part.at can.rests

  whole : k.history ≡ v.history
  whole = fit.seen.whole ∙ ap (λ l. v.history ++ l) (none_since o s k id v at can.seat can.kids can.root) ∙ append-nil v.history

  -- the seat has nothing unfinished, and no number has another seat
  free : (j : ℕ) (u : View) → r.seat' j ≡ Some u → IsFree u.seat
  free j u is = elim (cases_eq j v.number) [
    | inl same ↦
        let one : Some (core.idle_view (view_of v) own) ≡ Some u = sym r.own ∙ ap r.seat' (sym same) ∙ is in
        let view : core.idle_view (view_of v) own ≡ u = cc in
        subst (λ (x : View). IsFree x.seat) view (can.work, can.grace)
    | inr differ ↦ absurd (differ (only_seat o s k id v at can.seat can.kids can.root j u (sym (r.other j differ) ∙ is)).0)
  ]

  may : MayRehash n r.seat'
  may = record {
    seats = free;
    dead = subst (λ (h : List Entry). HasNoDead (now_of o.table.shape.min_level (log_of h))) (sym whole) can.alive;
    seed = let same = k.seed in let few = can.seed in omega (arith, same, few);
  }

  is_ready : IsReady o.table.shape m (by_next_seed n)
  is_ready = ready_by_next_seed o.table.shape m n
      (ready o.table m (past_of o.table.shape.min_level log) r.inv.flow r.inv.table (λ slot i is. (has_nothing o.table m r.seat' log r.inv may i).claimed slot is) may.dead)

  -- THE WORDS

  abbrev words' : List ℕ
  words' = made_anew o.table.shape n.level (n.seed + 1) s.words

  abbrev m' : Memory
  m' = memory_of o.table.shape words'

  made : IsRehashed m m' (by_next_seed n)
  made = words_rehashed o.table.shape s.words (by_next_seed n) k.sized is_ready

  kept : MayTell (kind_of o.table) (past_of o.table.shape.min_level log) 0 (Some (seeds n)) × Inv o.table m' r.seat' (log ++ by 0 (seeds n) ∷ [])
  kept = rehash_keeps o.table m m' r.seat' log r.inv may made

  draws_stay : m' place.Draws ≡ m place.Draws
  draws_stay = made.stay place.Draws (λ never. never)

  -- THE HISTORY

  abbrev o' : Origin
  o' = record o { seed = o.seed + 1 }

  abbrev one : List Entry
  one = rehash_of (o.seed + 1) ∷ []

  abbrev history' : List Entry
  history' = k.history ++ one

  log_is : log_of history' ≡ log ++ by 0 (seeds n) ∷ []
  log_is = log-append k.history one ∙ ap (λ seed. log ++ by 0 (what.Rehash (seed + 1)) ∷ []) (sym k.seed)

  draws_is : draws_of history' ≡ draws_of k.history
  draws_is = draws-append k.history one ∙ append-nil (draws_of k.history)

  seed_is : (now_of o.table.shape.min_level (log_of history')).seed ≡ o.seed + 1
  seed_is = ap (λ l. (now_of o.table.shape.min_level l).seed) log_is ∙ ap (λ (x : Now). x.seed) (says_the_same o.table.shape.min_level log) ∙ ap (λ seed. seed + 1) k.seed

  out_is : AreOut v.numbers [] history'
  out_is = subst (λ (h : List Entry). AreOut v.numbers [] (h ++ one)) (sym whole)
      (All-append (IsOut v.numbers []) v.history one (subst (λ kids. AreOut v.numbers kids v.history) can.kids fit.out) (All-cons (IsOut v.numbers []) (rehash_of (o.seed + 1)) [] tt (All-nil (IsOut v.numbers []))))

  -- THE RULE

  abbrev heir : Sight
  heir = heir_of o' (legacy_of v)

  heir_history : history' ≡ heir.history
  heir_history = ap (λ h. h ++ one) whole

  heir_fits : Fits o' m' r.seat' history' heir
  heir_fits = record {
    of = λ is. refl;
    seen = record { later = []; whole = heir_history ∙ sym (append-nil heir.history); none = All-nil (λ (e : Entry). is_among v.numbers (by_of e) ≡ false) };
    part = inl (can.seat, record { at = r.own; rests = subst (λ w. Rattle.std.specs.Prelude.IfSome w Rattle.cht_core.specs.Causes.IsResting) (sym can.work) tt; headed = tt; reads = tt; covers = λ none_out root. tt });
    given = λ own gave. absurd (cc);
    out = subst (AreOut v.numbers []) heir_history out_is;
    earlier = no_earlier heir.history;
  }

  only : (j : ℕ) (u : Sight) → get_elem? (heir ∷ []) j ≡ some u → (j ≡ 0) × (heir ≡ u)
  only zero u is = (refl, some-injective heir u is)
  only (suc j) u is = absurd (some-ne-none u (sym is))

  drawn_before : (j number : ℕ) (u : View) → r.seat' j ≡ Some u → is_among u.numbers number ≡ true → is_drawn k.history number ≡ true
  drawn_before j number u is has = elim (cases_eq j v.number) [
    | inl same ↦
        let both : Some (core.idle_view (view_of v) own) ≡ Some u = sym r.own ∙ ap r.seat' (sym same) ∙ is in
        let view : core.idle_view (view_of v) own ≡ u = cc in
        k.drawn v.number number (view_of v) part.at (ap (λ (x : View). is_among x.numbers number) view ∙ has)
    | inr differ ↦ k.drawn j number u (sym (r.other j differ) ∙ is) has
  ]

  pub remakes : Kept o' (opening words' [] heir)
  remakes = record {
    seat = r.seat';
    history = history';
    sized = anew_sized o.table.shape s.words (by_next_seed n) k.sized is_ready ∙ k.sized;
    inv = subst (Inv o.table m' r.seat') (sym log_is) kept.1;
    seed = seed_is;
    told = subst (IsTold o.table) (sym log_is) (told_more o.table log 0 (Some (seeds n)) k.told kept.0);
    orderly = orderly_append (0 ∷ []) k.history one k.orderly (among_here (draws_of k.history) 0, tt);
    numbered = subst (IsNumbered 1) (sym draws_is) k.numbered;
    counted = subst (λ w. CountsDraws o.table.shape.seats w (length (draws_of history'))) (sym draws_stay) (subst (λ l. CountsDraws o.table.shape.seats (m place.Draws) (length l)) (sym draws_is) k.counted);
    below = λ number is. subst (λ w. number < w) (sym draws_stay) (k.below number (ap (λ l. is_among (0 ∷ l) number) (sym draws_is) ∙ is));
    drawn = λ j number u is has. drawn_still k.history one number (drawn_before j number u is has);
    apart = λ i j x u w at_i at_j own_u own_w. (only i u at_i).0 ∙ sym (only j w at_j).0;
    fits = λ j u is. subst (Fits o' m' r.seat' history') (only j u is).1 heir_fits;
    shown = λ j u is snapshot has. let never : None ≡ Some snapshot = ap (λ (x : Sight). x.words) (only j u is).1 ∙ has in absurd (cc);
  }

  -- the same over what was read and made on the way
  pub remade_from : (index word level : ℕ) (words : List ℕ) → index ≡ index_of o.table.shape place.Level → word ≡ get_or s.words index word → level ≡ word → words ≡ made_anew o.table.shape level (o.seed + 1) s.words →
      Kept o' (opening words [] heir)
  remade_from index word level words is_index is_word is_level is_words =
      let whole_words = k.sized in
      let within : index < length s.words = omega (arith, is_index, whole_words) in
      let level_is : level ≡ n.level = is_level ∙ get_or_read s.words index word within is_word 0 ∙ ap (λ i. get_or s.words i 0) is_index ∙ k.inv.table.heads.level in
      let same : words ≡ words' = is_words ∙ ap (λ l. made_anew o.table.shape l (o.seed + 1) s.words) level_is ∙ ap (λ seed. made_anew o.table.shape n.level (seed + 1) s.words) (sym k.seed) in
      subst (λ ws. Kept o' (opening ws [] heir)) (sym same) remakes

-- each slot has room for its text
pub have_room : (o : Origin) (s : Seats) → Kept o s → HaveRoom o.table.shape s.words
have_room o s k slot inside = subst (λ word. word % 65536 ≤ 8 * o.table.shape.text_words) (memory_at o.table.shape s.words (place.Meta slot) inside) (k.inv.table.words.sound (place.Meta slot)).1

-- a rehash makes no handle known
pub rehash_handles : (shape : Shape) (history : List Entry) (seed : ℕ) → HasHandles shape history → HasHandles shape (history ++ rehash_of seed ∷ [])
rehash_handles shape history seed handles h is = handles h (before (is_known (log_of history) h) (sym parts ∙ is))
  where
    parts : is_known (log_of (history ++ rehash_of seed ∷ [])) h ≡ (is_known (log_of history) h || false)
    parts = ap (λ l. is_known l h) (log-append history (rehash_of seed ∷ [])) ∙ list_any-append (λ (e : Event). is_gain e.what h) (log_of history) (by 0 (what.Rehash seed) ∷ [])

    before : (b : Bool) → (b || false) ≡ true → b ≡ true
    before true is = refl
    before false is = absurd (cc)
