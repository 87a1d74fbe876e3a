-- A seat loads a word that no call wants; and the table is closed by a seat from which all others have come back.
use Rattle.std.proofs.Common.{◌≡◌, ◌≢◌, ⊎_elim, ℕ, ◌+◌, ◌≤◌, true, false, List, [], ◌∷◌, ◌++◌, set, get_or, Some, inl, inr, refl, sym, ap, subst, ◌∙◌, arith}
use Rattle.std.proofs.lemmas.List.{append-nil, set-get_or}
use Rattle.std.proofs.lemmas.List.Elements.{All-nil, All-cons, All-head, All-tail}
use Rattle.std.specs.List.{All}
use mathlib.Core.Option.{some}
use lib.ListN.{get_elem?}
use Rattle.atomic_table.specs.Table.{State, Me, keeps, Allows, Final, Seen}
use Rattle.atomic_table.proofs.Lists.{at_set, set_again}
use Rattle.intern_log.specs.declared.event.Event.{Event}
use Rattle.intern_log.specs.Lawful.{IsLawful}
use Rattle.intern_log.specs.Own.{is_among}
use Rattle.intern_log.specs.Short.{IsShort}
use Rattle.cht_core.specs.Memory.{Memory, memory_of}
use Rattle.cht_core.specs.Past.{kind_of}
use Rattle.cht_core.specs.View.{View}
use Rattle.cht_run.specs.declared.sight.Entry.{Entry}
use Rattle.cht_run.specs.declared.sight.Entry.TheVariants as entry
use Rattle.cht_run.specs.declared.sight.Origin.{Origin}
use Rattle.cht_run.specs.declared.sight.Sight.{Sight}
use Rattle.cht_run.specs.Ends.{HasWhole}
use Rattle.cht_run.specs.History.{log_of, by_of, IsOrderly, AreOut}
use Rattle.cht_run.specs.Looks.{seeing, Looked}
use Rattle.cht_run.specs.Rule.{view_of, is_seat, Owns, Fits, IsSnapshot, Kept}
use Rattle.cht_run.proofs.Handles.{has_handles}
use Rattle.cht_run.proofs.HeldLive.{held_are_live}
use Rattle.cht_run.proofs.Histories.{out_since, nothing_since, all_by}
use Rattle.cht_run.proofs.Steps.{Seats, part_of, alone_has}
use Rattle.cht_run.proofs.Views.{no_earlier}

no_more : (left lost had : ℕ) → left + lost ≡ had → lost ≤ had
no_more left lost had is = omega arith

module _ (o : Origin) (s : Seats) (k : Kept o s) (id : ℕ) (v : Sight) (at : get_elem? s.views id ≡ some v) (is : is_seat v ≡ true) where
  abbrev m : Memory
  m = memory_of o.table.shape s.words

  abbrev fit : Fits o m k.seat k.history v
  fit = k.fits id v at

  abbrev after : Sight
  after = seeing v k.history s.words

  fits_after : Fits o m k.seat k.history after
  fits_after = record {
    of = fit.of;
    seen = record { later = []; whole = sym (append-nil k.history); none = All-nil (λ (e : Entry). is_among v.numbers (by_of e) ≡ false) };
    part = let part = part_of o m k.seat k.history v fit is in inl (is, record { at = part.at; rests = part.rests; headed = part.headed; reads = part.reads; covers = part.covers });
    given = fit.given;
    out = subst (AreOut v.numbers v.kids) (sym fit.seen.whole) (out_since v.numbers v.kids v.history fit.seen.later fit.out fit.seen.none);
    earlier = no_earlier k.history;
  }

  -- each view after it was there before, or is that of the seat
  each_seen : (P : ℕ → Sight → Type 0) → P id after → ((j : ℕ) (u : Sight) → get_elem? s.views j ≡ some u → P j u) → (j : ℕ) (u : Sight) → get_elem? (set s.views id after) j ≡ some u → P j u
  each_seen P here there j u e = ⊎_elim
      (λ (x : (j ≡ id) × (after ≡ u)). subst (λ n. P n u) (sym x.0) (subst (P id) x.1 here))
      (λ (x : (j ≢ id) × (get_elem? s.views j ≡ some u)). there j u x.1)
      (at_set s.views id j after u e)

  abbrev Owned : ℕ → ℕ → Type 0
  Owned x n = (w : Sight) × (get_elem? s.views n ≡ some w) × Owns w x

  owned_after : (x : ℕ) → Owns after x → Owns v x
  owned_after x (inl own) = inl own
  owned_after x (inr given) = inr given

  owned : (x j : ℕ) (u : Sight) → get_elem? (set s.views id after) j ≡ some u → Owns u x → Owned x j
  owned x = each_seen (λ n u. Owns u x → Owned x n) (λ owns. (v, at, owned_after x owns)) (λ n u at' owns. (u, at', owns))

  seen_kept : Kept o (record { words = s.words; homes = s.homes; views = set s.views id after })
  seen_kept = record {
    seat = k.seat;
    history = k.history;
    sized = k.sized;
    inv = k.inv;
    seed = k.seed;
    told = k.told;
    orderly = k.orderly;
    numbered = k.numbered;
    counted = k.counted;
    below = k.below;
    drawn = k.drawn;
    apart = λ i j x u w at_i at_j own_u own_w. let a = owned x i u at_i own_u in let b = owned x j w at_j own_w in k.apart i j x a.0 b.0 a.1 b.1 a.2 b.2;
    fits = each_seen (λ n u. Fits o m k.seat k.history u) fits_after k.fits;
    shown = each_seen (λ n u. IsSnapshot s.words u) (λ snapshot has none_out root. cc) k.shown;
  }

  -- where all others have come back, no number has another seat
  pub only_seat : v.kids ≡ [] → is_among v.numbers 0 ≡ true → (n : ℕ) (u : View) → k.seat n ≡ Some u → (n ≡ v.number) × (u ≡ view_of v)
  only_seat none_out root n u is_u =
      let own : is_among u.numbers n ≡ true = (k.inv.numbers.seats n u is_u).1 in
      let mine = (part_of o m k.seat k.history v fit is).at in
      let same : n ≡ v.number = k.inv.numbers.apart n v.number n u (view_of v) is_u mine own (alone_has o s k id v at none_out root n (k.drawn n n u is_u own)) in
      let one : Some u ≡ Some (view_of v) = sym is_u ∙ ap k.seat same ∙ mine in
      (same, cc)

  -- where all others have come back, nothing has come since
  pub none_since : v.kids ≡ [] → is_among v.numbers 0 ≡ true → fit.seen.later ≡ []
  none_since none_out root =
      nothing_since v.numbers v.history fit.seen.later (subst IsOrderly fit.seen.whole k.orderly) (subst (λ kids. AreOut v.numbers kids v.history) none_out fit.out) fit.seen.none root

  is_looked : (index : ℕ) → Looked o index v (get_or s.words index 0) after
  is_looked index = record {
    between = fit.seen.later;
    none = fit.seen.none;
    words = s.words;
    after = ap (λ h. seeing v h s.words) fit.seen.whole;
    sized = k.sized;
    found = refl;
    seat = k.seat;
    inv = k.inv;
    sees = record {
      told = k.told;
      lawful = k.inv.lawful;
      handles = has_handles o.table (memory_of o.table.shape s.words) k.seat k.history k.inv k.told;
      orderly = k.orderly;
      numbered = k.numbered;
    };
    ledger = λ h. no_more _ _ _ (k.inv.holds.own v.number (view_of v) h (part_of o m k.seat k.history v fit is).at);
    live = λ counted. held_are_live o.table m k.seat (log_of k.history) v.number (view_of v) k.inv (part_of o m k.seat k.history v fit is).at counted;
    alone = none_since;
    only = only_seat;
    still = λ none_out root snapshot has. k.shown id v at snapshot has none_out root;
  }

-- a load of any word
pub looks : (o : Origin) (slots id index : ℕ) (me : Me (Unit {0}) Sight) → is_seat me.0 ≡ true →
    Allows (Kept o) slots id me index (λ n. n) (λ n after. Looked me.0.origin index me.0 n after.0 × (after.1 ≡ me.1))
looks o slots id index me is s k homes at small = (
  seeing me.0 k.history s.words,
  keeps,
  tt,
  subst (λ (words : List ℕ). Kept o (record { words = words; homes = s.homes; views = set s.views id (seeing me.0 k.history s.words) })) (sym (set-get_or s.words index 0)) (seen_kept o s k id me.0 at is),
  (subst (λ (x : Origin). Looked x index me.0 (get_or s.words index 0) (seeing me.0 k.history s.words)) (sym ((k.fits id me.0 at).of is)) (is_looked o s k id me.0 at is index), refl),
)

-- where all others have come back, the seat has seen no more than it had
pub looked_alone : (o : Origin) (index : ℕ) (v : Sight) (word : ℕ) (w : Sight) → Looked o index v word w → v.kids ≡ [] → is_among v.numbers 0 ≡ true → w.history ≡ v.history
looked_alone o index v word w looked none_out root =
    ap (λ (x : Sight). x.history) looked.after ∙ ap (λ l. v.history ++ l) (looked.alone none_out root) ∙ append-nil v.history

-- THE END

-- what a closed table is known by
pub record Closed (o : Origin) (v : Sight) : Type 0 where
  pub of : v.origin ≡ o
  pub lawful : IsShort (log_of v.history) → IsLawful (kind_of o.table) (log_of v.history)
  pub mine : All (λ (e : Event). is_among v.numbers e.seat ≡ true) (log_of v.history)

events_by : (numbers : List ℕ) (xs : List Entry) → All (λ (e : Entry). is_among numbers (by_of e) ≡ true) xs → All (λ (e : Event). is_among numbers e.seat ≡ true) (log_of xs)
events_by numbers [] all = All-nil (λ (e : Event). is_among numbers e.seat ≡ true)
events_by numbers (entry.Told e ∷ xs) all =
    All-cons (λ (x : Event). is_among numbers x.seat ≡ true) e (log_of xs) (All-head (λ (x : Entry). is_among numbers (by_of x) ≡ true) (entry.Told e) xs all)
    (events_by numbers xs (All-tail (λ (x : Entry). is_among numbers (by_of x) ≡ true) (entry.Told e) xs all))
events_by numbers (entry.Drew by number ∷ xs) all = events_by numbers xs (All-tail (λ (x : Entry). is_among numbers (by_of x) ≡ true) (entry.Drew by number) xs all)

has_whole : (o : Origin) (s : State (Unit {0}) Sight) (k : Kept o s) (id : ℕ) (v : Sight) (at : get_elem? s.views id ≡ some v) → is_seat v ≡ true → v.kids ≡ [] → is_among v.numbers 0 ≡ true → HasWhole o.table v.numbers (log_of v.history)
has_whole o s k id v at is none_out root =
    let f = k.fits id v at in
    let whole : k.history ≡ v.history = f.seen.whole ∙ ap (λ l. v.history ++ l) (none_since o s k id v at is none_out root) ∙ append-nil v.history in
    record {
      lawful = subst (λ (h : List Entry). IsShort (log_of h) → IsLawful (kind_of o.table) (log_of h)) whole k.inv.lawful;
      mine = events_by v.numbers v.history (all_by v.numbers v.history (subst IsOrderly whole k.orderly) (subst (λ kids. AreOut v.numbers kids v.history) none_out f.out) root);
    }

-- a load by which it knows that
pub wholes : (o : Origin) (slots id : ℕ) (me : Me (Unit {0}) Sight) →
    Allows (Kept o) slots id me 0 (λ n. n) (λ n after. (after ≡ me) × (is_seat me.0 ≡ true → me.0.kids ≡ [] → is_among me.0.numbers 0 ≡ true → HasWhole me.0.origin.table me.0.numbers (log_of me.0.history)))
wholes o slots id me s k homes at small = (
  me.0,
  keeps,
  tt,
  subst (λ (z : List ℕ × List Sight). Kept o (record { words = z.0; homes = s.homes; views = z.1 })) (λ i. (sym (set-get_or s.words 0 0) i, sym (set_again s.views id me.0 at) i)) k,
  (refl, λ is none_out root. subst (λ (z : Origin). HasWhole z.table me.0.numbers (log_of me.0.history)) (sym ((k.fits id me.0 at).of is)) (has_whole o s k id me.0 at is none_out root)),
)

pub closes : (o : Origin) (id : ℕ) (v : Sight) (words : List ℕ) (slots : List (Unit {0})) → Final (Seen (Kept o) id v) words slots → is_seat v ≡ true → v.kids ≡ [] → is_among v.numbers 0 ≡ true → Closed o v
closes o id v words slots end is none_out root =
    let k = end.1.0 in
    let at = end.1.1 in
    let whole = has_whole o end.0 k id v at is none_out root in
    record { of = (k.fits id v at).of is; lawful = whole.lawful; mine = whole.mine }

-- the same of a seat of which a note was taken
pub noted_closes : (o : Origin) (id : ℕ) (me now : Me (Unit {0}) Sight) (words : List ℕ) (slots : List (Unit {0})) → Final (Seen (Kept o) id now.0) words slots → now ≡ me → is_seat me.0 ≡ true → me.0.kids ≡ [] →
    is_among me.0.numbers 0 ≡ true → Closed o me.0
noted_closes o id me now words slots end same is none_out root =
    closes o id me.0 words slots (subst (λ (x : Me (Unit {0}) Sight). Final (Seen (Kept o) id x.0) words slots) same end) is none_out root
