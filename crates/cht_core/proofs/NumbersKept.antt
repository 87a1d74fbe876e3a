-- A step of a seat leaves each seat its numbers, and what each seat holds is what its numbers have gained and not lost.
use Rattle.std.proofs.Common.{◌≡◌, ◌≢◌, ℕ, ◌+◌, ◌-◌, ◌≤◌, Bool, true, false, cond, ◌&&◌, List, ◌++◌, Option, Some, None, inl, inr}
use Rattle.std.proofs.Common.{refl, sym, ap, subst, ◌∙◌, slice_index_or, arith}
use Rattle.std.specs.List.{All}
use Rattle.std.specs.Bool.{Decides}
use Rattle.std.proofs.lemmas.Bool.{cases_eq, eq-eqb, ne_eqb}
use Rattle.std.proofs.lemmas.Bool.Decides.{same_from_decides}
use Rattle.std.proofs.lemmas.List.{append-nil}
use Rattle.std.proofs.lemmas.List.Elements.{All-push}
use Rattle.intern_log.specs.declared.event.Event.{Event}
use Rattle.intern_log.specs.declared.event.Handle.{Handle}
use Rattle.intern_log.specs.declared.event.What.{What}
use Rattle.intern_log.specs.declared.event.What.TheVariants as what
use Rattle.intern_log.specs.Counts.{events_in}
use Rattle.intern_log.specs.Own.{is_visible, is_among, is_gain, is_loss, mine, gains, losses}
use Rattle.intern_log.specs.TextMap.{handle_eq}
use Rattle.intern_log.proofs.Handles.{handle_eq-Decides}
use Rattle.cht_core.specs.declared.table.Table.{Table}
use Rattle.cht_core.specs.Flow.{holds_after, with_hold}
use Rattle.cht_core.specs.Invariant.{Numbers, Holds, Moves, events_of}
use Rattle.cht_core.specs.Past.{by}
use Rattle.cht_core.specs.View.{View}
use Rattle.cht_core.proofs.OwnEvents.{own_share, own_one_more}

-- the hold on the handle that an event gives, and that it takes away
abbrev pub gain_of : Option What → Handle → ℕ
gain_of None h = 0
gain_of (Some w) h = cond (is_gain w h) 1 0

abbrev pub loss_of : Option What → Handle → ℕ
loss_of None h = 0
loss_of (Some w) h = cond (is_loss w h) 1 0

module _ (holds : ℕ → Handle → ℕ) (i : ℕ) where
  -- another number for one handle of a seat, as that seat has it, and as another one has it
  hold_here : (k : Handle) (number : ℕ) (h : Handle) → with_hold holds i k number i h ≡ cond (handle_eq k h) number (holds i h)
  hold_here k number h =
      ap (λ b. cond (b && handle_eq h k) number (holds i h)) (eq-eqb i i refl)
      ∙ ap (λ b. cond b number (holds i h)) (same_from_decides (handle_eq h k) (handle_eq k h) (handle_eq-Decides h k) back)
    where
      back : Decides (handle_eq k h) (h ≡ k)
      back = ((λ is. sym ((handle_eq-Decides k h).0 is)), (λ same. (handle_eq-Decides k h).1 (sym same)))

  hold_elsewhere : (k : Handle) (number j : ℕ) (h : Handle) → j ≢ i → with_hold holds i k number j h ≡ holds j h
  hold_elsewhere k number j h differ = ap (λ b. cond (b && handle_eq h k) number (holds j h)) (ne_eqb j i differ)

  gained : (k h : Handle) → with_hold holds i k (holds i k + 1) i h + 0 ≡ holds i h + cond (handle_eq k h) 1 0
  gained k h = ap (λ n. n + 0) (hold_here k (holds i k + 1) h) ∙ go (handle_eq k h) (handle_eq-Decides k h)
    where
      go : (b : Bool) → Decides b (k ≡ h) → cond b (holds i k + 1) (holds i h) + 0 ≡ holds i h + cond b 1 0
      go true decided = let same = ap (holds i) (decided.0 refl) in omega (arith, same)
      go false decided = refl

  lost : (k h : Handle) → 1 ≤ holds i k → with_hold holds i k (holds i k - 1) i h + cond (handle_eq k h) 1 0 ≡ holds i h + 0
  lost k h has = ap (λ n. n + cond (handle_eq k h) 1 0) (hold_here k (holds i k - 1) h) ∙ go (handle_eq k h) (handle_eq-Decides k h)
    where
      go : (b : Bool) → Decides b (k ≡ h) → cond b (holds i k - 1) (holds i h) + cond b 1 0 ≡ holds i h + 0
      go true decided = let same = ap (holds i) (decided.0 refl) in omega (arith, same, has)
      go false decided = refl

  -- an event changes what its seat holds by what it gives and takes away
  pub holds_balance : (e : Option What) (h : Handle) → ((k : Handle) → e ≡ Some (what.Drop k) → 1 ≤ holds i k) → holds_after i e holds i h + loss_of e h ≡ holds i h + gain_of e h
  holds_balance None h has = refl
  holds_balance (Some (what.Create text k)) h has = gained k h
  holds_balance (Some (what.Take text k)) h has = gained k h
  holds_balance (Some (what.Drop k)) h has = lost k h (has k refl)
  holds_balance (Some (what.Found text k)) h has = refl
  holds_balance (Some (what.Perm k)) h has = refl
  holds_balance (Some (what.Kill k)) h has = refl
  holds_balance (Some (what.Claim s)) h has = refl
  holds_balance (Some (what.Free s)) h has = refl
  holds_balance (Some (what.Open c)) h has = refl
  holds_balance (Some what.Close) h has = refl
  holds_balance (Some what.Grace) h has = refl
  holds_balance (Some (what.Lock r b)) h has = refl
  holds_balance (Some (what.Unlock r b)) h has = refl
  holds_balance (Some (what.Unlink s)) h has = refl
  holds_balance (Some what.ResizeTaken) h has = refl
  holds_balance (Some what.ResizeGiven) h has = refl
  holds_balance (Some (what.Level l)) h has = refl
  holds_balance (Some (what.Rehash n)) h has = refl

  -- and not what another seat holds
  pub holds_elsewhere : (e : Option What) (j : ℕ) (h : Handle) → j ≢ i → holds_after i e holds j h ≡ holds j h
  holds_elsewhere None j h differ = refl
  holds_elsewhere (Some (what.Create text k)) j h differ = hold_elsewhere k (holds i k + 1) j h differ
  holds_elsewhere (Some (what.Take text k)) j h differ = hold_elsewhere k (holds i k + 1) j h differ
  holds_elsewhere (Some (what.Drop k)) j h differ = hold_elsewhere k (holds i k - 1) j h differ
  holds_elsewhere (Some (what.Found text k)) j h differ = refl
  holds_elsewhere (Some (what.Perm k)) j h differ = refl
  holds_elsewhere (Some (what.Kill k)) j h differ = refl
  holds_elsewhere (Some (what.Claim s)) j h differ = refl
  holds_elsewhere (Some (what.Free s)) j h differ = refl
  holds_elsewhere (Some (what.Open c)) j h differ = refl
  holds_elsewhere (Some what.Close) j h differ = refl
  holds_elsewhere (Some what.Grace) j h differ = refl
  holds_elsewhere (Some (what.Lock r b)) j h differ = refl
  holds_elsewhere (Some (what.Unlock r b)) j h differ = refl
  holds_elsewhere (Some (what.Unlink s)) j h differ = refl
  holds_elsewhere (Some what.ResizeTaken) j h differ = refl
  holds_elsewhere (Some what.ResizeGiven) j h differ = refl
  holds_elsewhere (Some (what.Level l)) j h differ = refl
  holds_elsewhere (Some (what.Rehash n)) j h differ = refl

-- the event of a step, among the events of a caller: of one who has the number, of one who has not
not_among : (test : What → Bool) (numbers : List ℕ) (log : List Event) (i : ℕ) (e : Option What) → is_among numbers i ≡ false →
    events_in test (mine (log ++ events_of i e) numbers) ≡ events_in test (mine log numbers)
not_among test numbers log i None other = ap (λ l. events_in test (mine l numbers)) (append-nil log)
not_among test numbers log i (Some w) other =
    own_one_more test numbers log (by i w) ∙ ap (λ b. events_in test (mine log numbers) + cond (is_visible w && b) (cond (test w) 1 0) 0) other ∙ none (is_visible w)
  where
    none : (v : Bool) → events_in test (mine log numbers) + cond (v && false) (cond (test w) 1 0) 0 ≡ events_in test (mine log numbers)
    none true = omega arith
    none false = omega arith

abbrev one_if : Bool → ℕ
one_if b = cond b 1 0

share_of_own : (test : What → Bool) (numbers : List ℕ) (i : ℕ) (w : What) → (test w ≡ true → is_visible w ≡ true) → is_among numbers i ≡ true →
    own_share test numbers (by i w) ≡ cond (test w) 1 0
share_of_own test numbers i w seen own = ap (λ b. cond (is_visible w && b) (cond (test w) 1 0) 0) own ∙ go (is_visible w) (test w) seen
  where
    go : (v b : Bool) → (b ≡ true → v ≡ true) → cond (v && true) (one_if b) 0 ≡ one_if b
    go true b seen = refl
    go false false seen = refl
    go false true seen = let never : false ≡ true = seen refl in absurd (cc)

gain_is_visible : (h : Handle) (w : What) → is_gain w h ≡ true → is_visible w ≡ true
gain_is_visible h (what.Create t k) gain = refl
gain_is_visible h (what.Take t k) gain = refl
gain_is_visible h _ gain = absurd (cc)

loss_is_visible : (h : Handle) (w : What) → is_loss w h ≡ true → is_visible w ≡ true
loss_is_visible h (what.Drop k) loss = refl
loss_is_visible h _ loss = absurd (cc)

gains_more : (numbers : List ℕ) (log : List Event) (i : ℕ) (e : Option What) (h : Handle) → is_among numbers i ≡ true →
    gains (mine (log ++ events_of i e) numbers) h ≡ gains (mine log numbers) h + gain_of e h
gains_more numbers log i None h own = let same = ap (λ l. gains (mine l numbers) h) (append-nil log) in omega (arith, same)
gains_more numbers log i (Some w) h own =
    own_one_more (λ x. is_gain x h) numbers log (by i w) ∙ ap (λ n. gains (mine log numbers) h + n) (share_of_own (λ x. is_gain x h) numbers i w (gain_is_visible h w) own)

losses_more : (numbers : List ℕ) (log : List Event) (i : ℕ) (e : Option What) (h : Handle) → is_among numbers i ≡ true →
    losses (mine (log ++ events_of i e) numbers) h ≡ losses (mine log numbers) h + loss_of e h
losses_more numbers log i None h own = let same = ap (λ l. losses (mine l numbers) h) (append-nil log) in omega (arith, same)
losses_more numbers log i (Some w) h own =
    own_one_more (λ x. is_loss x h) numbers log (by i w) ∙ ap (λ n. losses (mine log numbers) h + n) (share_of_own (λ x. is_loss x h) numbers i w (loss_is_visible h w) own)

-- a step of a seat that leaves it its numbers
module _ (t : Table) (seat seat' : ℕ → Option View) (log : List Event) (i : ℕ) (v v' : View) (e : Option What)
    (at_i : seat i ≡ Some v) (same : v'.numbers ≡ v.numbers) (moves : Moves seat seat' i v') where
  -- each seat was there before with its numbers, and is there after
  seat_before : (k : ℕ) (u' : View) → seat' k ≡ Some u' → (u : View) × (seat k ≡ Some u) × (u'.numbers ≡ u.numbers)
  seat_before k u' is = elim (cases_eq k i) [
    | inl here ↦
        let own : seat' i ≡ Some v' = moves.own in
        let now : seat' i ≡ Some u' = ap seat' (sym here) ∙ is in
        let views : u' ≡ v' = cc in
        (v, ap seat here ∙ at_i, ap (λ (x : View). x.numbers) views ∙ same)
    | inr differ ↦ (u', sym (moves.other k differ) ∙ is, refl)
  ]

  seat_after : (k : ℕ) (u : View) → seat k ≡ Some u → (u' : View) × (seat' k ≡ Some u') × (u'.numbers ≡ u.numbers)
  seat_after k u is = elim (cases_eq k i) [
    | inl here ↦
        let now : seat i ≡ Some u = ap seat (sym here) ∙ is in
        let views : v ≡ u = cc in
        (v', ap seat' here ∙ moves.own, same ∙ ap (λ (x : View). x.numbers) views)
    | inr differ ↦ (u, moves.other k differ ∙ is, refl)
  ]

  all_more : (P : Event → Type 0) (e : Option What) → All P log → ((w : What) → P (by i w)) → All P (log ++ events_of i e)
  all_more P None old new = subst (All P) (sym (append-nil log)) old
  all_more P (Some w) old new = All-push P log (by i w) old (new w)

  -- the seats have their numbers for themselves after it too
  pub numbers_after_step : Numbers t seat log → Numbers t seat' (log ++ events_of i e)
  numbers_after_step numbers = record {
    seats = λ k u' is.
        let was = seat_before k u' is in
        let had = numbers.seats k was.0 was.1 in
        (had.0, ap (λ ns. is_among ns k) was.2 ∙ had.1);
    apart = λ k j number u' w' at_k at_j among_k among_j.
        let was_k = seat_before k u' at_k in
        let was_j = seat_before j w' at_j in
        numbers.apart k j number was_k.0 was_j.0 was_k.1 was_j.1
        (ap (λ ns. is_among ns number) (sym was_k.2) ∙ among_k) (ap (λ ns. is_among ns number) (sym was_j.2) ∙ among_j);
    heard = all_more (λ (x : Event). is_visible x.what ≡ true → (k : ℕ) × (u : View) × (seat' k ≡ Some u) × (is_among u.numbers x.seat ≡ true)) e
        (λ at d inside visible.
        let was = numbers.heard at d inside visible in
        let now = seat_after was.0 was.1 was.2 in
        (was.0, now.0, now.1, ap (λ ns. is_among ns (slice_index_or log at d).seat) now.2 ∙ was.3))
        (λ w visible. (i, v', moves.own, ap (λ ns. is_among ns i) same ∙ (numbers.seats i v at_i).1));
  }

  -- another seat has not the number of this one
  not_its_number : Numbers t seat log → (k : ℕ) (u : View) → seat k ≡ Some u → k ≢ i → is_among u.numbers i ≡ false
  not_its_number numbers k u is differ = go (is_among u.numbers i) refl
    where
      go : (b : Bool) → is_among u.numbers i ≡ b → b ≡ false
      go false other = refl
      go true among = absurd (differ (numbers.apart k i i u v is at_i among (numbers.seats i v at_i).1))

  own_here : (holds : ℕ → Handle → ℕ) → Numbers t seat log → Holds seat log holds → ((h : Handle) → e ≡ Some (what.Drop h) → 1 ≤ holds i h) → (h : Handle) →
      holds_after i e holds i h + losses (mine (log ++ events_of i e) v'.numbers) h ≡ gains (mine (log ++ events_of i e) v'.numbers) h
  own_here holds numbers held has h =
      let among : is_among v'.numbers i ≡ true = ap (λ ns. is_among ns i) same ∙ (numbers.seats i v at_i).1 in
      let gain = gains_more v'.numbers log i e h among in
      let loss = losses_more v'.numbers log i e h among in
      let old : holds i h + losses (mine log v'.numbers) h ≡ gains (mine log v'.numbers) h =
      subst (λ ns. holds i h + losses (mine log ns) h ≡ gains (mine log ns) h) (sym same) (held.own i v h at_i) in
      let balance = holds_balance holds i e h has in
      omega (arith, gain, loss, old, balance)

  own_elsewhere : (holds : ℕ → Handle → ℕ) → Numbers t seat log → Holds seat log holds → (k : ℕ) (u' : View) (h : Handle) → seat' k ≡ Some u' → k ≢ i →
      holds_after i e holds k h + losses (mine (log ++ events_of i e) u'.numbers) h ≡ gains (mine (log ++ events_of i e) u'.numbers) h
  own_elsewhere holds numbers held k u' h is differ =
      let was = seat_before k u' is in
      let alone = ap (λ ns. is_among ns i) was.2 ∙ not_its_number numbers k was.0 was.1 differ in
      let lost = not_among (λ w. is_loss w h) u'.numbers log i e alone in
      let gained = not_among (λ w. is_gain w h) u'.numbers log i e alone in
      let stays = holds_elsewhere holds i e k h differ in
      let old : holds k h + losses (mine log u'.numbers) h ≡ gains (mine log u'.numbers) h =
      subst (λ ns. holds k h + losses (mine log ns) h ≡ gains (mine log ns) h) (sym was.2) (held.own k was.0 h was.1) in
      omega (arith, lost, gained, stays, old)

  -- and what each seat holds is what its numbers have gained and not lost
  pub holds_after_step : (holds : ℕ → Handle → ℕ) → Numbers t seat log → Holds seat log holds → ((h : Handle) → e ≡ Some (what.Drop h) → 1 ≤ holds i h) →
      Holds seat' (log ++ events_of i e) (holds_after i e holds)
  holds_after_step holds numbers held has = record {
    own = λ k u' h is. elim (cases_eq k i) [
      | inl here ↦
          let own : seat' i ≡ Some v' = moves.own in
          let now : seat' i ≡ Some u' = ap seat' (sym here) ∙ is in
          let views : v' ≡ u' = cc in
          subst (λ (x : View). holds_after i e holds k h + losses (mine (log ++ events_of i e) x.numbers) h ≡ gains (mine (log ++ events_of i e) x.numbers) h) views
          (subst (λ j. holds_after i e holds j h + losses (mine (log ++ events_of i e) v'.numbers) h ≡ gains (mine (log ++ events_of i e) v'.numbers) h) (sym here)
          (own_here holds numbers held has h))
      | inr differ ↦ own_elsewhere holds numbers held k u' h is differ
    ];
    none = λ k h is. elim (cases_eq k i) [
      | inl here ↦ let own : seat' i ≡ Some v' = moves.own in let gone : seat' i ≡ None = ap seat' (sym here) ∙ is in absurd (cc)
      | inr differ ↦ holds_elsewhere holds i e k h differ ∙ held.none k h (sym (moves.other k differ) ∙ is)
    ];
  }
