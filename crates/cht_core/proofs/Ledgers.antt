-- What the seats hold together, after the holds of one seat or the entry of one text change.
use Rattle.std.proofs.Common.{◌≡◌, ◌≢◌, ℕ, zero, suc, ◌+◌, ◌-◌, ◌<◌, ◌≤◌, min, Bool, true, false, cond, ◌&&◌, List, Option, Some, None, inl, inr, refl, sym, ap, ◌∙◌, arith}
use Rattle.std.specs.Prelude.{nat_eq}
use Rattle.std.proofs.lemmas.Bool.{cases_eq, eq-eqb, ne_eqb}
use Rattle.intern_log.specs.declared.event.Entry.{Entry}
use Rattle.intern_log.specs.declared.event.Handle.{Handle}
use Rattle.intern_log.specs.TextMap.{TextMap, entry_of, handle_eq, IsLive}
use Rattle.intern_log.specs.Log.{HandlesDiffer, raised, lowered, made_permanent}
use Rattle.intern_log.proofs.Handles.{same_as_itself, handle_eq-Decides, lowered_keeps}
use Rattle.cht_core.specs.Flow.{with_hold}
use Rattle.cht_core.specs.Ledger.{sum_below, Balanced}
use Rattle.cht_core.proofs.Counts.{handle_cases, lowered_cases}
use Rattle.cht_core.proofs.Entries.{text_cases, Puts}

-- sums of the same values
pub sum_same : (bound : ℕ) (value other : ℕ → ℕ) → ((k : ℕ) → k < bound → other k ≡ value k) → sum_below bound other ≡ sum_below bound value
sum_same zero value other same = refl
sum_same (suc bound) value other same =
    let below : sum_below bound other ≡ sum_below bound value = sum_same bound value other (λ k small. same k (omega (arith, small))) in
    let last : other bound ≡ value bound = same bound (omega arith) in
    omega (arith, below, last)

-- a sum where the value at one number below the bound changes
pub sum_changed : (bound : ℕ) (value other : ℕ → ℕ) (i : ℕ) → i < bound → ((k : ℕ) → k ≢ i → other k ≡ value k) → sum_below bound other + value i ≡ sum_below bound value + other i
sum_changed zero value other i small same = absurd (omega (arith, small))
sum_changed (suc bound) value other i small same = elim (cases_eq i bound) [
  | inl is ↦
      let before : sum_below bound other ≡ sum_below bound value = sum_same bound value other (λ k less. same k (λ at. omega (arith, less, at, is))) in
      let was : value i ≡ value bound = ap value is in
      let now : other i ≡ other bound = ap other is in
      omega (arith, before, was, now)
  | inr differ ↦
      let before : sum_below bound other + value i ≡ sum_below bound value + other i = sum_changed bound value other i (omega (arith, small, differ)) same in
      let last : other bound ≡ value bound = same bound (λ at. differ (sym at)) in
      omega (arith, before, last)
]

-- each value is at most the sum
pub part_of_sum : (bound : ℕ) (value : ℕ → ℕ) (i : ℕ) → i < bound → value i ≤ sum_below bound value
part_of_sum zero value i small = absurd (omega (arith, small))
part_of_sum (suc bound) value i small = elim (cases_eq i bound) [
  | inl is ↦ let last : value i ≡ value bound = ap value is in omega (arith, last)
  | inr differ ↦ let before : value i ≤ sum_below bound value = part_of_sum bound value i (omega (arith, small, differ)) in omega (arith, before)
]

-- the holds with another number for one seat and one handle
pub hold_here : (holds : ℕ → Handle → ℕ) (i : ℕ) (h : Handle) (number : ℕ) → with_hold holds i h number i h ≡ number
hold_here holds i h number = ap (λ b. cond (b && handle_eq h h) number (holds i h)) (eq-eqb i i refl) ∙ ap (λ b. cond b number (holds i h)) (same_as_itself h)

pub hold_of_other_seat : (holds : ℕ → Handle → ℕ) (i : ℕ) (h : Handle) (number k : ℕ) (j : Handle) → k ≢ i → with_hold holds i h number k j ≡ holds k j
hold_of_other_seat holds i h number k j differ = ap (λ b. cond (b && handle_eq j h) number (holds k j)) (ne_eqb k i differ)

pub hold_of_other_handle : (holds : ℕ → Handle → ℕ) (i : ℕ) (h : Handle) (number k : ℕ) (j : Handle) → j ≢ h → with_hold holds i h number k j ≡ holds k j
hold_of_other_handle holds i h number k j differ = go (nat_eq k i) (handle_eq j h) refl
  where
    go : (b c : Bool) → handle_eq j h ≡ c → cond (b && c) number (holds k j) ≡ holds k j
    go true true is = absurd (differ ((handle_eq-Decides j h).0 is))
    go true false is = refl
    go false c is = refl

-- the sum for the handle, after the holds of one seat on it change
pub held_changed : (seats : ℕ) (holds : ℕ → Handle → ℕ) (i : ℕ) (h : Handle) (number : ℕ) → i < seats →
    sum_below seats (λ k. with_hold holds i h number k h) + holds i h ≡ sum_below seats (λ k. holds k h) + number
held_changed seats holds i h number small =
    sum_changed seats (λ k. holds k h) (λ k. with_hold holds i h number k h) i small (λ k differ. hold_of_other_seat holds i h number k h differ)
    ∙ ap (λ n. sum_below seats (λ k. holds k h) + n) (hold_here holds i h number)

-- the ledger after the entry of a handle and the holds on it change
pub record Recounted (seats : ℕ) (h : Handle) (holds holds' : ℕ → Handle → ℕ) (o : Option Entry) : Type 0 where
  pub others : (k : ℕ) (j : Handle) → j ≢ h → holds' k j ≡ holds k j
  pub own : (e : Entry) → o ≡ Some e → e.handle ≡ h
  pub live : (e : Entry) → o ≡ Some e → e.count < 65535 → sum_below seats (λ k. holds' k h) ≡ e.count
  pub gone : o ≡ None → sum_below seats (λ k. holds' k h) ≡ 0

module _ (seats : ℕ) (texts texts' : TextMap) (text : List ℕ) (e : Entry) (h : Handle) (o : Option Entry) (holds holds' : ℕ → Handle → ℕ)
    (has : entry_of texts text ≡ Some e) (own : e.handle ≡ h) (differ : HandlesDiffer texts) (puts : Puts texts texts' text o) (after : Recounted seats h holds holds' o) where
  sum_of_other : (j : Handle) → j ≢ h → sum_below seats (λ k. holds' k j) ≡ sum_below seats (λ k. holds k j)
  sum_of_other j other = sum_same seats (λ k. holds k j) (λ k. holds' k j) (λ k small. after.others k j other)

  other_handle : (q : List ℕ) (g : Entry) → q ≢ text → entry_of texts q ≡ Some g → g.handle ≢ h
  other_handle q g apart is same = apart (differ q text h (g, is, same) (e, has, own))

  balanced_live : Balanced seats texts holds → (q : List ℕ) (g : Entry) → entry_of texts' q ≡ Some g → g.count < 65535 → sum_below seats (λ k. holds' k g.handle) ≡ g.count
  balanced_live was q g is below = elim (text_cases q text) [
    | inl same ↦
        let here : o ≡ Some g = sym puts.here ∙ ap (entry_of texts') (sym same) ∙ is in
        ap (λ j. sum_below seats (λ k. holds' k j)) (after.own g here) ∙ after.live g here below
    | inr apart ↦
        let there : entry_of texts q ≡ Some g = sym (puts.other q apart) ∙ is in
        sum_of_other g.handle (other_handle q g apart there) ∙ was.live q g there below
  ]

  still_live : (j : Handle) → j ≢ h → IsLive texts j → IsLive texts' j
  still_live j other live = (live.0, (live.1.0, puts.other live.0 (λ same. other (moved live.1.0 (sym (ap (entry_of texts) same) ∙ live.1.1) live.1.2)) ∙ live.1.1, live.1.2))
    where
      moved : (g : Entry) → entry_of texts text ≡ Some g → g.handle ≡ j → j ≡ h
      moved g is at = let same : e ≡ g = cc in sym at ∙ ap (λ (x : Entry). x.handle) (sym same) ∙ own

  balanced_gone : Balanced seats texts holds → (j : Handle) → ¬ (IsLive texts' j) → sum_below seats (λ k. holds' k j) ≡ 0
  balanced_gone was j dead = elim (handle_cases j h) [
    | inl same ↦ ap (λ x. sum_below seats (λ k. holds' k x)) same ∙ after.gone (none same o refl)
    | inr other ↦ sum_of_other j other ∙ was.gone j (λ live. dead (still_live j other live))
  ]
    where
      none : j ≡ h → (x : Option Entry) → o ≡ x → o ≡ None
      none same None is = is
      none same (Some g) is = absurd (dead (text, (g, puts.here ∙ is, after.own g is ∙ sym same)))

  -- the ledger is in balance again
  pub balanced_after : Balanced seats texts holds → Balanced seats texts' holds'
  balanced_after was = record { live = balanced_live was; gone = balanced_gone was }

module _ (seats : ℕ) (texts : TextMap) (text : List ℕ) (e : Entry) (h : Handle) (i : ℕ) (holds : ℕ → Handle → ℕ)
    (small : i < seats) (has : entry_of texts text ≡ Some e) (own : e.handle ≡ h) (was : Balanced seats texts holds) where
  sum_was : e.count < 65535 → sum_below seats (λ k. holds k h) ≡ e.count
  sum_was below = ap (λ j. sum_below seats (λ k. holds k j)) (sym own) ∙ was.live text e has below

  hold_others : (number k : ℕ) (j : Handle) → j ≢ h → with_hold holds i h number k j ≡ holds k j
  hold_others number k j other = hold_of_other_handle holds i h number k j other

  entry_own : (x g : Entry) → x.handle ≡ e.handle → Some x ≡ Some g → g.handle ≡ h
  entry_own x g same is = let made : x ≡ g = cc in ap (λ (y : Entry). y.handle) (sym made) ∙ same ∙ own

  -- a seat takes one more hold
  pub take_recounted : Recounted seats h holds (with_hold holds i h (holds i h + 1)) (Some (raised e))
  take_recounted = record {
    others = hold_others (holds i h + 1);
    own = λ g is. entry_own (raised e) g refl is;
    live = λ g is below.
        let made : raised e ≡ g = cc in
        let count : min (e.count + 1) 65535 ≡ g.count = ap (λ (y : Entry). y.count) made in
        let before : sum_below seats (λ k. holds k h) ≡ e.count = sum_was (omega (arith, count, below)) in
        let changed : sum_below seats (λ k. with_hold holds i h (holds i h + 1) k h) + holds i h ≡ sum_below seats (λ k. holds k h) + (holds i h + 1) =
        held_changed seats holds i h (holds i h + 1) small in
        omega (arith, count, below, before, changed);
    gone = λ is. absurd (cc);
  }

  -- a seat drops one of its holds
  drop_sum : 1 ≤ holds i h → e.count < 65535 → sum_below seats (λ k. with_hold holds i h (holds i h - 1) k h) + 1 ≡ e.count
  drop_sum some below =
      let before : sum_below seats (λ k. holds k h) ≡ e.count = sum_was below in
      let changed : sum_below seats (λ k. with_hold holds i h (holds i h - 1) k h) + holds i h ≡ sum_below seats (λ k. holds k h) + (holds i h - 1) =
      held_changed seats holds i h (holds i h - 1) small in
      omega (arith, some, before, changed)

  drop_from : (o : Option Entry) → lowered e ≡ o → ((g : Entry) → o ≡ Some g → g.count < 65535 → sum_below seats (λ k. with_hold holds i h (holds i h - 1) k h) ≡ g.count)
      → (o ≡ None → sum_below seats (λ k. with_hold holds i h (holds i h - 1) k h) ≡ 0) → Recounted seats h holds (with_hold holds i h (holds i h - 1)) (lowered e)
  drop_from o is live gone = record {
    others = hold_others (holds i h - 1);
    own = λ g left. lowered_keeps e g left ∙ own;
    live = λ g left. live g (sym is ∙ left);
    gone = λ left. gone (sym is ∙ left);
  }

  pub drop_recounted : 1 ≤ holds i h → 1 ≤ e.count → e.count ≤ 65535 → Recounted seats h holds (with_hold holds i h (holds i h - 1)) (lowered e)
  drop_recounted some least most = elim (lowered_cases e least most) [
    | inl stays ↦ drop_from (Some e) stays.1
        (λ g is below. let same : e ≡ g = cc in let full : e.count ≡ 65535 = stays.0 in absurd (omega (arith, ap (λ (y : Entry). y.count) same, full, below)))
        (λ is. absurd (cc))
    | inr fewer ↦ elim fewer [
      | inl last ↦
          let one : e.count ≡ 1 = last.0 in
          drop_from None last.1 (λ g is. absurd (cc)) (λ is. let sum = drop_sum some (omega (arith, one)) in omega (arith, one, sum))
      | inr less ↦ drop_from (Some (record e { count = e.count - 1 })) less.1
          (λ g is below.
          let same : record e { count = e.count - 1 } ≡ g = cc in
          let count : e.count - 1 ≡ g.count = ap (λ (y : Entry). y.count) same in
          let sum = drop_sum some less.0 in
          omega (arith, count, sum))
          (λ is. absurd (cc))
    ]
  ]

  -- the count of an entry becomes one that nothing lowers
  pub perm_recounted : Recounted seats h holds holds (Some (made_permanent e))
  perm_recounted = record {
    others = λ k j other. refl;
    own = λ g is. entry_own (made_permanent e) g refl is;
    live = λ g is below.
        let made : made_permanent e ≡ g = cc in
        let count : 65535 ≡ g.count = ap (λ (y : Entry). y.count) made in
        absurd (omega (arith, count, below));
    gone = λ is. absurd (cc);
  }
