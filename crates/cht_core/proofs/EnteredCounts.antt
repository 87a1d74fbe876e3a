-- Distinct slots that are linked with texts of a bucket were entered by as many events of the log.
use Rattle.std.proofs.Common.{◌≡◌, ◌⊎◌, Bool, true, false, cond, ℕ, suc, ◌+◌, ◌<◌, ◌≤◌, inl, inr, List, [], ◌∷◌, ◌++◌, length, refl, sym, ap, subst, ◌∙◌, arith}
use Rattle.std.specs.Prelude.{nat_eq, nat_lt}
use Rattle.std.proofs.lemmas.Bool.{cases_eq, cases_lt, eq-eqb, ne_eqb, lt-ltb, le-ltb}
use Rattle.std.proofs.lemmas.List.{append-nil}
use Rattle.std.proofs.lemmas.List.Sums.{sum_by-append}
use Rattle.chain_core.specs.Nodes.{On, Once}
use Rattle.chain_core.specs.Path.{without}
use Rattle.chain_core.proofs.Members.{without-absent, without-here, without-other, on_or_not}
use Rattle.text_words.specs.Hash.{hash_of}
use Rattle.intern_log.specs.declared.event.Event.{Event}
use Rattle.intern_log.specs.declared.event.Handle.{Handle}
use Rattle.intern_log.specs.declared.event.What.{What}
use Rattle.intern_log.specs.declared.event.What.TheVariants as what
use Rattle.intern_log.specs.Counts.{is_create, events_in}
use Rattle.intern_log.specs.Now.{Now, Claimed, Vacant, Linked, Unlinked, now_of, changed_by}
use Rattle.intern_log.proofs.OneMore.{now_of-one_more, count-one_more}
use Rattle.cht_core.specs.Graces.{creates_in, entered_in, entered_below, enters, enters_below}
use Rattle.cht_core.specs.Stage.{bucket_in}
use Rattle.cht_core.proofs.Basics.{with_here, with_other}
use Rattle.cht_core.proofs.Withouts.{on_within, once_without}

-- LOGS

-- what holds of no events, and of one more wherever it holds of some, holds of each log
pub by_last : (P : List Event → Type 0) → P [] → ((log : List Event) (e : Event) → P log → P (log ++ e ∷ [])) → (log : List Event) → P log
by_last P none more log = go [] none log
  where
    one_over : (front : List Event) (e : Event) (rest : List Event) → (front ++ e ∷ []) ++ rest ≡ front ++ e ∷ rest
    one_over [] e rest = refl
    one_over (x ∷ front) e rest = ap (λ (events : List Event). x ∷ events) (one_over front e rest)

    go : (front : List Event) → P front → (rest : List Event) → P (front ++ rest)
    go front so [] = subst P (sym (append-nil front)) so
    go front so (e ∷ rest) = subst P (one_over front e rest) (go (front ++ e ∷ []) (more front e so) rest)

-- a longer log has no fewer events of a kind
pub no_fewer : (test : What → Bool) (log more : List Event) → events_in test log ≤ events_in test (log ++ more)
no_fewer test log more =
    let sum : events_in test (log ++ more) ≡ events_in test log + events_in test more = sum_by-append (λ (e : Event). cond (test e.what) 1 0) log more in
    omega (arith, sum)

abbrev one_if : Bool → ℕ
one_if b = cond b 1 0

module _ (seed level b : ℕ) where
  -- the entries of buckets below one and those of that one are of buckets below the next one
  below_at_event : (w : What) → one_if (enters_below seed level b w) + one_if (enters seed level b w) ≤ one_if (enters_below seed level (b + 1) w)
  below_at_event (what.Create text h) = go (bucket_in level (hash_of seed text)) (cases_lt (bucket_in level (hash_of seed text)) b)
    where
      go : (c : ℕ) → (c < b) ⊎ (b ≤ c) → one_if (nat_lt c b) + one_if (nat_eq c b) ≤ one_if (nat_lt c (b + 1))
      go c (inl less) =
          let one : one_if (nat_lt c b) ≡ 1 = ap one_if (lt-ltb c b less) in
          let two : one_if (nat_eq c b) ≡ 0 = ap one_if (ne_eqb c b (λ same. omega (arith, same, less))) in
          let all : one_if (nat_lt c (b + 1)) ≡ 1 = ap one_if (lt-ltb c (b + 1) (omega (arith, less))) in
          omega (arith, one, two, all)
      go c (inr more) =
          let one : one_if (nat_lt c b) ≡ 0 = ap one_if (le-ltb c b more) in
          elim (cases_eq c b) [
            | inl same ↦ (
                let two : one_if (nat_eq c b) ≡ 1 = ap one_if (eq-eqb c b same) in
                let all : one_if (nat_lt c (b + 1)) ≡ 1 = ap one_if (lt-ltb c (b + 1) (omega (arith, same))) in
                omega (arith, one, two, all))
            | inr differ ↦ (
                let two : one_if (nat_eq c b) ≡ 0 = ap one_if (ne_eqb c b differ) in
                omega (arith, one, two))
          ]
  below_at_event _ = omega arith

  pub below_and_in : (log : List Event) → entered_below seed level b log + entered_in seed level b log ≤ entered_below seed level (b + 1) log
  below_and_in = by_last (λ log. entered_below seed level b log + entered_in seed level b log ≤ entered_below seed level (b + 1) log) (omega arith) (λ log e less.
      let one = count-one_more (enters_below seed level b) log e in
      let two = count-one_more (enters seed level b) log e in
      let all = count-one_more (enters_below seed level (b + 1)) log e in
      let here = below_at_event e.what in
      omega (arith, less, one, two, all, here))

  -- they are at most all entries
  created_event : (w : What) → one_if (enters_below seed level b w) ≤ one_if (is_create w)
  created_event (what.Create text h) = go (nat_lt (bucket_in level (hash_of seed text)) b)
    where
      go : (y : Bool) → one_if y ≤ 1
      go true = omega arith
      go false = omega arith
  created_event _ = omega arith

  pub below_at_most : (log : List Event) → entered_below seed level b log ≤ creates_in log
  below_at_most = by_last (λ log. entered_below seed level b log ≤ creates_in log) (omega arith) (λ log e less.
      let one = count-one_more (enters_below seed level b) log e in
      let all = count-one_more is_create log e in
      let here = created_event e.what in
      omega (arith, less, one, all, here))

-- SLOTS

-- a slot that is linked after an event was linked before it, or the event made its entry
pub linked_before : (n : Now) (i : ℕ) (w : What) (s : ℕ) (text : List ℕ) (h : Handle) (at : ℕ) → (changed_by n i w).slot s ≡ Linked text h at → (n.slot s ≡ Linked text h at) ⊎ ((w ≡ what.Create text h) × (h.slot ≡ s))
linked_before n i (what.Create a k) s text h at is = elim (cases_eq s k.slot) [
  | inl same ↦ (
      let both : Linked a k n.place ≡ Linked text h at = sym (with_here n.slot k.slot (Linked a k n.place) s same) ∙ is in
      let handles : k ≡ h = cc in
      inr (cc, ap (λ (x : Handle). x.slot) (sym handles) ∙ sym same))
  | inr differ ↦ inl (sym (with_other n.slot k.slot (Linked a k n.place) s differ) ∙ is)
]
linked_before n i (what.Claim x) s text h at is = elim (cases_eq s x) [
  | inl same ↦ absurd (let both : Claimed i ≡ Linked text h at = sym (with_here n.slot x (Claimed i) s same) ∙ is in cc)
  | inr differ ↦ inl (sym (with_other n.slot x (Claimed i) s differ) ∙ is)
]
linked_before n i (what.Free x) s text h at is = elim (cases_eq s x) [
  | inl same ↦ absurd (let both : Vacant ≡ Linked text h at = sym (with_here n.slot x Vacant s same) ∙ is in cc)
  | inr differ ↦ inl (sym (with_other n.slot x Vacant s differ) ∙ is)
]
linked_before n i (what.Unlink x) s text h at is = elim (cases_eq s x) [
  | inl same ↦ absurd (let both : Unlinked i n.place ≡ Linked text h at = sym (with_here n.slot x (Unlinked i n.place) s same) ∙ is in cc)
  | inr differ ↦ inl (sym (with_other n.slot x (Unlinked i n.place) s differ) ∙ is)
]
linked_before n i _ s text h at is = inl is

-- a list on which no node is twice is one longer than without one of its nodes
pub one_shorter : (x : ℕ) (nodes : List ℕ) → Once nodes → On x nodes → length nodes ≡ length (without x nodes) + 1
one_shorter x [] once on = absurd on
one_shorter x (y ∷ nodes) once on = elim (cases_eq y x) [
  | inl same ↦ (
      let off : On x nodes → ⊥ = subst (λ (a : ℕ). On a nodes → ⊥) same once.0 in
      let rest : without x (y ∷ nodes) ≡ nodes = ap (λ (a : ℕ). without x (a ∷ nodes)) same ∙ without-here x nodes ∙ without-absent x nodes off in
      let count : length (without x (y ∷ nodes)) ≡ length nodes = ap (λ (l : List ℕ). length l) rest in
      omega (arith, count))
  | inr differ ↦ elim on [
    | inl here ↦ absurd (differ here)
    | inr later ↦ (
        let rest : length nodes ≡ length (without x nodes) + 1 = one_shorter x nodes once.1 later in
        let count : length (without x (y ∷ nodes)) ≡ suc (length (without x nodes)) = ap (λ (l : List ℕ). length l) (without-other x y nodes differ) in
        omega (arith, rest, count))
  ]
]

-- the slot is linked with a text of the bucket
abbrev pub IsIn : ℕ → ℕ → ℕ → Now → ℕ → Type 0
IsIn seed level b n s = (text : List ℕ) × (h : Handle) × (at : ℕ) × (n.slot s ≡ Linked text h at) × (bucket_in level (hash_of seed text) ≡ b)

module _ (min_level seed level b : ℕ) where
  abbrev AreEntered : List Event → Type 0
  AreEntered log = (slots : List ℕ) → Once slots → ((s : ℕ) → On s slots → IsIn seed level b (now_of min_level log) s) → length slots ≤ entered_in seed level b log

  none_entered : AreEntered []
  none_entered [] once linked = omega arith
  none_entered (x ∷ slots) once linked = absurd (let vacant = (linked x (inl refl)).3 in cc)

  -- those that are linked after an event were linked before it, but for at most one that the event enters
  after_event : (log : List Event) (i : ℕ) (w : What) → AreEntered log → (slots : List ℕ) → Once slots
      → ((s : ℕ) → On s slots → (text : List ℕ) × (h : Handle) × (at : ℕ) × ((changed_by (now_of min_level log) i w).slot s ≡ Linked text h at) × (bucket_in level (hash_of seed text) ≡ b))
      → length slots ≤ entered_in seed level b log + one_if (enters seed level b w)
  after_event log i (what.Create a k) before slots once linked = elim (on_or_not slots k.slot) [
    | inl on ↦ (
        let there = linked k.slot on in
        let both : Linked a k (now_of min_level log).place ≡ Linked there.0 there.1 there.2 = sym (with_here (now_of min_level log).slot k.slot (Linked a k (now_of min_level log).place) k.slot refl) ∙ there.3 in
        let texts : a ≡ there.0 = cc in
        let mine : bucket_in level (hash_of seed a) ≡ b = ap (λ (t : List ℕ). bucket_in level (hash_of seed t)) texts ∙ there.4 in
        let one : one_if (enters seed level b (what.Create a k)) ≡ 1 = ap one_if (eq-eqb (bucket_in level (hash_of seed a)) b mine) in
        let others : length (without k.slot slots) ≤ entered_in seed level b log = before (without k.slot slots) (once_without k.slot slots once) (λ s rest.
        let was = on_within k.slot s slots rest in
        let l = linked s was.0 in
        elim (linked_before (now_of min_level log) i (what.Create a k) s l.0 l.1 l.2 l.3) [
          | inl old ↦ (l.0, l.1, l.2, old, l.4)
          | inr new ↦ absurd (was.1 (let handles : k ≡ l.1 = cc in sym new.1 ∙ ap (λ (x : Handle). x.slot) (sym handles)))
        ]) in
        let size = one_shorter k.slot slots once on in
        omega (arith, one, others, size))
    | inr off ↦ (
        let all : length slots ≤ entered_in seed level b log = before slots once (λ s on.
        let l = linked s on in
        elim (linked_before (now_of min_level log) i (what.Create a k) s l.0 l.1 l.2 l.3) [
          | inl old ↦ (l.0, l.1, l.2, old, l.4)
          | inr new ↦ absurd (off (let handles : k ≡ l.1 = cc in subst (λ (x : ℕ). On x slots) (sym (ap (λ (x : Handle). x.slot) handles ∙ new.1)) on))
        ]) in
        omega (arith, all))
  ]
  after_event log i w before slots once linked =
      let all : length slots ≤ entered_in seed level b log = before slots once (λ s on.
      let l = linked s on in
      elim (linked_before (now_of min_level log) i w s l.0 l.1 l.2 l.3) [
        | inl old ↦ (l.0, l.1, l.2, old, l.4)
        | inr new ↦ absurd (cc)
      ]) in
      omega (arith, all)

  -- distinct slots that are linked with texts of a bucket are no more than the entries that were made of such texts
  pub are_entered : (log : List Event) → AreEntered log
  are_entered = by_last AreEntered none_entered (λ log e before slots once linked.
      let more = count-one_more (enters seed level b) log e in
      let most = after_event log e.seat e.what before slots once (λ s on.
      subst (λ (n : Now). IsIn seed level b n s) (now_of-one_more min_level log e) (linked s on)) in
      omega (arith, more, most))
