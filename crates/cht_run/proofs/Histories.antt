-- Histories: what their parts say of the whole.
use Rattle.std.proofs.Common.{◌≡◌, ℕ, ◌+◌, Bool, true, false, ◌||◌, nat_eq, List, [], ◌∷◌, ◌++◌, length, Option, Some, None, ◌⊎◌, inl, inr, refl, sym, ap, subst, ◌∙◌, arith}
use Rattle.std.proofs.lemmas.Bool.{eq-eqb, eqb-true}
use Rattle.std.proofs.lemmas.List.{append-nil, append_assoc}
use Rattle.std.proofs.lemmas.List.Elements.{All-nil, All-cons, All-append, All-head, All-tail, All-weaker, filter_map-append}
use Rattle.std.proofs.lemmas.List.Folds.{list_any-append}
use Rattle.std.specs.List.{All}
use Rattle.std.specs.Option.{option_to_list}
use Rattle.table_shape.specs.declared.shape.Shape.{Shape}
use Rattle.intern_log.specs.declared.event.What.{What}
use Rattle.intern_log.specs.Own.{is_among}
use Rattle.atomic_step.specs.declared.step.Step.{Step}
use Rattle.call_machine.specs.declared.machine.Machine.{Machine}
use Rattle.call_machine.specs.Machine.{event_of}
use Rattle.cht_core.specs.Invariant.{events_of}
use Rattle.cht_core.specs.State.{drawn_in}
use Rattle.cht_run.specs.declared.sight.Entry.{Entry}
use Rattle.cht_run.specs.declared.sight.Entry.TheVariants as entry
use Rattle.cht_run.specs.History.{event_in, number_in, log_of, draws_of, by_of, NoneBy, is_drawn, IsOrderlyFrom, IsOrderly, IsNumbered, IsOut, AreOut}
use Rattle.cht_run.specs.Told.{tells, drew, adds, kids_after}

-- THE LOG AND THE DRAWS

pub log-append : (xs ys : List Entry) → log_of (xs ++ ys) ≡ log_of xs ++ log_of ys
log-append xs ys = filter_map-append event_in xs ys

pub draws-append : (xs ys : List Entry) → draws_of (xs ++ ys) ≡ draws_of xs ++ draws_of ys
draws-append xs ys = filter_map-append number_in xs ys

log_told : (i : ℕ) (e : Option What) → log_of (tells i e) ≡ events_of i e
log_told i None = refl
log_told i (Some what) = refl

log_drawn : (i : ℕ) (number : Option ℕ) → log_of (drew i number) ≡ []
log_drawn i None = refl
log_drawn i (Some number) = refl

draws_told : (i : ℕ) (e : Option What) → draws_of (tells i e) ≡ []
draws_told i None = refl
draws_told i (Some what) = refl

draws_drawn : (i : ℕ) (number : Option ℕ) → draws_of (drew i number) ≡ option_to_list number
draws_drawn i None = refl
draws_drawn i (Some number) = refl

-- what a step adds
pub log_adds : (shape : Shape) (i : ℕ) (m : Machine) (s : Step) (word : ℕ) → log_of (adds shape i m s word) ≡ events_of i (event_of m word)
log_adds shape i m s word =
    log-append (tells i (event_of m word)) (drew i (drawn_in shape s word))
    ∙ ap (λ l. log_of (tells i (event_of m word)) ++ l) (log_drawn i (drawn_in shape s word)) ∙ append-nil (log_of (tells i (event_of m word))) ∙ log_told i (event_of m word)

pub draws_adds : (shape : Shape) (i : ℕ) (m : Machine) (s : Step) (word : ℕ) → draws_of (adds shape i m s word) ≡ option_to_list (drawn_in shape s word)
draws_adds shape i m s word =
    draws-append (tells i (event_of m word)) (drew i (drawn_in shape s word))
    ∙ ap (λ l. l ++ draws_of (drew i (drawn_in shape s word))) (draws_told i (event_of m word)) ∙ draws_drawn i (drawn_in shape s word)

pub log_more : (history : List Entry) (shape : Shape) (i : ℕ) (m : Machine) (s : Step) (word : ℕ) →
    log_of (history ++ adds shape i m s word) ≡ log_of history ++ events_of i (event_of m word)
log_more history shape i m s word = log-append history (adds shape i m s word) ∙ ap (λ l. log_of history ++ l) (log_adds shape i m s word)

pub draws_more : (history : List Entry) (shape : Shape) (i : ℕ) (m : Machine) (s : Step) (word : ℕ) →
    draws_of (history ++ adds shape i m s word) ≡ draws_of history ++ option_to_list (drawn_in shape s word)
draws_more history shape i m s word = draws-append history (adds shape i m s word) ∙ ap (λ l. draws_of history ++ l) (draws_adds shape i m s word)

-- NUMBERS

pub among_append : (xs ys : List ℕ) (n : ℕ) → is_among (xs ++ ys) n ≡ (is_among xs n || is_among ys n)
among_append xs ys n = list_any-append (nat_eq n) xs ys

pub among_left : (xs ys : List ℕ) (n : ℕ) → is_among xs n ≡ true → is_among (xs ++ ys) n ≡ true
among_left xs ys n is = among_append xs ys n ∙ ap (λ b. b || is_among ys n) is

or_true : (b : Bool) → (b || true) ≡ true
or_true true = refl
or_true false = refl

pub among_right : (xs ys : List ℕ) (n : ℕ) → is_among ys n ≡ true → is_among (xs ++ ys) n ≡ true
among_right xs ys n is = among_append xs ys n ∙ ap (λ b. is_among xs n || b) is ∙ or_true (is_among xs n)

pub among_here : (xs : List ℕ) (n : ℕ) → is_among (n ∷ xs) n ≡ true
among_here xs n = ap (λ b. b || is_among xs n) (eq-eqb n n refl)

-- of two lists, one has it
pub among_either : (a b : Bool) → (a || b) ≡ true → (a ≡ true) ⊎ (b ≡ true)
among_either true b is = inl refl
among_either false b is = inr is

pub drawn_still : (xs ys : List Entry) (n : ℕ) → is_drawn xs n ≡ true → is_drawn (xs ++ ys) n ≡ true
drawn_still xs ys n is = ap (λ l. is_among (0 ∷ l) n) (draws-append xs ys) ∙ among_left (0 ∷ draws_of xs) (draws_of ys) n is

-- WHOSE ENTRIES

abbrev IsBy : ℕ → Entry → Type 0
IsBy i e = by_of e ≡ i

told_by : (i : ℕ) (e : Option What) → All (IsBy i) (tells i e)
told_by i None = All-nil (IsBy i)
told_by i (Some what) = All-cons (IsBy i) (entry.Told (record { seat = i; what = what })) [] refl (All-nil (IsBy i))

drawn_by : (i : ℕ) (number : Option ℕ) → All (IsBy i) (drew i number)
drawn_by i None = All-nil (IsBy i)
drawn_by i (Some number) = All-cons (IsBy i) (entry.Drew i number) [] refl (All-nil (IsBy i))

adds_by : (shape : Shape) (i : ℕ) (m : Machine) (s : Step) (word : ℕ) → All (IsBy i) (adds shape i m s word)
adds_by shape i m s word = All-append (IsBy i) (tells i (event_of m word)) (drew i (drawn_in shape s word)) (told_by i (event_of m word)) (drawn_by i (drawn_in shape s word))

abbrev IsNone : List ℕ → Entry → Type 0
IsNone numbers e = is_among numbers (by_of e) ≡ false

pub none_adds : (numbers : List ℕ) (shape : Shape) (i : ℕ) (m : Machine) (s : Step) (word : ℕ) → is_among numbers i ≡ false → NoneBy numbers (adds shape i m s word)
none_adds numbers shape i m s word out = All-weaker (IsBy i) (IsNone numbers) (λ e is. ap (is_among numbers) is ∙ out) (adds shape i m s word) (adds_by shape i m s word)

pub none_append : (numbers : List ℕ) (xs ys : List Entry) → NoneBy numbers xs → NoneBy numbers ys → NoneBy numbers (xs ++ ys)
none_append numbers xs ys h k = All-append (IsNone numbers) xs ys h k

-- what holds of each of two lists
pub all_first : {A : Type 0} (P : A → Type 0) (xs ys : List A) → All P (xs ++ ys) → All P xs
all_first P [] ys all = All-nil P
all_first P (x ∷ xs) ys all = All-cons P x xs (All-head P x (xs ++ ys) all) (all_first P xs ys (All-tail P x (xs ++ ys) all))

pub all_second : {A : Type 0} (P : A → Type 0) (xs ys : List A) → All P (xs ++ ys) → All P ys
all_second P [] ys all = all
all_second P (x ∷ xs) ys all = all_second P xs ys (All-tail P x (xs ++ ys) all)

pub none_first : (numbers : List ℕ) (xs ys : List Entry) → NoneBy numbers (xs ++ ys) → NoneBy numbers xs
none_first numbers xs ys none = all_first (IsNone numbers) xs ys none

pub none_second : (numbers : List ℕ) (xs ys : List Entry) → NoneBy numbers (xs ++ ys) → NoneBy numbers ys
none_second numbers xs ys none = all_second (IsNone numbers) xs ys none

-- no entry is by nobody
pub none_by_none : (xs : List Entry) → NoneBy [] xs
none_by_none [] = All-nil (IsNone [])
none_by_none (e ∷ xs) = All-cons (IsNone []) e xs refl (none_by_none xs)

-- ORDER

known_more : (known : List ℕ) (e : Entry) (xs : List Entry) → (known ++ option_to_list (number_in e)) ++ draws_of xs ≡ known ++ draws_of (e ∷ xs)
known_more known (entry.Told e) xs = ap (λ l. l ++ draws_of xs) (append-nil known)
known_more known (entry.Drew by number) xs = append_assoc known (number ∷ []) (draws_of xs)

pub orderly_append : (known : List ℕ) (xs ys : List Entry) → IsOrderlyFrom known xs → IsOrderlyFrom (known ++ draws_of xs) ys → IsOrderlyFrom known (xs ++ ys)
orderly_append known [] ys h k = subst (λ l. IsOrderlyFrom l ys) (append-nil known) k
orderly_append known (e ∷ xs) ys h k =
    (h.0, orderly_append (known ++ option_to_list (number_in e)) xs ys h.1 (subst (λ l. IsOrderlyFrom l ys) (sym (known_more known e xs)) k))

pub orderly_part : (known : List ℕ) (xs ys : List Entry) → IsOrderlyFrom known (xs ++ ys) → IsOrderlyFrom (known ++ draws_of xs) ys
orderly_part known [] ys h = subst (λ l. IsOrderlyFrom l ys) (sym (append-nil known)) h
orderly_part known (e ∷ xs) ys h = subst (λ l. IsOrderlyFrom l ys) (known_more known e xs) (orderly_part (known ++ option_to_list (number_in e)) xs ys h.1)

pub orderly_first : (known : List ℕ) (xs ys : List Entry) → IsOrderlyFrom known (xs ++ ys) → IsOrderlyFrom known xs
orderly_first known [] ys h = tt
orderly_first known (e ∷ xs) ys h = (h.0, orderly_first (known ++ option_to_list (number_in e)) xs ys h.1)

orderly_by : (known : List ℕ) (i : ℕ) (xs : List Entry) → is_among known i ≡ true → All (IsBy i) xs → IsOrderlyFrom known xs
orderly_by known i [] has all = tt
orderly_by known i (e ∷ xs) has all =
    (ap (is_among known) (All-head (IsBy i) e xs all) ∙ has, orderly_by (known ++ option_to_list (number_in e)) i xs (among_left known (option_to_list (number_in e)) i has) (All-tail (IsBy i) e xs all))

pub orderly_more : (history : List Entry) (shape : Shape) (i : ℕ) (m : Machine) (s : Step) (word : ℕ) → IsOrderly history → is_drawn history i ≡ true → IsOrderly (history ++ adds shape i m s word)
orderly_more history shape i m s word orderly drawn =
    orderly_append (0 ∷ []) history (adds shape i m s word) orderly (orderly_by (0 ∷ draws_of history) i (adds shape i m s word) drawn (adds_by shape i m s word))

-- each entry is by a number that is drawn
pub orderly_drawn : (known : List ℕ) (xs : List Entry) → IsOrderlyFrom known xs → All (λ (e : Entry). is_among (known ++ draws_of xs) (by_of e) ≡ true) xs
orderly_drawn known [] orderly = All-nil (λ (e : Entry). is_among (known ++ []) (by_of e) ≡ true)
orderly_drawn known (e ∷ xs) orderly =
    All-cons (λ (x : Entry). is_among (known ++ draws_of (e ∷ xs)) (by_of x) ≡ true) e xs (among_left known (draws_of (e ∷ xs)) (by_of e) orderly.0)
    (subst (λ (l : List ℕ). All (λ (x : Entry). is_among l (by_of x) ≡ true) xs) (known_more known e xs) (orderly_drawn (known ++ option_to_list (number_in e)) xs orderly.1))

-- no entry is by a number that is not drawn
pub none_undrawn : (n : ℕ) (xs : List Entry) → IsOrderly xs → (is_drawn xs n ≡ true → ⊥) → NoneBy (n ∷ []) xs
none_undrawn n xs orderly not = All-weaker (λ (e : Entry). is_among (0 ∷ draws_of xs) (by_of e) ≡ true) (IsNone (n ∷ [])) (λ e is. go e is (nat_eq (by_of e) n) refl) xs (orderly_drawn (0 ∷ []) xs orderly)
  where
    go : (e : Entry) → is_among (0 ∷ draws_of xs) (by_of e) ≡ true → (b : Bool) → nat_eq (by_of e) n ≡ b → (nat_eq (by_of e) n || false) ≡ false
    go e is true same = absurd (not (ap (λ k. is_among (0 ∷ draws_of xs) k) (sym (eqb-true (by_of e) n same)) ∙ is))
    go e is false differ = ap (λ b. b || false) differ

-- the numbers go on from those that were drawn
pub numbered_more : (first : ℕ) (numbers : List ℕ) (n : ℕ) → IsNumbered first numbers → n ≡ first + length numbers → IsNumbered first (numbers ++ n ∷ [])
numbered_more first [] n numbered is = (omega (arith, is), tt)
numbered_more first (x ∷ numbers) n numbered is = (numbered.0, numbered_more (first + 1) numbers n numbered.1 (omega (arith, is)))

-- WHO IS OUT

out_of_none : (numbers kids : List ℕ) (e : Entry) → is_among numbers (by_of e) ≡ false → IsOut numbers kids e
out_of_none numbers kids (entry.Told e) none = tt
out_of_none numbers kids (entry.Drew by number) none = λ is. let never : true ≡ false = sym is ∙ none in absurd (cc)

pub out_since : (numbers kids : List ℕ) (xs ys : List Entry) → AreOut numbers kids xs → NoneBy numbers ys → AreOut numbers kids (xs ++ ys)
out_since numbers kids xs ys out none = All-append (IsOut numbers kids) xs ys out (All-weaker (IsNone numbers) (IsOut numbers kids) (λ e is. out_of_none numbers kids e is) ys none)

more_out : (numbers kids : List ℕ) (n : ℕ) (e : Entry) → IsOut numbers kids e → IsOut numbers (n ∷ kids) e
more_out numbers kids n (entry.Told e) out = tt
more_out numbers kids n (entry.Drew by number) out = λ is. elim (among_either (is_among numbers number) (is_among kids number) (sym (among_append numbers kids number) ∙ out is)) [
  | inl mine ↦ among_left numbers (n ∷ kids) number mine
  | inr kid ↦ among_right numbers (n ∷ kids) number (among_right (n ∷ []) kids number kid)
]

told_out : (numbers kids : List ℕ) (i : ℕ) (e : Option What) → AreOut numbers kids (tells i e)
told_out numbers kids i None = All-nil (IsOut numbers kids)
told_out numbers kids i (Some what) = All-cons (IsOut numbers kids) (entry.Told (record { seat = i; what = what })) [] tt (All-nil (IsOut numbers kids))

after_draw : (numbers kids : List ℕ) (i : ℕ) (number : Option ℕ) (xs : List Entry) (e : Option What) → AreOut numbers kids xs → AreOut numbers (kids_after number kids) (xs ++ (tells i e ++ drew i number))
after_draw numbers kids i None xs e out = All-append (IsOut numbers kids) xs (tells i e ++ []) out (All-append (IsOut numbers kids) (tells i e) [] (told_out numbers kids i e) (All-nil (IsOut numbers kids)))
after_draw numbers kids i (Some n) xs e out =
    All-append (IsOut numbers (n ∷ kids)) xs (tells i e ++ entry.Drew i n ∷ []) (All-weaker (IsOut numbers kids) (IsOut numbers (n ∷ kids)) (more_out numbers kids n) xs out)
    (All-append (IsOut numbers (n ∷ kids)) (tells i e) (entry.Drew i n ∷ []) (told_out numbers (n ∷ kids) i e)
    (All-cons (IsOut numbers (n ∷ kids)) (entry.Drew i n) [] (λ is. among_right numbers (n ∷ kids) n (among_here kids n)) (All-nil (IsOut numbers (n ∷ kids)))))

pub out_adds : (numbers kids : List ℕ) (history : List Entry) (shape : Shape) (i : ℕ) (m : Machine) (s : Step) (word : ℕ) → AreOut numbers kids history →
    AreOut numbers (kids_after (drawn_in shape s word) kids) (history ++ adds shape i m s word)
out_adds numbers kids history shape i m s word out = after_draw numbers kids i (drawn_in shape s word) history (event_of m word) out

-- A SEAT FROM WHICH NOBODY IS OUT

-- each of the known numbers is one of these
abbrev AllMine : List ℕ → List ℕ → Type 0
AllMine numbers known = (n : ℕ) → is_among known n ≡ true → is_among numbers n ≡ true

mine_more : (numbers known : List ℕ) (e : Entry) → AllMine numbers known → is_among known (by_of e) ≡ true → IsOut numbers [] e → AllMine numbers (known ++ option_to_list (number_in e))
mine_more numbers known (entry.Told e) mine by out n is = mine n (ap (λ l. is_among l n) (sym (append-nil known)) ∙ is)
mine_more numbers known (entry.Drew i number) mine by out n is = elim (among_either (is_among known n) (is_among (number ∷ []) n) (sym (among_append known (number ∷ []) n) ∙ is)) [
  | inl old ↦ mine n old
  | inr new ↦ elim (among_either (nat_eq n number) false new) [
    | inl same ↦ ap (is_among numbers) (eqb-true n number same) ∙ ap (λ l. is_among l number) (sym (append-nil numbers)) ∙ out (mine i by)
    | inr never ↦ absurd (cc)
  ]
]

all_mine : (numbers known : List ℕ) (xs : List Entry) → AllMine numbers known → IsOrderlyFrom known xs → AreOut numbers [] xs → AllMine numbers (known ++ draws_of xs)
all_mine numbers known [] mine orderly out n is = mine n (ap (λ l. is_among l n) (sym (append-nil known)) ∙ is)
all_mine numbers known (e ∷ xs) mine orderly out n is =
    all_mine numbers (known ++ option_to_list (number_in e)) xs (mine_more numbers known e mine orderly.0 (All-head (IsOut numbers []) e xs out)) orderly.1 (All-tail (IsOut numbers []) e xs out) n (ap (λ l. is_among l n) (known_more known e xs) ∙ is)

-- nothing has come since by anybody else
nothing_more : (numbers known : List ℕ) (ys : List Entry) → AllMine numbers known → IsOrderlyFrom known ys → NoneBy numbers ys → ys ≡ []
nothing_more numbers known [] mine orderly none = refl
nothing_more numbers known (e ∷ ys) mine orderly none =
    let never : true ≡ false = sym (mine (by_of e) orderly.0) ∙ All-head (IsNone numbers) e ys none in
    absurd (cc)

-- the first number is known from the beginning
first_mine : (numbers : List ℕ) → is_among numbers 0 ≡ true → AllMine numbers (0 ∷ [])
first_mine numbers root n is = elim (among_either (nat_eq n 0) false is) [ inl same ↦ ap (is_among numbers) (eqb-true n 0 same) ∙ root | inr never ↦ absurd (cc) ]

pub nothing_since : (numbers : List ℕ) (xs ys : List Entry) → IsOrderly (xs ++ ys) → AreOut numbers [] xs → NoneBy numbers ys → is_among numbers 0 ≡ true → ys ≡ []
nothing_since numbers xs ys orderly out none root =
    nothing_more numbers (0 ∷ draws_of xs) ys (all_mine numbers (0 ∷ []) xs (first_mine numbers root) (orderly_first (0 ∷ []) xs ys orderly) out) (orderly_part (0 ∷ []) xs ys orderly) none

-- each number that is drawn is one of these
pub has_all : (numbers : List ℕ) (xs : List Entry) (n : ℕ) → IsOrderly xs → AreOut numbers [] xs → is_among numbers 0 ≡ true → is_drawn xs n ≡ true → is_among numbers n ≡ true
has_all numbers xs n orderly out root drawn = all_mine numbers (0 ∷ []) xs (first_mine numbers root) orderly out n drawn

-- and all is by these numbers
pub all_by : (numbers : List ℕ) (xs : List Entry) → IsOrderly xs → AreOut numbers [] xs → is_among numbers 0 ≡ true → All (λ (e : Entry). is_among numbers (by_of e) ≡ true) xs
all_by numbers xs orderly out root =
    All-weaker (λ (e : Entry). is_among (0 ∷ draws_of xs) (by_of e) ≡ true) (λ (e : Entry). is_among numbers (by_of e) ≡ true)
    (λ e is. all_mine numbers (0 ∷ []) xs (first_mine numbers root) orderly out (by_of e) is) xs (orderly_drawn (0 ∷ []) xs orderly)
