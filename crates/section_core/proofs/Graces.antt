-- What each call makes of the graces, which are computed from what the sections remember.
use Rattle.std.proofs.Common.{◌≡◌, ◌<◌, ◌≤◌, ◌+◌, ℕ, zero, suc, List, [], ◌∷◌, ◌++◌, ⊎_elim, length, get_or, map, Option, Some, None, IfSome, refl, sym, ap, ◌∙◌, set, Bool, true, false}
use native.Mathlib.Omega.{arith}
use Rattle.std.specs.List.{All, slice_get}
use Rattle.std.specs.Option.{is_some, option_map}
use Rattle.std.proofs.lemmas.List.{map-set, map-append, length-append}
use Rattle.std.proofs.lemmas.List.Elements.{All-head, All-tail}
use Rattle.std.proofs.lemmas.Bool.{le-leb, lt-leb, cases_lt}
use Rattle.std.proofs.lemmas.Option.{slice_get-map, slice_get-get_or, slice_get_past, get_or_from_slice_get}
use Rattle.std.proofs.Math.Seq.{map-set_same, get_or-append_seam}
use Rattle.std.proofs.Math.ListN.{get_or-append}
use Rattle.section_core.specs.Sections.{was_inside, graces_of}

pub length-graces_of : (number : ℕ) (entered : List (Option ℕ)) → length (graces_of number entered) ≡ number
length-graces_of zero entered = refl
length-graces_of (suc number) entered =
    let parts = length-append (graces_of number entered) (map (was_inside number) entered ∷ []) in
    let rest = length-graces_of number entered in
    omega (arith, parts, rest)

-- what one grace waits for
pub grace_at : (count number : ℕ) (entered : List (Option ℕ)) → number < count → get_or (graces_of count entered) number [] ≡ map (was_inside number) entered
grace_at zero number entered below = absurd (omega (arith, below))
grace_at (suc count) number entered below =
    let size = length-graces_of count entered in
    let last : List Bool = map (was_inside count) entered in
    ⊎_elim
    (λ earlier. get_or-append (graces_of count entered) (last ∷ []) [] number (omega (arith, earlier, size)) ∙ grace_at count number entered earlier)
    (λ not_earlier.
    let here : number ≡ count = omega (arith, below, not_earlier) in
    let at : number ≡ length (graces_of count entered) = omega (arith, here, size) in
    ap (λ n. get_or (graces_of count entered ++ last ∷ []) n []) at ∙ get_or-append_seam (graces_of count entered) last [] [] ∙ ap (λ n. map (was_inside n) entered) (sym here))
    (cases_lt number count)

-- a section that is entered after each grace began is waited for by none of them
pub graces-entered : (count begun seat : ℕ) (entered : List (Option ℕ)) → count ≤ begun → get_or entered seat None ≡ None → graces_of count (set entered seat (Some begun)) ≡ graces_of count entered
graces-entered zero begun seat entered within closed = refl
graces-entered (suc count) begun seat entered within closed =
    let later : was_inside count (Some begun) ≡ false = lt-leb begun count (omega (arith, within)) in
    let before : was_inside count (get_or entered seat None) ≡ false = ap (was_inside count) closed in
    let rest = graces-entered count begun seat entered (omega (arith, within)) closed in
    let last = map-set_same (was_inside count) entered seat (Some begun) None (later ∙ sym before) in
    ap (λ front. front ++ map (was_inside count) (set entered seat (Some begun)) ∷ []) rest ∙ ap (λ l. graces_of count entered ++ l ∷ []) last

-- a section that is left is waited for by none
pub graces-left : (count seat : ℕ) (entered : List (Option ℕ)) → graces_of count (set entered seat None) ≡ map (λ grace. set grace seat false) (graces_of count entered)
graces-left zero seat entered = refl
graces-left (suc count) seat entered =
    let rest = graces-left count seat entered in
    let last = map-set (was_inside count) entered seat None in
    let parts = map-append (λ (grace : List Bool). set grace seat false) (graces_of count entered) (map (was_inside count) entered ∷ []) in
    ap (λ front. front ++ map (was_inside count) (set entered seat None) ∷ []) rest ∙ ap (λ l. map (λ grace. set grace seat false) (graces_of count entered) ++ l ∷ []) last ∙ sym parts

-- a grace that begins now waits for each open section
pub inside-all : (begun : ℕ) (entered : List (Option ℕ)) → All (λ section. IfSome section (λ before. before ≤ begun)) entered → map (was_inside begun) entered ≡ map is_some entered
inside-all begun [] all = refl
inside-all begun (None ∷ entered) all = ap (λ l. false ∷ l) (inside-all begun entered (All-tail (λ section. IfSome section (λ before. before ≤ begun)) None entered all))
inside-all begun (Some before ∷ entered) all =
    let within : was_inside begun (Some before) ≡ true = le-leb before begun (All-head (λ section. IfSome section (λ b. b ≤ begun)) (Some before) entered all) in
    ap (λ b. b ∷ map (was_inside begun) entered) within ∙ ap (λ l. true ∷ l) (inside-all begun entered (All-tail (λ section. IfSome section (λ b. b ≤ begun)) (Some before) entered all))

pub graces-begun : (begun : ℕ) (entered : List (Option ℕ)) → All (λ section. IfSome section (λ before. before ≤ begun)) entered →
    graces_of (begun + 1) entered ≡ graces_of begun entered ++ map is_some entered ∷ []
graces-begun begun entered all =
    let next : begun + 1 ≡ suc begun = omega arith in
    ap (λ n. graces_of n entered) next ∙ ap (λ l. graces_of begun entered ++ l ∷ []) (inside-all begun entered all)

-- a seat whose section is closed remembers nothing
is_closed : (section : Option (Option ℕ)) → option_map is_some section ≡ Some false → section ≡ Some None
is_closed None is = absurd (cc)
is_closed (Some None) is = refl
is_closed (Some (Some before)) is = absurd (cc)

pub closed_remembers : (entered : List (Option ℕ)) (seat : ℕ) → slice_get (map is_some entered) seat ≡ Some false → get_or entered seat None ≡ None
closed_remembers entered seat closed =
    let is = is_closed (slice_get entered seat) (sym (slice_get-map is_some entered seat) ∙ closed) in
    get_or_from_slice_get entered seat None None is

-- whether a grace waits for a seat, by what its section remembers
pub waits_is : (count number seat : ℕ) (entered : List (Option ℕ)) → number < count → seat < length entered →
    slice_get (get_or (graces_of count entered) number []) seat ≡ Some (was_inside number (get_or entered seat None))
waits_is count number seat entered below within =
    ap (λ l. slice_get l seat) (grace_at count number entered below) ∙ slice_get-map (was_inside number) entered seat ∙ ap (option_map (was_inside number)) (slice_get-get_or entered seat None within)

pub waits_past : (count number seat : ℕ) (entered : List (Option ℕ)) → number < count → length entered ≤ seat → slice_get (get_or (graces_of count entered) number []) seat ≡ None
waits_past count number seat entered below past =
    ap (λ l. slice_get l seat) (grace_at count number entered below) ∙ slice_get-map (was_inside number) entered seat ∙ ap (option_map (was_inside number)) (slice_get_past entered seat past)

-- what a search of the seats has found so far
pub no_wait : (count number seat : ℕ) (entered : List (Option ℕ)) → number < count → (seat < length entered → was_inside number (get_or entered seat None) ≡ false) →
    slice_get (get_or (graces_of count entered) number []) seat ≡ Some true → ⊥
no_wait count number seat entered below none waits = ⊎_elim
    (λ within. let at = waits_is count number seat entered below within in let is = none within in absurd (cc))
    (λ past. let at = waits_past count number seat entered below past in absurd (cc))
    (cases_lt seat (length entered))
