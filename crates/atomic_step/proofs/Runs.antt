-- What follows the events of each step follows those of a whole run.
use Rattle.std.proofs.Common.{◌≡◌, ◌∙◌, ℕ, ◌+◌, ◌<◌, ◌≤◌, Option, Some, None, refl, ap, List, [], ◌∷◌, ◌++◌, length, Bool, true, false, cond, arith}
use Rattle.std.specs.Option.{option_to_list}
use Rattle.intern_log.specs.declared.event.What.{What}
use Rattle.atomic_step.specs.Monitor.{after_one, after_all}
use Rattle.atomic_step.specs.Run.{Machine, AreFitting, after_words, events_of_words, cost_of_words}

after_more : {F : Type 0} (m : F → What → Option F) (f g : F) (e : Option What) (events : List What) → after_one m f e ≡ Some g → after_all m (Some f) (option_to_list e ++ events) ≡ after_all m (Some g) events
after_more m f g None events is = ap (λ o. after_all m o events) is
after_more m f g (Some e) events is = ap (λ o. after_all m o events) is

-- what each step keeps, a run does
pub keeps : {S : Type 0} (machine : Machine S) (Keeps : S → Type 0) → ((s : S) (word : ℕ) → Keeps s → machine.Fits s word → Keeps (machine.got s word))
    → (s : S) (words : List ℕ) → Keeps s → AreFitting machine s words → Keeps (after_words machine s words)
keeps machine Keeps step s [] so fits = so
keeps machine Keeps step s (word ∷ words) so fits = keeps machine Keeps step (machine.got s word) words (step s word so fits.0) fits.1

pub follows : {S F : Type 0} (machine : Machine S) (m : F → What → Option F) (seen : S → F) (Keeps : S → Type 0)
    → ((s : S) (word : ℕ) → Keeps s → machine.Fits s word → Keeps (machine.got s word))
    → ((s : S) (word : ℕ) → Keeps s → machine.Fits s word → after_one m (seen s) (machine.event s word) ≡ Some (seen (machine.got s word)))
    → (s : S) (words : List ℕ) → Keeps s → AreFitting machine s words → after_all m (Some (seen s)) (events_of_words machine s words) ≡ Some (seen (after_words machine s words))
follows machine m seen Keeps keeps step s [] so fits = refl
follows machine m seen Keeps keeps step s (word ∷ words) so fits =
    after_more m (seen s) (seen (machine.got s word)) (machine.event s word) (events_of_words machine (machine.got s word) words) (step s word so fits.0)
    ∙ follows machine m seen Keeps keeps step (machine.got s word) words (keeps s word so fits.0) fits.1

-- an event and what comes next, by one test
pub same_way : {A B C : Type 0} (f : A → C) (g : B → C) (b : Bool) (x y : A) (u v : B) → f x ≡ g u → f y ≡ g v → f (cond b x y) ≡ g (cond b u v)
same_way f g true x y u v p r = p
same_way f g false x y u v p r = r

-- what each step spends, a run does
pub spends : {S : Type 0} (machine : Machine S) (cost : S → ℕ → ℕ) (left : S → ℕ) (Keeps : S → Type 0)
    → ((s : S) (word : ℕ) → Keeps s → machine.Fits s word → Keeps (machine.got s word))
    → ((s : S) (word : ℕ) → Keeps s → machine.Fits s word → cost s word + left (machine.got s word) ≤ left s)
    → (s : S) (words : List ℕ) → Keeps s → AreFitting machine s words → cost_of_words machine cost s words + left (after_words machine s words) ≤ left s
spends machine cost left Keeps keeps step s [] so fits = omega arith
spends machine cost left Keeps keeps step s (word ∷ words) so fits =
    let now : cost s word + left (machine.got s word) ≤ left s = step s word so fits.0 in
    let later : cost_of_words machine cost (machine.got s word) words + left (after_words machine (machine.got s word) words) ≤ left (machine.got s word) =
    spends machine cost left Keeps keeps step (machine.got s word) words (keeps s word so fits.0) fits.1 in
    omega (arith, now, later)

-- where each step lowers a measure, a run has at most so many steps as it was at first
pub falls : {S : Type 0} (machine : Machine S) (left : S → ℕ) (Keeps : S → Type 0)
    → ((s : S) (word : ℕ) → Keeps s → machine.Fits s word → Keeps (machine.got s word))
    → ((s : S) (word : ℕ) → Keeps s → machine.Fits s word → left (machine.got s word) < left s)
    → (s : S) (words : List ℕ) → Keeps s → AreFitting machine s words → length words + left (after_words machine s words) ≤ left s
falls machine left Keeps keeps step s [] so fits = omega arith
falls machine left Keeps keeps step s (word ∷ words) so fits =
    let now : left (machine.got s word) < left s = step s word so fits.0 in
    let later : length words + left (after_words machine (machine.got s word) words) ≤ left (machine.got s word) =
    falls machine left Keeps keeps step (machine.got s word) words (keeps s word so fits.0) fits.1 in
    omega (arith, now, later)
