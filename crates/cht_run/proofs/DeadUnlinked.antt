-- What was dead as a seat began its clean was unlinked since.
use Rattle.std.proofs.Common.{◌≡◌, ℕ, ◌<◌, ◌≤◌, Bool, true, false, cond, ◌==◌, length, List, [], ◌∷◌, ◌++◌, ⊎_elim, refl, sym, ap, subst, ◌∙◌, arith}
use Rattle.std.specs.List.{All}
use Rattle.std.proofs.lemmas.Bool.{cases_lt, eqb-true}
use Rattle.std.proofs.lemmas.List.Elements.{All-head, All-tail}
use Rattle.intern_log.specs.declared.event.Event.{Event}
use Rattle.intern_log.specs.declared.event.What.{What}
use Rattle.intern_log.specs.declared.event.What.TheVariants as what
use Rattle.cht_core.specs.declared.table.Table.{Table}
use Rattle.cht_core.specs.Passes.{is_taken, HasCleaned}
use Rattle.cht_core.specs.Past.{by}
use Rattle.cht_core.specs.Windows.{whats_by}
use Rattle.cht_run.specs.Waits.{UnlinksDead}
use Rattle.cht_run.proofs.Histories.{all_second}

-- the seat takes no resize lock there
abbrev IsNotTaken : ℕ → Event → Type 0
IsNotTaken i e = e.seat ≡ i → is_taken e.what ≡ false

-- an event that stands before the window has the window behind it
behind : (seen window front back : List Event) (x : Event) → seen ++ window ≡ front ++ x ∷ back → length front < length seen → (mid : List Event) × (back ≡ mid ++ window)
behind [] window front back x is less = absurd (omega (arith, less))
behind (e ∷ seen) window [] back x is less = (seen, sym (ap tail is))
  where
    tail : List Event → List Event
    tail [] = []
    tail (y ∷ ys) = ys
behind (e ∷ seen) window (f ∷ front) back x is less = behind seen window front back x (ap tail is) (omega (arith, less))
  where
    tail : List Event → List Event
    tail [] = []
    tail (y ∷ ys) = ys

-- where the seat takes none there is none of it
none_taken : (i : ℕ) (window : List Event) (did : List What) → All (IsNotTaken i) window → whats_by i window ≡ what.ResizeTaken ∷ did → ⊥
none_taken i [] did none is = absurd (cc)
none_taken i (e ∷ window) did none is = go (e.seat == i) refl is (none_taken i window did (All-tail (IsNotTaken i) e window none))
  where
    go : (b : Bool) → (e.seat == i) ≡ b → cond b (e.what ∷ whats_by i window) (whats_by i window) ≡ what.ResizeTaken ∷ did → (whats_by i window ≡ what.ResizeTaken ∷ did → ⊥) → ⊥
    go true same is rest =
        let taken : e.what ≡ what.ResizeTaken = cc in
        let never : true ≡ false = sym (ap is_taken taken) ∙ All-head (IsNotTaken i) e window none (eqb-true e.seat i same) in
        absurd (cc)
    go false differ is rest = rest is

pub unlinks_dead : (t : Table) (seen window : List Event) (i : ℕ) (did : List What) → HasCleaned t.shape.min_level (seen ++ window) i → whats_by i window ≡ what.ResizeTaken ∷ did → UnlinksDead t seen window
unlinks_dead t seen window i did (at, last, dead) own s text h born linked gone = dead seen window refl within s text h born linked gone tt
  where
    within : length seen ≤ at
    within = ⊎_elim
        (λ less. let place = last.place in let rest = behind seen window last.front last.back (by i what.ResizeTaken) last.stands (omega (arith, less, place)) in
        absurd (none_taken i window did (all_second (IsNotTaken i) rest.0 window (subst (All (IsNotTaken i)) rest.1 last.none)) own))
        (λ more. more)
        (cases_lt at (length seen))
