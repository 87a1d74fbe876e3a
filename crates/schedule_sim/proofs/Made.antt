-- What is printed of a move.
use Rattle.std.proofs.Common.{◌≡◌, ◌≤◌, ℕ, arith, List, ◌++◌, map, length, drop, refl, sym, ap, subst, ◌∙◌}
use Rattle.intern_log.specs.declared.event.Event.{Event}
use Rattle.cht_core.specs.declared.rehash.Rehashing.TheVariants as rehashing
use Rattle.cht_core.specs.declared.state.Stepped.{Stepped}
use Rattle.cht_core.specs.State.{Core, seat_in, StepsAs, RehashesAs}
use Rattle.schedule_sim.specs.PrintedLines.{Tells, lines_of}
use Rattle.schedule_sim.specs.Turns.{Steps, MakesAnew, Prints, answered}
use Rattle.std.proofs.lemmas.List.{length-append}
use Rattle.schedule_sim.proofs.Moves.{Grew, fresh, step_grows, rehash_grows}
use Rattle.schedule_sim.proofs.Texts.{more_lines}

new_events : (log later : List Event) (before : ℕ) (after : List Event) → before ≡ length log → after ≡ later → later ≡ log ++ drop (length log) later → later ≡ log ++ drop before after
new_events log later before after same_before same_after is = subst (λ b. later ≡ log ++ drop b after) (sym same_before) (subst (λ a. later ≡ log ++ drop (length log) a) (sym same_after) is)

pub step_made : (c d : Core) (k : ℕ) (said : Stepped) → StepsAs c k (seat_in c.seats k) said d → (before : ℕ) (old after : List Event) → before ≡ length old → old ≡ c.log → after ≡ d.log →
    (out mid new : List ℕ) → mid ≡ out ++ lines_of (map Tells (drop before after)) → new ≡ mid ++ lines_of (answered k said) →
    Prints (λ items. Steps c k d items) out new
step_made c d k said makes before old after is_before same_before same_after out mid new is_mid is_new =
    let events = drop before after in
    let grown : d.log ≡ c.log ++ events = new_events c.log d.log before after (is_before ∙ ap length same_before) same_after (fresh c.log d.log (step_grows c d k (seat_in c.seats k) said makes)) in
    (map Tells events ++ answered k said, record { said = said; made = makes; events = events; log = grown; printed = refl }, more_lines out mid new (map Tells events) (answered k said) is_mid is_new)

pub anew_made : (c d : Core) → RehashesAs c rehashing.Done d → (before : ℕ) (old after : List Event) → before ≡ length old → old ≡ c.log → after ≡ d.log →
    (out new : List ℕ) → new ≡ out ++ lines_of (map Tells (drop before after)) → Prints (λ items. MakesAnew c items d) out new
anew_made c d makes before old after is_before same_before same_after out new is =
    let events = drop before after in
    let grown : d.log ≡ c.log ++ events = new_events c.log d.log before after (is_before ∙ ap length same_before) same_after (fresh c.log d.log (rehash_grows c d makes)) in
    (map Tells events, record { made = makes; events = events; log = grown; printed = refl }, is)

-- the log has all that it had
pub has_log : (log later : List Event) → Grew log later → (old after : List Event) → old ≡ log → after ≡ later → length old ≤ length after
has_log log later (window, is) old after same_old same_after = longer log old after window same_old (same_after ∙ is)
  where
    longer : (log old after window : List Event) → old ≡ log → after ≡ log ++ window → length old ≤ length after
    longer log old after window one two = rw one (rw two (rw (length-append log window) (omega arith)))
