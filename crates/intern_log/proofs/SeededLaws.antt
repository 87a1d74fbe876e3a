-- The seed of a log, and that a lawful log is seeded.
use Rattle.std.proofs.Common.{◌≡◌, ℕ, ◌+◌, ◌≤◌, false, List, [], ◌∷◌, ◌↔◌, refl, sym, ap, subst, ◌∙◌}
use native.Mathlib.Omega.{arith}
use Rattle.std.specs.List.{list_any}
use Rattle.intern_log.specs.declared.event.Event.{Event}
use Rattle.intern_log.specs.declared.event.What.{What}
use Rattle.intern_log.specs.declared.event.What.TheVariants.{Rehash}
use Rattle.intern_log.specs.declared.event.TableKind.{TableKind}
use Rattle.intern_log.specs.TextMap.{IsLive}
use Rattle.intern_log.specs.Log.{map_of}
use Rattle.intern_log.specs.Now.{Now, opening, changed_by, now_after_event, now_after, now_of}
use Rattle.intern_log.specs.Lawful.{IsLinkedDead, IsQuiet, MayFollow, IsLawful}
use Rattle.intern_log.specs.Sections.{with_event}
use Rattle.intern_log.specs.Seeded.{seed_after_event, seed_after, IsDeadIn, IsIdleIn, IsSeeded}
use Rattle.intern_log.specs.Touches.{is_rehash}
use Rattle.intern_log.proofs.LawfulLaws.{texts-now_after, IsLawful-prefix}
use Rattle.intern_log.proofs.Slots.{neither}
use Rattle.intern_log.proofs.Graced.{said}
use Rattle.intern_log.proofs.OrderlyLaws.{carried, at_event}
use Rattle.intern_log.proofs.Careful.{linked_dead}
use Rattle.intern_log.proofs.SlotPhases.{linked_slot}
use Rattle.intern_log.proofs.NowLaws.{no_section_of_log, no_lock_of_log, no_resizing_of_log}
use Rattle.intern_log.proofs.Stays.{seed_unchanged}

seed-event : (now : Now) (seat : ℕ) (what : What) → (changed_by now seat what).seed ≡ seed_after_event now.seed what
seed-event now seat (Rehash n) = refl
seed-event now seat _ = refl

-- the seed of a log is that of its last Rehash
pub seed_is : (now : Now) (log : List Event) → (now_after now log).seed ≡ seed_after now.seed log
seed_is now [] = refl
seed_is now (e ∷ log) = seed_is (now_after_event now e) log ∙ ap (λ seed. seed_after seed log) (seed-event now e.seat e.what)

pub seed_kept : (now : Now) (log : List Event) → list_any (λ (e : Event). is_rehash e.what) log ≡ false → (now_after now log).seed ≡ now.seed
seed_kept now [] none = refl
seed_kept now (e ∷ log) none =
    let parts = neither (is_rehash e.what) _ none in
    seed_kept (now_after_event now e) log parts.1 ∙ seed_unchanged now e.seat e.what parts.0

pub last_seed : (min_level : ℕ) (log front back : List Event) (k seed : ℕ) → log ≡ with_event front k (Rehash seed) back →
    list_any (λ (e : Event). is_rehash e.what) back ≡ false → (now_of min_level log).seed ≡ seed
last_seed min_level log front back k seed is none =
    ap (λ l. (now_of min_level l).seed) is
    ∙ ap (λ (n : Now). n.seed) (said (opening min_level) front k (Rehash seed) back)
    ∙ seed_kept (now_after_event (now_of min_level front) (record { seat = k; what = Rehash seed })) back none

seed-bound : (table : TableKind) (now : Now) (seat : ℕ) (what : What) → MayFollow table now seat what → now.seed ≤ 2 → (changed_by now seat what).seed ≤ 2
seed-bound table now seat (Rehash n) may bound = may.2
seed-bound table now seat _ may bound = bound

pub seed_most : (table : TableKind) (log : List Event) → IsLawful table log → (now_of table.min_level log).seed ≤ 2
seed_most table log lawful =
    carried table (λ done now. now.seed ≤ 2) (λ done now e may bound. seed-bound table now e.seat e.what may bound) [] log (opening table.min_level) lawful.allowed (omega arith)

-- a slot that is linked and dead by the log's words is so by what the log says, and the other way round
dead_is : (table : TableKind) (log : List Event) (s : ℕ) → IsLawful table log → IsDeadIn log s ↔ IsLinkedDead (now_of table.min_level log) ((now_of table.min_level log).slot s)
dead_is table log s lawful = (
  (λ (text, h, linked, gone).
      let there = (linked_slot table log s text h linked.0 lawful).1 linked.1 in
      let dead : ¬ (IsLive ((now_of table.min_level log).texts) h) = subst (λ m. ¬ (IsLive m h)) (sym (texts-now_after (opening table.min_level) log)) gone in
      subst (IsLinkedDead (now_of table.min_level log)) (sym there) dead),
  (λ dead.
      let is = linked_dead (now_of table.min_level log) ((now_of table.min_level log).slot s) dead in
      let gone : ¬ (IsLive (map_of log) is.1) = subst (λ m. ¬ (IsLive m is.1)) (texts-now_after (opening table.min_level) log) is.4 in
      (is.0, is.1, (is.2, (linked_slot table log s is.0 is.1 is.2 lawful).0 is.3), gone)),
)

-- nothing is going on by the log's words exactly where nothing is by what the log says
pub quiet_is : (table : TableKind) (log : List Event) → IsLawful table log → IsQuiet (now_of table.min_level log) ↔ IsIdleIn log
quiet_is table log lawful = (
  (λ quiet. record {
    sections = λ j. (no_section_of_log table log j lawful).0 (quiet.sections j);
    locks = λ row bucket. (no_lock_of_log table log row bucket lawful).0 (quiet.locks row bucket);
    resizing = (no_resizing_of_log table log lawful).0 quiet.resizing;
    slots = λ s dead. quiet.dead s ((dead_is table log s lawful).0 dead);
  }),
  (λ idle. record {
    sections = λ seat. (no_section_of_log table log seat lawful).1 (idle.sections seat);
    locks = λ row bucket. (no_lock_of_log table log row bucket lawful).1 (idle.locks row bucket);
    resizing = (no_resizing_of_log table log lawful).1 idle.resizing;
    dead = λ s dead. idle.slots s ((dead_is table log s lawful).1 dead);
  }),
)

pub lawful_is_seeded : (table : TableKind) (log : List Event) → IsLawful table log → IsSeeded log
lawful_is_seeded table log lawful = record {
  by_zero = λ front back k seed is. (at_event table log front back k (Rehash seed) lawful is).1.0;
  next = λ front back k seed is. (at_event table log front back k (Rehash seed) lawful is).1.1 ∙ ap (λ n. n + 1) (seed_is (opening table.min_level) front);
  most = λ front back k seed is. (at_event table log front back k (Rehash seed) lawful is).1.2;
  idle = λ front back k seed is.
      (quiet_is table front (IsLawful-prefix table front _ (subst (IsLawful table) is lawful))).0 (at_event table log front back k (Rehash seed) lawful is).1.3;
}
