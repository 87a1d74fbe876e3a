-- A lawful log is careful.
use Rattle.std.proofs.Common.{◌≡◌, ℕ, List, refl, subst}
use Rattle.intern_log.specs.declared.event.Handle.{Handle}
use Rattle.intern_log.specs.declared.event.Event.{Event}
use Rattle.intern_log.specs.TextMap.{IsLive}
use Rattle.intern_log.specs.Now.{Phase, Vacant, Claimed, Linked, Unlinked, Now, opening, now_after}
use Rattle.intern_log.specs.declared.event.TableKind.{TableKind}
use Rattle.intern_log.specs.Lawful.{IsLinkedDead, IsAllowedFrom, IsLawful}
use Rattle.intern_log.specs.Sections.{IsCareful}
use Rattle.intern_log.proofs.LawfulLaws.{texts-now_after, IsAllowedFrom-rest, IsLawful-prefix}
use Rattle.intern_log.proofs.SlotPhases.{linked_slot}

-- a slot that may be unlinked has a text and a handle that is gone
pub linked_dead : (now : Now) (phase : Phase) → IsLinkedDead now phase → (t : List ℕ) × (h : Handle) × (p : ℕ) × (phase ≡ Linked t h p) × ¬ (IsLive now.texts h)
linked_dead now (Linked t h p) dead = (t, h, p, refl, dead)
linked_dead now Vacant dead = absurd dead
linked_dead now (Claimed i) dead = absurd dead
linked_dead now (Unlinked i p) dead = absurd dead

pub lawful_is_careful : (table : TableKind) (log : List Event) → IsLawful table log → IsCareful log
lawful_is_careful table log lawful front back seat s is =
    let start = opening table.min_level in
    let whole = subst (IsAllowedFrom table start) is lawful.allowed in
    let dead = linked_dead (now_after start front) ((now_after start front).slot s) (IsAllowedFrom-rest table start front _ whole).0 in (
      dead.0,
      dead.1,
      (dead.2, (linked_slot table front s dead.0 dead.1 dead.2 (IsLawful-prefix table front _ (subst (IsLawful table) is lawful))).0 dead.3),
      subst (λ m. ¬ (IsLive m dead.1)) (texts-now_after start front) dead.4,
    )
