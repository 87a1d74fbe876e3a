-- Live handles that were given for one text are one.
use Rattle.std.proofs.Common.{◌≡◌, ℕ, List, ◌∷◌, ◌++◌, inl, inr, sym, ap, subst, ◌∙◌}
use Rattle.std.specs.List.{Contains}
use Rattle.intern_log.specs.declared.event.Event.{Event}
use Rattle.intern_log.specs.declared.event.Handle.{Handle}
use Rattle.intern_log.specs.declared.event.Kind.TheVariants.{Counted}
use Rattle.intern_log.specs.declared.event.TableKind.{TableKind}
use Rattle.intern_log.specs.declared.event.What.{What}
use Rattle.intern_log.specs.TextMap.{no_texts, HasHandle, IsLive}
use Rattle.intern_log.specs.Lawful.{IsLawful}
use Rattle.intern_log.specs.Log.{Allows, IsLegal, map_of}
use Rattle.intern_log.specs.Sections.{IsCreatedAs}
use Rattle.intern_log.specs.Callers.{AreCallers, DropTheirOwn}
use Rattle.intern_log.proofs.CallerHolds.{one_handle, created_text_is, held_by_caller}
use Rattle.intern_log.proofs.LawfulLaws.{lawful_is_legal}
use Rattle.cht_core.specs.Begins.{IsHeld}
use Rattle.cht_core.proofs.CauseCounts.{created_in, created_longer}
use Rattle.cht_core.proofs.CauseWords.{legal_at}
use Rattle.cht_run.specs.Holds.{WasGiven, HoldLive}

-- a handle that was given for a text was created with it
pub given_was_created : (table : TableKind) (log : List Event) (text : List ℕ) (h : Handle) → IsLawful table log → WasGiven log text h → IsCreatedAs log text h
given_was_created table log text h lawful (front, back, e, is, inl made) = (front, back, e.seat, is ∙ ap (λ (w : What). front ++ (record { seat = e.seat; what = w }) ∷ back) made)
given_was_created table log text h lawful (front, back, e, is, inr took) =
    let legal : IsLegal (front ++ e ∷ back) = subst IsLegal is (lawful_is_legal table log lawful) in
    let had : HasHandle (map_of front) text h = subst (λ (w : What). Allows (map_of front) w) took (legal_at no_texts front back e legal) in
    subst (λ l. IsCreatedAs l text h) (sym is) (created_longer front (e ∷ back) text h (created_in front text h had))

-- where it is live it is the handle of that text
pub given_and_live : (table : TableKind) (log : List Event) (text : List ℕ) (h : Handle) → IsLawful table log → WasGiven log text h → IsLive (map_of log) h → HasHandle (map_of log) text h
given_and_live table log text h lawful given live =
    let made = given_was_created table log text h lawful given in
    subst (λ (t : List ℕ). HasHandle (map_of log) t h) (created_text_is log made.0 made.1 made.2 text live.0 h lawful.fresh made.3 live.1) live.1

pub held_once : (table : TableKind) (log : List Event) (numbers others : List ℕ) (text : List ℕ) (h k : Handle) → IsLawful table log → HoldLive log numbers → HoldLive log others →
    IsHeld log numbers h → IsHeld log others k → WasGiven log text h → WasGiven log text k → h ≡ k
held_once table log numbers others text h k lawful live lives held helds given givens =
    one_handle (map_of log) text k h (given_and_live table log text k lawful givens (lives k helds)) (given_and_live table log text h lawful given (live h held))

-- callers that drop no more than their own hold live handles
pub callers_hold_live : (table : TableKind) (callers : List (List ℕ)) (log : List Event) (numbers : List ℕ) → table.kind ≡ Counted → IsLawful table log → AreCallers callers log → ((h : Handle) → DropTheirOwn callers log h) →
    Contains callers numbers → HoldLive log numbers
callers_hold_live table callers log numbers counted lawful shared own (k, within, at) h held =
    let live = held_by_caller table callers log h counted lawful shared (own h) (k, numbers, within, at, held) in
    (live.0, live.1)
