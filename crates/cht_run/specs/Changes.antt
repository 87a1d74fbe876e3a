-- What the calls by handle come to: a drop, a permanence, a kill.
use Rattle.std.specs.Prelude.{◌≡◌, ℕ, ◌+◌, ◌<◌, ◌==◌, if◌then◌else◌, Bool, List, [], ◌∷◌, ◌++◌, Option, Some, None}
use Rattle.intern_log.specs.declared.event.Event.{Event}
use Rattle.intern_log.specs.declared.event.Handle.{Handle}
use Rattle.intern_log.specs.declared.event.Kind.{Kind}
use Rattle.intern_log.specs.declared.event.Kind.TheVariants.{Counted, Weak}
use Rattle.intern_log.specs.declared.event.What.{What}
use Rattle.intern_log.specs.declared.event.What.TheVariants as what
use Rattle.intern_log.specs.Log.{map_of}
use Rattle.atomic_step.specs.declared.answer.Answer.{Answer}
use Rattle.atomic_step.specs.declared.answer.Answer.TheVariants as answer
use Rattle.atomic_step.specs.declared.count.Change.{Change}
use Rattle.atomic_step.specs.declared.count.Change.TheVariants as change
use Rattle.atomic_step.specs.Count.{holds_of}
use Rattle.atomic_step.specs.Event.{change_of}
use Rattle.call_machine.specs.declared.call.Call.{Call}
use Rattle.call_machine.specs.declared.call.Call.TheVariants as call
use Rattle.cht_core.specs.Begins.{IsHeld, IsCreated}
use Rattle.cht_core.specs.CauseCalls.{HasCount, IsGone, IsOnHandle}
use Rattle.cht_core.specs.Past.{by}
use Rattle.cht_core.specs.Windows.{Somewhere, Another, whats_by}
use Rattle.cht_run.specs.declared.change.TryDrop.{TryDrop}
use Rattle.cht_run.specs.declared.change.TryDrop.TheVariants as drops
use Rattle.cht_run.specs.declared.change.TryPermanent.{TryPermanent}
use Rattle.cht_run.specs.declared.change.TryPermanent.TheVariants as keeps
use Rattle.cht_run.specs.declared.change.TryKill.{TryKill}
use Rattle.cht_run.specs.declared.change.TryKill.TheVariants as kills
use Rattle.cht_run.specs.declared.sight.Sight.{Sight}
use Rattle.cht_run.specs.History.{log_of}

-- WHAT A CALL DID

-- the log of a seat ends with this event of it, before which the entry of the handle had this count
pub record EndsWith (i : ℕ) (e : What) (h : Handle) (count : ℕ) (seen log : List Event) : Type 0 where
  pub later : List Event
  pub ends : log ≡ (seen ++ later) ++ by i e ∷ []
  pub text : List ℕ
  pub had : HasCount (map_of (seen ++ later)) text h count

-- the events that an answer stands for
abbrev pub dropped : Handle → TryDrop → List What
dropped h (drops.Dropped left) = what.Drop h ∷ []
dropped h drops.Permanent = what.Drop h ∷ []
dropped h drops.Again = []

abbrev pub made_permanent : Handle → TryPermanent → List What
made_permanent h keeps.Done = what.Perm h ∷ []
made_permanent h keeps.Again = []

abbrev pub killed : Handle → TryKill → List What
killed h kills.Killed = what.Kill h ∷ []
killed h kills.Stale = []

-- WHY IT ANSWERS SO

-- a drop tells the count after it: of a count of 65,535 nothing is taken away
abbrev pub WhyDrops : ℕ → Handle → TryDrop → List Event → List Event → Type 0
WhyDrops i h (drops.Dropped left) seen window = EndsWith i (what.Drop h) h (left + 1) seen (seen ++ window) × (left + 1 < 65535)
WhyDrops i h drops.Permanent seen window = EndsWith i (what.Drop h) h 65535 seen (seen ++ window)
WhyDrops i h drops.Again seen window = Another i (IsOnHandle h) seen window

abbrev pub WhyPermanent : ℕ → Handle → TryPermanent → List Event → List Event → Type 0
WhyPermanent i h keeps.Done seen window = (count : ℕ) × EndsWith i (what.Perm h) h count seen (seen ++ window)
WhyPermanent i h keeps.Again seen window = Another i (IsOnHandle h) seen window

-- no entry has the handle at a place of the window where a kill finds it stale; and it does where the seat had seen it gone
abbrev pub WhyKills : ℕ → Handle → TryKill → List Event → List Event → Type 0
WhyKills i h kills.Killed seen window = ((count : ℕ) × EndsWith i (what.Kill h) h count seen (seen ++ window)) × ¬ (IsGone h seen)
WhyKills i h kills.Stale seen window = Somewhere (IsGone h) seen window

-- WHEN IT MAY BEGIN

-- a hold is let go of or made permanent by who has it, in a counted table; an entry is killed in a weak one
abbrev pub MayChange : Kind → List Event → List ℕ → Change → Handle → Type 0
MayChange kind log numbers change.Kill h = (kind ≡ Weak) × IsCreated log h
MayChange kind log numbers _ h = (kind ≡ Counted) × IsHeld log numbers h

-- ON ITS WAY

-- the call of a change, and its answer in the words of the machine
abbrev pub changes : Change → Handle → Call
changes change.Drop h = call.Drop h
changes change.Permanent h = call.Permanent h
changes change.Kill h = call.Kill h

abbrev pub drop_answer : TryDrop → Answer
drop_answer (drops.Dropped left) = answer.Dropped left
drop_answer drops.Permanent = answer.Permanent
drop_answer drops.Again = answer.Again

abbrev pub permanent_answer : TryPermanent → Answer
permanent_answer keeps.Done = answer.MadePermanent
permanent_answer keeps.Again = answer.Again

abbrev pub kill_answer : TryKill → Answer
kill_answer kills.Killed = answer.Killed
kill_answer kills.Stale = answer.Stale

-- what a seat has done since its call began: these events
abbrev pub Made : Sight → Sight → List What → Type 0
Made b v events = whats_by b.number (log_of v.history) ≡ whats_by b.number (log_of b.history) ++ events

-- nothing yet; or this event, with which its log ends, and before it the entry of the handle had this count
abbrev pub Did : Sight → Handle → Sight → Option (What × ℕ) → Type 0
Did b h v None = Made b v []
Did b h v (Some e) = Made b v (e.0 ∷ []) × EndsWith b.number e.0 h e.1 (log_of b.history) (log_of v.history)

-- the same of some count
abbrev pub DidSome : Sight → Handle → Sight → Option What → Type 0
DidSome b h v None = Made b v []
DidSome b h v (Some e) = Made b v (e ∷ []) × ((count : ℕ) × EndsWith b.number e h count (log_of b.history) (log_of v.history))

-- a drop of a count of 65,535 is made as the count is loaded
abbrev pub by_seeing : Change → Handle → ℕ → Option (What × ℕ)
by_seeing change.Drop h word = if holds_of word == 65535 then Some (what.Drop h, 65535) else None
by_seeing _ h word = None

abbrev pub by_exchange : Change → Handle → ℕ → Bool → Option (What × ℕ)
by_exchange change h count made = if made then Some (change_of change h, holds_of count) else None

-- the same of the answers
abbrev pub by_drop : Handle → TryDrop → Option (What × ℕ)
by_drop h (drops.Dropped left) = Some (what.Drop h, left + 1)
by_drop h drops.Permanent = Some (what.Drop h, 65535)
by_drop h drops.Again = None

abbrev pub by_permanent : Handle → TryPermanent → Option What
by_permanent h keeps.Done = Some (what.Perm h)
by_permanent h keeps.Again = None

abbrev pub by_kill : Handle → TryKill → Option What
by_kill h kills.Killed = Some (what.Kill h)
by_kill h kills.Stale = None

-- a count that was lowered was not 65,535
abbrev pub IsLowered : TryDrop → Type 0
IsLowered (drops.Dropped left) = left + 1 < 65535
IsLowered _ = Unit {0}
