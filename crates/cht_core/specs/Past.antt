-- What a log has told so far, and which events may be added to it.
use Rattle.std.specs.Prelude.{◌≡◌, ℕ, ◌+◌, ◌^◌, ◌≤◌, ◌||◌, Bool, false, if◌then◌else◌, nat_eq, List, Option, Some, None}
use Rattle.std.specs.List.{list_any}
use Rattle.intern_log.specs.declared.event.Event.{Event}
use Rattle.intern_log.specs.declared.event.Handle.{Handle}
use Rattle.intern_log.specs.declared.event.TableKind.{TableKind}
use Rattle.intern_log.specs.declared.event.What.{What}
use Rattle.intern_log.specs.declared.event.What.TheVariants as what
use Rattle.intern_log.specs.Counts.{events_in}
use Rattle.intern_log.specs.Lawful.{IsResizing, MayFollow}
use Rattle.intern_log.specs.Log.{creates}
use Rattle.intern_log.specs.Now.{Now, Unlinked, now_after_event, now_of}
use Rattle.cht_core.specs.declared.table.Table.{Table}

-- what a log says at its end, which handles it has created, and how often an entry was made in each slot
pub record Past : Type 0 where
  pub now : Now
  pub made : Handle → Bool
  pub uses : ℕ → ℕ

-- whether the event makes an entry in the slot
abbrev pub is_use : ℕ → What → Bool
is_use s (what.Create text h) = nat_eq h.slot s
is_use s _ = false

-- after one more event
abbrev pub past_after : Past → Event → Past
past_after p e = record {
  now = now_after_event p.now e;
  made = λ h. p.made h || creates e.what h;
  uses = λ s. p.uses s + (if is_use s e.what then 1 else 0);
}

-- what a whole log has told
abbrev pub past_of : ℕ → List Event → Past
past_of min_level log = record {
  now = now_of min_level log;
  made = λ h. list_any (λ (e : Event). creates e.what h) log;
  uses = λ s. events_in (is_use s) log;
}

-- an event of a seat; and what is told after a step of the seat, with its event if there is one
abbrev pub by : ℕ → What → Event
by seat what = record { seat = seat; what = what }

abbrev pub told : Past → ℕ → Option What → Past
told p seat None = p
told p seat (Some what) = past_after p (by seat what)

-- what the rules of its log ask of a table
abbrev pub kind_of : Table → TableKind
kind_of t = record { kind = t.kind; min_level = t.shape.min_level; max_level = t.shape.max_level; first_counter = t.first_counter }

-- the event may be added, in a log of any length: a handle is created once, and the resize lock may be given back
-- beside a slot that was used 2^48 times and so is never freed
abbrev pub MayAdd : TableKind → Past → ℕ → What → Type 0
MayAdd table p seat (what.Create text h) = MayFollow table p.now seat (what.Create text h) × (p.made h ≡ false)
MayAdd table p seat what.ResizeGiven = IsResizing p.now seat × ((s place : ℕ) → p.now.slot s ≡ Unlinked seat place → 2 ^ 48 ≤ p.uses s)
MayAdd table p seat e = MayFollow table p.now seat e

abbrev pub MayTell : TableKind → Past → ℕ → Option What → Type 0
MayTell table p seat None = Unit {0}
MayTell table p seat (Some e) = MayAdd table p seat e
