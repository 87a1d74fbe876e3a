-- What a step adds to the log, by the word that it found; the text is that of its call.
use Rattle.std.specs.Prelude.{ℕ, ◌==◌, if◌then◌else◌, List, Option, Some, None}
use Rattle.intern_log.specs.declared.event.Handle.{Handle}
use Rattle.intern_log.specs.declared.event.Kind.{Kind}
use Rattle.intern_log.specs.declared.event.Kind.TheVariants.{Counted, Weak}
use Rattle.intern_log.specs.declared.event.What.{What}
use Rattle.intern_log.specs.declared.event.What.TheVariants as what
use Rattle.atomic_step.specs.declared.count.Change.{Change}
use Rattle.atomic_step.specs.declared.count.Change.TheVariants.{Drop, Permanent, Kill}
use Rattle.atomic_step.specs.declared.step.Step.{Step}
use Rattle.atomic_step.specs.declared.step.Step.TheVariants as step
use Rattle.atomic_step.specs.Count.{holds_of, handle_at}

-- a live entry is found in a weak table, and a drop of 65,535 is one as it is seen
abbrev pub found_entry : List ℕ → Kind → ℕ → ℕ → Option What
found_entry text Weak slot word = if holds_of word == 0 then None else Some (what.Found text (handle_at slot word))
found_entry text Counted slot word = None

abbrev pub found_handle : Change → Handle → ℕ → Option What
found_handle Drop h word = if holds_of word == 65535 then Some (what.Drop h) else None
found_handle _ h word = None

abbrev pub change_of : Change → Handle → What
change_of Drop h = what.Drop h
change_of Permanent h = what.Perm h
change_of Kill h = what.Kill h

-- an exchange has its event where it found the word that it was to find
abbrev pub event_of : List ℕ → Step → ℕ → Option What
event_of text (step.OpenSection number counter) word = Some (what.Open counter)
event_of text (step.CloseSection number) word = Some what.Close
event_of text (step.SeeEntry kind slot) word = found_entry text kind slot word
event_of text (step.SeeHandle change h) word = found_handle change h word
event_of text (step.TakeEntry slot count) word = if word == count then Some (what.Take text (handle_at slot count)) else None
event_of text (step.ChangeEntry change h count) word = if word == count then Some (change_of change h) else None
event_of text (step.ClaimSlot slot) word = if word == 0 then Some (what.Claim slot) else None
event_of text (step.FreeSlot slot) word = Some (what.Free slot)
event_of text (step.CreateEntry h row bucket head) word = if word == head then Some (what.Create text h) else None
event_of text step.RaiseCounter word = Some what.Grace
event_of text (step.LockHead row bucket head) word = if word == head then Some (what.Lock row bucket) else None
event_of text (step.UnlockHead row bucket first) word = Some (what.Unlock row bucket)
event_of text (step.Unlink slot edge next) word = Some (what.Unlink slot)
event_of text (step.TakeResizeLock number) word = if word == 0 then Some what.ResizeTaken else None
event_of text step.GiveResizeLock word = Some what.ResizeGiven
event_of text (step.PutHead row bucket first) word = Some (what.Lock row bucket)
event_of text (step.StoreLevel level) word = Some (what.Level level)
event_of text _ word = None

-- the event names the text of its call; or there is none, or one that names no text
abbrev pub NamesItsText : Option What → Type 0
NamesItsText (Some (what.Create text h)) = Unit {0}
NamesItsText (Some (what.Take text h)) = Unit {0}
NamesItsText (Some (what.Found text h)) = Unit {0}
NamesItsText _ = ⊥

abbrev pub NamesNoText : Option What → Type 0
NamesNoText e = ¬ NamesItsText e
