-- What follows the events of a machine: a monitor says what is so after an event, and at which events it does not allow it.
use Rattle.std.specs.Prelude.{ℕ, ◌+◌, ◌==◌, Bool, true, false, not, ◌&&◌, if◌then◌else◌, List, [], ◌∷◌, ◌++◌, filter, Option, Some, None}
use Rattle.intern_log.specs.declared.event.What.{What}
use Rattle.intern_log.specs.declared.event.What.TheVariants as what
use Rattle.intern_log.specs.Own.{is_visible}

-- after an event, if there is one, and after events in order
abbrev pub after_one : {F : Type 0} → (F → What → Option F) → F → Option What → Option F
after_one m f None = Some f
after_one m f (Some e) = m f e

abbrev pub after_all : {F : Type 0} → (F → What → Option F) → Option F → List What → Option F
after_all m None events = None
after_all m (Some f) [] = Some f
after_all m (Some f) (e ∷ events) = after_all m (m f e) events

-- a section is opened where none is open, and closed where one is
abbrev pub section : Bool → What → Option Bool
section false (what.Open counter) = Some true
section true (what.Open counter) = None
section false what.Close = None
section true what.Close = Some false
section inside _ = Some inside

-- a slot is claimed where none is, and it alone is given back or has an entry created in it
abbrev pub slot : Option ℕ → What → Option (Option ℕ)
slot None (what.Claim s) = Some (Some s)
slot (Some s) (what.Claim t) = None
slot None (what.Free t) = None
slot (Some s) (what.Free t) = if t == s then Some None else None
slot None (what.Create text h) = None
slot (Some s) (what.Create text h) = if h.slot == s then Some None else None
slot claimed _ = Some claimed

-- the events that callers see are collected
abbrev pub seen : List What → What → Option (List What)
seen made e = Some (if is_visible e then made ++ e ∷ [] else made)

-- whether a lock is that of this bucket of this row, and whether the bucket is among the locks
abbrev pub is_lock_of : ℕ → ℕ → ℕ × ℕ → Bool
is_lock_of row bucket lock = (lock.0 == row) && (lock.1 == bucket)

abbrev pub is_held : ℕ → ℕ → List (ℕ × ℕ) → Bool
is_held row bucket [] = false
is_held row bucket (lock ∷ held) = if is_lock_of row bucket lock then true else is_held row bucket held

-- a bucket is locked which was not, and one is unlocked which was
abbrev pub locked : List (ℕ × ℕ) → What → Option (List (ℕ × ℕ))
locked held (what.Lock row bucket) = if is_held row bucket held then None else Some ((row, bucket) ∷ held)
locked held (what.Unlock row bucket) = if is_held row bucket held then Some (filter (λ lock. not (is_lock_of row bucket lock)) held) else None
locked held _ = Some held

-- the resize lock is taken where it is not had, and given back where it is; the level is stored by its owner alone
abbrev pub resize : Bool → What → Option Bool
resize false what.ResizeTaken = Some true
resize true what.ResizeTaken = None
resize false what.ResizeGiven = None
resize true what.ResizeGiven = Some false
resize false (what.Level level) = None
resize had _ = Some had

-- graces are counted
abbrev pub graces : ℕ → What → Option ℕ
graces begun what.Grace = Some (begun + 1)
graces begun _ = Some begun
