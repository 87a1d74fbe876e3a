-- What a walk to the end of its chain passes where nobody else is there.
use Rattle.std.specs.Prelude.{◌≡◌, ℕ, false, List, None}
use Rattle.atomic_step.specs.declared.answer.Answer.{Answer}
use Rattle.atomic_step.specs.declared.answer.Answer.TheVariants as answer
use Rattle.call_machine.specs.Sought.{is_too_long}
use Rattle.cht_core.specs.declared.table.Table.{Table}
use Rattle.cht_run.specs.declared.intern.TryIntern.{TryIntern}
use Rattle.cht_run.specs.declared.intern.TryIntern.TheVariants as try_intern
use Rattle.cht_run.specs.declared.intern.TryInternWeak.{TryInternWeak}
use Rattle.cht_run.specs.declared.intern.TryInternWeak.TheVariants as try_weak
use Rattle.cht_run.specs.declared.intern_wait.Interned.{Interned}
use Rattle.cht_run.specs.declared.intern_wait.Interned.TheVariants as interned
use Rattle.cht_run.specs.declared.intern_wait.InternedWeak.{InternedWeak}
use Rattle.cht_run.specs.declared.intern_wait.InternedWeak.TheVariants as weak
use Rattle.cht_run.specs.declared.lookup.TryFind.{TryFind}
use Rattle.cht_run.specs.declared.lookup.TryFind.TheVariants as try_find
use Rattle.cht_run.specs.declared.lookup.TryLookup.{TryLookup}
use Rattle.cht_run.specs.declared.lookup.TryLookup.TheVariants as try_lookup
use Rattle.cht_run.specs.declared.retry.Lookup.{Lookup}
use Rattle.cht_run.specs.declared.retry.Lookup.TheVariants as lookup
use Rattle.cht_run.specs.declared.seat.Seat.{Seat}
use Rattle.cht_run.specs.ChainLengths.{chain_length}
use Rattle.cht_run.specs.Ends.{IsAlone}
use Rattle.cht_run.specs.Seats.{seen, work_of}

-- a seat that was alone, with no work unfinished, has passed as many nodes as the chain of the text had as it began
abbrev pub PassedChain : Table → Seat → ℕ → List ℕ → Type 0
PassedChain t old passed text = IsAlone old → work_of old ≡ None → passed ≡ chain_length t (seen old) text

-- so it has after the answers of a walk that comes to the end of its chain
abbrev pub WalkPasses : Table → Seat → ℕ → List ℕ → Answer → Type 0
WalkPasses t old passed text answer.Miss = PassedChain t old passed text
WalkPasses t old passed text (answer.Created h) = PassedChain t old passed text
WalkPasses t old passed text answer.NoSlot = PassedChain t old passed text
WalkPasses t old passed text _ = Unit {0}

abbrev pub InternPasses : Table → Seat → ℕ → List ℕ → TryIntern → Type 0
InternPasses t old passed text (try_intern.Created h) = PassedChain t old passed text
InternPasses t old passed text try_intern.NoSlot = PassedChain t old passed text
InternPasses t old passed text _ = Unit {0}

abbrev pub InternWeakPasses : Table → Seat → ℕ → List ℕ → TryInternWeak → Type 0
InternWeakPasses t old passed text (try_weak.Created h) = PassedChain t old passed text
InternWeakPasses t old passed text try_weak.NoSlot = PassedChain t old passed text
InternWeakPasses t old passed text _ = Unit {0}

abbrev pub InternedPasses : Table → Seat → ℕ → List ℕ → Interned → Type 0
InternedPasses t old passed text (interned.Created h) = PassedChain t old passed text
InternedPasses t old passed text interned.NoSlot = PassedChain t old passed text
InternedPasses t old passed text _ = Unit {0}

abbrev pub InternedWeakPasses : Table → Seat → ℕ → List ℕ → InternedWeak → Type 0
InternedWeakPasses t old passed text (weak.Created h) = PassedChain t old passed text
InternedWeakPasses t old passed text weak.NoSlot = PassedChain t old passed text
InternedWeakPasses t old passed text _ = Unit {0}

-- a text that is too long is looked for in no chain
abbrev pub LookupPasses : Table → Seat → ℕ → List ℕ → TryLookup → Type 0
LookupPasses t old passed text try_lookup.Miss = is_too_long t.shape text ≡ false → PassedChain t old passed text
LookupPasses t old passed text _ = Unit {0}

abbrev pub FindPasses : Table → Seat → ℕ → List ℕ → TryFind → Type 0
FindPasses t old passed text try_find.Miss = is_too_long t.shape text ≡ false → PassedChain t old passed text
FindPasses t old passed text _ = Unit {0}

abbrev pub LookupWaitingPasses : Table → Seat → ℕ → List ℕ → Lookup → Type 0
LookupWaitingPasses t old passed text lookup.Miss = is_too_long t.shape text ≡ false → PassedChain t old passed text
LookupWaitingPasses t old passed text _ = Unit {0}
