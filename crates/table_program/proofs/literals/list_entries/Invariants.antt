use Rattle.std.proofs.Common.{◌≡◌, ◌≤◌, ℕ, List, [], take, drop}
use Rattle.intern_log.specs.declared.event.Kind.TheVariants.{Weak}
use Rattle.table_program.specs.MadeEntries.{IsListing}
use Rattle.table_program.proofs.literals.list_entries.Given as goal

abbrev pub invariant-loop-entry : goal.invariant-loop-entry
invariant-loop-entry l =
    (l.plain.kind ≡ Weak)
    × (l.killed ≤ l.entry-index)
    × ((literals : List (List ℕ)) →
    IsListing l.bytes l.final_literals literals [] l.made l.fn.plain 0 →
    IsListing l.bytes l.final_literals literals (take l.entry-index l.made) (drop l.entry-index l.made) l.plain l.killed)
