use Rattle.std.proofs.Common.{[], ◌∙◌, sym, subst, arith}
use Rattle.name_scan.specs.FileTexts.{names_of, literals_of}
use Rattle.name_scan.specs.Tokens.{tokens}
use Rattle.name_scan.proofs.TokensFrom.{completes_first}
use Rattle.name_scan.proofs.TokenSizes.{length-tokens}
use Rattle.table_program.specs.Limits.{IsShort}
use Rattle.table_program.specs.StringRun.{IsStringsOf}
use Rattle.table_program.specs.SymbolRun.{IsSymbolWindow}
use Rattle.table_program.proofs.Passes.{next_is, found_few, pass_done, pass_more, names_by_capacity, literals_by_capacity}
use Rattle.table_program.proofs.SymbolNames.{created_few}
use Rattle.table_program.proofs.SymbolTotals.{symbols_of}
use Rattle.table_program.proofs.interning.intern_tokens.Goals as goal

pub loop-found-init : goal.loop-found-init
loop-found-init c = record {
  found = [];
  completes = completes_first c.args.bytes.now;
  names_are = c.in_ok-names.ensures.none c.args.bytes.now;
  literals_are = c.in_ok-literals.ensures.none c.args.bytes.now;
}

pub add-requires-clause-window : goal.add-requires-clause-window
add-requires-clause-window c = subst IsSymbolWindow (sym c.loop-found.invariant.names_are.capacity) c.requires.window

pub add-requires-clause-short : goal.add-requires-clause-short
add-requires-clause-short c =
    let pass = c.loop-found.invariant in
    next_is (IsShort c.args.bytes.now) c.args.bytes.now c.loop-found.at _ c.in-Some.found.token pass.found pass.completes c.in-Some.ensures.first c.requires.short

pub add-requires-clause-so_far : goal.add-requires-clause-so_far
add-requires-clause-so_far c =
    let pass = c.loop-found.invariant in
    let few = found_few c.args.bytes.now c.loop-found.at _ c.in-Some.found.token pass.found _ pass.completes c.in-Some.ensures.first c.requires.few in
    (pass.found, few, names_by_capacity c.args.hold c.args.bytes.now pass.found c.loop-found.names pass.names_are)

pub add-requires-in-Some-clause-window : goal.add-requires-in-Some-clause-window
add-requires-in-Some-clause-window c = omega (arith, c.loop-found.invariant.literals_are.capacity, c.requires.window.0)

pub add-requires-in-Some-clause-short : goal.add-requires-in-Some-clause-short
add-requires-in-Some-clause-short c =
    let pass = c.loop-found.invariant in
    next_is (IsShort c.args.bytes.now) c.args.bytes.now c.loop-found.at _ c.in-Some.found.token pass.found pass.completes c.in-Some.ensures.first c.requires.short

pub add-requires-in-Some-clause-so_far : goal.add-requires-in-Some-clause-so_far
add-requires-in-Some-clause-so_far c =
    let pass = c.loop-found.invariant in
    let few = found_few c.args.bytes.now c.loop-found.at _ c.in-Some.found.token pass.found _ pass.completes c.in-Some.ensures.first c.requires.few in
    (pass.found, few, literals_by_capacity c.args.hold c.args.bytes.now pass.found c.loop-found.literals pass.literals_are)

pub loop-found-preserved : goal.loop-found-preserved
loop-found-preserved c =
    let bytes = c.args.bytes.now in
    let pass = c.loop-found.invariant in
    pass_more c.args.hold bytes c.loop-found.at _ c.in-Some.found.token c.loop-found.names c.add.new.self c.loop-found.literals c.add-in-Some.new.self pass c.in-Some.ensures.first
    (c.in_ok-add.ensures.added pass.found (names_by_capacity c.args.hold bytes pass.found c.loop-found.names pass.names_are))
    (c.in_ok-add-2.ensures.added pass.found (literals_by_capacity c.args.hold bytes pass.found c.loop-found.literals pass.literals_are))

pub into_symbols-requires : goal.into_symbols-requires
into_symbols-requires c =
    let done = pass_done c.args.hold c.args.bytes.now c.loop-found.at c.loop-found.names c.loop-found.literals c.loop-found.invariant c.in_default.ensures.first in
    let few = created_few c.args.hold c.args.bytes.now (tokens c.args.bytes.now) _ _ _ _ done.names_are.run in
    record { few = omega (arith, few.1, length-tokens c.args.bytes.now, c.requires.few) }

pub into_strings-requires : goal.into_strings-requires
into_strings-requires c =
    let done = pass_done c.args.hold c.args.bytes.now c.loop-found.at c.loop-found.names c.loop-found.literals c.loop-found.invariant c.in_default.ensures.first in
    record { so_far = (tokens c.args.bytes.now, literals_by_capacity c.args.hold c.args.bytes.now (tokens c.args.bytes.now) c.loop-found.literals done.literals_are) }

pub returns-clause-symbols : goal.returns-clause-symbols
returns-clause-symbols c =
    let done = pass_done c.args.hold c.args.bytes.now c.loop-found.at c.loop-found.names c.loop-found.literals c.loop-found.invariant c.in_default.ensures.first in
    let left = symbols_of c.args.hold (names_of c.args.bytes.now) c.loop-found.names.plain.texts _ _ c.loop-found.names.counts (omega (arith, c.requires.window.1)) done.names_are.run in
    rw (c.into_symbols.ensures.plain, c.into_symbols.ensures.counts) left

pub returns-clause-names : goal.returns-clause-names
returns-clause-names c =
    let done = pass_done c.args.hold c.args.bytes.now c.loop-found.at c.loop-found.names c.loop-found.literals c.loop-found.invariant c.in_default.ensures.first in
    c.into_symbols.ensures.names ∙ done.names_are.run.all_names

pub returns-clause-strings : goal.returns-clause-strings
returns-clause-strings c =
    let done = pass_done c.args.hold c.args.bytes.now c.loop-found.at c.loop-found.names c.loop-found.literals c.loop-found.invariant c.in_default.ensures.first in
    let all = literals_by_capacity c.args.hold c.args.bytes.now (tokens c.args.bytes.now) c.loop-found.literals done.literals_are in
    let strings = c.in_ok-into_strings.field-0 in
    subst (λ hold. IsStringsOf hold (literals_of c.args.bytes.now) strings.plain.texts strings.counts) done.literals_are.capacity (c.in_ok-into_strings.ensures.strings (tokens c.args.bytes.now) all)

pub returns-clause-literals : goal.returns-clause-literals
returns-clause-literals c =
    let done = pass_done c.args.hold c.args.bytes.now c.loop-found.at c.loop-found.names c.loop-found.literals c.loop-found.invariant c.in_default.ensures.first in
    c.in_ok-into_strings.ensures.literals ∙ done.literals_are.counted
