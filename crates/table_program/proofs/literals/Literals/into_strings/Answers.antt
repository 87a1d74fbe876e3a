use Rattle.std.proofs.Common.{◌-◌, refl, arith, ap, ◌∙◌}
use Rattle.table_program.proofs.LiteralRuns.{all_are_listed, created_few_listed, strings_of}
use Rattle.table_program.proofs.literals.Literals.into_strings.Goals as goal

pub overflow_sub-result : goal.overflow_sub-result
overflow_sub-result c =
    let so_far = c.requires.so_far in
    let listed = all_are_listed _ c.args.bytes.now so_far.0 c.as_slice.result.now c.args.self.plain c.list_entries-killed.new.plain c.args.self.made.items c.as_slice-2.result.now _ _ c.list_entries-killed.result
    so_far.1 (c.as_slice.ensures.value ∙ c.in_ok-last.ensures) c.as_slice-2.ensures.value c.list_entries-killed.ensures.listing in
    let few = created_few_listed _ _ _ _ _ _ _ _ _ so_far.1 listed in
    omega (arith, few, c.created-created.ensures.created)

pub returns-clause-strings : goal.returns-clause-strings
returns-clause-strings c = λ found so_far.
    let listed = all_are_listed _ c.args.bytes.now found c.as_slice.result.now c.args.self.plain c.list_entries-killed.new.plain c.args.self.made.items c.as_slice-2.result.now _ _ c.list_entries-killed.result
    so_far (c.as_slice.ensures.value ∙ c.in_ok-last.ensures) c.as_slice-2.ensures.value c.list_entries-killed.ensures.listing in
    strings_of _ c.args.bytes.now found _ _ _ _ _ _ _ so_far listed
    c.created-created.ensures.created (ap (λ n. c.args.self.count - n) c.created-created.ensures.created) refl
