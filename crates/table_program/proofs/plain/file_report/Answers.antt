use Rattle.std.proofs.Common.{sym, ◌∙◌}
use Rattle.name_scan.specs.Tokens.{tokens}
use Rattle.table_program.proofs.LongTexts.{none_long, within_limits}
use Rattle.table_program.proofs.plain.file_report.Goals as goal

pub short_report-requires-clause-short : goal.short_report-requires-clause-short
short_report-requires-clause-short c =
    let bs = c.args.bytes.now in
    let none = sym c.limit_of.ensures.note ∙ c.in_default.is in
    none_long bs (tokens bs) (within_limits bs (tokens bs) none)
