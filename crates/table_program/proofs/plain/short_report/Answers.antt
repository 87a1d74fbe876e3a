use Rattle.std.proofs.Common.{ap, ◌∙◌}
use Rattle.name_scan.specs.FileTexts.{names_of, literals_of}
use Rattle.table_report.specs.Report.{report_lines}
use Rattle.table_program.proofs.FileReports.{is_plain_report, told_report, IfOk-weaker}
use Rattle.table_program.proofs.plain.short_report.Goals as goal

pub returns : goal.returns
returns c =
    let bs = c.args.bytes.now in
    let symbols = c.in_ok-left.left.symbols in
    let strings = c.in_ok-left.left.strings in
    let all = c.in_ok-left.ensures in
    record {
      report = IfOk-weaker c.report_text.result _ _ (λ text lines.
          is_plain_report bs symbols.plain.texts symbols.counts strings.plain.texts strings.counts text.items all.symbols all.strings
          (lines ∙ ap report_lines (told_report (names_of bs) symbols.plain.texts symbols.counts (literals_of bs) strings.plain.texts strings.counts
          symbols.names strings.literals c.references-references.result c.settled.result c.settled-2.result
          all.names all.literals c.references-references.ensures.references c.settled.ensures.settled c.settled-2.ensures.settled))) c.report_text.ensures.text;
    }
