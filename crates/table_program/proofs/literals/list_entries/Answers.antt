use Rattle.std.proofs.Common.{◌+◌, ◌≤◌, map, arith}
use Rattle.name_scan.specs.FileTexts.{text_of}
use Rattle.table_program.proofs.StringCode.{byte_within, listing_more}
use Rattle.table_program.proofs.literals.list_entries.Goals as goal

pub loop-entry-preserved : goal.loop-entry-preserved
loop-entry-preserved c =
    let fits : c.loop-entry.killed + c.from-killed.result ≤ c.loop-entry.entry-index + 1 = omega (arith, byte_within c.list_entry.result, c.from-killed.ensures, c.loop-entry.invariant.1) in (
      c.list_entry.ensures.weak,
      fits,
      λ literals listing. listing_more c.args.bytes.now (map (text_of c.args.bytes.now) c.args.final_literals.now) literals c.args.made.now c.loop-entry.entry-index _
          c.loop-entry.plain c.list_entry.new.plain c.loop-entry.killed c.from-killed.result c.list_entry.result c.loop-entry-test.true c.from-killed.ensures
          c.list_entry.ensures.listing (c.loop-entry.invariant.2 literals listing),
    )
