use Rattle.intern_log.proofs.Maps.{text_map-updated}
use Rattle.intern_log.proofs.fields.add_entry.Goals as goal

pub returns-clause-ok : goal.returns-clause-ok
returns-clause-ok c = text_map-updated c.args.entries.now c.insert.new.self c.args.text.items _ c.in_ok-insert.ensures.updates
