use Rattle.intern_log.proofs.Maps.{text_map-updated}
use Rattle.intern_log.proofs.fields.remove_entry.Goals as goal

pub returns : goal.returns
returns c = text_map-updated c.args.entries.now c.remove.new.self c.args.text.now _ c.remove.ensures.updates
