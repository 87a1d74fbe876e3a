use Rattle.std.proofs.Common.{sym, ◌∙◌}
use Rattle.intern_log.proofs.Maps.{entry_of-text_map}
use Rattle.intern_log.proofs.fields.entry_at.Goals as goal

pub returns : goal.returns
returns c = c.copied.ensures ∙ c.get.ensures.value ∙ sym (entry_of-text_map c.args.entries.now.entries c.args.text.now)
