use Rattle.std.proofs.Common.{sym, ap, ◌∙◌}
use Rattle.std.specs.Option.{option_map}
use Rattle.intern_log.proofs.Maps.{text_at-lookup, text_at-updated, text_at-other}
use Rattle.intern_log.proofs.fields.remove_text.Goals as goal

pub returns-clause-text : goal.returns-clause-text
returns-clause-text c = ap (option_map (λ text. text.items)) c.remove.ensures.value ∙ sym (text_at-lookup c.args.texts.now.entries c.args.handle)

pub returns-clause-others : goal.returns-clause-others
returns-clause-others c = text_at-other c.args.texts.now c.remove.new.self c.args.handle _ c.remove.ensures.updates

pub returns-clause-gone : goal.returns-clause-gone
returns-clause-gone c = text_at-updated c.args.texts.now c.remove.new.self c.args.handle _ c.remove.ensures.updates
