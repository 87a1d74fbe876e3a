use Rattle.intern_log.proofs.Maps.{text_at-updated, text_at-other}
use Rattle.intern_log.proofs.fields.add_text.Goals as goal

pub returns-clause-ok : goal.returns-clause-ok
returns-clause-ok c = text_at-updated c.args.texts.now c.insert.new.self c.args.handle _ c.in_ok-insert.ensures.updates

pub returns-clause-others : goal.returns-clause-others
returns-clause-others c = text_at-other c.args.texts.now c.insert.new.self c.args.handle _ c.in_ok-insert.ensures.updates
