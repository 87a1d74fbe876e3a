use Rattle.intern_log.specs.Kept.{text_map}
use Rattle.intern_log.proofs.Kept.{is_live-answer}
use Rattle.intern_log.proofs.replay.Replay.is_live.Goals as goal

pub returns : goal.returns
returns c =
    let inside = c.self.inside in
    record {
      live = rw (← c.self.view_is, c.is_some.ensures)
          (is_live-answer (text_map inside.entries.entries) inside.texts.entries c.args.handle (λ x. x.0.now) (λ x. x.1) c.live_entry.result c.self.invariant c.live_entry.ensures.found c.live_entry.ensures.none);
    }
