use Rattle.std.proofs.Common.{None, sym, subst, ◌∙◌}
use Rattle.intern_log.specs.TextMap.{IsLive}
use Rattle.intern_log.specs.Kept.{text_map}
use Rattle.intern_log.proofs.Changes.{put_at-is_alter}
use Rattle.intern_log.proofs.Kept.{live_text, IsKept-removed, IsKept-differ}
use Rattle.intern_log.proofs.replay.Replay.remove.Goals as goal

pub invariant_of-self : goal.invariant_of-self
invariant_of-self c =
    let inside = c.self.inside in
    let m = text_map inside.entries.entries in
    let live : IsLive m c.args.handle = subst (λ x. IsLive x c.args.handle) (sym c.self.view_is) c.requires.live in
    let text = live_text m inside.texts.entries c.args.handle live c.self.invariant in
    IsKept-removed m _ inside.texts.entries _ c.args.handle live.0 c.self.invariant text (c.remove_both.ensures.texts live.0 text) c.remove_both.ensures.gone c.remove_both.ensures.others

pub returns : goal.returns
returns c =
    let inside = c.self.inside in
    let m = text_map inside.entries.entries in
    let live : IsLive m c.args.handle = subst (λ x. IsLive x c.args.handle) (sym c.self.view_is) c.requires.live in
    let text = live_text m inside.texts.entries c.args.handle live c.self.invariant in
    record {
      removed = rw (← c.self.view_is) (c.remove_both.ensures.texts live.0 text
          ∙ put_at-is_alter (λ _. None) m live.0 live.1.0 c.args.handle (IsKept-differ m inside.texts.entries c.self.invariant) live.1.1 live.1.2);
    }
