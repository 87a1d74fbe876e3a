use Rattle.std.proofs.Common.{◌≡◌, None, sym, ap, ◌∙◌, arith}
use Rattle.std.specs.Option.{option_map}
use Rattle.intern_log.specs.TextMap.{entry_of}
use Rattle.intern_log.specs.Log.{raised}
use Rattle.intern_log.specs.Kept.{text_map}
use Rattle.intern_log.proofs.Changes.{put_same, raised_counted}
use Rattle.intern_log.proofs.Kept.{IsKept-counted}
use Rattle.intern_log.proofs.replay.Replay.take.Goals as goal

pub returns-in_default : goal.returns-in_default
returns-in_default c =
    let m = text_map c.self.inside.entries.entries in
    let none : entry_of m c.args.text.now ≡ None = sym c.entry_at.ensures ∙ c.in_default.is in
    record { taken = rw (← c.self.view_is) (λ handle. sym (put_same m c.args.text.now _ (none ∙ sym (ap (option_map raised) none)))) }

pub invariant_of-self : goal.invariant_of-self
invariant_of-self c =
    let inside = c.self.inside in
    let there = sym c.entry_at.ensures ∙ c.in-Some.is in
    IsKept-counted (text_map inside.entries.entries) _ inside.texts.entries c.args.text.now c.in-Some.entry c.raised.result
    c.self.invariant there (ap (λ e. e.handle) c.raised.ensures) (omega (arith, ap (λ e. e.count) c.raised.ensures, raised_counted c.in-Some.entry)) c.set_entry.ensures
