use Rattle.std.proofs.Common.{sym, ap, subst, ◌∙◌}
use Rattle.intern_log.specs.TextMap.{put_at, IsLive}
use Rattle.intern_log.specs.Log.{lowered}
use Rattle.intern_log.specs.Kept.{text_map}
use Rattle.intern_log.proofs.Handles.{lowered_keeps}
use Rattle.intern_log.proofs.Changes.{put_at-is_alter, lowered_counted}
use Rattle.intern_log.proofs.Kept.{has_handle, missed, one_entry, IsKept-counted, IsKept-removed, IsKept-differ}
use Rattle.intern_log.proofs.replay.Replay.lower.Goals as goal

pub unreachable-requires : goal.unreachable-requires
unreachable-requires c =
    let inside = c.self.inside in
    missed (text_map inside.entries.entries) inside.texts.entries c.args.handle c.self.invariant c.in_default.ensures.none (subst (λ m. IsLive m c.args.handle) (sym c.self.view_is) c.requires.live)

-- the last hold is gone
pub invariant_of-self : goal.invariant_of-self
invariant_of-self c =
    let inside = c.self.inside in
    let found = c.in-Some.ensures.found in
    IsKept-removed (text_map inside.entries.entries) _ inside.texts.entries _ c.args.handle c.in-Some.text.now c.self.invariant found.0
    (c.remove_both.ensures.texts c.in-Some.text.now found.0) c.remove_both.ensures.gone c.remove_both.ensures.others

pub returns-in_default-lowered-clause-lowered : goal.returns-in_default-lowered-clause-lowered
returns-in_default-lowered-clause-lowered c =
    let inside = c.self.inside in
    let m = text_map inside.entries.entries in
    let t = c.in-Some.text.now in
    let e = c.in-Some.entry in
    let found = c.in-Some.ensures.found in
    let has = has_handle m inside.texts.entries c.args.handle t e c.self.invariant found.0 found.1 in
    let differ = IsKept-differ m inside.texts.entries c.self.invariant in
    rw (← c.self.view_is) (c.remove_both.ensures.texts t found.0 ∙ ap (put_at m t) (sym c.in_default-lowered.is ∙ c.lowered.ensures)
    ∙ put_at-is_alter lowered m t e c.args.handle differ found.1 has)

pub returns-in_default-lowered-clause-count : goal.returns-in_default-lowered-clause-count
returns-in_default-lowered-clause-count c =
    let inside = c.self.inside in
    let m = text_map inside.entries.entries in
    let t = c.in-Some.text.now in
    let e = c.in-Some.entry in
    let found = c.in-Some.ensures.found in
    let has = has_handle m inside.texts.entries c.args.handle t e c.self.invariant found.0 found.1 in
    let differ = IsKept-differ m inside.texts.entries c.self.invariant in
    rw (← c.self.view_is) (λ u f u_is u_has. ap (λ x. x.count) (one_entry m c.args.handle t u e f differ found.1 has u_is u_has))

-- the entry stays, with what is left
pub invariant_of-self-2 : goal.invariant_of-self-2
invariant_of-self-2 c =
    let e = c.in-Some.entry in
    let left = c.in-Some-lowered.left in
    let is = sym c.lowered.ensures ∙ c.in-Some-lowered.is in
    IsKept-counted (text_map c.self.inside.entries.entries) _ c.self.inside.texts.entries c.in-Some.text.now e left
    c.self.invariant c.in-Some.ensures.found.1 (lowered_keeps e left is) (lowered_counted e left is) c.set_entry.ensures

pub returns-clause-lowered : goal.returns-clause-lowered
returns-clause-lowered c =
    let inside = c.self.inside in
    let m = text_map inside.entries.entries in
    let t = c.in-Some.text.now in
    let e = c.in-Some.entry in
    let found = c.in-Some.ensures.found in
    let has = has_handle m inside.texts.entries c.args.handle t e c.self.invariant found.0 found.1 in
    let differ = IsKept-differ m inside.texts.entries c.self.invariant in
    rw (← c.self.view_is) (c.set_entry.ensures ∙ ap (put_at m t) (sym c.in-Some-lowered.is ∙ c.lowered.ensures)
    ∙ put_at-is_alter lowered m t e c.args.handle differ found.1 has)

pub returns-clause-count : goal.returns-clause-count
returns-clause-count c =
    let inside = c.self.inside in
    let m = text_map inside.entries.entries in
    let t = c.in-Some.text.now in
    let e = c.in-Some.entry in
    let found = c.in-Some.ensures.found in
    let has = has_handle m inside.texts.entries c.args.handle t e c.self.invariant found.0 found.1 in
    let differ = IsKept-differ m inside.texts.entries c.self.invariant in
    rw (← c.self.view_is) (λ u f u_is u_has. ap (λ x. x.count) (one_entry m c.args.handle t u e f differ found.1 has u_is u_has))
