use Rattle.std.proofs.Common.{Some, refl, sym, subst, ◌∙◌, arith}
use Rattle.intern_log.specs.TextMap.{IsLive}
use Rattle.intern_log.specs.Log.{made_permanent}
use Rattle.intern_log.specs.Kept.{text_map}
use Rattle.intern_log.proofs.Changes.{put_at-is_alter}
use Rattle.intern_log.proofs.Kept.{has_handle, missed, IsKept-counted, IsKept-differ}
use Rattle.intern_log.proofs.replay.Replay.make_permanent.Goals as goal

pub unreachable-requires : goal.unreachable-requires
unreachable-requires c =
    let inside = c.self.inside in
    missed (text_map inside.entries.entries) inside.texts.entries c.args.handle c.self.invariant c.in_default.ensures.none (subst (λ m. IsLive m c.args.handle) (sym c.self.view_is) c.requires.live)

pub invariant_of-self : goal.invariant_of-self
invariant_of-self c =
    let inside = c.self.inside in
    let e = c.in-Some.entry in
    let found = c.in-Some.ensures.found in
    IsKept-counted (text_map inside.entries.entries) _ inside.texts.entries c.in-Some.text.now e (made_permanent e) c.self.invariant found.1 refl (omega arith) c.set_entry.ensures

pub returns : goal.returns
returns c =
    let m = text_map c.self.inside.entries.entries in
    let t = c.in-Some.text.now in
    let e = c.in-Some.entry in
    let found = c.in-Some.ensures.found in
    let has = has_handle (text_map c.self.inside.entries.entries) c.self.inside.texts.entries c.args.handle c.in-Some.text.now c.in-Some.entry c.self.invariant found.0 found.1 in
    record {
      permanent = rw (← c.self.view_is) (c.set_entry.ensures
          ∙ put_at-is_alter (λ x. Some (made_permanent x)) m t e c.args.handle (IsKept-differ m c.self.inside.texts.entries c.self.invariant) found.1 has);
    }
