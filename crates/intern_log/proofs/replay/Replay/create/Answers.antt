use Rattle.std.proofs.Common.{sym, subst}
use Rattle.intern_log.specs.declared.event.What.TheVariants.{Create}
use Rattle.intern_log.specs.Log.{Allows}
use Rattle.intern_log.specs.Kept.{text_map}
use Rattle.intern_log.proofs.Kept.{free_handle, IsKept-created, IsKept-failed}
use Rattle.intern_log.proofs.replay.Replay.create.Goals as goal

pub add_both-requires : goal.add_both-requires
add_both-requires c =
    let m = text_map c.self.inside.entries.entries in
    let allowed : Allows m (Create c.args.text.now c.args.handle) = subst (λ x. Allows x (Create c.args.text.now c.args.handle)) (sym c.self.view_is) c.requires.allowed in
    free_handle m c.self.inside.texts.entries c.args.handle c.self.invariant allowed.1

-- want of memory
pub invariant_of-self : goal.invariant_of-self
invariant_of-self c =
    let m = text_map c.self.inside.entries.entries in
    let allowed : Allows m (Create c.args.text.now c.args.handle) = subst (λ x. Allows x (Create c.args.text.now c.args.handle)) (sym c.self.view_is) c.requires.allowed in
    let told = c.in_err-add_both.ensures in
    IsKept-failed m _ c.self.inside.texts.entries _ c.args.handle c.self.invariant allowed.1 told.err told.free told.others

-- a new entry
pub invariant_of-self-2 : goal.invariant_of-self-2
invariant_of-self-2 c =
    let m = text_map c.self.inside.entries.entries in
    let allowed : Allows m (Create c.args.text.now c.args.handle) = subst (λ x. Allows x (Create c.args.text.now c.args.handle)) (sym c.self.view_is) c.requires.allowed in
    let told = c.in_ok-add_both.ensures in
    IsKept-created m _ c.self.inside.texts.entries _ c.args.text.now c.args.handle c.self.invariant allowed.0 allowed.1 told.ok told.text told.others
