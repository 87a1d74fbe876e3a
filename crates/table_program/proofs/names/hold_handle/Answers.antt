use Rattle.std.proofs.Common.{arith, sym, ap, refl, ◌∙◌, add-zero}
use Rattle.circular_buffer.specs.Buffer.{Buffer}
use Rattle.intern_log.specs.declared.event.Handle.{Handle}
use Rattle.table_program.proofs.SymbolSteps.{pushed_out, none_out, after_room, after_full, leaving_is_live, SymbolRun-along, dropped_once}
use Rattle.table_program.proofs.names.hold_handle.Goals as goal

pub release-requires-clause-live : goal.release-requires-clause-live
release-requires-clause-live c =
    let out = pushed_out _ _ _ _ c.in-Some.ensures.value in
    let now = c.requires.interned in
    leaving_is_live _ now.0 now.1 _ _ _ _ _ now.2 c.requires.window.0 out.0 (omega (arith, c.requires.window.1)) _ out.1

pub returns-in-Some-clause-held : goal.returns-in-Some-clause-held
returns-in-Some-clause-held c = λ names name now.
    let out = pushed_out _ _ _ _ c.in-Some.ensures.value in
    let follows = c.release.ensures.follows in
    SymbolRun-along _ _ _ _ _ _ _ _ _ (sym follows.texts) (sym (follows.created ∙ add-zero _)) (sym (ap (λ (b : Buffer Handle). b.items) c.push_back.ensures.items))
    (after_full _ names name _ _ _ _ _ now c.requires.window.0 out.0 c.requires.window.1 _ _ out.1 (dropped_once c.args.counts.now c.in-Some.leaving))

pub returns-in_default-clause-held : goal.returns-in_default-clause-held
returns-in_default-clause-held c = λ names name now.
    let room = none_out _ _ _ (sym c.in_default.is ∙ c.push_back.ensures.value) in
    SymbolRun-along _ _ _ _ _ _ _ _ _ refl refl (sym (ap (λ (b : Buffer Handle). b.items) c.push_back.ensures.items))
    (after_room _ names name _ _ _ _ _ now c.requires.window.0 (omega (arith, c.requires.window.1)) room)
