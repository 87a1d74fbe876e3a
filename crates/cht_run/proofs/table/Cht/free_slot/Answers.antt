use Rattle.std.proofs.Common.{◌<◌, ap, sym, ◌∙◌, length, arith}
use Rattle.atomic_step.specs.declared.step.Step.TheVariants as step
use Rattle.call_machine.specs.declared.pass.FreeStage.TheVariants as free
use Rattle.cht_run.proofs.Underway.{frees_further, free_more, free_last, freed_leads}
use Rattle.cht_run.proofs.table.Cht.free_slot.Goals as goal

pub returns-then-next-len-clause-on : goal.returns-then-next-len-clause-on
returns-then-next-len-clause-on g c =
    let more = c.if-next-len.true in
    let len = c.len.ensures.value in
    frees_further c.args.self.now g.M.Began.sight g.M.Began.call c.args.seat.now c.store.new.seat c.store.result _ c.store.ensures.sits c.store.ensures.told g.W.Freeing.frees c.args.cleaning.now (free.FreeSlot c.args.at) _ c.requires.freeing c.requires.at
    (ap (λ w. step.FreeSlot w.slot) (sym c.waiting_at-slot.ensures.value)) (free_more c.args.cleaning.now c.args.at (omega (arith, more, len)) c.store.result)

pub returns-clause-on : goal.returns-clause-on
returns-clause-on g c =
    let inside : c.args.at < length c.args.cleaning.now.waiting.items = (c.requires.freeing.sound c.args.cleaning.now (free.FreeSlot c.args.at) c.requires.at.ran.went.sound.sound).1 in
    let last = c.if-next-len.false in
    let len = c.len.ensures.value in
    frees_further c.args.self.now g.M.Began.sight g.M.Began.call c.args.seat.now c.store.new.seat c.store.result _ c.store.ensures.sits c.store.ensures.told g.W.Freeing.frees c.args.cleaning.now (free.FreeSlot c.args.at) _ c.requires.freeing c.requires.at
    (ap (λ w. step.FreeSlot w.slot) (sym c.waiting_at-slot.ensures.value))
    (free_last c.args.cleaning.now c.args.at (omega (arith, inside, last, len)) c.store.result ∙ freed_leads c.args.cleaning.now (record c.args.cleaning.now { waiting = c.clear.new.self }) c.clear.ensures)
