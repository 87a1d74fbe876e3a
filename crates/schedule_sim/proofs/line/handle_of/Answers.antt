use Rattle.std.proofs.Common.{◌∷◌, [], refl, sym, ◌∙◌, ap}
use Rattle.std.specs.Prelude.{decimal}
use Rattle.schedule_sim.specs.Parts.{parts_at}
use Rattle.schedule_sim.proofs.Forms.{peel}
use Rattle.schedule_sim.proofs.Handles.{handle_parts, handle_from}
use Rattle.schedule_sim.proofs.line.handle_of.Goals as goal

pub returns-in_err-slot-clause-none : goal.returns-in_err-slot-clause-none
returns-in_err-slot-clause-none c = λ _ slot generation small below is.
    c.in_err-slot.ensures.none refl slot (decimal generation ∷ []) small (c.of-pair.ensures.parts ∙ ap (parts_at 46) is ∙ handle_parts slot generation small below)

pub returns-in_err-generation-clause-none : goal.returns-in_err-generation-clause-none
returns-in_err-generation-clause-none c = λ _ slot generation small below is.
    c.in_err-generation.ensures.none refl generation below
    (peel _ _ _ _ _ c.in_ok-slot.ensures.number (c.of-pair.ensures.parts ∙ ap (parts_at 46) is ∙ handle_parts slot generation small below))

pub returns-clause-handle : goal.returns-clause-handle
returns-clause-handle c = handle_from c.args.bytes.now c.in_ok-slot.slot c.in_ok-generation.generation
    (sym c.of-pair.ensures.parts ∙ c.in_ok-slot.ensures.number ∙ ap (λ r. decimal c.in_ok-slot.slot ∷ r) c.in_ok-generation.ensures.number)
