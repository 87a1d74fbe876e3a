-- For which steps there is a word that they may find.
use Rattle.std.specs.Prelude.{◌^◌, ◌<◌}
use Rattle.atomic_step.specs.declared.plan.Plan.{Plan}
use Rattle.atomic_step.specs.declared.plan.Plan.TheVariants as plan
use Rattle.atomic_step.specs.declared.step.Step.{Step}
use Rattle.atomic_step.specs.declared.step.Step.TheVariants as step

-- a count word can have the generation of a handle whose count is to be changed
abbrev pub HasSoundHandle : Step → Type 0
HasSoundHandle (step.SeeHandle change h) = h.generation < 2 ^ 48
HasSoundHandle _ = Unit {0}

abbrev pub HasSoundHandleIn : Plan → Type 0
HasSoundHandleIn (plan.Step s) = HasSoundHandle s
HasSoundHandleIn (plan.Answered a) = Unit {0}
