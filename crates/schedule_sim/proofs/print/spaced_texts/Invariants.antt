use Rattle.std.proofs.Common.{◌≡◌, take}
use Rattle.schedule_sim.specs.PrintedLines.{spaced, texts_in}
use Rattle.schedule_sim.proofs.print.spaced_texts.Given as goal

abbrev pub invariant-loop-text : goal.invariant-loop-text
invariant-loop-text l = record { printed : l.line.items ≡ spaced (texts_in (take l.text-index l.texts)) }
