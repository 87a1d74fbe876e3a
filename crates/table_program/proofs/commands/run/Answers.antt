use Rattle.std.proofs.Common.{subst}
use Rattle.std.specs.Prelude.{IsSome}
use Rattle.table_program.specs.declared.command.Command.TheVariants.{Plain, Replay}
use Rattle.table_program.specs.Words.{name_for}
use Rattle.table_program.proofs.CommandWords.{one_command}
use Rattle.table_program.proofs.commands.run.Goals as goal

pub returns-in-Some-Replay-clause-complete : goal.returns-in-Some-Replay-clause-complete
returns-in-Some-Replay-clause-complete g c Plain =
    let named = subst (λ command. IsSome (name_for command c.args.words.now)) c.in-Some-Replay.field-0-is c.in-Some-Replay.ensures.named in
    rw (one_command c.args.words.now named) tt
returns-in-Some-Replay-clause-complete g c Replay = c.run_replay.ensures.complete

pub returns-in-None-clause-faulty : goal.returns-in-None-clause-faulty
returns-in-None-clause-faulty g c = rw (c.of.ensures.none c.in-None.is Replay) tt
