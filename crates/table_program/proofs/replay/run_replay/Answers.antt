use Rattle.std.proofs.Common.{◌≡◌, None, sym, subst}
use Rattle.std.specs.Prelude.{IfSome}
use Rattle.std.specs.Option.{option_and_then}
use Rattle.table_program.specs.declared.command.Command.TheVariants.{Replay}
use Rattle.table_program.specs.Runs.{told_file, limit_note}
use Rattle.table_program.specs.ReplayRun.{HasScriptFault}
use Rattle.table_program.proofs.ReplayFaults.{no_write_fault, of_read}
use Rattle.table_program.proofs.replay.run_replay.Goals as goal

pub returns-in-Ok-clause-complete : goal.returns-in-Ok-clause-complete
returns-in-Ok-clause-complete g c =
    no_write_fault (told_file Replay (g.F.Files.bytes_of c.args.files.now) c.args.words.now) (λ bytes. limit_note Replay bytes ≡ None) _ _
    c.write_printed.result.status c.write_printed.ensures.statuses c.write_printed.ensures.write_fault

pub returns-in-Ok-clause-faulty : goal.returns-in-Ok-clause-faulty
returns-in-Ok-clause-faulty g c =
    let bytes_of = g.F.Files.bytes_of c.args.files.now in
    of_read (told_file Replay bytes_of c.args.words.now) c.in-Ok.bytes.items c.write_printed.result.status
    (subst (λ name. IfSome (option_and_then bytes_of name) (λ all. c.in-Ok.bytes.items ≡ all)) c.in-Some.ensures.name c.in-Ok.ensures.read)
    (λ number fault. c.write_printed.ensures.faulty number (subst (λ bytes. HasScriptFault bytes number) (sym c.as_slice.ensures.value) fault))
