use Rattle.table_program.proofs.OneReplay.{no_fault_of_replay}
use Rattle.table_program.proofs.replay.write_printed.Goals as goal

pub returns-in-Ok-clause-faulty : goal.returns-in-Ok-clause-faulty
returns-in-Ok-clause-faulty g c number fault =
    absurd (no_fault_of_replay c.args.bytes.now c.in-Ok.text.items number c.in-Ok.ensures.replay fault)
