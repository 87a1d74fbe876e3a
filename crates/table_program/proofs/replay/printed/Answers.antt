use Rattle.table_program.proofs.ReplayFaults.{tells_error}
use Rattle.table_program.proofs.replay.printed.Goals as goal

pub returns-in_err-run_script-clause-script_fault : goal.returns-in_err-run_script-clause-script_fault
returns-in_err-run_script-clause-script_fault c =
    tells_error c.from_residual-in_err-run_script.result c.args.bytes.now c.in_ok-script.script c.in_err-run_script.field-0.0
    c.from_residual-in_err-run_script.ensures.1 c.in_ok-script.ensures.script c.in_err-run_script.ensures.fault
