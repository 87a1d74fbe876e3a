use Rattle.intern_log.proofs.PlainLogLaws.{IsWindowRun-push}
use Rattle.intern_log.proofs.laws.window_run_with_one_more_name.Goals as goal

pub returns : goal.returns
returns c = record { law = λ hold before names whats after name h what run intern. IsWindowRun-push hold before names whats after name h what run intern }
