use Rattle.intern_log.specs.Log.{IsLegal}
use Rattle.intern_log.specs.Lawful.{IsLawful}
use Rattle.intern_log.specs.TextMap.{no_texts}
use Rattle.intern_log.proofs.Logs.{IsLegalFrom-prefix}
use Rattle.intern_log.proofs.LawfulLaws.{IsLawful-prefix}
use Rattle.intern_log.proofs.FirstFaults.{create_is_reached}
use Rattle.intern_log.proofs.fault_laws.creates_that_are_reached.Goals as goal

pub returns : goal.returns
returns c = record { legal = create_is_reached IsLegal (IsLegalFrom-prefix no_texts); lawful = λ table. create_is_reached (IsLawful table) (IsLawful-prefix table) }
