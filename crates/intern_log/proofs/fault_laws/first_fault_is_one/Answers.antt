use Rattle.intern_log.specs.Log.{IsLegal}
use Rattle.intern_log.specs.Lawful.{IsLawful}
use Rattle.intern_log.specs.TextMap.{no_texts}
use Rattle.intern_log.proofs.Logs.{IsLegalFrom-prefix}
use Rattle.intern_log.proofs.LawfulLaws.{IsLawful-prefix}
use Rattle.intern_log.proofs.FirstFaults.{fault_is_one}
use Rattle.intern_log.proofs.fault_laws.first_fault_is_one.Goals as goal

pub returns : goal.returns
returns c = record { legal = fault_is_one IsLegal (IsLegalFrom-prefix no_texts); lawful = λ table. fault_is_one (IsLawful table) (IsLawful-prefix table) }
