use Rattle.intern_log.specs.Log.{IsLegal}
use Rattle.intern_log.specs.Lawful.{IsLawful}
use Rattle.intern_log.proofs.FirstFaults.{place_is}
use Rattle.intern_log.proofs.fault_laws.place_of_the_first_fault.Goals as goal

pub returns : goal.returns
returns c = record { legal = place_is IsLegal; lawful = λ table. place_is (IsLawful table) }
