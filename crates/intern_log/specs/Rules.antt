-- All that a lawful log keeps, rule by rule, in the log's own words.
use Rattle.std.specs.Prelude.{List}
use Rattle.intern_log.specs.declared.event.Event.{Event}
use Rattle.intern_log.specs.declared.event.TableKind.{TableKind}
use Rattle.intern_log.specs.Log.{IsLegal, IsFresh}
use Rattle.intern_log.specs.Sections.{IsGraced, IsCareful, IsCreatedByItsClaimer, IsFreedByItsOwner}
use Rattle.intern_log.specs.Orderly.{IsOrderly}
use Rattle.intern_log.specs.Seeded.{IsSeeded}

-- a log that keeps each rule: lawful logs are exactly these
pub record KeepsTheRules (table : TableKind) (log : List Event) : Type 0 where
  pub legal : IsLegal log
  pub fresh : IsFresh log
  pub graced : IsGraced log
  pub careful : IsCareful log
  pub orderly : IsOrderly table log
  pub seeded : IsSeeded log
  pub created : IsCreatedByItsClaimer log
  pub freed : IsFreedByItsOwner log
