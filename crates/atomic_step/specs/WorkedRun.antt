-- A small machine for worked runs: it adds up the words that it is told, and a word that is not 0 opens a section.
use Rattle.std.specs.Prelude.{ℕ, ◌+◌, ◌≤◌, ◌==◌, if◌then◌else◌, Some, None}
use Rattle.intern_log.specs.declared.event.What.TheVariants as what
use Rattle.atomic_step.specs.Run.{Machine}

abbrev pub adding : Machine ℕ
adding = record {
  got = λ sum word. sum + word;
  event = λ sum word. if word == 0 then None else Some (what.Open sum);
  Fits = λ sum word. word ≤ sum;
}
