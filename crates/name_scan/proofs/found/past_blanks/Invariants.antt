use Rattle.std.proofs.Common.{◌≡◌, ◌≤◌, ◌-◌, length}
use Rattle.name_scan.specs.Tokens.{tokens_from}
use Rattle.name_scan.proofs.found.past_blanks.Given as goal

abbrev pub invariant-loop-place : goal.invariant-loop-place
invariant-loop-place l = record {
  further : l.at ≤ l.place;
  within : l.place ≤ length l.bytes;
  tokens : tokens_from l.bytes l.place ≡ tokens_from l.bytes l.at;
}

abbrev pub decreases-loop-place : goal.decreases-loop-place
decreases-loop-place l = length l.bytes - l.place
