use Rattle.std.proofs.Common.{◌≡◌, length, map}
use Rattle.cht_run.specs.Ended.{Keeps}
use Rattle.cht_run.specs.Seats.{seen}
use Rattle.shared_use.specs.Shared.{MayIntern, HasSeenMore, AreFirstAnswers}
use Rattle.shared_use.proofs.intern_all.Given as goal

abbrev pub invariant-loop-i : goal.invariant-loop-i
invariant-loop-i g l = record {
  may : MayIntern l.cht l.seat;
  keeps : Keeps l.fn.seat l.seat;
  more : HasSeenMore l.fn.seat l.seat;
  room : length l.answers.items ≡ length l.texts;
  answers : AreFirstAnswers l.cht (seen l.fn.seat) l.seat l.i (map (λ text. text.now) l.texts) l.answers.items;
}
