use Rattle.std.proofs.Common.{[], ◌∙◌, map, refl, sym, arith}
use Rattle.std.proofs.lemmas.List.{append-nil, length-set}
use Rattle.cht_run.specs.Seats.{seen}
use Rattle.shared_use.proofs.Shared.{keeps_both, sees_both, since_before, one_more_of, all_answers, answers_on, stays}
use Rattle.shared_use.proofs.intern_all.Goals as goal

pub loop-i-init : goal.loop-i-init
loop-i-init g c = record {
  may = c.requires.may;
  keeps = record { number = refl; numbers = refl; kids = refl };
  more = ([], sym (append-nil (seen c.args.seat)));
  room = c.requires.room;
  answers = λ i less. absurd (omega (arith, less));
}

pub loop-i-preserved : goal.loop-i-preserved
loop-i-preserved g c = record {
  may = c.intern_one-answer.ensures.may;
  keeps = keeps_both c.args.seat c.loop-i.seat c.intern_one-answer.new.seat c.loop-i.invariant.keeps c.intern_one-answer.ensures.keeps;
  more = sees_both c.args.seat c.loop-i.seat c.intern_one-answer.new.seat c.loop-i.invariant.more c.intern_one-answer.ensures.more;
  room = length-set c.loop-i.answers.items c.loop-i.i c.intern_one-answer.result ∙ c.loop-i.invariant.room;
  answers = one_more_of (λ text. text.now) c.args.texts.now _ c.args.cht.now (seen c.args.seat) c.loop-i.seat c.intern_one-answer.new.seat c.loop-i.i c.loop-i.answers.items c.intern_one-answer.result
      c.intern_one-answer.ensures.still c.loop-i-test.true c.loop-i.invariant.room c.loop-i.invariant.answers
      (since_before c.args.cht.now c.args.seat c.loop-i.seat c.intern_one-answer.new.seat _ c.intern_one-answer.result c.loop-i.invariant.more c.intern_one-answer.ensures.answer);
}

pub returns-clause-keeps : goal.returns-clause-keeps
returns-clause-keeps g c = keeps_both c.args.seat c.loop-i.seat c.level.new.seat c.loop-i.invariant.keeps c.level.ensures.ended.keeps

pub returns-clause-answers : goal.returns-clause-answers
returns-clause-answers g c =
    answers_on c.args.cht.now (seen c.args.seat) c.loop-i.seat c.level.new.seat (map (λ text. text.now) c.args.texts.now) c.loop-i.answers.items
    (stays c.args.cht.now c.loop-i.seat c.level.new.seat c.level.ensures.follows c.level.ensures.same.numbers)
    (all_answers (λ text. text.now) c.args.texts.now c.args.cht.now (seen c.args.seat) c.loop-i.seat c.loop-i.answers.items c.loop-i.invariant.room
    (λ i less. c.loop-i.invariant.answers i (omega (arith, less, c.loop-i-test.false))))
