use Rattle.std.proofs.Common.{inl}
use Rattle.shared_use.proofs.Shared.{sees_more, answers_still, full_is_answer}
use Rattle.shared_use.proofs.intern_one.Goals as goal

pub returns-in-TooLong-clause-answer : goal.returns-in-TooLong-clause-answer
returns-in-TooLong-clause-answer g c = inl (c.intern.ensures.too_long.0 c.in-TooLong.is)

pub returns-in-TooLong-clause-still : goal.returns-in-TooLong-clause-still
returns-in-TooLong-clause-still g c = answers_still c.args.cht.now c.args.seat.now c.intern.new.seat c.args.text.now c.intern.result c.intern.ensures.ended

pub returns-in-NoSlot-clause-answer : goal.returns-in-NoSlot-clause-answer
returns-in-NoSlot-clause-answer g c = full_is_answer c.args.cht.now c.args.seat.now c.intern.new.seat c.args.text.now c.intern.result c.intern.ensures.ended c.in-NoSlot.is

pub returns-in-NoSlot-clause-still : goal.returns-in-NoSlot-clause-still
returns-in-NoSlot-clause-still g c = answers_still c.args.cht.now c.args.seat.now c.intern.new.seat c.args.text.now c.intern.result c.intern.ensures.ended

pub returns-in-Created-clause-still : goal.returns-in-Created-clause-still
returns-in-Created-clause-still g c = answers_still c.args.cht.now c.args.seat.now c.intern.new.seat c.args.text.now c.intern.result c.intern.ensures.ended

pub returns-in-Created-2-clause-still : goal.returns-in-Created-2-clause-still
returns-in-Created-2-clause-still g c = answers_still c.args.cht.now c.args.seat.now c.intern.new.seat c.args.text.now c.intern.result c.intern.ensures.ended

pub returns-in-TooLong-clause-more : goal.returns-in-TooLong-clause-more
returns-in-TooLong-clause-more g c = sees_more c.args.cht.now c.args.seat.now c.intern.new.seat c.args.text.now c.intern.result c.intern.ensures.ended

pub returns-in-NoSlot-clause-more : goal.returns-in-NoSlot-clause-more
returns-in-NoSlot-clause-more g c = sees_more c.args.cht.now c.args.seat.now c.intern.new.seat c.args.text.now c.intern.result c.intern.ensures.ended

pub returns-in-Created-clause-more : goal.returns-in-Created-clause-more
returns-in-Created-clause-more g c = sees_more c.args.cht.now c.args.seat.now c.intern.new.seat c.args.text.now c.intern.result c.intern.ensures.ended

pub returns-in-Created-2-clause-more : goal.returns-in-Created-2-clause-more
returns-in-Created-2-clause-more g c = sees_more c.args.cht.now c.args.seat.now c.intern.new.seat c.args.text.now c.intern.result c.intern.ensures.ended
