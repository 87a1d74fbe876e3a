use Rattle.std.proofs.Common.{map}
use Rattle.cht_run.specs.Seats.{seen}
use Rattle.shared_use.proofs.Shared.{IsDone, are_one, at_result, mine_at_end, theirs_at_end}
use Rattle.shared_use.proofs.intern_by_two.Given.{Over}
use Rattle.shared_use.proofs.intern_by_two.Goals as goal

-- what each thread has handed back
own_done : (g : Over) (c : goal.After-level g) → IsDone c.args.cht.now (seen c.args.seat) (map (λ text. text.now) c.args.texts.now) c.join-seat.result.0
own_done g c =
    let said = c.join-seat.ensures.first.said-raw.1.1.1 in
    at_result c.args.cht.now (seen c.args.seat) (map (λ text. text.now) c.args.texts.now) _ _ said.1 (record { answers = said.0.ensures.1.1.0; ledger = said.0.ensures.1.1.1 })

other_done : (g : Over) (c : goal.After-level g) → IsDone c.args.cht.now (seen c.args.other) (map (λ text. text.now) c.args.texts.now) c.join-seat.result.1
other_done g c =
    let said = c.join-seat.ensures.second.said-raw.1.1.1 in
    at_result c.args.cht.now (seen c.args.other) (map (λ text. text.now) c.args.texts.now) _ _ said.1 (record { answers = said.0.ensures.1.1.0; ledger = said.0.ensures.1.1.1 })

pub returns-clause-mine : goal.returns-clause-mine
returns-clause-mine g c =
    mine_at_end c.args.cht.now (seen c.args.seat) c.join-seat.result.0.0 c.join-seat.result.1.0 c.join.new.seat c.level.new.seat (map (λ text. text.now) c.args.texts.now) c.join-seat.result.0.1.items
    (record { apart = c.join.ensures.apart; numbers_are = c.join.ensures.numbers; first = c.join.ensures.first; second = c.join.ensures.second })
    (other_done g c).ledger c.level.ensures.follows c.level.ensures.same.numbers (own_done g c).answers

pub returns-clause-theirs : goal.returns-clause-theirs
returns-clause-theirs g c =
    theirs_at_end c.args.cht.now (seen c.args.other) c.join-seat.result.0.0 c.join-seat.result.1.0 c.join.new.seat c.level.new.seat (map (λ text. text.now) c.args.texts.now) c.join-seat.result.1.1.items
    (record { apart = c.join.ensures.apart; numbers_are = c.join.ensures.numbers; first = c.join.ensures.first; second = c.join.ensures.second })
    (own_done g c).ledger c.level.ensures.follows c.level.ensures.same.numbers (other_done g c).answers

pub returns-clause-one : goal.returns-clause-one
returns-clause-one g c short =
    are_one c.args.cht.now (seen c.args.seat) (seen c.args.other) c.level.new.seat (map (λ text. text.now) c.args.texts.now) c.join-seat.result.0.1.items c.join-seat.result.1.1.items c.level.ensures.sees (c.level.ensures.live c.requires.may.0.counted) short
    (returns-clause-mine g c) (returns-clause-theirs g c)
