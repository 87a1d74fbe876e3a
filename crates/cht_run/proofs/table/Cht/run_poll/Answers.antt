use Rattle.std.proofs.Common.{refl, sym, ap, ◌∙◌}
use Rattle.std.specs.Prelude.{is_some}
use Rattle.call_machine.specs.declared.call.Call.TheVariants as call
use Rattle.cht_run.specs.Begins.{caller_in}
use Rattle.cht_run.specs.Seats.{sight, work_of}
use Rattle.cht_run.specs.Underway.{answer_at}
use Rattle.cht_run.proofs.Rests.{has_rested}
use Rattle.cht_run.proofs.Starts.{polls_work_of}
use Rattle.cht_run.proofs.table.Cht.run_poll.Goals as goal

pub invariant_of-seat : goal.invariant_of-seat
invariant_of-seat c =
    let seat = c.args.seat.now in
    let ran = c.poll_on.ensures.at.ran in
    let stays = ran.went.stays in
    let rests = has_rested (sight seat) call.PollWork c.poll_on.new.seat.me.0 _ (answer_at c.poll_on.result) ran (polls_work_of (caller_in (sight seat)) (work_of seat)) refl in
    record {
      named = seat.named ∙ sym stays.number;
      own = rests.number ∙ sym seat.named;
      next = seat.next ∙ sym rests.cursor;
      seat = c.poll_on.ensures.at.sits.seat;
      rests = rests.rests;
      kept = stays.given ∙ seat.kept;
      handles = rests.sees.handles;
      bare = c.poll_on.ensures.at.sits.bare;
    }

pub poll_on-requires-clause-polls : goal.poll_on-requires-clause-polls
poll_on-requires-clause-polls c =
    let seat = c.args.seat.now in
    record {
      sits = record { table = c.requires.of.table; origin = c.requires.of.origin; seat = seat.seat; bare = seat.bare };
      same = refl;
      asks = refl;
      may = record { seat = seat.seat; rests = seat.rests; handle = tt; allowed = ap is_some c.requires.work; bytes = tt; log = tt };
      unfinished = c.requires.work;
      sound = c.requires.sound;
    }
