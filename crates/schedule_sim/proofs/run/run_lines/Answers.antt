use Rattle.std.proofs.Common.{◌+◌, take, drop, List, subst, sym, refl}
use Rattle.schedule_sim.specs.declared.script.Numbered.{Numbered}
use Rattle.schedule_sim.specs.Turns.{AllTurn, Prints}
use Rattle.schedule_sim.proofs.All.{turned_more, take_item, parts_at}
use Rattle.schedule_sim.proofs.Moves.{kept_twice}
use Rattle.schedule_sim.proofs.run.run_lines.Goals as goal

pub loop-numbered-preserved : goal.loop-numbered-preserved
loop-numbered-preserved c = record {
  turned =
      subst (λ (lines : List Numbered). Prints (λ items. AllTurn lines c.args.state.now items c.run_line.new.state) c.args.out.now.items c.run_line.new.out.items)
      (sym (take_item c.args.lines.now c.loop-numbered.numbered-index c.numbered-item.result c.loop-numbered-test.true c.numbered-item.is))
      (turned_more (take c.loop-numbered.numbered-index c.args.lines.now) c.numbered-item.result c.args.state.now c.loop-numbered.state c.run_line.new.state c.args.out.now.items c.loop-numbered.out.items
      c.run_line.new.out.items c.loop-numbered.invariant.turned c.in-Ok.ensures.made);
  kept = kept_twice c.args.state.now c.loop-numbered.state c.run_line.new.state c.loop-numbered.invariant.kept c.in-Ok.ensures.kept;
}

pub returns-in-Err-AtFault-clause-fault : goal.returns-in-Err-AtFault-clause-fault
returns-in-Err-AtFault-clause-fault c = record {
  last = c.loop-numbered.state;
  items = c.loop-numbered.invariant.turned.0;
  before = take c.loop-numbered.numbered-index c.args.lines.now;
  at = c.numbered-item.result;
  after = drop (c.loop-numbered.numbered-index + 1) c.args.lines.now;
  parts = parts_at c.args.lines.now c.loop-numbered.numbered-index c.numbered-item.result c.loop-numbered-test.true c.numbered-item.is;
  turns = c.loop-numbered.invariant.turned.1;
  fault = rw c.in-Err-AtFault.field-0-is at c.in-Err-AtFault.ensures.fault;
  numbered = refl;
}
