use Rattle.std.proofs.Common.{◌++◌, ap, ◌∙◌}
use Rattle.schedule_sim.proofs.Texts.{three_are_one}
use Rattle.schedule_sim.proofs.print.push_three.Goals as goal

pub returns : goal.returns
returns c = record {
  text = c.in_ok-extend_from_slice-3.ensures.items ∙ ap (λ l. l ++ c.args.third.now) (c.in_ok-extend_from_slice-2.ensures.items ∙ ap (λ l. l ++ c.args.second.now) c.in_ok-extend_from_slice.ensures.items)
      ∙ three_are_one c.args.out.now.items c.args.first.now c.args.second.now c.args.third.now;
}
