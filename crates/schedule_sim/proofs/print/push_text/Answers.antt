use Rattle.std.proofs.Common.{◌++◌, [], ◌∷◌, decimal, ap, ◌∙◌}
use Rattle.schedule_sim.proofs.Texts.{log_front, three_pieces}
use Rattle.schedule_sim.proofs.print.push_text.Goals as goal

pub returns : goal.returns
returns c = record {
  text = three_pieces c.args.out.now.items _ _ (108 ∷ 111 ∷ 103 ∷ 32 ∷ (decimal c.args.seat ++ 32 ∷ (c.args.word.now ++ 32 ∷ []))) c.args.text.now _
      (32 ∷ (decimal c.args.handle.slot ++ 46 ∷ (decimal c.args.handle.generation ++ 10 ∷ []))) c.in_ok-push_three.ensures.text (c.as_bytes.ensures.value ∙ c.in_ok-front.ensures.text) (c.as_bytes-2.ensures.value ∙ c.in_ok-back.ensures.text)
      ∙ ap (λ l. c.args.out.now.items ++ l) (log_front (decimal c.args.seat) c.args.word.now _);
}
