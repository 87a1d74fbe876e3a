use Rattle.std.proofs.Common.{◌++◌, [], ◌∷◌, codes, decimal, ap, ◌∙◌}
use Rattle.schedule_sim.specs.PrintedLines.{spaced, texts_in}
use Rattle.schedule_sim.proofs.Texts.{chain_front, four_pieces}
use Rattle.schedule_sim.proofs.print.push_chain.Goals as goal

pub returns : goal.returns
returns c = record {
  text = four_pieces c.args.out.now.items _ _ (codes "chain " ++ (decimal c.args.row ++ 32 ∷ (decimal c.args.bucket ++ 58 ∷ []))) _ (spaced (texts_in c.args.texts.now)) _
      (10 ∷ []) c.in_ok-push_three.ensures.text (c.as_bytes.ensures.value ∙ c.in_ok-front.ensures.text) (c.as_slice.ensures.value ∙ c.in_ok-middle.ensures.text) (search)
      ∙ ap (λ l. c.args.out.now.items ++ l) (chain_front (decimal c.args.row) (decimal c.args.bucket) _);
}
