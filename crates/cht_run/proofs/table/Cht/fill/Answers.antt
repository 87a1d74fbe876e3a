use Rattle.std.proofs.Common.{◌<◌, ◌≤◌, length, rules, subst}
use Rattle.text_words.specs.Words.{words_of}
use Rattle.call_machine.specs.declared.insert.InsertStage.{InsertStage}
use Rattle.call_machine.specs.declared.stage.CallStage.TheVariants as stage
use Rattle.cht_run.specs.Calls.{At}
use Rattle.cht_run.proofs.Leads.{puts_word, puts_link}
use Rattle.cht_run.proofs.table.Cht.fill.Goals as goal

pub put_text-requires-clause-at : goal.put_text-requires-clause-at
put_text-requires-clause-at g c =
    let less : c.loop-at.at < words_of (length c.args.request.now.sought.text.now) = search rules in
    subst (λ (s : InsertStage). At c.args.self.now g.M.Began.sight g.M.Began.call c.args.request.now c.loop-at.seat c.args.along.now (stage.Insert s)) (puts_word c.args.request.now.sought.text.now c.own_count-handle.result c.loop-at.at less)
    c.loop-at.invariant.at

pub put_link-requires : goal.put_link-requires
put_link-requires g c =
    let all : words_of (length c.args.request.now.sought.text.now) ≤ c.loop-at.at = search rules in record {
      at = subst (λ (s : InsertStage). At c.args.self.now g.M.Began.sight g.M.Began.call c.args.request.now c.loop-at.seat c.args.along.now (stage.Insert s)) (puts_link c.args.request.now.sought.text.now c.own_count-handle.result c.loop-at.at all)
          c.loop-at.invariant.at;
    }
