use Rattle.std.proofs.Common.{ℕ, List, [], ◌∷◌, ◌+◌, ◌++◌, refl, ◌∙◌, ap, arith, Err}
use Rattle.schedule_sim.specs.declared.script.Numbered.{Numbered}
use Rattle.schedule_sim.specs.Lines.{lines_of, told_from}
use Rattle.schedule_sim.proofs.ReadLines.{reads_more, reads_formed, taken_more}
use Rattle.schedule_sim.proofs.parse.lines_of.Goals as goal

pub loop-bytes-preserved : goal.loop-bytes-preserved
loop-bytes-preserved c =
    let told = c.loop-bytes.invariant.told in
    let t : ℕ × List ℕ = (c.next_told.new.self.taken, c.in-Some.bytes.now) in
    let n : Numbered = record { number = c.next_told.new.self.taken; line = c.in-Ok.line } in
    record {
      room = omega (arith, c.loop-bytes.invariant.room, c.in-Some.ensures.room);
      told = (told.0 ++ t ∷ [], taken_more _ told.0 _ _ t told.1 c.in-Some.ensures.line, rw c.in-Ok-push.ensures.items (reads_more c.args.kind told.0 c.loop-bytes.read.items t n told.2 refl c.in-Ok.ensures.line));
    }

pub returns-in-Err-NotOfForm-clause-fault : goal.returns-in-Err-NotOfForm-clause-fault
returns-in-Err-NotOfForm-clause-fault c =
    let told = c.loop-bytes.invariant.told in
    record {
      before = told.0;
      bytes = c.in-Some.bytes.now;
      after = told_from (c.next_told.new.self.taken + 1) (lines_of c.next_told.new.self.rest.now);
      place = told.1 ∙ ap (λ n. told.0 ++ n) c.in-Some.ensures.line;
      formed = reads_formed c.args.kind told.0 c.loop-bytes.read.items told.2;
      fault = λ formed. c.in-Err-NotOfForm.ensures.none (ap Err c.in-Err-NotOfForm.field-0-is) formed.0 formed.1;
    }
