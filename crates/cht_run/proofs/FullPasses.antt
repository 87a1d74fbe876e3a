-- A poll of a clean makes few full passes over one bucket, by the words that its run found.
use Rattle.std.proofs.Common.{ℕ, ◌+◌, ◌/◌, ◌≤◌, List, [], ◌∷◌, Option, Some, None, arith}
use Rattle.table_shape.specs.declared.shape.Shape.{Shape}
use Rattle.atomic_step.specs.declared.answer.Answer.{Answer}
use Rattle.atomic_step.specs.declared.answer.Answer.TheVariants as answer
use Rattle.atomic_step.specs.Run.{after_words}
use Rattle.call_machine.specs.declared.clean.CleanStage.{CleanStage}
use Rattle.call_machine.specs.declared.clean.CleanStage.TheVariants.{Grace, Free}
use Rattle.call_machine.specs.declared.clean.Freeing.TheVariants.{Again, Last}
use Rattle.call_machine.specs.declared.work.Work.{Work as Working}
use Rattle.call_machine.specs.declared.work.Work.TheVariants as work
use Rattle.call_machine.specs.CleanMeasure.{most_full}
use Rattle.call_machine.specs.Poll.{works}
use Rattle.call_machine.specs.Polls.{polled_on}
use Rattle.call_machine.specs.Work.{work_row, resumes}
use Rattle.cht_core.specs.PollMeasure.{IsOnWork}
use Rattle.cht_core.proofs.PollPasses.{work_after, on_work, begun_few}
use Rattle.cht_run.specs.FullPasses.{MakesFew, RunsWithFew}

module _ (shape : Shape) where
  most_above : (s : CleanStage) (n : ℕ) → n ≤ most_full shape s → n ≤ shape.slots / 256 + 1
  most_above (Grace Again s) n few = few
  most_above (Grace Last s) n few = omega (arith, few)
  most_above (Free Again s) n few = few
  most_above (Free Last s) n few = omega (arith, few)
  most_above _ n few = omega (arith, few)

  makes_few : (w : Working) (a : Option Answer) → IsOnWork shape w a → MakesFew shape w a
  makes_few (work.Clean c) None few = most_above c.stage c.along.full_passes few
  makes_few (work.Clean c) (Some a) few = tt
  makes_few (work.Resize r) a few = tt

  -- a new poll has made none
  begins_few : (w : Working) → IsOnWork shape (resumes w).0 (resumes w).1
  begins_few w = on_work shape (resumes w).0 (resumes w).1 (begun_few shape w)

  on_polled : (w : Working) (a : Option Answer) → IsOnWork shape w a → let next = polled_on resumes (w, a) in IsOnWork shape next.0 next.1
  on_polled w None few = few
  on_polled w (Some (answer.PendingSeat seat)) few = begins_few w
  on_polled w (Some (answer.PendingBucket row bucket)) few = begins_few w
  on_polled w (Some _) few = tt

  got_few : (w : Working) (a : Option Answer) (word : ℕ) → IsOnWork shape w a → let next = (works shape).got (w, a) word in IsOnWork shape next.0 next.1
  got_few w None word few = let came = (work_row shape w).next word in on_polled came.0 came.1 (work_after shape w word few)
  got_few w (Some a) word few = on_polled w (Some a) tt

  after_few : (w : Working) (a : Option Answer) (words : List ℕ) → IsOnWork shape w a → let at = after_words (works shape) (w, a) words in IsOnWork shape at.0 at.1
  after_few w a [] few = few
  after_few w a (word ∷ words) few = let next = (works shape).got (w, a) word in after_few next.0 next.1 words (got_few w a word few)

  -- wherever a run of polls is cut in two
  pub runs_with_few : (from : Working) (words : List ℕ) → RunsWithFew shape from words
  runs_with_few from words front back is =
      let first = resumes from in
      let at = after_words (works shape) first front in
      makes_few at.0 at.1 (after_few first.0 first.1 front (begins_few from))
