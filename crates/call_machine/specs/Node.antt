-- Passing the nodes of a chain: hash and length first, then the text word by word, then the count.
use Rattle.std.specs.Prelude.{ℕ, ◌+◌, ◌==◌, min, if◌then◌else◌, List, Option, Some, None}
use Rattle.text_words.specs.Words.{word_at}
use Rattle.marked_word.specs.Head.{is_locked}
use Rattle.marked_word.specs.Link.{node_of}
use Rattle.marked_word.specs.Meta.{meta_word}
use Rattle.intern_log.specs.declared.event.Kind.{Kind}
use Rattle.intern_log.specs.declared.event.Kind.TheVariants.{Counted, Weak}
use Rattle.intern_log.specs.declared.event.Handle.{Handle}
use Rattle.atomic_step.specs.declared.answer.Answer.{Answer}
use Rattle.atomic_step.specs.declared.answer.Answer.TheVariants as answer
use Rattle.atomic_step.specs.declared.step.Step.TheVariants as step
use Rattle.call_machine.specs.declared.stage.Along.{Along}
use Rattle.call_machine.specs.declared.stage.Asked.{Asked}
use Rattle.call_machine.specs.declared.stage.CallStage.{CallStage}
use Rattle.call_machine.specs.declared.stage.CallStage.TheVariants as stage
use Rattle.call_machine.specs.declared.stage.Goal.{Goal}
use Rattle.call_machine.specs.declared.stage.Goal.TheVariants.{Lookup, Intern, InternWait}
use Rattle.call_machine.specs.declared.node.NodeStage.{NodeStage}
use Rattle.call_machine.specs.declared.node.NodeStage.TheVariants.{Meta, Text, Count, Link, Take}
use Rattle.call_machine.specs.declared.find.Walk.{Walk}
use Rattle.atomic_step.specs.Count.{holds_of, handle_at}
use Rattle.call_machine.specs.Sought.{meta_of, has_word}
use Rattle.call_machine.specs.Leave.{tries_again, leaves_with, loses_with}
use Rattle.call_machine.specs.Insert.{inserts}
use Rattle.atomic_step.specs.Turn.{Row, row}

-- at the end of a chain without a match: a look-up misses, and an intern makes an entry unless the bucket is locked
abbrev pub end_of : Option Handle → ℕ → ℕ → Goal → CallStage
end_of kept cursor head Lookup = leaves_with kept answer.Miss
end_of kept cursor head Intern = if is_locked head then leaves_with kept answer.Locked else stage.Insert (inserts kept cursor)
end_of kept cursor head InternWait = if is_locked head then tries_again else stage.Insert (inserts kept cursor)

-- at a node, or at the end
abbrev pub comes_to : Asked → Along → ℕ → Option ℕ → CallStage
comes_to q w head None = end_of w.kept w.cursor head q.goal
comes_to q w head (Some node) = stage.Node (Meta node)

-- one more node was passed; a count that has reached 2^32 - 1 stays
abbrev pub passes : Walk → Walk
passes walk = record walk { passed = min (walk.passed + 1) 4294967295 }

-- the words of a node's text are compared from one on, and where all are equal the count comes next
abbrev pub compares_from : List ℕ → ℕ → ℕ → NodeStage
compares_from text node at = if has_word text at then Text node at else Count node

-- what a call answers that has met the entry of its text
abbrev pub met : Kind → Goal → Handle → Answer
met kind Lookup h = answer.Hit h
met Counted goal h = answer.Taken h
met Weak goal h = answer.Found h

-- an entry of the text was met: in a counted table its count is raised
abbrev pub matches : Asked → Along → Kind → ℕ → ℕ → CallStage
matches q w Counted node word = stage.Node (Take node word)
matches q w Weak node word = leaves_with w.kept (met Weak q.goal (handle_at node word))

-- what each stage does
abbrev pub node_row : Asked → Along → NodeStage → Row (Along × CallStage)
node_row q w (Meta x) = row (step.LoadMeta x) (λ word. (w, stage.Node (if word == meta_word (meta_of q.seed q.text) then compares_from q.text x 0 else Link x)))
node_row q w (Text x at) = row (step.LoadText x at) (λ word. (w, stage.Node (if word == word_at q.text at then compares_from q.text x (at + 1) else Link x)))
node_row q w (Count x) = row (step.SeeEntry q.kind x) (λ word. (w, if holds_of word == 0 then stage.Node (Link x) else matches q w q.kind x word))
node_row q w (Link x) = row (step.LoadLink x) (λ word. (record w { walk = passes w.walk }, comes_to q w w.walk.head (node_of word)))
node_row q w (Take x count) = row (step.TakeEntry x count) (λ word.
    (w, if word == count then leaves_with w.kept (met Counted q.goal (handle_at x count)) else loses_with q.goal w.kept answer.Again))
