-- Where a walk for a text comes to, by what its stages find.
use Rattle.std.specs.Prelude.{◌≡◌, ℕ, ◌==◌, true, false, if◌then◌else◌, Bool, Option, Some, None}
use Rattle.marked_word.specs.Head.{is_redirected, first_of}
use Rattle.atomic_step.specs.declared.answer.Answer.TheVariants as answer
use Rattle.atomic_step.specs.Count.{holds_of, handle_at}
use Rattle.call_machine.specs.declared.call.Call.{Call}
use Rattle.call_machine.specs.declared.enter.EnterStage.TheVariants as enter
use Rattle.call_machine.specs.declared.find.FindStage.TheVariants as find
use Rattle.call_machine.specs.declared.node.NodeStage.TheVariants as node
use Rattle.call_machine.specs.declared.stage.Along.{Along}
use Rattle.call_machine.specs.declared.stage.Asked.{Asked}
use Rattle.call_machine.specs.declared.stage.CallStage.{CallStage}
use Rattle.call_machine.specs.declared.stage.CallStage.TheVariants as stage
use Rattle.call_machine.specs.declared.stage.Request.{Request}
use Rattle.call_machine.specs.BeginCall.{no_walk}
use Rattle.call_machine.specs.Leave.{leaves_with, loses_with}
use Rattle.call_machine.specs.Node.{comes_to, compares_from, matches, met, end_of}
use Rattle.call_machine.specs.Sought.{IsRequest, asked_of}
use Rattle.intern_log.specs.declared.event.Handle.{Handle}
use Rattle.intern_log.specs.declared.event.Kind.{Kind}
use Rattle.intern_log.specs.declared.event.Kind.TheVariants.{Counted}
use Rattle.call_machine.specs.declared.stage.Goal.{Goal}
use Rattle.cht_run.specs.declared.node.Meeting.{Meeting}
use Rattle.cht_run.specs.declared.node.Meeting.TheVariants as meeting
use Rattle.cht_run.specs.declared.sight.Sight.{Sight}
use Rattle.cht_run.specs.Begins.{own_at, first_of as first_machine}
use Rattle.cht_run.specs.Calls.{at_stage}

-- the head was loaded: it is redirected, or the walk is at its first node, or at its end
abbrev pub headed : Asked → Along → CallStage
headed q w = if is_redirected w.walk.head then stage.Find find.LoadNewLevel else comes_to q w w.walk.head (first_of w.walk.head)

-- a word of a node was compared with one of the text
abbrev pub compared : Asked → ℕ → ℕ → Bool → CallStage
compared q slot at same = stage.Node (if same then compares_from q.text slot at else node.Link slot)

-- a node has the text, or has it not
abbrev pub has_text : ℕ → Bool → CallStage
has_text slot true = stage.Node (node.Count slot)
has_text slot false = stage.Node (node.Link slot)

-- the count of a node that has the text was loaded
abbrev pub counted : Asked → Along → ℕ → ℕ → CallStage
counted q w slot word = if holds_of word == 0 then stage.Node (node.Link slot) else matches q w q.kind slot word

-- a hold was taken on it, or another was faster
abbrev pub taken : Asked → Along → ℕ → ℕ → Bool → CallStage
taken q w slot count true = leaves_with w.kept (met Counted q.goal (handle_at slot count))
taken q w slot count false = loses_with q.goal w.kept answer.Again

-- a look-up or an intern that is not too long for the table is at its first stage
abbrev pub first_along : Sight → Along
first_along b = record { cursor = (own_at b.seat).cursor; walk = no_walk; kept = None }

pub record IsWalk (b : Sight) (c : Call) (r : Request) (w : Along) : Type 0 where
  pub request : IsRequest r
  pub along : w ≡ first_along b
  pub first : first_machine b c ≡ at_stage b (asked_of r) w (stage.Find (find.Enter enter.LoadCounter))

-- a walk has met the entry of its text: it leaves with an answer, or another was faster
abbrev pub left_with : Asked → Along → Meeting → CallStage
left_with q w (meeting.Met a) = leaves_with w.kept a
left_with q w meeting.Lost = loses_with q.goal w.kept answer.Again

-- what such a meeting may be: only in a counted table another is faster
abbrev pub Meets : Kind → Goal → Meeting → Type 0
Meets kind g (meeting.Met a) = (h : Handle) × (a ≡ met kind g h)
Meets kind g meeting.Lost = kind ≡ Counted

-- a node was visited, and a chain was walked
abbrev pub visited : Asked → Along → ℕ → Option Meeting → CallStage
visited q w slot None = stage.Node (node.Link slot)
visited q w slot (Some met) = left_with q w met

abbrev pub walked : Asked → Along → Option Meeting → CallStage
walked q w None = end_of w.kept w.cursor w.walk.head q.goal
walked q w (Some met) = left_with q w met
