-- Scripts that say the same run alike.
use Rattle.std.proofs.Common.{◌≡◌, ◌-◌, List, [], ◌∷◌, ℕ, subst, ◌∙◌}
use Rattle.intern_log.specs.Lawful.{IsLawful}
use Rattle.intern_log.specs.Short.{IsShort}
use Rattle.call_machine.specs.declared.call.Call.{Call}
use Rattle.cht_core.specs.declared.table.Table.{Table}
use Rattle.cht_core.specs.Past.{kind_of}
use Rattle.cht_core.specs.Runs.{LeadsTo}
use Rattle.cht_core.specs.State.{Core, opening_of}
use Rattle.schedule_sim.specs.declared.script.Asked.{Asked}
use Rattle.schedule_sim.specs.declared.script.Asked.TheVariants as asked
use Rattle.schedule_sim.specs.declared.script.Line.{Line}
use Rattle.schedule_sim.specs.declared.script.Line.TheVariants as line
use Rattle.schedule_sim.specs.declared.script.Numbered.{Numbered}
use Rattle.schedule_sim.specs.declared.script.Script.{Script}
use Rattle.schedule_sim.specs.PrintedLines.{Printed}
use Rattle.schedule_sim.specs.Same.{IsSameAsked, IsSameLine, AreSameLines, IsSameScript}
use Rattle.schedule_sim.specs.Turns.{AllTurn, Asks, Calls, Opens, Runs, Turns, draws, table_of}

asks_alike : (a b : Asked) (c : Call) → IsSameAsked a b → Asks a c → Asks b c
asks_alike (asked.Intern text) (asked.Intern other) c same (bytes, is, now) = (bytes, is, now ∙ same)
asks_alike (asked.Lookup text) (asked.Lookup other) c same (bytes, is, now) = (bytes, is, now ∙ same)
asks_alike a b c same asks = subst (λ x. Asks x c) same asks

turn_alike : (l m : Line) (c d : Core) (items : List Printed) → IsSameLine l m → Turns l c items d → Turns m c items d
turn_alike (line.Call seat a) (line.Call other b) c d items same turn =
    subst (λ k. Calls k b c items d) same.0 (record { asked = turn.asked; asks = asks_alike a b turn.asked same.1 turn.asks; said = turn.said; starts = turn.starts; printed = turn.printed })
turn_alike l m c d items same turn = subst (λ x. Turns x c items d) same turn

all_alike : (lines others : List Numbered) (c d : Core) (items : List Printed) → AreSameLines lines others → AllTurn lines c items d → AllTurn others c items d
all_alike [] [] c d items same all = all
all_alike [] (m ∷ others) c d items same all = absurd same
all_alike (l ∷ lines) [] c d items same all = absurd same
all_alike (l ∷ lines) (m ∷ others) c d items same (mid, before, after, turn, rest, is) =
    (mid, before, after, turn_alike l.line m.line c mid before same.1 turn, all_alike lines others mid d after same.2 rest, is)

same_table : (s t : Script) → IsSameScript s t → table_of s ≡ table_of t
same_table s t same = λ i. record { kind = same.kind i; shape = same.shape i; first_counter = same.first_counter i }

opens_alike : (s t : Script) (c : Core) → IsSameScript s t → Opens s c → Opens t c
opens_alike s t c same opens = subst (λ (x : Table). LeadsTo (opening_of x) (draws (x.shape.seats - 1)) c) (same_table s t same) opens

pub runs_alike : (s t : Script) (text : List ℕ) → IsSameScript s t → Runs s text → Runs t text
runs_alike s t text same run = record {
  first = run.first;
  last = run.last;
  items = run.items;
  opens = opens_alike s t run.first same run.opens;
  turns = all_alike s.lines.items t.lines.items run.first run.last run.items same.lines run.turns;
  printed = run.printed;
  log = run.log;
  lawful = subst (λ x. IsShort run.last.log → IsLawful (kind_of x) run.last.log) (same_table s t same) run.lawful;
}
