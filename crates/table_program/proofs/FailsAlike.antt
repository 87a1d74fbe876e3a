-- Scripts that say the same are at fault alike.
use Rattle.std.proofs.Common.{◌≡◌, ◌-◌, List, [], ◌∷◌, ◌++◌, ℕ, refl, ap, subst, ◌∙◌}
use Rattle.std.specs.Prelude.{Option, Some, None}
use Rattle.call_machine.specs.declared.call.Call.{Call}
use Rattle.cht_core.specs.declared.seat.Seat.{Seat}
use Rattle.cht_core.specs.declared.seat.Seat.TheVariants as doing
use Rattle.cht_core.specs.declared.table.Table.{Table}
use Rattle.cht_core.specs.Runs.{LeadsTo}
use Rattle.cht_core.specs.State.{Core, opening_of, seat_in}
use Rattle.schedule_sim.specs.declared.script.Asked.{Asked}
use Rattle.schedule_sim.specs.declared.script.Asked.TheVariants as asked
use Rattle.schedule_sim.specs.declared.script.Line.{Line}
use Rattle.schedule_sim.specs.declared.script.Line.TheVariants as line
use Rattle.schedule_sim.specs.declared.script.Numbered.{Numbered}
use Rattle.schedule_sim.specs.declared.script.Script.{Script}
use Rattle.schedule_sim.specs.PrintedLines.{Printed}
use Rattle.schedule_sim.specs.Same.{IsSameAsked, IsSameLine, AreSameLines, IsSameScript}
use Rattle.schedule_sim.specs.Turns.{AllTurn, Asks, Calls, FailsAt, FailsIn, IsAtFault, IsNotMet, Opens, Turns, draws, table_of}

asks_alike : (a b : Asked) (c : Call) → IsSameAsked a b → Asks a c → Asks b c
asks_alike (asked.Intern text) (asked.Intern other) c same (bytes, is, now) = (bytes, is, now ∙ same)
asks_alike (asked.Lookup text) (asked.Lookup other) c same (bytes, is, now) = (bytes, is, now ∙ same)
asks_alike a b c same asks = subst (λ x. Asks x c) same asks

turn_alike : (l m : Line) (c d : Core) (items : List Printed) → IsSameLine l m → Turns l c items d → Turns m c items d
turn_alike (line.Call seat a) (line.Call other b) c d items same turn =
    subst (λ k. Calls k b c items d) same.0 (record { asked = turn.asked; asks = asks_alike a b turn.asked same.1 turn.asks; said = turn.said; starts = turn.starts; printed = turn.printed })
turn_alike l m c d items same turn = subst (λ x. Turns x c items d) same turn

not_met_alike : (c : Core) (a b : Asked) (seat : Option Seat) → IsSameAsked a b → IsNotMet c a seat → IsNotMet c b seat
not_met_alike c a b None same not_met = tt
not_met_alike c a b (Some (doing.Running m)) same not_met = tt
not_met_alike c a b (Some (doing.Idle own)) same (call, asks, refused) = (call, asks_alike a b call same asks, refused)

fault_alike : (l m : Line) (c : Core) → IsSameLine l m → IsAtFault l c → IsAtFault m c
fault_alike (line.Call seat a) (line.Call other b) c same fault =
    subst (λ k. IsNotMet c b (seat_in c.seats k)) same.0 (not_met_alike c a b (seat_in c.seats seat) same.1 fault)
fault_alike l m c same fault = subst (λ x. IsAtFault x c) same fault

parts_alike : (before after : List Numbered) (at : Numbered) (others : List Numbered) (c d : Core) (items : List Printed) (number : ℕ) →
    AreSameLines (before ++ at ∷ after) others → AllTurn before c items d → IsAtFault at.line d → number ≡ at.number → FailsIn others c number
parts_alike [] after at [] c d items number same turns fault numbered = absurd same
parts_alike [] after at (m ∷ others) c d items number same turns fault numbered = record {
  last = d;
  items = items;
  before = [];
  at = m;
  after = others;
  parts = refl;
  turns = turns;
  fault = fault_alike at.line m.line d same.1 fault;
  numbered = numbered ∙ same.0;
}
parts_alike (b ∷ before) after at [] c d items number same turns fault numbered = absurd same
parts_alike (b ∷ before) after at (m ∷ others) c d items number same (mid, first, rest, turn, more, is) fault numbered =
    let later = parts_alike before after at others mid d rest number same.2 more fault numbered in
    record {
      last = later.last;
      items = first ++ later.items;
      before = m ∷ later.before;
      at = later.at;
      after = later.after;
      parts = ap (λ l. m ∷ l) later.parts;
      turns = (mid, first, later.items, turn_alike b.line m.line c mid first same.1 turn, later.turns, refl);
      fault = later.fault;
      numbered = later.numbered;
    }

opens_alike : (s t : Script) (c : Core) → IsSameScript s t → Opens s c → Opens t c
opens_alike s t c same opens =
    let tables : table_of s ≡ table_of t = λ i. record { kind = same.kind i; shape = same.shape i; first_counter = same.first_counter i } in
    subst (λ (x : Table). LeadsTo (opening_of x) (draws (x.shape.seats - 1)) c) tables opens

pub fails_alike : (s t : Script) (number : ℕ) → IsSameScript s t → FailsAt s number → FailsAt t number
fails_alike s t number same at =
    let fails = at.fails in
    record {
      first = at.first;
      opens = opens_alike s t at.first same at.opens;
      fails = parts_alike fails.before fails.after fails.at t.lines.items at.first fails.last fails.items number
          (subst (λ lines. AreSameLines lines t.lines.items) fails.parts same.lines) fails.turns fails.fault fails.numbered;
    }
