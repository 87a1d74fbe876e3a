-- Lines that have their turns one after another, and what their events are.
use Rattle.std.proofs.Common.{◌≡◌, ◌<◌, ◌+◌, ℕ, zero, suc, length, take, drop, get_or, List, [], ◌∷◌, ◌++◌, append-nil, append_assoc, map, Option, Some, None, inl, inr, refl, sym, ap, subst, ◌∙◌}
use Rattle.std.proofs.lemmas.List.{take_more}
use Rattle.intern_log.specs.Lawful.{IsLawful}
use Rattle.intern_log.specs.Short.{IsShort}
use Rattle.atomic_step.specs.declared.access.StepKind.{StepKind}
use Rattle.call_machine.specs.declared.call.Call.{Call}
use Rattle.cht_core.specs.declared.seat.Seat.{Seat}
use Rattle.cht_core.specs.declared.seat.Seat.TheVariants as doing
use Rattle.cht_core.specs.declared.state.Started.{Started}
use Rattle.cht_core.specs.declared.state.Started.TheVariants as begun
use Rattle.cht_core.specs.declared.state.Stepped.{Stepped}
use Rattle.cht_core.specs.declared.state.Stepped.TheVariants as stepped
use Rattle.cht_core.specs.Past.{kind_of}
use Rattle.cht_core.specs.State.{Core, StartsAs}
use Rattle.schedule_sim.specs.declared.script.Line.{Line}
use Rattle.schedule_sim.specs.declared.script.Line.TheVariants as line
use Rattle.schedule_sim.specs.declared.script.Numbered.{Numbered}
use Rattle.schedule_sim.specs.declared.script.Script.{Script}
use Rattle.schedule_sim.specs.PrintedLines.{Printed, Tells, events_among}
use Rattle.schedule_sim.specs.Turns.{Begins, Steps, Goes, Turns, AllTurn, Prints, Keeps, Opens, Stands, Runs, answered}
use Rattle.schedule_sim.proofs.Opened.{opens_calm}
use Rattle.schedule_sim.proofs.Texts.{more_lines, events_of_two, events_told}

-- ONE MORE LINE

turn_on : (lines : List Numbered) (l : Numbered) (c mid d : Core) (before after : List Printed) → AllTurn lines c before mid → Turns l.line mid after d → AllTurn (lines ++ l ∷ []) c (before ++ after) d
turn_on [] l c mid d before after all turns =
    (d, after, [], subst (λ x. Turns l.line x after d) (sym all.0) turns, (refl, refl), ap (λ x. x ++ after) all.1 ∙ sym (append-nil after))
turn_on (first ∷ lines) l c mid d before after all turns =
    let (next, one, rest, turn, others, is) = all in
    (next, one, rest ++ after, turn, turn_on lines l next mid d rest after others turns, ap (λ x. x ++ after) is ∙ append_assoc one rest after)

pub turned_none : (c : Core) (out : List ℕ) → Prints (λ items. AllTurn [] c items c) out out
turned_none c out = ([], (refl, refl), sym (append-nil out))

pub turned_more : (lines : List Numbered) (l : Numbered) (c mid d : Core) (out between new : List ℕ) → Prints (λ items. AllTurn lines c items mid) out between →
    Prints (λ items. Turns l.line mid items d) between new → Prints (λ items. AllTurn (lines ++ l ∷ []) c items d) out new
turned_more lines l c mid d out between new (before, all, is_between) (after, turns, is_new) =
    (before ++ after, turn_on lines l c mid d before after all turns, more_lines out between new before after is_between is_new)

both_parts : (n : ℕ) (lines : List Numbered) → take n lines ++ drop n lines ≡ lines
both_parts zero lines = refl
both_parts (suc n) [] = refl
both_parts (suc n) (l ∷ lines) = ap (λ x. l ∷ x) (both_parts n lines)

-- the lines before one, it, and those after it
pub take_item : (lines : List Numbered) (i : ℕ) (item : Numbered) → i < length lines → item ≡ get_or lines i item → take (i + 1) lines ≡ take i lines ++ item ∷ []
take_item lines i item below is = take_more lines i item below ∙ ap (λ x. take i lines ++ x ∷ []) (sym is)

pub parts_at : (lines : List Numbered) (i : ℕ) (item : Numbered) → i < length lines → item ≡ get_or lines i item → lines ≡ take i lines ++ item ∷ drop (i + 1) lines
parts_at lines i item below is =
    sym (both_parts (i + 1) lines) ∙ ap (λ l. l ++ drop (i + 1) lines) (take_item lines i item below is) ∙ append_assoc (take i lines) (item ∷ []) (drop (i + 1) lines)

-- THE EVENTS

answered_none : (k : ℕ) (said : Stepped) → events_among (answered k said) ≡ []
answered_none k (stepped.Answered a) = refl
answered_none k stepped.Moved = refl
answered_none k stepped.Idle = refl

abbrev pub told : Core → Core → List Printed → Type 0
told c d items = d.log ≡ c.log ++ events_among items

told_same : (c : Core) → told c c []
told_same c = sym (append-nil c.log)

told_twice : (c d e : Core) (before after : List Printed) → told c d before → told d e after → told c e (before ++ after)
told_twice c d e before after one two =
    two ∙ ap (λ l. l ++ events_among after) one ∙ append_assoc c.log (events_among before) (events_among after) ∙ ap (λ l. c.log ++ l) (sym (events_of_two before after))

steps_told : (c : Core) (k : ℕ) (d : Core) (items : List Printed) → Steps c k d items → told c d items
steps_told c k d items steps =
    steps.log ∙ ap (λ l. c.log ++ l) (sym (ap events_among steps.printed ∙ events_of_two (map Tells steps.events) (answered k steps.said)
    ∙ ap (λ l. l ++ events_among (answered k steps.said)) (events_told steps.events) ∙ ap (λ l. steps.events ++ l) (answered_none k steps.said) ∙ append-nil steps.events))

goes_told : (until : Option StepKind) (k n : ℕ) (c : Core) (items : List Printed) (d : Core) → Goes until k n c items d → told c d items
goes_told until k zero c items d goes = subst (λ x. told c d x) (sym goes.1) (subst (λ x. told c x []) goes.0 (told_same c))
goes_told until k (suc n) c items d goes =
    let (mid, before, after, goes_before, on, steps, is) = goes in
    subst (λ x. told c d x) (sym is) (told_twice c mid d before after (goes_told until k n c before mid goes_before) (steps_told mid k d after steps))

begins_none : (k : ℕ) (said : Started) (items : List Printed) → Begins k said items → events_among items ≡ []
begins_none k begun.Started items is = ap events_among is
begins_none k (begun.Answered a) items is = ap events_among is
begins_none k begun.NoSeat items is = absurd is
begins_none k begun.Running items is = absurd is
begins_none k begun.Refused items is = absurd is

start_log : (c d : Core) (k : ℕ) (asked : Call) (o : Option Seat) (said : Started) → StartsAs c k asked o said d → d.log ≡ c.log
start_log c d k asked None said makes = ap (λ (e : Core). e.log) makes.1
start_log c d k asked (Some (doing.Running m)) said makes = ap (λ (e : Core). e.log) makes.1
start_log c d k asked (Some (doing.Idle own)) said (inl starts) = ap (λ (e : Core). e.log) starts.state
start_log c d k asked (Some (doing.Idle own)) said (inr refused) = ap (λ (e : Core). e.log) refused.1

turn_told : (l : Line) (c : Core) (items : List Printed) (d : Core) → Turns l c items d → told c d items
turn_told (line.Call k asks) c items d calls =
    start_log c d k calls.asked _ calls.said calls.starts ∙ sym (append-nil c.log) ∙ ap (λ l. c.log ++ l) (sym (begins_none k calls.said items calls.printed))
turn_told (line.Step k steps) c items d goes = goes_told None k goes.count c items d goes.goes
turn_told (line.Until k kind) c items d goes = goes_told (Some kind) k goes.count c items d goes.goes
turn_told (line.Run k) c items d goes = goes_told None k goes.count c items d goes.goes
turn_told (line.Chain row bucket) c items d shows =
    ap (λ (e : Core). e.log) shows.stays ∙ sym (append-nil c.log) ∙ ap (λ l. c.log ++ l) (sym (ap events_among shows.printed))
turn_told line.Rehash c items d anew = anew.log ∙ ap (λ l. c.log ++ l) (sym (ap events_among anew.printed ∙ events_told anew.events))

all_told : (lines : List Numbered) (c : Core) (items : List Printed) (d : Core) → AllTurn lines c items d → told c d items
all_told [] c items d all = subst (λ x. told c d x) (sym all.1) (subst (λ x. told c x []) all.0 (told_same c))
all_told (first ∷ lines) c items d all =
    let (mid, before, after, turn, others, is) = all in
    subst (λ x. told c d x) (sym is) (told_twice c mid d before after (turn_told first.line c before mid turn) (all_told lines mid after d others))

-- A WHOLE RUN

pub whole_run : (s : Script) (c d : Core) (text : List ℕ) → Opens s c → Stands s c → Keeps c d → Prints (λ items. AllTurn s.lines.items c items d) [] text → Runs s text
whole_run s c d text opens stands kept (items, all, is) = record {
  first = c;
  last = d;
  items = items;
  opens = opens;
  turns = all;
  printed = is;
  log = all_told s.lines.items c items d all ∙ ap (λ l. l ++ events_among items) (opens_calm s c opens);
  lawful = subst (λ t. IsShort d.log → IsLawful (kind_of t) d.log) (kept.table ∙ stands.table) (kept.lawful stands.lawful);
}
