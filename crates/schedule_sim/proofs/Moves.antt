-- What a move of a seat leaves as it is: the table, the number of its words and of its seats, and what its log had.
use Rattle.std.proofs.Common.{◌≡◌, ℕ, List, [], ◌∷◌, ◌++◌, append-nil, length, set, drop, Option, Some, None, inl, inr, refl, sym, ap, subst, ◌∙◌}
use Rattle.std.proofs.lemmas.List.{length-set}
use Rattle.intern_log.specs.declared.event.Event.{Event}
use Rattle.table_shape.specs.declared.shape.Shape.{Shape}
use Rattle.atomic_step.specs.Step.{access_of}
use Rattle.atomic_step.specs.Table.{word_at}
use Rattle.call_machine.specs.declared.call.Call.{Call}
use Rattle.call_machine.specs.Machine.{event_of}
use Rattle.cht_core.specs.declared.rehash.Rehashing.TheVariants as rehashing
use Rattle.cht_core.specs.declared.seat.Seat.{Seat}
use Rattle.cht_core.specs.declared.seat.Seat.TheVariants as doing
use Rattle.cht_core.specs.declared.state.Started.{Started}
use Rattle.cht_core.specs.declared.state.Stepped.{Stepped}
use Rattle.cht_core.specs.Invariant.{events_of}
use Rattle.cht_core.specs.Past.{by}
use Rattle.cht_core.specs.Rehash.{seeds}
use Rattle.cht_core.specs.Runs.{Move, LeadsTo}
use Rattle.cht_core.specs.State.{Core, now_at, with_drawn, StartsAs, StepsAs, RehashesAs}
use Rattle.schedule_sim.specs.Turns.{Keeps, IsLegal}

-- THE LOG

abbrev pub Grew : List Event → List Event → Type 0
Grew log later = (window : List Event) × (later ≡ log ++ window)

pub drop_all : (log window : List Event) → drop (length log) (log ++ window) ≡ window
drop_all [] window = refl
drop_all (e ∷ log) window = drop_all log window

pub fresh : (log later : List Event) → Grew log later → later ≡ log ++ drop (length log) later
fresh log later (window, is) = subst (λ l. l ≡ log ++ drop (length log) l) (sym is) (ap (λ l. log ++ l) (sym (drop_all log window)))

not_grown : (c d : Core) → d ≡ c → Grew c.log d.log
not_grown c d same = ([], ap (λ (e : Core). e.log) same ∙ sym (append-nil c.log))

pub step_grows : (c d : Core) (k : ℕ) (o : Option Seat) (said : Stepped) → StepsAs c k o said d → Grew c.log d.log
step_grows c d k None said makes = not_grown c d makes.1
step_grows c d k (Some (doing.Idle own)) said makes = not_grown c d makes.1
step_grows c d k (Some (doing.Running m)) said makes = (events_of k (event_of m (word_at c.table.shape (access_of makes.step).place c.words)), ap (λ (e : Core). e.log) makes.state)

pub rehash_grows : (c d : Core) → RehashesAs c rehashing.Done d → Grew c.log d.log
rehash_grows c d makes = (by 0 (seeds (now_at c)) ∷ [], ap (λ (e : Core). e.log) makes.state)

-- WHAT STAYS

same_kept : (c d : Core) → d ≡ c → Keeps c d
same_kept c d same = subst (Keeps c) (sym same) (record { table = refl; sized = refl; seats = refl; lawful = λ legal. legal })

length_drawn : (shape : Shape) (number : Option ℕ) (seats : List (Option Seat)) → length (with_drawn shape number seats) ≡ length seats
length_drawn shape None seats = refl
length_drawn shape (Some number) seats = length-set seats number _

pub step_kept : (c d : Core) (k : ℕ) (o : Option Seat) (said : Stepped) → StepsAs c k o said d → IsLegal d → Keeps c d
step_kept c d k None said makes legal = same_kept c d makes.1
step_kept c d k (Some (doing.Idle own)) said makes legal = same_kept c d makes.1
step_kept c d k (Some (doing.Running m)) said makes legal = record {
  table = ap (λ (e : Core). e.table) makes.state;
  sized = ap (λ (e : Core). length e.words) makes.state ∙ length-set c.words _ _;
  seats = ap (λ (e : Core). length e.seats) makes.state ∙ length_drawn c.table.shape _ _ ∙ length-set c.seats k _;
  lawful = λ before. legal;
}

started_kept : (c d : Core) (k : ℕ) (s : Seat) → d ≡ record c { seats = set c.seats k (Some s) } → Keeps c d
started_kept c d k s is = subst (Keeps c) (sym is) (record { table = refl; sized = refl; seats = length-set c.seats k _; lawful = λ legal. legal })

pub start_kept : (c d : Core) (k : ℕ) (asked : Call) (o : Option Seat) (said : Started) → StartsAs c k asked o said d → Keeps c d
start_kept c d k asked None said makes = same_kept c d makes.1
start_kept c d k asked (Some (doing.Running m)) said makes = same_kept c d makes.1
start_kept c d k asked (Some (doing.Idle own)) said (inl starts) = started_kept c d k _ starts.state
start_kept c d k asked (Some (doing.Idle own)) said (inr refused) = same_kept c d refused.1

pub rehash_kept : (c d : Core) → RehashesAs c rehashing.Done d → IsLegal d → Keeps c d
rehash_kept c d makes legal = record {
  table = ap (λ (e : Core). e.table) makes.state;
  sized = makes.sized;
  seats = ap (λ (e : Core). length e.seats) makes.state;
  lawful = λ before. legal;
}

pub kept_twice : (c d e : Core) → Keeps c d → Keeps d e → Keeps c e
kept_twice c d e one two = record {
  table = two.table ∙ one.table;
  sized = two.sized ∙ one.sized;
  seats = two.seats ∙ one.seats;
  lawful = λ legal. two.lawful (one.lawful legal);
}

pub kept_once : (c : Core) → Keeps c c
kept_once c = same_kept c c refl

-- LISTS OF MOVES

pub leads_join : (c d e : Core) (before after : List Move) → LeadsTo c before d → LeadsTo d after e → LeadsTo c (before ++ after) e
leads_join c d e [] after same leads = subst (λ x. LeadsTo x after e) (sym same) leads
leads_join c d e (move ∷ before) after first leads = (first.0, first.1, leads_join first.0 d e before after first.2 leads)

pub leads_split : (c e : Core) (before after : List Move) → LeadsTo c (before ++ after) e → (d : Core) × LeadsTo c before d × LeadsTo d after e
leads_split c e [] after leads = (c, refl, leads)
leads_split c e (move ∷ before) after leads =
    let (d, first, rest) = leads_split leads.0 e before after leads.2 in
    (d, (leads.0, leads.1, first), rest)
