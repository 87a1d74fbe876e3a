-- No script prints two texts or is at fault at two lines, and none does both.
use Rattle.std.proofs.Common.{◌≡◌, ◌⊎◌, ℕ, List, [], ◌∷◌, ◌++◌, length, inl, inr, sym, ap, subst, ◌∙◌}
use Rattle.table_shape.specs.Shape.{words_of}
use Rattle.cht_core.specs.declared.table.Table.{Table}
use Rattle.cht_core.specs.State.{Core}
use Rattle.schedule_sim.specs.declared.script.Numbered.{Numbered}
use Rattle.schedule_sim.specs.declared.script.Script.{Script}
use Rattle.schedule_sim.specs.PrintedLines.{Printed, lines_of}
use Rattle.schedule_sim.specs.Turns.{Turns, AllTurn, FailsAt, FailsIn, IsAtFault, Runs}
use Rattle.schedule_sim.proofs.Forms.{head_of, tail_of}
use Rattle.schedule_sim.proofs.Lasting.{turn_fits}
use Rattle.schedule_sim.proofs.OneTurn.{turn_one, turn_met}
use Rattle.schedule_sim.proofs.Opened.{opens_one, opens_sized}

-- ALL LINES

abbrev IsSized : Core → Type 0
IsSized c = length c.words ≡ words_of c.table.shape

sized_on : (l : Numbered) (c d : Core) (items : List Printed) → IsSized c → Turns l.line c items d → IsSized d
sized_on l c d items sized turn =
    let fits = turn_fits l.line c items d turn in
    fits.1 ∙ sized ∙ ap (λ (t : Table). words_of t.shape) (sym fits.0)

all_one : (lines : List Numbered) (c d e : Core) (items more : List Printed) → IsSized c → AllTurn lines c items d → AllTurn lines c more e → (d ≡ e) × (items ≡ more)
all_one [] c d e items more sized all also = (sym all.0 ∙ also.0, all.1 ∙ sym also.1)
all_one (l ∷ lines) c d e items more sized (mid, before, after, turn, others, is) (there, first, last, turns, rest, are) =
    let (same, printed) = turn_one l.line c mid there before first sized turn turns in
    let (state, prints) = all_one lines mid d e after last (sized_on l c mid before sized turn) others (subst (λ x. AllTurn lines x last e) (sym same) rest) in
    (state, is ∙ ap (λ p. p ++ after) printed ∙ ap (λ p. first ++ p) prints ∙ sym are)

-- A LINE AT FAULT

none_in : (before after : List Numbered) (l : Numbered) → [] ≡ before ++ l ∷ after → ⊥
none_in [] after l is = cc
none_in (b ∷ before) after l is = cc

-- the first of the lines is at fault, or it has its turn and a later one is at fault
at_first : (l : Numbered) (lines : List Numbered) (c : Core) (n : ℕ) → FailsIn (l ∷ lines) c n →
    ((n ≡ l.number) × IsAtFault l.line c) ⊎ ((mid : Core) × (items : List Printed) × Turns l.line c items mid × FailsIn lines mid n)
at_first l lines c n fails = go fails.before fails.items fails.parts fails.turns
  where
    go : (before : List Numbered) (items : List Printed) → l ∷ lines ≡ before ++ fails.at ∷ fails.after → AllTurn before c items fails.last →
        ((n ≡ l.number) × IsAtFault l.line c) ⊎ ((mid : Core) × (items : List Printed) × Turns l.line c items mid × FailsIn lines mid n)
    go [] items parts turns =
        let here : l ≡ fails.at = head_of _ _ _ _ parts in
        inl (fails.numbered ∙ ap (λ (x : Numbered). x.number) (sym here), subst (λ (x : Numbered). IsAtFault x.line c) (sym here) (subst (IsAtFault fails.at.line) (sym turns.0) fails.fault))
    go (b ∷ before) items parts (mid, some, rest, turn, others, is) =
        inr (
          mid,
          some,
          subst (λ (x : Numbered). Turns x.line c some mid) (sym (head_of _ _ _ _ parts)) turn,
          record {
            last = fails.last;
            items = rest;
            before = before;
            at = fails.at;
            after = fails.after;
            parts = tail_of _ _ _ _ parts;
            turns = others;
            fault = fails.fault;
            numbered = fails.numbered;
          },
        )

all_meet : (lines : List Numbered) (c d : Core) (items : List Printed) (n : ℕ) → IsSized c → AllTurn lines c items d → ¬ (FailsIn lines c n)
all_meet [] c d items n sized all fails = none_in fails.before fails.after fails.at fails.parts
all_meet (l ∷ lines) c d items n sized (mid, before, after, turn, others, is) fails = elim (at_first l lines c n fails) [
  | inl here ↦ turn_met l.line c mid before turn here.1
  | inr later ↦
      let (same, printed) = turn_one l.line c mid later.0 before later.1 sized turn later.2 in
      all_meet lines mid d after n (sized_on l c mid before sized turn) others (subst (λ x. FailsIn lines x n) (sym same) later.3)
]

one_fault_in : (lines : List Numbered) (c : Core) (m n : ℕ) → IsSized c → FailsIn lines c m → FailsIn lines c n → m ≡ n
one_fault_in [] c m n sized fails also = absurd (none_in fails.before fails.after fails.at fails.parts)
one_fault_in (l ∷ lines) c m n sized fails also = elim (at_first l lines c m fails) [
  | inl here ↦ elim (at_first l lines c n also) [
    | inl there ↦ here.0 ∙ sym there.0
    | inr later ↦ absurd (turn_met l.line c later.0 later.1 later.2 here.1)
  ]
  | inr later ↦ elim (at_first l lines c n also) [
    | inl there ↦ absurd (turn_met l.line c later.0 later.1 later.2 there.1)
    | inr last ↦
        let (same, printed) = turn_one l.line c later.0 last.0 later.1 last.1 sized later.2 last.2 in
        one_fault_in lines later.0 m n (sized_on l c later.0 later.1 sized later.2) later.3 (subst (λ x. FailsIn lines x n) (sym same) last.3)
  ]
]

-- A WHOLE SCRIPT

pub runs_one : (s : Script) (a b : List ℕ) → Runs s a → Runs s b → a ≡ b
runs_one s a b run also =
    let same : run.first ≡ also.first = opens_one s run.first also.first run.opens also.opens in
    let (state, items) =
    all_one s.lines.items run.first run.last also.last run.items also.items (opens_sized s run.first run.opens) run.turns
    (subst (λ x. AllTurn s.lines.items x also.items also.last) (sym same) also.turns) in
    run.printed ∙ ap lines_of items ∙ sym also.printed

pub runs_meet : (s : Script) (text : List ℕ) (n : ℕ) → Runs s text → ¬ (FailsAt s n)
runs_meet s text n run fails =
    let same : fails.first ≡ run.first = opens_one s fails.first run.first fails.opens run.opens in
    all_meet s.lines.items run.first run.last run.items n (opens_sized s run.first run.opens) run.turns (subst (λ x. FailsIn s.lines.items x n) same fails.fails)

pub one_fault_of_run : (s : Script) (m n : ℕ) → FailsAt s m → FailsAt s n → m ≡ n
one_fault_of_run s m n fails also =
    let same : also.first ≡ fails.first = opens_one s also.first fails.first also.opens fails.opens in
    one_fault_in s.lines.items fails.first m n (opens_sized s fails.first fails.opens) fails.fails (subst (λ x. FailsIn s.lines.items x n) same also.fails)
