-- Scripts that say the same. A text is its bytes.
use Rattle.std.specs.Prelude.{◌≡◌, List, [], ◌∷◌}
use Rattle.schedule_sim.specs.declared.script.Asked.{Asked}
use Rattle.schedule_sim.specs.declared.script.Asked.TheVariants as asked
use Rattle.schedule_sim.specs.declared.script.Line.{Line}
use Rattle.schedule_sim.specs.declared.script.Line.TheVariants as line
use Rattle.schedule_sim.specs.declared.script.Numbered.{Numbered}
use Rattle.schedule_sim.specs.declared.script.Script.{Script}

-- two lines ask for the same call
abbrev pub IsSameAsked : Asked → Asked → Type 0
IsSameAsked (asked.Intern text) (asked.Intern other) = text.items ≡ other.items
IsSameAsked (asked.Lookup text) (asked.Lookup other) = text.items ≡ other.items
IsSameAsked a b = a ≡ b

-- two lines say the same
abbrev pub IsSameLine : Line → Line → Type 0
IsSameLine (line.Call seat a) (line.Call other b) = (seat ≡ other) × IsSameAsked a b
IsSameLine a b = a ≡ b

-- lines with the same numbers say the same, one by one
abbrev pub AreSameLines : List Numbered → List Numbered → Type 0
AreSameLines [] [] = Unit {0}
AreSameLines (a ∷ lines) (b ∷ others) = (a.number ≡ b.number) × IsSameLine a.line b.line × AreSameLines lines others
AreSameLines _ _ = ⊥

-- two scripts are of the same table and have the same lines
pub record IsSameScript (s t : Script) : Type 0 where
  pub kind : s.kind ≡ t.kind
  pub shape : s.shape ≡ t.shape
  pub first_counter : s.first_counter ≡ t.first_counter
  pub lines : AreSameLines s.lines.items t.lines.items
