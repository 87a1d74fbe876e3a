-- Lines that were read, one after the other.
use Rattle.std.proofs.Common.{◌≡◌, ℕ, List, [], ◌∷◌, ◌++◌, sym, ◌∙◌, ap, append_assoc, All}
use Rattle.std.proofs.lemmas.List.Elements.{All-nil, All-cons}
use Rattle.intern_log.specs.declared.event.Kind.{Kind}
use Rattle.schedule_sim.specs.declared.script.Numbered.{Numbered}
use Rattle.schedule_sim.specs.Line.{IsLine, IsOfForm}
use Rattle.schedule_sim.specs.Script.{AreLines}

pub reads_more : (kind : Kind) (before : List (ℕ × List ℕ)) (read : List Numbered) (t : ℕ × List ℕ) (n : Numbered) → AreLines kind before read → (n.number ≡ t.0) → IsLine kind t.1 n.line → AreLines kind (before ++ t ∷ []) (read ++ n ∷ [])
reads_more kind [] [] t n all number line = (number, line, tt)
reads_more kind [] (m ∷ ms) t n all number line = absurd all
reads_more kind (u ∷ us) [] t n all number line = absurd all
reads_more kind (u ∷ us) (m ∷ ms) t n all number line = (all.0, all.1, reads_more kind us ms t n all.2 number line)

pub reads_formed : (kind : Kind) (before : List (ℕ × List ℕ)) (read : List Numbered) → AreLines kind before read → All (λ (t : ℕ × List ℕ). IsOfForm kind t.1) before
reads_formed kind [] read all = All-nil (λ (t : ℕ × List ℕ). IsOfForm kind t.1)
reads_formed kind (u ∷ us) [] all = absurd all
reads_formed kind (u ∷ us) (m ∷ ms) all = All-cons (λ (t : ℕ × List ℕ). IsOfForm kind t.1) u us (m.line, all.1) (reads_formed kind us ms all.2)

-- the next of the lines that are left joins those that were taken
pub taken_more : (whole before after next : List (ℕ × List ℕ)) (t : ℕ × List ℕ) → whole ≡ before ++ next → next ≡ t ∷ after → whole ≡ (before ++ t ∷ []) ++ after
taken_more whole before after next t is first = is ∙ ap (λ n. before ++ n) first ∙ sym (append_assoc before (t ∷ []) after)
