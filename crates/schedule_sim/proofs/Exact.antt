-- Bytes are a script, or have one first fault, and never both.
use Rattle.std.proofs.Common.{◌≡◌, ℕ, inl, inr, List, [], ◌∷◌, ◌++◌, length, refl, sym, ◌∙◌, ap, subst, All, codes}
use Rattle.std.proofs.lemmas.List.Elements.{All-head, All-tail}
use Rattle.intern_log.specs.declared.event.Kind.{Kind}
use Rattle.intern_log.specs.declared.event.Kind.TheVariants.{Counted, Weak}
use Rattle.table_shape.specs.declared.shape.Shape.{Shape}
use Rattle.schedule_sim.specs.declared.script.Script.{Script}
use Rattle.schedule_sim.specs.Line.{IsOfForm}
use Rattle.schedule_sim.specs.Lines.{lines_of, told_lines}
use Rattle.schedule_sim.specs.Script.{table_word, IsOpening, IsScriptOf, IsScript, IsFirstFault, IsFaultAmong, IsFault}
use Rattle.schedule_sim.proofs.Forms.{head_of, tail_of, differ}
use Rattle.schedule_sim.proofs.ReadLines.{reads_formed}

-- the bytes of a line with a number are of the form
abbrev IsFormed : Kind → (ℕ × List ℕ) → Type 0
IsFormed kind t = IsOfForm kind t.1

-- where all lines are of the form, so is each
formed_between : (kind : Kind) (before after : List (ℕ × List ℕ)) (t : ℕ × List ℕ) → All (λ (u : ℕ × List ℕ). IsFormed kind u) (before ++ t ∷ after) → IsFormed kind t
formed_between kind [] after t all = All-head (λ (u : ℕ × List ℕ). IsFormed kind u) t after all
formed_between kind (v ∷ vs) after t all = formed_between kind vs after t (All-tail (λ (u : ℕ × List ℕ). IsFormed kind u) v (vs ++ t ∷ after) all)

-- the first line that is not of the form is one
same_first : (kind : Kind) (p q a b : List (ℕ × List ℕ)) (t u : ℕ × List ℕ) → p ++ t ∷ a ≡ q ++ u ∷ b → All (λ (w : ℕ × List ℕ). IsFormed kind w) p → All (λ (w : ℕ × List ℕ). IsFormed kind w) q → ¬ (IsFormed kind t) → ¬ (IsFormed kind u) → t ≡ u
same_first kind [] [] a b t u is all each bad worse = head_of _ _ _ _ is
same_first kind [] (w ∷ ws) a b t u is all each bad worse =
    absurd (bad (subst (IsFormed kind) (sym (head_of _ _ _ _ is)) (All-head (λ (v : ℕ × List ℕ). IsFormed kind v) w ws each)))
same_first kind (v ∷ vs) [] a b t u is all each bad worse =
    absurd (worse (subst (IsFormed kind) (head_of _ _ _ _ is) (All-head (λ (w : ℕ × List ℕ). IsFormed kind w) v vs all)))
same_first kind (v ∷ vs) (w ∷ ws) a b t u is all each bad worse =
    same_first kind vs ws a b t u (tail_of _ _ _ _ is) (All-tail (λ (x : ℕ × List ℕ). IsFormed kind x) v vs all) (All-tail (λ (x : ℕ × List ℕ). IsFormed kind x) w ws each) bad worse

one_first : (kind : Kind) (told : List (ℕ × List ℕ)) (m n : ℕ) → IsFirstFault kind told m → IsFirstFault kind told n → m ≡ n
one_first kind told m n f g =
    let same : (m, f.bytes) ≡ (n, g.bytes) = same_first kind f.before g.before f.after g.after (m, f.bytes) (n, g.bytes) (sym f.place ∙ g.place) f.formed g.formed f.fault g.fault in
    ap (λ (t : ℕ × List ℕ). t.0) same

-- the words of the two kinds differ
same_kind : (a b : Kind) → table_word a ≡ table_word b → a ≡ b
same_kind Counted Counted is = refl
same_kind Counted Weak is = absurd (differ (codes "counted") (codes "weak") refl is)
same_kind Weak Counted is = absurd (differ (codes "weak") (codes "counted") refl is)
same_kind Weak Weak is = refl

-- bytes open scripts of one kind alone
pub opens_kind : (bytes : List ℕ) (a b : Kind) (s t : Shape) (m n : ℕ) → IsOpening bytes a s m → IsOpening bytes b t n → a ≡ b
opens_kind bytes a b s t m n o p = same_kind a b (head_of _ _ _ _ (tail_of _ _ _ _ (sym o.parts ∙ p.parts)))

no_later : (kind : Kind) (told : List (ℕ × List ℕ)) (n : ℕ) → All (λ (u : ℕ × List ℕ). IsFormed kind u) told → ¬ (IsFirstFault kind told n)
no_later kind told n all f = f.fault (formed_between kind f.before f.after (n, f.bytes) (subst (λ l. All (λ (u : ℕ × List ℕ). IsFormed kind u) l) f.place all))

no_fault_among : (lines : ℕ) (told : List (ℕ × List ℕ)) (script : Script) (n : ℕ) → IsScriptOf told script → ¬ (IsFaultAmong lines told n)
no_fault_among lines [] script n is fault = is
no_fault_among lines (first ∷ more) script n is (inl none) = none.1 script.kind script.shape script.first_counter is.0
no_fault_among lines (first ∷ more) script n is (inr later) =
    let same : later.kind ≡ script.kind = opens_kind first.1 _ _ _ _ _ _ later.opens is.0 in
    no_later script.kind more n (reads_formed script.kind more script.lines.items is.1) (subst (λ k. IsFirstFault k more n) same later.fault)

one_fault_among : (lines : ℕ) (told : List (ℕ × List ℕ)) (m n : ℕ) → IsFaultAmong lines told m → IsFaultAmong lines told n → m ≡ n
one_fault_among lines [] m n f g = f ∙ sym g
one_fault_among lines (first ∷ more) m n (inl f) (inl g) = f.0 ∙ sym g.0
one_fault_among lines (first ∷ more) m n (inl f) (inr g) = absurd (f.1 g.kind g.shape g.counter g.opens)
one_fault_among lines (first ∷ more) m n (inr f) (inl g) = absurd (g.1 f.kind f.shape f.counter f.opens)
one_fault_among lines (first ∷ more) m n (inr f) (inr g) =
    let same : f.kind ≡ g.kind = opens_kind first.1 _ _ _ _ _ _ f.opens g.opens in
    one_first g.kind more m n (subst (λ k. IsFirstFault k more m) same f.fault) g.fault

pub no_fault : (bytes : List ℕ) (script : Script) (n : ℕ) → IsScript bytes script → ¬ (IsFault bytes n)
no_fault bytes script n is fault = no_fault_among (length (lines_of bytes)) (told_lines bytes) script n is fault

pub one_fault : (bytes : List ℕ) (m n : ℕ) → IsFault bytes m → IsFault bytes n → m ≡ n
one_fault bytes m n f g = one_fault_among (length (lines_of bytes)) (told_lines bytes) m n f g
