-- Bytes are one script.
use Rattle.std.proofs.Common.{◌≡◌, ℕ, List, [], ◌∷◌, get_or, refl, sym, ap, subst, ◌∙◌, arith}
use Rattle.intern_log.specs.declared.event.Kind.{Kind}
use Rattle.schedule_sim.specs.declared.script.Asked.{Asked}
use Rattle.schedule_sim.specs.declared.script.Asked.TheVariants as asked
use Rattle.schedule_sim.specs.declared.script.Line.{Line}
use Rattle.schedule_sim.specs.declared.script.Line.TheVariants as line
use Rattle.schedule_sim.specs.declared.script.Numbered.{Numbered}
use Rattle.schedule_sim.specs.declared.script.Script.{Script}
use Rattle.schedule_sim.specs.Line.{IsAskedIn, IsLineIn, IsNumber, asked_parts, handle_word, line_parts}
use Rattle.schedule_sim.specs.Lines.{told_lines}
use Rattle.schedule_sim.specs.Parts.{parts_at}
use Rattle.schedule_sim.specs.Same.{IsSameAsked, IsSameLine, AreSameLines, IsSameScript}
use Rattle.schedule_sim.specs.Script.{AreLines, IsScriptOf, IsScript}
use Rattle.schedule_sim.proofs.Exact.{opens_kind}
use Rattle.schedule_sim.proofs.Forms.{head_of, tail_of, differ}
use Rattle.schedule_sim.proofs.Handles.{handle_parts}
use Rattle.schedule_sim.proofs.Openings.{fit_small, same_number, same_shape, same_counter}
use Rattle.schedule_sim.proofs.StepKinds.{one_kind}

-- A LINE

same_handle : (slot generation other later : ℕ) → IsNumber slot → IsNumber generation → IsNumber other → IsNumber later → handle_word slot generation ≡ handle_word other later → (slot ≡ other) × (generation ≡ later)
same_handle slot generation other later small below less under is =
    let parts = sym (handle_parts slot generation small below) ∙ ap (parts_at 46) is ∙ handle_parts other later less under in
    (same_number slot other _ _ small less parts, same_number generation later _ _ below under (tail_of _ _ _ _ parts))

-- the word of a call, and of a line
abbrev call_word : Asked → List ℕ
call_word a = get_or (asked_parts a) 0 []

abbrev first_word : Line → List ℕ
first_word l = get_or (line_parts l) 0 []

same_asked : (kind : Kind) (a b : Asked) → asked_parts a ≡ asked_parts b → IsAskedIn kind a → IsAskedIn kind b → IsSameAsked a b
same_asked kind (asked.Intern text) (asked.Intern other) is here there = head_of _ _ _ _ (tail_of _ _ _ _ is)
same_asked kind (asked.Lookup text) (asked.Lookup other) is here there = head_of _ _ _ _ (tail_of _ _ _ _ is)
same_asked kind (asked.Drop slot generation) (asked.Drop other later) is here there =
    let same = same_handle slot generation other later here.1 here.2 there.1 there.2 (head_of _ _ _ _ (tail_of _ _ _ _ is)) in λ i. asked.Drop (same.0 i) (same.1 i)
same_asked kind (asked.Permanent slot generation) (asked.Permanent other later) is here there =
    let same = same_handle slot generation other later here.1 here.2 there.1 there.2 (head_of _ _ _ _ (tail_of _ _ _ _ is)) in λ i. asked.Permanent (same.0 i) (same.1 i)
same_asked kind (asked.Kill slot generation) (asked.Kill other later) is here there =
    let same = same_handle slot generation other later here.1 here.2 there.1 there.2 (head_of _ _ _ _ (tail_of _ _ _ _ is)) in λ i. asked.Kill (same.0 i) (same.1 i)
same_asked kind asked.Clean asked.Clean is here there = refl
same_asked kind asked.Grow asked.Grow is here there = refl
same_asked kind asked.Shrink asked.Shrink is here there = refl
same_asked kind asked.Poll asked.Poll is here there = refl
same_asked kind a b is here there = absurd (differ (call_word a) (call_word b) refl (head_of _ _ _ _ is))

same_line : (kind : Kind) (a b : Line) → line_parts a ≡ line_parts b → IsLineIn kind a → IsLineIn kind b → IsSameLine a b
same_line kind (line.Call seat asks) (line.Call other again) is here there =
    let rest = tail_of _ _ _ _ is in (same_number seat other _ _ here.0 there.0 rest, same_asked kind asks again (tail_of _ _ _ _ rest) here.1 there.1)
same_line kind (line.Step seat steps) (line.Step other more) is here there =
    let rest = tail_of _ _ _ _ is in
    let seats : seat ≡ other = same_number seat other _ _ here.0 there.0 rest in
    let few = here.2 in
    let also = there.2 in
    let counts : steps ≡ more = same_number steps more _ _ (omega (arith, few)) (omega (arith, also)) (tail_of _ _ _ _ rest) in
    λ i. line.Step (seats i) (counts i)
same_line kind (line.Until seat step) (line.Until other next) is here there =
    let rest = tail_of _ _ _ _ is in
    let seats : seat ≡ other = same_number seat other _ _ here there rest in
    let kinds : step ≡ next = one_kind step next (head_of _ _ _ _ (tail_of _ _ _ _ rest)) in
    λ i. line.Until (seats i) (kinds i)
same_line kind (line.Run seat) (line.Run other) is here there = ap line.Run (same_number seat other _ _ here there (tail_of _ _ _ _ is))
same_line kind (line.Chain row bucket) (line.Chain other next) is here there =
    let rest = tail_of _ _ _ _ is in
    let rows : row ≡ other = same_number row other _ _ here.0 there.0 rest in
    let buckets : bucket ≡ next = same_number bucket next _ _ here.1 there.1 (tail_of _ _ _ _ rest) in
    λ i. line.Chain (rows i) (buckets i)
same_line kind line.Rehash line.Rehash is here there = refl
same_line kind a b is here there = absurd (differ (first_word a) (first_word b) refl (head_of _ _ _ _ is))

-- ALL LINES

same_lines : (kind : Kind) (told : List (ℕ × List ℕ)) (lines others : List Numbered) → AreLines kind told lines → AreLines kind told others → AreSameLines lines others
same_lines kind [] [] [] are also = tt
same_lines kind [] [] (m ∷ others) are also = absurd also
same_lines kind [] (l ∷ lines) others are also = absurd are
same_lines kind (t ∷ told) [] others are also = absurd are
same_lines kind (t ∷ told) (l ∷ lines) [] are also = absurd also
same_lines kind (t ∷ told) (l ∷ lines) (m ∷ others) are also =
    (are.0 ∙ sym also.0, same_line kind l.line m.line (sym are.1.0 ∙ also.1.0) are.1.1 also.1.1, same_lines kind told lines others are.2 also.2)

script_of : (told : List (ℕ × List ℕ)) (s t : Script) → IsScriptOf told s → IsScriptOf told t → IsSameScript s t
script_of [] s t is also = absurd is
script_of (first ∷ more) s t is also =
    let parts = sym is.0.parts ∙ also.0.parts in
    let kinds : s.kind ≡ t.kind = opens_kind first.1 s.kind t.kind s.shape t.shape s.first_counter t.first_counter is.0 also.0 in
    let (shapes, rest) = same_shape s.shape t.shape _ _ (fit_small s.shape s.fit) (fit_small t.shape t.fit) (tail_of _ _ _ _ (tail_of _ _ _ _ parts)) in
    let least = s.begins.1 in
    record {
      kind = kinds;
      shape = shapes;
      first_counter = same_counter s.first_counter t.first_counter (omega (arith, least)) t.begins rest;
      lines = same_lines t.kind more s.lines.items t.lines.items (subst (λ k. AreLines k more s.lines.items) kinds is.1) also.1;
    }

pub one_script : (bytes : List ℕ) (s t : Script) → IsScript bytes s → IsScript bytes t → IsSameScript s t
one_script bytes s t is also = script_of (told_lines bytes) s t is also
