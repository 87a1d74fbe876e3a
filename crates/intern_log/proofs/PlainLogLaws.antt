-- Window lists and literal lists grow by one name at the end, and at most one of them is legal and numbered.
use Rattle.std.proofs.Common.{◌≡◌, ℕ, ◌+◌, List, [], ◌∷◌, ◌++◌, Some, None, inl, inr, refl, sym, ap, subst, ◌∙◌, append-nil, append_assoc, add-zero, count_by, cond, arith}
use Rattle.std.proofs.lemmas.List.Sums.{sum_by-cons}
use Rattle.intern_log.specs.declared.event.Handle.{Handle}
use Rattle.intern_log.specs.declared.event.Entry.{Entry}
use Rattle.intern_log.specs.declared.event.Event.{Event}
use Rattle.intern_log.specs.declared.event.What.{What}
use Rattle.intern_log.specs.declared.event.What.TheVariants.{Create, Take, Found}
use Rattle.intern_log.specs.TextMap.{TextMap, no_texts, HasHandle}
use Rattle.intern_log.specs.Log.{next, Allows, map_after, IsLegalFrom, IsLegal}
use Rattle.intern_log.specs.Counts.{is_create}
use Rattle.intern_log.specs.Window.{by_seat, IsInternBy, IsCountedIntern, IsWeakIntern, let_go, IsWindowRun, IsLiteralList}
use Rattle.intern_log.specs.Finals.{finals}
use Rattle.intern_log.specs.PlainLogs.{slot_handle, slots_taken, IsNumbered, IsNumberedFrom, kills_of, IsPlainSymbolLog, IsPlainStringLog}
use Rattle.intern_log.proofs.Logs.{by_seat-append, IsLegalFrom-prefix, IsLegalFrom-rest}

some_is_none : {e : Entry} → Some e ≡ None → ⊥
some_is_none is = cc

same_handle : (e f : Entry) → Some e ≡ Some f → e.handle ≡ f.handle
same_handle e f is = let same : e ≡ f = cc in ap (λ (x : Entry). x.handle) same

-- one more name at the end of a window run
pub IsWindowRun-push : (hold : ℕ) (before : List Handle) (names : List (List ℕ)) (whats : List What) (after : List Handle) (name : List ℕ) (h : Handle) (what : What) →
    IsWindowRun hold before names whats after → IsCountedIntern name h what →
    IsWindowRun hold before (names ++ name ∷ []) (whats ++ what ∷ let_go hold (after ++ h ∷ [])) (after ++ h ∷ [])
IsWindowRun-push hold before [] whats after name h what run intern = (
  h,
  what,
  [],
  intern,
  ap (λ ws. ws ++ what ∷ let_go hold (after ++ h ∷ [])) run.0 ∙ ap (λ hs. what ∷ let_go hold (hs ++ h ∷ [])) run.1 ∙ ap (λ ws. what ∷ ws) (sym (append-nil _)),
  (refl, ap (λ hs. hs ++ h ∷ []) run.1),
)
IsWindowRun-push hold before (first ∷ names) whats after name h what run intern = (
  run.0,
  run.1,
  run.2 ++ what ∷ let_go hold (after ++ h ∷ []),
  run.3,
  ap (λ ws. ws ++ what ∷ let_go hold (after ++ h ∷ [])) run.4 ∙ ap (λ ws. run.1 ∷ ws) (append_assoc (let_go hold (before ++ run.0 ∷ [])) run.2 _),
  IsWindowRun-push hold (before ++ run.0 ∷ []) names run.2 after name h what run.5 intern,
)

-- one more literal
pub IsLiteralList-push : (literals : List (List ℕ)) (whats : List What) (literal : List ℕ) (h : Handle) (what : What) →
    IsLiteralList literals whats → IsWeakIntern literal h what → IsLiteralList (literals ++ literal ∷ []) (whats ++ what ∷ [])
IsLiteralList-push [] whats literal h what run intern = (h, what, [], intern, ap (λ ws. ws ++ what ∷ []) run, refl)
IsLiteralList-push (first ∷ literals) whats literal h what run intern =
    (run.0, run.1, run.2 ++ what ∷ [], run.3, ap (λ ws. ws ++ what ∷ []) run.4, IsLiteralList-push literals run.2 literal h what run.5 intern)

-- one more event before a list, and one list after another
count_more : (n : ℕ) (x : What) (xs : List What) → n + slots_taken x + count_by is_create xs ≡ n + count_by is_create (x ∷ xs)
count_more n x xs = omega (arith, sum_by-cons (λ w. cond (is_create w) 1 0) x xs)

along : (m n : ℕ) (whats : List What) → m ≡ n → IsNumberedFrom m whats → IsNumberedFrom n whats
along m n whats same numbered = subst (λ k. IsNumberedFrom k whats) same numbered

pub IsNumberedFrom-append : (n : ℕ) (xs ys : List What) → IsNumberedFrom n xs → IsNumberedFrom (n + count_by is_create xs) ys → IsNumberedFrom n (xs ++ ys)
IsNumberedFrom-append n [] ys front rest = along (n + 0) n ys (add-zero n) rest
IsNumberedFrom-append n (x ∷ xs) ys front rest = (front.0, IsNumberedFrom-append (n + slots_taken x) xs ys front.1 (along _ _ ys (sym (count_more n x xs)) rest))

pub IsNumberedFrom-rest : (n : ℕ) (xs ys : List What) → IsNumberedFrom n (xs ++ ys) → IsNumberedFrom (n + count_by is_create xs) ys
IsNumberedFrom-rest n [] ys numbered = along n (n + 0) ys (sym (add-zero n)) numbered
IsNumberedFrom-rest n (x ∷ xs) ys numbered = along _ _ ys (count_more n x xs) (IsNumberedFrom-rest (n + slots_taken x) xs ys numbered.1)

-- an intern is the one that the map and the number of Creates allow
intern_is : (meets : List ℕ → Handle → What) → ((m : TextMap) (t : List ℕ) (h : Handle) → Allows m (meets t h) → HasHandle m t h) →
    (m : TextMap) (n : ℕ) (name : List ℕ) (h k : Handle) (a b : What) →
    IsInternBy meets name h a → IsInternBy meets name k b → Allows m a → Allows m b → IsNumbered n a → IsNumbered n b → (h ≡ k) × (a ≡ b)
intern_is meets met m n name h k a b (inl a_is) (inl b_is) a_may b_may a_number b_number =
    let h_is : h ≡ slot_handle n = subst (IsNumbered n) a_is a_number in
    let k_is : k ≡ slot_handle n = subst (IsNumbered n) b_is b_number in
    let same : h ≡ k = h_is ∙ sym k_is in
    (same, a_is ∙ ap (Create name) same ∙ sym b_is)
intern_is meets met m n name h k a b (inl a_is) (inr b_is) a_may b_may a_number b_number =
    let none : Allows m (Create name h) = subst (Allows m) a_is a_may in
    let there = met m name k (subst (Allows m) b_is b_may) in
    absurd (some_is_none (sym there.1 ∙ none.0))
intern_is meets met m n name h k a b (inr a_is) (inl b_is) a_may b_may a_number b_number =
    let none : Allows m (Create name k) = subst (Allows m) b_is b_may in
    let there = met m name h (subst (Allows m) a_is a_may) in
    absurd (some_is_none (sym there.1 ∙ none.0))
intern_is meets met m n name h k a b (inr a_is) (inr b_is) a_may b_may a_number b_number =
    let at_h = met m name h (subst (Allows m) a_is a_may) in
    let at_k = met m name k (subst (Allows m) b_is b_may) in
    let same : h ≡ k = sym at_h.2 ∙ same_handle at_h.0 at_k.0 (sym at_h.1 ∙ at_k.1) ∙ at_k.2 in
    (same, a_is ∙ ap (meets name) same ∙ sym b_is)

-- what follows the first events of a list is legal and numbered after them
legal_rest : (m : TextMap) (xs ys : List What) → IsLegalFrom m (by_seat 0 (xs ++ ys)) → IsLegalFrom (map_after m (by_seat 0 xs)) (by_seat 0 ys)
legal_rest m xs ys legal = IsLegalFrom-rest m (by_seat 0 xs) (by_seat 0 ys) (subst (IsLegalFrom m) (by_seat-append 0 xs ys) legal)

-- two window runs from one state that are legal and numbered are one
window_is_one : (hold : ℕ) (m : TextMap) (n : ℕ) (before : List Handle) (names : List (List ℕ)) (a b : List What) (after_a after_b : List Handle) →
    IsWindowRun hold before names a after_a → IsWindowRun hold before names b after_b →
    IsLegalFrom m (by_seat 0 a) → IsLegalFrom m (by_seat 0 b) → IsNumberedFrom n a → IsNumberedFrom n b → a ≡ b
window_is_one hold m n before [] a b after_a after_b run_a run_b legal_a legal_b numbered_a numbered_b = run_a.0 ∙ sym run_b.0
window_is_one hold m n before (name ∷ names) a b after_a after_b run_a run_b legal_a legal_b numbered_a numbered_b =
    let first : Handle → What → List What = λ h what. what ∷ let_go hold (before ++ h ∷ []) in
    let legal_in_a : IsLegalFrom m (by_seat 0 (first run_a.0 run_a.1 ++ run_a.2)) = subst (λ ws. IsLegalFrom m (by_seat 0 ws)) run_a.4 legal_a in
    let legal_in_b : IsLegalFrom m (by_seat 0 (first run_b.0 run_b.1 ++ run_b.2)) = subst (λ ws. IsLegalFrom m (by_seat 0 ws)) run_b.4 legal_b in
    let numbered_in_a : IsNumberedFrom n (first run_a.0 run_a.1 ++ run_a.2) = subst (IsNumberedFrom n) run_a.4 numbered_a in
    let numbered_in_b : IsNumberedFrom n (first run_b.0 run_b.1 ++ run_b.2) = subst (IsNumberedFrom n) run_b.4 numbered_b in
    let same = intern_is Take (λ m t h has. has) m n name run_a.0 run_b.0 run_a.1 run_b.1 run_a.3 run_b.3 legal_in_a.0 legal_in_b.0 numbered_in_a.0 numbered_in_b.0 in
    let firsts : first run_b.0 run_b.1 ≡ first run_a.0 run_a.1 = cc in
    let rest_a = legal_rest m (first run_a.0 run_a.1) run_a.2 legal_in_a in
    let rest_b = subst (λ ws. IsLegalFrom (map_after m (by_seat 0 ws)) (by_seat 0 run_b.2)) firsts (legal_rest m (first run_b.0 run_b.1) run_b.2 legal_in_b) in
    let count_a = IsNumberedFrom-rest n (first run_a.0 run_a.1) run_a.2 numbered_in_a in
    let count_b = subst (λ ws. IsNumberedFrom (n + count_by is_create ws) run_b.2) firsts (IsNumberedFrom-rest n (first run_b.0 run_b.1) run_b.2 numbered_in_b) in
    let run_in_b = subst (λ h. IsWindowRun hold (before ++ h ∷ []) names run_b.2 after_b) (sym same.0) run_b.5 in
    let rests = window_is_one hold (map_after m (by_seat 0 (first run_a.0 run_a.1))) (n + count_by is_create (first run_a.0 run_a.1)) (before ++ run_a.0 ∷ []) names run_a.2 run_b.2 after_a after_b run_a.5 run_in_b rest_a rest_b count_a count_b in
    run_a.4 ∙ ap (λ ws. first run_a.0 run_a.1 ++ ws) rests ∙ ap (λ ws. ws ++ run_b.2) (sym firsts) ∙ sym run_b.4

-- and two literal lists
literals_are_one : (m : TextMap) (n : ℕ) (literals : List (List ℕ)) (a b : List What) → IsLiteralList literals a → IsLiteralList literals b →
    IsLegalFrom m (by_seat 0 a) → IsLegalFrom m (by_seat 0 b) → IsNumberedFrom n a → IsNumberedFrom n b → a ≡ b
literals_are_one m n [] a b run_a run_b legal_a legal_b numbered_a numbered_b = run_a ∙ sym run_b
literals_are_one m n (literal ∷ literals) a b run_a run_b legal_a legal_b numbered_a numbered_b =
    let legal_in_a : IsLegalFrom m (by_seat 0 (run_a.1 ∷ run_a.2)) = subst (λ ws. IsLegalFrom m (by_seat 0 ws)) run_a.4 legal_a in
    let legal_in_b : IsLegalFrom m (by_seat 0 (run_b.1 ∷ run_b.2)) = subst (λ ws. IsLegalFrom m (by_seat 0 ws)) run_b.4 legal_b in
    let numbered_in_a : IsNumberedFrom n (run_a.1 ∷ run_a.2) = subst (IsNumberedFrom n) run_a.4 numbered_a in
    let numbered_in_b : IsNumberedFrom n (run_b.1 ∷ run_b.2) = subst (IsNumberedFrom n) run_b.4 numbered_b in
    let same = intern_is Found (λ m t h has. has) m n literal run_a.0 run_b.0 run_a.1 run_b.1 run_a.3 run_b.3 legal_in_a.0 legal_in_b.0 numbered_in_a.0 numbered_in_b.0 in
    let rest_b = subst (λ w. IsLegalFrom (next m w) (by_seat 0 run_b.2)) (sym same.1) legal_in_b.1 in
    let count_b = subst (λ w. IsNumberedFrom (n + slots_taken w) run_b.2) (sym same.1) numbered_in_b.1 in
    let rests = literals_are_one (next m run_a.1) (n + slots_taken run_a.1) literals run_a.2 run_b.2 run_a.5 run_b.5 legal_in_a.1 rest_b numbered_in_a.1 count_b in
    run_a.4 ∙ ap (λ ws. run_a.1 ∷ ws) rests ∙ ap (λ w. w ∷ run_b.2) same.1 ∙ sym run_b.4

pub plain_symbol_log_is_one : (hold : ℕ) (names : List (List ℕ)) (a b : List Event) → IsPlainSymbolLog hold names a → IsPlainSymbolLog hold names b → a ≡ b
plain_symbol_log_is_one hold names a b of_a of_b =
    of_a.by_one
    ∙ ap (by_seat 0) (window_is_one hold no_texts 0 [] names of_a.whats of_b.whats of_a.window.0 of_b.window.0 of_a.window.1 of_b.window.1
    (subst IsLegal of_a.by_one of_a.legal) (subst IsLegal of_b.by_one of_b.legal) of_a.numbered of_b.numbered)
    ∙ sym of_b.by_one

interns_legal : (interns kills : List What) → IsLegal (by_seat 0 (interns ++ kills)) → IsLegal (by_seat 0 interns)
interns_legal interns kills legal = IsLegalFrom-prefix no_texts (by_seat 0 interns) (by_seat 0 kills) (subst IsLegal (by_seat-append 0 interns kills) legal)

pub plain_string_log_is_one : (hold : ℕ) (literals : List (List ℕ)) (a b : List Event) → IsPlainStringLog hold literals a → IsPlainStringLog hold literals b → a ≡ b
plain_string_log_is_one hold literals a b of_a of_b =
    let whole : List What → List Event = λ interns. by_seat 0 (interns ++ kills_of (finals hold literals) interns) in
    of_a.by_one
    ∙ ap whole (literals_are_one no_texts 0 literals of_a.interns of_b.interns of_a.literals_in_order of_b.literals_in_order
    (interns_legal of_a.interns _ (subst IsLegal of_a.by_one of_a.legal)) (interns_legal of_b.interns _ (subst IsLegal of_b.by_one of_b.legal)) of_a.numbered of_b.numbered)
    ∙ sym of_b.by_one
