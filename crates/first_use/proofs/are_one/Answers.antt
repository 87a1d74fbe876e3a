use Rattle.std.proofs.Common.{◌≡◌, ◌≢◌, ℕ, List, Some, None, inl, inr, refl, sym, ap, subst, ◌∙◌}
use Rattle.std.specs.Str.{bytes_eq}
use Rattle.std.proofs.lemmas.Bool.{cond-true}
use Rattle.std.proofs.lemmas.Slice.Eq.{bytes_eq-Decides}
use Rattle.intern_log.specs.declared.event.Handle.{Handle}
use Rattle.intern_log.specs.declared.event.What.TheVariants.{Create}
use Rattle.intern_log.specs.declared.event.Kind.TheVariants.{Counted}
use Rattle.intern_log.specs.TextMap.{TextMap, no_texts, entry_of, HasHandle}
use Rattle.intern_log.specs.Log.{next, new_entry, Allows}
use Rattle.intern_log.proofs.Handles.{origin_in_map, no_text_has}
use Rattle.intern_log.proofs.Entries.{entry_of-next}
use Rattle.plain_interner.specs.declared.plain.PlainInterned.{PlainInterned}
use Rattle.plain_interner.specs.declared.plain.PlainInterned.TheVariants.{Created, Taken, Found}
use Rattle.plain_interner.specs.State.{State, Follows, event_of, IsOfKind}
use Rattle.first_use.proofs.are_one.Goals as goal
use Rattle.first_use.proofs.are_one.Goals.{in-Taken, in_default}

-- the first text has an entry, and no other text has one
first_is_made : (s t : State) (a : List ℕ) (first : PlainInterned) → s.texts ≡ no_texts → Follows s (event_of a first) t → (h : Handle) × (t.texts ≡ next no_texts (Create a h))
first_is_made s t a (Created h) none step = (h, step.texts ∙ ap (λ m. next m (Create a h)) none)
first_is_made s t a (Taken h) none step = absurd (no_text_has a h (subst (λ m. HasHandle m a h) none step.allowed))
first_is_made s t a (Found h) none step = absurd (no_text_has a h (subst (λ m. HasHandle m a h) none step.allowed))

same_text : (a b : List ℕ) (h k : Handle) → Create a h ≡ Create b k → a ≡ b
same_text a b h k is = cc

-- a text that is taken there is the first one
taken_is_first : (t u : State) (a b : List ℕ) (h k : Handle) (second : PlainInterned) → t.texts ≡ next no_texts (Create a h)
    → Follows t (event_of b second) u → second ≡ Taken k → a ≡ b
taken_is_first t u a b h k second is step taken =
    let has : HasHandle t.texts b k = subst (λ answer. Allows t.texts (event_of b answer)) taken step.allowed in
    elim (origin_in_map no_texts (Create a h) b k (subst (λ m. HasHandle m b k) is has)) [
      | inl before ↦ absurd (no_text_has b k before)
      | inr made ↦ same_text a b h k made
    ]

-- the first one has an entry there
first_is_live : (m : TextMap) (a : List ℕ) (h : Handle) → m ≡ next no_texts (Create a h) → entry_of m a ≡ Some (new_entry h)
first_is_live m a h is =
    ap (λ n. entry_of n a) is ∙ entry_of-next no_texts (Create a h) a ∙ cond-true (bytes_eq a a) _ _ ((bytes_eq-Decides a a).1 refl)

-- so in a counted interner a text that is not taken there is another one
untaken_differs : (t u : State) (a b : List ℕ) (h : Handle) (second : PlainInterned) → t.texts ≡ next no_texts (Create a h) → t.kind ≡ Counted
    → Follows t (event_of b second) u → IsOfKind t.kind second → ((k : Handle) → second ≢ Taken k) → a ≢ b
untaken_differs t u a b h (Created k) is counted step of_kind other same =
    let live = first_is_live t.texts a h is in
    let none = subst (λ x. entry_of t.texts x ≡ None) (sym same) step.allowed.0 in
    absurd (cc)
untaken_differs t u a b h (Taken k) is counted step of_kind other same = other k refl
untaken_differs t u a b h (Found k) is counted step of_kind other same = absurd (cc)

pub returns : goal.returns
returns c =
    let first = first_is_made _ _ c.args.a.now _ (ap (λ s. s.texts) c.new-symbols.ensures.empty) c.in_ok-_first.ensures.follows in
    let counted = c.in_ok-_first.ensures.follows.kind ∙ ap (λ s. s.kind) c.new-symbols.ensures.empty in
    elim c.match-matches.branch [
      | in-Taken w ↦ record {
        equal = (λ _. taken_is_first _ _ c.args.a.now c.args.b.now first.0 w.in-Taken.field-0 _ first.1 c.in_ok-intern.ensures.follows w.in-Taken.is, λ _. w.matches-is);
      }
      | in_default w ↦ record {
        equal = (λ yes. absurd (cc), λ same. absurd (untaken_differs _ _ c.args.a.now c.args.b.now first.0 _ first.1 counted c.in_ok-intern.ensures.follows c.in_ok-intern.ensures.kinds w.in_default.not-Taken same));
      }
    ]
