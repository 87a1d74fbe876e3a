-- What an intern that makes an entry has found out of its window, by each word that it finds.
use Rattle.std.proofs.Common.{◌≡◌, ◌≢◌, ℕ, ◌+◌, ◌<◌, ◌≤◌, ◌==◌, nat_lt, ◌||◌, ◌⊎◌, Bool, true, false, List, ◌++◌, length, Option, Some, None, refl, sym, ap, subst, ◌∙◌}
use Rattle.std.proofs.Common.{inl, inr, arith}
use Rattle.std.proofs.lemmas.Bool.{cases_eq}
use Rattle.std.proofs.lemmas.Bool.Decides.{nat_tests}
use Rattle.marked_word.specs.Head.{is_locked, is_redirected}
use Rattle.intern_log.specs.declared.event.Event.{Event}
use Rattle.intern_log.specs.declared.event.Handle.{Handle}
use Rattle.intern_log.specs.Now.{Phase, Vacant}
use Rattle.atomic_step.specs.declared.answer.Answer.TheVariants as answer
use Rattle.atomic_step.proofs.Choices.{where_it_is, either_way, found_equal, not_equal}
use Rattle.call_machine.specs.declared.insert.InsertStage.{InsertStage}
use Rattle.call_machine.specs.declared.insert.InsertStage.TheVariants as insert
use Rattle.call_machine.specs.declared.stage.Along.{Along}
use Rattle.call_machine.specs.declared.stage.Asked.{Asked}
use Rattle.call_machine.specs.declared.stage.CallStage.{CallStage}
use Rattle.call_machine.specs.declared.stage.CallStage.TheVariants as stage
use Rattle.call_machine.specs.declared.stage.Goal.{Goal}
use Rattle.call_machine.specs.declared.stage.Goal.TheVariants.{Lookup, Intern, InternWait}
use Rattle.call_machine.specs.Calls.{plan_at, next_at}
use Rattle.call_machine.specs.Insert.{next_slot, not_claimed, puts_from, after_link, not_created, lost_head}
use Rattle.call_machine.specs.Leave.{leaves_with}
use Rattle.call_machine.specs.Sought.{has_word}
use Rattle.cht_core.specs.declared.table.Table.{Table}
use Rattle.cht_core.specs.Causes.{now_in, PlanSays, loaded_at, IsRowIn}
use Rattle.cht_core.specs.CauseCalls.{Way, Walks, IsTaken, IsTextLocked, IsOnHome, LostBy, WalkEnds, IsIntern, IsTried, CallCaused, CallHears}
use Rattle.cht_core.specs.Flow.{Flow}
use Rattle.cht_core.specs.Past.{Past, past_of}
use Rattle.cht_core.specs.Slots.{claim_word}
use Rattle.cht_core.specs.Windows.{Somewhere}
use Rattle.cht_core.proofs.Windows.{at_end, another_since, somewhere_since}
use Rattle.cht_core.proofs.CauseWalks.{home_locked, of_walk, leaving}

-- going round: behind the next slot are the slot and those that were tried before it
tried_next : (slots slot tried x : ℕ) → slot < slots → IsTried slots (next_slot slots slot) (tried + 1) x → (x ≡ slot) ⊎ IsTried slots slot tried x
tried_next slots slot tried x inside =
    where_it_is (λ s. IsTried slots s (tried + 1) x → (x ≡ slot) ⊎ IsTried slots slot tried x) (slot + 1 == slots) 0 (slot + 1)
    (λ last h. round (found_equal (slot + 1) slots last) h) (λ more h. on h)
  where
    before : x < slots → slot ≤ x + tried → x ≤ slot → (x ≡ slot) ⊎ IsTried slots slot tried x
    before within up to = elim (cases_eq x slot) [ inl same ↦ inl same | inr other ↦ inr (inl (omega (arith, to, other), up)) ]

    round : slot + 1 ≡ slots → IsTried slots 0 (tried + 1) x → (x ≡ slot) ⊎ IsTried slots slot tried x
    round last h = elim h [
      | inl never ↦ absurd (let below : x < 0 = never.0 in omega (arith, below))
      | inr (below, up) ↦ before below (omega (arith, last, up)) (omega (arith, last, below))
    ]

    on : IsTried slots (slot + 1) (tried + 1) x → (x ≡ slot) ⊎ IsTried slots slot tried x
    on h = elim h [
      | inl (below, up) ↦ before (omega (arith, below, inside)) (omega (arith, up)) (omega (arith, below))
      | inr (below, up) ↦ inr (inr (below, omega (arith, up)))
    ]

-- after as many as there are, each slot was tried
tried_all : (slots slot tried x : ℕ) → slot < slots → tried + 1 ≡ slots → x < slots → (x ≡ slot) ⊎ IsTried slots slot tried x
tried_all slots slot tried x inside all within = elim (cases_eq x slot) [
  | inl same ↦ inl same
  | inr other ↦ sides (nat_lt x slot) refl other
]
  where
    is_below : nat_lt x slot ≡ true → x < slot
    is_below test = grind (arith, nat_tests)

    is_above : nat_lt x slot ≡ false → x ≢ slot → slot < x
    is_above test other = grind (arith, nat_tests)

    sides : (b : Bool) → nat_lt x slot ≡ b → x ≢ slot → (x ≡ slot) ⊎ IsTried slots slot tried x
    sides true test other = inr (inl (is_below test, omega (arith, inside, all)))
    sides false test other = let above = is_above test other in inr (inr (within, omega (arith, all, above)))

taken_word : (phase : Phase) (word : ℕ) → word ≡ claim_word phase → word ≢ 0 → ¬ (phase ≡ Vacant)
taken_word phase word says some vacant = some (says ∙ ap claim_word vacant)

marked : (a b : Bool) → (a || b) ≡ true → b ≡ false → a ≡ true
marked true b is none = refl
marked false b is none = absurd (cc)

-- a slot that is claimed is one of the table
abbrev pub IsWithin : Table → InsertStage → Type 0
IsWithin t (insert.Claim slot tried) = slot < t.shape.slots
IsWithin t _ = Unit {0}

module _ (t : Table) (i : ℕ) (way : Way) (seen window : List Event) (f : Flow) (q : Asked) (walks : way ≡ Walks) (sizes : q.shape.slots ≡ t.shape.slots) where
  abbrev Then : Past
  Then = past_of t.shape.min_level (seen ++ window)

  abbrev Tries : ℕ → ℕ → Type 0
  Tries slot tried = (x : ℕ) → IsTried t.shape.slots slot tried x → Somewhere (IsTaken t x) seen window

  -- one more slot is taken
  one_more : (slot tried : ℕ) → Tries slot tried → IsTaken t slot (seen ++ window) → (x : ℕ) → (x ≡ slot) ⊎ IsTried t.shape.slots slot tried x → Somewhere (IsTaken t x) seen window
  one_more slot tried before taken x h = elim h [
    | inl same ↦ at_end seen window (IsTaken t x) (subst (λ s. IsTaken t s (seen ++ window)) (sym same) taken)
    | inr was ↦ before x was
  ]

  not_free : (load : ℕ) (w : Along) (slot tried : ℕ) → slot < t.shape.slots → CallCaused t i way seen window load q w (stage.Insert (insert.Claim slot tried)) → IsTaken t slot (seen ++ window) →
      CallCaused t i way seen window load q w (not_claimed q w slot tried)
  not_free load w slot tried inside h taken =
      where_it_is (λ s. CallCaused t i way seen window load q w s) (tried + 1 == q.shape.slots) (leaves_with w.kept answer.NoSlot)
      (stage.Insert (insert.Claim (next_slot q.shape.slots slot) (tried + 1)))
      (λ all. leaving t i way seen window q walks load w w.kept answer.NoSlot
      (h.3, λ x within. one_more slot tried h.4 taken x (tried_all t.shape.slots slot tried x inside (found_equal (tried + 1) q.shape.slots all ∙ sizes) within)))
      (λ more. (
        h.0,
        h.1,
        h.2,
        h.3,
        λ x later. one_more slot tried h.4 taken x
            (tried_next t.shape.slots slot tried x inside (subst (λ slots. IsTried t.shape.slots (next_slot slots slot) (tried + 1) x) sizes later)),
        h.5,
      ))

  putting : (load : ℕ) (w : Along) (h : Handle) (at : ℕ) → IsIntern q.goal → length seen ≤ load → Somewhere (IsRowIn t w.walk.row) seen window →
      CallCaused t i way seen window load q w (stage.Insert (puts_from q.text h at))
  putting load w h at intern began row = either_way (λ s. CallCaused t i way seen window load q w (stage.Insert s)) (has_word q.text at) (insert.PutText h at) (insert.PutLink h)
      (walks, intern, began, row) (walks, intern, began, row)

  linking : (load : ℕ) (w : Along) (kept : Option Handle) (h : Handle) → IsIntern q.goal → length seen ≤ load → Somewhere (IsRowIn t w.walk.row) seen window →
      CallCaused t i way seen window load q w (stage.Insert (after_link kept h))
  linking load w None h intern began row = (walks, intern, began, row)
  linking load w (Some k) h intern began row = (walks, intern, began, row)

  -- another head was found
  beaten : (load : ℕ) (w : Along) (h : Handle) (word : ℕ) (goal : Goal) → q.goal ≡ goal → IsIntern goal → (q.goal ≡ Intern → WalkEnds t i q seen window (lost_head word)) →
      (let at = not_created w goal h (lost_head word) in CallCaused t i way seen window load q at.0 at.1)
  beaten load w h word Lookup is intern ends = absurd intern
  beaten load w h word Intern is intern ends = of_walk t i way seen window q walks (lost_head word) (ends is)
  beaten load w h word InternWait is intern ends = walks

  -- making an entry, by a word that is found
  pub insert_found : (load : ℕ) (w : Along) (s : InsertStage) (word : ℕ) → CallCaused t i way seen window load q w (stage.Insert s) → PlanSays t Then f (plan_at q w (stage.Insert s)) word →
      CallHears t Then f i load (seen ++ window) q w (stage.Insert s) word → IsWithin t s →
      CallCaused t i way seen window (loaded_at (plan_at q w (stage.Insert s)) Then.now.place load) q (next_at q w (stage.Insert s) word).0 (next_at q w (stage.Insert s) word).1
  insert_found load w (insert.Claim slot tried) word h says hears inside =
      where_it_is (λ (at : Along × CallStage). CallCaused t i way seen window load q at.0 at.1) (word == 0)
      (record w { cursor = next_slot q.shape.slots slot }, stage.Insert (insert.OwnCount slot)) (w, not_claimed q w slot tried)
      (λ free. (h.0, h.1, h.2, h.5)) (λ taken. not_free load w slot tried inside h (taken_word ((now_in t (seen ++ window)).slot slot) word says (not_equal word 0 taken)))
  insert_found load w (insert.OwnCount slot) word h says hears inside = h
  insert_found load w (insert.PutMeta k) word h says hears inside = putting load w k 0 h.1 h.2 h.3
  insert_found load w (insert.PutText k at) word h says hears inside = putting load w k (at + 1) h.1 h.2 h.3
  insert_found load w (insert.PutLink k) word h says hears inside = linking load w w.kept k h.1 h.2 h.3
  insert_found load w (insert.PutCount k) word h says hears inside = h
  insert_found load w (insert.Create k) word h says hears inside =
      where_it_is (λ (at : Along × CallStage). CallCaused t i way seen window load q at.0 at.1) (word == w.walk.head)
      (record w { kept = None }, leaves_with None (answer.Created k)) (not_created w q.goal k (lost_head word))
      (λ same. of_walk t i way seen window q walks (answer.Created k) tt) (λ other. beaten load w k word q.goal refl h.1 (λ is. lost is (not_equal word w.walk.head other)))
    where
      again : q.goal ≡ Intern → word ≢ w.walk.head → WalkEnds t i q seen window answer.Again
      again is other = subst (λ g. LostBy g q.kind t i q.text seen window) (sym is) (elim hears.2 [
        | inl same ↦ absurd (other same)
        | inr moved ↦ inr (w.walk.row, h.3, another_since i load (IsOnHome t w.walk.row q.text) seen window h.2 moved)
      ])

      by_mark : (is_locked word || is_redirected word) ≡ true → (redirected : Bool) → is_redirected word ≡ redirected → Somewhere (IsTextLocked t q.text) seen window
      by_mark mark true is = somewhere_since load (IsTextLocked t q.text) seen window h.2 (hears.1 is)
      by_mark mark false is = at_end seen window (IsTextLocked t q.text) (home_locked t f (seen ++ window) q.text w.walk word (hears.0 is) says (marked (is_locked word) (is_redirected word) mark is))

      lost : q.goal ≡ Intern → word ≢ w.walk.head → WalkEnds t i q seen window (lost_head word)
      lost is other = where_it_is (WalkEnds t i q seen window) (is_locked word || is_redirected word) answer.Locked answer.Again
          (λ mark. by_mark mark (is_redirected word) refl)
          (λ plain. again is other)
