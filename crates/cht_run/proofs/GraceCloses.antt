-- A section that was open as a grace raised the counter has been closed once its number was passed.
use Rattle.std.proofs.Common.{◌≡◌, ◌⊎◌, ℕ, ◌+◌, ◌*◌, ◌<◌, ◌≤◌, Bool, true, false, cond, nat_eq, List, [], ◌∷◌, ◌++◌, length, Some, None, inl, inr, refl, sym, ap, subst, ◌∙◌, arith}
use Rattle.std.proofs.lemmas.Bool.{eqb-true, cases_lt}
use Rattle.std.proofs.lemmas.List.{append_assoc, length-append}
use Rattle.intern_log.specs.declared.event.Event.{Event}
use Rattle.intern_log.specs.declared.event.What.{What}
use Rattle.intern_log.specs.declared.event.What.TheVariants as what
use Rattle.intern_log.specs.Now.{Now, OpenSection, changed_by, now_after_event, now_after}
use Rattle.intern_log.proofs.Stays.{section_unchanged}
use Rattle.cht_core.specs.declared.table.Table.{Table}
use Rattle.cht_core.specs.Causes.{now_in}
use Rattle.cht_core.specs.Past.{Past, by, past_after, past_of, kind_of, MayAdd}
use Rattle.cht_core.specs.Windows.{IsTold, IsToldFrom}
use Rattle.cht_core.proofs.CauseCounts.{told_front, told_back}
use Rattle.cht_core.proofs.Windows.{cut_behind}
use Rattle.cht_run.specs.Graces.{counter_in, IsPassed, IsClosedIn, HasClosed}
use Rattle.cht_run.proofs.Counters.{counter_grows, graces_by, now_more}

module _ (t : Table) where
  -- an open section was open before an event, or was opened by it, with a counter that was reached
  opened_low : (p : Past) (seat : ℕ) (w : What) (k : ℕ) (o : OpenSection) → MayAdd (kind_of t) p seat w → (changed_by p.now seat w).section k ≡ Some o → (p.now.section k ≡ Some o) ⊎ (o.counter ≤ t.first_counter + 2 * p.now.graces)
  opened_low p seat (what.Open counter) k o may is = go (nat_eq k seat) is
    where
      go : (b : Bool) → cond b (Some (record { place = p.now.place; counter = counter })) (p.now.section k) ≡ Some o → (p.now.section k ≡ Some o) ⊎ (o.counter ≤ t.first_counter + 2 * p.now.graces)
      go true new = let same : counter ≡ o.counter = cc in let low = may.1 in inr (omega (arith, same, low))
      go false old = inl old
  opened_low p seat what.Close k o may is = go (nat_eq k seat) is
    where
      go : (b : Bool) → cond b None (p.now.section k) ≡ Some o → (p.now.section k ≡ Some o) ⊎ (o.counter ≤ t.first_counter + 2 * p.now.graces)
      go true none = absurd (cc)
      go false old = inl old
  opened_low p seat w k o may is = inl (sym (section_unchanged p.now seat w k refl) ∙ is)

  -- an open section stays so until it is closed
  stays_open : (p : Past) (seat : ℕ) (w : What) (k : ℕ) (o : OpenSection) → MayAdd (kind_of t) p seat w → p.now.section k ≡ Some o → ((w ≡ what.Close) × (k ≡ seat)) ⊎ ((changed_by p.now seat w).section k ≡ Some o)
  stays_open p seat (what.Open counter) k o may is = go (nat_eq k seat) refl
    where
      go : (b : Bool) → nat_eq k seat ≡ b → ((what.Open counter ≡ what.Close) × (k ≡ seat)) ⊎ (cond b (Some (record { place = p.now.place; counter = counter })) (p.now.section k) ≡ Some o)
      go true own = let clash : None ≡ Some o = sym may.0 ∙ ap p.now.section (sym (eqb-true k seat own)) ∙ is in absurd (cc)
      go false other = inr is
  stays_open p seat what.Close k o may is = go (nat_eq k seat) refl
    where
      go : (b : Bool) → nat_eq k seat ≡ b → ((what.Close ≡ what.Close) × (k ≡ seat)) ⊎ (cond b None (p.now.section k) ≡ Some o)
      go true own = inl (refl, eqb-true k seat own)
      go false other = inr is
  stays_open p seat w k o may is = inr (section_unchanged p.now seat w k refl ∙ is)

  -- so it is after a list of events
  low_after : (p : Past) (log : List Event) → IsToldFrom (kind_of t) p log → ((k : ℕ) (o : OpenSection) → p.now.section k ≡ Some o → o.counter ≤ t.first_counter + 2 * p.now.graces) →
      (k : ℕ) (o : OpenSection) → (now_after p.now log).section k ≡ Some o → o.counter ≤ t.first_counter + 2 * (now_after p.now log).graces
  low_after p [] told low k o is = low k o is
  low_after p (e ∷ log) told low k o is = low_after (past_after p e) log told.1 next k o is
    where
      next : (j : ℕ) (u : OpenSection) → (now_after_event p.now e).section j ≡ Some u → u.counter ≤ t.first_counter + 2 * (now_after_event p.now e).graces
      next j u at =
          let grows = graces_by p.now e.seat e.what in
          elim (opened_low p e.seat e.what j u told.0 at) [
            | inl was ↦ let before = low j u was in omega (arith, grows, before)
            | inr new ↦ omega (arith, grows, new)
          ]

  open_or_closed : (p : Past) (log : List Event) (k : ℕ) (o : OpenSection) → IsToldFrom (kind_of t) p log → p.now.section k ≡ Some o → IsClosedIn k log ⊎ ((now_after p.now log).section k ≡ Some o)
  open_or_closed p [] k o told is = inr is
  open_or_closed p (e ∷ log) k o told is = elim (stays_open p e.seat e.what k o told.0 is) [
    | inl closed ↦ inl ([], log, ap (λ x. x ∷ log) (closes_it e k closed.0 closed.1))
    | inr still ↦ elim (open_or_closed (past_after p e) log k o told.1 still) [
      | inl later ↦ inl (e ∷ later.0, later.1, ap (λ l. e ∷ l) later.2)
      | inr there ↦ inr there
    ]
  ]
    where
      closes_it : (e : Event) (k : ℕ) → e.what ≡ what.Close → k ≡ e.seat → e ≡ by k what.Close
      closes_it e k is own = subst (λ (z : ℕ × What). e ≡ by z.0 z.1) (λ i. (sym own i, is i)) refl

-- a Close behind a Grace stands behind it in a longer log too
closed_behind : (i number : ℕ) (b r mid rest : List Event) → by i what.Grace ∷ mid ≡ b ++ by number what.Close ∷ r → IsClosedIn number (mid ++ rest)
closed_behind i number [] r mid rest same = let clash : by i what.Grace ≡ by number what.Close = cc in absurd (no_close (ap (λ (e : Event). e.what) clash))
  where
    no_close : what.Grace ≡ what.Close → ⊥
    no_close same = cc
closed_behind i number (x ∷ b) r mid rest same =
    let behind : mid ≡ b ++ by number what.Close ∷ r = cc in
    (b, r ++ rest, ap (λ l. l ++ rest) behind ∙ append_assoc b (by number what.Close ∷ r) rest)

-- where each number was passed each section was closed
pub passed_closes : (t : Table) (raised : ℕ) (log : List Event) → IsTold t log → ((number : ℕ) → number < t.shape.seats → IsPassed t raised number log) → HasClosed t raised log
passed_closes t raised log told passed front back i number o is value inside open_there =
    let (before, rest, cut, reached, away) = passed number inside in
    let grace = by i what.Grace in
    let longer : length (front ++ grace ∷ []) ≤ length before = reaches before rest cut reached in
    let (mid, before_is, back_is) = cut_behind (front ++ grace ∷ []) back before rest (append_assoc front (grace ∷ []) back ∙ sym is ∙ cut) longer in
    let told_before : IsToldFrom (kind_of t) (past_of t.shape.min_level []) (front ++ grace ∷ mid) =
    told_front (kind_of t) (past_of t.shape.min_level []) (front ++ grace ∷ mid) rest (subst (IsTold t) (is ∙ ap (λ l. front ++ grace ∷ l) back_is ∙ sym (append_assoc front (grace ∷ mid) rest)) told) in
    let told_there = told_back (kind_of t) (past_of t.shape.min_level []) front (grace ∷ mid) told_before in
    elim (open_or_closed t told_there.0 (grace ∷ mid) number o told_there.2 (ap (λ (n : Now). n.section number) told_there.1 ∙ open_there)) [
      | inl closed ↦ subst (IsClosedIn number) (sym back_is) (closed_behind i number closed.0 closed.1 mid rest closed.2)
      | inr still ↦ absurd (away (o, section_at before mid before_is told_there still, low mid told_before))
    ]
  where
    reaches : (before rest : List Event) → log ≡ before ++ rest → raised ≤ counter_in t before → length (front ++ by i what.Grace ∷ []) ≤ length before
    reaches before rest cut reached = elim (cases_lt (length front) (length before)) [
      | inl less ↦ let one = length-append front (by i what.Grace ∷ []) in omega (arith, less, one)
      | inr more ↦
          let (w, front_is, _) = cut_behind before rest front (by i what.Grace ∷ back) (sym cut ∙ is) more in
          let grows = counter_grows t before w in
          let there : counter_in t front ≡ counter_in t (before ++ w) = ap (counter_in t) front_is in
          absurd (omega (arith, grows, there, reached, value))
    ]

    section_at : (before mid : List Event) → before ≡ (front ++ by i what.Grace ∷ []) ++ mid → (there : (q : Past) × (q.now ≡ now_in t front) × IsToldFrom (kind_of t) q (by i what.Grace ∷ mid)) →
        (now_after there.0.now (by i what.Grace ∷ mid)).section number ≡ Some o → (now_in t before).section number ≡ Some o
    section_at before mid before_is there still =
        ap (λ l. (now_in t l).section number) (before_is ∙ append_assoc front (by i what.Grace ∷ []) mid) ∙ ap (λ (n : Now). n.section number) (now_more t front (by i what.Grace ∷ mid))
        ∙ ap (λ n. (now_after n (by i what.Grace ∷ mid)).section number) (sym there.1) ∙ still

    low : (mid : List Event) → IsToldFrom (kind_of t) (past_of t.shape.min_level []) (front ++ by i what.Grace ∷ mid) → o.counter < raised
    low mid told_before =
        let less = low_after t (past_of t.shape.min_level []) front (told_front (kind_of t) (past_of t.shape.min_level []) front (by i what.Grace ∷ mid) told_before) (λ k u none. absurd (cc)) number o open_there in
        omega (arith, less, value)
