-- A step of a seat keeps the invariant, by what its machine and the table do.
use Rattle.std.proofs.Common.{◌≡◌, ℕ, ◌≤◌, List, ◌++◌, Option, Some, inl, inr, refl, sym, ap, subst, ◌∙◌}
use Rattle.std.specs.Option.{option_map}
use Rattle.std.proofs.lemmas.Bool.{cases_eq}
use Rattle.intern_log.specs.declared.event.Event.{Event}
use Rattle.intern_log.specs.declared.event.Handle.{Handle}
use Rattle.intern_log.specs.declared.event.What.{What}
use Rattle.intern_log.specs.declared.event.What.TheVariants as what
use Rattle.atomic_step.specs.declared.step.Step.{Step}
use Rattle.atomic_step.specs.Event.{event_of}
use Rattle.call_machine.specs.declared.machine.Machine.{Machine}
use Rattle.call_machine.specs.Machine as machines
use Rattle.cht_core.specs.declared.table.Table.{Table}
use Rattle.cht_core.specs.Backs.{Goes}
use Rattle.cht_core.specs.Bounds.{Bounds}
use Rattle.cht_core.specs.Edges.{UnlinkedLead}
use Rattle.cht_core.specs.Flow.{Flow, flow_after}
use Rattle.cht_core.specs.Graces.{GrowsWithFew}
use Rattle.cht_core.specs.Invariant.{Inv, Moves, events_of}
use Rattle.cht_core.specs.Looks.{LooksAtFew}
use Rattle.cht_core.specs.Memory.{Memory, found}
use Rattle.cht_core.specs.Owes.{Owes, IsAllOf}
use Rattle.cht_core.specs.Passes.{PassesFind}
use Rattle.cht_core.specs.Past.{Past, past_of, told}
use Rattle.cht_core.specs.TableState.{IsTable}
use Rattle.cht_core.specs.View.{View, Knows, view_after}
use Rattle.cht_core.proofs.CauseLogs.{told_more}
use Rattle.cht_core.proofs.EnteredCounts.{no_fewer}
use Rattle.cht_core.proofs.FewSeats.{seat_owner, seat_stays}
use Rattle.cht_core.proofs.FoundSeats.{finds_stay}
use Rattle.cht_core.proofs.LawfulKept.{lawful_told}
use Rattle.cht_core.proofs.LooksStay.{seat_looks}
use Rattle.cht_core.proofs.NumbersKept.{numbers_after_step, holds_after_step}
use Rattle.cht_core.proofs.StableSeats.{knows_grows, all_of_grows}
use Rattle.cht_core.proofs.TidyKept.{past_of-told}

-- two views of one seat are one
same_view : (v w : View) → Some v ≡ Some w → v ≡ w
same_view v w is = cc

module _ (t : Table) (m m' : Memory) (seat seat' : ℕ → Option View) (log : List Event) (i : ℕ) (v : View) (k : Machine) (s : Step) (inv : Inv t m seat log) (is : seat i ≡ Some v) where
  abbrev pub past : Past
  past = past_of t.shape.min_level log

  abbrev pub word : ℕ
  word = found s m

  abbrev pub event : Option What
  event = event_of (machines.text_of k) s word

  abbrev pub after : Past
  after = told past i event

  abbrev pub flow : Flow
  flow = flow_after past.now inv.flow i (machines.text_of k) s word

  abbrev pub new_view : View
  new_view = view_after past.now v k s word

  -- what each seat knows after the step
  knows_all : Moves seat seat' i new_view → Goes t m past inv.flow i (machines.text_of k) s m' → Knows t m' after flow i new_view
      → (j : ℕ) (w : View) → seat' j ≡ Some w → Knows t m' after flow j w
  knows_all moves goes own j w at = elim (cases_eq j i) [
    | inl same ↦ subst (λ n. Knows t m' after flow n w) (sym same) (subst (Knows t m' after flow i) (same_view new_view w (sym moves.own ∙ ap seat' (sym same) ∙ at)) own)
    | inr differ ↦
        let was : seat j ≡ Some w = sym (moves.other j differ) ∙ at in
        knows_grows m past inv.flow m' after flow goes.grows t inv.table goes.table j (inv.numbers.seats j w was).0 (goes.spares j differ) w (inv.knows j w was)
  ]

  -- and what each seat has
  owes_all : Moves seat seat' i new_view → Goes t m past inv.flow i (machines.text_of k) s m' → Owes after i new_view.seat
      → (j : ℕ) → IsAllOf after j (option_map (λ (u : View). u.seat) (seat' j))
  owes_all moves goes own j = elim (cases_eq j i) [
    | inl same ↦ subst (λ n. IsAllOf after n (option_map (λ (u : View). u.seat) (seat' n))) (sym same)
        (subst (λ o. IsAllOf after i (option_map (λ (u : View). u.seat) o)) (sym moves.own) own)
    | inr differ ↦ subst (λ o. IsAllOf after j (option_map (λ (u : View). u.seat) o)) (sym (moves.other j differ))
        (all_of_grows m past inv.flow m' after flow goes.grows j (goes.spares j differ) (option_map (λ (u : View). u.seat) (seat j)) (inv.owes j))
  ]

  -- and how many graces
  graces_all : Moves seat seat' i new_view → Goes t m past inv.flow i (machines.text_of k) s m' → GrowsWithFew after.now (log ++ events_of i event) flow new_view.seat
      → (j : ℕ) (w : View) → seat' j ≡ Some w → GrowsWithFew after.now (log ++ events_of i event) flow w.seat
  graces_all moves goes own j w at = elim (cases_eq j i) [
    | inl same ↦ subst (λ (u : View). GrowsWithFew after.now (log ++ events_of i event) flow u.seat) (same_view new_view w (sym moves.own ∙ ap seat' (sym same) ∙ at)) own
    | inr differ ↦
        let was : seat j ≡ Some w = sym (moves.other j differ) ∙ at in
        seat_stays past.now after.now log (log ++ events_of i event) goes.grows.seed (λ test. no_fewer test log (events_of i event)) inv.flow flow w.seat
        (λ u has x not whole. not (sym (((goes.spares j differ).leaves.still (seat_owner t m past inv.flow j w u (inv.knows j w was) has)).parted x) ∙ whole)) (inv.graces j w was)
  ]

  -- and at how many nodes it has looked
  looks_all : Moves seat seat' i new_view → Goes t m past inv.flow i (machines.text_of k) s m' → LooksAtFew t.shape.slots flow new_view.seat
      → (j : ℕ) (w : View) → seat' j ≡ Some w → LooksAtFew t.shape.slots flow w.seat
  looks_all moves goes own j w at = elim (cases_eq j i) [
    | inl same ↦ subst (λ (u : View). LooksAtFew t.shape.slots flow u.seat) (same_view new_view w (sym moves.own ∙ ap seat' (sym same) ∙ at)) own
    | inr differ ↦
        let was : seat j ≡ Some w = sym (moves.other j differ) ∙ at in
        seat_looks t.shape.slots m past inv.flow m' after flow j (goes.spares j differ).leaves t w (inv.knows j w was) (inv.looks j w was)
  ]

  -- and what its passes have found
  passes_all : Moves seat seat' i new_view → Goes t m past inv.flow i (machines.text_of k) s m' → PassesFind t after.now (log ++ events_of i event) flow i new_view.seat
      → (j : ℕ) (w : View) → seat' j ≡ Some w → PassesFind t after.now (log ++ events_of i event) flow j w.seat
  passes_all moves goes own j w at = elim (cases_eq j i) [
    | inl same ↦ subst (λ n. PassesFind t after.now (log ++ events_of i event) flow n w.seat) (sym same)
        (subst (λ (u : View). PassesFind t after.now (log ++ events_of i event) flow i u.seat) (same_view new_view w (sym moves.own ∙ ap seat' (sym same) ∙ at)) own)
    | inr differ ↦
        let was : seat j ≡ Some w = sym (moves.other j differ) ∙ at in
        finds_stay t m log inv.flow flow j i event goes.grows.seed (goes.spares j differ).leaves.chains (inl (λ same. differ (sym same))) (inl (λ same. differ (sym same))) w (inv.knows j w was) (inv.passes j w was)
  ]

  -- the invariant after the step, from what the step comes to, and what its own seat knows and has then
  pub step_keeps : Moves seat seat' i new_view → Goes t m past inv.flow i (machines.text_of k) s m' → ((h : Handle) → event ≡ Some (what.Drop h) → 1 ≤ inv.flow.holds i h)
      → Knows t m' after flow i new_view → Owes after i new_view.seat → Bounds t m' seat' → UnlinkedLead t m' (log ++ events_of i event)
      → GrowsWithFew after.now (log ++ events_of i event) flow new_view.seat → LooksAtFew t.shape.slots flow new_view.seat → PassesFind t after.now (log ++ events_of i event) flow i new_view.seat
      → Inv t m' seat' (log ++ events_of i event)
  step_keeps moves goes drops knows owes bounds edges graces looks passes =
      let told_is : past_of t.shape.min_level (log ++ events_of i event) ≡ after = past_of-told t.shape.min_level log i event in
      record {
        flow = flow;
        table = subst (λ (p : Past). IsTable t m' p flow) (sym told_is) goes.table;
        knows = λ j w at. subst (λ (p : Past). Knows t m' p flow j w) (sym told_is) (knows_all moves goes knows j w at);
        owes = λ j. subst (λ (p : Past). IsAllOf p j (option_map (λ (u : View). u.seat) (seat' j))) (sym told_is) (owes_all moves goes owes j);
        bounds = bounds;
        numbers = numbers_after_step t seat seat' log i v new_view event is refl moves inv.numbers;
        holds = holds_after_step t seat seat' log i v new_view event is refl moves inv.flow.holds inv.numbers inv.holds drops;
        told = told_more t log i event inv.told goes.told;
        lawful = lawful_told t log i event inv.lawful goes.told;
        edges = edges;
        graces = λ j w at. subst (λ (p : Past). GrowsWithFew p.now (log ++ events_of i event) flow w.seat) (sym told_is) (graces_all moves goes graces j w at);
        looks = looks_all moves goes looks;
        passes = λ j w at. subst (λ (p : Past). PassesFind t p.now (log ++ events_of i event) flow j w.seat) (sym told_is) (passes_all moves goes passes j w at);
      }
