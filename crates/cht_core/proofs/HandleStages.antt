-- The stages of the calls by handle: a drop, a permanence, a kill.
use Rattle.std.proofs.Common.{◌≡◌, ℕ, ◌<◌, ◌==◌, Bool, true, false, cond, List, Some, None, refl, subst}
use Rattle.table_shape.specs.declared.place.Place.TheVariants as place
use Rattle.intern_log.specs.declared.event.Handle.{Handle}
use Rattle.intern_log.specs.declared.event.Kind.{Kind}
use Rattle.intern_log.specs.declared.event.What.TheVariants as what
use Rattle.atomic_step.specs.declared.answer.Answer.TheVariants as answer
use Rattle.atomic_step.specs.declared.count.Change.{Change}
use Rattle.atomic_step.specs.declared.count.Change.TheVariants.{Drop, Permanent, Kill}
use Rattle.atomic_step.specs.Count.{holds_of, is_live}
use Rattle.atomic_step.specs.Event.{event_of, change_of}
use Rattle.call_machine.specs.declared.handle.HandleStage.{HandleStage}
use Rattle.call_machine.specs.declared.handle.HandleStage.TheVariants.{Count, Exchange}
use Rattle.call_machine.specs.declared.stage.Along.{Along}
use Rattle.call_machine.specs.declared.stage.Asked.{Asked}
use Rattle.call_machine.specs.declared.stage.CallStage.TheVariants as stage
use Rattle.call_machine.specs.Handle.{handle_row, count_found}
use Rattle.cht_core.specs.declared.table.Table.{Table}
use Rattle.cht_core.specs.Backs.{Backs}
use Rattle.cht_core.specs.Flow.{Flow, flow_after, holds_after}
use Rattle.cht_core.specs.KnowsCall.{KnowsHandle, KnowsStage, MayChange}
use Rattle.cht_core.specs.Memory.{Memory, found}
use Rattle.cht_core.specs.Past.{Past, told}
use Rattle.cht_core.specs.Search.{IsOutside}
use Rattle.cht_core.specs.TableState.{IsTable}
use Rattle.cht_core.proofs.CountSteps.{handle_fits}
use Rattle.cht_core.proofs.Ties.{IsAskedOf}

may_in : (kind other : Kind) (p : Past) (f : Flow) (i : ℕ) (change : Change) (h : Handle) → kind ≡ other → MayChange kind p f i change h → MayChange other p f i change h
may_in kind other p f i change h is may = subst (λ (k : Kind). MayChange k p f i change h) is may

-- what the steps need
pub handle_backs : (t : Table) (m : Memory) (p : Past) (f : Flow) (i : ℕ) (q : Asked) (w : Along) (s : HandleStage) → IsAskedOf t p.now i q → KnowsHandle p f i q s
    → Backs t m p f i q.text (handle_row q w s).step
handle_backs t m p f i q w (Count change) ours known = may_in q.kind t.kind p f i change q.handle ours.kind known.1
handle_backs t m p f i q w (Exchange change count) ours known = (may_in q.kind t.kind p f i change q.handle ours.kind known.1, known.2)

-- no change of a count opens a section
changed_outside : (p : Past) (i : ℕ) (change : Change) (h : Handle) (b : Bool) → IsOutside p.now i → IsOutside (told p i (cond b (Some (change_of change h)) None)).now i
changed_outside p i Drop h true outside = outside
changed_outside p i Permanent h true outside = outside
changed_outside p i Kill h true outside = outside
changed_outside p i change h false outside = outside

module _ (t : Table) (m m' : Memory) (p : Past) (f : Flow) (i load : ℕ) (passed : List ℕ) (q : Asked) (w : Along)
    (table : IsTable t m p f) (ours : IsAskedOf t p.now i q) (inside : i < t.shape.seats) where
  -- the count word of the handle was found
  drop_knows : IsOutside p.now i → MayChange q.kind p f i Drop q.handle → (b : Bool)
      → KnowsStage m' (told p i (cond b (Some (what.Drop q.handle)) None)) (record f { holds = holds_after i (cond b (Some (what.Drop q.handle)) None) f.holds }) i load passed q w
      (cond b (stage.Answered answer.Permanent) (stage.Handle (Exchange Drop (m (place.Count q.handle.slot)))))
  drop_knows outside may true = outside
  drop_knows outside may false = (outside, may, handle_fits t m p f i Drop q.handle table inside (may_in q.kind t.kind p f i Drop q.handle ours.kind may) (λ is. cc))

  kill_knows : IsOutside p.now i → MayChange q.kind p f i Kill q.handle → (b : Bool) → is_live q.handle (m (place.Count q.handle.slot)) ≡ b
      → KnowsStage m' p f i load passed q w (cond b (stage.Handle (Exchange Kill (m (place.Count q.handle.slot)))) (stage.Answered answer.Stale))
  kill_knows outside may true live = (outside, may, live)
  kill_knows outside may false stale = outside

  count_knows : (change : Change) → KnowsHandle p f i q (Count change)
      → KnowsStage m' (told p i (event_of q.text (handle_row q w (Count change)).step (m (place.Count q.handle.slot))))
      (flow_after p.now f i q.text (handle_row q w (Count change)).step (m (place.Count q.handle.slot))) i load passed q w (count_found change q.handle (m (place.Count q.handle.slot)))
  count_knows Drop known = drop_knows known.0 known.1 (holds_of (m (place.Count q.handle.slot)) == 65535)
  count_knows Permanent known = (known.0, known.1, handle_fits t m p f i Permanent q.handle table inside (may_in q.kind t.kind p f i Permanent q.handle ours.kind known.1) (λ is. cc))
  count_knows Kill known = kill_knows known.0 known.1 (is_live q.handle (m (place.Count q.handle.slot))) refl

  -- what is known after a step
  pub handle_next : (s : HandleStage) → KnowsHandle p f i q s
      → let does = handle_row q w s in let word = found does.step m in let next = does.next word in
      KnowsStage m' (told p i (event_of q.text does.step word)) (flow_after p.now f i q.text does.step word) i load passed q next.0 next.1
  handle_next (Count change) known = count_knows change known
  handle_next (Exchange change count) known = changed_outside p i change q.handle (m (place.Count q.handle.slot) == count) known.0
