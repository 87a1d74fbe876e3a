-- A reading of a text begins, and comes to its end.
use Rattle.std.proofs.Common.{◌≡◌, ℕ, ◌<◌, true, List, [], ◌++◌, refl, sym, ap, subst, ◌∙◌}
use Rattle.std.proofs.lemmas.List.{append-nil}
use Rattle.intern_log.specs.declared.event.Event.{Event}
use Rattle.intern_log.specs.declared.event.Handle.{Handle}
use Rattle.intern_log.specs.declared.event.Kind.{Kind}
use Rattle.intern_log.specs.declared.event.Kind.TheVariants.{Counted, Weak}
use Rattle.intern_log.specs.declared.event.What.{What}
use Rattle.atomic_step.specs.declared.plan.Plan.TheVariants as plan
use Rattle.atomic_step.specs.declared.step.Step.{Step}
use Rattle.atomic_step.specs.declared.step.Step.TheVariants as step
use Rattle.atomic_step.specs.SoundStep.{IsSoundStep}
use Rattle.call_machine.specs.declared.call.Call.TheVariants as call
use Rattle.call_machine.specs.declared.machine.Own.{Own}
use Rattle.call_machine.specs.declared.stage.Along.{Along}
use Rattle.call_machine.specs.declared.stage.Asked.{Asked}
use Rattle.call_machine.specs.declared.stage.CallStage.TheVariants as stage
use Rattle.call_machine.specs.declared.stage.Request.{Request}
use Rattle.call_machine.specs.Machine.{started, plan_of}
use Rattle.call_machine.specs.Read.{first_read}
use Rattle.call_machine.specs.SoundCall.{IsHandle}
use Rattle.cht_core.specs.Begins.{MayRead}
use Rattle.cht_run.specs.declared.read.TextOf.{TextOf}
use Rattle.cht_run.specs.declared.read.TextOf.TheVariants as reads
use Rattle.cht_run.specs.declared.seat.Seat.{Seat}
use Rattle.cht_run.specs.declared.sight.Origin.{Origin}
use Rattle.cht_run.specs.declared.table.Cht.{Cht}
use Rattle.cht_run.specs.Begins.{own_at, is_resting}
use Rattle.cht_run.specs.Calls.{At}
use Rattle.cht_run.specs.Changes.{Made}
use Rattle.cht_run.specs.Ended.{Ended, Only}
use Rattle.cht_run.specs.History.{log_of, is_known, HasHandles}
use Rattle.cht_run.specs.Reads.{sections_of, WhyReads, done_by, text_answer, HoldsText}
use Rattle.cht_run.specs.Seats.{Raw, Sits, sight}
use Rattle.cht_run.specs.Starts.{sets_out, IsAsked, Starts}
use Rattle.cht_run.proofs.ChangeStarts.{asking, asking_is}
use Rattle.cht_run.proofs.Ended.{ends, ended}
use Rattle.cht_run.proofs.Handles.{held_is_known, created_is_known, known_was_made}

-- THE BEGINNING

knows : (kind : Kind) (log : List Event) (numbers : List ℕ) (h : Handle) → MayRead kind log numbers h → is_known log h ≡ true
knows Counted log numbers h may = held_is_known log numbers h may
knows Weak log numbers h may = created_is_known log h may

-- the first step of a reading
abbrev pub first_step : Kind → Handle → Step
first_step Counted h = step.LoadMeta h.slot
first_step Weak h = step.LoadCounter

first_planned : (o : Origin) (own : Own) (kind : Kind) (h : Handle) → plan_of (asking o own h (stage.Read (first_read kind))) ≡ plan.Step (first_step kind h)
first_planned o own Counted h = refl
first_planned o own Weak h = refl

first_sound : (o : Origin) (number : ℕ) (kind : Kind) (h : Handle) → h.slot < o.table.shape.slots → IsSoundStep o.table.shape number (first_step kind h)
first_sound o number Counted h inside = (inside, tt, tt, tt)
first_sound o number Weak h inside = (tt, tt, tt, tt)

pub read_starts : (cht : Cht) (raw : Raw) (r : Request) (number cursor : ℕ) (h : Handle) → Sits cht raw → is_resting raw.me.0.seat ≡ true → number ≡ raw.me.0.number → cursor ≡ (own_at raw.me.0.seat).cursor →
    HasHandles raw.me.0.origin.table.shape raw.me.0.history → IsAsked cht.origin number h r → MayRead cht.origin.table.kind (log_of raw.me.0.history) raw.me.0.numbers h →
    Starts cht raw.me.0 (call.TextOf r.handle) r raw (sets_out cursor) (stage.Read (first_read r.kind)) (first_step r.kind r.handle)
read_starts cht raw r number cursor h sits rests number_is cursor_is handles asked may =
    let b = raw.me.0 in
    let same : r.handle ≡ h = ap (λ (q : Asked). q.handle) asked.asks in
    let kind : b.origin.table.kind ≡ r.kind = ap (λ (o : Origin). o.table.kind) sits.origin ∙ sym (ap (λ (q : Asked). q.kind) asked.asks) in
    let can : MayRead b.origin.table.kind (log_of b.history) b.numbers r.handle =
    subst (λ (o : Origin). MayRead o.table.kind (log_of b.history) b.numbers r.handle) (sym sits.origin) (subst (MayRead cht.origin.table.kind (log_of b.history) b.numbers) (sym same) may) in
    let known = knows b.origin.table.kind (log_of b.history) b.numbers r.handle can in
    let is : IsHandle b.origin.table.shape r.handle = handles r.handle known in
    let begins : started b.origin.table.kind b.origin.table.shape b.origin.seed (own_at b.seat) (call.TextOf r.handle) ≡ asking b.origin (own_at b.seat) r.handle (stage.Read (first_read r.kind)) =
    ap (λ (k : Kind). asking b.origin (own_at b.seat) r.handle (stage.Read (first_read k))) kind in
    record {
      sits = sits;
      same = refl;
      request = asked.request;
      seed = asked.seed;
      may = record { seat = sits.seat; rests = rests; handle = is; allowed = tt; bytes = tt; log = can };
      causes = λ told. known_was_made b.origin.table (log_of b.history) r.handle told known;
      planned = ap plan_of begins ∙ first_planned b.origin (own_at b.seat) r.kind r.handle;
      first = λ own_is. begins ∙ asking_is cht.origin b number cursor h r (stage.Read (first_read r.kind)) sits.origin asked number_is cursor_is own_is;
      sound = first_sound cht.origin b.number r.kind r.handle (subst (λ (o : Origin). r.handle.slot < o.table.shape.slots) sits.origin is.0);
    }

-- THE ANSWER

module _ (cht : Cht) (old new : Seat) (r : Request) (w : Along) (h : Handle) (same : r.handle ≡ h) where
  read_ended : (kind : Kind) (did : List What) (result : TextOf) → At cht (sight old) (call.TextOf r.handle) r new.raw w (stage.Answered (text_answer result)) → Made (sight old) (sight new) did → (result ≡ reads.Stale → kind ≡ Weak) →
      Ended cht.origin.table old new (Only did) (WhyReads kind h result)
  read_ended kind did result at made weak = subst (λ k. Ended cht.origin.table old new (Only did) (WhyReads kind k result)) same (by_result result at weak)
    where
      by_result : (x : TextOf) → At cht (sight old) (call.TextOf r.handle) r new.raw w (stage.Answered (text_answer x)) → (x ≡ reads.Stale → kind ≡ Weak) → Ended cht.origin.table old new (Only did) (WhyReads kind r.handle x)
      by_result (reads.Text long) at weak = ended cht old new (call.TextOf r.handle) r w _ at did (WhyReads kind r.handle (reads.Text long)) made tt
      by_result reads.Stale at weak = ended cht old new (call.TextOf r.handle) r w _ at did (WhyReads kind r.handle reads.Stale) made (weak refl, ends cht old new (call.TextOf r.handle) r w _ at)

  not_stale : (result : TextOf) → HoldsText result → result ≡ reads.Stale → ⊥
  not_stale (reads.Text long) holds is = absurd (cc)
  not_stale reads.Stale holds is = holds

  pub held_ended : (kind : Kind) (result : TextOf) → kind ≡ Counted → At cht (sight old) (call.TextOf r.handle) r new.raw w (stage.Answered (text_answer result)) → done_by (sight old).number (sight new) ≡ done_by (sight old).number (sight old) → HoldsText result →
      (counter : ℕ) × Ended cht.origin.table old new (Only (sections_of kind counter)) (WhyReads kind h result)
  held_ended kind result is at own holds =
      (0, subst (λ k. Ended cht.origin.table old new (Only (sections_of k 0)) (WhyReads k h result)) (sym is) (read_ended Counted [] result at (own ∙ sym (append-nil (done_by (sight old).number (sight old)))) (λ stale. absurd (not_stale result holds stale))))

  pub inside_ended : (kind : Kind) (result : TextOf) → kind ≡ Weak → At cht (sight old) (call.TextOf r.handle) r new.raw w (stage.Answered (text_answer result)) →
      (counter : ℕ) × (done_by (sight old).number (sight new) ≡ done_by (sight old).number (sight old) ++ sections_of Weak counter) → (counter : ℕ) × Ended cht.origin.table old new (Only (sections_of kind counter)) (WhyReads kind h result)
  inside_ended kind result is at own = (own.0, subst (λ k. Ended cht.origin.table old new (Only (sections_of k own.0)) (WhyReads k h result)) (sym is) (read_ended Weak (sections_of Weak own.0) result at own.1 (λ stale. refl)))
