-- A call by handle begins.
use Rattle.std.proofs.Common.{◌≡◌, ℕ, ◌<◌, true, List, is_some, refl, sym, ap, subst, ◌∙◌}
use Rattle.intern_log.specs.declared.event.Event.{Event}
use Rattle.intern_log.specs.declared.event.Handle.{Handle}
use Rattle.intern_log.specs.declared.event.Kind.{Kind}
use Rattle.atomic_step.specs.declared.count.Change.{Change}
use Rattle.atomic_step.specs.declared.count.Change.TheVariants as change
use Rattle.atomic_step.specs.declared.step.Step.TheVariants as step
use Rattle.table_shape.specs.declared.shape.Shape.{Shape}
use Rattle.call_machine.specs.declared.handle.HandleStage.TheVariants as handle
use Rattle.call_machine.specs.declared.machine.Machine.{Machine}
use Rattle.call_machine.specs.declared.machine.Machine.TheVariants as machine
use Rattle.call_machine.specs.declared.machine.Own.{Own}
use Rattle.call_machine.specs.declared.stage.Asked.{Asked}
use Rattle.call_machine.specs.declared.stage.CallStage.{CallStage}
use Rattle.call_machine.specs.declared.stage.CallStage.TheVariants as stage
use Rattle.call_machine.specs.declared.stage.Request.{Request}
use Rattle.call_machine.specs.Machine.{started, plan_of}
use Rattle.call_machine.specs.SoundCall.{IsHandle}
use Rattle.call_machine.specs.SoundMachine.{HasHandle, IsAllowed}
use Rattle.call_machine.specs.Sought.{asked_of}
use Rattle.cht_core.specs.declared.table.Table.{Table}
use Rattle.cht_core.specs.Begins.{HasBytes, MeetsLog}
use Rattle.cht_core.specs.Caused.{MayCause}
use Rattle.cht_core.specs.CauseCalls.{WasMade}
use Rattle.cht_run.specs.declared.sight.Origin.{Origin}
use Rattle.cht_run.specs.declared.sight.Sight.{Sight}
use Rattle.cht_run.specs.declared.table.Cht.{Cht}
use Rattle.cht_run.specs.Begins.{own_at, is_resting}
use Rattle.cht_run.specs.Calls.{at_stage}
use Rattle.cht_run.specs.Changes.{changes, MayChange}
use Rattle.cht_run.specs.History.{log_of, is_known, HasHandles}
use Rattle.cht_run.specs.Seats.{Raw, Sits}
use Rattle.cht_run.specs.Starts.{asks, sets_out, IsAsked, Starts}
use Rattle.cht_run.proofs.Handles.{held_is_known, created_is_known, known_was_made}

-- ANY CALL WITHOUT A TEXT

-- the machine of such a call at its first stage
abbrev pub asking : Origin → Own → Handle → CallStage → Machine
asking o own h s = machine.Call (record { asked = asks o own.number h; along = sets_out own.cursor; stage = s }) own.work own.grace

pub asking_is : (o : Origin) (b : Sight) (number cursor : ℕ) (h : Handle) (r : Request) (s : CallStage) → b.origin ≡ o → IsAsked o number h r → number ≡ b.number → cursor ≡ (own_at b.seat).cursor → (own_at b.seat).number ≡ b.number →
    asking b.origin (own_at b.seat) r.handle s ≡ at_stage b (asked_of r) (sets_out cursor) s
asking_is o b number cursor h r s of asked number_is cursor_is own_is =
    let own = own_at b.seat in
    let same : r.handle ≡ h = ap (λ (q : Asked). q.handle) asked.asks in
    let first : asks b.origin own.number r.handle ≡ asked_of r = (λ j. asks (of j) ((own_is ∙ sym number_is) j) (same j)) ∙ sym asked.asks in
    λ j. machine.Call (record { asked = first j; along = sets_out (sym cursor_is j); stage = s }) own.work own.grace

-- A CHANGE

change_asks : (o : Origin) (own : Own) (ch : Change) (h : Handle) → started o.table.kind o.table.shape o.seed own (changes ch h) ≡ asking o own h (stage.Handle (handle.Count ch))
change_asks o own change.Drop h = refl
change_asks o own change.Permanent h = refl
change_asks o own change.Kill h = refl

has_handle : (shape : Shape) (ch : Change) (h : Handle) → IsHandle shape h → HasHandle shape (changes ch h)
has_handle shape change.Drop h is = is
has_handle shape change.Permanent h is = is
has_handle shape change.Kill h is = is

has_bytes : (ch : Change) (h : Handle) → HasBytes (changes ch h)
has_bytes change.Drop h = tt
has_bytes change.Permanent h = tt
has_bytes change.Kill h = tt

is_allowed : (kind : Kind) (own : Own) (log : List Event) (numbers : List ℕ) (ch : Change) (h : Handle) → MayChange kind log numbers ch h → IsAllowed kind (is_some own.work) (is_some own.grace) (changes ch h)
is_allowed kind own log numbers change.Drop h may = may.0
is_allowed kind own log numbers change.Permanent h may = may.0
is_allowed kind own log numbers change.Kill h may = may.0

meets_log : (kind : Kind) (log : List Event) (numbers : List ℕ) (ch : Change) (h : Handle) → MayChange kind log numbers ch h → MeetsLog kind log numbers (changes ch h)
meets_log kind log numbers change.Drop h may = may.1
meets_log kind log numbers change.Permanent h may = may.1
meets_log kind log numbers change.Kill h may = may.1

knows : (kind : Kind) (log : List Event) (numbers : List ℕ) (ch : Change) (h : Handle) → MayChange kind log numbers ch h → is_known log h ≡ true
knows kind log numbers change.Drop h may = held_is_known log numbers h may.1
knows kind log numbers change.Permanent h may = held_is_known log numbers h may.1
knows kind log numbers change.Kill h may = created_is_known log h may.1

may_cause : (t : Table) (i : ℕ) (seen : List Event) (own : Own) (ch : Change) (h : Handle) → WasMade t seen h → MayCause t i seen own (changes ch h)
may_cause t i seen own change.Drop h made = made
may_cause t i seen own change.Permanent h made = made
may_cause t i seen own change.Kill h made = made

pub change_starts : (cht : Cht) (raw : Raw) (r : Request) (number cursor : ℕ) (ch : Change) (h : Handle) → Sits cht raw → is_resting raw.me.0.seat ≡ true → number ≡ raw.me.0.number → cursor ≡ (own_at raw.me.0.seat).cursor →
    HasHandles raw.me.0.origin.table.shape raw.me.0.history → IsAsked cht.origin number h r → MayChange cht.origin.table.kind (log_of raw.me.0.history) raw.me.0.numbers ch h →
    Starts cht raw.me.0 (changes ch r.handle) r raw (sets_out cursor) (stage.Handle (handle.Count ch)) (step.SeeHandle ch r.handle)
change_starts cht raw r number cursor ch h sits rests number_is cursor_is handles asked may =
    let b = raw.me.0 in
    let same : r.handle ≡ h = ap (λ (q : Asked). q.handle) asked.asks in
    let can : MayChange b.origin.table.kind (log_of b.history) b.numbers ch r.handle =
    subst (λ (o : Origin). MayChange o.table.kind (log_of b.history) b.numbers ch r.handle) (sym sits.origin) (subst (MayChange cht.origin.table.kind (log_of b.history) b.numbers ch) (sym same) may) in
    let known = knows b.origin.table.kind (log_of b.history) b.numbers ch r.handle can in
    let is : IsHandle b.origin.table.shape r.handle = handles r.handle known in
    let begins = change_asks b.origin (own_at b.seat) ch r.handle in
    record {
      sits = sits;
      same = refl;
      request = asked.request;
      seed = asked.seed;
      may = record {
        seat = sits.seat;
        rests = rests;
        handle = has_handle b.origin.table.shape ch r.handle is;
        allowed = is_allowed b.origin.table.kind (own_at b.seat) (log_of b.history) b.numbers ch r.handle can;
        bytes = has_bytes ch r.handle;
        log = meets_log b.origin.table.kind (log_of b.history) b.numbers ch r.handle can;
      };
      causes = λ told. may_cause b.origin.table b.number (log_of b.history) (own_at b.seat) ch r.handle (known_was_made b.origin.table (log_of b.history) r.handle told known);
      planned = ap plan_of begins;
      first = λ own_is. begins ∙ asking_is cht.origin b number cursor h r (stage.Handle (handle.Count ch)) sits.origin asked number_is cursor_is own_is;
      sound = (subst (λ (o : Origin). r.handle.slot < o.table.shape.slots) sits.origin is.0, tt, tt, tt);
    }
