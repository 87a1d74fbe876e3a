-- What `atomic_table` asks of a step: one law for all kinds of step and all operations.
use Rattle.std.proofs.Common.{◌≡◌, ℕ, ◌++◌, Some, set, refl, sym, ap, subst, ◌∙◌, arith}
use Rattle.std.proofs.lemmas.List.{set-set}
use mathlib.Core.Option.{some}
use lib.ListN.{get_elem?}
use Rattle.atomic_table.specs.Table.{Me, keeps, Allows}
use Rattle.atomic_table.proofs.Lists.{set_here}
use Rattle.table_shape.specs.Place.{index_of}
use Rattle.atomic_step.specs.declared.plan.Plan.TheVariants as plan
use Rattle.atomic_step.specs.declared.step.Step.{Step}
use Rattle.atomic_step.specs.Access.{word_after}
use Rattle.atomic_step.specs.Step.{access_of}
use Rattle.call_machine.specs.declared.call.Call.{Call}
use Rattle.call_machine.specs.declared.machine.Machine.{Machine}
use Rattle.call_machine.specs.Machine.{plan_of}
use Rattle.cht_run.specs.declared.sight.Origin.{Origin}
use Rattle.cht_run.specs.declared.sight.Sight.{Sight}
use Rattle.cht_run.specs.Begins.{own_at, first_of, begun, MayCall, ToldFirst}
use Rattle.cht_run.specs.History.{log_of}
use Rattle.intern_log.specs.Own.{mine, gains, losses}
use Rattle.cht_core.specs.Memory.{memory_of}
use Rattle.cht_run.specs.Rule.{view_of, Kept}
use Rattle.intern_log.specs.Now.{owner_of}
use Rattle.cht_core.specs.Causes.{now_in}
use Rattle.call_machine.specs.SoundMachine.{IsSoundOwn}
use Rattle.atomic_step.specs.Table.{word_at, words_after}
use Rattle.cht_run.specs.Told.{Told, IsAbout}
use Rattle.cht_run.proofs.Begins.{begins, own_known, own_owner, at_within, mine_still}
use Rattle.cht_run.proofs.Steps.{Seats, part_of, after, is_told, kept_after}

-- a step that goes on, of the machine in its view
pub goes_on_allowed : (o : Origin) (slots id : ℕ) (me : Me (Unit {0}) Sight) (m : Machine) (stp : Step) → IsAbout me.0 m stp → me.0.origin ≡ o →
    Allows (Kept o) slots id me (index_of o.table.shape (access_of stp).place) (word_after (access_of stp).deed) (λ n me'. Told me.0.origin m stp me.0 n me'.0 × (me'.1 ≡ me.1))
goes_on_allowed o slots id me m stp about of s k wide at small = (
  after o s k id me.0 at m stp about,
  keeps,
  tt,
  kept_after o s k id me.0 at m stp about,
  (subst (λ z. Told z m stp me.0 (Rattle.atomic_step.specs.Table.word_at o.table.shape (access_of stp).place s.words) (after o s k id me.0 at m stp about)) (sym of) (is_told o s k id me.0 at m stp about), refl),
)

-- the first step of a call
module _ (o : Origin) (slots id : ℕ) (me : Me (Unit {0}) Sight) (c : Call) (stp : Step) (may : MayCall me.0 c) (planned : plan_of (first_of me.0 c) ≡ plan.Step stp) (of : me.0.origin ≡ o) (s : Seats) (k : Kept o s)
    (at : get_elem? s.views id ≡ some me.0) where
  abbrev v : Sight
  v = me.0

  abbrev now : Sight
  now = begun v c

  abbrev moved : Seats
  moved = record { words = s.words; homes = s.homes; views = set s.views id now }

  begun_kept : Kept o moved
  begun_kept = begins o s k id v at may.seat c may

  at_now : get_elem? moved.views id ≡ some now
  at_now = set_here s.views id now (at_within s.views id v at)

  about : IsAbout now (first_of v c) stp
  about = record { seat = may.seat; running = refl; plan = planned }

  abbrev word : ℕ
  word = word_at o.table.shape (access_of stp).place s.words

  abbrev then : Sight
  then = after o moved begun_kept id now at_now (first_of v c) stp about

  then_kept : Kept o (record { words = words_after o.table.shape stp s.words; homes = s.homes; views = set s.views id then })
  then_kept = subst (λ l. Kept o (record { words = words_after o.table.shape stp s.words; homes = s.homes; views = l })) (set-set s.views id now then) (kept_after o moved begun_kept id now at_now (first_of v c) stp about)

  told_first : ToldFirst c stp v word then
  told_first =
      let own = own_known o s k id v at may.seat may.rests in
      let fit = k.fits id v at in
      record {
        told = subst (λ z. Told z (first_of v c) stp now word then) (sym of) (is_told o moved begun_kept id now at_now (first_of v c) stp about);
        own = subst (λ (z : Origin). IsSoundOwn z.table.shape (own_at v.seat)) (sym of) own.0.sound;
        number_is = own.0.number;
        rests = own.1;
        ledger = λ h. let held = k.inv.holds.own v.number (view_of v) h (part_of o (memory_of o.table.shape s.words) k.seat k.history v fit may.seat).at in
            let same = ap (λ l. mine (log_of l) v.numbers) fit.seen.whole ∙ mine_still v.numbers v.history fit.seen.later fit.seen.none in
            let more = ap (λ l. losses l h) same in let less = ap (λ l. gains l h) same in omega (arith, held, more, less);
        owner = λ x is. (
          fit.seen.later,
          fit.seen.none,
          subst (λ (z : Origin). owner_of (now_in z.table (log_of (v.history ++ fit.seen.later))).resizing ≡ Some v.number) (sym of)
              (subst (λ h. owner_of (now_in o.table (log_of h)).resizing ≡ Some v.number) fit.seen.whole (own_owner o s k id v at may.seat may.rests x is)),
        );
      }

pub goes_first_allowed : (o : Origin) (slots id : ℕ) (me : Me (Unit {0}) Sight) (c : Call) (stp : Step) → MayCall me.0 c → plan_of (first_of me.0 c) ≡ plan.Step stp → me.0.origin ≡ o →
    Allows (Kept o) slots id me (index_of o.table.shape (access_of stp).place) (word_after (access_of stp).deed) (λ n me'. ToldFirst c stp me.0 n me'.0 × (me'.1 ≡ me.1))
goes_first_allowed o slots id me c stp may planned of s k wide at small =
    (then o slots id me c stp may planned of s k at, keeps, tt, then_kept o slots id me c stp may planned of s k at, (told_first o slots id me c stp may planned of s k at, refl))
