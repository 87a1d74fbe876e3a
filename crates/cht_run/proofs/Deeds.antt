-- What an operation on the shared words asks, and where it leaves its seat.
use Rattle.std.proofs.Common.{◌≡◌, ℕ, ◌<◌, Bool, true, false, cond, Some, refl, sym, ap, subst, ◌∙◌, arith}
use prog.Atomic.{either}
use Rattle.atomic_table.specs.Table.{Me, stepped, Allows}
use Rattle.table_shape.specs.declared.shape.Shape.{Shape}
use Rattle.table_shape.specs.Place.{index_of}
use Rattle.table_shape.specs.Shape.{words_of}
use Rattle.table_shape.proofs.Places.{index_within}
use Rattle.atomic_step.specs.declared.access.Access.{Access}
use Rattle.atomic_step.specs.declared.plan.Plan.{Plan}
use Rattle.atomic_step.specs.declared.plan.Plan.TheVariants as plan
use Rattle.atomic_step.specs.declared.step.Step.{Step}
use Rattle.atomic_step.specs.Access.{word_after}
use Rattle.atomic_step.specs.SoundStep.{IsSoundStep}
use Rattle.atomic_step.specs.Step.{access_of}
use Rattle.call_machine.specs.declared.call.Call.{Call}
use Rattle.call_machine.specs.declared.machine.Machine.{Machine}
use Rattle.call_machine.specs.Machine.{plan_of, shape_of}
use Rattle.call_machine.proofs.Machines.{step_law}
use Rattle.cht_core.specs.declared.seat.Seat.{Seat}
use Rattle.cht_core.specs.declared.seat.Seat.TheVariants as doing
use Rattle.cht_run.specs.declared.sight.Origin.{Origin}
use Rattle.cht_run.specs.declared.sight.Sight.{Sight}
use Rattle.cht_run.specs.Begins.{first_of, begun, next_in, step_by, MayCall, SoundIn, IsSoundOf, FitsIn, ToldFirst, GoesOn, GoesFirst}
use Rattle.cht_run.specs.Rule.{is_seat, Kept}
use Rattle.cht_run.specs.Told.{Told, IsAbout}
use Rattle.cht_run.proofs.Allows.{goes_on_allowed, goes_first_allowed}

-- THE STEP THAT COMES NEXT

-- the machine that is about to make it
pub about_next : (v : Sight) (s : Step) → is_seat v ≡ true → next_in v.seat ≡ Some s → (m : Machine) × IsAbout v m s
about_next v s is next = go v.seat refl next
  where
    planned : (m : Machine) (p : Plan) → v.seat ≡ doing.Running m → plan_of m ≡ p → step_by p ≡ Some s → (x : Machine) × IsAbout v x s
    planned m (plan.Step x) is_m is_p now = let same : x ≡ s = cc in (m, record { seat = is; running = is_m; plan = is_p ∙ ap plan.Step same })
    planned m (plan.Answered a) is_m is_p now = absurd (cc)

    go : (x : Seat) → v.seat ≡ x → next_in x ≡ Some s → (m : Machine) × IsAbout v m s
    go (doing.Idle own) is_x now = absurd (cc)
    go (doing.Running m) is_x now = planned m (plan_of m) is_x refl now

-- it is the only one
one_machine : (v : Sight) (m n : Machine) → v.seat ≡ doing.Running m → v.seat ≡ doing.Running n → m ≡ n
one_machine v m n is also = let same : doing.Running m ≡ doing.Running n = sym is ∙ also in cc

one_step : (m : Machine) (s t : Step) → plan_of m ≡ plan.Step s → plan_of m ≡ plan.Step t → s ≡ t
one_step m s t is also = let same : plan.Step s ≡ plan.Step t = sym is ∙ also in cc

-- a step of a sound call is sound
pub step_is_sound : (o : Origin) (v : Sight) (s : Step) → is_seat v ≡ true → next_in v.seat ≡ Some s → SoundIn o v.number v.seat → IsSoundStep o.table.shape v.number s
step_is_sound o v s is next sound =
    let about = about_next v s is next in
    let of : IsSoundOf o v.number about.0 = subst (SoundIn o v.number) about.1.running sound in
    subst (λ (shape : Shape). IsSoundStep shape v.number s) of.shape (subst (λ n. IsSoundStep (shape_of about.0) n s) of.number_is (step_law about.0 s of.sound about.1.plan))

-- WHAT IT ASKS

abbrev Asks : Origin → ℕ → ℕ → ℕ → Me (Unit {0}) Sight → ℕ → (ℕ → ℕ) → (Sight → ℕ → Sight → Type 0) → Type 0
Asks key words slots id me index f Then = (index < words) × Allows (Kept key) slots id me index f (λ n me'. Then me.0 n me'.0 × (me'.1 ≡ me.1))

-- an operation does what the deed of the step does
as_deed : (o : Origin) (slots id : ℕ) (me : Me (Unit {0}) Sight) (index : ℕ) (f g : ℕ → ℕ) (Then : ℕ → Me (Unit {0}) Sight → Type 0) → ((n : ℕ) → f n ≡ g n) → Allows (Kept o) slots id me index g Then →
    Allows (Kept o) slots id me index f Then
as_deed o slots id me index f g Then same allows s k wide at small =
    let r = allows s k wide at small in
    (r.0, r.1, r.2, subst (λ n. Kept o (stepped s index n id me.1 r.0 r.1)) (sym (same (Rattle.std.specs.Prelude.slice_index s.words index))) r.3, r.4)

module _ (key o : Origin) (words slots id : ℕ) (me : Me (Unit {0}) Sight) (stp : Step) (access : Access) (index : ℕ) (is_key : key ≡ o) (is_words : words ≡ words_of o.table.shape) (of : me.0.origin ≡ o)
    (sound : IsSoundStep o.table.shape me.0.number stp) (is_access : access ≡ access_of stp) (is_index : index ≡ index_of o.table.shape access.place) (f : ℕ → ℕ)
    (does : (n : ℕ) → f n ≡ word_after access.deed n) where
  place_is : index ≡ index_of o.table.shape (access_of stp).place
  place_is = is_index ∙ ap (λ (a : Access). index_of o.table.shape a.place) is_access

  within : index < words
  within = let less = index_within o.table.shape (access_of stp).place sound.0 in omega (arith, less, place_is, is_words)

  deed_is : (n : ℕ) → f n ≡ word_after (access_of stp).deed n
  deed_is n = does n ∙ ap (λ (a : Access). word_after a.deed n) is_access

  pub further : is_seat me.0 ≡ true → next_in me.0.seat ≡ Some stp → Asks key words slots id me index f GoesOn
  further is next =
      let about = about_next me.0 stp is next in (
        within,
        subst (λ z. Allows (Kept z) slots id me index f (λ n me'. GoesOn me.0 n me'.0 × (me'.1 ≡ me.1))) (sym is_key)
            (subst (λ j. Allows (Kept o) slots id me j f (λ n me'. GoesOn me.0 n me'.0 × (me'.1 ≡ me.1))) (sym place_is)
            (as_deed o slots id me (index_of o.table.shape (access_of stp).place) f (word_after (access_of stp).deed) (λ n me'. GoesOn me.0 n me'.0 × (me'.1 ≡ me.1)) deed_is
            (λ s k wide at small.
            let r = goes_on_allowed o slots id me about.0 stp about.1 of s k wide at small in (
              r.0,
              r.1,
              r.2,
              r.3,
              (
                λ m t then.
                    let same_m : about.0 ≡ m = one_machine me.0 about.0 m about.1.running then.running in
                    let same_t : stp ≡ t = one_step m stp t (subst (λ (x : Machine). plan_of x ≡ plan.Step stp) same_m about.1.plan) then.plan in
                    subst (λ (z : Machine × Step). Told me.0.origin z.0 z.1 me.0 (Rattle.std.specs.Prelude.slice_index s.words (index_of o.table.shape (access_of stp).place)) r.0) (λ j. (same_m j, same_t j)) r.4.0,
                r.4.1,
              ),
            )))),
      )

  pub starts : (c : Call) → MayCall me.0 c → plan_of (first_of me.0 c) ≡ plan.Step stp → Asks key words slots id me index f (GoesFirst c)
  starts c may planned = (
    within,
    subst (λ z. Allows (Kept z) slots id me index f (λ n me'. GoesFirst c me.0 n me'.0 × (me'.1 ≡ me.1))) (sym is_key)
        (subst (λ j. Allows (Kept o) slots id me j f (λ n me'. GoesFirst c me.0 n me'.0 × (me'.1 ≡ me.1))) (sym place_is)
        (as_deed o slots id me (index_of o.table.shape (access_of stp).place) f (word_after (access_of stp).deed) (λ n me'. GoesFirst c me.0 n me'.0 × (me'.1 ≡ me.1)) deed_is
        (λ s k wide at small.
        let r = goes_first_allowed o slots id me c stp may planned of s k wide at small in (
          r.0,
          r.1,
          r.2,
          r.3,
          (
            λ t then.
                let same : stp ≡ t = one_step (first_of me.0 c) stp t planned then in
                subst (λ (z : Step). ToldFirst c z me.0 (Rattle.std.specs.Prelude.slice_index s.words (index_of o.table.shape (access_of stp).place)) r.0) same r.4.0,
            r.4.1,
          ),
        )))),
  )

-- the two ways to say an exchange
pub exchanged : (b : Bool) (x y : ℕ) → either b x y ≡ cond b x y
exchanged true x y = refl
exchanged false x y = refl

-- WHERE IT LEAVES THE SEAT

after_stays : (o : Origin) (m : Machine) (s : Step) (v w : Sight) (n : ℕ) → Told o m s v n w → (w.origin ≡ v.origin) × (is_seat w ≡ is_seat v) × (w.number ≡ v.number)
after_stays o m s v w n told = (ap (λ (x : Sight). x.origin) told.after, ap is_seat told.after, ap (λ (x : Sight). x.number) told.after)

pub goes_on_stays : (v w : Sight) (s : Step) (n : ℕ) → is_seat v ≡ true → next_in v.seat ≡ Some s → GoesOn v n w → (w.origin ≡ v.origin) × (is_seat w ≡ is_seat v) × (w.number ≡ v.number)
goes_on_stays v w s n is next goes = let about = about_next v s is next in after_stays v.origin about.0 s v w n (goes about.0 s about.1)

pub goes_first_stays : (c : Call) (v w : Sight) (s : Step) (n : ℕ) → plan_of (first_of v c) ≡ plan.Step s → GoesFirst c v n w → (w.origin ≡ v.origin) × (is_seat w ≡ is_seat v) × (w.number ≡ v.number)
goes_first_stays c v w s n planned goes = after_stays v.origin (first_of v c) s (begun v c) w n (goes s planned).told

-- the word that it finds fits
pub goes_on_fits : (v w : Sight) (s : Step) (n : ℕ) → is_seat v ≡ true → next_in v.seat ≡ Some s → GoesOn v n w → FitsIn v.seat n
goes_on_fits v w s n is next goes =
    let about = about_next v s is next in
    subst (λ x. FitsIn x n) (sym about.1.running) (goes about.0 s about.1).found.fits
