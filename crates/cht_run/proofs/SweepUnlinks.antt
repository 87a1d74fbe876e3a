-- A sweep locks one bucket, once, and unlinks slots of that bucket alone.
use Rattle.std.proofs.Common.{◌≡◌, ◌⊎◌, ℕ, ◌+◌, ◌==◌, ◌^◌, cond, List, [], ◌∷◌, ◌++◌, length, Option, Some, None, refl, sym, ap, subst, ◌∙◌, inl, inr}
use Rattle.std.proofs.lemmas.Bool.{eq-eqb}
use Rattle.std.specs.Prelude.{min, nat_le, nat_lt}
use Rattle.std.proofs.lemmas.List.{append-nil, append_assoc}
use Rattle.marked_word.specs.Head.{first_of, is_locked, is_redirected}
use Rattle.marked_word.specs.Link.{node_of}
use Rattle.text_words.specs.Hash.{hash_of}
use Rattle.section_core.specs.Words.{waits_for}
use Rattle.intern_log.specs.declared.event.Event.{Event}
use Rattle.intern_log.specs.declared.event.What.{What}
use Rattle.intern_log.specs.declared.event.What.TheVariants as what
use Rattle.intern_log.specs.SlotBuckets.{phase_bucket, slot_bucket}
use Rattle.atomic_step.specs.declared.answer.Answer.TheVariants as answer
use Rattle.atomic_step.specs.Monitor.{after_one, after_all}
use Rattle.atomic_step.specs.Run.{AreFitting, after_words, events_of_words}
use Rattle.atomic_step.specs.SoundStep.{CanFollow}
use Rattle.atomic_step.specs.Turn.{event_by}
use Rattle.atomic_step.proofs.Choices.{either_way}
use Rattle.atomic_step.proofs.Runs.{follows}
use Rattle.call_machine.specs.declared.enter.EnterStage.TheVariants.{LoadCounter, OpenSection}
use Rattle.call_machine.specs.declared.find.FindStage.{FindStage}
use Rattle.call_machine.specs.declared.find.FindStage.TheVariants.{Enter, LoadLevel, LoadHead, LoadNewLevel, LoadNewHead}
use Rattle.call_machine.specs.declared.grace.Grace as grace
use Rattle.call_machine.specs.declared.grace.GraceStage.TheVariants.{RaiseCounter, LoadSection}
use Rattle.call_machine.specs.declared.grace.Gracing.{Gracing}
use Rattle.call_machine.specs.declared.lock.Locking.TheVariants as locking
use Rattle.call_machine.specs.declared.machine.Machine.{Machine}
use Rattle.call_machine.specs.declared.machine.Machine.TheVariants as machine
use Rattle.call_machine.specs.declared.pass.Cleaning.{Cleaning}
use Rattle.call_machine.specs.declared.pass.FreeStage.{FreeStage}
use Rattle.call_machine.specs.declared.pass.FreeStage.TheVariants.{PutNextGeneration, FreeSlot}
use Rattle.call_machine.specs.declared.pass.PassStage.{PassStage}
use Rattle.call_machine.specs.declared.pass.PassStage.TheVariants.{LoadCount, LoadLink, Unlink}
use Rattle.call_machine.specs.declared.pass.Waiting.{Waiting}
use Rattle.call_machine.specs.declared.sweep.Closing.TheVariants as closing
use Rattle.call_machine.specs.declared.sweep.SweepAlong.{SweepAlong}
use Rattle.call_machine.specs.declared.sweep.SweepAsked.{SweepAsked}
use Rattle.call_machine.specs.declared.sweep.Sweeping.{Sweeping}
use Rattle.call_machine.specs.declared.sweep.SweepStage.{SweepStage}
use Rattle.call_machine.specs.declared.sweep.SweepStage.TheVariants.{Check, Find, Lock, Close, Pass, UnlockHead, Grace, Free, Answered}
use Rattle.call_machine.specs.Machine.{event_of}
use Rattle.call_machine.specs.Pass.{passes_on, after_unlink, first_behind, waiting_at}
use Rattle.call_machine.specs.Sweep.{finds_anew, finds_on, cleans_on, locks_on, unlocked, graces_on, frees_on, plan_at, next_at, sweep_got, sweep_event}
use Rattle.call_machine.specs.WholeSweep.{sweeps}
use Rattle.call_machine.proofs.CleanFollows.{both_ways}
use Rattle.call_machine.proofs.Machines.{got_is, event_is}
use Rattle.cht_core.specs.declared.table.Table.{Table}
use Rattle.cht_core.specs.Causes.{now_in}
use Rattle.cht_core.specs.Flow.{Flow}
use Rattle.cht_core.specs.Invariant.{events_of}
use Rattle.cht_core.specs.KnowsWork.{IsAtNode, KnowsSweep}
use Rattle.cht_core.specs.Memory.{Memory}
use Rattle.cht_core.specs.Past.{Past, by}
use Rattle.cht_core.specs.Stage.{Stage, Quiet, Growing, Splitting, Shrinking, Joining, Turning, Closing, IsMixed, IsPinned}
use Rattle.cht_core.specs.TableState.{IsTable}
use Rattle.cht_core.specs.View.{KnowsMachine}
use Rattle.cht_core.specs.Windows.{whats_by}
use Rattle.cht_core.proofs.Windows.{whats_by-append}
use Rattle.cht_run.specs.Runs.{Finds}
use Rattle.cht_run.specs.Unlinks.{UnlinksOn, SweepUnlinks, MachineUnlinks, locks_one}

-- the bucket that a sweep has locked, or had
abbrev pub had_locked : Cleaning → SweepStage → Option (ℕ × ℕ)
had_locked c Check = None
had_locked c (Find s) = None
had_locked c Lock = None
had_locked c (Close closing.Again) = None
had_locked c (Answered (answer.Spent counter)) = None
had_locked c _ = Some (c.row, c.bucket)

abbrev pub its_bucket : Sweeping → Option (ℕ × ℕ)
its_bucket s = had_locked s.along.cleaning s.stage

-- A STEP

abbrev Follows : SweepAlong → SweepStage → Option What → SweepAlong × SweepStage → Type 0
Follows w s e went = after_one locks_one (had_locked w.cleaning s) e ≡ Some (had_locked went.0.cleaning went.1)

on_pass : (w v : SweepAlong) (s : SweepStage) (e : Option What) (next : Option PassStage) → Follows w s e (v, UnlockHead) → Follows w s e (v, cleans_on next)
on_pass w v s e None so = so
on_pass w v s e (Some t) so = so

head_found : (w v : SweepAlong) (s : FindStage) (head : ℕ) → Follows w (Find s) None (v, finds_on head None)
head_found w v s head = either_way (λ t. Follows w (Find s) None (v, t)) (is_locked head) (Close closing.Again) Lock refl refl

unlinked : (q : SweepAsked) (w : SweepAlong) (x g : ℕ) (next : Option ℕ) (word : ℕ) → Follows w (Pass (Unlink x g next)) (Some (what.Unlink x)) (next_at q w (Pass (Unlink x g next)) word)
unlinked q w x g next word =
    let s : SweepStage = Pass (Unlink x g next) in
    let c : Cleaning = record w.cleaning { first = first_behind w.cleaning.last w.cleaning.first next; unlinked = min (w.cleaning.unlinked + 1) 18446744073709551615 } in
    let more : Cleaning = record c { waiting = record { items = c.waiting.items ++ record { slot = x; generation = g } ∷ [] }; pass_waiting = c.pass_waiting + 1 } in
    either_way (λ (d : Cleaning). Follows w s (Some (what.Unlink x)) (record w { cleaning = d }, cleans_on (after_unlink d next))) (nat_lt (g + 1) (2 ^ 48)) more c
    (on_pass w (record w { cleaning = more }) s (Some (what.Unlink x)) (after_unlink more next) refl)
    (on_pass w (record w { cleaning = c }) s (Some (what.Unlink x)) (after_unlink c next) refl)

unlocks : (w : SweepAlong) (items : List Waiting) → Follows w UnlockHead (Some (what.Unlock w.cleaning.row w.cleaning.bucket)) (w, unlocked w.cleaning items)
unlocks w [] = refl
unlocks w (x ∷ xs) = refl

follow_step : (q : SweepAsked) (w : SweepAlong) (s : SweepStage) (word : ℕ) → CanFollow q.caller.shape (plan_at q w s) word → Follows w s (event_by [] (plan_at q w s) word) (next_at q w s word)
follow_step q w (Answered a) word fits = absurd fits
follow_step q w Check word fits = either_way (λ s. Follows w Check None (w, s)) (nat_le (2 ^ 48) word) (Answered (answer.Spent word)) finds_anew refl refl
follow_step q w (Find (Enter LoadCounter)) word fits = refl
follow_step q w (Find (Enter (OpenSection counter))) word fits = refl
follow_step q w (Find LoadLevel) word fits = refl
follow_step q w (Find LoadHead) word fits =
    let v : SweepAlong = record w { walk = record w.walk { head = word } } in
    either_way (λ next. Follows w (Find LoadHead) None (v, finds_on word next)) (is_redirected word) (Some LoadNewLevel) None refl (head_found w v LoadHead word)
follow_step q w (Find LoadNewLevel) word fits = refl
follow_step q w (Find LoadNewHead) word fits = head_found w (record w { walk = record w.walk { head = word } }) LoadNewHead word
follow_step q w Lock word fits =
    both_ways (λ e came. Follows w Lock e (locks_on w came)) (word == w.walk.head) (Some (what.Lock w.walk.row w.walk.bucket)) None (locking.Locked (first_of word)) locking.Waits refl refl
follow_step q w (Close closing.Again) word fits = refl
follow_step q w (Close closing.Clean) word fits = on_pass w w (Close closing.Clean) (Some what.Close) (passes_on w.cleaning.first) refl
follow_step q w (Pass (LoadCount x)) word fits = refl
follow_step q w (Pass (LoadLink x None)) word fits = on_pass w (record w { cleaning = record w.cleaning { last = Some x } }) (Pass (LoadLink x None)) None (passes_on (node_of word)) refl
follow_step q w (Pass (LoadLink x (Some g))) word fits = refl
follow_step q w (Pass (Unlink x g next)) word fits = unlinked q w x g next word
follow_step q w UnlockHead word fits = unlocks w w.cleaning.waiting.items
follow_step q w (Grace RaiseCounter) word fits = refl
follow_step q w (Grace LoadSection) word fits =
    let P : grace.Grace × Gracing → Type 0 = λ came. Follows w (Grace LoadSection) None (record w { grace = came.0 }, graces_on came.1) in
    either_way P (waits_for w.grace.raised word) _ _ refl (either_way P (w.grace.next + 1 == q.caller.shape.seats) _ _ refl refl)
follow_step q w (Free (PutNextGeneration n)) word fits = refl
follow_step q w (Free (FreeSlot n)) word fits =
    either_way (λ (came : Cleaning × Option FreeStage). Follows w (Free (FreeSlot n)) (Some (what.Free (waiting_at w.cleaning n).slot)) (record w { cleaning = came.0 }, frees_on came.0 came.1)) (n + 1 == length w.cleaning.waiting.items) _ _ refl refl

-- WHAT THE TABLE SAYS

-- a text may be on the chain of another bucket only where a resize has locked it
mixed_is_pinned : (st : Stage) (level row b hash : ℕ) → IsMixed st level row b hash → IsPinned st level row b
mixed_is_pinned (Splitting a) level row b hash mixed = (mixed.0, mixed.2)
mixed_is_pinned (Joining k a) level row b hash mixed = (mixed.0, inl mixed.2)
mixed_is_pinned Quiet level row b hash mixed = absurd mixed
mixed_is_pinned (Growing d) level row b hash mixed = absurd mixed
mixed_is_pinned (Shrinking k d) level row b hash mixed = absurd mixed
mixed_is_pinned (Turning k a) level row b hash mixed = absurd mixed
mixed_is_pinned Closing level row b hash mixed = absurd mixed

module _ (t : Table) (m : Memory) (p : Past) (f : Flow) (i load : ℕ) (passed : List ℕ) (table : IsTable t m p f) where
  -- a node of a bucket that a seat has locked has a text of the bucket
  locked_slot : (c : Cleaning) (s : ℕ) → IsAtNode m p.now f i c s → slot_bucket p.now c.row s ≡ Some c.bucket
  locked_slot c s at =
      let (text, h, born, linked, home) = table.chains.on_linked c.row c.bucket s at.0.used at.1 in
      ap (phase_bucket p.now c.row) linked ∙ ap (λ b. Some b) (elim home [ inl exact ↦ exact | inr mixed ↦ absurd (at.0.unpinned (mixed_is_pinned f.stage p.now.level c.row c.bucket (hash_of p.now.seed text) mixed)) ])

  sweep_unlinks : (q : SweepAsked) (w : SweepAlong) (s : SweepStage) → KnowsSweep m p f i q w s → SweepUnlinks p.now w.cleaning s
  sweep_unlinks q w (Pass (Unlink s g next)) known = locked_slot w.cleaning s known.1.0
  sweep_unlinks q w (Pass (LoadCount s)) known = tt
  sweep_unlinks q w (Pass (LoadLink s dead)) known = tt
  sweep_unlinks q w (Answered a) known = tt
  sweep_unlinks q w Check known = tt
  sweep_unlinks q w (Find s) known = tt
  sweep_unlinks q w Lock known = tt
  sweep_unlinks q w (Close why) known = tt
  sweep_unlinks q w UnlockHead known = tt
  sweep_unlinks q w (Grace s) known = tt
  sweep_unlinks q w (Free s) known = tt

  pub machine_unlinks : (mach : Machine) → KnowsMachine m p f i load passed mach → MachineUnlinks p.now mach
  machine_unlinks (machine.Call c w g) known = tt
  machine_unlinks (machine.Begin b) known = tt
  machine_unlinks (machine.Poll q) known = tt
  machine_unlinks (machine.Sweep s) known = sweep_unlinks s.asked s.along s.stage known

-- A RUN

-- whatever it has locked, it has locked by its events
pub lock_law : (s : Sweeping) (words : List ℕ) → AreFitting sweeps s words → after_all locks_one (Some (its_bucket s)) (events_of_words sweeps s words) ≡ Some (its_bucket (after_words sweeps s words))
lock_law s words fits = follows sweeps locks_one its_bucket (λ s. Unit {0}) (λ s word so fits. tt) (λ s word so fits. follow_step s.asked s.along s.stage word fits.1) s words tt fits

-- and once it has locked a bucket that is the one
stays_one : (e : Option What) (lock : ℕ × ℕ) (o : Option (ℕ × ℕ)) → after_one locks_one (Some lock) e ≡ Some o → o ≡ Some lock
stays_one None lock o is = cc
stays_one (Some (what.Lock row bucket)) lock o is = absurd (cc)
stays_one (Some _) lock o is = cc

stays_locked : (s : Sweeping) (words : List ℕ) (lock : ℕ × ℕ) → AreFitting sweeps s words → its_bucket s ≡ Some lock → its_bucket (after_words sweeps s words) ≡ Some lock
stays_locked s [] lock fits is = is
stays_locked s (word ∷ words) lock fits is =
    stays_locked (sweep_got s word) words lock fits.1
    (stays_one (sweep_event s word) lock (its_bucket (sweep_got s word)) (ap (λ o. after_one locks_one o (sweep_event s word)) (sym is) ∙ follow_step s.asked s.along s.stage word fits.0.1))

-- UNLINKS

-- an event of two lists, one behind the other, stands in the first or in the second
cut : (xs ys front back : List Event) (e : Event) → xs ++ ys ≡ front ++ e ∷ back → ((mid : List Event) × (xs ≡ front ++ e ∷ mid)) ⊎ ((mid : List Event) × (front ≡ xs ++ mid) × (ys ≡ mid ++ e ∷ back))
cut [] ys front back e is = inr (front, refl, is)
cut (x ∷ xs) ys [] back e is = let same : x ≡ e = cc in inl (xs, ap (λ y. y ∷ xs) same)
cut (x ∷ xs) ys (f ∷ front) back e is =
    let same : x ≡ f = cc in
    let rest : xs ++ ys ≡ front ++ e ∷ back = cc in
    elim (cut xs ys front back e rest) [
      | inl (mid, so) ↦ inl (mid, ap (λ l. x ∷ l) so ∙ ap (λ y. y ∷ (front ++ e ∷ mid)) same)
      | inr (mid, so, later) ↦ inr (mid, ap (λ l. f ∷ l) so ∙ ap (λ y. y ∷ (xs ++ mid)) (sym same), later)
    ]

-- an event of the seat is not where there is none of it
own_here : (i : ℕ) (w : What) (front mid : List Event) → whats_by i (front ++ by i w ∷ mid) ≡ [] → ⊥
own_here i w front mid none =
    let whole : whats_by i front ++ whats_by i (by i w ∷ mid) ≡ [] = sym (whats_by-append i front (by i w ∷ mid)) ∙ none in
    let here : whats_by i (by i w ∷ mid) ≡ w ∷ whats_by i mid = ap (λ b. cond b (w ∷ whats_by i mid) (whats_by i mid)) (eq-eqb i i refl) in
    some_there (whats_by i front) (ap (λ l. whats_by i front ++ l) (sym here) ∙ whole)
  where
    some_there : (xs : List What) → xs ++ w ∷ whats_by i mid ≡ [] → ⊥
    some_there [] is = absurd (cc)
    some_there (x ∷ xs) is = absurd (cc)

-- the event of a step is one at most
own_event : (i : ℕ) (e : Option What) (w : What) (front mid : List Event) → events_of i e ≡ front ++ by i w ∷ mid → (front ≡ []) × (e ≡ Some w)
own_event i None w [] mid is = absurd (cc)
own_event i None w (x ∷ front) mid is = absurd (cc)
own_event i (Some v) w [] mid is = let same : by i v ≡ by i w = cc in (refl, ap (λ (x : Event). Some x.what) same)
own_event i (Some v) w (x ∷ front) mid is = absurd (none front (let rest : [] ≡ front ++ by i w ∷ mid = cc in rest))
  where
    none : (xs : List Event) → [] ≡ xs ++ by i w ∷ mid → ⊥
    none [] is = absurd (cc)
    none (y ∷ ys) is = absurd (cc)

same_lock : (lock other : ℕ × ℕ) → Some lock ≡ Some other → lock ≡ other
same_lock lock other is = cc

same_slot : (x slot : ℕ) → Some (what.Unlink x) ≡ Some (what.Unlink slot) → x ≡ slot
same_slot x slot is = cc

-- a step that unlinks a slot has it from the bucket that is locked
step_unlinks : (t : Table) (q : SweepAsked) (w : SweepAlong) (s : SweepStage) (word slot row bucket : ℕ) (log : List Event) → event_by [] (plan_at q w s) word ≡ Some (what.Unlink slot) → had_locked w.cleaning s ≡ Some (row, bucket) →
    SweepUnlinks (now_in t log) w.cleaning s → slot_bucket (now_in t log) row slot ≡ Some bucket
step_unlinks t q w (Pass (Unlink x g next)) word slot row bucket log is locked so =
    let lock_is = same_lock (w.cleaning.row, w.cleaning.bucket) (row, bucket) locked in
    let same = same_slot x slot is in
    ap (slot_bucket (now_in t log) row) (sym same) ∙ ap (λ r. slot_bucket (now_in t log) r x) (sym (ap (λ (l : ℕ × ℕ). l.0) lock_is)) ∙ so ∙ ap (λ (l : ℕ × ℕ). Some l.1) lock_is
step_unlinks t q w (Answered a) word slot row bucket log is locked so = absurd (cc)
step_unlinks t q w Check word slot row bucket log is locked so = absurd (cc)
step_unlinks t q w (Find (Enter LoadCounter)) word slot row bucket log is locked so = absurd (cc)
step_unlinks t q w (Find (Enter (OpenSection counter))) word slot row bucket log is locked so = absurd (cc)
step_unlinks t q w (Find LoadLevel) word slot row bucket log is locked so = absurd (cc)
step_unlinks t q w (Find LoadHead) word slot row bucket log is locked so = absurd (cc)
step_unlinks t q w (Find LoadNewLevel) word slot row bucket log is locked so = absurd (cc)
step_unlinks t q w (Find LoadNewHead) word slot row bucket log is locked so = absurd (cc)
step_unlinks t q w Lock word slot row bucket log is locked so = absurd (cc)
step_unlinks t q w (Close closing.Again) word slot row bucket log is locked so = absurd (cc)
step_unlinks t q w (Close closing.Clean) word slot row bucket log is locked so = absurd (cc)
step_unlinks t q w (Pass (LoadCount x)) word slot row bucket log is locked so = absurd (cc)
step_unlinks t q w (Pass (LoadLink x None)) word slot row bucket log is locked so = absurd (cc)
step_unlinks t q w (Pass (LoadLink x (Some g))) word slot row bucket log is locked so = absurd (cc)
step_unlinks t q w UnlockHead word slot row bucket log is locked so = absurd (cc)
step_unlinks t q w (Grace RaiseCounter) word slot row bucket log is locked so = absurd (cc)
step_unlinks t q w (Grace LoadSection) word slot row bucket log is locked so = absurd (cc)
step_unlinks t q w (Free (PutNextGeneration n)) word slot row bucket log is locked so = absurd (cc)
step_unlinks t q w (Free (FreeSlot n)) word slot row bucket log is locked so = absurd (cc)

-- before a step unlinks a slot its bucket is locked
unlinks_locked : (q : SweepAsked) (w : SweepAlong) (s : SweepStage) (word slot : ℕ) → event_by [] (plan_at q w s) word ≡ Some (what.Unlink slot) → had_locked w.cleaning s ≡ Some (w.cleaning.row, w.cleaning.bucket)
unlinks_locked q w (Pass s) word slot is = refl
unlinks_locked q w (Answered a) word slot is = absurd (cc)
unlinks_locked q w Check word slot is = absurd (cc)
unlinks_locked q w (Find (Enter LoadCounter)) word slot is = absurd (cc)
unlinks_locked q w (Find (Enter (OpenSection counter))) word slot is = absurd (cc)
unlinks_locked q w (Find LoadLevel) word slot is = absurd (cc)
unlinks_locked q w (Find LoadHead) word slot is = absurd (cc)
unlinks_locked q w (Find LoadNewLevel) word slot is = absurd (cc)
unlinks_locked q w (Find LoadNewHead) word slot is = absurd (cc)
unlinks_locked q w Lock word slot is = absurd (either_way (λ (e : Option What). e ≡ Some (what.Unlink slot) → ⊥) (word == w.walk.head) (Some (what.Lock w.walk.row w.walk.bucket)) None (λ same. absurd (cc)) (λ same. absurd (cc)) is)
unlinks_locked q w (Close closing.Again) word slot is = absurd (cc)
unlinks_locked q w (Close closing.Clean) word slot is = refl
unlinks_locked q w UnlockHead word slot is = refl
unlinks_locked q w (Grace s) word slot is = refl
unlinks_locked q w (Free s) word slot is = refl

pub unlinks_on : (t : Table) (i row bucket : ℕ) (s : Sweeping) (words : List ℕ) (seen window : List Event) → AreFitting sweeps s words → its_bucket (after_words sweeps s words) ≡ Some (row, bucket) →
    Finds t i (machine.Sweep s) words seen window → UnlinksOn t i row bucket seen window
unlinks_on t i row bucket s [] seen window fits locked none front back slot is = absurd (own_here i (what.Unlink slot) front back (ap (whats_by i) (sym is) ∙ none))
unlinks_on t i row bucket s (word ∷ words) seen window fits locked (between, rest, whole, none, says, finds) front back slot is =
    elim (cut between (mine ++ rest) front back e (sym whole ∙ is)) [
      | inl (mid, here) ↦ absurd (own_here i (what.Unlink slot) front mid (ap (whats_by i) (sym here) ∙ none))
      | inr (mid, front_is, later) ↦ elim (cut mine rest mid back e later) [
        | inl (end, here) ↦
            let one = own_event i (event_of (machine.Sweep s) word) (what.Unlink slot) mid end here in
            subst (λ l. slot_bucket (now_in t (seen ++ l)) row slot ≡ Some bucket) (sym (front_is ∙ ap (λ l. between ++ l) one.0 ∙ append-nil between)) (at_step (sym (event_is (machine.Sweep s) word) ∙ one.1))
        | inr (more, mid_is, rest_is) ↦
            subst (λ l. slot_bucket (now_in t l) row slot ≡ Some bucket)
            (append_assoc (seen ++ between) mine more ∙ append_assoc seen between (mine ++ more) ∙ ap (λ l. seen ++ l) (sym (front_is ∙ ap (λ l. between ++ l) mid_is)))
            (unlinks_on t i row bucket (sweep_got s word) words ((seen ++ between) ++ mine) rest fits.1 locked
            (subst (λ m. Finds t i m words ((seen ++ between) ++ mine) rest) (got_is (machine.Sweep s) word) finds) more back slot rest_is)
      ]
    ]
  where
    e : Event
    e = by i (what.Unlink slot)

    mine : List Event
    mine = events_of i (event_of (machine.Sweep s) word)

    at_step : sweep_event s word ≡ Some (what.Unlink slot) → slot_bucket (now_in t (seen ++ between)) row slot ≡ Some bucket
    at_step is =
        let now : its_bucket s ≡ Some (s.along.cleaning.row, s.along.cleaning.bucket) = unlinks_locked s.asked s.along s.stage word slot is in
        let end : its_bucket (after_words sweeps s (word ∷ words)) ≡ Some (s.along.cleaning.row, s.along.cleaning.bucket) = stays_locked s (word ∷ words) (s.along.cleaning.row, s.along.cleaning.bucket) fits now in
        step_unlinks t s.asked s.along s.stage word slot row bucket (seen ++ between) is (now ∙ sym end ∙ locked) says.3
