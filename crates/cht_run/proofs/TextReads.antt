-- A text is read, word by word.
use Rattle.std.proofs.Common.{◌≡◌, ℕ, ◌+◌, ◌*◌, ◌<◌, ◌≤◌, true, false, List, [], ◌∷◌, ◌++◌, length, slice_set, get_or, inl, inr, None, refl, sym, ap, subst, ◌∙◌, arith}
use Rattle.std.proofs.lemmas.Bool.{cases_eq}
use Rattle.std.proofs.lemmas.List.{append-nil, append_assoc, get_or-set_same, get_or-set_other}
use Rattle.text_words.specs.Words.{words_of, word_at}
use Rattle.marked_word.specs.Meta.{length_in}
use Rattle.intern_log.specs.declared.event.Event.{Event}
use Rattle.intern_log.specs.declared.event.Handle.{Handle}
use Rattle.intern_log.specs.declared.event.What.TheVariants as what
use Rattle.intern_log.specs.Log.{creates}
use Rattle.intern_log.specs.Own.{is_among}
use Rattle.intern_log.specs.Sections.{IsCreatedAs}
use Rattle.table_shape.specs.declared.shape.Shape.{Shape}
use Rattle.atomic_step.specs.SoundStep.{CanFollow}
use Rattle.intern_log.proofs.Gone.{is_created}
use Rattle.intern_log.proofs.Handles.{handle_eq-Decides, created_text}
use Rattle.intern_log.proofs.Slots.{neither}
use Rattle.atomic_step.specs.declared.plan.Plan.TheVariants as plan
use Rattle.atomic_step.specs.declared.step.Step.{Step}
use Rattle.atomic_step.specs.declared.step.Step.TheVariants as step
use Rattle.call_machine.specs.declared.call.Call.{Call}
use Rattle.call_machine.specs.declared.machine.Machine.{Machine}
use Rattle.call_machine.specs.declared.read.ReadStage.TheVariants as read
use Rattle.call_machine.specs.declared.stage.Along.{Along}
use Rattle.call_machine.specs.declared.stage.CallStage.{CallStage}
use Rattle.call_machine.specs.declared.stage.CallStage.TheVariants as stage
use Rattle.call_machine.specs.declared.stage.Request.{Request}
use Rattle.call_machine.specs.Calls.{plan_at}
use Rattle.call_machine.specs.Machine.{event_of}
use Rattle.call_machine.specs.Sought.{asked_of}
use Rattle.cht_core.specs.declared.table.Table.{Table}
use Rattle.cht_core.specs.Past.{by}
use Rattle.cht_core.specs.Invariant.{events_of}
use Rattle.cht_core.specs.Windows.{IsTold}
use Rattle.cht_core.proofs.CauseCounts.{created_longer}
use Rattle.cht_core.proofs.Windows.{whats_of}
use Rattle.cht_run.specs.declared.sight.Origin.{Origin}
use Rattle.cht_run.specs.declared.sight.Sight.{Sight}
use Rattle.cht_run.specs.declared.table.Cht.{Cht}
use Rattle.cht_run.specs.Begins.{begun, GoesOn, GoesFirst}
use Rattle.cht_run.specs.Calls.{at_stage, At}
use Rattle.cht_run.specs.History.{log_of}
use Rattle.cht_run.specs.ReadKept.{StageReads}
use Rattle.cht_run.specs.Reads.{done_by, IsLonger, HasRead}
use Rattle.cht_run.specs.Seats.{Raw}
use Rattle.cht_run.specs.Starts.{Starts}
use Rattle.cht_run.specs.Told.{Told}
use Rattle.cht_run.proofs.ChangeEnds.{told_rest}
use Rattle.cht_run.proofs.Changes.{made}
use Rattle.cht_run.proofs.Firsts as firsts
use Rattle.cht_run.proofs.Goes.{plan_there, told_there}
use Rattle.cht_run.proofs.Histories.{log-append, log_more}

-- WHAT A STEP SAYS

module _ (o : Origin) (v w : Sight) (m : Machine) (s : Step) (word : ℕ) (told : Told o m s v word w) where
  log_is : log_of w.history ≡ log_of (v.history ++ told.between) ++ events_of v.number (event_of m word)
  log_is = ap (λ (x : Sight). log_of x.history) told.after ∙ log_more (v.history ++ told.between) o.table.shape v.number m s word

  -- the log of the seat goes on
  pub is_longer : IsLonger (log_of v.history) (log_of w.history)
  is_longer = (
    log_of told.between ++ events_of v.number (event_of m word),
    log_is ∙ ap (λ l. l ++ events_of v.number (event_of m word)) (log-append v.history told.between)
        ∙ append_assoc (log_of v.history) (log_of told.between) (events_of v.number (event_of m word)),
  )

  -- where it makes no event the log is the one of which its word says something
  pub same_log : event_of m word ≡ None → log_of (v.history ++ told.between) ≡ log_of w.history
  same_log none = sym (log_is ∙ ap (λ e. log_of (v.history ++ told.between) ++ events_of v.number e) none ∙ append-nil (log_of (v.history ++ told.between)))

  -- and its seat has done what the event is
  pub has_done : (n : ℕ) → v.number ≡ n → is_among v.numbers v.number ≡ true → done_by n w ≡ done_by n v ++ whats_of (event_of m word)
  has_done n number is = subst (λ k. done_by k w ≡ done_by k v ++ whats_of (event_of m word)) number (made o v v w m s word refl is told (sym (append-nil (done_by v.number v))))

-- A FURTHER STEP

module _ (cht : Cht) (b : Sight) (c : Call) (r : Request) (raw raw' : Raw) (w : Along) (s : CallStage) (stp : Step) (word : ℕ) (at : At cht b c r raw w s) (planned : plan_at (asked_of r) w s ≡ plan.Step stp) (on : GoesOn raw.me.0 word raw'.me.0) where
  abbrev m : Machine
  m = at_stage b (asked_of r) w s

  abbrev told : Told raw.me.0.origin m stp raw.me.0 word raw'.me.0
  told = told_there cht b c r raw raw' w s stp word at planned on

  pub further_done : done_by b.number raw'.me.0 ≡ done_by b.number raw.me.0 ++ whats_of (event_of m word)
  further_done = has_done raw.me.0.origin raw.me.0 raw'.me.0 m stp word told b.number at.stands.stays.number at.sits.seat

  pub further_longer : IsLonger (log_of raw.me.0.history) (log_of raw'.me.0.history)
  further_longer = is_longer raw.me.0.origin raw.me.0 raw'.me.0 m stp word told

  pub further_says : event_of m word ≡ None → StageReads (log_of raw'.me.0.history) r.handle s word
  further_says none = subst (λ log. StageReads log r.handle s word) (same_log raw.me.0.origin raw.me.0 raw'.me.0 m stp word told none) told.found.reads

  pub further_short : stp ≡ step.LoadMeta r.handle.slot → length_in word ≤ 8 * cht.origin.table.shape.text_words
  further_short is =
      let fits = subst (λ (x : Step). CanFollow r.shape (plan.Step x) word) is (subst (λ p. CanFollow r.shape p word) (plan_there b (asked_of r) w s ∙ planned) told.found.fits) in
      subst (λ (shape : Shape). length_in word ≤ 8 * shape.text_words) (at.stands.sound.shape ∙ ap (λ (o : Origin). o.table.shape) (sym at.stands.stays.origin ∙ at.sits.origin)) fits.0.1

-- THE FIRST STEP

module _ (cht : Cht) (b : Sight) (c : Call) (r : Request) (raw raw' : Raw) (w : Along) (s : CallStage) (stp : Step) (word : ℕ) (starts : Starts cht b c r raw w s stp) (first : GoesFirst c raw.me.0 word raw'.me.0) where
  abbrev m' : Machine
  m' = at_stage b (asked_of r) w s

  abbrev told_first : Told b.origin m' stp (begun b c) word raw'.me.0
  told_first = firsts.told_there cht b c r raw raw' w s stp word starts first

  pub first_done : done_by b.number raw'.me.0 ≡ done_by b.number b ++ whats_of (event_of m' word)
  first_done = has_done b.origin (begun b c) raw'.me.0 m' stp word told_first b.number refl starts.may.seat

  pub first_says : event_of m' word ≡ None → StageReads (log_of raw'.me.0.history) r.handle s word
  first_says none = subst (λ log. StageReads log r.handle s word) (same_log b.origin (begun b c) raw'.me.0 m' stp word told_first none) told_first.found.reads

  pub first_short : stp ≡ step.LoadMeta r.handle.slot → plan_at (asked_of r) w s ≡ plan.Step stp → (s' : CallStage) → At cht b c r raw' w s' → length_in word ≤ 8 * cht.origin.table.shape.text_words
  first_short is planned s' at =
      let fits = subst (λ (x : Step). CanFollow r.shape (plan.Step x) word) is (subst (λ p. CanFollow r.shape p word) (plan_there b (asked_of r) w s ∙ planned) told_first.found.fits) in
      subst (λ (shape : Shape). length_in word ≤ 8 * shape.text_words) (at.stands.sound.shape ∙ ap (λ (o : Origin). o.table.shape) (sym at.stands.stays.origin ∙ at.sits.origin)) fits.0.1

-- ONE TEXT

creates_it : (text : List ℕ) (h : Handle) → creates (what.Create text h) h ≡ true
creates_it text h = (handle_eq-Decides h h).1 refl

-- an event that creates a handle, after events that don't, is the first one of two
one_split : (h : Handle) (front other back rest : List Event) (x y : Event) → front ++ x ∷ back ≡ other ++ y ∷ rest → is_created h front ≡ false → is_created h other ≡ false → creates x.what h ≡ true → creates y.what h ≡ true → x ≡ y
one_split h [] [] back rest x y same none not_yet is also = cc
one_split h [] (e ∷ other) back rest x y same none not_yet is also =
    let first : x ≡ e = cc in
    let never : true ≡ false = sym is ∙ ap (λ (z : Event). creates z.what h) first ∙ (neither (creates e.what h) (is_created h other) not_yet).0 in
    absurd (cc)
one_split h (e ∷ front) [] back rest x y same none not_yet is also =
    let first : e ≡ y = cc in
    let never : false ≡ true = sym (neither (creates e.what h) (is_created h front) none).0 ∙ ap (λ (z : Event). creates z.what h) first ∙ also in
    absurd (cc)
one_split h (e ∷ front) (d ∷ other) back rest x y same none not_yet is also =
    let tails : front ++ x ∷ back ≡ other ++ y ∷ rest = cc in
    one_split h front other back rest x y tails (neither (creates e.what h) (is_created h front) none).1 (neither (creates d.what h) (is_created h other) not_yet).1 is also

-- before a Create of it a handle was not created
not_before : (t : Table) (log : List Event) (text : List ℕ) (h : Handle) → IsTold t log → (created : IsCreatedAs log text h) → is_created h created.0 ≡ false
not_before t log text h told (front, back, seat, split) =
    (told_rest t [] front (by seat (what.Create text h) ∷ back) (subst (IsTold t) split told)).0.1

-- a handle is created with one text
pub one_text : (t : Table) (log : List Event) (text other : List ℕ) (h : Handle) → IsTold t log → IsCreatedAs log text h → IsCreatedAs log other h → text ≡ other
one_text t log text other h told first second =
    let same : by first.2 (what.Create text h) ≡ by second.2 (what.Create other h) =
    one_split h first.0 second.0 first.1 second.1 (by first.2 (what.Create text h)) (by second.2 (what.Create other h)) (sym first.3 ∙ second.3) (not_before t log text h told first) (not_before t log other h told second)
    (creates_it text h) (creates_it other h) in
    created_text text other h h (ap (λ (e : Event). e.what) same)

-- WORD BY WORD

-- what was read is what was created in a longer log too
pub read_on : (log longer : List Event) (h : Handle) (long bound : ℕ) (old new : List ℕ) → IsLonger log longer → HasRead log h long bound old new → HasRead longer h long bound old new
read_on log longer h long bound old new more read = record {
  text = read.text;
  created = subst (λ l. IsCreatedAs l read.text h) (sym more.1) (created_longer log more.0 read.text h read.created);
  long_is = read.long_is;
  words = read.words;
  rest = read.rest;
}

-- one more word is stored
pub read_more : (t : Table) (log longer : List Event) (h : Handle) (long at word : ℕ) (old new : List ℕ) → IsTold t longer → IsLonger log longer → HasRead log h long at old new → StageReads longer h (stage.Read (read.Text at long)) word →
    at < words_of long → at < length new → HasRead longer h long (at + 1) old (slice_set new at word)
read_more t log longer h long at word old new told more read says inside within =
    let on = read_on log longer h long at old new more read in
    let same : says.0 ≡ on.text = one_text t longer says.0 on.text h told says.1 on.created in
    let is : word ≡ word_at on.text at = says.3 inside ∙ ap (λ text. word_at text at) same in
    record {
      text = on.text;
      created = on.created;
      long_is = on.long_is;
      words = λ k less. elim (cases_eq k at) [
        | inl here ↦ ap (λ j. get_or (slice_set new at word) j 0) here ∙ get_or-set_same new at word 0 within ∙ is ∙ ap (word_at on.text) (sym here)
        | inr differ ↦ get_or-set_other new at k word 0 differ ∙ on.words k (omega (arith, less, differ))
      ];
      rest = λ k past. get_or-set_other new at k word 0 (λ same. absurd (omega (arith, past, same))) ∙ on.rest k (omega (arith, past));
    }
