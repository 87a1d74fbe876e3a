-- The poll of a work runs as the work does, and polls follow one another.
use Rattle.std.proofs.Common.{◌≡◌, ℕ, List, [], ◌∷◌, ◌++◌, Option, Some, None, refl, sym, ap, subst, ◌∙◌}
use Rattle.std.specs.Option.{option_to_list}
use Rattle.std.proofs.lemmas.List.{append_assoc}
use Rattle.table_shape.specs.declared.shape.Shape.{Shape}
use Rattle.intern_log.specs.declared.event.Event.{Event}
use Rattle.intern_log.specs.declared.event.What.{What}
use Rattle.atomic_step.specs.declared.answer.Answer.{Answer}
use Rattle.atomic_step.specs.Run.{Machine as Told, AreFitting, after_words, events_of_words}
use Rattle.call_machine.specs.declared.machine.Machine.{Machine}
use Rattle.call_machine.specs.declared.machine.Machine.TheVariants as machine
use Rattle.call_machine.specs.declared.poll.Polling.{Polling}
use Rattle.call_machine.specs.declared.work.Work.{Work}
use Rattle.call_machine.specs.Machine.{got_of, event_of}
use Rattle.call_machine.specs.SoundMachine.{FitsMachine}
use Rattle.atomic_step.specs.SoundStep.{CanFollow}
use Rattle.atomic_step.specs.Turn.{plan_in}
use Rattle.call_machine.specs.declared.caller.Caller.{Caller}
use Rattle.call_machine.specs.Poll.{poll_turn, state_of, poll_got, works}
use Rattle.call_machine.specs.Polls.{polled_on}
use Rattle.call_machine.specs.WholeMachine.{machines}
use Rattle.call_machine.specs.Work.{resumes}
use Rattle.call_machine.proofs.Machines.{got_is, event_is, fits_part}
use Rattle.cht_core.specs.declared.table.Table.{Table}
use Rattle.cht_core.specs.Windows.{whats_by}
use Rattle.cht_core.specs.Invariant.{events_of as told_by}
use Rattle.cht_core.proofs.Windows.{whats_of, whats_by-append, whats_by_own}
use Rattle.cht_run.specs.Runs.{Finds}
use Rattle.cht_run.specs.Works.{Runs}
use Rattle.cht_run.proofs.FullPasses.{runs_with_few}
use Rattle.cht_run.proofs.PollAnswers.{AnswersSo, poll_on}

-- THE EVENTS OF A RUN

-- what a call found, and all that its seat did, are of its run
pub finds_own : (t : Table) (i : ℕ) (m : Machine) (words : List ℕ) (seen window : List Event) → Finds t i m words seen window → whats_by i window ≡ events_of_words machines m words
finds_own t i m [] seen window finds = finds
finds_own t i m (word ∷ words) seen window (between, rest, is, none, says, later) =
    let e = event_of m word in
    ap (whats_by i) is ∙ whats_by-append i between (told_by i e ++ rest) ∙ ap (λ l. l ++ whats_by i (told_by i e ++ rest)) none ∙ whats_by-append i (told_by i e) rest
    ∙ ap (λ l. l ++ whats_by i rest) (whats_by_own i e ∙ as_list e) ∙ ap (λ l. option_to_list e ++ l) (finds_own t i (got_of m word) words ((seen ++ between) ++ told_by i e) rest later)
  where
    as_list : (e : Option What) → whats_of e ≡ option_to_list e
    as_list None = refl
    as_list (Some x) = refl

-- ONE POLL

-- how a poll has gone
pub record PollRan (p q : Polling) (words : List ℕ) : Type 0 where
  pub leads : after_words machines (machine.Poll p) words ≡ machine.Poll q
  pub shape : q.caller ≡ p.caller
  pub answers : AnswersSo q.answer
  pub fitting : AreFitting (works p.caller.shape) (state_of p) words
  pub made : events_of_words (works p.caller.shape) (state_of p) words ≡ events_of_words machines (machine.Poll p) words
  pub comes : after_words (works p.caller.shape) (state_of p) words ≡ polled_on resumes (state_of q)

-- a poll that has not answered is not polled anew
unpolled : (w : Work) (a : Option Answer) → a ≡ None → polled_on resumes (w, a) ≡ (w, a)
unpolled w None is = refl
unpolled w (Some a) is = absurd (cc)

-- a poll that may be told one more word has not answered
still_going : (p : Polling) (word : ℕ) → FitsMachine (machine.Poll p) word → p.answer ≡ None
still_going p word fits = go p.caller p.work p.answer (fits_part (machine.Poll p) word fits)
  where
    go : (caller : Caller) (w : Work) (a : Option Answer) → CanFollow caller.shape (plan_in (poll_turn caller (w, a))) word → a ≡ None
    go caller w None fits = refl
    go caller w (Some a) fits = absurd fits

answers_on : (p : Polling) (word : ℕ) → p.answer ≡ None → AnswersSo (poll_got p word).answer
answers_on p word going = poll_on p.caller p.work p.answer word (subst AnswersSo (sym going) tt)

pub poll_ran : (p : Polling) (words : List ℕ) → p.answer ≡ None → AreFitting machines (machine.Poll p) words → (q : Polling) × PollRan p q words
poll_ran p [] going fitting = (p, record { leads = refl; shape = refl; answers = subst AnswersSo (sym going) tt; fitting = tt; made = refl; comes = sym (unpolled p.work p.answer going) })
poll_ran p (word ∷ []) going fitting = (
  poll_got p word,
  record {
    leads = got_is (machine.Poll p) word;
    shape = refl;
    answers = answers_on p word going;
    fitting = ((fitting.0.0, fits_part (machine.Poll p) word fitting.0.1), tt);
    made = ap (λ e. option_to_list e ++ []) (sym (event_is (machine.Poll p) word));
    comes = refl;
  },
)
poll_ran p (word ∷ next ∷ words) going fitting =
    let p' = poll_got p word in
    let got : got_of (machine.Poll p) word ≡ machine.Poll p' = got_is (machine.Poll p) word in
    let later : AreFitting machines (machine.Poll p') (next ∷ words) = subst (λ m. AreFitting machines m (next ∷ words)) got fitting.1 in
    let open_still = still_going p' next later.0.1 in
    let (q, ran) = poll_ran p' (next ∷ words) open_still later in
    let same : (works p.caller.shape).got (state_of p) word ≡ state_of p' = unpolled p'.work p'.answer open_still in (
      q,
      record {
        leads = ap (λ m. after_words machines m (next ∷ words)) got ∙ ran.leads;
        shape = ran.shape;
        answers = ran.answers;
        fitting = ((fitting.0.0, fits_part (machine.Poll p) word fitting.0.1), subst (λ at. AreFitting (works p.caller.shape) at (next ∷ words)) (sym same) ran.fitting);
        made = ap (λ e. option_to_list e ++ events_of_words (works p.caller.shape) ((works p.caller.shape).got (state_of p) word) (next ∷ words)) (sym (event_is (machine.Poll p) word))
            ∙ ap (λ l. option_to_list (event_of (machine.Poll p) word) ++ l) (ap (λ at. events_of_words (works p.caller.shape) at (next ∷ words)) same ∙ ran.made ∙ ap (λ m. events_of_words machines m (next ∷ words)) (sym got));
        comes = ap (λ at. after_words (works p.caller.shape) at (next ∷ words)) same ∙ ran.comes;
      },
    )

-- POLLS ONE AFTER ANOTHER

fitting_both : {S : Type 0} (m : Told S) (s : S) (xs ys : List ℕ) → AreFitting m s xs → AreFitting m (after_words m s xs) ys → AreFitting m s (xs ++ ys)
fitting_both m s [] ys first second = second
fitting_both m s (x ∷ xs) ys first second = (first.0, fitting_both m (m.got s x) xs ys first.1 second)

after_both : {S : Type 0} (m : Told S) (s : S) (xs ys : List ℕ) → after_words m s (xs ++ ys) ≡ after_words m (after_words m s xs) ys
after_both m s [] ys = refl
after_both m s (x ∷ xs) ys = after_both m (m.got s x) xs ys

events_both : {S : Type 0} (m : Told S) (s : S) (xs ys : List ℕ) → events_of_words m s (xs ++ ys) ≡ events_of_words m s xs ++ events_of_words m (after_words m s xs) ys
events_both m s [] ys = refl
events_both m s (x ∷ xs) ys = ap (λ l. option_to_list (m.event s x) ++ l) (events_both m (m.got s x) xs ys) ∙ sym (append_assoc (option_to_list (m.event s x)) (events_of_words m (m.got s x) xs) (events_of_words m (after_words m (m.got s x) xs) ys))

pub runs_none : (shape : Shape) (from : Work) → Runs shape from [] (resumes from)
runs_none shape from = record { words = []; fitting = tt; leads = refl; made = refl; few = runs_with_few shape from [] }

pub runs_both : (shape : Shape) (from mid : Work) (did more : List What) (to : Work × Option Answer) → Runs shape from did (resumes mid) → Runs shape mid more to → Runs shape from (did ++ more) to
runs_both shape from mid did more to first second =
    let m = works shape in
    record {
      words = first.words ++ second.words;
      fitting = fitting_both m (resumes from) first.words second.words first.fitting (subst (λ at. AreFitting m at second.words) (sym first.leads) second.fitting);
      leads = after_both m (resumes from) first.words second.words ∙ ap (λ at. after_words m at second.words) first.leads ∙ second.leads;
      made = events_both m (resumes from) first.words second.words ∙ ap (λ at. events_of_words m (resumes from) first.words ++ events_of_words m at second.words) first.leads ∙ (λ i. first.made i ++ second.made i);
      few = runs_with_few shape from (first.words ++ second.words);
    }
