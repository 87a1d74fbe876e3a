-- A split draws a number, or finds none left.
use Rattle.std.proofs.Common.{◌≡◌, ◌≢◌, ℕ, ◌+◌, ◌<◌, ◌≤◌, true, false, cond, ◌||◌, nat_lt, nat_le, List, [], ◌∷◌, ◌++◌, map, length, Some, None, refl, sym, ap, subst, ◌∙◌, arith}
use Rattle.std.proofs.lemmas.Bool.{ne_eqb}
use Rattle.std.proofs.lemmas.Bool.Decides.{nat_tests}
use Rattle.std.proofs.lemmas.List.{append-nil, append_assoc, append_cancel_left, length-append}
use Rattle.std.proofs.lemmas.List.Elements.{All-nil, All-cons, filter-append}
use Rattle.table_shape.specs.declared.shape.Shape.{Shape}
use Rattle.intern_log.specs.Own.{is_among}
use Rattle.atomic_step.specs.declared.answer.Answer.TheVariants as answer
use Rattle.atomic_step.specs.declared.step.Step.TheVariants as step
use Rattle.call_machine.specs.declared.call.Call.{Call}
use Rattle.call_machine.specs.declared.draw.DrawStage.TheVariants as draw
use Rattle.call_machine.specs.declared.machine.Machine.{Machine}
use Rattle.call_machine.specs.declared.stage.Along.{Along}
use Rattle.call_machine.specs.declared.stage.CallStage.{CallStage}
use Rattle.call_machine.specs.declared.stage.CallStage.TheVariants as stage
use Rattle.call_machine.specs.declared.stage.Request.{Request}
use Rattle.call_machine.specs.Sought.{asked_of}
use Rattle.cht_core.specs.declared.seat.Seat.TheVariants as doing
use Rattle.cht_core.specs.Begins.{first_own}
use Rattle.cht_core.specs.State.{drawn_in}
use Rattle.cht_core.specs.Windows.{whats_by}
use Rattle.cht_core.proofs.Windows.{whats_by-append}
use Rattle.cht_run.specs.declared.sight.Entry.{Entry}
use Rattle.cht_run.specs.declared.sight.Entry.TheVariants as entry
use Rattle.cht_run.specs.declared.sight.Origin.{Origin}
use Rattle.cht_run.specs.declared.sight.Sight.{Sight}
use Rattle.cht_run.specs.declared.table.Cht.{Cht}
use Rattle.cht_run.specs.Begins.{begun, GoesOn, GoesFirst}
use Rattle.cht_run.specs.Calls.{at_stage, At}
use Rattle.cht_run.specs.Changes.{Made}
use Rattle.cht_run.specs.Draws.{AllDrawn, counted, DrawnAs}
use Rattle.cht_run.specs.History.{log_of, draws_of, by_of, HasSeen, NoneBy, IsOrderly, entries_by, told_by}
use Rattle.cht_run.specs.Seats.{Raw, Sits}
use Rattle.cht_run.specs.Starts.{Starts}
use Rattle.cht_run.specs.Told.{adds, drew, kids_after, given_after, Told}
use Rattle.cht_run.proofs.Changes.{made}
use Rattle.cht_run.proofs.Firsts as firsts
use Rattle.cht_run.proofs.Goes.{entries_none, got_there, goes, told_there}
use Rattle.cht_run.proofs.Histories.{log-append, draws-append, none_append, none_undrawn, orderly_first, orderly_part}

-- THE NUMBER OF DRAWN SEATS IS LOADED

module _ (cht : Cht) (b : Sight) (c : Call) (r : Request) (raw raw' : Raw) (w : Along) (word : ℕ) (starts : Starts cht b c r raw w (stage.Draw draw.Load) step.LoadDraws) (first : GoesFirst c raw.me.0 word raw'.me.0) where
  told_first : Told b.origin (at_stage b (asked_of r) w (stage.Draw draw.Load)) step.LoadDraws (begun b c) word raw'.me.0
  told_first = firsts.told_there cht b c r raw raw' w (stage.Draw draw.Load) step.LoadDraws word starts first

  pub load_made : Made b raw'.me.0 []
  load_made = made b.origin b (begun b c) raw'.me.0 (at_stage b (asked_of r) w (stage.Draw draw.Load)) step.LoadDraws word refl starts.may.seat told_first (sym (append-nil (whats_by b.number (log_of b.history))))

  pub load_spent : At cht b c r raw' w (counted r.shape.seats word) → r.shape.seats ≤ word → AllDrawn b.origin.table.shape.seats raw'.me.0.history
  load_spent at many =
      let same : r.shape ≡ b.origin.table.shape = shape_there (counted r.shape.seats word) at in
      subst (AllDrawn b.origin.table.shape.seats) (sym (ap (λ (x : Sight). x.history) told_first.after ∙ append-nil (b.history ++ told_first.between)))
      ((told_first.found.draws refl).0.none_left (subst (λ (shape : Shape). shape.seats ≤ word) same many))
    where
      shape_there : (s : CallStage) → At cht b c r raw' w s → r.shape ≡ b.origin.table.shape
      shape_there s at = at.stands.sound.shape

-- A NUMBER IS DRAWN

module _ (cht : Cht) (b : Sight) (c : Call) (r : Request) (raw raw' : Raw) (w : Along) (word : ℕ) (at : At cht b c r raw w (stage.Draw draw.Add)) (none : Made b raw.me.0 []) (sits : Sits cht raw') (on : GoesOn raw.me.0 word raw'.me.0) where
  abbrev v : Sight
  v = raw.me.0

  abbrev o : Origin
  o = v.origin

  abbrev m : Machine
  m = at_stage b (asked_of r) w (stage.Draw draw.Add)

  told : Told o m step.Draw v word raw'.me.0
  told = told_there cht b c r raw raw' w (stage.Draw draw.Add) step.Draw word at refl on

  shape_is : r.shape ≡ b.origin.table.shape
  shape_is = at.stands.sound.shape

  -- NONE IS LEFT

  pub none_left : r.shape.seats ≤ word → DrawnAs cht b c r raw' w None
  none_left many =
      let past : b.origin.table.shape.seats ≤ word = subst (λ (shape : Shape). shape.seats ≤ word) shape_is many in
      let not : nat_lt word b.origin.table.shape.seats ≡ false = grind (arith, nat_tests, past) in
      let nothing : drawn_in b.origin.table.shape step.Draw word ≡ None = ap (λ x. cond x (Some word) None) not in
      let test : nat_le r.shape.seats word ≡ true = grind (arith, nat_tests, many) in
      let none_here : drawn_in o.table.shape step.Draw word ≡ None = subst (λ (x : Origin). drawn_in x.table.shape step.Draw word ≡ None) (sym at.stands.stays.origin) nothing in
      let stays : raw'.me.0.history ≡ v.history ++ told.between = ap (λ (x : Sight). x.history) told.after ∙ ap (λ n. (v.history ++ told.between) ++ drew v.number n) none_here ∙ append-nil (v.history ++ told.between) in (
        goes cht b c r raw raw' w w (stage.Draw draw.Add) (stage.Answered answer.SeatsSpent) step.Draw word at refl nothing sits on (ap (λ x. (w, stage.Answered (cond x answer.SeatsSpent (answer.Split word)))) test),
        made o b v raw'.me.0 m step.Draw word at.stands.stays.number at.sits.seat told none,
        subst (AllDrawn b.origin.table.shape.seats) (sym stays) (subst (λ (x : Origin). AllDrawn x.table.shape.seats (v.history ++ told.between)) at.stands.stays.origin
            ((told.found.draws refl).0.none_left (subst (λ (x : Origin). x.table.shape.seats ≤ word) (sym at.stands.stays.origin) past))),
      )

  -- ONE IS

  module _ (some : word < r.shape.seats) where
    inside : word < b.origin.table.shape.seats
    inside = subst (λ (shape : Shape). word < shape.seats) shape_is some

    inside_here : word < o.table.shape.seats
    inside_here = subst (λ (x : Origin). word < x.table.shape.seats) (sym at.stands.stays.origin) inside

    drawn : drawn_in o.table.shape step.Draw word ≡ Some word
    drawn = let test : nat_lt word o.table.shape.seats ≡ true = grind (arith, nat_tests, inside_here) in ap (λ x. cond x (Some word) None) test

    abbrev draws : List Entry
    draws = entry.Drew b.number word ∷ []

    adds_is : adds o.table.shape v.number m step.Draw word ≡ draws
    adds_is = ap (λ n. drew v.number n) drawn ∙ ap (λ i. entry.Drew i word ∷ []) at.stands.stays.number

    history_is : raw'.me.0.history ≡ (v.history ++ told.between) ++ draws
    history_is = ap (λ (x : Sight). x.history) told.after ∙ ap (λ l. (v.history ++ told.between) ++ l) adds_is

    own_seat : is_among b.numbers b.number ≡ true
    own_seat = subst (λ ns. is_among ns b.number ≡ true) at.stands.stays.numbers (subst (λ n. is_among v.numbers n ≡ true) at.stands.stays.number at.sits.seat)

    none_between : NoneBy b.numbers told.between
    none_between = subst (λ ns. NoneBy ns told.between) at.stands.stays.numbers told.none

    -- nothing of the seat's numbers came before
    nothing_own : whats_by b.number (log_of at.stands.window) ≡ []
    nothing_own = append_cancel_left (whats_by b.number (log_of b.history)) (whats_by b.number (log_of at.stands.window)) []
        (sym (ap (λ h. whats_by b.number (log_of h)) at.stands.history ∙ ap (whats_by b.number) (log-append b.history at.stands.window) ∙ whats_by-append b.number (log_of b.history) (log_of at.stands.window)) ∙ none)

    entries_draws : entries_by b.numbers draws ≡ draws
    entries_draws = ap (λ x. cond x draws []) own_seat

    own_is : entries_by b.numbers (at.stands.window ++ (told.between ++ draws)) ≡ draws
    own_is = filter-append (λ (e : Entry). is_among b.numbers (by_of e)) at.stands.window (told.between ++ draws)
        ∙ ap (λ l. l ++ entries_by b.numbers (told.between ++ draws)) (at.stands.own ∙ ap (map (told_by b.number)) nothing_own)
        ∙ filter-append (λ (e : Entry). is_among b.numbers (by_of e)) told.between draws ∙ ap (λ l. l ++ entries_by b.numbers draws) (entries_none b.numbers told.between none_between) ∙ entries_draws

    alone_is : b.kids ≡ [] → is_among b.numbers 0 ≡ true → entries_by b.numbers (at.stands.window ++ (told.between ++ draws)) ≡ at.stands.window ++ (told.between ++ draws)
    alone_is none_out root =
        let nothing : told.between ≡ [] = told.alone (at.stands.stays.kids ∙ none_out) (ap (λ ns. is_among ns 0) at.stands.stays.numbers ∙ root) in
        let empty : at.stands.window ≡ [] = sym (at.stands.alone none_out root) ∙ at.stands.own ∙ ap (map (told_by b.number)) nothing_own in
        own_is ∙ sym (ap (λ l. l ++ (told.between ++ draws)) empty ∙ ap (λ l. l ++ draws) nothing)

    -- the number is the one after all that were drawn
    counts : word ≡ length (draws_of (v.history ++ told.between)) + 1
    counts = (told.found.draws refl).0.some_left inside_here

    last_is : word ≡ length (draws_of raw'.me.0.history)
    last_is = let long = length-append (draws_of (v.history ++ told.between)) (word ∷ []) in let one = counts in
        subst (λ l. word ≡ length l) (sym (ap draws_of history_is ∙ draws-append (v.history ++ told.between) draws)) (omega (arith, long, one))

    orderly_is : IsOrderly ((v.history ++ told.between) ++ draws)
    orderly_is = subst IsOrderly history_is told.sees.orderly

    unused_before : NoneBy (word ∷ []) (v.history ++ told.between)
    unused_before = none_undrawn word (v.history ++ told.between) (orderly_first (0 ∷ []) (v.history ++ told.between) draws orderly_is) (λ was. let less = (told.found.draws refl).1 word was in omega (arith, less))

    not_own : b.number ≢ word
    not_own same = let less = (told.found.draws refl).1 b.number (orderly_part (0 ∷ []) (v.history ++ told.between) draws orderly_is).0 in omega (arith, less, same)

    unused_is : NoneBy (word ∷ []) raw'.me.0.history
    unused_is = subst (NoneBy (word ∷ [])) (sym history_is) (none_append (word ∷ []) (v.history ++ told.between) draws unused_before
        (All-cons (λ (e : Entry). is_among (word ∷ []) (by_of e) ≡ false) (entry.Drew b.number word) [] (ap (λ x. x || false) (ne_eqb b.number word not_own)) (All-nil (λ (e : Entry). is_among (word ∷ []) (by_of e) ≡ false))))

    pub one_drawn : DrawnAs cht b c r raw' w (Some word)
    one_drawn = record {
      sits = sits;
      number = ap (λ (x : Sight). x.number) told.after ∙ at.stands.stays.number;
      numbers = ap (λ (x : Sight). x.numbers) told.after ∙ at.stands.stays.numbers;
      kids = ap (λ (x : Sight). x.kids) told.after ∙ ap (λ n. kids_after n v.kids) drawn ∙ ap (λ l. word ∷ l) at.stands.stays.kids;
      given = ap (λ (x : Sight). x.given) told.after ∙ ap (λ n. given_after o.table.shape n v.given) drawn ∙ ap (λ (x : Origin). Some (first_own x.table.shape word)) at.stands.stays.origin;
      is =
          let test : nat_le r.shape.seats word ≡ false = grind (arith, nat_tests, some) in
          ap (λ (x : Sight). x.seat) told.after ∙ ap doing.Running (got_there b (asked_of r) w (stage.Draw draw.Add) word ∙ ap (λ x. at_stage b (asked_of r) w (stage.Answered (cond x answer.SeatsSpent (answer.Split word)))) test);
      window = at.stands.window ++ (told.between ++ draws);
      whole = history_is ∙ append_assoc v.history told.between draws ∙ ap (λ h. h ++ (told.between ++ draws)) at.stands.history ∙ append_assoc b.history at.stands.window (told.between ++ draws);
      own = own_is;
      alone = alone_is;
      sees = subst (λ (x : Origin). HasSeen x.table raw'.me.0.history) at.stands.stays.origin told.sees;
      inside = inside;
      last = last_is;
      unused = unused_is;
    }
