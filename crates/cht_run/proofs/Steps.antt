-- A step of any kind keeps the rule, and tells its seat what it found.
use Rattle.std.proofs.Common.{◌≡◌, ◌≢◌, ◌⊎◌, ⊎_elim, ℕ, ◌+◌, ◌%◌, ◌^◌, ◌<◌, ◌≤◌, Bool, true, false, cond, ◌||◌, nat_eq, nat_lt, List, [], ◌∷◌, ◌++◌, length, set, Option, Some, None, inl, inr, refl, sym, ap, subst, ◌∙◌, arith}
use Rattle.std.proofs.lemmas.Bool.{cases_eq, ltb-true, ltb-false, eqb-true, ne_eqb}
use Rattle.std.proofs.lemmas.List.{append-nil, append_assoc, length-set, length-append}
use Rattle.std.proofs.lemmas.List.Elements.{All-nil}
use Rattle.std.specs.Option.{option_map, option_to_list}
use mathlib.Core.Option.{some, some-injective}
use lib.ListN.{get_elem?}
use Rattle.atomic_table.specs.Table.{State}
use Rattle.atomic_table.proofs.Lists.{at_set}
use Rattle.table_shape.specs.declared.place.Place.TheVariants as place
use Rattle.table_shape.specs.declared.shape.Shape.{Shape}
use Rattle.table_shape.specs.Place.{index_of}
use Rattle.intern_log.specs.declared.event.Event.{Event}
use Rattle.intern_log.specs.declared.event.What.{What}
use Rattle.intern_log.specs.Now.{Resizing, with_at, now_of, owner_of}
use Rattle.intern_log.specs.Own.{is_among}
use Rattle.atomic_step.specs.declared.access.Deed.{Deed}
use Rattle.atomic_step.specs.declared.access.Deed.TheVariants as deed
use Rattle.atomic_step.specs.declared.step.Edge.TheVariants as edge
use Rattle.atomic_step.specs.declared.step.Step.{Step}
use Rattle.atomic_step.specs.declared.step.Step.TheVariants as step
use Rattle.atomic_step.specs.Access.{word_after}
use Rattle.atomic_step.specs.Event as steps
use Rattle.atomic_step.specs.SoundStep.{IsSoundStep}
use Rattle.atomic_step.specs.Step.{access_of}
use Rattle.atomic_step.specs.Table.{IsWordAt, word_at, words_after}
use Rattle.call_machine.specs.declared.caller.Caller.{Caller}
use Rattle.call_machine.specs.declared.machine.Machine.{Machine}
use Rattle.call_machine.specs.declared.machine.Machine.TheVariants as machine
use Rattle.call_machine.specs.declared.machine.Own.{Own}
use Rattle.call_machine.specs.Machine.{plan_of, got_of, event_of, shape_of, text_of, passed_of, IsSameMachine}
use Rattle.call_machine.specs.SoundMachine.{FitsMachine}
use Rattle.call_machine.specs.WholeMachine.{has_lock}
use Rattle.call_machine.proofs.Machines.{step_law, same_law}
use Rattle.cht_core.specs.declared.seat.Seat.{Seat}
use Rattle.cht_core.specs.declared.seat.Seat.TheVariants as doing
use Rattle.cht_core.specs.declared.table.Table.{Table}
use Rattle.cht_core.specs.Backs.{Backs, Goes}
use Rattle.cht_core.specs.Begins.{first_own, new_view}
use Rattle.cht_core.specs.Caused.{Hears}
use Rattle.cht_core.specs.Causes.{now_in}
use Rattle.cht_core.specs.HeadKept.{Headed}
use Rattle.cht_core.specs.Invariant.{Inv, Moves, events_of}
use Rattle.cht_core.specs.Memory.{Memory, IsMade, found, memory_of}
use Rattle.cht_core.specs.Owes.{Owes, IsAllOf}
use Rattle.cht_core.specs.Parts.{call_of}
use Rattle.cht_core.specs.Past.{Past, past_of, MayTell, kind_of}
use Rattle.cht_core.specs.State.{drawn_in, HasResting}
use Rattle.cht_core.specs.View.{View, IsOfSeat, Knows, KnowsMachine, view_after, seed_in}
use Rattle.cht_core.specs.Windows.{IsTold}
use Rattle.cht_core.proofs.Basics.{with_here, with_other}
use Rattle.cht_core.proofs.CauseHeaded.{headed_waits}
use Rattle.cht_core.proofs.CauseKnown.{hears}
use Rattle.cht_core.proofs.CauseLogs.{told_more}
use Rattle.cht_core.proofs.CauseWorkHeads.{headed_steps}
use Rattle.cht_core.proofs.KindKeeps.{event_is}
use Rattle.cht_core.proofs.PartsHold.{passed_hold}
use Rattle.cht_core.proofs.Says.{word_says}
use Rattle.cht_core.proofs.SeatJoins.{may_be_added}
use Rattle.cht_core.proofs.SeatMoves.{owed_by}
use Rattle.cht_core.proofs.TableSteps.{table_keeps}
use Rattle.cht_core.proofs.StateLaw.{any_step_keeps, any_word_fits, any_step_backs}
use Rattle.cht_core.proofs.StateRests.{rests_on}
use Rattle.cht_core.proofs.StateWords.{memory_at, words_made}
use Rattle.cht_run.specs.declared.sight.Origin.{Origin}
use Rattle.cht_run.specs.declared.sight.Entry.{Entry}
use Rattle.cht_run.specs.declared.sight.Sight.{Sight}
use Rattle.cht_run.specs.History.{log_of, draws_of, is_drawn, NoneBy, IsOrderly, IsNumbered, AreOut, Follows}
use Rattle.cht_run.specs.ReadKept.{MachineKept, MachineReads}
use Rattle.cht_run.specs.Covers.{MachineCovers, MachineEnds}
use Rattle.cht_run.specs.Rule.{IsNew, view_of, is_seat, Owns, HeadedIn, ReadsIn, SeatCovers, CoversIn, IsPart, Fits, CountsDraws, IsSnapshot, Kept}
use Rattle.cht_run.specs.Told.{adds, kids_after, given_after, sight_after, Found, Told, IsAbout}
use Rattle.intern_log.proofs.OneMore.{place_is}
use Rattle.cht_run.proofs.Covering.{machine_covers, machine_ends}
use Rattle.cht_run.proofs.FoundOut.{work_found}
use Rattle.cht_run.proofs.Handles.{has_handles}
use Rattle.cht_run.proofs.ReadKept.{reads_waits, reads_steps, reads_say}
use Rattle.cht_run.proofs.SweepUnlinks.{machine_unlinks}
use Rattle.cht_run.proofs.Histories.{among_append, among_either, log_more, draws_more, drawn_still, among_here, among_right, none_adds, none_append, none_undrawn, orderly_more, numbered_more, out_since, out_adds, nothing_since, has_all}

abbrev pub Seats : Type 0
Seats = State (Unit {0}) Sight

-- WHAT STEPS DRAW

-- a step that is no draw draws no number, and at most loads how many are drawn
abbrev DrawsNot : Step → Type 0
DrawsNot s = ((shape : Shape) (word : ℕ) → drawn_in shape s word ≡ None) × ((access_of s).place ≡ place.Draws → (access_of s).deed ≡ deed.Load)

draws_or_not : (s : Step) → (s ≡ step.Draw) ⊎ DrawsNot s
draws_or_not step.Draw = inl refl
draws_or_not step.LoadDraws = inr (λ shape word. refl, λ is. refl)
draws_or_not (step.Unlink slot (edge.Head row bucket) next) = inr (λ shape word. refl, λ is. absurd (cc))
draws_or_not (step.Unlink slot (edge.Link from) next) = inr (λ shape word. refl, λ is. absurd (cc))
draws_or_not (step.MoveEdge (edge.Head row bucket) next) = inr (λ shape word. refl, λ is. absurd (cc))
draws_or_not (step.MoveEdge (edge.Link from) next) = inr (λ shape word. refl, λ is. absurd (cc))
draws_or_not _ = inr (λ shape word. refl, λ is. absurd (cc))

-- a machine after a step has the seed that it had
same_seed : (a b : Machine) → IsSameMachine a b → seed_in b ≡ seed_in a
same_seed (machine.Call c w g) (machine.Call d v e) same = ap (λ q. q.seed) same.0
same_seed (machine.Begin b) (machine.Begin d) same = ap (λ (c : Caller). c.seed) same
same_seed (machine.Poll p) (machine.Poll d) same = ap (λ (c : Caller). c.seed) same.0
same_seed (machine.Sweep s) (machine.Sweep d) same = ap (λ q. q.caller.seed) same
same_seed _ _ same = absurd same

-- A SEAT

-- a view that is a seat has its part of the table
pub part_of : (o : Origin) (m : Memory) (seat : ℕ → Option View) (history : List Entry) (v : Sight) → Fits o m seat history v → is_seat v ≡ true → IsPart o m seat history v
part_of o m seat history v fits is = elim fits.part [
  | inl part ↦ part.1
  | inr none ↦ let never : false ≡ true = sym (ap (λ l. is_among l v.number) none) ∙ is in absurd (cc)
]

-- no other view has a number of a seat
pub not_mine : (o : Origin) (s : Seats) (k : Kept o s) (id j : ℕ) (v u : Sight) → get_elem? s.views id ≡ some v → get_elem? s.views j ≡ some u → j ≢ id → is_seat v ≡ true →
    is_among u.numbers v.number ≡ false
not_mine o s k id j v u at at' differ is = elim (k.fits j u at').part [
  | inr none ↦ ap (λ l. is_among l v.number) none
  | inl other ↦ go (is_among u.numbers v.number) refl other.0 other.1.at
]
  where
    mine : k.seat v.number ≡ Some (view_of v)
    mine = (part_of o (memory_of o.table.shape s.words) k.seat k.history v (k.fits id v at) is).at

    go : (b : Bool) → is_among u.numbers v.number ≡ b → is_seat u ≡ true → k.seat u.number ≡ Some (view_of u) → b ≡ false
    go false has other at_u = refl
    go true has other at_u =
        let same : u.number ≡ v.number = k.inv.numbers.apart u.number v.number v.number (view_of u) (view_of v) at_u mine has is in
        absurd (differ (k.apart j id v.number u v at' at (inl (other, sym same)) (inl (is, refl))))

-- a seat to which all others have come back has each number that is drawn
pub alone_has : (o : Origin) (s : Seats) (k : Kept o s) (id : ℕ) (v : Sight) → get_elem? s.views id ≡ some v → v.kids ≡ [] → is_among v.numbers 0 ≡ true → (n : ℕ) → is_drawn k.history n ≡ true →
    is_among v.numbers n ≡ true
alone_has o s k id v at none_out root n drawn = let f = k.fits id v at in
    has_all v.numbers k.history n k.orderly
    (subst (AreOut v.numbers []) (sym f.seen.whole) (out_since v.numbers [] v.history f.seen.later (subst (λ kids. AreOut v.numbers kids v.history) none_out f.out) f.seen.none)) root drawn

-- THE STEP

module _ (o : Origin) (s : Seats) (k : Kept o s) (id : ℕ) (v : Sight) (at : get_elem? s.views id ≡ some v) (mach : Machine) (stp : Step) (about : IsAbout v mach stp) where
  abbrev t : Table
  t = o.table

  abbrev m : Memory
  m = memory_of t.shape s.words

  abbrev m' : Memory
  m' = memory_of t.shape (words_after t.shape stp s.words)

  abbrev pub word : ℕ
  word = word_at t.shape (access_of stp).place s.words

  abbrev i : ℕ
  i = v.number

  abbrev log : List Event
  log = log_of k.history

  abbrev p : Past
  p = past_of t.shape.min_level log

  abbrev fit : Fits o m k.seat k.history v
  fit = k.fits id v at

  part : IsPart o m k.seat k.history v
  part = part_of o m k.seat k.history v fit about.seat

  known : IsOfSeat t p.now i mach × KnowsMachine m p k.inv.flow i v.load v.passed mach
  known = subst (λ (x : Seat). Knows t m p k.inv.flow i (record (view_of v) { seat = x })) about.running (k.inv.knows i (view_of v) part.at)

  pub step_sound : IsSoundStep t.shape i stp
  step_sound = subst (λ (shape : Shape). IsSoundStep shape i stp) known.0.shape (subst (λ n. IsSoundStep (shape_of mach) n stp) known.0.number (step_law mach stp known.0.sound about.plan))

  made : IsMade stp m m'
  made = words_made t.shape stp s.words k.sized step_sound.0

  found_is : found stp m ≡ word
  found_is = memory_at t.shape s.words (access_of stp).place step_sound.0

  abbrev pub after : Sight
  after = sight_after o v k.history mach stp word

  abbrev own : View
  own = view_of after

  -- the seats after it: the seat itself, and the one that it has drawn
  abbrev moved : ℕ → Option View
  moved = with_at k.seat i (Some own)

  moves : Moves k.seat moved i (view_after p.now (view_of v) mach stp (found stp m))
  moves = subst (λ w. Moves k.seat moved i (view_after p.now (view_of v) mach stp w)) (sym found_is) (record {
    own = with_here k.seat i (Some own) i refl;
    other = λ j differ. with_other k.seat i (Some own) j differ;
  })

  kept : MayTell (kind_of t) p i (event_of mach word) × Inv t m' moved (log ++ events_of i (event_of mach word))
  kept = subst (λ w. MayTell (kind_of t) p i (event_of mach w) × Inv t m' moved (log ++ events_of i (event_of mach w))) found_is
      (any_step_keeps t m m' k.seat moved log i (view_of v) mach stp k.inv part.at about.running about.plan made moves)

  fits_word : FitsMachine mach word
  fits_word = subst (FitsMachine mach) found_is (any_word_fits t m m' k.seat log i (view_of v) mach stp k.inv part.at about.running about.plan made)

  backs : Backs t m p k.inv.flow i (text_of mach) stp
  backs = any_step_backs t m m' k.seat log i (view_of v) mach stp k.inv part.at about.running about.plan made

  abbrev history' : List Entry
  history' = k.history ++ adds t.shape i mach stp word

  log_is : log_of history' ≡ log ++ events_of i (event_of mach word)
  log_is = log_more k.history t.shape i mach stp word

  inv_moved : Inv t m' moved (log_of history')
  inv_moved = subst (Inv t m' moved) (sym log_is) kept.1

  owes : Owes p i (doing.Running mach)
  owes = subst (Owes p i) about.running (owed_by t m k.seat log i (view_of v) k.inv part.at)

  headed : Headed t m i v.load log mach
  headed = subst (HeadedIn o m i v.load log) about.running part.headed

  seated : i < t.shape.seats
  seated = (k.inv.numbers.seats i (view_of v) part.at).0

  reading : MachineKept m p.now.seed log mach
  reading = subst (λ seed. MachineKept m seed log mach) (sym k.seed) (subst (ReadsIn o m log) about.running part.reads)

  -- WHERE NOBODY ELSE IS THERE

  event_found : steps.event_of (text_of mach) stp (found stp m) ≡ event_of mach word
  event_found = ap (steps.event_of (text_of mach) stp) found_is ∙ sym (event_is mach stp word about.plan)

  module _ (none_out : v.kids ≡ []) (root : is_among v.numbers 0 ≡ true) where
    only : (n : ℕ) (u : View) → k.seat n ≡ Some u → n ≡ i
    only n u is_u =
        let own : is_among u.numbers n ≡ true = (k.inv.numbers.seats n u is_u).1 in
        k.inv.numbers.apart n i n u (view_of v) is_u part.at own (alone_has o s k id v at none_out root n (k.drawn n n u is_u own))

    -- nobody has the resize lock, but for the seat itself
    unowned : has_lock mach ≡ false → p.now.resizing ≡ None
    unowned without_lock = go p.now.resizing refl
      where
        owned_by : (r : Resizing) → p.now.resizing ≡ Some r → (x : Option View) → k.seat r.seat ≡ x → ⊥
        owned_by r is None at_r = (subst (λ (x : Option View). IsAllOf p r.seat (option_map (λ (y : View). y.seat) x)) at_r (k.inv.owes r.seat)).owner (ap owner_of is)
        owned_by r is (Some u) at_r =
            let mine : has_lock mach ≡ true = owes.owner (ap owner_of is ∙ ap Some (only r.seat u at_r)) in
            let clash : true ≡ false = sym mine ∙ without_lock in
            cc

        go : (x : Option Resizing) → p.now.resizing ≡ x → x ≡ None
        go None is = refl
        go (Some r) is = absurd (owned_by r is (k.seat r.seat) refl)

    covers : MachineCovers m p.now v.passed mach
    covers = subst (SeatCovers m p.now v.passed) about.running (part.covers none_out root)

    chain_ends : MachineEnds t.shape.slots p.now mach word
    chain_ends = subst (MachineEnds t.shape.slots p.now mach) found_is (machine_ends t m p k.inv.flow i v.load v.passed k.inv.table mach stp about.plan known.0.seed unowned known.1 covers)

    covers_after : MachineCovers m' (now_in t (log_of history')) after.passed (got_of mach word)
    covers_after = subst (λ w. MachineCovers m' (now_in t (log_of history')) after.passed (got_of mach w)) found_is
        (machine_covers t m p k.inv.flow i v.load v.passed k.inv.table m' (now_in t (log_of history')) mach stp about.plan made
        (λ none. ap (now_in t) (log_is ∙ ap (λ e. log ++ events_of i e) (sym event_found ∙ none) ∙ append-nil log)) known.0.seed unowned known.1 covers)

  -- WHAT IT TELLS

  -- the words of the draws
  draws_found : (access_of stp).place ≡ place.Draws → word ≡ m place.Draws
  draws_found is = sym found_is ∙ ap m is

  pub is_found : Found o v k.history mach stp word
  is_found = record {
    fits = fits_word;
    small = subst (λ n. n < 2 ^ 64) found_is (k.inv.table.words.small (access_of stp).place);
    stands = subst (λ n. IsWordAt t.shape (access_of stp).place n) found_is (k.inv.table.words.sound (access_of stp).place);
    told = k.told;
    tidy = k.inv.table.tidy;
    flow = k.inv.flow;
    says = subst (λ w. Rattle.cht_core.specs.WordSays.WordSays t p k.inv.flow stp w) found_is (word_says t m p k.inv.flow k.inv.table stp);
    hears = subst (λ w. Hears t p k.inv.flow i v.load log mach w) found_is (hears t m k.inv.flow i v.load log v.passed mach stp k.inv.table known.0 known.1 owes headed about.plan);
    reads = subst (MachineReads log mach) found_is (reads_say t m k.inv.flow i v.load v.passed log seated k.inv.table mach stp about.plan known.0.kind known.1 reading);
    unlinks = machine_unlinks t m p k.inv.flow i v.load v.passed k.inv.table mach known.1;
    draws = λ is. (subst (λ w. CountsDraws t.shape.seats w (length (draws_of k.history))) (sym (draws_found is)) k.counted, λ number drawn. let less = k.below number drawn in let same = draws_found is in omega (arith, less, same));
  }

  of_after : IsOfSeat t (now_in t (log_of history')) i (got_of mach word)
  of_after = (inv_moved.knows i own (with_here k.seat i (Some own) i refl)).0

  told_after : IsTold t (log_of history')
  told_after = subst (IsTold t) (sym log_is) (told_more t log i (event_of mach word) k.told kept.0)

  few : passed_of (got_of mach word) ≤ t.shape.slots
  few = go (got_of mach word) refl
    where
      go : (x : Machine) → got_of mach word ≡ x → passed_of x ≤ t.shape.slots
      go (machine.Call c w g) is = passed_hold t m' moved (log_of history') inv_moved i own c (with_here k.seat i (Some own) i refl) (ap (λ (y : Machine). call_of (doing.Running y)) is)
      go (machine.Begin b) is = omega arith
      go (machine.Poll q) is = omega arith
      go (machine.Sweep x) is = omega arith

  -- THE SEATS AFTER IT

  -- a number that is drawn has no seat yet
  none_yet : (n : ℕ) → m place.Draws ≤ n → k.seat n ≡ None
  none_yet n past = go (k.seat n) refl
    where
      go : (x : Option View) → k.seat n ≡ x → x ≡ None
      go None is = refl
      go (Some u) is =
          let drawn = k.drawn n n u is (k.inv.numbers.seats n u is).1 in
          let less = k.below n drawn in
          absurd (omega (arith, less, past))

  -- what has come of the seats: the seat has moved, a number that was drawn has a new seat, and no other has changed
  record AreSeats (drawn : Option ℕ) (seat : ℕ → Option View) : Type 0 where
    inv : Inv t m' seat (log_of history')
    own : seat i ≡ Some (view_of after)
    other : (j : ℕ) (u : View) → j ≢ i → k.seat j ≡ Some u → seat j ≡ Some u
    new : (n : ℕ) → drawn ≡ Some n → seat n ≡ Some (new_view t.shape n)
    back : (j : ℕ) (u : View) → seat j ≡ Some u → (u.numbers ≡ v.numbers) ⊎ ((k.seat j ≡ Some u) ⊎ ((n : ℕ) × (drawn ≡ Some n) × (u ≡ new_view t.shape n)))

  -- none is drawn
  moved_seats : AreSeats None moved
  moved_seats = record {
    inv = inv_moved;
    own = with_here k.seat i (Some own) i refl;
    other = λ j u differ is. with_other k.seat i (Some own) j differ ∙ is;
    new = λ n is. absurd (cc);
    back = λ j u is. elim (cases_eq j i) [
      | inl same ↦
          let now : Some own ≡ Some u = sym (with_here k.seat i (Some own) j same) ∙ is in
          let view : own ≡ u = cc in
          inl (sym (ap (λ (x : View). x.numbers) view))
      | inr differ ↦ inr (inl (sym (with_other k.seat i (Some own) j differ) ∙ is))
    ];
  }

  -- a number is drawn that nobody has
  module _ (n : ℕ) (inside : n < t.shape.seats) (past : m place.Draws ≤ n) where
    abbrev brought : ℕ → Option View
    brought = with_at moved n (Some (new_view t.shape n))

    apart_from : i ≢ n
    apart_from same =
        let none : k.seat i ≡ None = ap k.seat same ∙ none_yet n past in
        let some = part.at in
        absurd (cc)

    empty : moved n ≡ None
    empty = with_other k.seat i (Some own) n (λ same. apart_from (sym same)) ∙ none_yet n past

    unused : (j : ℕ) (u : View) → moved j ≡ Some u → is_among u.numbers n ≡ false
    unused j u is = go (is_among u.numbers n) refl
      where
        drawn_in_moved : is_among u.numbers n ≡ true → is_drawn k.history n ≡ true
        drawn_in_moved has = elim (moved_seats.back j u is) [
          | inl same ↦ k.drawn i n (view_of v) part.at (sym (ap (λ l. is_among l n) same) ∙ has)
          | inr (inl old) ↦ k.drawn j n u old has
          | inr (inr new) ↦ let none = new.1 in absurd (cc)
        ]

        go : (b : Bool) → is_among u.numbers n ≡ b → b ≡ false
        go false has = refl
        go true has = let less = k.below n (drawn_in_moved has) in absurd (omega (arith, less, past))

    brought_seats : AreSeats (Some n) brought
    brought_seats = record {
      inv = may_be_added t m' moved brought (log_of history') n inv_moved empty inside unused
          (record { own = with_here moved n (Some (new_view t.shape n)) n refl; other = λ j differ. with_other moved n (Some (new_view t.shape n)) j differ });
      own = with_other moved n (Some (new_view t.shape n)) i apart_from ∙ moved_seats.own;
      other = λ j u differ is.
          with_other moved n (Some (new_view t.shape n)) j (λ same. let none : k.seat j ≡ None = ap k.seat same ∙ none_yet n past in absurd (cc)) ∙ moved_seats.other j u differ is;
      new = λ x is. let same : n ≡ x = cc in subst (λ y. brought y ≡ Some (new_view t.shape y)) same (with_here moved n (Some (new_view t.shape n)) n refl);
      back = λ j u is. elim (cases_eq j n) [
        | inl same ↦
            let now : Some (new_view t.shape n) ≡ Some u = sym (with_here moved n (Some (new_view t.shape n)) j same) ∙ is in
            let view : u ≡ new_view t.shape n = cc in
            inr (inr (n, refl, view))
        | inr differ ↦ elim (moved_seats.back j u (sym (with_other moved n (Some (new_view t.shape n)) j differ) ∙ is)) [
          | inl mine ↦ inl mine
          | inr (inl old) ↦ inr (inl old)
          | inr (inr new) ↦ let none = new.1 in absurd (cc)
        ]
      ];
    }

  -- what the draw of a step says of the words and of the seats
  record IsDrawn (drawn : Option ℕ) : Type 0 where
    seat : ℕ → Option View
    are : AreSeats drawn seat
    counted : CountsDraws t.shape.seats (m' place.Draws) (length (draws_of k.history ++ option_to_list drawn))
    rises : m place.Draws ≤ m' place.Draws
    below : (n : ℕ) → drawn ≡ Some n → (n < m' place.Draws) × (m place.Draws ≤ n)
    next : (n : ℕ) → drawn ≡ Some n → n ≡ 1 + length (draws_of k.history)

  -- no word of the draws is changed
  draws_stay : DrawsNot stp → m' place.Draws ≡ m place.Draws
  draws_stay not = elim (Rattle.cht_core.proofs.Basics.place_cases place.Draws (access_of stp).place) [
    | inl same ↦ ap m' same ∙ made.here ∙ ap (λ (d : Deed). word_after d (found stp m)) (not.1 (sym same)) ∙ ap m (sym same)
    | inr differ ↦ made.there place.Draws differ
  ]

  nothing_drawn : m' place.Draws ≡ m place.Draws → IsDrawn None
  nothing_drawn same = record {
    seat = moved;
    are = moved_seats;
    counted = subst (λ l. CountsDraws t.shape.seats (m' place.Draws) (length l)) (sym (append-nil (draws_of k.history)))
        (subst (λ w. CountsDraws t.shape.seats w (length (draws_of k.history))) (sym same) k.counted);
    rises = omega (arith, same);
    below = λ n is. absurd (cc);
    next = λ n is. absurd (cc);
  }

  -- a draw, by whether a number is left
  draws : (b : Bool) → nat_lt (m place.Draws) t.shape.seats ≡ b → m' place.Draws ≡ m place.Draws + 1 → IsDrawn (cond b (Some (m place.Draws)) None)
  draws true is raised =
      let inside = ltb-true (m place.Draws) t.shape.seats is in
      let count = k.counted.some_left inside in
      let long = length-append (draws_of k.history) (m place.Draws ∷ []) in
      record {
        seat = brought (m place.Draws) inside (omega arith);
        are = brought_seats (m place.Draws) inside (omega arith);
        counted = record { some_left = λ left. omega (arith, count, raised, long); none_left = λ none. omega (arith, count, raised, long, inside, none) };
        rises = omega (arith, raised);
        below = λ n same. let here : m place.Draws ≡ n = cc in (omega (arith, here, raised), omega (arith, here));
        next = λ n same. let here : m place.Draws ≡ n = cc in omega (arith, here, count);
      }
  draws false is raised =
      let past = ltb-false (m place.Draws) t.shape.seats is in
      let count = k.counted.none_left past in
      record {
        seat = moved;
        are = moved_seats;
        counted = subst (λ l. CountsDraws t.shape.seats (m' place.Draws) (length l)) (sym (append-nil (draws_of k.history)))
            (record { some_left = λ left. absurd (omega (arith, left, past, raised)); none_left = λ none. count });
        rises = omega (arith, raised);
        below = λ n same. absurd (cc);
        next = λ n same. absurd (cc);
      }

  small : m place.Draws + 1 < 2 ^ 64
  small = let few = k.inv.bounds.draws in let seats = k.inv.table.shape.seats.1 in omega (arith, few, seats)

  is_drawn_by : IsDrawn (drawn_in t.shape stp word)
  is_drawn_by = elim (draws_or_not stp) [
    | inl is ↦
        let here : (access_of stp).place ≡ place.Draws = ap (λ (x : Step). (access_of x).place) is in
        let deed_is : (access_of stp).deed ≡ deed.Add 1 = ap (λ (x : Step). (access_of x).deed) is in
        let raised : m' place.Draws ≡ (m place.Draws + 1) % 2 ^ 64 = ap m' (sym here) ∙ made.here ∙ ap (λ (d : Deed). word_after d (found stp m)) deed_is ∙ ap (λ q. (m q + 1) % 2 ^ 64) here in
        subst IsDrawn (sym (ap (λ (x : Step). drawn_in t.shape x word) is ∙ ap (λ w. drawn_in t.shape step.Draw w) (draws_found here)))
        (draws (nat_lt (m place.Draws) t.shape.seats) refl (let few = small in omega (arith, raised, few)))
    | inr not ↦ subst IsDrawn (sym (not.0 t.shape word)) (nothing_drawn (draws_stay not))
  ]

  -- the draws that have come go on from those before
  numbered_after : IsNumbered 1 (draws_of history')
  numbered_after = subst (IsNumbered 1) (sym (draws_more k.history t.shape i mach stp word)) (go (drawn_in t.shape stp word) refl)
    where
      go : (d : Option ℕ) → drawn_in t.shape stp word ≡ d → IsNumbered 1 (draws_of k.history ++ option_to_list d)
      go None is = subst (IsNumbered 1) (sym (append-nil (draws_of k.history))) k.numbered
      go (Some n) is = numbered_more 1 (draws_of k.history) n k.numbered (is_drawn_by.next n is)

  mine_drawn : is_drawn k.history i ≡ true
  mine_drawn = k.drawn i i (view_of v) part.at about.seat

  orderly_after : IsOrderly history'
  orderly_after = orderly_more k.history t.shape i mach stp word k.orderly mine_drawn

  pub is_told : Told o mach stp v word after
  is_told = record {
    between = fit.seen.later;
    none = fit.seen.none;
    after = ap (λ h. sight_after o v h mach stp word) fit.seen.whole;
    found = subst (λ h. Found o v h mach stp word) fit.seen.whole is_found;
    sound = of_after.sound;
    sees = record {
      told = told_after;
      lawful = inv_moved.lawful;
      handles = has_handles t m' moved history' inv_moved told_after;
      orderly = orderly_after;
      numbered = numbered_after;
    };
    few = few;
    found_out = work_found t m' moved (log_of history') inv_moved i own (with_here k.seat i (Some own) i refl) (got_of mach word) refl;
    alone = λ none_out root.
        nothing_since v.numbers v.history fit.seen.later (subst IsOrderly fit.seen.whole k.orderly) (subst (λ kids. AreOut v.numbers kids v.history) none_out fit.out) fit.seen.none root;
    ended = λ none_out root. subst (λ h. MachineEnds t.shape.slots (now_in t (log_of h)) mach word) fit.seen.whole (chain_ends none_out root);
  }

  -- THE RULE AFTER IT

  abbrev seat' : ℕ → Option View
  seat' = is_drawn_by.seat

  abbrev are : AreSeats (drawn_in t.shape stp word) seat'
  are = is_drawn_by.are

  -- a seat of another view is as it was
  other_seat : (j : ℕ) (u : Sight) → j ≢ id → get_elem? s.views j ≡ some u → is_seat u ≡ true → k.seat u.number ≡ Some (view_of u) → seat' u.number ≡ Some (view_of u)
  other_seat j u differ at' is at_u =
      are.other u.number (view_of u) (λ same. differ (k.apart j id v.number u v at' at (inl (is, sym same)) (inl (about.seat, refl)))) at_u

  -- and so is one that was drawn, also by the seat itself
  given_seat : (j : ℕ) (u : Sight) (own : Own) → get_elem? s.views j ≡ some u → u.given ≡ Some own → own.number ≢ i
  given_seat j u own at' gave = elim (cases_eq j id) [
    | inl same ↦
        let one : u ≡ v = some-injective u v (sym at' ∙ ap (get_elem? s.views) same ∙ at) in
        subst (λ n. own.number ≢ n) (ap (λ (x : Sight). x.number) one) ((k.fits j u at').given own gave).differ
    | inr differ ↦ λ same. differ (k.apart j id i u v at' at (inr (own, gave, sym same)) (inl (about.seat, refl)))
  ]

  -- and nothing of the step is by it
  none_new : (n : ℕ) → n ≢ i → NoneBy (n ∷ []) (adds t.shape i mach stp word)
  none_new n differ = none_adds (n ∷ []) t.shape i mach stp word (ap (λ b. b || false) (ne_eqb i n (λ same. differ (sym same))))

  given_still : (j : ℕ) (u : Sight) (own : Own) → get_elem? s.views j ≡ some u → u.given ≡ Some own → IsNew o seat' history' u.number own
  given_still j u own at' gave = let was = (k.fits j u at').given own gave in record {
    own_is = was.own_is;
    differ = was.differ;
    at = are.other own.number (new_view t.shape own.number) (given_seat j u own at' gave) was.at;
    unused = none_append (own.number ∷ []) k.history (adds t.shape i mach stp word) was.unused (none_new own.number (given_seat j u own at' gave));
  }

  -- what another seat knows of the head that it loaded
  other_headed : (j : ℕ) (u : Sight) → j ≢ id → get_elem? s.views j ≡ some u → is_seat u ≡ true → IsPart o m k.seat k.history u → HeadedIn o m' u.number u.load (log_of history') u.seat
  other_headed j u differ at' is of = go u.seat refl
    where
      apart : i ≢ u.number
      apart same = differ (k.apart j id v.number u v at' at (inl (is, same)) (inl (about.seat, refl)))

      go : (x : Seat) → u.seat ≡ x → HeadedIn o m' u.number u.load (log_of history') x
      go (doing.Idle _) is = tt
      go (doing.Running other) is =
          let knows : IsOfSeat t p.now u.number other × KnowsMachine m p k.inv.flow u.number u.load u.passed other =
          subst (λ (x : Seat). Knows t m p k.inv.flow u.number (record (view_of u) { seat = x })) is (k.inv.knows u.number (view_of u) of.at) in
          subst (λ l. Headed t m' u.number u.load l other) (sym log_is)
          (subst (λ (e : Option What). Headed t m' u.number u.load (log ++ events_of i e) other) event_found
          (headed_waits t m m' k.inv.flow u.number i (text_of mach) stp log u.load apart made backs u.passed other knows.0.seed knows.1 (subst (HeadedIn o m u.number u.load log) is of.headed)))

  -- and of the text that it reads
  leads : Goes t m p k.inv.flow i (text_of mach) stp m'
  leads = table_keeps stp t m m' p k.inv.flow i (text_of mach) k.inv.table seated step_sound backs made

  other_reads : (u : Sight) → IsPart o m k.seat k.history u → ReadsIn o m' (log_of history') u.seat
  other_reads u of = go u.seat refl
    where
      go : (x : Seat) → u.seat ≡ x → ReadsIn o m' (log_of history') x
      go (doing.Idle _) is = tt
      go (doing.Running other) is =
          let knows : IsOfSeat t p.now u.number other × KnowsMachine m p k.inv.flow u.number u.load u.passed other =
          subst (λ (x : Seat). Knows t m p k.inv.flow u.number (record (view_of u) { seat = x })) is (k.inv.knows u.number (view_of u) of.at) in
          subst (λ l. MachineKept m' o.seed l other) (sym log_is)
          (reads_waits m m' p _ k.inv.flow _ u.number u.load u.passed o.seed log (events_of i (event_of mach word)) leads.grows other knows.1 (subst (ReadsIn o m log) is of.reads))

  -- who makes a step is not among the numbers of another, so that none of these is alone
  other_covers : (j : ℕ) (u : Sight) → j ≢ id → get_elem? s.views j ≡ some u → CoversIn o m' (log_of history') u
  other_covers j u differ at' none_out root =
      let never : true ≡ false = sym (alone_has o s k j u at' none_out root i mine_drawn) ∙ not_mine o s k id j v u at at' differ about.seat in
      absurd (cc)

  fits_other : (j : ℕ) (u : Sight) → j ≢ id → get_elem? s.views j ≡ some u → Fits o m' seat' history' u
  fits_other j u differ at' = let f = k.fits j u at' in record {
    of = f.of;
    seen = record {
      later = f.seen.later ++ adds t.shape i mach stp word;
      whole = ap (λ l. l ++ adds t.shape i mach stp word) f.seen.whole ∙ append_assoc u.history f.seen.later (adds t.shape i mach stp word);
      none = none_append u.numbers f.seen.later (adds t.shape i mach stp word) f.seen.none (none_adds u.numbers t.shape i mach stp word (not_mine o s k id j v u at at' differ about.seat));
    };
    part = elim f.part [
      | inl of ↦ inl (of.0, record { at = other_seat j u differ at' of.0 of.1.at; rests = of.1.rests; headed = other_headed j u differ at' of.0 of.1; reads = other_reads u of.1; covers = other_covers j u differ at' })
      | inr none ↦ inr none
    ];
    given = λ own gave. given_still j u own at' gave;
    out = f.out;
    earlier = f.earlier;
  }

  given_mine : (own : Own) (drawn : Option ℕ) → drawn_in t.shape stp word ≡ drawn → given_after t.shape drawn v.given ≡ Some own → IsNew o seat' history' i own
  given_mine own None is gave = given_still id v own at gave
  given_mine own (Some n) is gave =
      let same : first_own t.shape n ≡ own = cc in
      let past = (is_drawn_by.below n is).1 in
      let less = k.below i mine_drawn in
      subst (IsNew o seat' history' i) same (record {
        own_is = refl;
        differ = λ equal. absurd (omega (arith, past, less, equal));
        at = are.new n is;
        unused = none_append (n ∷ []) k.history (adds t.shape i mach stp word)
            (none_undrawn n k.history k.orderly (λ drawn. let below = k.below n drawn in omega (arith, past, below)))
            (none_new n (λ equal. absurd (omega (arith, past, less, equal))));
      })

  mine_reads : ReadsIn o m' (log_of history') after.seat
  mine_reads = subst (λ w. MachineKept m' o.seed (log_of history') (got_of mach w)) found_is (subst (λ l. MachineKept m' o.seed l (got_of mach (found stp m))) (sym log_is)
      (subst (λ seed. MachineKept m' seed (log ++ events_of i (event_of mach word)) (got_of mach (found stp m))) k.seed
      (reads_steps t m k.inv.flow i v.load v.passed log seated k.inv.table m' (events_of i (event_of mach word)) mach stp about.plan known.0.kind made known.1 reading)))

  none_before : (drawn : Option ℕ) → kids_after drawn v.kids ≡ [] → v.kids ≡ []
  none_before None is = is
  none_before (Some n) is = absurd (cc)

  mine_covers : CoversIn o m' (log_of history') after
  mine_covers none_out root = covers_after (none_before (drawn_in t.shape stp word) none_out) root

  load_is : Rattle.cht_core.specs.Causes.loaded_at (plan_of mach) p.now.place v.load ≡ after.load
  load_is = ap (λ x. Rattle.cht_core.specs.Causes.loaded_at x p.now.place v.load) about.plan

  fits_mine : Fits o m' seat' history' after
  fits_mine = record {
    of = fit.of;
    seen = record { later = []; whole = sym (append-nil history'); none = All-nil (λ (e : Entry). is_among v.numbers (Rattle.cht_run.specs.History.by_of e) ≡ false) };
    part = inl (
      about.seat,
      record {
        at = are.own;
        rests = rests_on mach word (subst HasResting about.running part.rests);
        headed = subst (λ w. Headed t m' i after.load (log_of history') (got_of mach w)) found_is
            (subst (λ l. Headed t m' i after.load l (got_of mach (found stp m))) (sym log_is)
            (subst (λ load. Headed t m' i load (log ++ events_of i (event_of mach word)) (got_of mach (found stp m))) load_is
            (headed_steps t m m' i log (events_of i (event_of mach word)) p.now.place v.load (place_is t.shape.min_level log) mach stp about.plan made headed)));
        reads = mine_reads;
        covers = mine_covers;
      },
    );
    given = λ own gave. given_mine own (drawn_in t.shape stp word) refl gave;
    out = out_adds v.numbers v.kids k.history t.shape i mach stp word
        (subst (AreOut v.numbers v.kids) (sym fit.seen.whole) (out_since v.numbers v.kids v.history fit.seen.later fit.out fit.seen.none));
    earlier = record { seen = All-nil (λ (e : Rattle.cht_run.specs.declared.sight.Earlier.Earlier). Follows e.numbers e.history history'); apart = tt };
  }

  fits_all : (j : ℕ) (u : Sight) → get_elem? (set s.views id after) j ≡ some u → Fits o m' seat' history' u
  fits_all j u e = ⊎_elim (λ (x : (j ≡ id) × (after ≡ u)). subst (Fits o m' seat' history') x.1 fits_mine) (λ (x : (j ≢ id) × (get_elem? s.views j ≡ some u)). fits_other j u x.0 x.1) (at_set s.views id j after u e)

  -- each number of a seat is drawn
  drawn_all : (j number : ℕ) (u : View) → seat' j ≡ Some u → is_among u.numbers number ≡ true → is_drawn history' number ≡ true
  drawn_all j number u at' has = elim (are.back j u at') [
    | inl same ↦ drawn_still k.history (adds t.shape i mach stp word) number (k.drawn i number (view_of v) part.at (ap (λ l. is_among l number) (sym same) ∙ has))
    | inr (inl old) ↦ drawn_still k.history (adds t.shape i mach stp word) number (k.drawn j number u old has)
    | inr (inr new) ↦
        let numbers : is_among (new.0 ∷ []) number ≡ true = ap (λ (x : View). is_among x.numbers number) (sym new.2) ∙ has in
        let draws : draws_of history' ≡ draws_of k.history ++ new.0 ∷ [] = draws_more k.history t.shape i mach stp word ∙ ap (λ d. draws_of k.history ++ option_to_list d) new.1 in
        ap (λ l. is_among (0 ∷ l) number) draws ∙ among_right (0 ∷ draws_of k.history) (new.0 ∷ []) number numbers
  ]

  below_all : (number : ℕ) → is_drawn history' number ≡ true → number < m' place.Draws
  below_all number drawn = go (drawn_in t.shape stp word) refl
    where
      old : is_drawn k.history number ≡ true → number < m' place.Draws
      old was = let less = k.below number was in let rises = is_drawn_by.rises in omega (arith, less, rises)

      either_draw : (d : Option ℕ) → is_among (0 ∷ (draws_of k.history ++ option_to_list d)) number ≡ true → (is_drawn k.history number ≡ true) ⊎ (is_among (option_to_list d) number ≡ true)
      either_draw d is = among_either (is_among (0 ∷ draws_of k.history) number) (is_among (option_to_list d) number) (sym (among_append (0 ∷ draws_of k.history) (option_to_list d) number) ∙ is)

      go : (d : Option ℕ) → drawn_in t.shape stp word ≡ d → number < m' place.Draws
      go None is = elim (either_draw None (ap (λ l. is_among (0 ∷ l) number) (sym (draws_more k.history t.shape i mach stp word ∙ ap (λ d. draws_of k.history ++ option_to_list d) is)) ∙ drawn)) [
        | inl was ↦ old was
        | inr never ↦ absurd (cc)
      ]
      go (Some n) is = elim (either_draw (Some n) (ap (λ l. is_among (0 ∷ l) number) (sym (draws_more k.history t.shape i mach stp word ∙ ap (λ d. draws_of k.history ++ option_to_list d) is)) ∙ drawn)) [
        | inl was ↦ old was
        | inr here ↦ elim (among_either (nat_eq number n) false here) [
          | inl same ↦ let less = (is_drawn_by.below n is).0 in let equal = eqb-true number n same in omega (arith, less, equal)
          | inr never ↦ absurd (cc)
        ]
      ]

  -- what a view owns after the step it owned before, or has drawn
  owned : (j : ℕ) (u : Sight) (x : ℕ) → get_elem? (set s.views id after) j ≡ some u → Owns u x →
      ((w : Sight) × (get_elem? s.views j ≡ some w) × Owns w x) ⊎ ((j ≡ id) × (drawn_in t.shape stp word ≡ Some x))
  owned j u x e owns = ⊎_elim (λ (y : (j ≡ id) × (after ≡ u)). mine y.0 (subst (λ z. Owns z x) (sym y.1) owns)) (λ (y : (j ≢ id) × (get_elem? s.views j ≡ some u)). inl (u, y.1, owns)) (at_set s.views id j after u e)
    where
      gave : (d : Option ℕ) → drawn_in t.shape stp word ≡ d → j ≡ id → (own : Own) → given_after t.shape d v.given ≡ Some own → x ≡ own.number →
          ((w : Sight) × (get_elem? s.views j ≡ some w) × Owns w x) ⊎ ((j ≡ id) × (drawn_in t.shape stp word ≡ Some x))
      gave None is same own was number = inl (v, ap (get_elem? s.views) same ∙ at, inr (own, was, number))
      gave (Some n) is same own was number =
          let new : first_own t.shape n ≡ own = cc in
          inr (same, is ∙ ap Some (ap (λ (y : Own). y.number) new ∙ sym number))

      mine : j ≡ id → Owns after x → ((w : Sight) × (get_elem? s.views j ≡ some w) × Owns w x) ⊎ ((j ≡ id) × (drawn_in t.shape stp word ≡ Some x))
      mine same (inl own) = inl (v, ap (get_elem? s.views) same ∙ at, inl own)
      mine same (inr given) = gave (drawn_in t.shape stp word) refl same given.0 given.1 given.2

  -- what is owned was drawn before
  owned_drawn : (j : ℕ) (w : Sight) (x : ℕ) → get_elem? s.views j ≡ some w → Owns w x → x < m place.Draws
  owned_drawn j w x at' (inl own) = elim (k.fits j w at').part [
    | inl of ↦ subst (λ n. n < m place.Draws) (sym own.1) (k.below w.number (k.drawn w.number w.number (view_of w) of.1.at own.0))
    | inr none ↦ let never : false ≡ true = sym (ap (λ l. is_among l w.number) none) ∙ own.0 in absurd (cc)
  ]
  owned_drawn j w x at' (inr given) =
      let was = (k.fits j w at').given given.0 given.1 in
      subst (λ n. n < m place.Draws) (sym given.2) (k.below given.0.number (k.drawn given.0.number given.0.number (new_view t.shape given.0.number) was.at (among_here [] given.0.number)))

  apart_all : (j l x : ℕ) (u w : Sight) → get_elem? (set s.views id after) j ≡ some u → get_elem? (set s.views id after) l ≡ some w → Owns u x → Owns w x → j ≡ l
  apart_all j l x u w at_j at_l own_u own_w = go (owned j u x at_j own_u) (owned l w x at_l own_w)
    where
      go : (((y : Sight) × (get_elem? s.views j ≡ some y) × Owns y x) ⊎ ((j ≡ id) × (drawn_in t.shape stp word ≡ Some x))) →
          (((y : Sight) × (get_elem? s.views l ≡ some y) × Owns y x) ⊎ ((l ≡ id) × (drawn_in t.shape stp word ≡ Some x))) → j ≡ l
      go (inl a) (inl b) = k.apart j l x a.0 b.0 a.1 b.1 a.2 b.2
      go (inl a) (inr b) = let less = owned_drawn j a.0 x a.1 a.2 in let past = (is_drawn_by.below x b.1).1 in absurd (omega (arith, less, past))
      go (inr a) (inl b) = let less = owned_drawn l b.0 x b.1 b.2 in let past = (is_drawn_by.below x a.1).1 in absurd (omega (arith, less, past))
      go (inr a) (inr b) = a.0 ∙ sym b.0

  -- no other seat has the words of before: who makes a step is not among the numbers of another
  shown_all : (j : ℕ) (u : Sight) → get_elem? (set s.views id after) j ≡ some u → IsSnapshot (words_after t.shape stp s.words) u
  shown_all j u e snapshot has none_out root = ⊎_elim
      (λ (x : (j ≡ id) × (after ≡ u)). let never : None ≡ Some snapshot = ap (λ (y : Sight). y.words) x.1 ∙ has in absurd (cc))
      (λ (x : (j ≢ id) × (get_elem? s.views j ≡ some u)).
      let never : true ≡ false = sym (alone_has o s k j u x.1 none_out root i mine_drawn) ∙ not_mine o s k id j v u at x.1 x.0 about.seat in absurd (cc))
      (at_set s.views id j after u e)

  seed_stays : (now_of t.shape.min_level (log_of history')).seed ≡ o.seed
  seed_stays = sym of_after.seed ∙ same_seed mach (got_of mach word) (same_law mach word) ∙ known.0.seed ∙ k.seed

  pub kept_after : Kept o (record { words = words_after t.shape stp s.words; homes = s.homes; views = set s.views id after })
  kept_after = record {
    seat = seat';
    history = history';
    sized = length-set s.words (index_of t.shape (access_of stp).place) (word_after (access_of stp).deed word) ∙ k.sized;
    inv = are.inv;
    seed = seed_stays;
    told = told_after;
    orderly = orderly_after;
    numbered = numbered_after;
    counted = subst (λ l. CountsDraws t.shape.seats (m' place.Draws) (length l)) (sym (draws_more k.history t.shape i mach stp word)) is_drawn_by.counted;
    below = below_all;
    drawn = drawn_all;
    apart = apart_all;
    fits = fits_all;
    shown = shown_all;
  }
