-- A seat that is alone reads the words of the table: they are those that it has seen, and they show its log.
use Rattle.std.proofs.Common.{◌≡◌, ℕ, true, List, [], get_or, Option, Some, None, refl, sym, ap, subst, ◌∙◌}
use Rattle.std.specs.Option.{unwrap_or, option_map}
use Rattle.std.specs.Prelude.{is_some}
use Rattle.table_shape.specs.declared.place.Place.{Place}
use Rattle.table_shape.specs.Place.{index_of, IsInside}
use Rattle.intern_log.specs.declared.event.Event.{Event}
use Rattle.intern_log.specs.Now.{owner_of}
use Rattle.call_machine.specs.declared.machine.Own.{Own}
use Rattle.cht_core.specs.declared.seat.Seat.TheVariants as doing
use Rattle.cht_core.specs.declared.table.Table.{Table}
use Rattle.cht_core.specs.Begins as core
use Rattle.cht_core.specs.Causes.{now_in}
use Rattle.cht_core.specs.Invariant.{Inv}
use Rattle.cht_core.specs.Memory.{Memory, memory_of}
use Rattle.cht_core.specs.Owes.{Owes, IsAllOf}
use Rattle.cht_core.specs.Past.{past_of}
use Rattle.cht_core.specs.TableState.{IsSettled}
use Rattle.cht_core.specs.View.{View}
use Rattle.cht_core.proofs.SeatMoves.{owed_by}
use Rattle.cht_core.proofs.StateWords.{memory_at}
use Rattle.cht_run.specs.declared.seat.Seat.{Seat}
use Rattle.cht_run.specs.declared.sight.Entry.{Entry}
use Rattle.cht_run.specs.declared.sight.Origin.{Origin}
use Rattle.cht_run.specs.declared.sight.Sight.{Sight}
use Rattle.cht_run.specs.declared.table.Cht.{Cht}
use Rattle.cht_run.specs.Begins.{own_at, is_resting}
use Rattle.cht_run.specs.Ends.{IsAlone, HasNothing, Stays}
use Rattle.cht_run.specs.History.{log_of}
use Rattle.cht_run.specs.Looks.{Looked}
use Rattle.cht_run.specs.Rule.{view_of}
use Rattle.cht_run.specs.Seats.{sight, history, seen, IsOf}
use Rattle.cht_run.specs.Tallies.{snapshot, memory_in, IsShown, Reads, ReadsOn}
use Rattle.cht_run.proofs.Joining.{Rested, rested}
use Rattle.cht_run.proofs.Loading.{looked_alone}

-- a seat has at most seen more, and is alone still
still_alone : (old new : Seat) → Stays old new → IsAlone old → IsAlone new
still_alone old new stays alone = record { root = subst (λ ns. Rattle.intern_log.specs.Own.is_among ns 0 ≡ true) (sym stays.numbers) alone.root; kids = stays.kids ∙ alone.kids }

-- A FIRST LOOK

module _ (t : Table) (m : Memory) (seat : ℕ → Option View) (log : List Event) (inv : Inv t m seat log) where
  -- who is at rest with no work has no resize lock
  idle_owns_none : (i : ℕ) (v : View) (own : Own) → seat i ≡ Some v → v.seat ≡ doing.Idle own → own.work ≡ None → owner_of (now_in t log).resizing ≡ Some i → ⊥
  idle_owns_none i v own at idle none owner =
      let owes : Owes (past_of t.shape.min_level log) i (doing.Idle own) = subst (Owes (past_of t.shape.min_level log) i) idle (owed_by t m seat log i v inv at) in
      let some : is_some own.work ≡ true = owes.owner owner in
      let same = ap is_some none in
      absurd (cc)

  -- nor has who is no seat
  nobody_owns_none : (i : ℕ) → seat i ≡ None → owner_of (now_in t log).resizing ≡ Some i → ⊥
  nobody_owns_none i none owner = (subst (λ (o : Option View). IsAllOf (past_of t.shape.min_level log) i (option_map (λ (x : View). x.seat) o)) none (inv.owes i)).owner owner

-- where the only seat has no unfinished work, no row is being replaced
settles : (o : Origin) (m : Memory) (v : Sight) (later : List Entry) (seat : ℕ → Option View) → Inv o.table m seat (log_of later) → ((n : ℕ) (u : View) → seat n ≡ Some u → (n ≡ v.number) × (u ≡ view_of v)) →
    is_resting v.seat ≡ true → (own_at v.seat).work ≡ None → IsSettled (now_in o.table (log_of later))
settles o m v later seat inv only rests none r is replacing = go (seat r.seat) refl
  where
    go : (x : Option View) → seat r.seat ≡ x → ⊥
    go None at = nobody_owns_none o.table m seat (log_of later) inv r.seat at (ap owner_of is)
    go (Some u) at =
        let one = only r.seat u at in
        let mine : seat v.number ≡ Some (view_of v) = ap seat (sym one.0) ∙ at ∙ ap Some one.1 in
        let rest : Rested o m seat later v = rested o m seat later v inv mine rests in
        idle_owns_none o.table m rest.seat' (log_of later) rest.inv v.number (core.idle_view (view_of v) (own_at v.seat)) (own_at v.seat) rest.own refl none (ap owner_of is ∙ ap Some one.0)

pub opens_words : (cht : Cht) (old new : Seat) (index word : ℕ) → IsOf cht new → Stays old new → IsAlone old → HasNothing old → is_resting (sight old).seat ≡ true → Looked cht.origin index (sight old) word (sight new) →
    Reads cht new
opens_words cht old new index word of stays alone nothing rests looked =
    let words : (sight new).words ≡ Some looked.words = ap (λ (v : Sight). v.words) looked.after in
    let same : looked.words ≡ snapshot new = sym (ap (λ o. unwrap_or o []) words) in
    record {
      of = of;
      alone = still_alone old new stays alone;
      taken = words ∙ ap Some same;
      shown = subst (λ ws. IsShown cht.origin.table (memory_of cht.origin.table.shape ws) (seen new)) same (record {
        flow = looked.inv.flow;
        table = looked.inv.table;
        settled = settles cht.origin (memory_of cht.origin.table.shape looked.words) (sight old) (history new) looked.seat looked.inv (looked.only alone.kids alone.root) rests nothing.work;
      });
    }

pub opens_same : (cht : Cht) (old new : Seat) (index word : ℕ) → IsAlone old → Looked cht.origin index (sight old) word (sight new) → history new ≡ history old
opens_same cht old new index word alone looked = looked_alone cht.origin index (sight old) word (sight new) looked alone.kids alone.root

-- A FURTHER LOOK

module _ (cht : Cht) (old new : Seat) (index word : ℕ) (of : IsOf cht new) (stays : Stays old new) (reads : Reads cht old) (looked : Looked cht.origin index (sight old) word (sight new)) where
  same_words : looked.words ≡ snapshot old
  same_words = looked.still reads.alone.kids reads.alone.root (snapshot old) reads.taken

  new_words : (sight new).words ≡ Some (snapshot old)
  new_words = ap (λ (v : Sight). v.words) looked.after ∙ ap Some same_words

  same_snapshot : snapshot new ≡ snapshot old
  same_snapshot = ap (λ o. unwrap_or o []) new_words

  same_history : history new ≡ history old
  same_history = opens_same cht old new index word reads.alone looked

  pub reads_on : ReadsOn cht old new
  reads_on = record {
    reads = record {
      of = of;
      alone = still_alone old new stays reads.alone;
      taken = new_words ∙ ap Some (sym same_snapshot);
      shown = subst (λ ws. IsShown cht.origin.table (memory_of cht.origin.table.shape ws) (seen new)) (sym same_snapshot)
          (subst (λ (h : List Entry). IsShown cht.origin.table (memory_in cht old) (log_of h)) (sym same_history) reads.shown);
    };
    stays = stays;
    history = same_history;
    snapshot = same_snapshot;
  }

  pub finds_word : (p : Place) → IsInside cht.origin.table.shape p → index ≡ index_of cht.origin.table.shape p → word ≡ memory_in cht old p
  finds_word p inside at =
      looked.found ∙ ap (λ ws. get_or ws index 0) same_words ∙ ap (λ i. get_or (snapshot old) i 0) at ∙ sym (memory_at cht.origin.table.shape (snapshot old) p inside)

-- MANY LOOKS

pub reads_itself : (cht : Cht) (seat : Seat) → Reads cht seat → ReadsOn cht seat seat
reads_itself cht seat reads = record { reads = reads; stays = record { number = refl; passed = refl; own = refl; numbers = refl; kids = refl }; history = refl; snapshot = refl }

pub reads_further : (cht : Cht) (a b c : Seat) → ReadsOn cht a b → ReadsOn cht b c → ReadsOn cht a c
reads_further cht a b c first second = record {
  reads = second.reads;
  stays = record {
    number = second.stays.number ∙ first.stays.number;
    passed = second.stays.passed ∙ first.stays.passed;
    own = second.stays.own ∙ first.stays.own;
    numbers = second.stays.numbers ∙ first.stays.numbers;
    kids = second.stays.kids ∙ first.stays.kids;
  };
  history = second.history ∙ first.history;
  snapshot = second.snapshot ∙ first.snapshot;
}
