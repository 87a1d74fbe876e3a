-- Where nobody works, nothing is going on, and the event of a rehash may be told.
use Rattle.std.proofs.Common.{◌≡◌, ℕ, ◌<◌, List, Option, Some, None, refl, ap, subst, arith}
use Rattle.std.specs.Option.{option_map}
use Rattle.intern_log.specs.declared.event.Event.{Event}
use Rattle.intern_log.specs.Lawful.{IsQuiet}
use Rattle.intern_log.specs.Now.{Resizing, now_of, owner_of}
use Rattle.call_machine.specs.declared.machine.Own.{Own}
use Rattle.cht_core.specs.declared.seat.Seat.{Seat}
use Rattle.cht_core.specs.declared.seat.Seat.TheVariants as doing
use Rattle.cht_core.specs.declared.table.Table.{Table}
use Rattle.cht_core.specs.Invariant.{Inv}
use Rattle.cht_core.specs.Memory.{Memory}
use Rattle.cht_core.specs.Owes.{Owes, OwesNothing, IsAllOf}
use Rattle.cht_core.specs.Past.{Past, past_of, kind_of, MayTell}
use Rattle.cht_core.specs.Rehash.{IsFree, MayRehash, seeds}
use Rattle.cht_core.specs.View.{View, IsOwnOf, KnowsOwn, Knows}
use Rattle.cht_core.proofs.SeatJoins.{idle_owes_nothing}
use Rattle.cht_core.proofs.SeatMoves.{owed_by}

-- a seat that has nothing unfinished is between its calls
pub free_seat : (s : Seat) → IsFree s → (own : Own) × (s ≡ doing.Idle own) × (own.work ≡ None) × (own.grace ≡ None)
free_seat (doing.Idle own) free = (own, refl, free.0, free.1)
free_seat (doing.Running machine) free = absurd free

module _ (t : Table) (m : Memory) (seat : ℕ → Option View) (log : List Event) (inv : Inv t m seat log) (may : MayRehash (now_of t.shape.min_level log) seat) where
  abbrev past_here : Past
  past_here = past_of t.shape.min_level log

  -- what the seat of a number has of its own, where it has nothing unfinished
  pub known_own : (k : ℕ) (v : View) (own : Own) → seat k ≡ Some v → v.seat ≡ doing.Idle own → IsOwnOf t k own × KnowsOwn m past_here inv.flow k own
  known_own k v own is idle = subst (λ (s : Seat). Knows t m past_here inv.flow k (record v { seat = s })) idle (inv.knows k v is)

  -- so nobody has anything
  pub has_nothing : (k : ℕ) → OwesNothing past_here k
  has_nothing k = go (seat k) refl
    where
      go : (o : Option View) → seat k ≡ o → OwesNothing past_here k
      go None is = subst (λ (o : Option View). IsAllOf past_here k (option_map (λ (x : View). x.seat) o)) is (inv.owes k)
      go (Some v) is =
          let free : (own : Own) × (v.seat ≡ doing.Idle own) × (own.work ≡ None) × (own.grace ≡ None) = free_seat v.seat (may.seats k v is) in
          let known : IsOwnOf t k free.0 × KnowsOwn m past_here inv.flow k free.0 = known_own k v free.0 is free.1 in
          idle_owes_nothing past_here k free.0 free.2 known.1.0 (subst (Owes past_here k) free.1 (owed_by t m seat log k v inv is))

  no_lock : (row bucket : ℕ) (o : Option ℕ) → past_here.now.lock row bucket ≡ o → o ≡ None
  no_lock row bucket None is = refl
  no_lock row bucket (Some k) is = absurd ((has_nothing k).locked row bucket is)

  no_owner : (o : Option Resizing) → past_here.now.resizing ≡ o → o ≡ None
  no_owner None is = refl
  no_owner (Some r) is = absurd ((has_nothing r.seat).owner (ap owner_of is))

  pub is_quiet : IsQuiet past_here.now
  is_quiet = record {
    sections = λ k. (has_nothing k).section;
    locks = λ row bucket. no_lock row bucket (past_here.now.lock row bucket) refl;
    resizing = no_owner past_here.now.resizing refl;
    dead = may.dead;
  }

  -- and the event may be told
  pub may_tell : MayTell (kind_of t) past_here 0 (Some (seeds past_here.now))
  may_tell = let few : past_here.now.seed < 2 = may.seed in (refl, refl, omega (arith, few), is_quiet)
