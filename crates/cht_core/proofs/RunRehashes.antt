-- A table that is made anew is a state.
use Rattle.std.proofs.Common.{◌≡◌, ◌≢◌, ℕ, ◌+◌, ◌<◌, ◌↔◌, List, [], ◌∷◌, ◌++◌, Option, Some, None, refl, sym, ap, subst, ◌∙◌}
use Rattle.table_shape.specs.declared.place.Place.TheVariants as place
use Rattle.intern_log.specs.Now.{Now}
use Rattle.atomic_step.specs.Table.{word_at}
use Rattle.cht_core.specs.declared.seat.Seat.{Seat}
use Rattle.cht_core.specs.Invariant.{Inv}
use Rattle.cht_core.specs.Memory.{Memory, memory_of}
use Rattle.cht_core.specs.Past.{by, past_of, kind_of, MayTell}
use Rattle.cht_core.specs.Rehash.{IsFree, MayRehash, by_next_seed, seeds}
use Rattle.cht_core.specs.State.{Core, IsCore, CanRehash, Rehashed, seat_in, view_of, views_of, now_at}
use Rattle.cht_core.specs.View.{View}
use Rattle.cht_core.proofs.CauseLogs.{told_more}
use Rattle.cht_core.proofs.RehashKeeps.{rehash_keeps}
use Rattle.cht_core.proofs.RehashStays.{says_the_same, keeps_words}

-- what is seen of a free seat is free
free_view : (sight : ℕ × List ℕ) (k : ℕ) (o : Option Seat) (v : View) → ((s : Seat) → o ≡ Some s → IsFree s) → view_of sight k o ≡ Some v → IsFree v.seat
free_view sight k None v free is = absurd (cc)
free_view sight k (Some s) v free is = subst (λ (u : View). IsFree u.seat) (let same : (record { seat = s; load = sight.0; passed = sight.1; numbers = k ∷ [] }) ≡ v = cc in same) (free s refl)

-- a state that may be made anew meets what the law of a rehash asks
pub may_rehash : (c : Core) (core : IsCore c) → CanRehash c → MayRehash (now_at c) (views_of core.sights c.seats)
may_rehash c core can = record {
  seats = λ k v is. free_view (core.sights k) k (seat_in c.seats k) v (can.seats k) is;
  dead = can.dead;
  seed = subst (λ n. n < 2) core.seed can.seed;
}

module _ (c new : Core) (core : IsCore c) (re : Rehashed c new) where
  abbrev m : Memory
  m = memory_of c.table.shape c.words

  abbrev m' : Memory
  m' = memory_of c.table.shape new.words

  kept : MayTell (kind_of c.table) (past_of c.table.shape.min_level c.log) 0 (Some (seeds (now_at c))) × Inv c.table m' (views_of core.sights c.seats) (c.log ++ by 0 (seeds (now_at c)) ∷ [])
  kept = rehash_keeps c.table m m' (views_of core.sights c.seats) c.log core.inv (may_rehash c core re.can) re.words

  draws : word_at c.table.shape place.Draws new.words ≡ word_at c.table.shape place.Draws c.words
  draws = (keeps_words m m' (by_next_seed (now_at c)) re.words).draws

  anew : IsCore (record c { seed = c.seed + 1; words = new.words; log = c.log ++ by 0 (seeds (now_at c)) ∷ [] })
  anew = record {
    sights = core.sights;
    sized = re.sized ∙ core.sized;
    seats = core.seats;
    seed = ap (λ n. n + 1) core.seed ∙ sym (ap (λ (n : Now). n.seed) (says_the_same c.table.shape.min_level c.log));
    inv = kept.1;
    going = core.going;
    drawn = subst (λ word. (k : ℕ) → k < c.table.shape.seats → (seat_in c.seats k ≢ None) ↔ (k < word)) (sym draws) core.drawn;
    told = told_more c.table c.log 0 (Some (seeds (now_at c))) core.told kept.0;
    rests = core.rests;
  }

-- any state that is made anew is a state again
pub rehashed_core : (c new : Core) → IsCore c → Rehashed c new → IsCore new
rehashed_core c new core re = subst IsCore (sym re.state) (anew c new core re)
