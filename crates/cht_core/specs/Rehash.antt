-- A table that is made anew by the next seed: when it may be, and what becomes of its words and its log.
use Rattle.std.specs.Prelude.{◌≡◌, ℕ, ◌+◌, ◌<◌, ◌^◌, ◌↔◌, List, [], ◌∷◌, ◌++◌, Option, Some, None}
use Rattle.std.specs.List.{All}
use Rattle.chain_core.specs.Nodes.{On}
use Rattle.chain_core.specs.Path.{IsPath}
use Rattle.marked_word.specs.Meta.{meta_word}
use Rattle.table_shape.specs.declared.place.Place.{Place}
use Rattle.table_shape.specs.declared.place.Place.TheVariants as place
use Rattle.intern_log.specs.declared.event.Event.{Event}
use Rattle.intern_log.specs.declared.event.Handle.{Handle}
use Rattle.intern_log.specs.declared.event.What.{What}
use Rattle.intern_log.specs.declared.event.What.TheVariants as what
use Rattle.intern_log.specs.Lawful.{IsLinkedDead}
use Rattle.intern_log.specs.Now.{Now, Linked, now_of}
use Rattle.call_machine.specs.Sought.{meta_of}
use Rattle.cht_core.specs.declared.seat.Seat.{Seat}
use Rattle.cht_core.specs.declared.seat.Seat.TheVariants as doing
use Rattle.cht_core.specs.declared.table.Table.{Table}
use Rattle.cht_core.specs.Heads.{used_head}
use Rattle.cht_core.specs.Invariant.{Inv}
use Rattle.cht_core.specs.Memory.{Memory, links}
use Rattle.cht_core.specs.Past.{past_of, kind_of, by, MayTell}
use Rattle.cht_core.specs.Search.{IsLinked}
use Rattle.cht_core.specs.Shows.{IsOfBucket}
use Rattle.cht_core.specs.View.{View}

-- a seat has no running call, no unfinished work and no unfinished grace
abbrev pub IsFree : Seat → Type 0
IsFree (doing.Idle own) = (own.work ≡ None) × (own.grace ≡ None)
IsFree (doing.Running m) = ⊥

-- no slot is linked and dead
abbrev pub HasNoDead : Now → Type 0
HasNoDead n = (s : ℕ) → ¬ (IsLinkedDead n (n.slot s))

-- nobody works, no slot is linked and dead, and a seed is left
pub record MayRehash (n : Now) (seat : ℕ → Option View) : Type 0 where
  pub seats : (k : ℕ) (v : View) → seat k ≡ Some v → IsFree v.seat
  pub dead : HasNoDead n
  pub seed : n.seed < 2

-- the event, and the table by the next seed
abbrev pub seeds : Now → What
seeds n = what.Rehash (n.seed + 1)

abbrev pub by_next_seed : Now → Now
by_next_seed n = record n { seed = n.seed + 1 }

-- each node has a greater number than the one before it
abbrev pub IsAscending : List ℕ → Type 0
IsAscending [] = Unit {0}
IsAscending (s ∷ nodes) = All (λ x. s < x) nodes × IsAscending nodes

-- the head of a bucket leads to its linked slots, in ascending order, and is not locked
pub record IsMadeAnew (m : Memory) (n : Now) (bucket : ℕ) : Type 0 where
  pub nodes : List ℕ
  pub ascending : IsAscending nodes
  pub slots : (s : ℕ) → On s nodes ↔ IsOfBucket n bucket s
  pub first : Option ℕ
  pub head : m (place.Head n.level bucket) ≡ used_head first None
  pub path : IsPath (links m) first nodes

-- the words that are made anew: the heads of the level's row, and the links and the meta words of the linked slots
abbrev pub IsAnew : Now → Place → Type 0
IsAnew n (place.Head row bucket) = (row ≡ n.level) × (bucket < 2 ^ row)
IsAnew n (place.Link s) = IsLinked n s
IsAnew n (place.Meta s) = IsLinked n s
IsAnew n _ = ⊥

-- all chains were made anew, each linked slot has the new hash of its text, and no other word has changed; the log says what it says with the new seed
pub record IsRehashed (m m' : Memory) (n : Now) : Type 0 where
  pub chains : (bucket : ℕ) → bucket < 2 ^ n.level → IsMadeAnew m' n bucket
  pub metas : (s : ℕ) (text : List ℕ) (h : Handle) (born : ℕ) → n.slot s ≡ Linked text h born → m' (place.Meta s) ≡ meta_word (meta_of n.seed text)
  pub stay : (p : Place) → ¬ (IsAnew n p) → m' p ≡ m p

-- a table that is made anew: its event may be added, and the invariant is met again
abbrev pub KeepsRehash : Type 0
KeepsRehash = (t : Table) (m m' : Memory) (seat : ℕ → Option View) (log : List Event) → Inv t m seat log → MayRehash (now_of t.shape.min_level log) seat →
    IsRehashed m m' (by_next_seed (now_of t.shape.min_level log)) →
    MayTell (kind_of t) (past_of t.shape.min_level log) 0 (Some (seeds (now_of t.shape.min_level log)))
    × Inv t m' seat (log ++ by 0 (seeds (now_of t.shape.min_level log)) ∷ [])
