-- What may be told keeps a short log lawful.
use Rattle.std.proofs.Common.{◌≡◌, ℕ, ◌≤◌, ◌<◌, ◌^◌, Bool, true, false, cond, List, [], ◌∷◌, ◌++◌, Option, Some, None, sym, subst, arith}
use Rattle.std.specs.Prelude.{nat_eq}
use Rattle.std.specs.List.{list_any}
use Rattle.std.proofs.lemmas.List.{append-nil}
use Rattle.std.proofs.lemmas.List.Sums.{sum_by-cons}
use Rattle.intern_log.specs.declared.event.Event.{Event}
use Rattle.intern_log.specs.declared.event.Handle.{Handle}
use Rattle.intern_log.specs.declared.event.What.{What}
use Rattle.intern_log.specs.declared.event.What.TheVariants as what
use Rattle.intern_log.specs.Counts.{is_create, events_in}
use Rattle.intern_log.specs.Lawful.{IsLawful, IsNew, MayFollow}
use Rattle.intern_log.specs.Log.{creates}
use Rattle.intern_log.specs.Now.{now_of}
use Rattle.intern_log.specs.Short.{IsShort}
use Rattle.intern_log.proofs.Handles.{handle_eq-Decides}
use Rattle.intern_log.proofs.OneMore.{IsLawful-push, IsShort-prefix}
use Rattle.cht_core.specs.declared.table.Table.{Table}
use Rattle.cht_core.specs.Invariant.{events_of}
use Rattle.cht_core.specs.Past.{by, kind_of, is_use, past_of, MayAdd, MayTell}

-- an event that makes an entry in a slot is a Create
one_use : (s : ℕ) (w : What) → cond (is_use s w) 1 0 ≤ cond (is_create w) 1 0
one_use s (what.Create text h) = go (nat_eq h.slot s)
  where
    go : (b : Bool) → cond b 1 0 ≤ 1
    go true = omega arith
    go false = omega arith
one_use s _ = omega arith

-- a slot was used no more often than the log has Creates
pub uses_of_creates : (s : ℕ) (log : List Event) → events_in (is_use s) log ≤ events_in is_create log
uses_of_creates s [] = omega arith
uses_of_creates s (e ∷ log) =
    let uses = sum_by-cons (λ (x : Event). cond (is_use s x.what) 1 0) e log in
    let creates = sum_by-cons (λ (x : Event). cond (is_create x.what) 1 0) e log in
    let one = one_use s e.what in
    let more = uses_of_creates s log in
    omega (arith, uses, creates, one, more)

-- in a short log no slot was used 2^48 times
pub few_uses : (min_level : ℕ) (log : List Event) (s : ℕ) → IsShort log → 2 ^ 48 ≤ (past_of min_level log).uses s → ⊥
few_uses min_level log s short many =
    let few = uses_of_creates s log in
    let bound : events_in is_create log < 2 ^ 47 = short in
    let uses : 2 ^ 48 ≤ events_in (is_use s) log = many in
    omega (arith, few, bound, uses)

module _ (t : Table) (log : List Event) (i : ℕ) where
  -- what may be added to a short log may follow it
  pub follows_short : (w : What) → IsShort log → MayAdd (kind_of t) (past_of t.shape.min_level log) i w → MayFollow (kind_of t) (now_of t.shape.min_level log) i w
  follows_short (what.Create text h) short may = may.0
  follows_short what.ResizeGiven short may = (may.0, λ s at is. few_uses t.shape.min_level log s short (may.1 s at is))
  follows_short (what.Take text h) short may = may
  follows_short (what.Found text h) short may = may
  follows_short (what.Drop h) short may = may
  follows_short (what.Perm h) short may = may
  follows_short (what.Kill h) short may = may
  follows_short (what.Claim s) short may = may
  follows_short (what.Free s) short may = may
  follows_short (what.Open c) short may = may
  follows_short what.Close short may = may
  follows_short what.Grace short may = may
  follows_short (what.Lock r b) short may = may
  follows_short (what.Unlock r b) short may = may
  follows_short (what.Unlink s) short may = may
  follows_short what.ResizeTaken short may = may
  follows_short (what.Level l) short may = may
  follows_short (what.Rehash n) short may = may

  -- what may be added creates no handle that was created before
  pub new_may_add : (w : What) → MayAdd (kind_of t) (past_of t.shape.min_level log) i w → IsNew log w
  new_may_add (what.Create text h) may k here =
      let same : h ≡ k = (handle_eq-Decides h k).0 here in
      subst (λ (x : Handle). list_any (λ (e : Event). creates e.what x) log ≡ false) same may.1
  new_may_add (what.Take text h) may k here = absurd (cc)
  new_may_add (what.Found text h) may k here = absurd (cc)
  new_may_add (what.Drop h) may k here = absurd (cc)
  new_may_add (what.Perm h) may k here = absurd (cc)
  new_may_add (what.Kill h) may k here = absurd (cc)
  new_may_add (what.Claim s) may k here = absurd (cc)
  new_may_add (what.Free s) may k here = absurd (cc)
  new_may_add (what.Open c) may k here = absurd (cc)
  new_may_add what.Close may k here = absurd (cc)
  new_may_add what.Grace may k here = absurd (cc)
  new_may_add (what.Lock r b) may k here = absurd (cc)
  new_may_add (what.Unlock r b) may k here = absurd (cc)
  new_may_add (what.Unlink s) may k here = absurd (cc)
  new_may_add what.ResizeTaken may k here = absurd (cc)
  new_may_add what.ResizeGiven may k here = absurd (cc)
  new_may_add (what.Level l) may k here = absurd (cc)
  new_may_add (what.Rehash n) may k here = absurd (cc)

-- what may be told keeps a log lawful, as long as it is short
pub lawful_told : (t : Table) (log : List Event) (i : ℕ) (e : Option What) → (IsShort log → IsLawful (kind_of t) log) → MayTell (kind_of t) (past_of t.shape.min_level log) i e →
    IsShort (log ++ events_of i e) → IsLawful (kind_of t) (log ++ events_of i e)
lawful_told t log i None lawful may short = subst (IsLawful (kind_of t)) (sym (append-nil log)) (lawful (subst IsShort (append-nil log) short))
lawful_told t log i (Some w) lawful may short =
    let before = IsShort-prefix log (by i w ∷ []) short in
    IsLawful-push (kind_of t) log (by i w) (lawful before) (follows_short t log i w before may) (new_may_add t log i w may)
