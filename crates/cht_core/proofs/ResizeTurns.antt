-- The stages to which a grow or a shrink goes: it is about to exchange a head only after it has loaded it, and it answers without a wait only
-- where no further grace may begin.
use Rattle.std.proofs.Common.{◌≡◌, ℕ, ◌+◌, ◌==◌, ◌⊎◌, nat_lt, if◌then◌else◌, Option, Some, None, refl, inl, inr}
use Rattle.marked_word.specs.Head.{is_locked, first_of}
use Rattle.marked_word.specs.Link.{node_of}
use Rattle.section_core.specs.Words.{waits_for}
use Rattle.table_shape.specs.declared.shape.Shape.{Shape}
use Rattle.atomic_step.specs.declared.answer.Answer.{Answer}
use Rattle.atomic_step.proofs.Choices.{either_way}
use Rattle.call_machine.specs.declared.grace.Grace.{Grace}
use Rattle.call_machine.specs.declared.grace.GraceStage.TheVariants as grace
use Rattle.call_machine.specs.declared.grace.Gracing.{Gracing}
use Rattle.call_machine.specs.declared.grace.Gracing.TheVariants as gracing
use Rattle.call_machine.specs.declared.lock.Locking.{Locking}
use Rattle.call_machine.specs.declared.lock.Locking.TheVariants as locking
use Rattle.call_machine.specs.declared.lock.LockStage.TheVariants as lock
use Rattle.call_machine.specs.declared.resize.AfterGrace.{AfterGrace}
use Rattle.call_machine.specs.declared.resize.AfterGrace.TheVariants as after
use Rattle.call_machine.specs.declared.resize.Chains.{Chains}
use Rattle.call_machine.specs.declared.resize.Direction.{Direction}
use Rattle.call_machine.specs.declared.resize.Direction.TheVariants.{Grow, Shrink}
use Rattle.call_machine.specs.declared.resize.JoinStage.TheVariants as join
use Rattle.call_machine.specs.declared.resize.ResizeAlong.{ResizeAlong}
use Rattle.call_machine.specs.declared.resize.ResizeStage.{ResizeStage}
use Rattle.call_machine.specs.declared.resize.ResizeStage.TheVariants as resize
use Rattle.call_machine.specs.declared.resize.Side.{Side}
use Rattle.call_machine.specs.declared.resize.Side.TheVariants.{Even, Odd}
use Rattle.call_machine.specs.declared.resize.UnzipStage.TheVariants as unzip
use Rattle.call_machine.specs.Grace.{held_back, counts_grace}
use Rattle.call_machine.specs.Resize.{Went, goes, half, has_locked, locks_on, joins_from, joins_at, after_put, unzips_on, redirected, next_pair, unlocked, after_grace, graces_on, resize_row}
use Rattle.cht_core.specs.Causes.{IsAwayAt, AwayAt}

-- a poll goes on
abbrev pub GoesOn : Went → Type 0
GoesOn at = IsAwayAt at.1 × ((at.2 ≡ None) ⊎ (at.2 ≡ held_back at.0.grace.raised))

so : (w : ResizeAlong) (s : ResizeStage) → IsAwayAt s → GoesOn (goes w s)
so w s away = (away, inl refl)

joins_away : (o : Option ℕ) → IsAwayAt (joins_from o)
joins_away None = tt
joins_away (Some x) = tt

join_away : (x : ℕ) (o : Option ℕ) → IsAwayAt (joins_at x o)
join_away x None = tt
join_away x (Some y) = tt

put_away : (d : Direction) (chains : Chains) (side : Side) → IsAwayAt (after_put d chains side)
put_away Grow chains Even = tt
put_away Grow chains Odd = tt
put_away Shrink chains side = joins_away chains.even.first

unzips_away : (o : Option ℕ) → IsAwayAt (unzips_on o)
unzips_away None = tt
unzips_away (Some x) = tt

after_away : (w : ResizeAlong) (x : AfterGrace) → IsAwayAt (after_grace w x)
after_away w after.Unzip = unzips_away w.rest
after_away w after.UnlockHead = tt
after_away w after.ClearNewLevel = tt

redirects_on : (d : Direction) (w : ResizeAlong) (side : Side) → GoesOn (redirected d w side)
redirects_on Grow w side = so w (unzips_on w.chains.even.first) (unzips_away w.chains.even.first)
redirects_on Shrink w Even = (tt, inl refl)
redirects_on Shrink w Odd = (tt, inr refl)

next_on : (d : Direction) (w : ResizeAlong) → GoesOn (next_pair d w)
next_on d w =
    either_way GoesOn (nat_lt (w.bucket + 1) (half d w.level)) (goes (record w { bucket = w.bucket + 1; passed = 0 }) (resize.Lock Even lock.LoadHead)) (goes w resize.StoreLevel)
    (tt, inl refl) (tt, inl refl)

unlocks_on : (d : Direction) (w : ResizeAlong) (side : Side) → GoesOn (unlocked d w side)
unlocks_on Grow w Even = (tt, inl refl)
unlocks_on Grow w Odd = next_on Grow w
unlocks_on Shrink w side = next_on Shrink w

-- a bucket is locked
pub locked_on : (d : Direction) (w : ResizeAlong) (side : Side) (first : Option ℕ) → GoesOn (has_locked d w side first)
locked_on Grow w side first = (tt, inl refl)
locked_on Shrink w Even first = (tt, inl refl)
locked_on Shrink w Odd first = (tt, inl refl)

-- a grace goes on, or is over
pub grace_goes : (w : ResizeAlong) (x : AfterGrace) → GoesOn (graces_on w x gracing.Goes)
grace_goes w x = (tt, inl refl)

pub grace_over : (w : ResizeAlong) (x : AfterGrace) → GoesOn (graces_on w x gracing.Over)
grace_over w x = so w (after_grace w x) (after_away w x)

-- any other step but the last one
abbrev pub IsPlain : ResizeStage → Type 0
IsPlain (resize.Lock side s) = ⊥
IsPlain (resize.Grace x grace.LoadSection) = ⊥
IsPlain resize.GiveResizeLock = ⊥
IsPlain _ = Unit {0}

pub plain_on : (shape : Shape) (d : Direction) (w : ResizeAlong) (s : ResizeStage) (word : ℕ) → IsPlain s → GoesOn ((resize_row shape d w s).next word)
plain_on shape d w resize.PutNewLevel word is = (tt, inl refl)
plain_on shape d w (resize.Lock side s) word is = absurd is
plain_on shape d w (resize.PutHead side) word is = so w (after_put d w.chains side) (put_away d w.chains side)
plain_on shape d w (resize.RedirectHead side) word is = redirects_on d w side
plain_on shape d w (resize.Unzip (unzip.LoadMeta x)) word is = (tt, inl refl)
plain_on shape d w (resize.Unzip (unzip.LoadLink x side)) word is = (tt, inl refl)
plain_on shape d w (resize.Unzip (unzip.MoveEdge x side next)) word is = (tt, inr refl)
plain_on shape d w (resize.Join (join.LoadLink x)) word is = (join_away x (node_of word), inl refl)
plain_on shape d w (resize.Join (join.JoinChains x)) word is = (tt, inl refl)
plain_on shape d w (resize.UnlockHead side) word is = unlocks_on d w side
plain_on shape d w (resize.Grace x grace.RaiseCounter) word is = (tt, inl refl)
plain_on shape d w (resize.Grace x grace.LoadSection) word is = absurd is
plain_on shape d w resize.StoreLevel word is = (tt, inr refl)
plain_on shape d w resize.ClearNewLevel word is = (tt, inl refl)
plain_on shape d w resize.GiveResizeLock word is = absurd is

-- BETWEEN ITS POLLS

pub away_so : (s : ResizeStage) (a : Option Answer) → IsAwayAt s → AwayAt s a
away_so s None is = tt
away_so s (Some a) is = is

went_away : (at : Went) → GoesOn at → AwayAt at.1 at.2
went_away at on = away_so at.1 at.2 on.0

-- a poll that has answered is not about to exchange a head
pub resize_rests : (shape : Shape) (d : Direction) (w : ResizeAlong) (s : ResizeStage) (word : ℕ) → (let came = (resize_row shape d w s).next word in AwayAt came.1 came.2)
resize_rests shape d w (resize.Lock side lock.LoadHead) word =
    either_way (λ (at : Locking). (let came : Went = locks_on d w side at in AwayAt came.1 came.2)) (is_locked word) locking.Waits (locking.Goes (lock.LockHead word)) tt tt
resize_rests shape d w (resize.Lock side (lock.LockHead head)) word =
    either_way (λ (at : Locking). (let came : Went = locks_on d w side at in AwayAt came.1 came.2)) (word == head) (locking.Locked (first_of word)) locking.Waits
    (went_away (has_locked d w side (first_of word)) (locked_on d w side (first_of word))) tt
resize_rests shape d w (resize.Grace x grace.LoadSection) word =
    either_way (λ (at : Grace × Gracing). (let came : Went = graces_on (record w { grace = at.0; graces = counts_grace grace.LoadSection w.graces }) x at.1 in AwayAt came.1 came.2)) (waits_for w.grace.raised word)
    (w.grace, gracing.Waits) (if w.grace.next + 1 == shape.seats then (w.grace, gracing.Over) else (record w.grace { next = w.grace.next + 1 }, gracing.Goes)) tt
    (either_way (λ (at : Grace × Gracing). (let came : Went = graces_on (record w { grace = at.0; graces = counts_grace grace.LoadSection w.graces }) x at.1 in AwayAt came.1 came.2)) (w.grace.next + 1 == shape.seats)
    (w.grace, gracing.Over) (record w.grace { next = w.grace.next + 1 }, gracing.Goes) tt tt)
resize_rests shape d w (resize.Grace x grace.RaiseCounter) word = tt
resize_rests shape d w resize.GiveResizeLock word = tt
resize_rests shape d w resize.PutNewLevel word = tt
resize_rests shape d w (resize.PutHead side) word = went_away ((resize_row shape d w (resize.PutHead side)).next word) (plain_on shape d w (resize.PutHead side) word tt)
resize_rests shape d w (resize.RedirectHead side) word = went_away ((resize_row shape d w (resize.RedirectHead side)).next word) (plain_on shape d w (resize.RedirectHead side) word tt)
resize_rests shape d w (resize.Unzip s) word = went_away ((resize_row shape d w (resize.Unzip s)).next word) (plain_on shape d w (resize.Unzip s) word tt)
resize_rests shape d w (resize.Join s) word = went_away ((resize_row shape d w (resize.Join s)).next word) (plain_on shape d w (resize.Join s) word tt)
resize_rests shape d w (resize.UnlockHead side) word = went_away ((resize_row shape d w (resize.UnlockHead side)).next word) (plain_on shape d w (resize.UnlockHead side) word tt)
resize_rests shape d w resize.StoreLevel word = went_away ((resize_row shape d w resize.StoreLevel).next word) (plain_on shape d w resize.StoreLevel word tt)
resize_rests shape d w resize.ClearNewLevel word = tt
