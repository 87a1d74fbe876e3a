-- What is left of a poll falls with each of its steps.
use Rattle.std.proofs.Common.{length, ◌*◌, ◌≡◌, ◌∙◌, ap, ◌<◌, ◌≤◌, ◌+◌, ◌-◌, ℕ, Option, Some, None, refl, ◌==◌, List}
use Rattle.std.specs.Prelude.{min}
use native.Mathlib.Omega.{arith}
use Rattle.marked_word.specs.Head.{is_locked, first_of}
use Rattle.marked_word.specs.Link.{node_of}
use Rattle.table_shape.specs.declared.shape.Shape.{Shape}
use Rattle.table_shape.specs.Shape.{IsSound}
use Rattle.atomic_step.specs.Run.{AreFitting, after_words}
use Rattle.atomic_step.proofs.Choices.{either_way}
use Rattle.call_machine.specs.declared.grace.Grace.{Grace}
use Rattle.call_machine.specs.declared.grace.GraceStage.{GraceStage}
use Rattle.call_machine.specs.declared.grace.GraceStage.TheVariants.{RaiseCounter, LoadSection}
use Rattle.call_machine.specs.declared.grace.Gracing.{Gracing}
use Rattle.call_machine.specs.declared.lock.LockStage.{LockStage}
use Rattle.call_machine.specs.declared.lock.LockStage.TheVariants.{LoadHead, LockHead}
use Rattle.call_machine.specs.declared.lock.Locking.TheVariants as locking
use Rattle.call_machine.specs.declared.resize.AfterGrace.{AfterGrace}
use Rattle.call_machine.specs.declared.resize.AfterGrace.TheVariants as after
use Rattle.call_machine.specs.declared.resize.Direction.{Direction}
use Rattle.call_machine.specs.declared.resize.Direction.TheVariants.{Grow, Shrink}
use Rattle.call_machine.specs.declared.resize.JoinStage.TheVariants as join
use Rattle.call_machine.specs.declared.resize.ResizeAlong.{ResizeAlong}
use Rattle.call_machine.specs.declared.resize.ResizeStage.{ResizeStage}
use Rattle.call_machine.specs.declared.resize.ResizeStage.TheVariants.{PutNewLevel, Lock, PutHead, RedirectHead, Unzip, Join, UnlockHead, StoreLevel, ClearNewLevel, GiveResizeLock}
use Rattle.call_machine.specs.declared.resize.ResizeStage.TheVariants as stage
use Rattle.call_machine.specs.declared.resize.Side.{Side}
use Rattle.call_machine.specs.declared.resize.Side.TheVariants.{Even, Odd}
use Rattle.call_machine.specs.declared.resize.UnzipStage.TheVariants as unzip
use Rattle.call_machine.specs.Resize.{half, Went, goes, looks_at, next_pair, has_locked, locks_on, joins_from, after_put, unzips_on, redirected, unlocked, joins_at, after_grace, graces_on, resize_row}
use Rattle.call_machine.specs.ResizeRuns.{Being, being}
use Rattle.call_machine.specs.SoundResize.{IsSoundResizing, IsSoundResize}
use Rattle.call_machine.proofs.Nodes.{few_slots}
use Rattle.call_machine.proofs.SoundResize.{on_pairs, on_sections, got_soundly}
use Rattle.atomic_step.proofs.Runs.{falls}
use Rattle.call_machine.specs.ResizeMeasure.{node_steps, pair_steps, steps_ahead, grace_steps, lock_steps, side_steps, after_steps, left, left_at, most_left, one_poll}

-- a node that was looked at takes its steps
more_times : (n per : ℕ) → (n + 1) * per ≡ n * per + per
more_times n per = grind arith

node_taken : (slots p per : ℕ) → min (p + 1) 4294967295 ≤ slots → slots < 4294967295 → (slots - p) * per ≡ (slots - min (p + 1) 4294967295) * per + per
node_taken slots p per most small = let one : slots - p ≡ slots - min (p + 1) 4294967295 + 1 = omega (arith, most, small) in ap (λ n. n * per) one ∙ more_times (slots - min (p + 1) 4294967295) per

pair_taken : (apart bucket per : ℕ) → bucket + 1 < apart → (apart - (bucket + 1)) * per ≡ (apart - (bucket + 1 + 1)) * per + per
pair_taken apart bucket per more = let one : apart - (bucket + 1) ≡ apart - (bucket + 1 + 1) + 1 = omega (arith, more) in ap (λ n. n * per) one ∙ more_times (apart - (bucket + 1 + 1)) per

-- a step that goes on leaves less than this
abbrev Falls : Shape → Direction → ℕ → Went → Type 0
Falls shape d n went = went.2 ≡ None → went.0.passed ≤ shape.slots → left shape d went.0 went.1 < n

looks : (shape : Shape) (d : Direction) (w : ResizeAlong) (side : Side) (head : ℕ) → Falls shape d (left shape d w (Lock side LoadHead)) (goes w (Lock side (LockHead head)))
looks shape d w Even head going few = omega arith
looks shape d w Odd head going few = omega arith

locked : (shape : Shape) (d : Direction) (w : ResizeAlong) (side : Side) (head : ℕ) (first : Option ℕ) → Falls shape d (left shape d w (Lock side (LockHead head))) (has_locked d w side first)
locked shape Grow w Even head first going few = omega arith
locked shape Grow w Odd head first going few = omega arith
locked shape Shrink w Even head first going few = omega arith
locked shape Shrink w Odd head first going few = omega arith

joins : (shape : Shape) (w : ResizeAlong) (side : Side) (even : Option ℕ) → Falls shape Shrink (left shape Shrink w (PutHead side)) (goes w (joins_from even))
joins shape w side None going few = omega arith
joins shape w side (Some x) going few = omega arith

put : (shape : Shape) (d : Direction) (w : ResizeAlong) (side : Side) → Falls shape d (left shape d w (PutHead side)) (goes w (after_put d w.chains side))
put shape Grow w Even going few = omega arith
put shape Grow w Odd going few = omega arith
put shape Shrink w side going few = joins shape w side w.chains.even.first going few

unzips : (shape : Shape) (d : Direction) (w : ResizeAlong) (n : ℕ) (next : Option ℕ) → 3 + steps_ahead shape d w < n → Falls shape d n (goes w (unzips_on next))
unzips shape d w n None less going few = omega (arith, less)
unzips shape d w n (Some x) less going few = less

redirects : (shape : Shape) (d : Direction) (w : ResizeAlong) (side : Side) → Falls shape d (left shape d w (RedirectHead side)) (redirected d w side)
redirects shape Grow w side going few = unzips shape Grow w (left shape Grow w (RedirectHead side)) w.chains.even.first (omega arith) going few
redirects shape Shrink w Even going few = omega arith
redirects shape Shrink w Odd going few = omega arith

joins_on : (shape : Shape) (d : Direction) (w : ResizeAlong) (x : ℕ) (next : Option ℕ) → shape.slots < 4294967295 → Falls shape d (left shape d w (Join (join.LoadLink x))) (goes (looks_at w) (joins_at x next))
joins_on shape d w x None small going few = let taken = node_taken shape.slots w.passed (node_steps shape) few small in omega (arith, taken)
joins_on shape d w x (Some y) small going few = let taken = node_taken shape.slots w.passed (node_steps shape) few small in omega (arith, taken)

pairs : (shape : Shape) (d : Direction) (w : ResizeAlong) (side : Side) → IsSoundResizing shape d w → Falls shape d (left shape d w (UnlockHead side)) (next_pair d w)
pairs shape d w side along = on_pairs (Falls shape d (left shape d w (UnlockHead side))) shape d w along
    (λ more going few. let taken = pair_taken (half d w.level) w.bucket (pair_steps shape) more in
    let none : shape.slots - 0 ≡ shape.slots = omega arith in
    let fresh = ap (λ n. n * node_steps shape) none in
    omega (arith, taken, fresh))
    (λ last going few. omega arith)

unlocks : (shape : Shape) (d : Direction) (w : ResizeAlong) (side : Side) → IsSoundResizing shape d w → Falls shape d (left shape d w (UnlockHead side)) (unlocked d w side)
unlocks shape Grow w Even along going few = omega arith
unlocks shape Grow w Odd along going few = pairs shape Grow w Odd along going few
unlocks shape Shrink w side along going few = pairs shape Shrink w side along going few

graced : (shape : Shape) (d : Direction) (w : ResizeAlong) (then_do : AfterGrace) → w.grace.next < shape.seats → Falls shape d (left shape d w (stage.Grace then_do LoadSection)) (goes (record w { grace = w.grace; graces = w.graces }) (after_grace w then_do))
graced shape d w after.Unzip below going few = unzips shape d w (left shape d w (stage.Grace after.Unzip LoadSection)) w.rest (omega (arith, below)) going few
graced shape d w after.UnlockHead below going few = omega (arith, below)
graced shape d w after.ClearNewLevel below going few = omega (arith, below)

pub falls_on : (shape : Shape) (d : Direction) (w : ResizeAlong) (s : ResizeStage) (word : ℕ) → IsSound shape → IsSoundResize shape d w s → Falls shape d (left shape d w s) ((resize_row shape d w s).next word)
falls_on shape d w PutNewLevel word table sound = λ going few. omega arith
falls_on shape d w (Lock side LoadHead) word table sound = either_way (λ came. Falls shape d (left shape d w (Lock side LoadHead)) (locks_on d w side came)) (is_locked word) locking.Waits (locking.Goes (LockHead word)) (λ going few. absurd (cc)) (looks shape d w side word)
falls_on shape d w (Lock side (LockHead head)) word table sound =
    either_way (λ came. Falls shape d (left shape d w (Lock side (LockHead head))) (locks_on d w side came)) (word == head) (locking.Locked (first_of word)) locking.Waits (locked shape d w side head (first_of word)) (λ going few. absurd (cc))
falls_on shape d w (PutHead side) word table sound = put shape d w side
falls_on shape d w (RedirectHead side) word table sound = redirects shape d w side
falls_on shape d w (Unzip (unzip.LoadMeta x)) word table sound = λ going few. let taken = node_taken shape.slots w.passed (node_steps shape) few (few_slots shape table) in omega (arith, taken)
falls_on shape d w (Unzip (unzip.LoadLink x side)) word table sound = λ going few. omega arith
falls_on shape d w (Unzip (unzip.MoveEdge x side next)) word table sound = λ going few. omega arith
falls_on shape d w (Join (join.LoadLink x)) word table sound = joins_on shape d w x (node_of word) (few_slots shape table)
falls_on shape d w (Join (join.JoinChains x)) word table sound = λ going few. omega arith
falls_on shape d w (UnlockHead side) word table sound = unlocks shape d w side sound.along
falls_on shape d w (stage.Grace then_do RaiseCounter) word table sound = λ going few. omega arith
falls_on shape d w (stage.Grace then_do LoadSection) word table sound =
    let below = (sound.step 0).0 in
    on_sections (λ (came : Grace × Gracing). Falls shape d (left shape d w (stage.Grace then_do LoadSection)) (graces_on (record w { grace = came.0; graces = w.graces }) then_do came.1)) shape.seats w.grace word
    (λ going few. absurd (cc)) (graced shape d w then_do below) (λ more going few. omega (arith, below))
falls_on shape d w StoreLevel word table sound = λ going few. omega arith
falls_on shape d w ClearNewLevel word table sound = λ going few. omega arith
falls_on shape d w GiveResizeLock word table sound = λ going few. absurd (cc)

-- over one poll
step_falls : (shape : Shape) (d : Direction) → IsSound shape → (at : Being) (word : ℕ) → IsSoundResize shape d at.0.0 at.0.1 → (one_poll shape d).Fits at word → left_at shape d ((one_poll shape d).got at word) < left_at shape d at
step_falls shape d table (at, Some a) word sound fits = absurd fits.0
step_falls shape d table (at, None) word sound fits = go ((resize_row shape d at.0 at.1).next word) fits.1 (falls_on shape d at.0 at.1 word table sound)
  where
    go : (went : Went) → went.0.passed ≤ shape.slots → Falls shape d (left shape d at.0 at.1) went → left_at shape d (being went) < left shape d at.0 at.1 + 1
    go (w, s, None) few less = let now = less refl few in omega (arith, now)
    go (w, s, Some a) few less = omega arith

step_keeps : (shape : Shape) (d : Direction) → IsSound shape → (at : Being) (word : ℕ) → IsSoundResize shape d at.0.0 at.0.1 → (one_poll shape d).Fits at word → let next = (one_poll shape d).got at word in IsSoundResize shape d next.0.0 next.0.1
step_keeps shape d table (at, Some a) word sound fits = absurd fits.0
step_keeps shape d table (at, None) word sound fits = got_soundly shape d at.0 at.1 word table sound fits.0

pub polls_law : (shape : Shape) (d : Direction) (at : Being) (words : List ℕ) → IsSound shape → IsSoundResize shape d at.0.0 at.0.1 → AreFitting (one_poll shape d) at words
    → length words + left_at shape d (after_words (one_poll shape d) at words) ≤ left_at shape d at
polls_law shape d at words table sound fits = falls (one_poll shape d) (left_at shape d) (λ at. IsSoundResize shape d at.0.0 at.0.1) (step_keeps shape d table) (step_falls shape d table) at words sound fits

-- the most that a poll has left
at_most_times : (n k per : ℕ) → n ≤ k → n * per ≤ k * per
at_most_times n k per less = grind (arith, less)

lock_most : (side : Side) (s : LockStage) → lock_steps side s ≤ 21
lock_most Even LoadHead = omega arith
lock_most Even (LockHead head) = omega arith
lock_most Odd LoadHead = omega arith
lock_most Odd (LockHead head) = omega arith

side_most : (side : Side) → side_steps side ≤ 1
side_most Even = omega arith
side_most Odd = omega arith

grace_most : (shape : Shape) (ahead : ℕ) (g : Grace) (then_do : AfterGrace) (s : GraceStage) → grace_steps shape.seats g s + after_steps ahead then_do ≤ shape.seats + 22 + ahead
grace_most shape ahead g after.Unzip RaiseCounter = omega arith
grace_most shape ahead g after.UnlockHead RaiseCounter = omega arith
grace_most shape ahead g after.ClearNewLevel RaiseCounter = omega arith
grace_most shape ahead g after.Unzip LoadSection = omega arith
grace_most shape ahead g after.UnlockHead LoadSection = omega arith
grace_most shape ahead g after.ClearNewLevel LoadSection = omega arith

stage_most : (shape : Shape) (d : Direction) (w : ResizeAlong) (s : ResizeStage) → left shape d w s ≤ shape.seats + 22 + steps_ahead shape d w
stage_most shape d w PutNewLevel = omega arith
stage_most shape d w (Lock side s) = let most = lock_most side s in omega (arith, most)
stage_most shape d w (PutHead side) = let most = side_most side in omega (arith, most)
stage_most shape d w (Join (join.LoadLink x)) = omega arith
stage_most shape d w (Join (join.JoinChains x)) = omega arith
stage_most shape d w (RedirectHead side) = let most = side_most side in omega (arith, most)
stage_most shape d w (Unzip (unzip.LoadMeta x)) = omega arith
stage_most shape d w (Unzip (unzip.LoadLink x side)) = omega arith
stage_most shape d w (Unzip (unzip.MoveEdge x side next)) = omega arith
stage_most shape d w (UnlockHead side) = let most = side_most side in omega (arith, most)
stage_most shape d w (stage.Grace then_do s) = grace_most shape (steps_ahead shape d w) w.grace then_do s
stage_most shape d w StoreLevel = omega arith
stage_most shape d w ClearNewLevel = omega arith
stage_most shape d w GiveResizeLock = omega arith

pub most_law : (shape : Shape) (d : Direction) (at : Being) → IsSoundResize shape d at.0.0 at.0.1 → left_at shape d at ≤ most_left shape d at.0.0.level
most_law shape d (at, Some a) sound = omega arith
most_law shape d (at, None) sound =
    let w = at.0 in
    let below = sound.along.bucket in
    let nodes = at_most_times (shape.slots - w.passed) shape.slots (node_steps shape) (omega arith) in
    let all = at_most_times (half d w.level - (w.bucket + 1) + 1) (half d w.level) (pair_steps shape) (omega (arith, below)) in
    let one = more_times (half d w.level - (w.bucket + 1)) (pair_steps shape) in
    let most = stage_most shape d w at.1 in
    omega (arith, nodes, all, one, most)

pub polls_end_law : (shape : Shape) (d : Direction) (at : Being) (words : List ℕ) → IsSound shape → IsSoundResize shape d at.0.0 at.0.1 → AreFitting (one_poll shape d) at words → length words ≤ most_left shape d at.0.0.level
polls_end_law shape d at words table sound fits = let falls = polls_law shape d at words table sound fits in let most = most_law shape d at sound in omega (arith, falls, most)
