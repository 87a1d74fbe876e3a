-- The heads that a grow or a shrink has locked are what its Locks and Unlocks leave.
use Rattle.std.proofs.Common.{◌≡◌, ◌∙◌, sym, ap, ◌<◌, ◌+◌, ◌-◌, ℕ, zero, suc, Bool, true, false, Option, Some, None, refl, cond, ◌==◌, List, [], ◌∷◌}
use Rattle.std.specs.Prelude.{◌&&◌, not, filter}
use Rattle.atomic_step.specs.Monitor as monitor
use native.Mathlib.Omega.{arith}
use Rattle.marked_word.specs.Head.{is_locked, first_of}
use Rattle.marked_word.specs.Link.{node_of}
use Rattle.intern_log.specs.declared.event.What.TheVariants as what
use Rattle.table_shape.specs.declared.shape.Shape.{Shape}
use Rattle.atomic_step.specs.Event.{event_of}
use Rattle.atomic_step.specs.Monitor.{after_one, after_all, is_lock_of, is_held}
use Rattle.atomic_step.proofs.Choices.{either_way, found_equal}
use Rattle.call_machine.specs.declared.grace.Grace.{Grace}
use Rattle.call_machine.specs.declared.grace.GraceStage.TheVariants.{RaiseCounter, LoadSection}
use Rattle.call_machine.specs.declared.grace.Gracing.{Gracing}
use Rattle.call_machine.specs.declared.lock.LockStage.{LockStage}
use Rattle.call_machine.specs.declared.lock.LockStage.TheVariants.{LoadHead, LockHead}
use Rattle.call_machine.specs.declared.lock.Locking.TheVariants as locking
use Rattle.call_machine.specs.declared.resize.AfterGrace.{AfterGrace}
use Rattle.call_machine.specs.declared.resize.AfterGrace.TheVariants as after
use Rattle.call_machine.specs.declared.resize.Direction.{Direction}
use Rattle.call_machine.specs.declared.resize.Direction.TheVariants.{Grow, Shrink}
use Rattle.call_machine.specs.declared.resize.JoinStage.TheVariants as join
use Rattle.call_machine.specs.declared.resize.ResizeAlong.{ResizeAlong}
use Rattle.call_machine.specs.declared.resize.ResizeStage.{ResizeStage}
use Rattle.call_machine.specs.declared.resize.ResizeStage.TheVariants.{PutNewLevel, Lock, PutHead, RedirectHead, Unzip, Join, UnlockHead, StoreLevel, ClearNewLevel, GiveResizeLock}
use Rattle.call_machine.specs.declared.resize.ResizeStage.TheVariants as stage
use Rattle.call_machine.specs.declared.resize.Side.{Side}
use Rattle.call_machine.specs.declared.resize.Side.TheVariants.{Even, Odd}
use Rattle.call_machine.specs.declared.resize.UnzipStage.TheVariants as unzip
use Rattle.call_machine.specs.Resize.{end_level, half, bucket_at, Went, goes, looks_at, has_locked, locks_on, joins_from, after_put, unzips_on, redirected, unlocked, joins_at, after_grace, graces_on, next_pair, resize_row}
use Rattle.call_machine.specs.ResizeRuns.{begun, IsRun, ends_at, events_of_run, is_done}
use Rattle.call_machine.specs.SoundResize.{LeadsToLevel, IsSoundResizing, HasNewSide, HasOldSide, IsSoundAfter, IsSoundResize}
use Rattle.call_machine.proofs.SoundResize.{begins_soundly, on_pairs, on_sections}
use Rattle.std.proofs.Common.{add-one}
use Rattle.call_machine.specs.ResizeLocks.{row_left, pairs_left, left_of, old_heads, all_heads, heads_waiting, locked_heads}
use Rattle.call_machine.proofs.ResizeRuns.{equal, is_false, lock_either, runs_on}
use Rattle.call_machine.proofs.ResizeEnds.{at_the_end, ran_level}

-- the same head, and another one
differ : (n k : ℕ) → ¬ (n ≡ k) → (n == k) ≡ false
differ n k off = is_false (n == k) (λ is. off (found_equal n k is))

other_row : (r b s c : ℕ) → ¬ (r ≡ s) → is_lock_of r b (s, c) ≡ false
other_row r b s c off = ap (λ x. x && (c == b)) (differ s r (λ is. off (sym is)))

other_bucket : (r b s c : ℕ) → ¬ (b ≡ c) → is_lock_of r b (s, c) ≡ false
other_bucket r b s c off = and_false (s == r) (c == b) (differ c b (λ is. off (sym is)))
  where
    and_false : (x y : Bool) → y ≡ false → x && y ≡ false
    and_false true y is = is
    and_false false y is = refl

-- a head that is not among others is locked, and one that is among them unlocked
skips : (r b : ℕ) (x : ℕ × ℕ) (xs : List (ℕ × ℕ)) → is_lock_of r b x ≡ false → is_held r b xs ≡ false → is_held r b (x ∷ xs) ≡ false
skips r b x xs other rest = ap (λ c. cond c true (is_held r b xs)) other ∙ rest

adds : (r b : ℕ) (heads : List (ℕ × ℕ)) → is_held r b heads ≡ false → monitor.locked heads (what.Lock r b) ≡ Some ((r, b) ∷ heads)
adds r b heads fresh = ap (λ x. cond x None (Some ((r, b) ∷ heads))) fresh

abbrev is_other : ℕ → ℕ → ℕ × ℕ → Bool
is_other r b lock = not (is_lock_of r b lock)

leaves : (r b : ℕ) (xs : List (ℕ × ℕ)) → is_held r b xs ≡ false → filter (is_other r b) xs ≡ xs
leaves r b [] fresh = refl
leaves r b (x ∷ xs) fresh = go (is_lock_of r b x) (leaves r b xs) fresh
  where
    go : (same : Bool) → (is_held r b xs ≡ false → filter (is_other r b) xs ≡ xs) → cond same true (is_held r b xs) ≡ false → cond (not same) (x ∷ filter (is_other r b) xs) (filter (is_other r b) xs) ≡ x ∷ xs
    go true rest fresh = absurd (cc)
    go false rest fresh = ap (λ ys. x ∷ ys) (rest fresh)

same_head : (r b : ℕ) → is_lock_of r b (r, b) ≡ true
same_head r b = ap (λ x. x && (b == b)) (equal r) ∙ equal b

takes : (r b : ℕ) (xs : List (ℕ × ℕ)) → is_held r b xs ≡ false → monitor.locked ((r, b) ∷ xs) (what.Unlock r b) ≡ Some xs
takes r b xs fresh = let others = filter (is_other r b) xs in
    ap (λ t. cond (cond t true (is_held r b xs)) (Some (cond (not t) ((r, b) ∷ others) others)) None) (same_head r b) ∙ ap Some (leaves r b xs fresh)

takes_second : (r b : ℕ) (x : ℕ × ℕ) (xs : List (ℕ × ℕ)) → is_lock_of r b x ≡ false → is_held r b xs ≡ false → monitor.locked (x ∷ (r, b) ∷ xs) (what.Unlock r b) ≡ Some (x ∷ xs)
takes_second r b x xs other fresh = let others = filter (is_other r b) xs in
    ap (λ t. cond (cond t true (is_held r b ((r, b) ∷ xs))) (Some (cond (not t) (x ∷ filter (is_other r b) ((r, b) ∷ xs)) (filter (is_other r b) ((r, b) ∷ xs)))) None) other
    ∙ ap (λ t. cond (cond t true (is_held r b xs)) (Some (x ∷ cond (not t) ((r, b) ∷ others) others)) None) (same_head r b) ∙ ap (λ ys. Some (x ∷ ys)) (leaves r b xs fresh)

-- heads that are not among those that are left
not_in_row : (r b s n : ℕ) → ((k : ℕ) → k < n → is_lock_of r (b) (s, k) ≡ false) → is_held (r) (b) (row_left s n) ≡ false
not_in_row r b s zero off = refl
not_in_row r b s (suc n) off = skips (r) (b) (s, n) (row_left s n) (off n (omega arith)) (not_in_row r b s n (λ k less. off k (omega (arith, less))))

not_in_pairs : (r b s apart n : ℕ) → ((k : ℕ) → k < n → (is_lock_of r (b) (s, k) ≡ false) × (is_lock_of r (b) (s, k + apart) ≡ false)) → is_held (r) (b) (pairs_left s apart n) ≡ false
not_in_pairs r b s apart zero off = refl
not_in_pairs r b s apart (suc n) off =
    skips (r) (b) (s, n + apart) ((s, n) ∷ pairs_left s apart n) (off n (omega arith)).1
    (skips (r) (b) (s, n) (pairs_left s apart n) (off n (omega arith)).0 (not_in_pairs r b s apart n (λ k less. off k (omega (arith, less)))))

-- those of another row, and those of the pairs to come
new_in_left : (d : Direction) (r b level n : ℕ) → ¬ (r ≡ level) → is_held (r) (b) (left_of d level n) ≡ false
new_in_left Grow r b level n off = not_in_row r b level n (λ k less. other_row r b level k off)
new_in_left Shrink r b level n off = not_in_pairs r b level (half Shrink level) n (λ k less. (other_row r b level k off, other_row r b level (k + half Shrink level) off))

new_in_old : (d : Direction) (r b level bucket : ℕ) → ¬ (r ≡ level) → is_held (r) (b) (old_heads d level bucket) ≡ false
new_in_old Grow r b level bucket off = skips (r) (b) (level, bucket) _ (other_row r b level bucket off) (new_in_left Grow r b level bucket off)
new_in_old Shrink r b level bucket off =
    skips (r) (b) (level, bucket + half Shrink level) ((level, bucket) ∷ left_of Shrink level bucket) (other_row r b level (bucket + half Shrink level) off)
    (skips (r) (b) (level, bucket) (left_of Shrink level bucket) (other_row r b level bucket off) (new_in_left Shrink r b level bucket off))

pub lower_in_left : (d : Direction) (level bucket : ℕ) → bucket < half d level → is_held (level) (bucket) (left_of d level bucket) ≡ false
lower_in_left Grow level bucket below = not_in_row level bucket level bucket (λ k less. other_bucket level bucket level k (λ is. omega (arith, less, is)))
lower_in_left Shrink level bucket below = not_in_pairs level bucket level (half Shrink level) bucket
    (λ k less. (other_bucket level bucket level k (λ is. omega (arith, less, is)), other_bucket level bucket level (k + half Shrink level) (λ is. omega (arith, below, is))))

pub upper_in_left : (level bucket apart : ℕ) → bucket < apart → is_held (level) (bucket + apart) ((level, bucket) ∷ pairs_left level apart bucket) ≡ false
upper_in_left level bucket apart below =
    skips (level) (bucket + apart) (level, bucket) (pairs_left level apart bucket) (other_bucket level (bucket + apart) level bucket (λ is. omega (arith, below, is)))
    (not_in_pairs level (bucket + apart) level apart bucket
    (λ k less. (other_bucket level (bucket + apart) level k (λ is. omega (arith, less, is)), other_bucket level (bucket + apart) level (k + apart) (λ is. omega (arith, less, is)))))

-- after a pair its old heads are among those that are left
left_after : (d : Direction) (level bucket : ℕ) → left_of d level (bucket + 1) ≡ old_heads d level bucket
left_after Grow level bucket = ap (λ n. row_left level n) (add-one bucket)
left_after Shrink level bucket = ap (λ n. pairs_left level (half Shrink level) n) (add-one bucket)

-- the heads after each step
abbrev Leads : Direction → Option (List (ℕ × ℕ)) → Went → Type 0
Leads d heads went = heads ≡ Some (locked_heads d went.0 went.1)

same_lock : (d : Direction) (w : ResizeAlong) (side : Side) (s t : LockStage) → locked_heads d w (Lock side s) ≡ locked_heads d w (Lock side t)
same_lock d w Even s t = refl
same_lock d w Odd s t = refl

locked : (shape : Shape) (d : Direction) (w : ResizeAlong) (side : Side) (s : LockStage) (first : Option ℕ) → IsSoundResizing shape d w → HasOldSide d side
    → Leads d (monitor.locked (locked_heads d w (Lock side s)) (what.Lock w.level (bucket_at d w side))) (has_locked d w side first)
locked shape Grow w Even s first along has = adds w.level w.bucket (left_of Grow w.level w.bucket) (lower_in_left Grow w.level w.bucket along.bucket)
locked shape Grow w Odd s first along has = absurd has
locked shape Shrink w Even s first along has = adds w.level w.bucket (left_of Shrink w.level w.bucket) (lower_in_left Shrink w.level w.bucket along.bucket)
locked shape Shrink w Odd s first along has = adds w.level (w.bucket + half Shrink w.level) ((w.level, w.bucket) ∷ left_of Shrink w.level w.bucket) (upper_in_left w.level w.bucket (half Shrink w.level) along.bucket)

other_level : (shape : Shape) (d : Direction) (level : ℕ) → LeadsToLevel shape d level → ¬ (end_level d level ≡ level)
other_level shape Grow level leads is = omega (arith, is)
other_level shape Shrink level leads is = omega (arith, leads, is)

joins : (d : Direction) (w : ResizeAlong) (even : Option ℕ) → locked_heads d w (joins_from even) ≡ all_heads d w.level w.bucket
joins d w None = refl
joins d w (Some x) = refl

put : (shape : Shape) (d : Direction) (w : ResizeAlong) (side : Side) → IsSoundResizing shape d w → HasNewSide d side
    → Leads d (monitor.locked (locked_heads d w (PutHead side)) (what.Lock (end_level d w.level) (bucket_at d w side))) (goes w (after_put d w.chains side))
put shape Grow w Even along has = adds (w.level + 1) w.bucket (old_heads Grow w.level w.bucket) (new_in_old Grow (w.level + 1) w.bucket w.level w.bucket (other_level shape Grow w.level along.level))
put shape Grow w Odd along has =
    let apart = along.bucket in
    adds (w.level + 1) (w.bucket + half Grow w.level) ((w.level + 1, w.bucket) ∷ old_heads Grow w.level w.bucket)
    (skips (w.level + 1) (w.bucket + half Grow w.level) (w.level + 1, w.bucket) (old_heads Grow w.level w.bucket) (other_bucket (w.level + 1) (w.bucket + half Grow w.level) (w.level + 1) w.bucket (λ is. omega (arith, apart, is)))
    (new_in_old Grow (w.level + 1) (w.bucket + half Grow w.level) w.level w.bucket (other_level shape Grow w.level along.level)))
put shape Shrink w Even along has =
    adds (w.level - 1) w.bucket (old_heads Shrink w.level w.bucket) (new_in_old Shrink (w.level - 1) w.bucket w.level w.bucket (other_level shape Shrink w.level along.level))
    ∙ ap Some (sym (joins Shrink w w.chains.even.first))
put shape Shrink w Odd along has = absurd has

unzips : (w : ResizeAlong) (next : Option ℕ) → locked_heads Grow w (unzips_on next) ≡ all_heads Grow w.level w.bucket
unzips w None = refl
unzips w (Some x) = refl

redirects : (d : Direction) (w : ResizeAlong) (side : Side) → Leads d (Some (all_heads d w.level w.bucket)) (redirected d w side)
redirects Grow w side = ap Some (sym (unzips w w.chains.even.first))
redirects Shrink w Even = refl
redirects Shrink w Odd = refl

next_pairs : (shape : Shape) (d : Direction) (w : ResizeAlong) → IsSoundResizing shape d w → Leads d (Some (old_heads d w.level w.bucket)) (next_pair d w)
next_pairs shape d w along = on_pairs (Leads d (Some (old_heads d w.level w.bucket))) shape d w along (λ more. ap Some (sym (left_after d w.level w.bucket))) (λ last. refl)

unlocks : (shape : Shape) (d : Direction) (w : ResizeAlong) (side : Side) → IsSoundResizing shape d w → HasNewSide d side
    → Leads d (monitor.locked (locked_heads d w (UnlockHead side)) (what.Unlock (end_level d w.level) (bucket_at d w side))) (unlocked d w side)
unlocks shape Grow w Even along has =
    let apart = along.bucket in
    takes_second (w.level + 1) w.bucket (w.level + 1, w.bucket + half Grow w.level) (old_heads Grow w.level w.bucket)
    (other_bucket (w.level + 1) w.bucket (w.level + 1) (w.bucket + half Grow w.level) (λ is. omega (arith, apart, is)))
    (new_in_old Grow (w.level + 1) w.bucket w.level w.bucket (other_level shape Grow w.level along.level))
unlocks shape Grow w Odd along has =
    takes (w.level + 1) (w.bucket + half Grow w.level) (old_heads Grow w.level w.bucket) (new_in_old Grow (w.level + 1) (w.bucket + half Grow w.level) w.level w.bucket (other_level shape Grow w.level along.level))
    ∙ next_pairs shape Grow w along
unlocks shape Shrink w Even along has =
    takes (w.level - 1) w.bucket (old_heads Shrink w.level w.bucket) (new_in_old Shrink (w.level - 1) w.bucket w.level w.bucket (other_level shape Shrink w.level along.level))
    ∙ next_pairs shape Shrink w along
unlocks shape Shrink w Odd along has = absurd has

graced : (d : Direction) (w : ResizeAlong) (then_do : AfterGrace) → IsSoundAfter d w then_do → locked_heads d w (after_grace w then_do) ≡ heads_waiting d w.level w.bucket then_do
graced Grow w after.Unzip at = unzips w w.rest
graced Shrink w after.Unzip at = absurd at
graced d w after.UnlockHead at = refl
graced d w after.ClearNewLevel at = refl

none_left : (d : Direction) (level : ℕ) → left_of d level 0 ≡ []
none_left Grow level = refl
none_left Shrink level = refl

pub heads_step : (shape : Shape) (d : Direction) (w : ResizeAlong) (s : ResizeStage) (word : ℕ) → IsSoundResize shape d w s
    → let does = resize_row shape d w s in Leads d (after_one monitor.locked (locked_heads d w s) (event_of [] does.step word)) (does.next word)
heads_step shape d w PutNewLevel word sound = refl
heads_step shape d w (Lock side LoadHead) word sound = either_way (λ came. Leads d (Some (locked_heads d w (Lock side LoadHead))) (locks_on d w side came)) (is_locked word) locking.Waits (locking.Goes (LockHead word))
    refl (ap Some (same_lock d w side LoadHead (LockHead word)))
heads_step shape d w (Lock side (LockHead head)) word sound =
    lock_either (λ e went. Leads d (after_one monitor.locked (locked_heads d w (Lock side (LockHead head))) e) went) (locks_on d w side) (word == head) (what.Lock w.level (bucket_at d w side)) (locking.Locked (first_of word)) locking.Waits
    (locked shape d w side (LockHead head) (first_of word) sound.along sound.at) (ap Some (same_lock d w side (LockHead head) LoadHead))
heads_step shape d w (PutHead side) word sound = put shape d w side sound.along sound.at
heads_step shape d w (RedirectHead side) word sound = redirects d w side
heads_step shape d w (Unzip (unzip.LoadMeta x)) word sound = refl
heads_step shape d w (Unzip (unzip.LoadLink x side)) word sound = refl
heads_step shape d w (Unzip (unzip.MoveEdge x side next)) word sound = refl
heads_step shape d w (Join (join.LoadLink x)) word sound = go (node_of word)
  where
    go : (next : Option ℕ) → Leads d (Some (all_heads d w.level w.bucket)) (goes (looks_at w) (joins_at x next))
    go None = refl
    go (Some y) = refl
heads_step shape d w (Join (join.JoinChains x)) word sound = refl
heads_step shape d w (UnlockHead side) word sound = unlocks shape d w side sound.along sound.at
heads_step shape d w (stage.Grace then_do RaiseCounter) word sound = refl
heads_step shape d w (stage.Grace then_do LoadSection) word sound =
    on_sections (λ (came : Grace × Gracing). Leads d (Some (heads_waiting d w.level w.bucket then_do)) (graces_on (record w { grace = came.0; graces = w.graces }) then_do came.1)) shape.seats w.grace word
    refl (ap Some (sym (graced d (record w { grace = w.grace; graces = w.graces }) then_do sound.at))) (λ more. refl)
heads_step shape d w StoreLevel word sound = refl
heads_step shape d w ClearNewLevel word sound = refl
heads_step shape d w GiveResizeLock word sound = refl

-- over a whole run
pub heads_law : (shape : Shape) (d : Direction) (level : ℕ) (words : List ℕ) → IsRun shape d level words
    → let end = ends_at shape d level words in after_all monitor.locked (Some []) (events_of_run shape d level words) ≡ Some (locked_heads d end.0.0 end.0.1)
heads_law shape d level words run =
    ap (λ heads. after_all monitor.locked (Some heads) (events_of_run shape d level words)) (sym (none_left d level))
    ∙ runs_on shape d monitor.locked (λ w s done. locked_heads d w s) run.0 (λ w s word sound fits. heads_step shape d w s word sound) (begun level) words (begins_soundly shape d level run.1) run.2

pub whole_heads_law : (shape : Shape) (d : Direction) (level : ℕ) (words : List ℕ) → IsRun shape d level words → is_done (ends_at shape d level words).1 ≡ true
    → after_all monitor.locked (Some []) (events_of_run shape d level words) ≡ Some (left_of d level (half d level))
whole_heads_law shape d level words run done =
    let end = ends_at shape d level words in
    let w = end.0.0 in
    let same = ran_level shape d level words run in
    let last = at_the_end shape d level words run done in
    heads_law shape d level words run ∙ ap (λ s. Some (locked_heads d w s)) last.0 ∙ ap Some (sym (left_after d w.level w.bucket)) ∙ ap (λ n. Some (left_of d w.level n)) last.1 ∙ ap (λ l. Some (left_of d l (half d l))) same
