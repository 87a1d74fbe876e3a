-- A poll of a clean goes on in time.
use Rattle.std.proofs.Common.{◌≡◌, ◌≢◌, ◌∙◌, ◌<◌, ◌≤◌, ◌+◌, ◌-◌, ◌*◌, ◌/◌, ◌^◌, ◌==◌, ℕ, cond, Option, Some, None, List, [], ◌∷◌, ◌++◌, length, length-append, refl, ap, subst, suc, suc-mul}
use native.Mathlib.Omega.{arith}
use Rattle.std.specs.Prelude.{min, nat_lt}
use Rattle.std.proofs.Math.Nat.{mul-le-mul_right}
use Rattle.std.proofs.lemmas.Bool.{ltb-true}
use Rattle.section_core.specs.Words.{waits_for}
use Rattle.marked_word.specs.Head.{is_locked, first_of}
use Rattle.marked_word.specs.Link.{node_of}
use Rattle.table_shape.specs.declared.shape.Shape.{Shape}
use Rattle.table_shape.specs.Shape.{IsSound}
use Rattle.atomic_step.specs.declared.answer.Answer.{Answer}
use Rattle.atomic_step.proofs.Choices.{where_it_is, either_way, found_equal, not_equal}
use Rattle.call_machine.specs.declared.clean.CleanAlong.{CleanAlong}
use Rattle.call_machine.specs.declared.clean.CleanStage.{CleanStage}
use Rattle.call_machine.specs.declared.clean.CleanStage.TheVariants.{LoadLevel, Lock, Pass, UnlockHead, Grace, Free, GiveResizeLock}
use Rattle.call_machine.specs.declared.clean.Freeing.{Freeing}
use Rattle.call_machine.specs.declared.clean.Freeing.TheVariants.{Again, Last}
use Rattle.call_machine.specs.declared.grace.Grace as grace
use Rattle.call_machine.specs.declared.grace.GraceStage.TheVariants.{RaiseCounter, LoadSection}
use Rattle.call_machine.specs.declared.grace.Gracing.{Gracing}
use Rattle.call_machine.specs.declared.grace.Gracing.TheVariants as gracing
use Rattle.call_machine.specs.declared.lock.LockStage.{LockStage}
use Rattle.call_machine.specs.declared.lock.LockStage.TheVariants.{LoadHead, LockHead}
use Rattle.call_machine.specs.declared.lock.Locking.TheVariants as locking
use Rattle.call_machine.specs.declared.pass.Cleaning.{Cleaning}
use Rattle.call_machine.specs.declared.pass.FreeStage.{FreeStage}
use Rattle.call_machine.specs.declared.pass.FreeStage.TheVariants.{PutNextGeneration, FreeSlot}
use Rattle.call_machine.specs.declared.pass.PassStage.TheVariants.{LoadCount, LoadLink, Unlink}
use Rattle.call_machine.specs.declared.pass.Waiting.{Waiting}
use Rattle.call_machine.specs.Clean.{Went, goes, waits_at, raises, cleans_on, locks_on, counts_pass, ends, next_bucket, graces_on, frees_on, clean_row}
use Rattle.call_machine.specs.CleanMeasure.{passes, most_full, buckets_left, rounds_left, steps_left, round, left, IsLoaded, IsOnPoll, one_poll}
use Rattle.call_machine.specs.SweepMeasure.{free_left}
use Rattle.call_machine.specs.WholeClean.{polled_on, cleans, begun}
use Rattle.call_machine.proofs.FullPasses.{few_step, few_at_law}
use Rattle.call_machine.proofs.WholeClean.{Keeps, got_keeps, begins}
use Rattle.atomic_step.proofs.Runs.{keeps}
use Rattle.atomic_step.specs.SoundStep.{IsLevel}
use Rattle.call_machine.proofs.SoundClean.{clean_law}
use Rattle.atomic_step.specs.Run.{AreFitting, after_words}
use Rattle.call_machine.specs.Pass.{begins_pass, passes_on, first_behind, after_unlink, all_freed}
use Rattle.call_machine.specs.SoundClean.{IsSoundClean}
use Rattle.call_machine.proofs.Nodes.{few_slots}

-- a round that is left has its steps
same_round : (r n a b : ℕ) → a < b → r * n + a < r * n + b
same_round r n a b less = omega (arith, less)

times_more : (r k n : ℕ) → (r + k) * n ≡ r * n + k * n
times_more r k n = grind arith

next_round : (r s n a b : ℕ) → r + 1 ≤ s → a < n → r * n + a < s * n + b
next_round r s n a b more less =
    let apart : s ≡ r + 1 + (s - (r + 1)) = omega (arith, more) in
    let one = times_more r 1 n in let rest = times_more (r + 1) (s - (r + 1)) n in
    let all : s * n ≡ (r + 1) * n + (s - (r + 1)) * n = ap (λ t. t * n) apart ∙ rest in
    let single : 1 * n ≡ n = grind arith in
    omega (arith, one, all, single, less)

-- the outcome has fewer steps left, if the poll does not answer
abbrev Lowers : Shape → ℕ → Went → Type 0
Lowers shape n went = went.2 ≡ None → left shape went.0 went.1 < n

fewer_round : (r s n a b : ℕ) → r ≤ s → a < b → r * n + a < s * n + b
fewer_round r s n a b fewer less =
    let apart : s ≡ r + (s - r) = omega (arith, fewer) in
    let all : s * n ≡ r * n + (s - r) * n = ap (λ t. t * n) apart ∙ times_more r (s - r) n in
    omega (arith, all, less)

-- at the next node, or at the end of the chain
on_pass : (shape : Shape) (v : CleanAlong) (next : Option ℕ) (r a : ℕ) → rounds_left shape v UnlockHead ≤ r → 515 + shape.seats + 3 * (shape.slots - v.cleaning.passed) < a → left shape v (cleans_on (passes_on next)) < r * round shape + a
on_pass shape v None r a fewer less = fewer_round (rounds_left shape v UnlockHead) r (round shape) (514 + shape.seats) a fewer (omega (arith, less))
on_pass shape v (Some x) r a fewer less = fewer_round (rounds_left shape v UnlockHead) r (round shape) (515 + shape.seats + 3 * (shape.slots - v.cleaning.passed)) a fewer less

-- a pass that ends with 256 slots that wait has one less to come, and so has the bucket where slots of others waited
again : (rest full most len new : ℕ) → full < most → most < 4294967295 → len ≡ 256 → new ≤ len → (new ≡ 256 → rest + (most - min (full + 1) 4294967295) + 1 ≤ rest + (most - full) + min (len - new) 1) × (new ≢ 256 → rest + (most - full) + 1 ≤ rest + (most - full) + min (len - new) 1)
again rest full most len new few small is counted = (λ all. grind (arith, few, small, is, all), λ some. grind (arith, few, is, some, counted))

bucket_on : (width bucket per full most len carry : ℕ) → bucket + 1 < width → full < most → per ≡ most + 1 → (width - (bucket + 1 + 1)) * per + (most - 0) + min len 1 + 1 ≤ (width - (bucket + 1)) * per + (most - full) + carry
bucket_on width bucket per full most len carry more few is =
    let apart : width - (bucket + 1) ≡ width - (bucket + 1 + 1) + 1 = omega (arith, more) in
    let all : (width - (bucket + 1)) * per ≡ (width - (bucket + 1 + 1)) * per + 1 * per = ap (λ n. n * per) apart ∙ times_more (width - (bucket + 1 + 1)) 1 per in
    let single : 1 * per ≡ per = grind arith in
    grind (arith, all, single, few, is)

ends_lower : (shape : Shape) (w : CleanAlong) (items : List Waiting) → Lowers shape (left shape w UnlockHead) (ends w items)
ends_lower shape w [] = λ none. fewer_round 0 (rounds_left shape w UnlockHead) (round shape) 0 (514 + shape.seats) (omega arith) (omega arith)
ends_lower shape w (x ∷ xs) = λ none. fewer_round 0 (rounds_left shape w UnlockHead) (round shape) (512 + (shape.seats + 1)) (514 + shape.seats) (omega arith) (omega arith)

bucket_lowers : (shape : Shape) (w : CleanAlong) → IsSound shape → IsSoundClean shape w UnlockHead → w.full_passes < passes shape → Lowers shape (left shape w UnlockHead) (next_bucket w)
bucket_lowers shape w table sound few =
    let c = w.cleaning in
    let next : Went = goes (record w { cleaning = record w.cleaning { bucket = w.cleaning.bucket + 1 }; full_passes = 0 }) (Lock LoadHead) in
    let last : Went = ends w w.cleaning.waiting.items in
    let more = nat_lt (w.cleaning.bucket + 1) (2 ^ w.cleaning.row) in
    let full : CleanAlong = record w { full_passes = min (w.full_passes + 1) 4294967295 } in
    let slots = few_slots shape table in
    let small : passes shape < 4294967295 = omega (arith, slots) in
    let rest : ℕ = (2 ^ w.cleaning.row - (w.cleaning.bucket + 1)) * (passes shape + 1) in
    where_it_is (Lowers shape (left shape w UnlockHead)) (length w.cleaning.waiting.items == 256) (raises (counts_pass w) Again) (cond more next last)
    (λ many. let both = again rest w.full_passes (passes shape) (length w.cleaning.waiting.items) w.cleaning.pass_waiting few small (found_equal (length w.cleaning.waiting.items) 256 many) sound.cleaning.pass_waiting in
    where_it_is (λ v. Lowers shape (left shape w UnlockHead) (raises v Again)) (w.cleaning.pass_waiting == 256) full w
    (λ all. λ none. fewer_round (rounds_left shape full (Grace Again RaiseCounter)) (rounds_left shape w UnlockHead) (round shape) (512 + (shape.seats + 1)) (514 + shape.seats) (both.0 (found_equal w.cleaning.pass_waiting 256 all)) (omega arith))
    (λ some. λ none. fewer_round (rounds_left shape w (Grace Again RaiseCounter)) (rounds_left shape w UnlockHead) (round shape) (512 + (shape.seats + 1)) (514 + shape.seats) (both.1 (not_equal w.cleaning.pass_waiting 256 some)) (omega arith)))
    (λ room. where_it_is (Lowers shape (left shape w UnlockHead)) more next last
    (λ inside. λ none. next_round _ (rounds_left shape w UnlockHead) (round shape) (517 + shape.seats + 3 * shape.slots) (514 + shape.seats)
    (bucket_on (2 ^ w.cleaning.row) w.cleaning.bucket (passes shape + 1) w.full_passes (passes shape) (length w.cleaning.waiting.items) (min (length w.cleaning.waiting.items - w.cleaning.pass_waiting) 1) (ltb-true (w.cleaning.bucket + 1) (2 ^ w.cleaning.row) inside) few refl) (omega arith))
    (λ end. ends_lower shape w w.cleaning.waiting.items))

locks_lower : (shape : Shape) (w : CleanAlong) (s : LockStage) (word : ℕ) → Lowers shape (left shape w (Lock s)) ((clean_row shape w (Lock s)).next word)
locks_lower shape w LoadHead word =
    let r : ℕ = rounds_left shape w (Lock LoadHead) in
    either_way (λ came. Lowers shape (left shape w (Lock LoadHead)) (locks_on w came)) (is_locked word) locking.Waits (locking.Goes (LockHead word)) (λ none. absurd (cc))
    (λ none. same_round r (round shape) (516 + shape.seats + 3 * shape.slots) (517 + shape.seats + 3 * shape.slots) (omega arith))
locks_lower shape w (LockHead head) word =
    let v : CleanAlong = record w { cleaning = begins_pass w.cleaning (first_of word) } in
    either_way (λ came. Lowers shape (left shape w (Lock (LockHead head))) (locks_on w came)) (word == head) (locking.Locked (first_of word)) locking.Waits
    (λ none. on_pass shape v (first_of word) (rounds_left shape w (Lock (LockHead head))) (516 + shape.seats + 3 * shape.slots) (omega arith) (omega arith)) (λ none. absurd (cc))

-- an unlinked slot waits with those of its pass
unlinks_lower : (shape : Shape) (w : CleanAlong) (x g : ℕ) (next : Option ℕ) (word : ℕ) → Lowers shape (left shape w (Pass (Unlink x g next))) ((clean_row shape w (Pass (Unlink x g next))).next word)
unlinks_lower shape w x g next word =
    let n : ℕ = left shape w (Pass (Unlink x g next)) in
    let c : Cleaning = record w.cleaning { first = first_behind w.cleaning.last w.cleaning.first next; unlinked = min (w.cleaning.unlinked + 1) 18446744073709551615 } in
    let one : Waiting = record { slot = x; generation = g } in
    let more : Cleaning = record c { waiting = record { items = c.waiting.items ++ one ∷ [] }; pass_waiting = c.pass_waiting + 1 } in
    let count = length-append w.cleaning.waiting.items (one ∷ []) in
    either_way (λ d. Lowers shape n (goes (record w { cleaning = d }) (cleans_on (after_unlink d next)))) (nat_lt (g + 1) (2 ^ 48)) more c
    (λ none. behind (record w { cleaning = more }) (rounds_left shape w (Pass (Unlink x g next))) (515 + shape.seats + (3 * (shape.slots - w.cleaning.passed) + 1)) (omega (arith, count)) (omega arith))
    (λ none. behind (record w { cleaning = c }) (rounds_left shape w (Pass (Unlink x g next))) (515 + shape.seats + (3 * (shape.slots - w.cleaning.passed) + 1)) (omega arith) (omega arith))
  where
    behind : (v : CleanAlong) (r a : ℕ) → rounds_left shape v UnlockHead ≤ r → 515 + shape.seats + 3 * (shape.slots - v.cleaning.passed) < a → left shape v (cleans_on (after_unlink v.cleaning next)) < r * round shape + a
    behind v r a fewer less =
        either_way (λ t. left shape v (cleans_on t) < r * round shape + a) (length v.cleaning.waiting.items == 256) None (passes_on next)
        (fewer_round (rounds_left shape v UnlockHead) r (round shape) (514 + shape.seats) a fewer (omega (arith, less))) (on_pass shape v next r a fewer less)

over_lowers : (shape : Shape) (w : CleanAlong) (f : Freeing) → w.grace.next < shape.seats → left shape w (Free f (PutNextGeneration 0)) < left shape w (Grace f LoadSection)
over_lowers shape w Again below = same_round (buckets_left shape w + 1) (round shape) 512 (512 + (shape.seats - w.grace.next)) (omega (arith, below))
over_lowers shape w Last below = same_round 0 (round shape) 512 (512 + (shape.seats - w.grace.next)) (omega (arith, below))

next_lowers : (shape : Shape) (w : CleanAlong) (f : Freeing) → w.grace.next < shape.seats → left shape (record w { grace = record w.grace { next = w.grace.next + 1 } }) (Grace f LoadSection) < left shape w (Grace f LoadSection)
next_lowers shape w Again below = same_round (buckets_left shape w + 1) (round shape) (512 + (shape.seats - (w.grace.next + 1))) (512 + (shape.seats - w.grace.next)) (omega (arith, below))
next_lowers shape w Last below = same_round 0 (round shape) (512 + (shape.seats - (w.grace.next + 1))) (512 + (shape.seats - w.grace.next)) (omega (arith, below))

free_lowers : (shape : Shape) (w : CleanAlong) (f : Freeing) (s t : FreeStage) → free_left t < free_left s → left shape w (Free f t) < left shape w (Free f s)
free_lowers shape w Again s t less = same_round (buckets_left shape w + 1) (round shape) (free_left t) (free_left s) less
free_lowers shape w Last s t less = same_round 0 (round shape) (free_left t) (free_left s) less

freed_lowers : (shape : Shape) (w : CleanAlong) (f : Freeing) (s : FreeStage) → 1 ≤ free_left s → let v : CleanAlong = record w { cleaning = all_freed w.cleaning } in Lowers shape (left shape w (Free f s)) (frees_on shape v f None)
freed_lowers shape w Last s some = λ none. same_round 0 (round shape) 0 (free_left s) some
freed_lowers shape w Again s some =
    let v : CleanAlong = record w { cleaning = all_freed w.cleaning } in
    either_way (Lowers shape (left shape w (Free Again s))) (nat_lt (shape.slots / 256) v.full_passes) (waits_at v) (goes v (Lock LoadHead)) (λ none. absurd (cc))
    (λ none. next_round (rounds_left shape v (Lock LoadHead)) (buckets_left shape w + 1) (round shape) (517 + shape.seats + 3 * shape.slots) (free_left s) (omega arith) (omega arith))

lowers : (shape : Shape) (w : CleanAlong) (s : CleanStage) (word : ℕ) → IsSound shape → IsSoundClean shape w s → w.full_passes ≤ most_full shape s → IsLoaded s → ((clean_row shape w s).next word).0.cleaning.passed ≤ shape.slots
    → Lowers shape (left shape w s) ((clean_row shape w s).next word)
lowers shape w LoadLevel word table sound few loaded nodes = absurd loaded
lowers shape w (Lock s) word table sound few loaded nodes = locks_lower shape w s word
lowers shape w (Pass (LoadCount x)) word table sound few loaded nodes = λ none.
    let small = few_slots shape table in
    same_round (rounds_left shape w (Pass (LoadCount x))) (round shape) (515 + shape.seats + (3 * (shape.slots - min (w.cleaning.passed + 1) 4294967295) + 2)) (515 + shape.seats + 3 * (shape.slots - w.cleaning.passed)) (omega (arith, nodes, small))
lowers shape w (Pass (LoadLink x None)) word table sound few loaded nodes = λ none.
    on_pass shape (record w { cleaning = record w.cleaning { last = Some x } }) (node_of word) (rounds_left shape w (Pass (LoadLink x None))) (515 + shape.seats + (3 * (shape.slots - w.cleaning.passed) + 2)) (omega arith) (omega arith)
lowers shape w (Pass (LoadLink x (Some g))) word table sound few loaded nodes = λ none.
    same_round (rounds_left shape w (Pass (LoadLink x (Some g)))) (round shape) (515 + shape.seats + (3 * (shape.slots - w.cleaning.passed) + 1)) (515 + shape.seats + (3 * (shape.slots - w.cleaning.passed) + 2)) (omega arith)
lowers shape w (Pass (Unlink x g next)) word table sound few loaded nodes = unlinks_lower shape w x g next word
lowers shape w UnlockHead word table sound few loaded nodes = bucket_lowers shape w table sound (omega (arith, few))
lowers shape w (Grace Again RaiseCounter) word table sound few loaded nodes = λ none. same_round (buckets_left shape w + 1) (round shape) (512 + (shape.seats - 0)) (512 + (shape.seats + 1)) (omega arith)
lowers shape w (Grace Last RaiseCounter) word table sound few loaded nodes = λ none. same_round 0 (round shape) (512 + (shape.seats - 0)) (512 + (shape.seats + 1)) (omega arith)
lowers shape w (Grace f LoadSection) word table sound few loaded nodes =
    let P : grace.Grace × Gracing → Type 0 = λ came. Lowers shape (left shape w (Grace f LoadSection)) (graces_on (record w { grace = came.0 }) f came.1) in
    let over : grace.Grace × Gracing = (w.grace, gracing.Over) in
    let more : grace.Grace × Gracing = (record w.grace { next = w.grace.next + 1 }, gracing.Goes) in
    let below : w.grace.next < shape.seats = (sound.step 0).0 in
    either_way P (waits_for w.grace.raised word) (w.grace, gracing.Waits) (cond (w.grace.next + 1 == shape.seats) over more) (λ none. absurd (cc))
    (either_way P (w.grace.next + 1 == shape.seats) over more (λ none. over_lowers shape w f below) (λ none. next_lowers shape w f below))
lowers shape w (Free f (PutNextGeneration at)) word table sound few loaded nodes = λ none.
    let below : at < length w.cleaning.waiting.items = sound.at in let room = sound.cleaning.few in free_lowers shape w f (PutNextGeneration at) (FreeSlot at) (omega (arith, below, room))
lowers shape w (Free f (FreeSlot at)) word table sound few loaded nodes =
    let below : at < length w.cleaning.waiting.items = sound.at in let room = sound.cleaning.few in
    either_way (λ (came : Cleaning × Option FreeStage). Lowers shape (left shape w (Free f (FreeSlot at))) (frees_on shape (record w { cleaning = came.0 }) f came.1)) (at + 1 == length w.cleaning.waiting.items)
    (all_freed w.cleaning, None) (w.cleaning, Some (PutNextGeneration (at + 1)))
    (freed_lowers shape w f (FreeSlot at) (omega (arith, below, room))) (λ none. free_lowers shape w f (FreeSlot at) (PutNextGeneration (at + 1)) (omega (arith, below, room)))
lowers shape w GiveResizeLock word table sound few loaded nodes = λ none. absurd (cc)

-- over all steps of a poll
pub lowers_law : (shape : Shape) (c : CleanAlong × CleanStage) (word : ℕ) → IsSound shape → IsOnPoll shape c → (one_poll shape).Fits c word → left shape ((one_poll shape).got c word).0 ((one_poll shape).got c word).1 < left shape c.0 c.1
lowers_law shape c word table on fits = lowers shape c.0 c.1 word table on.0 on.1 fits.2 fits.3 fits.4

few_after : (shape : Shape) (w : CleanAlong) (s : CleanStage) (a : Option Answer) → a ≡ None → (polled_on w s a).0.full_passes ≤ most_full shape (polled_on w s a).1 → w.full_passes ≤ most_full shape s
few_after shape w s None none few = few
few_after shape w s (Some a) none few = absurd (cc)

pub in_time_law : (shape : Shape) (c : CleanAlong × CleanStage) (words : List ℕ) → IsSound shape → IsOnPoll shape c → AreFitting (one_poll shape) c words → length words ≤ left shape c.0 c.1
in_time_law shape c [] table on fits = omega arith
in_time_law shape c (word ∷ words) table on fits =
    let now = lowers_law shape c word table on fits.0 in
    let next = (clean_row shape c.0 c.1).next word in
    let few = few_after shape next.0 next.1 next.2 fits.0.4 (few_step shape c.0 c.1 word on.1) in
    let later = in_time_law shape (next.0, next.1) words table (clean_law shape c.0 c.1 word fits.0.0 table on.0 fits.0.1, few) fits.1 in
    omega (arith, now, later)

pub on_poll_law : (shape : Shape) (level : ℕ) (words : List ℕ) → IsSound shape → IsLevel shape level → AreFitting (cleans shape) (begun level) words → let c = after_words (cleans shape) (begun level) words in IsOnPoll shape (c.0, c.1)
on_poll_law shape level words table is fits = ((keeps (cleans shape) (Keeps shape) (got_keeps shape table) (begun level) words (begins shape level is) fits).0, few_at_law shape level words fits)

-- the most that a poll has left
rounds_below : (n b full one : ℕ) (passed : ℕ) → b < n → one ≤ 1 → (n - (b + 1)) * (full + 1) + (full - passed) + one ≤ n * (full + 1)
rounds_below n b full one passed below few =
    let next : n - b ≡ suc (n - (b + 1)) = omega (arith, below) in
    let whole = ap (λ k. k * (full + 1)) next ∙ suc-mul (n - (b + 1)) (full + 1) in
    let less : n - b ≤ n = omega arith in
    let most : (n - b) * (full + 1) ≤ n * (full + 1) = grind (arith, less) in
    omega (arith, whole, most, few)

rounds_most : (shape : Shape) (w : CleanAlong) (s : CleanStage) → w.cleaning.bucket < 2 ^ w.cleaning.row → rounds_left shape w s ≤ 2 ^ w.cleaning.row * (passes shape + 1)
rounds_most shape w (Lock s) below = rounds_below (2 ^ w.cleaning.row) w.cleaning.bucket (passes shape) _ w.full_passes below (omega arith)
rounds_most shape w (Pass s) below = rounds_below (2 ^ w.cleaning.row) w.cleaning.bucket (passes shape) _ w.full_passes below (omega arith)
rounds_most shape w UnlockHead below = rounds_below (2 ^ w.cleaning.row) w.cleaning.bucket (passes shape) _ w.full_passes below (omega arith)
rounds_most shape w (Grace Again s) below = rounds_below (2 ^ w.cleaning.row) w.cleaning.bucket (passes shape) 1 w.full_passes below (omega arith)
rounds_most shape w (Free Again s) below = rounds_below (2 ^ w.cleaning.row) w.cleaning.bucket (passes shape) 1 w.full_passes below (omega arith)
rounds_most shape w _ below = omega arith

steps_most : (shape : Shape) (w : CleanAlong) (s : CleanStage) → steps_left shape w s ≤ round shape
steps_most shape w (Lock (LockHead head)) = omega arith
steps_most shape w (Pass (LoadLink x dead)) = omega arith
steps_most shape w (Grace freeing LoadSection) = omega arith
steps_most shape w (Free freeing (FreeSlot at)) = omega arith
steps_most shape w _ = omega arith

most_below : (len rounds steps n round : ℕ) → len ≤ rounds * round + steps → rounds ≤ n → steps ≤ round → len ≤ (n + 1) * round
most_below len rounds steps n round time few short =
    let times : rounds * round ≤ n * round = mul-le-mul_right round few in
    let whole : (n + 1) * round ≡ n * round + round = grind arith in
    omega (arith, time, times, short, whole)

pub most_law : (shape : Shape) (c : CleanAlong × CleanStage) (words : List ℕ) → IsSound shape → IsOnPoll shape c → AreFitting (one_poll shape) c words →
    length words ≤ (2 ^ c.0.cleaning.row * (shape.slots / 256 + 2) + 1) * (518 + shape.seats + 3 * shape.slots)
most_law shape c words table on fits =
    let same : passes shape + 1 ≡ shape.slots / 256 + 2 = omega arith in
    let rounds = subst (λ k. rounds_left shape c.0 c.1 ≤ 2 ^ c.0.cleaning.row * k) same (rounds_most shape c.0 c.1 on.0.cleaning.bucket) in
    most_below (length words) (rounds_left shape c.0 c.1) (steps_left shape c.0 c.1) (2 ^ c.0.cleaning.row * (shape.slots / 256 + 2)) (round shape) (in_time_law shape c words table on fits) rounds (steps_most shape c.0 c.1)
