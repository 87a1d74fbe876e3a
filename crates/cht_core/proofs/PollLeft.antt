-- Each step of a poll of a work leaves less than there was.
use Rattle.std.proofs.Common.{◌≡◌, ◌∙◌, ◌<◌, ◌≤◌, ◌+◌, ◌-◌, ◌*◌, ◌^◌, ◌/◌, ◌==◌, ℕ, cond, Option, Some, None, List, [], ◌∷◌, length, refl, sym, ap, subst, arith}
use Rattle.std.specs.Prelude.{min, nat_lt}
use Rattle.std.proofs.lemmas.Nat.{pow_pos}
use Rattle.std.proofs.Math.Nat.{mul-le-mul_right}
use Rattle.std.proofs.Math.Pow.{pow_mono}
use Rattle.table_shape.specs.declared.shape.Shape.{Shape}
use Rattle.table_shape.specs.Shape.{IsSound}
use Rattle.atomic_step.specs.declared.answer.Answer.{Answer}
use Rattle.atomic_step.specs.SoundStep.{CanBeFound}
use Rattle.atomic_step.proofs.Choices.{either_way}
use Rattle.call_machine.specs.declared.caller.Caller.{Caller}
use Rattle.call_machine.specs.declared.clean.CleanAlong.{CleanAlong}
use Rattle.call_machine.specs.declared.clean.CleanStage.{CleanStage}
use Rattle.call_machine.specs.declared.clean.CleanStage.TheVariants.{LoadLevel, Lock, Pass, UnlockHead, Grace, Free, GiveResizeLock}
use Rattle.call_machine.specs.declared.clean.Freeing.{Freeing}
use Rattle.call_machine.specs.declared.clean.Freeing.TheVariants.{Again, Last}
use Rattle.call_machine.specs.declared.grace.Gracing.{Gracing}
use Rattle.call_machine.specs.declared.grace.Gracing.TheVariants as gracing
use Rattle.call_machine.specs.declared.lock.LockStage.TheVariants.{LoadHead}
use Rattle.call_machine.specs.declared.lock.Locking.{Locking}
use Rattle.call_machine.specs.declared.lock.Locking.TheVariants as locking
use Rattle.call_machine.specs.declared.machine.Machine.{Machine}
use Rattle.call_machine.specs.declared.machine.Machine.TheVariants as machine
use Rattle.call_machine.specs.declared.pass.FreeStage.{FreeStage}
use Rattle.call_machine.specs.declared.pass.PassStage.{PassStage}
use Rattle.call_machine.specs.declared.pass.Waiting.{Waiting}
use Rattle.call_machine.specs.declared.poll.Polling.{Polling}
use Rattle.call_machine.specs.declared.resize.Resize.{Resize}
use Rattle.call_machine.specs.declared.work.Work.{Work}
use Rattle.call_machine.specs.declared.work.Work.TheVariants as work
use Rattle.call_machine.specs.Caller.{IsSoundCaller}
use Rattle.call_machine.specs.Clean as clean
use Rattle.call_machine.specs.Clean.{goes, waits_at, raises, cleans_on, locks_on, counts_pass, ends, next_bucket, graces_on, frees_on, clean_row}
use Rattle.call_machine.specs.CleanMeasure.{passes, round, IsLoaded}
use Rattle.call_machine.specs.CleanMeasure as cleans
use Rattle.call_machine.specs.Grace.{grace_row, counts_grace}
use Rattle.call_machine.specs.Lock.{lock_row}
use Rattle.call_machine.specs.Machine.{shape_of, got_of}
use Rattle.call_machine.specs.Pass.{passes_on, pass_row, free_row}
use Rattle.call_machine.specs.Poll.{polling, poll_got, work_left}
use Rattle.call_machine.specs.Resize as resize
use Rattle.call_machine.specs.ResizeMeasure as resizes
use Rattle.call_machine.specs.SoundClean.{IsSoundClean}
use Rattle.call_machine.specs.SoundMachine.{IsSoundMachine, FitsMachine}
use Rattle.call_machine.specs.SoundPoll.{FitsPoll}
use Rattle.call_machine.specs.Work.{of_clean, of_resize, work_row, IsSoundWork}
use Rattle.call_machine.proofs.CleanMeasure.{lowers_law}
use Rattle.call_machine.proofs.Machines.{got_is, fits_part}
use Rattle.call_machine.proofs.ResizeMeasure.{falls_on}
use Rattle.cht_core.specs.PollMeasure.{clean_left, steps_of, left_until, poll_left, looked_by, looked_in, HasFewPasses, IsOnWork, IsOnPollOf}

-- THE LEVEL IS LOADED ONCE

on_pass : (next : Option PassStage) → IsLoaded (cleans_on next)
on_pass None = tt
on_pass (Some s) = tt

locks_loaded : (w : CleanAlong) (came : Locking) → IsLoaded (locks_on w came).1
locks_loaded w (locking.Goes s) = tt
locks_loaded w locking.Waits = tt
locks_loaded w (locking.Locked first) = on_pass (passes_on first)

ends_loaded : (w : CleanAlong) (items : List Waiting) → IsLoaded (ends w items).1
ends_loaded w [] = tt
ends_loaded w (x ∷ xs) = tt

bucket_loaded : (w : CleanAlong) → IsLoaded (next_bucket w).1
bucket_loaded w =
    let next : clean.Went = goes (record w { cleaning = record w.cleaning { bucket = w.cleaning.bucket + 1 }; full_passes = 0 }) (Lock LoadHead) in
    let last : clean.Went = ends w w.cleaning.waiting.items in
    let more = nat_lt (w.cleaning.bucket + 1) (2 ^ w.cleaning.row) in
    either_way (λ (came : clean.Went). IsLoaded came.1) (length w.cleaning.waiting.items == 256) (raises (counts_pass w) Again) (cond more next last) tt
    (either_way (λ (came : clean.Went). IsLoaded came.1) more next last tt (ends_loaded w w.cleaning.waiting.items))

scans_loaded : (w : CleanAlong) (freeing : Freeing) (came : Gracing) → IsLoaded (graces_on w freeing came).1
scans_loaded w freeing gracing.Goes = tt
scans_loaded w freeing gracing.Waits = tt
scans_loaded w freeing gracing.Over = tt

frees_loaded : (shape : Shape) (w : CleanAlong) (freeing : Freeing) (next : Option FreeStage) → IsLoaded (frees_on shape w freeing next).1
frees_loaded shape w freeing (Some s) = tt
frees_loaded shape w Again None = either_way (λ (came : clean.Went). IsLoaded came.1) (nat_lt (shape.slots / 256) w.full_passes) (waits_at w) (goes w (Lock LoadHead)) tt tt
frees_loaded shape w Last None = tt

loaded_after : (shape : Shape) (w : CleanAlong) (s : CleanStage) (word : ℕ) → IsLoaded ((clean_row shape w s).next word).1
loaded_after shape w LoadLevel word = tt
loaded_after shape w (Lock s) word = locks_loaded w ((lock_row w.cleaning.row w.cleaning.bucket s).next word)
loaded_after shape w (Pass s) word = on_pass ((pass_row w.cleaning s).next word).1
loaded_after shape w UnlockHead word = bucket_loaded w
loaded_after shape w (Grace freeing s) word =
    let came = (grace_row shape.seats w.grace s).next word in scans_loaded (record w { grace = came.0; graces = counts_grace s w.graces }) freeing came.1
loaded_after shape w (Free freeing s) word = let came = (free_row w.cleaning s).next word in frees_loaded shape (record w { cleaning = came.0 }) freeing came.1
loaded_after shape w GiveResizeLock word = tt

loaded_left : (shape : Shape) (w : CleanAlong) (s : CleanStage) → IsLoaded s → clean_left shape w s ≡ cleans.left shape w s
loaded_left shape w LoadLevel loaded = absurd loaded
loaded_left shape w (Lock s) loaded = refl
loaded_left shape w (Pass s) loaded = refl
loaded_left shape w UnlockHead loaded = refl
loaded_left shape w (Grace freeing s) loaded = refl
loaded_left shape w (Free freeing s) loaded = refl
loaded_left shape w GiveResizeLock loaded = refl

-- A CLEAN

-- the rounds of a level, of which the first bucket is to come
level_rounds : (n bucket full most waiting : ℕ) → 1 ≤ n → bucket ≡ 0 → waiting ≡ 0 → (n - (bucket + 1)) * (most + 1) + (most - full) + min waiting 1 + 1 ≤ n * (most + 1)
level_rounds n bucket full most waiting some first none =
    let apart : n ≡ (n - (bucket + 1)) + 1 = omega (arith, some, first) in
    let times : ((n - (bucket + 1)) + 1) * (most + 1) ≡ (n - (bucket + 1)) * (most + 1) + (most + 1) = grind arith in
    let whole : n * (most + 1) ≡ (n - (bucket + 1)) * (most + 1) + (most + 1) = ap (λ (k : ℕ). k * (most + 1)) apart ∙ times in
    omega (arith, whole, none)

-- fewer rounds and part of one are less than all
part_of_round : (rounds n m steps per : ℕ) → rounds + 1 ≤ n → n ≤ m → steps < per → rounds * per + steps < m * per
part_of_round rounds n m steps per fewer most part =
    let all : (rounds + 1) * per ≤ m * per = mul-le-mul_right per (omega (arith, fewer, most)) in
    let one : (rounds + 1) * per ≡ rounds * per + per = grind arith in
    omega (arith, all, one, part)

level_less : (shape : Shape) (w : CleanAlong) (word : ℕ) → IsSoundClean shape w LoadLevel → word ≤ shape.max_level
    → cleans.left shape (record w { cleaning = record w.cleaning { row = word } }) (Lock LoadHead) < clean_left shape w LoadLevel
level_less shape w word sound high =
    let v : CleanAlong = record w { cleaning = record w.cleaning { row = word } } in
    let wider : 2 ^ word ≤ 2 ^ shape.max_level = pow_mono high in
    let none : length w.cleaning.waiting.items ≡ 0 = ap length sound.at.1 in
    part_of_round (cleans.rounds_left shape v (Lock LoadHead)) (2 ^ word * (passes shape + 1)) (2 ^ shape.max_level * (passes shape + 1)) (cleans.steps_left shape v (Lock LoadHead)) (round shape)
    (level_rounds (2 ^ word) w.cleaning.bucket w.full_passes (passes shape) (length w.cleaning.waiting.items) (pow_pos word) sound.at.0 none)
    (mul-le-mul_right (passes shape + 1) wider)
    (omega arith)

-- what came of a step of a clean: the poll has answered, or less is left
clean_came : (shape : Shape) (n : ℕ) (came : clean.Went) → IsLoaded came.1 → (came.2 ≡ None → came.0.cleaning.passed ≤ shape.slots → cleans.left shape came.0 came.1 < n)
    → looked_by (work_left (of_clean came).0 came.2) ≤ shape.slots → left_until shape (of_clean came).0 came.2 < n + 1
clean_came shape n (w, s, None) loaded less few =
    let now : cleans.left shape w s < n = less refl few in
    let same : clean_left shape w s ≡ cleans.left shape w s = loaded_left shape w s loaded in
    omega (arith, now, same)
clean_came shape n (w, s, Some a) loaded less few = omega arith

clean_on : (shape : Shape) (w : CleanAlong) (s : CleanStage) (word : ℕ) → word < 2 ^ 64 → IsSound shape → IsSoundClean shape w s → w.full_passes ≤ cleans.most_full shape s → CanBeFound shape (clean_row shape w s).step word
    → IsLoaded s → let came = (clean_row shape w s).next word in came.2 ≡ None → came.0.cleaning.passed ≤ shape.slots → cleans.left shape came.0 came.1 < clean_left shape w s
clean_on shape w s word small table sound few fits loaded none nodes =
    subst (λ (n : ℕ). cleans.left shape ((clean_row shape w s).next word).0 ((clean_row shape w s).next word).1 < n) (sym (loaded_left shape w s loaded))
    (lowers_law shape (w, s) word table (sound, few) (small, fits, loaded, nodes, none))

clean_next : (shape : Shape) (w : CleanAlong) (s : CleanStage) (word : ℕ) → word < 2 ^ 64 → IsSound shape → IsSoundClean shape w s → w.full_passes ≤ cleans.most_full shape s → CanBeFound shape (clean_row shape w s).step word
    → let came = (clean_row shape w s).next word in came.2 ≡ None → came.0.cleaning.passed ≤ shape.slots → cleans.left shape came.0 came.1 < clean_left shape w s
clean_next shape w LoadLevel word small table sound few fits = λ none nodes. level_less shape w word sound fits.0.1
clean_next shape w (Lock s) word small table sound few fits = clean_on shape w (Lock s) word small table sound few fits tt
clean_next shape w (Pass s) word small table sound few fits = clean_on shape w (Pass s) word small table sound few fits tt
clean_next shape w UnlockHead word small table sound few fits = clean_on shape w UnlockHead word small table sound few fits tt
clean_next shape w (Grace freeing s) word small table sound few fits = clean_on shape w (Grace freeing s) word small table sound few fits tt
clean_next shape w (Free freeing s) word small table sound few fits = clean_on shape w (Free freeing s) word small table sound few fits tt
clean_next shape w GiveResizeLock word small table sound few fits = clean_on shape w GiveResizeLock word small table sound few fits tt

-- A RESIZE

resize_came : (shape : Shape) (r : Resize) (n : ℕ) (came : resize.Went) → (came.2 ≡ None → came.0.passed ≤ shape.slots → resizes.left shape r.direction came.0 came.1 < n)
    → looked_by (work_left (of_resize r came).0 came.2) ≤ shape.slots → left_until shape (of_resize r came).0 came.2 < n + 1
resize_came shape r n (w, s, None) less few = let now : resizes.left shape r.direction w s < n = less refl few in omega (arith, now)
resize_came shape r n (w, s, Some a) less few = omega arith

-- ANY WORK

work_less : (shape : Shape) (w : Work) (word : ℕ) → word < 2 ^ 64 → IsSound shape → IsSoundWork shape w → HasFewPasses shape w → CanBeFound shape (work_row shape w).step word
    → let came = (work_row shape w).next word in looked_by (work_left came.0 came.1) ≤ shape.slots → left_until shape came.0 came.1 < steps_of shape w
work_less shape (work.Clean c) word small table sound few fits =
    clean_came shape (clean_left shape c.along c.stage) ((clean_row shape c.along c.stage).next word) (loaded_after shape c.along c.stage word)
    (clean_next shape c.along c.stage word small table sound few fits)
work_less shape (work.Resize r) word small table sound few fits =
    resize_came shape r (resizes.left shape r.direction r.along r.stage) ((resize.resize_row shape r.direction r.along r.stage).next word)
    (falls_on shape r.direction r.along r.stage word table sound)

-- A POLL

poll_less : (caller : Caller) (w : Work) (a : Option Answer) (word : ℕ) → word < 2 ^ 64 → IsSoundCaller caller → IsSoundWork caller.shape w → IsOnWork caller.shape w a → FitsPoll (polling caller (w, a)) word
    → looked_in (machine.Poll (poll_got (polling caller (w, a)) word)) ≤ caller.shape.slots
    → poll_left caller.shape (machine.Poll (poll_got (polling caller (w, a)) word)) < poll_left caller.shape (machine.Poll (polling caller (w, a)))
poll_less caller w None word small sound has on fits = work_less caller.shape w word small sound.shape has on fits
poll_less caller w (Some a) word small sound has on fits = absurd fits

-- each step of a poll that has not answered leaves less
pub each_less : (shape : Shape) (q : Polling) (word : ℕ) → shape_of (machine.Poll q) ≡ shape → IsSoundMachine (machine.Poll q) → IsOnPollOf shape (machine.Poll q) → word < 2 ^ 64
    → FitsMachine (machine.Poll q) word → looked_in (got_of (machine.Poll q) word) ≤ shape.slots → poll_left shape (got_of (machine.Poll q) word) < poll_left shape (machine.Poll q)
each_less shape q word is sound on small fits few =
    let same : got_of (machine.Poll q) word ≡ machine.Poll (poll_got q word) = got_is (machine.Poll q) word in
    subst (λ (k : Machine). poll_left shape k < poll_left shape (machine.Poll q)) (sym same)
    (by_shape shape is on (subst (λ (k : Machine). looked_in k ≤ shape.slots) same few))
  where
    by_shape : (shape : Shape) → q.caller.shape ≡ shape → IsOnWork shape q.work q.answer → looked_in (machine.Poll (poll_got q word)) ≤ shape.slots
        → poll_left shape (machine.Poll (poll_got q word)) < poll_left shape (machine.Poll q)
    by_shape shape is = subst (λ (shape : Shape). IsOnWork shape q.work q.answer → looked_in (machine.Poll (poll_got q word)) ≤ shape.slots → poll_left shape (machine.Poll (poll_got q word)) < poll_left shape (machine.Poll q)) is
        (λ on. poll_less q.caller q.work q.answer word small sound.caller sound.work on (fits_part (machine.Poll q) word fits))

-- and none is left once it has answered
pub none_left : (shape : Shape) (q : Polling) (a : Answer) → q.answer ≡ Some a → poll_left shape (machine.Poll q) ≡ 0
none_left shape q a answered = ap (left_until shape q.work) answered
