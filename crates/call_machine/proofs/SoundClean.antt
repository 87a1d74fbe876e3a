-- A clean stays sound: each stage leads to one that the table has room for.
use Rattle.std.proofs.Common.{◌≡◌, ◌<◌, ◌+◌, ◌/◌, ◌^◌, ◌==◌, ℕ, Option, Some, None, List, [], ◌∷◌, length, refl, ap}
use native.Mathlib.Omega.{arith}
use Rattle.std.specs.Prelude.{min, nat_le, nat_lt}
use Rattle.std.proofs.lemmas.Bool.{ltb-true}
use Rattle.std.proofs.lemmas.Nat.{pow_pos}
use Rattle.std.proofs.lemmas.List.Elements.{All-nil}
use Rattle.section_core.specs.Words.{waits_for}
use Rattle.marked_word.specs.Head.{is_locked}
use Rattle.table_shape.specs.declared.shape.Shape.{Shape}
use Rattle.table_shape.specs.Shape.{IsSound}
use Rattle.atomic_step.specs.declared.answer.Answer.{Answer}
use Rattle.atomic_step.specs.declared.answer.Answer.TheVariants as answer
use Rattle.atomic_step.specs.SoundStep.{IsLevel, CanBeFound}
use Rattle.atomic_step.proofs.Choices.{where_it_is, either_way, found_equal, not_equal}
use Rattle.call_machine.specs.declared.clean.CleanAlong.{CleanAlong}
use Rattle.call_machine.specs.declared.clean.CleanStage.{CleanStage}
use Rattle.call_machine.specs.declared.clean.CleanStage.TheVariants.{LoadLevel, Lock, Pass, UnlockHead, Grace, Free, GiveResizeLock}
use Rattle.call_machine.specs.declared.clean.Freeing.{Freeing}
use Rattle.call_machine.specs.declared.clean.Freeing.TheVariants.{Again, Last}
use Rattle.call_machine.specs.declared.grace.Grace as grace
use Rattle.call_machine.specs.declared.grace.GraceStage.TheVariants.{RaiseCounter, LoadSection}
use Rattle.call_machine.specs.declared.grace.Gracing.{Gracing}
use Rattle.call_machine.specs.declared.lock.LockStage.{LockStage}
use Rattle.call_machine.specs.declared.lock.LockStage.TheVariants.{LoadHead, LockHead}
use Rattle.call_machine.specs.declared.lock.Locking.TheVariants as locking
use Rattle.call_machine.specs.declared.pass.FreeStage.{FreeStage}
use Rattle.call_machine.specs.declared.pass.PassStage.{PassStage}
use Rattle.call_machine.specs.declared.pass.Waiting.{Waiting}
use Rattle.call_machine.specs.Clean.{begun_clean, Went, goes, waits_at, raises, worked, cleans_on, locks_on, ends, next_bucket, graces_on, frees_on, clean_row}
use Rattle.call_machine.specs.Grace.{held_back}
use Rattle.call_machine.specs.Pass.{no_cleaning, begins_pass}
use Rattle.call_machine.specs.SoundClean.{IsSoundClean}
use Rattle.call_machine.specs.SoundPass.{MayWait, IsSoundCleaning}
use Rattle.call_machine.proofs.Nodes.{node_below}
use Rattle.call_machine.proofs.SoundPass.{head_inside, PassesOn, passes_from, begins_soundly, pass_soundly, FreesOn, frees_from, free_soundly}

-- a clean that is done has come to its end, and tells what it did
abbrev pub IsTold : CleanAlong → CleanStage → Option Answer → Type 0
IsTold w s (Some (answer.Done did)) = (s ≡ GiveResizeLock) × (did ≡ worked w)
IsTold w s _ = Unit {0}

-- the clean after a step
abbrev pub IsSoundNext : Shape → Went → Type 0
IsSoundNext shape went = IsSoundClean shape went.0 went.1 × IsTold went.0 went.1 went.2

locks : (shape : Shape) (w : CleanAlong) → IsSoundCleaning shape w.cleaning → length w.cleaning.waiting.items < 256 → IsSoundClean shape w (Lock LoadHead)
locks shape w sound few = record { cleaning = sound; at = few; step = λ seat. (head_inside shape w.cleaning sound, tt, tt, tt) }

cleans : (shape : Shape) (w : CleanAlong) (next : Option PassStage) → IsSoundCleaning shape w.cleaning → PassesOn shape w.cleaning next → IsSoundClean shape w (cleans_on next)
cleans shape w None sound on = record { cleaning = sound; at = tt; step = λ seat. (head_inside shape w.cleaning sound, tt, sound.first, tt) }
cleans shape w (Some s) sound on = record { cleaning = sound; at = on.0; step = on.1 }

locks_soundly : (shape : Shape) (w : CleanAlong) (s : LockStage) (word : ℕ) → IsSoundClean shape w (Lock s) → CanBeFound shape (clean_row shape w (Lock s)).step word → IsSoundNext shape ((clean_row shape w (Lock s)).next word)
locks_soundly shape w LoadHead word sound fits =
    where_it_is (λ came. IsSoundNext shape (locks_on w came)) (is_locked word) locking.Waits (locking.Goes (LockHead word))
    (λ held. (locks shape w sound.cleaning sound.at, tt))
    (λ plain. (record { cleaning = sound.cleaning; at = sound.at; step = λ seat. ((sound.step seat).0, plain, fits.0, tt) }, tt))
locks_soundly shape w (LockHead head) word sound fits =
    let node = node_below shape (word / 4) fits.0 in
    either_way (λ came. IsSoundNext shape (locks_on w came)) (word == head) (locking.Locked _) locking.Waits
    (cleans shape (record w { cleaning = begins_pass w.cleaning _ }) _ (begins_soundly shape w.cleaning _ sound.cleaning node) (passes_from shape (begins_pass w.cleaning _) _ node sound.at), tt)
    (locks shape w sound.cleaning sound.at, tt)

pub held_told : (w : CleanAlong) (s : CleanStage) (raised : ℕ) → IsTold w s (held_back raised)
held_told w s raised = either_way (IsTold w s) (nat_le (2 ^ 63) raised) (Some (answer.PendingSeat 0)) None tt tt

grace_begins : (shape : Shape) (w : CleanAlong) (freeing : Freeing) → IsSoundCleaning shape w.cleaning → 0 < length w.cleaning.waiting.items → IsSoundNext shape (raises w freeing)
grace_begins shape w freeing sound some = (record { cleaning = sound; at = some; step = λ seat. (tt, tt, tt, tt) }, held_told w (Grace freeing RaiseCounter) w.grace.raised)

at_end : (shape : Shape) (w : CleanAlong) → IsSoundCleaning shape w.cleaning → w.cleaning.waiting.items ≡ [] → IsSoundClean shape w GiveResizeLock
at_end shape w sound none = record { cleaning = sound; at = none; step = λ seat. (tt, tt, tt, tt) }

ends_soundly : (shape : Shape) (w : CleanAlong) (items : List Waiting) → w.cleaning.waiting.items ≡ items → IsSoundCleaning shape w.cleaning → IsSoundNext shape (ends w items)
ends_soundly shape w [] same sound = (at_end shape w sound same, tt)
ends_soundly shape w (x ∷ xs) same sound = grace_begins shape w Last sound (let count = ap length same in omega (arith, count))

bucket_soundly : (shape : Shape) (w : CleanAlong) → IsSoundCleaning shape w.cleaning → IsSoundNext shape (next_bucket w)
bucket_soundly shape w sound =
    where_it_is (IsSoundNext shape) (length w.cleaning.waiting.items == 256) _ _
    (λ full. let many = found_equal (length w.cleaning.waiting.items) 256 full in let some : 0 < length w.cleaning.waiting.items = omega (arith, many) in
    either_way (λ v. IsSoundNext shape (raises v Again)) (w.cleaning.pass_waiting == 256) (record w { full_passes = min (w.full_passes + 1) 4294967295 }) w (grace_begins shape _ Again sound some) (grace_begins shape w Again sound some))
    (λ room. let few = sound.few in let less = not_equal (length w.cleaning.waiting.items) 256 room in
    where_it_is (IsSoundNext shape) (nat_lt (w.cleaning.bucket + 1) (2 ^ w.cleaning.row)) _ _
    (λ more. (
      locks shape _ (record {
        level = sound.level;
        bucket = ltb-true (w.cleaning.bucket + 1) (2 ^ w.cleaning.row) more;
        first = sound.first;
        last = sound.last;
        waiting = sound.waiting;
        few = sound.few;
        pass_waiting = sound.pass_waiting;
      }) (omega (arith, few, less)),
      tt,
    ))
    (λ last. ends_soundly shape w w.cleaning.waiting.items refl sound))

scans_soundly : (shape : Shape) (w : CleanAlong) (freeing : Freeing) (word : ℕ) → IsSoundClean shape w (Grace freeing LoadSection) → IsSoundNext shape ((clean_row shape w (Grace freeing LoadSection)).next word)
scans_soundly shape w freeing word sound =
    let P : grace.Grace × Gracing → Type 0 = λ came. IsSoundNext shape (graces_on (record w { grace = came.0 }) freeing came.1) in
    where_it_is P (waits_for w.grace.raised word) _ _
    (λ older. (record { cleaning = sound.cleaning; at = sound.at; step = sound.step }, tt))
    (λ newer. where_it_is P (w.grace.next + 1 == shape.seats) _ _
    (λ last. let on = frees_from shape w.cleaning 0 sound.cleaning sound.at in (record { cleaning = sound.cleaning; at = on.0; step = on.1 }, tt))
    (λ more. let other = not_equal (w.grace.next + 1) shape.seats more in let below : w.grace.next < shape.seats = (sound.step 0).0 in
    (record { cleaning = sound.cleaning; at = sound.at; step = λ seat. (omega (arith, other, below), tt, tt, tt) }, tt)))

frees_soundly : (shape : Shape) (w : CleanAlong) (freeing : Freeing) (next : Option FreeStage) → IsSoundCleaning shape w.cleaning → FreesOn shape w.cleaning next → IsSoundNext shape (frees_on shape w freeing next)
frees_soundly shape w freeing (Some s) sound on = (record { cleaning = sound; at = on.0; step = on.1 }, tt)
frees_soundly shape w Again None sound none =
    let count = ap length none in let few : length w.cleaning.waiting.items < 256 = omega (arith, count) in
    either_way (IsSoundNext shape) (nat_lt (shape.slots / 256) w.full_passes) (waits_at w) (goes w (Lock LoadHead)) (locks shape w sound few, tt) (locks shape w sound few, tt)
frees_soundly shape w Last None sound none = (at_end shape w sound none, tt)

pub clean_soundly : (shape : Shape) (w : CleanAlong) (s : CleanStage) (word : ℕ) → word < 2 ^ 64 → IsSound shape → IsSoundClean shape w s → CanBeFound shape (clean_row shape w s).step word
    → IsSoundNext shape ((clean_row shape w s).next word)
clean_soundly shape w LoadLevel word small table sound fits =
    let c = sound.cleaning in let first = sound.at.0 in let some = pow_pos word in let count = ap length sound.at.1 in
    (locks shape _ (record { level = fits.0; bucket = omega (arith, first, some); first = c.first; last = c.last; waiting = c.waiting; few = c.few; pass_waiting = c.pass_waiting }) (omega (arith, count)), tt)
clean_soundly shape w (Lock s) word small table sound fits = locks_soundly shape w s word sound fits
clean_soundly shape w (Pass s) word small table sound fits = let came = pass_soundly shape w.cleaning s 0 word small sound.cleaning sound.at (sound.step 0) fits in (cleans shape _ _ came.0 came.1, tt)
clean_soundly shape w UnlockHead word small table sound fits = bucket_soundly shape w sound.cleaning
clean_soundly shape w (Grace freeing RaiseCounter) word small table sound fits =
    (record { cleaning = sound.cleaning; at = sound.at; step = λ seat. (table.seats.0, tt, tt, tt) }, tt)
clean_soundly shape w (Grace freeing LoadSection) word small table sound fits = scans_soundly shape w freeing word sound
clean_soundly shape w (Free freeing s) word small table sound fits = let came = free_soundly shape w.cleaning s 0 word sound.cleaning sound.at (sound.step 0) in frees_soundly shape _ freeing _ came.0 came.1
clean_soundly shape w GiveResizeLock word small table sound fits = (record { cleaning = sound.cleaning; at = sound.at; step = sound.step }, (refl, refl))

-- a bucket of which nothing is cleaned yet
pub none_soundly : (shape : Shape) (level bucket : ℕ) → IsLevel shape level → bucket < 2 ^ level → IsSoundCleaning shape (no_cleaning level bucket)
none_soundly shape level bucket is below = record { level = is; bucket = below; first = tt; last = tt; waiting = All-nil (MayWait shape); few = omega arith; pass_waiting = omega arith }

pub begins_clean : (shape : Shape) (level : ℕ) → IsLevel shape level → IsSoundClean shape (begun_clean level) LoadLevel
begins_clean shape level is = record { cleaning = none_soundly shape level 0 is (pow_pos level); at = (refl, refl); step = λ seat. (tt, tt, tt, tt) }

pub clean_law : (shape : Shape) (w : CleanAlong) (s : CleanStage) (word : ℕ) → word < 2 ^ 64 → IsSound shape → IsSoundClean shape w s → CanBeFound shape (clean_row shape w s).step word
    → IsSoundClean shape ((clean_row shape w s).next word).0 ((clean_row shape w s).next word).1
clean_law shape w s word small table sound fits = (clean_soundly shape w s word small table sound fits).0
