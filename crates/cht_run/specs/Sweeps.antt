-- How a sweep ends.
use Rattle.std.specs.List.{count_by}
use Rattle.std.specs.Prelude.{◌≡◌, ◌<◌, ◌≤◌, ℕ, min, false, List, [], Some, None}
use Rattle.text_words.specs.Hash.{hash_of}
use Rattle.intern_log.specs.declared.event.What.{What}
use Rattle.intern_log.specs.Orderly.{is_grace}
use Rattle.atomic_step.specs.Monitor.{after_all, section}
use Rattle.call_machine.specs.WorkMonitor.{locked, unlinks}
use Rattle.cht_core.specs.Passes.{HasSwept}
use Rattle.cht_core.specs.Causes.{IsSpent}
use Rattle.cht_core.specs.Stage.{bucket_in}
use Rattle.cht_run.specs.declared.seat.Seat.{Seat}
use Rattle.cht_run.specs.declared.sight.Origin.{Origin}
use Rattle.cht_run.specs.declared.sweeps.Swept.{Swept}
use Rattle.cht_run.specs.declared.sweeps.Swept.TheVariants as swept
use Rattle.cht_run.specs.Ended.{Ended, Only}
use Rattle.cht_run.specs.Ends.{HasNothing}
use Rattle.cht_run.specs.Graces.{IsUnspent}
use Rattle.cht_run.specs.Seats.{seen}
use Rattle.cht_run.specs.Unlinks.{HasFreed, HasNoLock, UnlinksOn, locks_one}

-- what a sweep did: it locked one bucket, once, and began one grace at most; its Unlinks are counted, up to 2^64 - 1; and its Opens and Closes come in pairs, as do its Lock and Unlock
pub record SweepDid (did : List What) (row bucket unlinked : ℕ) : Type 0 where
  pub lock : after_all locks_one (Some None) did ≡ Some (Some (row, bucket))
  pub graces : count_by is_grace did ≤ 1
  pub counts : after_all unlinks (Some 0) did ≡ Some unlinked
  pub sections : after_all section (Some false) did ≡ Some false
  pub locks : after_all locked (Some None) did ≡ Some None

-- the bucket that the seat locked last is that of the text, and where fewer than 256 slots were unlinked, each slot of it that was linked and dead then
-- was unlinked
abbrev pub HasSweptAll : Origin → List ℕ → Seat → ℕ → Type 0
HasSweptAll o text seat unlinked = unlinked < 256 → HasSwept o.table.shape.min_level (seen seat) seat.number (hash_of o.seed text)

-- it locked the bucket of the text in a row, unlinked slots of it alone, and freed them; it tells how many there were, up to 2^32 - 1
pub record SweptBucket (o : Origin) (text : List ℕ) (old new : Seat) (unlinked : ℕ) : Type 0 where
  pub nothing : HasNothing new
  pub did : List What
  pub row : ℕ
  pub count : ℕ
  pub did_so : SweepDid did row (bucket_in row (hash_of o.seed text)) count
  pub tells : unlinked ≡ min count 4294967295
  pub swept_all : HasSweptAll o text new unlinked
  pub freed : HasFreed o.table (seen new) new.number
  pub no_lock : HasNoLock o.table (seen new) new.number
  pub ended : Ended o.table old new (Only did) (λ seen window. IsUnspent o.table seen window × UnlinksOn o.table old.number row (bucket_in row (hash_of o.seed text)) seen window)

-- how a sweep ends: it has swept a bucket; or the counter was too great, and it did nothing
abbrev pub Sweeps : Origin → List ℕ → Seat → Seat → Swept → Type 0
Sweeps o text old new (swept.Done unlinked) = SweptBucket o text old new unlinked
Sweeps o text old new (swept.Spent counter) = HasNothing new × Ended o.table old new (Only []) (λ seen window. IsSpent o.table seen window counter)
