-- The bucket of a text at a place of a log, and of the slot that the text is in.
use Rattle.std.specs.Prelude.{◌≡◌, ℕ, List, Option, Some, None}
use Rattle.intern_log.specs.declared.event.What.{What}
use Rattle.intern_log.specs.declared.event.What.TheVariants.{Unlink}
use Rattle.intern_log.specs.Buckets.{bucket_of}
use Rattle.intern_log.specs.Now.{Phase, Vacant, Claimed, Linked, Unlinked, Now}

-- the bucket of a text at a place, by the seed there, in the row of 2^row buckets
abbrev pub bucket_now : Now → ℕ → List ℕ → ℕ
bucket_now now row text = bucket_of now.seed row text

-- the bucket of a slot that is in a chain: that of its text
abbrev pub phase_bucket : Now → ℕ → Phase → Option ℕ
phase_bucket now row Vacant = None
phase_bucket now row (Claimed seat) = None
phase_bucket now row (Linked text h born) = Some (bucket_now now row text)
phase_bucket now row (Unlinked seat place) = None

abbrev pub slot_bucket : Now → ℕ → ℕ → Option ℕ
slot_bucket now row s = phase_bucket now row (now.slot s)

-- the event is an Unlink, and in this row it is on this bucket: the one of its slot's text
abbrev pub IsUnlinkOn : Now → ℕ → ℕ → What → Type 0
IsUnlinkOn now row bucket what = (s : ℕ) × (what ≡ Unlink s) × (slot_bucket now row s ≡ Some bucket)
