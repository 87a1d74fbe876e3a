use Rattle.intern_log.proofs.SlotBucketLaws.{bucket_unchanged}
use Rattle.intern_log.proofs.bucket_laws.bucket_of_a_slot_stays.Goals as goal

pub returns : goal.returns
returns c = record { law = bucket_unchanged }
