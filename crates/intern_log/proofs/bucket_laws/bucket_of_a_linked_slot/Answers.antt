use Rattle.intern_log.proofs.SlotBucketLaws.{linked_bucket}
use Rattle.intern_log.proofs.bucket_laws.bucket_of_a_linked_slot.Goals as goal

pub returns : goal.returns
returns c = record { law = linked_bucket }
