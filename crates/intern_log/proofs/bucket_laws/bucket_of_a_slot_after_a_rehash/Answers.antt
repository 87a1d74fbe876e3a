use Rattle.intern_log.proofs.SlotBucketLaws.{bucket_after_rehash}
use Rattle.intern_log.proofs.bucket_laws.bucket_of_a_slot_after_a_rehash.Goals as goal

pub returns : goal.returns
returns c = record { law = bucket_after_rehash }
