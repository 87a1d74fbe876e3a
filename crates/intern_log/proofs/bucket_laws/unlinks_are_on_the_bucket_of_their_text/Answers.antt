use Rattle.intern_log.proofs.SlotBucketLaws.{unlink_is_on}
use Rattle.intern_log.proofs.bucket_laws.unlinks_are_on_the_bucket_of_their_text.Goals as goal

pub returns : goal.returns
returns c = record { law = unlink_is_on }
