use Rattle.std.proofs.Common.{◌^◌, ◌/◌, sym}
use Rattle.std.proofs.Math.Nat.{div-add-mod}
use Rattle.text_words.specs.Hash.{hash_of}
use Rattle.intern_log.proofs.row_laws.bucket_of_a_text.Goals as goal

pub returns-clause-rest : goal.returns-clause-rest
returns-clause-rest c = λ seed level text. (hash_of seed text / 2 ^ level, sym (div-add-mod (hash_of seed text) (2 ^ level)))
