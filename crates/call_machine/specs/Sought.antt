-- The text of a call.
use Rattle.std.specs.Prelude.{◌≡◌, ℕ, ◌*◌, ◌^◌, ◌<◌, ◌≤◌, Bool, min, nat_lt, List, length}
use Rattle.text_words.specs.Hash.{hash_of}
use Rattle.text_words.specs.Words.{words_of}
use Rattle.marked_word.specs.declared.meta.Meta.{Meta}
use Rattle.table_shape.specs.declared.shape.Shape.{Shape}
use Rattle.call_machine.specs.declared.sought.Sought.{Sought}
use Rattle.call_machine.specs.declared.stage.Asked.{Asked}
use Rattle.call_machine.specs.declared.stage.Request.{Request}

-- the hash and length of an entry that has the text
abbrev pub meta_of : ℕ → List ℕ → Meta
meta_of seed text = record { hash = hash_of seed text; length = length text }

-- the hash and the meta are those of the text
pub record IsSought (seed : ℕ) (sought : Sought) : Type 0 where
  pub short : length sought.text.now ≤ 65535
  pub hash : sought.hash ≡ hash_of seed sought.text.now
  pub meta : sought.meta ≡ meta_of seed sought.text.now

-- what a request asks
abbrev pub asked_of : Request → Asked
asked_of r = record { kind = r.kind; shape = r.shape; seed = r.seed; number = r.number; goal = r.goal; text = r.sought.text.now; handle = r.handle }

-- its text is hashed, and the slots of its table are numbered by 32 bits
pub record IsRequest (r : Request) : Type 0 where
  pub sought : IsSought r.seed r.sought
  pub slots : r.shape.slots < 2 ^ 32

-- whether a slot of the shape has too few words for a text of so many bytes
abbrev pub is_too_long : Shape → List ℕ → Bool
is_too_long shape text = nat_lt (min 65535 (8 * shape.text_words)) (length text)

-- whether a text has a word of this number
abbrev pub has_word : List ℕ → ℕ → Bool
has_word text at = nat_lt at (words_of (length text))
