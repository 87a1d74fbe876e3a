-- What an inserter knows at each of its stages is what the table asks of its step.
use Rattle.std.proofs.Common.{◌≡◌, ℕ, ◌+◌, ◌*◌, ◌<◌, ◌^◌, List, [], length, subst, arith, inl, inr, get_or}
use Rattle.std.proofs.lemmas.Bool.{cases_lt}
use Rattle.std.proofs.lemmas.List.{get_or_past}
use Rattle.std.proofs.lemmas.List.Elements.{All-get_or}
use Rattle.text_words.specs.Hash.{hash_of}
use Rattle.text_words.specs.Words.{words_of, word_at}
use Rattle.marked_word.specs.Head.{first_of}
use Rattle.call_machine.specs.declared.insert.InsertStage.{InsertStage}
use Rattle.call_machine.specs.declared.insert.InsertStage.TheVariants as insert
use Rattle.call_machine.specs.declared.stage.Along.{Along}
use Rattle.call_machine.specs.declared.stage.Asked.{Asked}
use Rattle.call_machine.specs.Insert.{insert_row}
use Rattle.call_machine.specs.SoundCall.{HasRoom}
use Rattle.cht_core.specs.declared.table.Table.{Table}
use Rattle.cht_core.specs.Backs.{Backs}
use Rattle.cht_core.specs.Flow.{Flow}
use Rattle.cht_core.specs.Stage.{bucket_in}
use Rattle.cht_core.specs.KnowsCall.{KnowsInsert, HasWords}
use Rattle.cht_core.specs.Memory.{Memory}
use Rattle.cht_core.specs.Past.{Past}
use Rattle.cht_core.specs.Search.{Searched}
use Rattle.cht_core.specs.Slots.{AreBytes}
use Rattle.cht_core.proofs.Ties.{IsAskedOf}

-- a word of a text of bytes is small
pub word_small : (text : List ℕ) (at : ℕ) → AreBytes text → word_at text at < 2 ^ 64
word_small text at bytes = omega (arith, byte (8 * at + 0), byte (8 * at + 1), byte (8 * at + 2), byte (8 * at + 3), byte (8 * at + 4), byte (8 * at + 5), byte (8 * at + 6), byte (8 * at + 7))
  where
    byte : (k : ℕ) → get_or text k 0 < 256
    byte k = elim (cases_lt k (length text)) [
      | inl within ↦ All-get_or (λ (b : ℕ). b < 256) text k 0 within bytes
      | inr past ↦ rw (get_or_past text k 0 past) (omega arith)
    ]

module _ (t : Table) (m : Memory) (p : Past) (f : Flow) (i load : ℕ) (passed : List ℕ) (q : Asked) (w : Along) (tie : IsAskedOf t p.now i q) (room : HasRoom q.shape q.text) where
  -- the table backs the step of each stage
  pub insert_backs : (s : InsertStage) → KnowsInsert m p.now f i load passed q w s → Backs t m p f i q.text (insert_row q w s).step
  insert_backs (insert.Claim slot tried) known = tt
  insert_backs (insert.OwnCount slot) known = tt
  insert_backs (insert.PutMeta h) known = known.1.0
  insert_backs (insert.PutText h at) known = (known.1.0, word_small q.text at tie.bytes)
  insert_backs (insert.PutLink h) known = known.1.0
  insert_backs (insert.PutCount h) known = (known.1, omega arith)
  insert_backs (insert.Create h) known = record {
    load = load;
    passed = passed;
    searched = subst (λ seed. Searched p.now f i q.text (hash_of seed q.text) w.walk.row load (first_of w.walk.head) passed []) tie.seed known.0.searched;
    at_bucket = subst (λ seed. w.walk.bucket ≡ bucket_in w.walk.row (hash_of seed q.text)) tie.seed known.0.bucket;
    open_head = known.0.open_head;
    plain = known.0.plain;
    room = (subst (λ shape. HasRoom shape q.text) tie.shape room, tie.bytes);
    claimed = known.1;
    words = subst (λ seed. HasWords m seed q.text h.slot (words_of (length q.text))) tie.seed known.2;
    link = known.3;
    count = known.4;
  }
