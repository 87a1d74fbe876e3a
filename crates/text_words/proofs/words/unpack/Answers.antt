use Rattle.std.proofs.Common.{◌≡◌, ◌∙◌, ◌%◌, ◌/◌, ap, arith, take}
use Rattle.text_words.proofs.Packing.{put_mid-last_word, stored-whole_words}
use Rattle.text_words.proofs.words.unpack.Goals as goal

pub returns-then-over-gt0 : goal.returns-then-over-gt0
returns-then-over-gt0 c =
    let copy = c.copy_from_slice-then-over-gt0 in
    let over = c.args.text_length % 8 in
    let done : c.loop-at.at ≡ c.args.text_length / 8 = omega arith in
    record {
      stored = put_mid-last_word c.args.words.now c.args.out.now c.loop-at.out copy.new.self (c.args.text_length / 8) _ over _ (omega arith) (omega arith)
          (rw done at c.loop-at.invariant) (copy.ensures.after ∙ ap (take over) c.to_le_bytes-last.ensures) (omega arith) (omega arith);
    }

pub returns-else-over-gt0 : goal.returns-else-over-gt0
returns-else-over-gt0 c =
    let done : c.loop-at.at ≡ c.args.text_length / 8 = omega arith in
    record { stored = stored-whole_words c.args.words.now c.args.out.now c.loop-at.out (c.args.text_length / 8) _ (omega arith) (rw done at c.loop-at.invariant) (omega arith) }
