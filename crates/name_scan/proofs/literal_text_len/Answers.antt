use Rattle.std.proofs.Common.{◌≡◌, true}
use Rattle.std.proofs.lemmas.List.{take_rest}
use Rattle.name_scan.proofs.Texts.{reads_none, reads_taken, reads_alone}
use Rattle.name_scan.proofs.Classes.{reads_class}
use Rattle.name_scan.proofs.literal_text_len.Goals as goal
use Rattle.name_scan.proofs.literal_text_len.Goals.{in_default-via-in-Backslash+else-may_be_taken, in_default-via-in_default}

pub loop-len-init : goal.loop-len-init
loop-len-init c = reads_none c.args.behind.now

pub loop-len-preserved-then-may_be_taken : goal.loop-len-preserved-then-may_be_taken
loop-len-preserved-then-may_be_taken c =
    reads_taken c.args.behind.now c.loop-len.len c.loop-len.invariant c.loop-len-test.true c.in-Backslash.ensures (rw take_rest at (c.may_be_taken.ensures.0 c.if-may_be_taken.true))

pub loop-len-preserved : goal.loop-len-preserved
loop-len-preserved c = elim c.in_default.branch [
  | in_default-via-in-Backslash+else-may_be_taken w ↦
      reads_alone c.args.behind.now c.loop-len.len c.loop-len.invariant c.loop-len-test.true w.in-Backslash.ensures
      (λ taken. let may : w.may_be_taken.result ≡ true = w.may_be_taken.ensures.1 (rw take_rest taken) in cc)
  | in_default-via-in_default w ↦
      reads_class c.args.behind.now c.loop-len.len c.of.result c.loop-len.invariant c.loop-len-test.true c.of.ensures w.in_default.not-Newline w.in_default.not-Backslash w.in_default.not-Quote
]
