use Rattle.std.proofs.Common.{◌≡◌, ◌≤◌, ◌-◌, ◌++◌, length, take}
use Rattle.std.specs.Option.{option_map}
use Rattle.table_program.proofs.writing.write_all.Given as goal

-- the first `done` bytes of the text were written, and faults never fell
abbrev pub invariant-loop-done : goal.invariant-loop-done
invariant-loop-done g l = record {
  within : l.done ≤ length l.text;
  so_far : g.K.Sink.written l.out ≡ option_map (λ w. w ++ take l.done l.text) (g.K.Sink.written l.initial.out);
  counts : g.K.Sink.faults l.initial.out ≤ g.K.Sink.faults l.out;
}

-- the bytes that are left
abbrev pub decreases-loop-done : goal.decreases-loop-done
decreases-loop-done g l = length l.text - l.done
