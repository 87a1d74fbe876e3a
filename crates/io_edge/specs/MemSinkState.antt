-- What a sink in memory holds, and what a write makes of it.
use Rattle.std.specs.Prelude.{ℕ, ◌-◌, List, ◌++◌, length}
use Rattle.io_edge.specs.Faults.{raised}
use Rattle.io_edge.specs.PlannedCalls.{PlannedCalls, one_more}

-- the calls so far, the count of faults, the bytes that were taken and how many more fit
pub record MemSinkState : Type 0 where
  pub calls : PlannedCalls
  pub faults : ℕ
  pub bytes : List ℕ
  pub room : ℕ

-- the sink after a call that took those bytes
abbrev pub taken : MemSinkState → List ℕ → MemSinkState
taken sink piece = record sink { calls = one_more sink.calls; bytes = sink.bytes ++ piece; room = sink.room - length piece }

-- the sink after a call that failed
abbrev pub refused : MemSinkState → MemSinkState
refused sink = record sink { calls = one_more sink.calls; faults = raised sink.faults }
