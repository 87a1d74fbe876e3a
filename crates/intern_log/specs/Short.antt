-- Short logs: those with so few Creates that no count of a table runs out.
use Rattle.std.specs.Prelude.{◌<◌, ◌^◌, List}
use Rattle.intern_log.specs.declared.event.Event.{Event}
use Rattle.intern_log.specs.Counts.{is_create, events_in}

-- fewer than 2^47 Creates
abbrev pub IsShort : List Event → Type 0
IsShort log = events_in is_create log < 2 ^ 47
