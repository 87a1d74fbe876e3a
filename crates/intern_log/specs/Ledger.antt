-- What callers hold, against what the map says.
use Rattle.std.specs.Prelude.{◌≡◌, ℕ, ◌<◌, ◌+◌, List, ◌++◌, Some}
use Rattle.intern_log.specs.declared.event.Handle.{Handle}
use Rattle.intern_log.specs.declared.event.Entry.{Entry}
use Rattle.intern_log.specs.declared.event.Event.{Event}
use Rattle.intern_log.specs.TextMap.{entry_of, IsLive}
use Rattle.intern_log.specs.Log.{map_of}
use Rattle.intern_log.specs.Own.{gains, losses}

-- the ledger of a log: at each place, an entry's count below 65,535 is what all callers hold, and a handle that is not live is held by nobody
pub record MeetsLedger (log : List Event) : Type 0 where
  pub live : (front back : List Event) (text : List ℕ) (e : Entry) → log ≡ front ++ back → entry_of (map_of front) text ≡ Some e → e.count < 65535 → gains front e.handle ≡ losses front e.handle + e.count
  pub gone : (front back : List Event) (h : Handle) → log ≡ front ++ back → ¬ (IsLive (map_of front) h) → gains front h ≡ losses front h
