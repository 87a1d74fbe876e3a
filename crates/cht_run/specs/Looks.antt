-- What a load tells that no call makes.
use Rattle.std.specs.Prelude.{◌≡◌, ℕ, true, List, [], ◌++◌, length, get_or, Option, Some}
use Rattle.table_shape.specs.Shape.{words_of}
use Rattle.intern_log.specs.declared.event.Kind.TheVariants.{Counted}
use Rattle.intern_log.specs.Own.{is_among}
use Rattle.cht_core.specs.Invariant.{Inv}
use Rattle.cht_core.specs.Memory.{memory_of}
use Rattle.cht_core.specs.View.{View}
use Rattle.cht_run.specs.declared.sight.Entry.{Entry}
use Rattle.cht_run.specs.declared.sight.Origin.{Origin}
use Rattle.cht_run.specs.declared.sight.Sight.{Sight}
use Rattle.cht_run.specs.Begins.{HasLedger}
use Rattle.cht_run.specs.History.{log_of, HasSeen, NoneBy}
use Rattle.cht_run.specs.Holds.{HoldLive}
use Rattle.cht_run.specs.Rule.{view_of}

-- a seat that has seen more, and the words as they are
abbrev pub seeing : Sight → List Entry → List ℕ → Sight
seeing v history words = record v { history = history; earlier = []; words = Some words }

-- a word was found at an index: the words were those of a table with this log; all that came since was seen, and nothing of it is by the seat,
-- which has let go of nothing that it had not had, and in a counted table holds live handles
pub record Looked (o : Origin) (index : ℕ) (v : Sight) (word : ℕ) (w : Sight) : Type 0 where
  pub between : List Entry
  pub none : NoneBy v.numbers between
  pub words : List ℕ
  pub after : w ≡ seeing v (v.history ++ between) words
  pub sized : length words ≡ words_of o.table.shape
  pub found : word ≡ get_or words index 0
  pub seat : ℕ → Option View
  pub inv : Inv o.table (memory_of o.table.shape words) seat (log_of w.history)
  pub sees : HasSeen o.table w.history
  pub ledger : HasLedger w
  pub live : o.table.kind ≡ Counted → HoldLive (log_of w.history) v.numbers
  -- a seat to which all others have come back has seen all, is the only one, and finds the words that it has found before
  pub alone : v.kids ≡ [] → is_among v.numbers 0 ≡ true → between ≡ []
  pub only : v.kids ≡ [] → is_among v.numbers 0 ≡ true → (n : ℕ) (u : View) → seat n ≡ Some u → (n ≡ v.number) × (u ≡ view_of v)
  pub still : v.kids ≡ [] → is_among v.numbers 0 ≡ true → (snapshot : List ℕ) → v.words ≡ Some snapshot → words ≡ snapshot
