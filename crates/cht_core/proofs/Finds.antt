-- The words that steps find are words that they may find.
use Rattle.std.proofs.Common.{◌≡◌, ℕ, ◌<◌, ◌≤◌, List, Option, Some, None, inl, inr, arith}
use Rattle.marked_word.specs.Number.{new_level_word}
use Rattle.table_shape.specs.declared.place.Place.{Place}
use Rattle.table_shape.specs.declared.place.Place.TheVariants as place
use Rattle.atomic_step.specs.declared.step.Step.{Step}
use Rattle.atomic_step.specs.declared.count.Change.TheVariants.{Drop, Permanent, Kill}
use Rattle.atomic_step.specs.declared.step.Edge.TheVariants as edge
use Rattle.atomic_step.specs.declared.step.Step.TheVariants as step
use Rattle.atomic_step.specs.SoundStep.{CanStandAt, CanBeFound}
use Rattle.atomic_step.specs.Table.{IsWordAt, IsReadable}
use Rattle.cht_core.specs.declared.table.Table.{Table}
use Rattle.cht_core.specs.Backs.{Backs}
use Rattle.cht_core.specs.Flow.{Flow}
use Rattle.cht_core.specs.Memory.{Memory, found}
use Rattle.cht_core.specs.Past.{Past}
use Rattle.cht_core.specs.Stage.{named_level}
use Rattle.cht_core.specs.TableState.{IsTable, Words}
use Rattle.cht_core.proofs.CountSteps.{handle_fits}

-- a word that may stand at its place can be found there, once it is readable
can_stand : (t : Table) (p : Place) (word : ℕ) → IsWordAt t.shape p word → IsReadable p word → CanStandAt t.shape p word
can_stand t place.Draws word at readable = tt
can_stand t place.Counter word at readable = (at.0, readable)
can_stand t place.ResizeLock word at readable = tt
can_stand t place.Level word at readable = at
can_stand t place.NewLevel word at readable = elim at [
  | inl none ↦ absurd (omega (arith, none, readable))
  | inr level ↦ let low = level.0 in let high = level.1 in (readable, (omega (arith, low), omega (arith, high)))
]
can_stand t (place.Section number) word at readable = tt
can_stand t (place.Head row bucket) word at readable = at.0
can_stand t (place.Claim slot) word at readable = tt
can_stand t (place.Link slot) word at readable = at
can_stand t (place.Count slot) word at readable = tt
can_stand t (place.Meta slot) word at readable = at
can_stand t (place.Text slot n) word at readable = tt

module _ (t : Table) (m : Memory) (words : Words t m) where
  -- of the words of a table all can be found, the new level once there is one
  stands : (p : Place) → IsReadable p (m p) → CanStandAt t.shape p (m p)
  stands p readable = can_stand t p (m p) (words.sound p) readable

-- a word that names a new level is none of no level
new_level_readable : (word : ℕ) (named : Option ℕ) (level : ℕ) → word ≡ new_level_word named → named ≡ Some level → 1 ≤ word
new_level_readable word None level is names = absurd (cc)
new_level_readable word (Some k) level is names = omega (arith, is)

-- the word that a step finds may be found by it
pub finds : (t : Table) (m : Memory) (p : Past) (f : Flow) (i : ℕ) (text : List ℕ) (s : Step) → IsTable t m p f → i < t.shape.seats → Backs t m p f i text s → CanBeFound t.shape s (found s m)
finds t m p f i text step.LoadDraws table inside backs = (tt, tt)
finds t m p f i text step.Draw table inside backs = (tt, tt)
finds t m p f i text step.LoadCounter table inside backs = (stands t m table.words place.Counter table.words.counter, tt)
finds t m p f i text (step.OpenSection number counter) table inside backs = (tt, tt)
finds t m p f i text (step.CloseSection number) table inside backs = (tt, tt)
finds t m p f i text step.LoadLevel table inside backs = (stands t m table.words place.Level tt, tt)
finds t m p f i text step.LoadNewLevel table inside backs =
    (stands t m table.words place.NewLevel (new_level_readable (m place.NewLevel) (named_level f.stage p.now.level) backs.0 table.heads.new_level backs.1), tt)
finds t m p f i text (step.LoadHead row bucket) table inside backs = (stands t m table.words (place.Head row bucket) tt, tt)
finds t m p f i text (step.LoadLink slot) table inside backs = (stands t m table.words (place.Link slot) tt, tt)
finds t m p f i text (step.LoadMeta slot) table inside backs = (stands t m table.words (place.Meta slot) tt, tt)
finds t m p f i text (step.LoadText slot at) table inside backs = (tt, tt)
finds t m p f i text (step.LoadCount slot) table inside backs = (tt, tt)
finds t m p f i text (step.SeeEntry kind slot) table inside backs = (tt, tt)
finds t m p f i text (step.SeeHandle Drop h) table inside backs = (tt, handle_fits t m p f i Drop h table inside backs (λ same. absurd (cc)))
finds t m p f i text (step.SeeHandle Permanent h) table inside backs = (tt, handle_fits t m p f i Permanent h table inside backs (λ same. absurd (cc)))
finds t m p f i text (step.SeeHandle Kill h) table inside backs = (tt, tt)
finds t m p f i text (step.TakeEntry slot count) table inside backs = (tt, tt)
finds t m p f i text (step.ChangeEntry change h count) table inside backs = (tt, tt)
finds t m p f i text (step.ClaimSlot slot) table inside backs = (tt, tt)
finds t m p f i text (step.FreeSlot slot) table inside backs = (tt, tt)
finds t m p f i text (step.PutMeta slot meta) table inside backs = (tt, tt)
finds t m p f i text (step.PutText slot at word) table inside backs = (tt, tt)
finds t m p f i text (step.PutLink slot next) table inside backs = (tt, tt)
finds t m p f i text (step.PutCount h holds) table inside backs = (tt, tt)
finds t m p f i text (step.PutNextGeneration slot generation) table inside backs = (tt, tt)
finds t m p f i text (step.CreateEntry h row bucket head) table inside backs = (stands t m table.words (place.Head row bucket) tt, tt)
finds t m p f i text step.RaiseCounter table inside backs = (stands t m table.words place.Counter table.words.counter, tt)
finds t m p f i text (step.LoadSection number) table inside backs = (tt, tt)
finds t m p f i text (step.LockHead row bucket head) table inside backs = (stands t m table.words (place.Head row bucket) tt, tt)
finds t m p f i text (step.UnlockHead row bucket first) table inside backs = (tt, tt)
finds t m p f i text (step.Unlink slot (edge.Head row bucket) next) table inside backs = (tt, tt)
finds t m p f i text (step.Unlink slot (edge.Link last) next) table inside backs = (tt, tt)
finds t m p f i text (step.TakeResizeLock number) table inside backs = (tt, tt)
finds t m p f i text step.GiveResizeLock table inside backs = (tt, tt)
finds t m p f i text (step.PutHead row bucket first) table inside backs = (tt, tt)
finds t m p f i text (step.PutNewLevel level) table inside backs = (tt, tt)
finds t m p f i text (step.RedirectHead row bucket first) table inside backs = (tt, tt)
finds t m p f i text (step.MoveEdge (edge.Head row bucket) next) table inside backs = (tt, tt)
finds t m p f i text (step.MoveEdge (edge.Link last) next) table inside backs = (tt, tt)
finds t m p f i text (step.StoreLevel level) table inside backs = (tt, tt)
finds t m p f i text (step.JoinChains slot next) table inside backs = (tt, tt)
