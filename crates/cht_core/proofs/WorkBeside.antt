-- The steps of works and sweeps that leave the sections, the level and the owner of the resize lock as they are.
use Rattle.std.proofs.Common.{◌≢◌, ℕ, refl, ap, ◌∙◌, List, Option}
use Rattle.intern_log.specs.Now.{OpenSection}
use Rattle.table_shape.specs.declared.shape.Shape.{Shape}
use Rattle.atomic_step.specs.Event.{event_of}
use Rattle.call_machine.specs.declared.clean.CleanAlong.{CleanAlong}
use Rattle.call_machine.specs.declared.clean.CleanStage.{CleanStage}
use Rattle.call_machine.specs.declared.clean.CleanStage.TheVariants as clean
use Rattle.call_machine.specs.declared.grace.Grace.{Grace}
use Rattle.call_machine.specs.declared.grace.GraceStage.{GraceStage}
use Rattle.call_machine.specs.declared.grace.GraceStage.TheVariants.{RaiseCounter, LoadSection}
use Rattle.call_machine.specs.declared.pass.Cleaning.{Cleaning}
use Rattle.call_machine.specs.declared.pass.FreeStage.{FreeStage}
use Rattle.call_machine.specs.declared.pass.FreeStage.TheVariants.{PutNextGeneration, FreeSlot}
use Rattle.call_machine.specs.Clean.{clean_row}
use Rattle.call_machine.specs.Grace.{grace_row}
use Rattle.call_machine.specs.Pass.{free_row}
use Rattle.cht_core.specs.Past.{Past, told}
use Rattle.cht_core.specs.Search.{IsOutside}
use Rattle.cht_core.proofs.LockStages.{IsSameBeside, lock_beside, unlock_beside, pass_beside}

-- a seat that was outside its section is outside still
pub outside_beside : {p p' : Past} (i : ℕ) → IsSameBeside p p' → IsOutside p.now i → IsOutside p'.now i
outside_beside i same outside = ap (λ (section : ℕ → Option OpenSection). section i) same.section ∙ outside

-- the sections, the level and the owner are the same after a step of a grace
pub grace_beside : (p : Past) (i : ℕ) (text : List ℕ) (seats : ℕ) (g : Grace) (s : GraceStage) (word : ℕ) → IsSameBeside p (told p i (event_of text (grace_row seats g s).step word))
grace_beside p i text seats g RaiseCounter word = record { section = refl; level = refl; owner = refl }
grace_beside p i text seats g LoadSection word = record { section = refl; level = refl; owner = refl }

-- after a step that frees slots
pub free_beside : (p : Past) (i : ℕ) (text : List ℕ) (c : Cleaning) (s : FreeStage) (word : ℕ) → IsSameBeside p (told p i (event_of text (free_row c s).step word))
free_beside p i text c (PutNextGeneration at) word = record { section = refl; level = refl; owner = refl }
free_beside p i text c (FreeSlot at) word = record { section = refl; level = refl; owner = refl }

-- each step of a clean leaves the sections as they are, and all but the last the level and the owner too
pub clean_beside : (p : Past) (i : ℕ) (text : List ℕ) (shape : Shape) (w : CleanAlong) (s : CleanStage) (word : ℕ) → s ≢ clean.GiveResizeLock
    → IsSameBeside p (told p i (event_of text (clean_row shape w s).step word))
clean_beside p i text shape w clean.LoadLevel word not_last = record { section = refl; level = refl; owner = refl }
clean_beside p i text shape w (clean.Lock s) word not_last = lock_beside p i text w.cleaning.row w.cleaning.bucket s word
clean_beside p i text shape w (clean.Pass s) word not_last = pass_beside p i text w.cleaning s word
clean_beside p i text shape w clean.UnlockHead word not_last = unlock_beside p i w.cleaning.row w.cleaning.bucket
clean_beside p i text shape w (clean.Grace freeing s) word not_last = grace_beside p i text shape.seats w.grace s word
clean_beside p i text shape w (clean.Free freeing s) word not_last = free_beside p i text w.cleaning s word
clean_beside p i text shape w clean.GiveResizeLock word not_last = absurd (not_last refl)

-- and its seat stays outside its section
pub clean_outside : (p : Past) (i : ℕ) (text : List ℕ) (shape : Shape) (w : CleanAlong) (s : CleanStage) (word : ℕ) → IsOutside p.now i
    → IsOutside (told p i (event_of text (clean_row shape w s).step word)).now i
clean_outside p i text shape w clean.LoadLevel word outside = outside
clean_outside p i text shape w (clean.Lock s) word outside = outside_beside i (lock_beside p i text w.cleaning.row w.cleaning.bucket s word) outside
clean_outside p i text shape w (clean.Pass s) word outside = outside_beside i (pass_beside p i text w.cleaning s word) outside
clean_outside p i text shape w clean.UnlockHead word outside = outside
clean_outside p i text shape w (clean.Grace freeing s) word outside = outside_beside i (grace_beside p i text shape.seats w.grace s word) outside
clean_outside p i text shape w (clean.Free freeing s) word outside = outside_beside i (free_beside p i text w.cleaning s word) outside
clean_outside p i text shape w clean.GiveResizeLock word outside = outside
