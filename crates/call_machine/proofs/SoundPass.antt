-- A bucket that is cleaned stays sound by each step of the pass, and by each step that frees a slot.
use Rattle.std.proofs.Common.{◌≡◌, ◌<◌, ◌+◌, ◌^◌, ◌==◌, ℕ, Option, Some, None, [], ◌∷◌, length, length-append, refl}
use native.Mathlib.Omega.{arith}
use Rattle.std.specs.Prelude.{IfSome, nat_lt}
use Rattle.std.proofs.lemmas.Bool.{ltb-true}
use Rattle.std.proofs.lemmas.List.Elements.{All-append, All-cons, All-nil}
use Rattle.table_shape.specs.declared.place.Place.TheVariants as place
use Rattle.table_shape.specs.declared.shape.Shape.{Shape}
use Rattle.table_shape.specs.Place.{IsInside}
use Rattle.marked_word.specs.Link.{node_of}
use Rattle.atomic_step.specs.declared.step.Step.{Step}
use Rattle.atomic_step.specs.Count.{holds_of}
use Rattle.atomic_step.specs.SoundStep.{IsNode, IsSoundStep, CanBeFound}
use Rattle.atomic_step.specs.Step.{edge_place}
use Rattle.atomic_step.proofs.Choices.{where_it_is, not_equal}
use Rattle.call_machine.specs.declared.pass.Cleaning.{Cleaning}
use Rattle.call_machine.specs.declared.pass.FreeStage.{FreeStage}
use Rattle.call_machine.specs.declared.pass.FreeStage.TheVariants.{PutNextGeneration, FreeSlot}
use Rattle.call_machine.specs.declared.pass.PassStage.{PassStage}
use Rattle.call_machine.specs.declared.pass.PassStage.TheVariants.{LoadCount, LoadLink, Unlink}
use Rattle.call_machine.specs.declared.pass.Waiting.{Waiting}
use Rattle.call_machine.specs.Pass.{begins_pass, passes_on, dead_of, edge_behind, first_behind, waits, unlinks, after_unlink, looks_at, pass_row, all_freed, free_row}
use Rattle.call_machine.specs.SoundPass.{MayWait, IsSoundCleaning, IsSoundPass, IsSoundFree}
use Rattle.call_machine.proofs.Nodes.{node_below}

-- a step that a seat of any number may make
abbrev pub MayMake : Shape → Step → Type 0
MayMake shape s = (seat : ℕ) → IsSoundStep shape seat s

pub head_inside : (shape : Shape) (c : Cleaning) → IsSoundCleaning shape c → IsInside shape (place.Head c.row c.bucket)
head_inside shape c sound = (sound.level.0, sound.level.1, sound.bucket)

-- a pass may go on there, or is over
abbrev pub PassesOn : Shape → Cleaning → Option PassStage → Type 0
PassesOn shape c next = IfSome next (λ s. IsSoundPass c s × MayMake shape (pass_row c s).step)

pub passes_from : (shape : Shape) (c : Cleaning) (next : Option ℕ) → IsNode shape next → length c.waiting.items < 256 → PassesOn shape c (passes_on next)
passes_from shape c None node few = tt
passes_from shape c (Some x) node few = ((few, tt), λ seat. (node, tt, tt, tt))

pub begins_soundly : (shape : Shape) (c : Cleaning) (first : Option ℕ) → IsSoundCleaning shape c → IsNode shape first → IsSoundCleaning shape (begins_pass c first)
begins_soundly shape c first sound node = record {
  level = sound.level;
  bucket = sound.bucket;
  first = node;
  last = tt;
  waiting = sound.waiting;
  few = sound.few;
  pass_waiting = omega arith;
}

-- the generation of a count word is below 2^48
dead_below : (word : ℕ) → word < 2 ^ 64 → IfSome (dead_of word) (λ g. g < 2 ^ 48)
dead_below word small = where_it_is (λ (o : Option ℕ). IfSome o (λ g. g < 2 ^ 48)) (holds_of word == 0) _ _ (λ dead. omega (arith, small)) (λ live. tt)

edge_inside : (shape : Shape) (c : Cleaning) (last : Option ℕ) → IsSoundCleaning shape c → IsNode shape last → IsInside shape (edge_place (edge_behind c last))
edge_inside shape c None sound node = head_inside shape c sound
edge_inside shape c (Some x) sound node = node

first_below : (shape : Shape) (last first next : Option ℕ) → IsNode shape first → IsNode shape next → IsNode shape (first_behind last first next)
first_below shape None first next a b = b
first_below shape (Some x) first next a b = a

waits_soundly : (shape : Shape) (c : Cleaning) (x g : ℕ) → IsSoundCleaning shape c → x < shape.slots → length c.waiting.items < 256 → IsSoundCleaning shape (waits c x g)
waits_soundly shape c x g sound node few =
    where_it_is (IsSoundCleaning shape) (nat_lt (g + 1) (2 ^ 48)) _ _
    (λ rises.
    let small = ltb-true (g + 1) (2 ^ 48) rises in
    let one : Waiting = record { slot = x; generation = g } in
    let count = length-append c.waiting.items (one ∷ []) in
    let counted = sound.pass_waiting in
    record {
      level = sound.level;
      bucket = sound.bucket;
      first = sound.first;
      last = sound.last;
      waiting = All-append (MayWait shape) c.waiting.items (one ∷ []) sound.waiting (All-cons (MayWait shape) one [] (node, small) (All-nil (MayWait shape)));
      few = omega (arith, few, count);
      pass_waiting = omega (arith, count, counted);
    })
    (λ stays. sound)

goes_on : (shape : Shape) (c : Cleaning) (next : Option ℕ) → IsSoundCleaning shape c → IsNode shape next → PassesOn shape c (after_unlink c next)
goes_on shape c next sound node =
    where_it_is (PassesOn shape c) (length c.waiting.items == 256) None (passes_on next) (λ full. tt)
    (λ room. let few = sound.few in let less = not_equal (length c.waiting.items) 256 room in passes_from shape c next node (omega (arith, few, less)))

link_next : (shape : Shape) (c : Cleaning) (x : ℕ) (dead : Option ℕ) → x < shape.slots → IfSome dead (λ g. g < 2 ^ 48) → length c.waiting.items < 256 → PassesOn shape c (Some (LoadLink x dead))
link_next shape c x None node small few = ((few, tt), λ seat. (node, tt, tt, tt))
link_next shape c x (Some g) node small few = ((few, small), λ seat. (node, tt, tt, tt))

-- what a pass comes to
abbrev IsSoundPassed : Shape → Cleaning × Option PassStage → Type 0
IsSoundPassed shape came = IsSoundCleaning shape came.0 × PassesOn shape came.0 came.1

unlinks_soundly : (shape : Shape) (c : Cleaning) (x g : ℕ) (next : Option ℕ) → IsSoundCleaning shape c → x < shape.slots → IsNode shape next → length c.waiting.items < 256
    → IsSoundPassed shape (unlinks c x g next, after_unlink (unlinks c x g next) next)
unlinks_soundly shape c x g next sound node after few =
    let after_it : IsSoundCleaning shape (unlinks c x g next) = waits_soundly shape _ x g (record {
      level = sound.level;
      bucket = sound.bucket;
      first = first_below shape c.last c.first next sound.first after;
      last = sound.last;
      waiting = sound.waiting;
      few = sound.few;
      pass_waiting = sound.pass_waiting;
    }) node few in
    (after_it, goes_on shape (unlinks c x g next) next after_it after)

pub pass_soundly : (shape : Shape) (c : Cleaning) (s : PassStage) (seat word : ℕ) → word < 2 ^ 64 → IsSoundCleaning shape c → IsSoundPass c s → IsSoundStep shape seat (pass_row c s).step
    → CanBeFound shape (pass_row c s).step word → IsSoundPassed shape ((pass_row c s).next word)
pass_soundly shape c (LoadCount x) seat word small sound at may fits = (
  record { level = sound.level; bucket = sound.bucket; first = sound.first; last = sound.last; waiting = sound.waiting; few = sound.few; pass_waiting = sound.pass_waiting },
  link_next shape (looks_at c) x (dead_of word) may.0 (dead_below word small) at.0,
)
pass_soundly shape c (LoadLink x None) seat word small sound at may fits = (
  record { level = sound.level; bucket = sound.bucket; first = sound.first; last = may.0; waiting = sound.waiting; few = sound.few; pass_waiting = sound.pass_waiting },
  passes_from shape (record c { last = Some x }) (node_of word) (node_below shape word fits.0) at.0,
)
pass_soundly shape c (LoadLink x (Some g)) seat word small sound at may fits =
    (sound, (at, λ seat. (edge_inside shape c c.last sound sound.last, tt, (may.0, node_below shape word fits.0), tt)))
pass_soundly shape c (Unlink x g next) seat word small sound at may fits = unlinks_soundly shape c x g next sound may.2.0 may.2.1 at.0

-- freeing may go on there, or no slot waits
abbrev pub FreesOn : Shape → Cleaning → Option FreeStage → Type 0
FreesOn shape c None = c.waiting.items ≡ []
FreesOn shape c (Some s) = IsSoundFree c s × MayMake shape (free_row c s).step

pub frees_from : (shape : Shape) (c : Cleaning) (at : ℕ) → IsSoundCleaning shape c → at < length c.waiting.items → FreesOn shape c (Some (PutNextGeneration at))
frees_from shape c at sound below = let may = sound.waiting at (record { slot = 0; generation = 0 }) below in (below, λ seat. (may.0, may.1, tt, tt))

abbrev IsSoundFreed : Shape → Cleaning × Option FreeStage → Type 0
IsSoundFreed shape came = IsSoundCleaning shape came.0 × FreesOn shape came.0 came.1

freed_soundly : (shape : Shape) (c : Cleaning) → IsSoundCleaning shape c → IsSoundCleaning shape (all_freed c)
freed_soundly shape c sound = record {
  level = sound.level;
  bucket = sound.bucket;
  first = sound.first;
  last = sound.last;
  waiting = All-nil (MayWait shape);
  few = omega arith;
  pass_waiting = omega arith;
}

pub free_soundly : (shape : Shape) (c : Cleaning) (s : FreeStage) (seat word : ℕ) → IsSoundCleaning shape c → IsSoundFree c s → IsSoundStep shape seat (free_row c s).step → IsSoundFreed shape ((free_row c s).next word)
free_soundly shape c (PutNextGeneration at) seat word sound below may = (sound, (below, λ seat. (may.0, tt, tt, tt)))
free_soundly shape c (FreeSlot at) seat word sound below may =
    where_it_is (IsSoundFreed shape) (at + 1 == length c.waiting.items) _ _
    (λ last. (freed_soundly shape c sound, refl))
    (λ more. let other = not_equal (at + 1) (length c.waiting.items) more in (sound, frees_from shape c (at + 1) sound (omega (arith, below, other))))
