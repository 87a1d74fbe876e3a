-- Files by their names: where a name stands, what its bytes are, and what a fault does to the counts.
use Rattle.std.proofs.Common.{◌≡◌, ℕ, ◌+◌, ◌<◌, ◌≤◌, cond, List, [], ◌∷◌, ◌++◌, length, take, drop, get_or, set, nat_lt, Some, None, is_some, refl, ap, sym, zero, suc, arith}
use Rattle.std.proofs.lemmas.Grind.{common_steps}
use Rattle.std.proofs.lemmas.Bool.Decides.{nat_tests}
use Rattle.std.proofs.lemmas.Slice.Eq.{bytes_eq-Decides}
use Rattle.std.proofs.lemmas.List.{drop-drop, take-append-drop}
use Rattle.io_edge.specs.Faults.{raised}
use Rattle.io_edge.specs.MemFilesState.{NamedBytes, MemFilesState, file_at, bytes_named, place_named, faults_named, failed_at}
use Rattle.io_edge.specs.PlannedCalls.{PlannedCalls, one_more}

-- no name stands behind the end of the files
pub place_within : (files : List NamedBytes) (name : List ℕ) → place_named files name ≤ length files
place_within [] name = grind arith
place_within (file ∷ files) name = grind (arith, place_within files name)

-- the file at the place of a name has the name's bytes
pub bytes_at_place : (files : List NamedBytes) (name : List ℕ) → place_named files name < length files → bytes_named files name ≡ Some (file_at files (place_named files name)).bytes
bytes_at_place [] name within = grind arith
bytes_at_place (file ∷ files) name within = grind (arith, common_steps, bytes_at_place files name)

-- the file at the place of a name has the name
pub name_at_place : (files : List NamedBytes) (name : List ℕ) → place_named files name < length files → (file_at files (place_named files name)).name ≡ name
name_at_place [] name within = grind arith
name_at_place (file ∷ files) name within = grind (arith, common_steps, bytes_eq-Decides file.name name, name_at_place files name)

-- a name has bytes exactly where its place is that of a file
pub has_bytes_at_place : (files : List NamedBytes) (name : List ℕ) → is_some (bytes_named files name) ≡ nat_lt (place_named files name) (length files)
has_bytes_at_place [] name = grind (arith, nat_tests)
has_bytes_at_place (file ∷ files) name = grind (arith, nat_tests, has_bytes_at_place files name)

-- what is known of the place of a name
pub ruleset places = (place_within, bytes_at_place, name_at_place, has_bytes_at_place)

-- files that are added behind others have a name only where none of those has it
pub bytes_named-append : (files more : List NamedBytes) (name : List ℕ) → bytes_named (files ++ more) name ≡ cond (is_some (bytes_named files name)) (bytes_named files name) (bytes_named more name)
bytes_named-append [] more name = refl
bytes_named-append (file ∷ files) more name = grind (arith, bytes_named-append files more name)

-- raising one count, and maybe the default, lets no count fall
pub get_or-raised : (counts : List ℕ) (i j other later : ℕ) → other ≤ later → get_or counts j other ≤ get_or (set counts i (raised (get_or counts i other))) j later
get_or-raised [] i j other later le = grind arith
get_or-raised (count ∷ counts) i j other later le = grind (arith, common_steps, get_or-raised counts)

-- what a fault leaves, by the place of its name
pub failed_at-place :
    (files : List NamedBytes) (calls later : PlannedCalls) (faults raises : List ℕ) (others other : ℕ) (name : List ℕ) (place : ℕ) →
    length faults ≡ length files → place ≡ place_named files name → later ≡ one_more calls →
    raises ≡ set faults place (raised (get_or faults place others)) →
    other ≡ cond (nat_lt place (length faults)) others (raised others) →
    failed_at (record { files = files; calls = calls; faults = faults; other_faults = others; reading = None }) name
    ≡ record { files = files; calls = later; faults = raises; other_faults = other; reading = None }
failed_at-place files calls later faults raises others other name place counted at_place called raise other_is =
    let held : is_some (bytes_named files name) ≡ nat_lt place (length faults) = cc (has_bytes_at_place files name) in
    rw (called, raise, other_is, ← held, at_place) refl

-- no count falls where a fault is counted
pub failed_at-faults : (state : MemFilesState) (name other : List ℕ) → faults_named state other ≤ faults_named (failed_at state name) other
failed_at-faults state name other =
    get_or-raised state.faults (place_named state.files name) (place_named state.files other) state.other_faults _ (grind arith)

-- the front of a list that begins with a front of that length
pub take-front : (n : ℕ) (left more : List ℕ) → n ≤ length left → take n (take n left ++ more) ≡ take n left
take-front zero left more within = refl
take-front (suc n) [] more within = absurd (omega arith)
take-front (suc n) (byte ∷ left) more within = ap (λ front. byte ∷ front) (take-front n left more (omega arith))

-- what was left to read is what a read gave, and then what is left after it
pub pieces : (n from : ℕ) (bytes buffer : List ℕ) → n ≤ length (drop from bytes) → drop from bytes ≡ take n (take n (drop from bytes) ++ drop n buffer) ++ drop (from + n) bytes
pieces n from bytes buffer within =
    rw (take-front n (drop from bytes) (drop n buffer) within, ← drop-drop n from bytes) (sym (take-append-drop n (drop from bytes)))
