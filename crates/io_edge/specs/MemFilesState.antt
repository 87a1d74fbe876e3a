-- What files in memory are, and what an opening or a read makes of them.
use Rattle.std.specs.Prelude.{ℕ, ◌≡◌, ◌<◌, ◌≤◌, ◌+◌, Bool, List, [], ◌∷◌, length, drop, Option, Some, None, is_some, option_map, slice_index_or, slice_set, if◌then◌else◌, IfSome}
use Rattle.std.specs.Str.{bytes_eq}
use Rattle.io_edge.specs.Faults.{raised}
use Rattle.io_edge.specs.PlannedCalls.{PlannedCalls, one_more}
use Rattle.io_edge.specs.declared.memory.mem_files.Place.{Place}

-- a file: its name and its bytes
pub record NamedBytes : Type 0 where
  pub name : List ℕ
  pub bytes : List ℕ

-- the file that is open: its name and what is left to read of it
pub record Reading : Type 0 where
  pub name : List ℕ
  pub rest : List ℕ

-- the files in the order in which they were added, the calls so far, a count of faults for each file,
-- one for all names that no file has, and the file that is open
pub record MemFilesState : Type 0 where
  pub files : List NamedBytes
  pub calls : PlannedCalls
  pub faults : List ℕ
  pub other_faults : ℕ
  pub reading : Option Reading

-- the bytes of the first file of that name
abbrev pub bytes_named : List NamedBytes → List ℕ → Option (List ℕ)
bytes_named [] name = None
bytes_named (file ∷ files) name = if bytes_eq file.name name then Some file.bytes else bytes_named files name

-- the place of the first file of that name, or the number of files where none has it
abbrev pub place_named : List NamedBytes → List ℕ → ℕ
place_named [] name = 0
place_named (file ∷ files) name = if bytes_eq file.name name then 0 else (1 + place_named files name)

-- the count of faults of that name
abbrev pub faults_named : MemFilesState → List ℕ → ℕ
faults_named state name = slice_index_or state.faults (place_named state.files name) state.other_faults

-- the name of the file that is open
abbrev pub current_name : MemFilesState → Option (List ℕ)
current_name state = option_map (λ (r : Reading). r.name) state.reading

-- what is left to read of the file that is open
abbrev pub current_rest : MemFilesState → Option (List ℕ)
current_rest state = option_map (λ (r : Reading). r.rest) state.reading

-- whether a file is open
abbrev pub is_reading : MemFilesState → Bool
is_reading state = is_some state.reading

-- the state after a call that left this file open
abbrev pub goes_on : MemFilesState → Reading → MemFilesState
goes_on state reading = record state { calls = one_more state.calls; reading = Some reading }

-- the state after a call that failed: a fault of that name was counted, and no file is open
abbrev pub failed_at : MemFilesState → List ℕ → MemFilesState
failed_at state name = record state {
  calls = one_more state.calls;
  faults = slice_set state.faults (place_named state.files name) (raised (faults_named state name));
  other_faults = if is_some (bytes_named state.files name) then state.other_faults else raised state.other_faults;
  reading = None;
}

-- a file with no name and no bytes
abbrev pub no_file : NamedBytes
no_file = record { name = []; bytes = [] }

-- the file at that place
abbrev pub file_at : List NamedBytes → ℕ → NamedBytes
file_at files i = slice_index_or files i no_file

-- the file that is read at that place, and what is left of it
abbrev pub reading_at : List NamedBytes → Place → Reading
reading_at files place = let file = file_at files place.file in record { name = file.name; rest = drop place.from file.bytes }

-- the place lies in a file, which is the first of its name
pub record IsPlaceIn (files : List NamedBytes) (place : Place) : Type 0 where
  pub in_files : place.file < length files
  pub in_bytes : place.from ≤ length (file_at files place.file).bytes
  pub first : place_named files (file_at files place.file).name ≡ place.file

-- each file has a count, an open file is at a place among the files, and none is open before the first call
pub record IsInOrder (files : List NamedBytes) (calls : PlannedCalls) (faults : List ℕ) (place : Option Place) : Type 0 where
  pub counted : length faults ≡ length files
  pub placed : IfSome place (IsPlaceIn files)
  pub idle : calls.made ≡ 0 → place ≡ None
