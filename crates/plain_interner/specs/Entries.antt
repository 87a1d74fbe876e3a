-- The entries of live texts, as they are kept: side by side, with the place of each slot's entry.
use Rattle.std.specs.Prelude.{◌≡◌, ℕ, ◌<◌, ◌≤◌, ◌^◌, List, length, slice_get, Some, refl}
use Rattle.std.specs.Coded.{Coded, code_by, coded×, coded_ℕ}
use Rattle.std.specs.FinMap as finite
use Rattle.std.specs.Str.{bytes_eq}
use Rattle.std.specs.List.{IsDistinct}
use Rattle.std.specs.Map.{keys_of}
use Rattle.intern_log.specs.declared.event.Entry.{Entry}
use Rattle.intern_log.specs.TextMap.{TextMap, text_map_code}

-- the live entry of each text, and how many slots were given out
pub record Given : Type 0 where
  pub texts : TextMap
  pub created : ℕ

-- these are stored as the pair
abbrev pub given_code : Coded Given
given_code = code_by (TextMap × ℕ) (coded× text_map_code coded_ℕ) (λ g. (g.texts, g.created)) (λ p. record { texts = p.0; created = p.1 }) (λ _. refl)

-- the live entry of each text, from the entries in any order
unfoldable pub text_map : List (List ℕ × Entry) → TextMap
text_map es = finite.from_entries es

-- the entry stands at the place, with some text
abbrev pub IsEntryAt : List (List ℕ × Entry) → ℕ → Entry → Type 0
IsEntryAt es i e = (text : List ℕ) × (slice_get es i ≡ Some (text, e))

-- no text has two entries, each slot of an entry leads to the entry's place, and each entry has a hold
pub record IsPlaced (es : List (List ℕ × Entry)) (places : List ℕ) : Type 0 where
  pub distinct : IsDistinct bytes_eq (keys_of es)
  pub placed : (i : ℕ) (text : List ℕ) (e : Entry) → slice_get es i ≡ Some (text, e) → slice_get places e.handle.slot ≡ Some i
  pub counted : (i : ℕ) (text : List ℕ) (e : Entry) → slice_get es i ≡ Some (text, e) → 1 ≤ e.count
  pub fits : length es ≤ length places
  pub small : length places < 2 ^ 32
