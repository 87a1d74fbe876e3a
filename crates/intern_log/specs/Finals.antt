-- The last texts of a list, and the different ones among them.
use Rattle.std.specs.Prelude.{ℕ, ◌-◌, Bool, List, length, drop, map}
use Rattle.std.specs.Str.{bytes_eq}
use Rattle.std.specs.List.{list_any}
use Rattle.std.specs.Ordering.{nat_cmp}
use Rattle.std.specs.Cmp.Lexicographic.{slice_cmp}
use Rattle.std.specs.FinMap as finite

-- the last `hold` items
abbrev pub finals : {X : Type 0} → ℕ → List X → List X
finals hold items = drop (length items - hold) items

-- whether the text is among the texts
abbrev pub is_among_texts : List (List ℕ) → List ℕ → Bool
is_among_texts texts text = list_any (bytes_eq text) texts

-- each of the texts once, in the order of their bytes: the keys of a map that has nothing at each text
abbrev pub distinct_texts : List (List ℕ) → List (List ℕ)
distinct_texts texts = finite.keys (finite.from_entries {R = slice_cmp nat_cmp} (map (λ text. (text, tt {0})) texts))
