-- The map from texts to live entries that the log of a table stands for.
use Rattle.std.specs.Prelude.{◌≡◌, ℕ, Bool, ◌&&◌, if◌then◌else◌, ◌==◌, List, [], ◌∷◌, Option, Some, None, refl}
use Rattle.std.specs.Cmp.Lexicographic.{slice_cmp}
use Rattle.std.specs.Ordering.{nat_cmp}
use Rattle.std.specs.Coded.{Coded, code_by, coded×, coded_list, coded_ℕ}
use Rattle.std.specs.FinMap as finite
use Rattle.intern_log.specs.declared.event.Handle.{Handle}
use Rattle.intern_log.specs.declared.event.Entry.{Entry}

-- the live entry of each text
abbrev pub TextMap : Type 0
TextMap = finite.FinMap (slice_cmp nat_cmp) Entry

-- a handle is stored as its two numbers, an entry as its three
abbrev pub handle_code : Coded Handle
handle_code = code_by (ℕ × ℕ) (coded× coded_ℕ coded_ℕ) (λ h. (h.slot, h.generation)) (λ p. record { slot = p.0; generation = p.1 }) (λ _. refl)

abbrev pub entry_code : Coded Entry
entry_code = code_by (Handle × ℕ) (coded× handle_code coded_ℕ) (λ e. (e.handle, e.count)) (λ p. record { handle = p.0; count = p.1 }) (λ _. refl)

abbrev pub text_map_code : Coded TextMap
text_map_code = finite.code (coded_list coded_ℕ) entry_code

-- no text is live
abbrev pub no_texts : TextMap
no_texts = finite.empty

-- the entry of a text
abbrev pub entry_of : TextMap → List ℕ → Option Entry
entry_of m text = finite.get m text

-- whether two handles are the same
abbrev pub handle_eq : Handle → Handle → Bool
handle_eq a b = (a.slot == b.slot) && (a.generation == b.generation)

-- the text is live, with this handle
abbrev pub HasHandle : TextMap → List ℕ → Handle → Type 0
HasHandle m text h = (e : Entry) × (entry_of m text ≡ Some e) × (e.handle ≡ h)

-- some text is live with this handle
abbrev pub IsLive : TextMap → Handle → Type 0
IsLive m h = (text : List ℕ) × HasHandle m text h

-- the texts that are live, in the order of their bytes
abbrev pub live_texts : TextMap → List (List ℕ)
live_texts m = finite.keys m

-- the map with this entry at the text, or with none there
abbrev pub put_at : TextMap → List ℕ → Option Entry → TextMap
put_at m text None = finite.remove m text
put_at m text (Some e) = finite.insert m text e

-- the map of these entries as `change` leaves each; one that it leaves as `None` is gone
abbrev pub altered : (Entry → Option Entry) → List (List ℕ × Entry) → TextMap
altered change [] = no_texts
altered change (e ∷ es) = put_at (altered change es) e.0 (change e.1)

-- the map with each entry as `change` leaves it
unfoldable pub alter : (Entry → Option Entry) → TextMap → TextMap
alter change m = altered change (finite.entries m)

-- the change of the entry with this handle, and of no other
abbrev pub at_handle : Handle → (Entry → Option Entry) → Entry → Option Entry
at_handle h change e = if handle_eq e.handle h then change e else Some e
