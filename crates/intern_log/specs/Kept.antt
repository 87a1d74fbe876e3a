-- How a map from texts to entries is kept: as two ordered maps that say the same.
use Rattle.std.specs.Prelude.{◌≡◌, ◌↔◌, ℕ, ◌≤◌, List, map, Option, Some}
use Rattle.std.specs.Option.{option_map}
use Rattle.std.specs.FinMap as finite
use Rattle.std.specs.Map.{lookup}
use Rattle.std.specs.declared.vec.Vec.{Vec}
use Rattle.intern_log.specs.declared.event.Handle.{Handle}
use Rattle.intern_log.specs.declared.event.Entry.{Entry}
use Rattle.intern_log.specs.TextMap.{TextMap, entry_of, handle_eq, HasHandle}

module _ {Z : Type 0} where
  -- the live entry of each text, from the entries in order
  unfoldable pub text_map : List (Vec ℕ Z × Entry) → TextMap
  text_map es = finite.from_entries (map (λ e. (e.0.items, e.1)) es)

  -- the text of a handle
  unfoldable pub text_at : List (Handle × Vec ℕ Z) → Handle → Option (List ℕ)
  text_at texts h = option_map (λ text. text.items) (lookup (handle_eq h) texts)

  -- each entry has a hold, and a text has a handle exactly where the handle leads to it
  pub record IsKept (m : TextMap) (texts : List (Handle × Vec ℕ Z)) : Type 0 where
    pub counted : (text : List ℕ) (e : Entry) → entry_of m text ≡ Some e → 1 ≤ e.count
    pub tied : (text : List ℕ) (h : Handle) → HasHandle m text h ↔ (text_at texts h ≡ Some text)
