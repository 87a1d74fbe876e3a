-- A map whose counts are those of a list of held texts.
use Rattle.std.specs.Prelude.{◌≡◌, ℕ, ◌<◌, true, List, [], ◌∷◌, count_by, MatchOption}
use Rattle.std.specs.Str.{bytes_eq}
use Rattle.intern_log.specs.declared.event.Handle.{Handle}
use Rattle.intern_log.specs.declared.event.Entry.{Entry}
use Rattle.intern_log.specs.TextMap.{TextMap, entry_of}

-- a text with the handle that it was interned as
abbrev pub Held : Type 0
Held = List ℕ × Handle

-- how often a text is held
abbrev pub times_held : List ℕ → List Held → ℕ
times_held text held = count_by (λ (p : Held). bytes_eq text p.0) held

-- each hold on the text has the handle
abbrev pub IsHeldAs : List ℕ → Handle → List Held → Type 0
IsHeldAs text h [] = Unit {0}
IsHeldAs text h (p ∷ held) = (bytes_eq text p.0 ≡ true → p.1 ≡ h) × IsHeldAs text h held

-- the entry is that of a text which is held: its count is how often
pub record Counts (text : List ℕ) (held : List Held) (e : Entry) : Type 0 where
  pub count : e.count ≡ times_held text held
  pub some : 0 < times_held text held
  pub handle : IsHeldAs text e.handle held

-- the live texts are those that are held, each with its count and its handle
abbrev pub Holds : TextMap → List Held → Type 0
Holds m held = (text : List ℕ) → MatchOption (entry_of m text) (times_held text held ≡ 0) (Counts text held)
