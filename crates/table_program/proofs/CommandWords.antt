-- Words are those of one command at most.
use Rattle.std.proofs.Common.{◌≡◌, ℕ, List, [], ◌∷◌, Bool, true, false, ap, refl, map}
use Rattle.std.specs.Prelude.{Some, None, IsSome, if◌then◌else◌, codes, String, string_bytes}
use Rattle.std.specs.Str.{bytes_eq}
use Rattle.std.proofs.lemmas.Slice.Eq.{bytes_eq-Decides}
use Rattle.table_program.specs.declared.command.Command.TheVariants.{Plain, Replay}
use Rattle.table_program.specs.Words.{name_after, name_for}

-- who finds a name after one word finds none after another
one_word : (words : List (List ℕ)) → IsSome (name_after (codes "replay") words) → name_after (codes "plain") words ≡ None
one_word [] some = refl
one_word (first ∷ []) some = refl
one_word (first ∷ name ∷ []) some = by_test (bytes_eq first (codes "replay")) refl some where
  by_test : (b : Bool) → bytes_eq first (codes "replay") ≡ b → IsSome (if b then Some name else None) → (if bytes_eq first (codes "plain") then Some name else None) ≡ None
  by_test true is some = ap (λ word. if bytes_eq word (codes "plain") then Some name else None) ((bytes_eq-Decides first (codes "replay")).0 is)
  by_test false is some = cc
one_word (first ∷ name ∷ more ∷ others) some = refl

pub one_command : {A : Type 0} (words : List (String A)) → IsSome (name_for Replay words) → name_for Plain words ≡ None
one_command words some = one_word (map string_bytes words) some
