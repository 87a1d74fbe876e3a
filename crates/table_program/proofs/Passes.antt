-- The one pass over a file's tokens.
use Rattle.std.proofs.Common.{◌≡◌, ℕ, ◌<◌, List, [], ◌∷◌, ◌++◌, length, All, sym, subst, ◌∙◌, arith, ap}
use Rattle.std.proofs.Math.Seq.{get_or-append_seam}
use Rattle.name_scan.specs.declared.Token.{Token}
use Rattle.name_scan.specs.Tokens.{tokens, tokens_from}
use Rattle.name_scan.proofs.TokensFrom.{Completes, completes_more, completes_all, completes_fewer}
use Rattle.name_scan.proofs.TokenSizes.{length-tokens}
use Rattle.table_program.specs.declared.names.Names.{Names}
use Rattle.table_program.specs.declared.literals.Literals.{Literals}
use Rattle.table_program.specs.MadeEntries.{LiteralsSoFar}
use Rattle.table_program.specs.Symbols.{NamesSoFar}

-- the names and the literals after the tokens up to a place
pub record PassSoFar (hold : ℕ) (bytes : List ℕ) (at : ℕ) (names : Names) (literals : Literals) : Type 0 where
  pub found : List Token
  pub completes : Completes bytes at found
  pub names_are : NamesSoFar hold bytes found names.plain names.window names.counts
  pub literals_are : LiteralsSoFar hold bytes found literals.plain literals.made.items literals.last literals.count

-- what is so of all tokens is so of the next one
pub next_is : (P : Token → Type 0) (bytes : List ℕ) (at behind : ℕ) (t : Token) (found : List Token) → Completes bytes at found → tokens_from bytes at ≡ t ∷ tokens_from bytes behind → All P (tokens bytes) → P t
next_is P bytes at behind t found done next all =
    let whole : found ++ t ∷ tokens_from bytes behind ≡ tokens bytes = ap (λ rest. found ++ rest) (sym next) ∙ done.all in
    let here = subst (All P) (sym whole) all (length found) t (completes_within found t (tokens_from bytes behind)) in
    subst P (get_or-append_seam found t (tokens_from bytes behind) t) here
  where
    completes_within : (xs : List Token) (x : Token) (ys : List Token) → length xs < length (xs ++ x ∷ ys)
    completes_within [] x ys = omega arith
    completes_within (z ∷ xs) x ys = omega (arith, completes_within xs x ys)

-- fewer tokens were gone over than there are bytes, where one is left
pub found_few : (bytes : List ℕ) (at behind : ℕ) (t : Token) (found : List Token) (most : ℕ) → Completes bytes at found → tokens_from bytes at ≡ t ∷ tokens_from bytes behind → length bytes < most → length found < most
found_few bytes at behind t found most done next small = omega (arith, completes_fewer bytes at behind t found done next, length-tokens bytes)

-- once no token is left
pub record PassDone (hold : ℕ) (bytes : List ℕ) (names : Names) (literals : Literals) : Type 0 where
  pub names_are : NamesSoFar hold bytes (tokens bytes) names.plain names.window names.counts
  pub literals_are : LiteralsSoFar hold bytes (tokens bytes) literals.plain literals.made.items literals.last literals.count

pub pass_done : (hold : ℕ) (bytes : List ℕ) (at : ℕ) (names : Names) (literals : Literals) → PassSoFar hold bytes at names literals → tokens_from bytes at ≡ [] → PassDone hold bytes names literals
pass_done hold bytes at names literals pass none =
    let all = completes_all bytes at pass.found pass.completes none in
    record {
      names_are = subst (λ found. NamesSoFar hold bytes found names.plain names.window names.counts) all pass.names_are;
      literals_are = subst (λ found. LiteralsSoFar hold bytes found literals.plain literals.made.items literals.last literals.count) all pass.literals_are;
    }

-- what was gone over, seen by the capacity of the window
pub names_by_capacity : (hold : ℕ) (bytes : List ℕ) (found : List Token) (names : Names) → NamesSoFar hold bytes found names.plain names.window names.counts → NamesSoFar names.window.capacity bytes found names.plain names.window names.counts
names_by_capacity hold bytes found names so_far = subst (λ h. NamesSoFar h bytes found names.plain names.window names.counts) (sym so_far.capacity) so_far

pub literals_by_capacity : (hold : ℕ) (bytes : List ℕ) (found : List Token) (literals : Literals) → LiteralsSoFar hold bytes found literals.plain literals.made.items literals.last literals.count →
    LiteralsSoFar literals.last.capacity bytes found literals.plain literals.made.items literals.last literals.count
literals_by_capacity hold bytes found literals so_far = subst (λ h. LiteralsSoFar h bytes found literals.plain literals.made.items literals.last literals.count) (sym so_far.capacity) so_far

-- one token more
pub pass_more : (hold : ℕ) (bytes : List ℕ) (at behind : ℕ) (t : Token) (names new_names : Names) (literals new_literals : Literals) (pass : PassSoFar hold bytes at names literals) →
    tokens_from bytes at ≡ t ∷ tokens_from bytes behind →
    NamesSoFar names.window.capacity bytes (pass.found ++ t ∷ []) new_names.plain new_names.window new_names.counts →
    LiteralsSoFar literals.last.capacity bytes (pass.found ++ t ∷ []) new_literals.plain new_literals.made.items new_literals.last new_literals.count →
    PassSoFar hold bytes behind new_names new_literals
pass_more hold bytes at behind t names new_names literals new_literals pass next names_are literals_are = record {
  found = pass.found ++ t ∷ [];
  completes = completes_more bytes at behind t pass.found pass.completes next;
  names_are = subst (λ h. NamesSoFar h bytes (pass.found ++ t ∷ []) new_names.plain new_names.window new_names.counts) pass.names_are.capacity names_are;
  literals_are = subst (λ h. LiteralsSoFar h bytes (pass.found ++ t ∷ []) new_literals.plain new_literals.made.items new_literals.last new_literals.count) pass.literals_are.capacity literals_are;
}
