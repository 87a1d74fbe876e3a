-- One step of the count of a file's tokens.
use Rattle.std.proofs.Common.{◌≡◌, ℕ, ◌+◌, ◌<◌, ◌≤◌, Bool, true, false, List, [], ◌∷◌, ◌++◌, length, map, filter, None, refl, sym, ◌∙◌, ap, subst, arith, if◌then◌else◌}
use Rattle.std.specs.Option.{option_or}
use Rattle.std.proofs.lemmas.List.{length-append, length-map, map-append}
use Rattle.std.proofs.lemmas.List.Elements.{filter-append}
use Rattle.std.proofs.lemmas.List.Folds.{find-append}
use Rattle.std.proofs.lemmas.List.Sums.{length-filter, count_by-le-length}
use Rattle.std.specs.Prelude.{find, nat_lt}
use Rattle.name_scan.specs.declared.Token.{Token}
use Rattle.name_scan.specs.declared.census.Census.{Census}
use Rattle.name_scan.specs.FileTexts.{is_name, is_literal, text_of, names_among, literals_among, texts_among, first_longer}
use Rattle.name_scan.specs.Tokens.{tokens, tokens_from}
use Rattle.name_scan.proofs.TokensFrom.{Completes, completes_first, completes_more, completes_all, completes_fewer}
use Rattle.name_scan.proofs.TokenSizes.{length-tokens}

-- the census is that of these tokens
pub record IsCensusOf (most : ℕ) (bs : List ℕ) (found : List Token) (census : Census) : Type 0 where
  pub names : census.names ≡ length (names_among bs found)
  pub literals : census.literals ≡ length (literals_among bs found)
  pub first_longer : census.first_longer ≡ first_longer most (texts_among bs found)

-- the census is that of the tokens up to a place
pub record CountsUpTo (most : ℕ) (bs : List ℕ) (at : ℕ) (census : Census) : Type 0 where
  pub found : List Token
  pub completes : Completes bs at found
  pub is : IsCensusOf most bs found census

-- how many there are of one kind with one token more
one_kept : (keep : Bool) (t : Token) → length (if keep then t ∷ [] else []) ≡ (if keep then 1 else 0)
one_kept true t = refl
one_kept false t = refl

kept_more : (keeps : Token → Bool) (text : Token → List ℕ) (found : List Token) (t : Token) →
    length (map text (filter keeps (found ++ t ∷ []))) ≡ length (map text (filter keeps found)) + (if keeps t then 1 else 0)
kept_more keeps text found t =
    length-map (filter keeps (found ++ t ∷ [])) text
    ∙ ap length (filter-append keeps found (t ∷ []))
    ∙ length-append (filter keeps found) (filter keeps (t ∷ []))
    ∙ ap (λ n. length (filter keeps found) + n) (one_kept (keeps t) t)
    ∙ ap (λ n. n + (if keeps t then 1 else 0)) (sym (length-map (filter keeps found) text))

-- the first long text with one token more
longer_more : (most : ℕ) (bs : List ℕ) (found : List Token) (t : Token) →
    first_longer most (texts_among bs (found ++ t ∷ [])) ≡ option_or (first_longer most (texts_among bs found)) (first_longer most (text_of bs t ∷ []))
longer_more most bs found t =
    ap (first_longer most) (map-append (text_of bs) found (t ∷ []))
    ∙ ap (λ lengths. find (λ n. nat_lt most n) lengths) (map-append length (texts_among bs found) (text_of bs t ∷ []))
    ∙ find-append (λ n. nat_lt most n) (map length (texts_among bs found)) (map length (text_of bs t ∷ []))

-- the census of one token more
census_more : (most : ℕ) (bs : List ℕ) (found : List Token) (t : Token) (old new : Census) → IsCensusOf most bs found old →
    new.names ≡ old.names + (if is_name t.kind then 1 else 0) → new.literals ≡ old.literals + (if is_literal t.kind then 1 else 0) →
    new.first_longer ≡ option_or old.first_longer (first_longer most (text_of bs t ∷ [])) → IsCensusOf most bs (found ++ t ∷ []) new
census_more most bs found t old new before names literals longer = record {
  names = names ∙ ap (λ n. n + (if is_name t.kind then 1 else 0)) before.names ∙ sym (kept_more (λ u. is_name u.kind) (text_of bs) found t);
  literals = literals ∙ ap (λ n. n + (if is_literal t.kind then 1 else 0)) before.literals ∙ sym (kept_more (λ u. is_literal u.kind) (text_of bs) found t);
  first_longer = longer ∙ ap (λ o. option_or o (first_longer most (text_of bs t ∷ []))) before.first_longer ∙ sym (longer_more most bs found t);
}

-- before the first byte nothing is counted
pub counts_nothing : (most : ℕ) (bs : List ℕ) → CountsUpTo most bs 0 (record { names = 0; literals = 0; first_longer = None })
counts_nothing most bs = record {
  found = [];
  completes = completes_first bs;
  is = record { names = refl; literals = refl; first_longer = refl };
}

-- the token that was found next is counted
pub counts_token : (most : ℕ) (bs : List ℕ) (at behind : ℕ) (t : Token) (old new : Census) →
    CountsUpTo most bs at old → tokens_from bs at ≡ t ∷ tokens_from bs behind →
    new.names ≡ old.names + (if is_name t.kind then 1 else 0) → new.literals ≡ old.literals + (if is_literal t.kind then 1 else 0) →
    new.first_longer ≡ option_or old.first_longer (first_longer most (text_of bs t ∷ [])) → CountsUpTo most bs behind new
counts_token most bs at behind t old new before next names literals longer = record {
  found = before.found ++ t ∷ [];
  completes = completes_more bs at behind t before.found before.completes next;
  is = census_more most bs before.found t old new before.is names literals longer;
}

-- where no token is left all are counted
pub counts_all : (most : ℕ) (bs : List ℕ) (at : ℕ) (census : Census) → CountsUpTo most bs at census → tokens_from bs at ≡ [] → IsCensusOf most bs (tokens bs) census
counts_all most bs at census so_far none = subst (λ found. IsCensusOf most bs found census) (completes_all bs at so_far.found so_far.completes none) so_far.is

-- where a token is left, fewer are counted than there are bytes
kept_few : (keeps : Token → Bool) (text : Token → List ℕ) (found : List Token) → length (map text (filter keeps found)) ≤ length found
kept_few keeps text found = omega (arith, length-map (filter keeps found) text, length-filter keeps found, count_by-le-length keeps found)

pub names_few : (most : ℕ) (bs : List ℕ) (at behind : ℕ) (t : Token) (census : Census) → CountsUpTo most bs at census → tokens_from bs at ≡ t ∷ tokens_from bs behind → census.names < length bs
names_few most bs at behind t census so_far next =
    omega (arith, so_far.is.names, kept_few (λ u. is_name u.kind) (text_of bs) so_far.found, completes_fewer bs at behind t so_far.found so_far.completes next, length-tokens bs)

pub literals_few : (most : ℕ) (bs : List ℕ) (at behind : ℕ) (t : Token) (census : Census) → CountsUpTo most bs at census → tokens_from bs at ≡ t ∷ tokens_from bs behind → census.literals < length bs
literals_few most bs at behind t census so_far next =
    omega (arith, so_far.is.literals, kept_few (λ u. is_literal u.kind) (text_of bs) so_far.found, completes_fewer bs at behind t so_far.found so_far.completes next, length-tokens bs)
