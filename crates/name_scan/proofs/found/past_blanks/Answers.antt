use Rattle.std.proofs.Common.{◌≡◌, List, [], ◌∷◌, ◌++◌, ℕ, arith, sym, ap, ◌∙◌, refl, take, drop, take-append-drop}
use Rattle.std.proofs.lemmas.List.{take_rest}
use Rattle.std.specs.Cmp.Lexicographic.{bytes_decides}
use Rattle.name_scan.proofs.TokensFrom.{AreBlank, tokens_from_blanks}
use Rattle.name_scan.proofs.found.past_blanks.Goals as goal

pub loop-place-preserved : goal.loop-place-preserved
loop-place-preserved c =
    let behind : List ℕ = drop c.loop-place.place c.args.bytes.now in
    let blanks : List ℕ = 32 ∷ 32 ∷ 32 ∷ 32 ∷ 32 ∷ 32 ∷ 32 ∷ 32 ∷ 32 ∷ 32 ∷ 32 ∷ 32 ∷ 32 ∷ 32 ∷ 32 ∷ 32 ∷ [] in
    let all : AreBlank blanks = (refl, (refl, (refl, (refl, (refl, (refl, (refl, (refl, (refl, (refl, (refl, (refl, (refl, (refl, (refl, (refl, tt)))))))))))))))) in
    let value = rw take_rest at c.starts_with.ensures.value in
    let same : blanks ≡ take 16 behind = (bytes_decides blanks (take 16 behind)).0 (sym value ∙ c.loop-place-test.true) in
    let is : behind ≡ blanks ++ drop 16 behind = sym (take-append-drop 16 behind) ∙ ap (λ l. l ++ drop 16 behind) (sym same) in
    record {
      further = omega arith;
      within = omega (arith, c.loop-place-test.ensures.bound);
      tokens = tokens_from_blanks blanks (drop 16 behind) c.args.bytes.now c.loop-place.place all is ∙ c.loop-place.invariant.tokens;
    }
