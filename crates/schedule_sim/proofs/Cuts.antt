-- Where bytes are cut.
use Rattle.std.proofs.Common.{◌≡◌, ◌≢◌, ℕ, ◌+◌, ◌<◌, ◌==◌, List, [], ◌∷◌, length, take, drop, slice_index, false, subst, ap, arith}
use Rattle.std.specs.List.{position_or_len}
use Rattle.std.proofs.lemmas.Bool.{ne_eqb, eq-eqb}
use Rattle.std.proofs.lemmas.List.Sums.{position_or_len_is}
use Rattle.std.proofs.lemmas.List.Elements.{All-from_get_or}
use Rattle.std.specs.List.{count_by}
use Rattle.std.proofs.lemmas.List.Splits.{slice_split_first, slice_split_none, length-slice_split}
use Rattle.schedule_sim.specs.Parts.{parts_at}

-- the first part ends at the first byte of the value
pub cut_first : (mark k : ℕ) (bs : List ℕ) → k < length bs → ((j : ℕ) → j < k → slice_index bs j ≢ mark) → slice_index bs k ≡ mark → parts_at mark bs ≡ take k bs ∷ parts_at mark (drop (k + 1) bs)
cut_first mark k bs inside before here =
    let place : position_or_len (λ b. b == mark) bs ≡ k = position_or_len_is (λ b. b == mark) bs k 0 (omega arith) (λ j h. ne_eqb _ _ (before j h)) (λ _. eq-eqb _ _ here) in
    let below : position_or_len (λ b. b == mark) bs < length bs = omega arith in
    let P : ℕ → Type 0 = λ i. parts_at mark bs ≡ take i bs ∷ parts_at mark (drop (i + 1) bs) in
    subst P place (slice_split_first (λ b. b == mark) bs 0 below)

-- where no byte is of the value, the bytes are the one part
pub no_cut : (mark : ℕ) (bs : List ℕ) → ((k : ℕ) → k < length bs → slice_index bs k ≢ mark) → parts_at mark bs ≡ bs ∷ []
no_cut mark bs none = slice_split_none (λ b. b == mark) bs (All-from_get_or (λ b. (b == mark) ≡ false) bs 0 (λ k h. ne_eqb _ _ (none k h)))

-- bytes have a first part
pub parts_some : (mark : ℕ) (bs : List ℕ) → parts_at mark bs ≢ []
parts_some mark bs is =
    let more : length (parts_at mark bs) ≡ count_by (λ b. b == mark) bs + 1 = length-slice_split (λ b. b == mark) bs in
    let nothing : length (parts_at mark bs) ≡ 0 = ap length is in
    omega arith
