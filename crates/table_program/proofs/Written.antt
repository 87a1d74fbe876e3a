-- A text that is written piece by piece.
use Rattle.std.proofs.Common.{◌≡◌, ℕ, ◌+◌, ◌≤◌, List, ◌++◌, length, take, drop, append_assoc, refl, arith}
use Rattle.std.specs.Prelude.{Option, None, Some}
use Rattle.std.specs.Option.{option_map}
use Rattle.std.proofs.Math.Seq.{take-add}
use Rattle.std.proofs.lemmas.List.{length-take, take-take}

-- a piece of at most `room` bytes has no more bytes than that
within_room : (count room : ℕ) (rest : List ℕ) → count ≤ length (take room rest) → count ≤ room
within_room count room rest within = omega (arith, length-take room rest)

-- after the first `done` bytes of the text and then `count` of the next `room`, the first `done + count` of it were written
pub written_more : (text : List ℕ) (done count room : ℕ) (a b c : Option (List ℕ))
    → count ≤ length (take room (drop done text))
    → b ≡ option_map (λ w. w ++ take done text) a
    → c ≡ option_map (λ w. w ++ take count (take room (drop done text))) b
    → c ≡ option_map (λ w. w ++ take (done + count) text) a
written_more text done count room None b c within before turn = rw (turn, before) refl
written_more text done count room (Some w) b c within before turn =
    let fits = within_room count room (drop done text) within in
    rw (turn, before, take-add done count text, take-take count room (drop done text)) (rw append_assoc refl)
