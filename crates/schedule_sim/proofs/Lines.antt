-- The first of the lines.
use Rattle.std.proofs.Common.{◌≡◌, ◌≢◌, ℕ, List, [], ◌∷◌, ◌∙◌, ap, refl}
use Rattle.schedule_sim.specs.Parts.{parts_at}
use Rattle.schedule_sim.specs.Lines.{without_empty_last, lines_of}
use Rattle.schedule_sim.proofs.Cuts.{parts_some}

-- a part with another behind it is a line
more_lines : (line : List ℕ) (parts : List (List ℕ)) → parts ≢ [] → without_empty_last (line ∷ parts) ≡ line ∷ without_empty_last parts
more_lines line [] some = absurd (some refl)
more_lines [] (part ∷ parts) some = refl
more_lines (b ∷ bs) (part ∷ parts) some = refl

pub lines_cut : (bs line behind : List ℕ) → parts_at 10 bs ≡ line ∷ parts_at 10 behind → lines_of bs ≡ line ∷ lines_of behind
lines_cut bs line behind cut = ap without_empty_last cut ∙ more_lines line (parts_at 10 behind) (parts_some 10 behind)
