use Rattle.std.proofs.Common.{◌≡◌, inl, inr, true, ap}
use Rattle.name_scan.specs.Classes.{is_skipped}
use Rattle.name_scan.proofs.Classes.{class_skipped}
use Rattle.name_scan.proofs.first_piece.Goals as goal

pub returns-in-Other : goal.returns-in-Other
returns-in-Other c =
    let test : is_skipped c.of.result ≡ true = elim c.in-Other.is [ inl other ↦ ap is_skipped other | inr (inl newline) ↦ ap is_skipped newline | inr (inr backslash) ↦ ap is_skipped backslash ] in
    record { piece = class_skipped c.of.result c.args.bytes.now test c.of.ensures c.requires }
