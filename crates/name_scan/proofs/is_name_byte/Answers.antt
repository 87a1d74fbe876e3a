use Rattle.std.proofs.Common.{◌∙◌}
use Rattle.name_scan.proofs.Classes.{class_of_name}
use Rattle.name_scan.proofs.is_name_byte.Goals as goal

pub returns : goal.returns
returns c = record { value = c.is_of_name.ensures ∙ class_of_name c.of.result c.args.byte c.of.ensures }
