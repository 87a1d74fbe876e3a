use Rattle.std.proofs.Common.{sym, subst, arith}
use Rattle.name_scan.specs.declared.class.Class.{Class}
use Rattle.name_scan.specs.Classes.{IsOf}
use Rattle.name_scan.proofs.Classes.{class_at, class_of_is}
use Rattle.name_scan.proofs.class.Class.of.Goals as goal

pub returns : goal.returns
returns c = subst (λ (class : Class). IsOf class c.args.byte) (sym (class_at c.args.byte (omega arith))) (class_of_is c.args.byte)
