use Rattle.std.proofs.Common.{List, sym, subst}
use Rattle.name_scan.specs.declared.Token.{Token}
use Rattle.name_scan.proofs.TokensFrom.{Completes, completes_first}
use Rattle.name_scan.proofs.scan.Goals as goal

pub loop-found-init : goal.loop-found-init
loop-found-init c = subst (λ (found : List Token). Completes c.args.bytes.now 0 found) (sym c.new-tokens.ensures.items) (completes_first c.args.bytes.now)
