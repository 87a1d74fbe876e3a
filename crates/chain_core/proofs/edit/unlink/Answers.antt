use Rattle.std.proofs.Common.{Some}
use Rattle.chain_core.specs.Path.{next_in}
use Rattle.chain_core.proofs.Links.{path_unlinked, path_elsewhere}
use Rattle.chain_core.proofs.edit.unlink.Goals as goal

pub returns-clause-path : goal.returns-clause-path
returns-clause-path c first nodes is has = path_unlinked c.args.next.now c.args.before c.args.node c.requires.follows first nodes is has

pub returns-clause-others : goal.returns-clause-others
returns-clause-others c first nodes is absent = path_elsewhere c.args.next.now c.args.before (next_in c.args.next.now c.args.node) (Some c.args.node) c.requires.follows first nodes is absent
