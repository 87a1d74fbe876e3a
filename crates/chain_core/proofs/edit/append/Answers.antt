use Rattle.std.proofs.Common.{None}
use Rattle.chain_core.proofs.Links.{path_append, path_elsewhere}
use Rattle.chain_core.proofs.edit.append.Goals as goal

pub returns-clause-path : goal.returns-clause-path
returns-clause-path c first nodes rest is has after absent = path_append c.args.next.now c.args.last c.args.other c.requires.ends first nodes rest is has after absent

pub returns-clause-others : goal.returns-clause-others
returns-clause-others c first nodes is absent = path_elsewhere c.args.next.now c.args.last c.args.other None c.requires.ends first nodes is absent
