use Rattle.call_machine.proofs.ResizeLocks.{whole_heads_law}
use Rattle.call_machine.specs.declared.resize.Direction.TheVariants.{Grow}
use Rattle.call_machine.proofs.resize_laws.a_whole_grow_unlocks_all_but_the_old_row.Goals as goal

pub returns : goal.returns
returns c = record { law = λ shape. whole_heads_law shape Grow }
