use Rattle.call_machine.proofs.WholeClean.{queue_law, queue_end, due_law}
use Rattle.call_machine.proofs.clean_laws.slots_of_a_clean_are_freed_in_the_order_of_their_unlinking.Goals as goal

pub returns : goal.returns
returns c = record { run = queue_law; end = queue_end; due = due_law }
