use Rattle.schedule_sim.proofs.Made.{has_log}
use Rattle.schedule_sim.proofs.Moves.{rehash_grows}
use Rattle.schedule_sim.proofs.run.make_anew.Goals as goal

pub push_new-requires : goal.push_new-requires
push_new-requires c = record { within = has_log c.args.state.now.log c.rehash.new.self.log (rehash_grows _ _ c.in-Done.ensures.value) _ _ c.log-before.ensures.value c.log.ensures.value }
