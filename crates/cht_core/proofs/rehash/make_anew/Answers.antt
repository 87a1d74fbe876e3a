use Rattle.std.proofs.Common.{arith, subst, sym, ap, ◌-◌, ◌^◌, ◌∙◌, refl}
use Rattle.cht_core.specs.Anew.{HaveRoom, with_heads, with_slot}
use Rattle.cht_core.proofs.AnewWords.{rooms_stay, one_more_slot}
use Rattle.cht_core.proofs.rehash.make_anew.Goals as goal

pub relink-requires-clause-rooms : goal.relink-requires-clause-rooms
relink-requires-clause-rooms c =
    subst (HaveRoom c.args.shape.now) (sym c.loop-done.invariant.linked)
    (rooms_stay c.args.shape.now c.args.level c.args.seed c.loop-done.done c.args.words.now c.requires.sized c.requires.level.0 c.requires.level.1 (omega arith) c.requires.rooms)

pub loop-done-preserved : goal.loop-done-preserved
loop-done-preserved c = record {
  linked = one_more_slot c.args.shape.now c.args.level c.args.seed c.loop-done.done _ _ (with_heads c.args.shape.now c.args.level (2 ^ c.args.level) c.args.words.now) c.relink.new.words refl refl
      (c.relink.ensures.value ∙ ap (with_slot c.args.shape.now c.args.level c.args.seed (c.args.shape.now.slots - 1 - c.loop-done.done)) c.loop-done.invariant.linked);
}
