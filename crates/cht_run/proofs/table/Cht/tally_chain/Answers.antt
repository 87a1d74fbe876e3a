use Rattle.std.proofs.Common.{◌≡◌, ◌+◌, ℕ, Option, sym, ap, subst, ◌∙◌}
use Rattle.table_shape.specs.declared.place.Place.TheVariants as place
use Rattle.atomic_step.specs.Count.{holds_of}
use Rattle.cht_core.specs.Memory.{Memory, links}
use Rattle.cht_run.specs.Tallies.{memory_in}
use Rattle.cht_run.proofs.Counting.{CountsOn, same_memory, counts_end, next_inside, counts_one_more}
use Rattle.cht_run.proofs.Reading.{reads_further}
use Rattle.cht_run.proofs.table.Cht.tally_chain.Goals as goal

pub returns-in_default-clause-tally : goal.returns-in_default-clause-tally
returns-in_default-clause-tally c = counts_end (memory_in c.args.self.now c.args.seat.now) c.args.self.now.origin.table.shape.slots c.args.first c.loop.next c.loop.counter c.loop.tally c.loop.invariant.counts c.in_default.is

pub read_count-count-requires-clause-inside : goal.read_count-count-requires-clause-inside
read_count-count-requires-clause-inside c =
    next_inside (memory_in c.args.self.now c.args.seat.now) c.args.self.now.origin.table.shape.slots c.args.first c.loop.next c.loop.counter c.in-Some.slot c.loop.tally c.loop.invariant.counts c.in-Some.is

pub read_next-next-requires-clause-inside : goal.read_next-next-requires-clause-inside
read_next-next-requires-clause-inside c =
    next_inside (memory_in c.args.self.now c.args.seat.now) c.args.self.now.origin.table.shape.slots c.args.first c.loop.next c.loop.counter c.in-Some.slot c.loop.tally c.loop.invariant.counts c.in-Some.is

pub loop-preserved : goal.loop-preserved
loop-preserved c =
    let t = c.args.self.now in
    let m : Memory = memory_in t c.args.seat.now in
    let slot = c.in-Some.slot in
    let first = reads_further t c.args.seat.now c.loop.seat c.read_count-count.new.seat c.loop.invariant.on c.read_count-count.ensures.on in
    let count : c.read_count-count.result ≡ holds_of (m (place.Count slot)) =
    c.read_count-count.ensures.value ∙ ap (λ (mem : Memory). holds_of (mem (place.Count slot))) (same_memory t c.args.seat.now c.loop.seat c.loop.invariant.on) in
    let next : c.read_next-next.result ≡ links m slot = c.read_next-next.ensures.value ∙ ap (λ (mem : Memory). links mem slot) (same_memory t c.args.seat.now c.read_count-count.new.seat first) in
    record {
      on = reads_further t c.args.seat.now c.read_count-count.new.seat c.read_next-next.new.seat first c.read_next-next.ensures.on;
      counts = subst (λ (o : Option ℕ). CountsOn m t.origin.table.shape.slots c.args.first o (c.loop.counter + 1) c.plus-tally.result) (sym next)
          (counts_one_more m t.origin.table.shape.slots c.args.first c.loop.next c.loop.counter slot c.read_count-count.result c.loop.tally c.of.result c.plus-tally.result c.loop.invariant.counts c.in-Some.is count
          c.of.ensures.tally c.plus-tally.ensures.live c.plus-tally.ensures.permanent c.plus-tally.ensures.references);
    }
