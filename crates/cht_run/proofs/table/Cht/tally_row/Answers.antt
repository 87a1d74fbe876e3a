use Rattle.std.proofs.Common.{◌+◌, refl, sym, subst, arith}
use Rattle.cht_core.proofs.WordsKept.{slots_few}
use Rattle.cht_run.specs.Seats.{seen}
use Rattle.cht_run.specs.Tallies.{memory_in, now_for, IsLongestBelow}
use Rattle.cht_run.proofs.Counting.{bucket_before}
use Rattle.cht_run.proofs.Reading.{reads_itself, reads_further}
use Rattle.cht_run.proofs.Totals.{no_tally, none_longest, more_fits, more_counted, longer_one}
use Rattle.cht_run.proofs.table.Cht.tally_row.Goals as goal

pub loop-bucket-init : goal.loop-bucket-init
loop-bucket-init c = let t = c.args.self.now in let seat = c.args.seat.now in record {
  on = reads_itself t seat c.requires.reads;
  tally = no_tally (now_for t seat) _ refl refl refl;
  longest = none_longest t.origin.table (memory_in t seat) (seen seat) c.requires.reads.shown;
}

pub plus-tally-requires : goal.plus-tally-requires
plus-tally-requires c =
    let t = c.args.self.now in
    let seat = c.args.seat.now in
    let few = slots_few t.origin.table.shape t.sound in
    let fits = more_fits t.origin.table (memory_in t seat) (seen seat) c.requires.reads.shown c.loop-bucket.bucket c.loop-bucket.tally c.tally_bucket-here.result c.loop-bucket.invariant.tally
    (bucket_before t seat c.loop-bucket.seat c.loop-bucket.bucket c.tally_bucket-here.result c.loop-bucket.invariant.on c.tally_bucket-here.ensures.tally) in
    record { live = omega (arith, few, fits.0); permanent = omega (arith, few, fits.1); references = omega (arith, few, fits.2) }

pub loop-bucket-preserved : goal.loop-bucket-preserved
loop-bucket-preserved c =
    let t = c.args.self.now in
    let seat = c.args.seat.now in
    let l = c.loop-bucket in
    let here = c.tally_bucket-here in
    let own = bucket_before t seat l.seat l.bucket here.result l.invariant.on here.ensures.tally in
    record {
      on = reads_further t seat l.seat here.new.seat l.invariant.on here.ensures.on;
      tally = more_counted t.origin.table (memory_in t seat) (seen seat) c.requires.reads.shown l.bucket l.tally here.result c.plus-tally.result l.invariant.tally own c.plus-tally.ensures.live c.plus-tally.ensures.permanent c.plus-tally.ensures.references;
      longest = subst (λ n. IsLongestBelow (now_for t seat) (l.bucket + 1) n) (sym c.max-longest.ensures)
          (longer_one t.origin.table (memory_in t seat) (seen seat) c.requires.reads.shown l.bucket here.result.live l.longest l.invariant.longest own.live);
    }
