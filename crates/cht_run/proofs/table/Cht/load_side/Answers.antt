use Rattle.std.proofs.Common.{sym, ap, ◌∙◌}
use Rattle.call_machine.specs.declared.resize.ResizeStage.TheVariants as stage
use Rattle.call_machine.specs.declared.resize.UnzipStage.TheVariants as unzip
use Rattle.call_machine.specs.Resize.{goes, looks_at, side_of}
use Rattle.cht_run.proofs.Resizes.{low_level, resize_fits, resize_further, looked_leads}
use Rattle.cht_run.proofs.table.Cht.load_side.Goals as goal

pub hash_in-requires : goal.hash_in-requires
hash_in-requires g c = record { meta = (resize_fits c.load-word.result c.requires.at c.load-word.ensures.sits c.load-word.ensures.told).0.0 }

pub of-requires : goal.of-requires
of-requires g c = record { level = low_level c.requires.at }

pub returns : goal.returns
returns g c =
    let side = sym (c.of.ensures.value ∙ ap (side_of c.args.along.now.level) c.hash_in.ensures.value) in
    record {
      on = resize_further c.load-word.result _ c.requires.at c.load-word.ensures.sits c.load-word.ensures.told
          (ap (λ side. goes (looks_at c.args.along.now) (stage.Unzip (unzip.LoadLink c.args.slot side))) side ∙ looked_leads c.args.along.now (stage.Unzip (unzip.LoadLink c.args.slot c.of.result)) _ c.saturating_add-along.ensures);
    }
