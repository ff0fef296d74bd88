use Rattle.std.proofs.Common.{refl, sym, ap, ◌∙◌}
use Rattle.sg_output.proofs.Endings.{ends_with}
use Rattle.sg_output.proofs.Filing.{played_named, played_unnamed}
use Rattle.sg_report.specs.Attrs.{attr_of}
use Rattle.sg_eval.specs.Journal.{counted}
use Rattle.sg_run.proofs.reports.attribute.Goals as goal

pub returns-in-Some : goal.returns-in-Some
returns-in-Some g c = λ readers read.
    let spec = c.args.loaded.now.spec in
    played_named readers spec c.args.file_name.now c.args.word.now c.in-Some.phylum.now c.in-Some.name.now _ _ _ _ _ (ap (attr_of spec) (sym c.as_bytes.ensures.value) ∙ c.in-Some.ensures.0) c.in-Some.ensures.1 (c.file.ensures readers read)

pub returns-in-None : goal.returns-in-None
returns-in-None g c = λ readers read.
    played_unnamed readers c.args.loaded.now.spec c.args.file_name.now c.args.word.now _ _ _ _ (ap (attr_of c.args.loaded.now.spec) (sym c.as_bytes.ensures.value) ∙ c.in-None.ensures) (ends_with _ _ _ _ _ _ (c.refuse.ensures _ (counted c.args.journal.now)) c.end.ensures) refl
