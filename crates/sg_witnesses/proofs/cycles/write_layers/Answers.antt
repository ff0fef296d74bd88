use Rattle.std.specs.Prelude.{codes}
use Rattle.std.proofs.lemmas.Result.{on_ok_weaker}
use Rattle.sg_kinds.specs.Dependencies.{phylum_there}
use Rattle.sg_witnesses.proofs.Told.{word_written}
use Rattle.sg_witnesses.proofs.cycles.write_layers.Goals as goal

pub returns : goal.returns
returns c =
    on_ok_weaker c.write_phylum.result (λ is.
    word_written c.args.out.now.items c.extend_from_slice.new.self.items c.write_phylum.new.out.items (codes "by the layers of ") c.args.spec.now.phyla c.phylum_at-phylum.result
    (phylum_there c.args.spec.now.ops c.args.op c.args.at) c.in_ok-extend_from_slice.ensures.items c.phylum_at-phylum.ensures is) c.write_phylum.ensures
