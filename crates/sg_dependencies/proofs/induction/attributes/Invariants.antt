use Rattle.std.proofs.Common.{◌≡◌, take, length}
use Rattle.std.specs.Prelude.{map}
use Rattle.sg_kinds.specs.declared.spec.Phylum.{Phylum}
use Rattle.sg_dependencies.specs.Rounds.{no_pairs}
use Rattle.sg_dependencies.proofs.induction.attributes.Given as goal

abbrev pub invariant-loop-phylum : goal.invariant-loop-phylum
invariant-loop-phylum l = l.relations.items ≡ map (λ (x : Phylum). no_pairs (length x.attrs)) (take l.phylum-index l.phylum-items)
