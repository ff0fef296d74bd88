use Rattle.std.proofs.Common.{◌≡◌, ◌++◌, map, take}
use Rattle.sg_ast.specs.declared.name.Pair.{Pair}
use Rattle.sg_counts.specs.declared.definitions.Form.TheVariants as form
use Rattle.sg_counts.specs.Definitions.{Remotes}
use Rattle.sg_counts.specs.Duplicates.{defined}
use Rattle.sg_counts.specs.DefinitionsView.{seen_of}
use Rattle.sg_counts.proofs.definitions.add_remote.Given as goal

abbrev pub invariant-loop-pair : goal.invariant-loop-pair
invariant-loop-pair l = seen_of l.found.items ≡ seen_of l.initial.found.items ++ map (λ (p : Pair). defined form.Alone (Remotes l.remote.place.token) p.phylum) (take l.pair-index l.pair-items)
