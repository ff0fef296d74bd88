use Rattle.std.proofs.Common.{◌≡◌, [], ◌∷◌, ◌++◌, take, drop}
use Rattle.sg_reports.specs.Vertices.{argument_vertices}
use Rattle.sg_reports.proofs.vertices.push_arguments.Given as goal

abbrev pub invariant-loop-phylum : goal.invariant-loop-phylum
invariant-loop-phylum l = record {
  before : l.before.items ≡ l.fn.left ∷ take l.phylum-index l.args;
  vertices : l.vertices.items ++ argument_vertices l.phyla l.before.items (drop l.phylum-index l.args) ≡ l.initial.vertices.items ++ argument_vertices l.phyla (l.fn.left ∷ []) l.args;
}
