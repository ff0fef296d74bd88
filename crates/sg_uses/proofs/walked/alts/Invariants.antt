use Rattle.std.proofs.Common.{◌≡◌, map, flat_map, drop}
use Rattle.sg_uses.specs.Noted.{noted}
use Rattle.sg_names.specs.Uses as uses
use Rattle.sg_ast.specs.declared.decl.Alt.{Alt}
use Rattle.sg_uses.proofs.walked.alts.Given as goal

abbrev pub invariant-loop-alt : goal.invariant-loop-alt
invariant-loop-alt l = noted l.context.names.now l.found (flat_map (λ (a : Alt). map uses.UsesPhylum a.args) (drop l.alt-index l.alts)) ≡ noted l.context.names.now l.fn.found (flat_map (λ (a : Alt). map uses.UsesPhylum a.args) l.alts)
