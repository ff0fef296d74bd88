use Rattle.std.proofs.Common.{◌≡◌, map, flat_map, drop}
use Rattle.sg_uses.specs.Noted.{noted}
use Rattle.sg_names.specs.Uses as uses
use Rattle.sg_uses.specs.SiteView.{site_of}
use Rattle.sg_ast.specs.View.{equation_of}
use Rattle.sg_uses.proofs.walked.equations.Given as goal

abbrev pub invariant-loop-one : goal.invariant-loop-one
invariant-loop-one l = record { scope : l.scope ≡ l.fn.scope; found : noted l.context.names.now l.found (flat_map (uses.equation_uses (site_of l.context.site) l.fn.scope) (map equation_of (drop l.one-index l.equations))) ≡ noted l.context.names.now l.fn.found (flat_map (uses.equation_uses (site_of l.context.site) l.fn.scope) (map equation_of l.equations)) }
