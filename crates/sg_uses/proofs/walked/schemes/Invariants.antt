use Rattle.std.proofs.Common.{◌≡◌, flat_map, drop}
use Rattle.sg_uses.specs.Noted.{noted}
use Rattle.sg_names.specs.Uses as uses
use Rattle.sg_uses.specs.SiteView.{site_of}
use Rattle.sg_uses.proofs.walked.schemes.Given as goal

abbrev pub invariant-loop-one : goal.invariant-loop-one
invariant-loop-one l = noted l.context.names.now l.found (flat_map (uses.scheme_uses (site_of l.context.site) l.scope) (drop l.one-index l.schemes)) ≡ noted l.context.names.now l.fn.found (flat_map (uses.scheme_uses (site_of l.context.site) l.scope) l.schemes)
