use Rattle.std.proofs.Common.{◌≡◌, map, drop}
use Rattle.sg_uses.specs.Noted.{noted}
use Rattle.sg_uses.specs.SiteView.{site_of}
use Rattle.sg_names.specs.Uses as uses
use Rattle.sg_uses.proofs.walk.pairs.Given as goal

abbrev pub invariant-loop-pair : goal.invariant-loop-pair
invariant-loop-pair l = noted l.context.names.now l.found (map (uses.Encloses (site_of l.context.site)) (drop l.pair-index l.pairs)) ≡ noted l.context.names.now l.fn.found (map (uses.Encloses (site_of l.context.site)) l.pairs)
