use Rattle.std.proofs.Common.{◌≡◌, drop}
use Rattle.sg_uses.specs.Noted.{noted}
use Rattle.sg_names.specs.Uses as uses
use Rattle.sg_uses.proofs.walked.parameters.Given as goal

abbrev pub invariant-loop-param : goal.invariant-loop-param
invariant-loop-param l = record { scope : uses.params_scope l.scope (drop l.param-index l.params) ≡ uses.params_scope l.fn.scope l.params; found : noted l.context.names.now l.found (uses.params_uses l.scope (drop l.param-index l.params)) ≡ noted l.context.names.now l.fn.found (uses.params_uses l.fn.scope l.params) }
