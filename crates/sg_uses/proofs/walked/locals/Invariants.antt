use Rattle.std.proofs.Common.{◌≡◌, map, drop}
use Rattle.sg_uses.specs.Noted.{noted}
use Rattle.sg_names.specs.Uses as uses
use Rattle.sg_ast.specs.declared.name.Typed.{Typed}
use Rattle.sg_uses.proofs.walked.locals.Given as goal

abbrev pub invariant-loop-local : goal.invariant-loop-local
invariant-loop-local l = noted l.context.names.now l.found (map (λ (a : Typed). uses.UsesPhylum a.of) (drop l.local-index l.locals)) ≡ noted l.context.names.now l.fn.found (map (λ (a : Typed). uses.UsesPhylum a.of) l.locals)
