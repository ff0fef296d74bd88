use Rattle.std.proofs.Common.{◌≡◌, ◌++◌, drop, map}
use Rattle.sg_typing.specs.Bodies.{parameter}
use Rattle.sg_typing.proofs.bodies.parameters.Given as goal

abbrev pub invariant-loop-param : goal.invariant-loop-param
invariant-loop-param l = l.scope ++ map (parameter l.names) (drop l.param-index l.params) ≡ map (parameter l.names) l.params
