use Rattle.std.proofs.Common.{◌≡◌, drop}
use Rattle.sg_ast.specs.FirstFault.{first}
use Rattle.sg_schemes.specs.Places.{places_fault}
use Rattle.sg_schemes.proofs.places.first_places_fault.Given as goal

abbrev pub invariant-loop-scheme : goal.invariant-loop-scheme
invariant-loop-scheme l = first (places_fault l.pair l.arity l.op) (drop l.scheme-index l.schemes) ≡ first (places_fault l.pair l.arity l.op) l.schemes
