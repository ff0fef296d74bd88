use Rattle.std.proofs.Common.{◌≡◌, drop}
use Rattle.sg_ast.specs.FirstFault.{first}
use Rattle.sg_schemes.specs.Strings.{scheme_fault}
use Rattle.sg_schemes.proofs.strings.first_scheme_fault.Given as goal

abbrev pub invariant-loop-scheme : goal.invariant-loop-scheme
invariant-loop-scheme l = first scheme_fault (drop l.scheme-index l.schemes) ≡ first scheme_fault l.schemes
