use Rattle.std.proofs.Common.{◌≡◌, drop}
use Rattle.sg_ast.specs.FirstFault.{first}
use Rattle.sg_typing.specs.ShownTypes.{hidden_scheme}
use Rattle.sg_typing.proofs.shown.hidden_in_schemes.Given as goal

abbrev pub invariant-loop-scheme : goal.invariant-loop-scheme
invariant-loop-scheme l = first (hidden_scheme l.names l.op) (drop l.scheme-index l.schemes) ≡ first (hidden_scheme l.names l.op) l.schemes
