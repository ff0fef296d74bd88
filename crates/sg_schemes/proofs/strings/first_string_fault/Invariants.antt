use Rattle.std.proofs.Common.{◌≡◌, drop}
use Rattle.sg_ast.specs.FirstFault.{first}
use Rattle.sg_schemes.specs.Strings.{string_fault}
use Rattle.sg_schemes.proofs.strings.first_string_fault.Given as goal

abbrev pub invariant-loop-string : goal.invariant-loop-string
invariant-loop-string l = first string_fault (drop l.string-index l.strings) ≡ first string_fault l.strings
