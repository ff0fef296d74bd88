use Rattle.std.proofs.Common.{◌≡◌, ◌++◌, drop}
use Rattle.sg_useless.specs.Uses.{numbered}
use Rattle.sg_useless.specs.Uses.{function_uses}
use Rattle.sg_useless.proofs.uses.add_functions.Given as goal

abbrev pub invariant-loop-number : goal.invariant-loop-number
invariant-loop-number l = l.uses.items ++ numbered (function_uses l.spec) l.number (drop l.number l.spec.functions) ≡ l.initial.uses.items ++ numbered (function_uses l.spec) 0 l.spec.functions
