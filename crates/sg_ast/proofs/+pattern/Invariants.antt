-- What is left of a chain is no larger than the chain.
use Rattle.std.proofs.Common.{◌≤◌}
use Rattle.sg_ast.specs.declared.pattern.Patterns.{size-Patterns}
use Rattle.sg_ast.proofs.+pattern.Given as goal

abbrev pub invariant-pattern::Patterns::drop-loop-self : goal.invariant-pattern::Patterns::drop-loop-self
invariant-pattern::Patterns::drop-loop-self l = size-Patterns l.self ≤ size-Patterns l.fn.self
