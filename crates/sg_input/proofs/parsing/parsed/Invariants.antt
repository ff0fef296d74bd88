use Rattle.std.proofs.Common.{◌≤◌, length}
use Rattle.sg_eval.specs.MadeTerms.{AreMade}
use Rattle.sg_input.specs.Driven.{DrivenTo}
use Rattle.sg_input.proofs.parsing.parsed.Given as goal

abbrev pub invariant-steps : goal.invariant-steps
invariant-steps l = (l.at ≤ length l.reading.tokens.now) × DrivenTo l.reading l.at l.stacks.states.items l.stacks.results.items l.stacks.pool
    × AreMade l.reading.evaluator.now l.stacks.made l.stacks.pool
