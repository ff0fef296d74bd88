use Rattle.std.proofs.Common.{◌≡◌, length}
use Rattle.std.specs.List.{All}
use Rattle.sg_patterns.proofs.failures.Failures.new.Given as goal

abbrev pub invariant-loop : goal.invariant-loop
invariant-loop l = All (λ c. (c.place ≡ 0) × (length c.flags.items ≡ length l.program.nodes.items)) l.checkpoints.items
