use Rattle.std.proofs.Common.{◌≡◌, map, length}
use Rattle.sg_ast.specs.Chains.{chain_of}
use Rattle.sg_ast.specs.View.{pattern_of, patterns_of}
use Rattle.sg_ast.proofs.ChainLemmas.{patterns_onto}
use Rattle.sg_ast.proofs.pattern.Patterns.new.Given as goal

abbrev pub invariant-loop-last : goal.invariant-loop-last
invariant-loop-last l = patterns_onto (map pattern_of l.patterns.items) (patterns_of l.chain) ≡ chain_of (map pattern_of l.fn.patterns.items)

abbrev pub decreases-loop-last : goal.decreases-loop-last
decreases-loop-last l = length l.patterns.items
