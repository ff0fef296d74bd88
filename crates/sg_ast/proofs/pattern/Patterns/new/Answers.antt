use Rattle.std.proofs.Common.{map}
use Rattle.sg_ast.specs.View.{pattern_of, patterns_of}
use Rattle.sg_ast.proofs.ChainLemmas.{patterns_all, pattern_moves}
use Rattle.sg_ast.proofs.pattern.Patterns.new.Goals as goal

pub loop-last-init : goal.loop-last-init
loop-last-init c = patterns_all (map pattern_of c.args.patterns.items)

pub loop-last-preserved : goal.loop-last-preserved
loop-last-preserved c =
    rw (c.in_ok-last.ensures.ok, c.in_ok-new.ensures.ok)
    (pattern_moves pattern_of c.pop.new.self.items c.loop-last.patterns.items c.in-Some.last (patterns_of c.loop-last.chain) c.in-Some.ensures.items c.loop-last.invariant)
