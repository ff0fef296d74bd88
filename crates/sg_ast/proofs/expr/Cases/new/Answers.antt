use Rattle.std.proofs.Common.{◌∙◌, ap, map, option_map}
use Rattle.sg_ast.specs.Expressions as plain
use Rattle.sg_ast.specs.View.{case_of, cases_of, expr_of}
use Rattle.sg_ast.proofs.ChainLemmas.{cases_all, case_moves, cases_onto}
use Rattle.sg_ast.proofs.expr.Cases.new.Goals as goal

pub loop-pattern-init : goal.loop-pattern-init
loop-pattern-init c =
    ap (λ (cs : plain.Cases). cases_onto (map case_of c.args.cases.items) cs) c.in_ok-chain.ensures ∙ cases_all (map case_of c.args.cases.items) (option_map expr_of c.args.default)

pub loop-pattern-preserved : goal.loop-pattern-preserved
loop-pattern-preserved c =
    rw (c.in_ok-expr.ensures.ok, c.in_ok-new.ensures.ok)
    (case_moves case_of c.pop.new.self.items c.loop-pattern.cases.items (c.in-Some.pattern, c.in-Some.expr) (cases_of c.loop-pattern.chain) c.in-Some.ensures.items c.loop-pattern.invariant)
