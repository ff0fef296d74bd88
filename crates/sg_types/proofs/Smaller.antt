-- What is left of a chain of cases is smaller.
use Rattle.std.proofs.Common.{◌≡◌, ◌≤◌, rules}
use Rattle.sg_ast.specs.declared.pattern.Pattern.{Pattern}
use Rattle.sg_ast.specs.declared.expr.Cases.{Cases, size-Cases}
use Rattle.sg_ast.specs.declared.expr.Cases.TheVariants as cases

pub smaller_rest : (whole rest : Cases) (q : Pattern) (body : _) (next : _) → whole ≡ cases.More q body next → rest ≡ next.value → size-Cases rest ≤ size-Cases whole
unfolding Rattle.sg_ast.specs.declared.expr.Cases.TheBlock.the_depth denote.Hole.Rolled.depth denote.Hole.Carrier.fold
smaller_rest whole rest q body next is e = rw (is, e) (search rules)
