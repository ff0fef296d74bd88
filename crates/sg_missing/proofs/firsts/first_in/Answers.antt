use Rattle.std.proofs.Common.{◌≡◌, subst}
use Rattle.std.specs.Prelude.{IfOk}
use Rattle.sg_ast.specs.View.{trees_of}
use Rattle.sg_equations.specs.Targets.{defined_in}
use Rattle.sg_missing.specs.Firsts.{firsts}
use Rattle.sg_missing.proofs.firsts.first_in.Goals as goal

pub returns : goal.returns
returns c =
    subst (λ t. IfOk c.first_named.result (λ v. v.items ≡ firsts c.args.place (defined_in t (trees_of c.args.decls.now)))) c.in_ok-names.ensures c.first_named.ensures
