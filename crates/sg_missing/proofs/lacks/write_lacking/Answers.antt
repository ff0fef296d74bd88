use Rattle.std.proofs.Common.{◌≡◌, ◌++◌, subst}
use Rattle.std.specs.Prelude.{OnOk}
use Rattle.sg_ast.specs.View.{trees_of}
use Rattle.sg_equations.specs.Targets.{defined_in}
use Rattle.sg_missing.specs.Lacks.{lacks_text}
use Rattle.sg_missing.proofs.lacks.write_lacking.Goals as goal

pub returns : goal.returns
returns c =
    subst (λ t. OnOk c.write_named.result (c.write_named.new.out.items ≡ c.args.out.now.items ++ lacks_text t (defined_in t (trees_of c.args.decls.now)))) c.in_ok-names.ensures c.write_named.ensures
