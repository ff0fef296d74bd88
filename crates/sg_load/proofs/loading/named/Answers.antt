use Rattle.std.proofs.Common.{◌≤◌, length, subst}
use Rattle.sg_ast.specs.View.{trees_of}
use Rattle.sg_names.specs.declared.table.Table.{Table}
use Rattle.sg_remote.specs.Lists.{lists}
use Rattle.sg_load.proofs.loading.named.Goals as goal

pub returns-clause-few : goal.returns-clause-few
returns-clause-few c = subst (λ (t : Table). length (lists t (trees_of c.args.decls.now)) ≤ 1048576) c.in_ok-names.ensures.value c.in_ok-hide.ensures.few
