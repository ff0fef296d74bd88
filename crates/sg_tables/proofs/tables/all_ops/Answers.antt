use Rattle.std.proofs.Common.{List, ap, ◌∙◌}
use Rattle.sg_ast.specs.View.{trees_of}
use Rattle.sg_kinds.specs.declared.spec.Operator.{Operator}
use Rattle.sg_names.specs.Names.{locals_of}
use Rattle.sg_names.specs.Rows.{row_at}
use Rattle.sg_names.proofs.TableMade.{ops_made}
use Rattle.sg_tables.proofs.tables.all_ops.Goals as goal

pub returns : goal.returns
returns c = c.new.ensures ∙ ops_made c.args.ops.items c.args.ops.items (row_at c.in_ok-locals.locals) (locals_of c.args.heads.now c.args.ops.items (trees_of c.args.decls.now)) (λ i. c.args.ops.items)
    (λ k. c.in_ok-locals.ensures k ∙ ap (λ (o : List Operator). locals_of c.args.heads.now o (trees_of c.args.decls.now) k) c.deref-2.ensures.value) c.with_locals-made.ensures
