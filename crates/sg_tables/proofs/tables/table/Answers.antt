use Rattle.std.proofs.Common.{List, map, ap, ◌∙◌}
use Rattle.sg_names.specs.declared.heads.Head.{Head}
use Rattle.sg_ast.specs.View.{trees_of}
use Rattle.sg_names.proofs.TableMade.{table_made}
use Rattle.sg_tables.proofs.tables.table.Goals as goal

pub returns : goal.returns
returns c = table_made c.args.heads.now c.args.others.now (trees_of c.args.decls.now) c.in_ok-bare.bare.items c.deref.result.now c.in_ok-all_phyla.field-0 c.in_ok-all_ops.field-0 c.new.result c.in_ok-all_nonterminals.field-0 c.root.result c.in_ok-places.field-0 c.in_ok-op_places.field-0
    c.in_ok-bare.ensures c.deref.ensures.value c.in_ok-all_phyla.ensures c.in_ok-all_ops.ensures (c.new.ensures ∙ c.in_ok-functions.ensures) c.in_ok-all_nonterminals.ensures c.root.ensures
    (c.in_ok-places.ensures ∙ ap (λ (hs : List Head). map (λ (h : Head). h.place) hs) c.as_slice.ensures) c.in_ok-op_places.ensures
