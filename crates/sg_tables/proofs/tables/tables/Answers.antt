use Rattle.std.proofs.Common.{◌≡◌, sym, ap, subst, ◌∙◌, IfOk}
use Rattle.sg_ast.specs.View.{trees_of}
use Rattle.sg_names.specs.declared.table.Table.{Table}
use Rattle.sg_names.specs.Names.{attributes_of, listings_of, owned, owners, operators_in}
use Rattle.sg_names.specs.Lookups.{phylum_named, nonterminal_named}
use Rattle.sg_names.proofs.TableMade.{phylum_place, nonterminal_place, named}
use Rattle.sg_tables.proofs.tables.tables.Goals as goal

pub new-requires-clause-phyla : goal.new-requires-clause-phyla
new-requires-clause-phyla c = λ n. c.into_index.ensures n
    ∙ sym (phylum_place (listings_of c.in_ok-heads.heads (trees_of c.args.decls.now)) (owned (owners (operators_in c.in_ok-heads.heads (trees_of c.args.decls.now)))) (attributes_of c.in_ok-heads.heads c.in_ok-heads.heads (trees_of c.args.decls.now)) c.in_ok-heads.heads c.in_ok-heads.heads n)
    ∙ ap (λ (t : Table). phylum_named t n) (sym c.in_ok-table.ensures)

pub new-requires-clause-nonterminals : goal.new-requires-clause-nonterminals
new-requires-clause-nonterminals c = λ n. c.into_index-2.ensures n
    ∙ sym (nonterminal_place (attributes_of c.in_ok-others.others c.in_ok-heads.heads (trees_of c.args.decls.now)) c.in_ok-others.others n)
    ∙ ap (λ (t : Table). nonterminal_named t n) (sym c.in_ok-table.ensures)

pub returns : goal.returns
returns c =
    let is : c.in_ok-table.table ≡ _ = named c.in_ok-heads.heads c.in_ok-others.others (trees_of c.args.decls.now) c.in_ok-table.table c.in_ok-table.ensures c.in_ok-heads.ensures c.in_ok-others.ensures in
    subst (λ (t : Table). IfOk c.new.result (λ n. n ≡ t)) is c.new.ensures
