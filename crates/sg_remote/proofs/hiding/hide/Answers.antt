use Rattle.std.proofs.Common.{◌≡◌, ◌≤◌, List, length, ap, subst, ◌∙◌}
use Rattle.sg_ast.specs.View.{trees_of}
use Rattle.sg_names.specs.Rows.{row_in}
use Rattle.sg_remote.specs.Atoms.{atoms}
use Rattle.sg_remote.specs.Lists.{lists_of}
use Rattle.sg_remote.specs.Longer.{more}
use Rattle.sg_remote.specs.declared.atoms.Atom.{Atom}
use Rattle.sg_remote.proofs.Longer.{hidden, anyway}
use Rattle.sg_remote.proofs.hiding.hide.Goals as goal

pub returns-clause-names : goal.returns-clause-names
returns-clause-names c =
    let ds = trees_of c.args.decls.now in
    let t = c.args.names in
    let found : c.deref.result.now ≡ atoms t ds = c.deref.ensures.value ∙ c.in_ok-atoms.ensures in
    hidden t c.in_ok-with_more.field-0 ds (row_in c.in_ok-more.more.items) c.kept.result c.requires.named
    (λ p. c.in_ok-more.ensures.rows p ∙ ap (λ (rs : List Atom). more t rs (lists_of rs) p) found) c.in_ok-with_more.ensures c.kept.ensures

pub returns-clause-few : goal.returns-clause-few
returns-clause-few c =
    let ds = trees_of c.args.decls.now in
    let t = c.args.names in
    let found : c.deref.result.now ≡ atoms t ds = c.deref.ensures.value ∙ c.in_ok-atoms.ensures in
    anyway c.kept.result (length (lists_of (atoms t ds)) ≤ 1048576) (subst (λ (rs : List Atom). length (lists_of rs) ≤ 1048576) found c.in_ok-more.ensures.few)
