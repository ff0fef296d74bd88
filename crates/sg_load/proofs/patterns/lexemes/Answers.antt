use Rattle.std.proofs.Common.{Some, refl, subst}
use Rattle.std.proofs.lemmas.Result.{err_from_is_err_and}
use Rattle.sg_ast.specs.Declarations.{LexemeOf}
use Rattle.sg_ast.specs.View.{tree_of, trees_of}
use Rattle.sg_load.specs.PatternsSoFar.{ArePatternsOf}
use Rattle.sg_load.proofs.PatternSteps.{other, added, form_fault, empty_fault, tree_there, found_within, all_seen, item_there}
use Rattle.sg_load.proofs.patterns.lexemes.Goals as goal
use Rattle.sg_load.proofs.patterns.lexemes.Goals.{in-Some+in_ok-is_empty, in_default}

pub returns-in_err-is_empty-clause-fault : goal.returns-in_err-is_empty-clause-fault
returns-in_err-is_empty-clause-fault c =
    let p = err_from_is_err_and c.from_residual.result c.from_residual.ensures.1 in
    let at = tree_there c.args.decls.now c.loop-place.place c.index-decls-place.result (LexemeOf c.in-Some.name.now c.in-Some.text.now) c.loop-place-test.true c.index-decls-place.is c.in-Some.ensures in
    rw (p.1, p.2) (λ some. form_fault (trees_of c.args.decls.now) c.loop-place.place (LexemeOf c.in-Some.name.now c.in-Some.text.now) c.loop-place.patterns.items c.loop-place.empty c.in_err-is_empty.field-0.0 at c.loop-place.invariant (c.in_err-is_empty.ensures.form some) (c.in_err-is_empty.ensures.fault some))

pub loop-place-preserved : goal.loop-place-preserved
loop-place-preserved c = elim c.match-lexeme_phylum.branch [
  | in-Some+in_ok-is_empty w ↦
      let at = tree_there c.args.decls.now c.loop-place.place c.index-decls-place.result (LexemeOf w.in-Some.name.now w.in-Some.text.now) c.loop-place-test.true c.index-decls-place.is w.in-Some.ensures in
      rw (w.patterns-is, w.empty-is, w.first_empty-empty.ensures) (added (trees_of c.args.decls.now) c.loop-place.place w.in-Some.name.now w.in-Some.text.now c.loop-place.patterns.items w.add.new.patterns.items c.loop-place.empty w.in_ok-is_empty.is_empty at w.in_ok-is_empty.ensures.added c.loop-place.invariant)
  | in_default w ↦
      let at = tree_there c.args.decls.now c.loop-place.place c.index-decls-place.result (tree_of c.index-decls-place.result) c.loop-place-test.true c.index-decls-place.is refl in
      rw (w.patterns-is, w.empty-is) (other (trees_of c.args.decls.now) c.loop-place.place (tree_of c.index-decls-place.result) c.loop-place.patterns.items c.loop-place.empty at w.in_default.ensures c.loop-place.invariant)
]

pub item-requires : goal.item-requires
item-requires c = found_within c.args.decls.now c.loop-place.place c.in-Some-empty.place c.loop-place.patterns.items c.loop-place.empty c.loop-place.invariant c.in-Some-empty.is

pub returns-in-Some-empty-clause-fault : goal.returns-in-Some-empty-clause-fault
returns-in-Some-empty-clause-fault c some =
    let so_far : ArePatternsOf (trees_of c.args.decls.now) c.loop-place.place c.loop-place.patterns.items (Some c.in-Some-empty.place) = subst (ArePatternsOf (trees_of c.args.decls.now) c.loop-place.place c.loop-place.patterns.items) c.in-Some-empty.is c.loop-place.invariant in
    empty_fault (trees_of c.args.decls.now) c.loop-place.place c.in-Some-empty.place (tree_of c.item.result.now) c.loop-place.patterns.items c.empty_fault.result (all_seen c.args.decls.now c.loop-place.place c.loop-place-test.false) (item_there c.args.decls.now c.in-Some-empty.place c.item.result.now c.item.ensures) so_far (λ _. c.empty_fault.ensures some)
