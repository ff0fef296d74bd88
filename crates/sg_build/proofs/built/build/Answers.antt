use Rattle.std.proofs.Common.{refl, [], ◌∷◌}
use Rattle.sg_build.proofs.Framed.{grew_terms, grew_unknown}
use Rattle.sg_build.proofs.built.build.Goals as goal

pub returns-in_err-tree_of-clause-terms : goal.returns-in_err-tree_of-clause-terms
returns-in_err-tree_of-clause-terms c = grew_terms c.args.terms.now c.tree_of.new.terms [] c.in_err-tree_of.ensures.err c.facts.ensures

pub returns-clause-terms : goal.returns-clause-terms
returns-clause-terms c = grew_terms c.args.terms.now c.tree_of.new.terms (c.in_ok-tree_of.field-0 ∷ []) c.in_ok-tree_of.ensures.grew c.facts.ensures

pub returns-clause-unknown : goal.returns-clause-unknown
returns-clause-unknown c = grew_unknown c.args.terms.now c.tree_of.new.terms (c.in_ok-tree_of.field-0 ∷ []) c.in_ok-tree_of.ensures.grew c.facts.ensures 0 c.in_ok-tree_of.field-0 refl
