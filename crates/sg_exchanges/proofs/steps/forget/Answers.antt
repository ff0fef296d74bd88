use Rattle.std.proofs.Common.{subst}
use Rattle.sg_exchanges.specs.Roots.{Drops}
use Rattle.sg_exchanges.proofs.Dropping.{drops_none, drops_one, hung_root}
use Rattle.sg_exchanges.proofs.steps.forget.Goals as goal

pub drop_tree-requires : goal.drop_tree-requires
drop_tree-requires c = hung_root c.args.terms.now _ c.in-Some.top c.in-Some.ensures c.requires

pub returns-in-Some : goal.returns-in-Some
returns-in-Some c =
    let e = c.drop_tree.ensures in
    subst (Drops c.args.terms.now c.drop_tree.new.self) c.in-Some.ensures
    (drops_one c.args.terms.now c.drop_tree.new.self c.in-Some.top c.facts.ensures (hung_root c.args.terms.now _ c.in-Some.top c.in-Some.ensures c.requires) e.dropped e.roots e.spec e.view e.pool)

pub returns-in-None : goal.returns-in-None
returns-in-None c = subst (Drops c.args.terms.now c.args.terms.now) c.in-None.ensures (drops_none c.args.terms.now)
