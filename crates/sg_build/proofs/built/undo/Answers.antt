use Rattle.std.proofs.Common.{◌+◌, ap, subst, drop, get_or}
use Rattle.std.specs.List.{slice_get}
use Rattle.std.proofs.lemmas.List.{drop_more, drop_all}
use Rattle.sg_build.specs.Grown.{GrewBy}
use Rattle.sg_build.proofs.Steps.{IsUndone, undone_one}
use Rattle.sg_build.proofs.built.undo.Goals as goal

pub drop_tree-requires : goal.drop_tree-requires
drop_tree-requires c =
    let roots = c.args.roots.now in
    let e = drop_more roots c.loop-n.n-index (record { key = 0 }) c.loop-n-test.true in
    c.loop-n.invariant.tops 0 (get_or roots c.loop-n.n-index (record { key = 0 })) (ap (λ l. slice_get l 0) e)

pub loop-n-preserved : goal.loop-n-preserved
loop-n-preserved c =
    let roots = c.args.roots.now in
    let e = drop_more roots c.loop-n.n-index (record { key = 0 }) c.loop-n-test.true in
    let d = c.drop_tree.ensures in
    undone_one c.args.terms.now c.loop-n.terms c.drop_tree.new.self roots (get_or roots c.loop-n.n-index (record { key = 0 })) (drop (c.loop-n.n-index + 1) roots) c.facts.ensures
    (subst (IsUndone c.args.terms.now c.loop-n.terms roots) e c.loop-n.invariant) (record { dropped = d.dropped; roots = d.roots; ways = d.ways; spec = d.spec; view = d.view; pool = d.pool })

pub returns : goal.returns
returns c = λ g held grew.
    let none = drop_all c.loop-n.n-index c.args.roots.now c.loop-n-test.false in
    subst (GrewBy g c.loop-n.terms) none (c.loop-n.invariant.grew g held grew)
