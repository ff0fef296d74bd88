use Rattle.std.proofs.Common.{◌≡◌, Err, ◌∙◌, ap, subst, map, true, false}
use Rattle.std.proofs.lemmas.List.{take_all}
use Rattle.sg_kinds.specs.Values.{Tree, row_of, is_within}
use Rattle.sg_pool.specs.Pools.{value_at, tree_over}
use Rattle.sg_pool.proofs.Grown.{grown_twice}
use Rattle.sg_eval.specs.Lives.{value_in}
use Rattle.sg_eval.proofs.Bindings.{usable_later, stands_later}
use Rattle.sg_eval.proofs.Kept.{usable_at, tree_is, kept_reached, over_limit, not_false}
use Rattle.sg_eval.proofs.trees.tree.Goals as goal

pub interned-requires : goal.interned-requires
interned-requires c = usable_later c.args.pool.now c.loop-kid.pool _ c.loop-kid.invariant.grown (usable_at c.args.pool.now c.args.kids.now c.loop-kid.kid-index _ c.loop-kid-test.true c.requires)

pub returns-in-Ok-clause-value : goal.returns-in-Ok-clause-value
returns-in-Ok-clause-value c = λ last left g.
    let kids = c.args.kids.now in
    let numbers = c.loop-kid.numbers.items in
    let before = grown_twice c.loop-kid.pool c.node.new.self last c.in-Ok.ensures.grown g in
    let e : map (value_at last) numbers ≡ map (value_in last) kids = c.loop-kid.invariant.values last before ∙ ap (map (value_in last)) (take_all c.loop-kid.kid-index kids c.loop-kid-test.false) in
    let tree : tree_over c.loop-kid.pool c.args.op numbers ≡ Tree c.args.op (row_of (map (value_in last) kids)) = tree_is c.loop-kid.pool last c.args.op numbers kids before c.loop-kid.invariant.below e in
    let within : is_within (Tree c.args.op (row_of (map (value_in last) kids))) ≡ true = subst (λ v. is_within v ≡ true) tree (not_false _ (λ f. let h = c.in-Ok.ensures.size.1 f in cc)) in
    kept_reached last (Tree c.args.op (row_of (map (value_in last) kids))) c.id.inside.number left
    (ap (value_at last) c.id.view_is ∙ stands_later c.node.new.self last c.in-Ok.id _ c.in-Ok.ensures.stands g ∙ tree) within

pub returns-in-Err-Size-clause-value : goal.returns-in-Err-Size-clause-value
returns-in-Err-Size-clause-value c = λ last left g.
    let kids = c.args.kids.now in
    let numbers = c.loop-kid.numbers.items in
    let before = grown_twice c.loop-kid.pool c.node.new.self last c.in-Err-Size.ensures.grown g in
    let e : map (value_at last) numbers ≡ map (value_in last) kids = c.loop-kid.invariant.values last before ∙ ap (map (value_in last)) (take_all c.loop-kid.kid-index kids c.loop-kid-test.false) in
    let tree : tree_over c.loop-kid.pool c.args.op numbers ≡ Tree c.args.op (row_of (map (value_in last) kids)) = tree_is c.loop-kid.pool last c.args.op numbers kids before c.loop-kid.invariant.below e in
    let over : is_within (Tree c.args.op (row_of (map (value_in last) kids))) ≡ false = subst (λ v. is_within v ≡ false) tree (c.in-Err-Size.ensures.size.0 (ap Err c.in-Err-Size.field-0-is)) in
    over_limit (Tree c.args.op (row_of (map (value_in last) kids))) left over
