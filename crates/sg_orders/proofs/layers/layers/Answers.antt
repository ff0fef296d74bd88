use Rattle.std.specs.Prelude.{◌≡◌, ℕ, ◌+◌, ◌*◌, ◌<◌, ◌≤◌, length}
use Rattle.std.proofs.Common.{Vec, Global, sym, ◌∙◌, ap, subst, arith, get_or, rules}
use Rattle.sg_sets.specs.Relations.{predecessors}
use Rattle.sg_orders.proofs.Least.{AreDoneTo, IsChosen, done_none, done_more, done_over, successors_low, inherited_read}
use Rattle.sg_orders.proofs.Rising.{all_count, all_read}
use Rattle.sg_orders.proofs.layers.layers.Goals as goal
use Rattle.sg_orders.proofs.layers.layers.Goals.{then-index-rank, else-index-rank}

pub loop-passed-init : goal.loop-passed-init
loop-passed-init c =
    let long : length c.in_ok-layers.layers.items ≡ length c.args.attrs.now = search rules in
    done_none c.args.attrs.now c.args.relation.now c.requires.size c.requires.order c.in_ok-layers.layers.items long

pub index-requires : goal.index-requires
index-requires c =
    let low : c.loop-a.a < length c.in_ok-before.before.items = omega (arith, ap length c.in_ok-before.ensures, all_count c.args.relation.now, c.requires.size) in
    search rules

pub layer_from-requires : goal.layer_from-requires
layer_from-requires c =
    let attrs = c.args.attrs.now in
    let rows = c.args.relation.now in
    let a = c.loop-a.a in
    let low : a < length rows = omega (arith, c.requires.size) in
    let before : c.index.result.now ≡ predecessors rows a = all_read rows c.in_ok-before.before.items a c.index.result.now c.in_ok-before.ensures low c.index.ensures in
    let rank : predecessors rows a + c.loop-passed.passed + 1 ≡ length attrs = omega (arith, before, c.if-index-rank.true) in
    let most : c.greatest_after-low.result ≤ 2 * length attrs = c.greatest_after-low.ensures.least (2 * length attrs) (λ b h. subst (λ xs. get_or xs b 0 ≤ 2 * length attrs) (sym c.as_slice.ensures.value)
    (successors_low attrs rows c.requires.size c.requires.order c.loop-a.layers.items c.loop-passed.passed a c.loop-a.invariant rank b h)) in
    omega (arith, most, c.requires.few)

pub loop-a-preserved : goal.loop-a-preserved
loop-a-preserved c =
    let attrs = c.args.attrs.now in
    let rows = c.args.relation.now in
    let a = c.loop-a.a in
    let low : a < length rows = omega (arith, c.requires.size) in
    let before : c.index.result.now ≡ predecessors rows a = all_read rows c.in_ok-before.before.items a c.index.result.now c.in_ok-before.ensures low c.index.ensures in
    elim c.if-index-rank.branch [
      | then-index-rank w ↦
          let rank : predecessors rows a + c.loop-passed.passed + 1 ≡ length attrs = omega (arith, before, w.if-index-rank.true) in
          let kind = inherited_read attrs a w.index-attrs-a.result c.loop-a-test.true in
          let chosen : IsChosen attrs rows c.loop-a.layers.items a w.greatest_after-low.result w.layer_from.result = record {
            above = λ b h. subst (λ xs. get_or xs b 0 ≤ w.greatest_after-low.result) w.as_slice.ensures.value (w.greatest_after-low.ensures.above b h);
            least = λ m all. w.greatest_after-low.ensures.least m (λ b h. subst (λ xs. get_or xs b 0 ≤ m) (sym w.as_slice.ensures.value) (all b h));
            positive = w.layer_from.ensures.positive;
            kind = kind ∙ w.layer_from.ensures.kind;
            no_lower = w.layer_from.ensures.above;
            first = λ m p k n. w.layer_from.ensures.least m p (sym kind ∙ k) n;
            near = w.layer_from.ensures.near;
          } in
          subst (λ (v : Vec ℕ Global). AreDoneTo attrs rows v.items c.loop-passed.passed (a + 1)) (sym w.layers-is) (done_more attrs rows c.requires.size c.requires.order c.loop-a.layers.items c.loop-passed.passed a w.greatest_after-low.result w.layer_from.result c.loop-a.invariant c.loop-a-test.true rank chosen)
      | else-index-rank w ↦
          let other : predecessors rows a + c.loop-passed.passed + 1 ≡ length attrs → ⊥ = λ e. w.if-index-rank.false (omega (arith, before, e)) in
          subst (λ (v : Vec ℕ Global). AreDoneTo attrs rows v.items c.loop-passed.passed (a + 1)) (sym w.layers-is) (done_over attrs rows c.requires.size c.requires.order c.loop-a.layers.items c.loop-passed.passed a c.loop-a.invariant other)
    ]
