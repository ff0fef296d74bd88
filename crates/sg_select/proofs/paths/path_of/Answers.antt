use Rattle.std.proofs.Common.{◌≡◌, ◌∷◌, ◌++◌, [], sym, ap, ◌∙◌, arith, append_assoc, append-nil}
use Rattle.std.proofs.lemmas.List.{reverse-reverse}
use Rattle.sg_kinds.specs.Places.{place_of}
use Rattle.sg_forest.proofs.Paths.{parent_is_live}
use Rattle.sg_groves.specs.Grove.{nodes}
use Rattle.sg_select.proofs.Climbing.{child_few, walk_first, walk_last, walk_up}
use Rattle.sg_select.proofs.paths.path_of.Goals as goal

pub overflow_cast-k : goal.overflow_cast-k
overflow_cast-k c = let few = child_few c.args.terms.now c.facts.ensures c.loop-above.at c.in-Some.above c.in-Some.k c.in-Some.ensures.child in omega (arith, few)

pub loop-above-init : goal.loop-above-init
loop-above-init c = record { live = c.requires; walks = walk_first c.args.terms.now c.args.n (λ root t u w. u ≡ c.new-way.result.items ++ w) (λ root t u placed. ap (λ l. l ++ u) (sym c.new-way.ensures.items)) }

pub loop-above-preserved : goal.loop-above-preserved
loop-above-preserved c =
    let g = c.args.terms.now in
    let live = parent_is_live (nodes g) c.facts.ensures.forest.linked c.loop-above.at c.in-Some.above c.in-Some.k c.in-Some.ensures.child in
    record {
      live = live;
      walks = walk_up g c.facts.ensures c.args.n c.loop-above.at c.in-Some.above c.in-Some.k (λ root t u w. u ≡ c.loop-above.way.items ++ w) (λ root t u w. u ≡ c.push.new.self.items ++ w) live c.loop-above.invariant.live c.in-Some.ensures.child
          (λ root t u w s known. known ∙ sym (append_assoc c.loop-above.way.items (c.in-Some.k ∷ []) w) ∙ ap (λ l. l ++ w) (sym c.in_ok-push.ensures.items))
          c.loop-above.invariant.walks;
    }

pub returns : goal.returns
returns c = λ root t u placed.
    let last = walk_last c.args.terms.now c.facts.ensures c.args.n c.loop-above.at (λ root t u w. u ≡ c.loop-above.way.items ++ w) (c.parent.ensures.root.0 c.in_default.is) c.loop-above.invariant.walks root t u placed in
    ap place_of (c.new.ensures ∙ c.reverse.ensures.items) ∙ reverse-reverse c.loop-above.way.items ∙ sym (last.1 ∙ append-nil c.loop-above.way.items)
