use Rattle.std.proofs.Common.{◌≡◌, ◌≤◌, ◌++◌, ◌∷◌, [], ◌+◌, ◌∙◌, true, sym, ap, subst, arith, rules, length, length-append, take}
use Rattle.std.specs.Result.{is_ok}
use Rattle.sg_kinds.specs.Fits.{Fits}
use Rattle.sg_kinds.specs.Terms.{Term, height_of, height_of_all, kids_of}
use Rattle.sg_kinds.specs.declared.spec.Spec.{Spec}
use Rattle.sg_kinds.proofs.Kids.{take_more}
use Rattle.sg_eval.proofs.Kept.{height_item}
use Rattle.sg_terms.specs.Kept.{AllHold}
use Rattle.sg_build.specs.Grown.{GrewBy}
use Rattle.sg_build.proofs.Framed.{grew_then, grew_terms}
use Rattle.sg_build.proofs.Roots.{hold_more, hold_still, kid_fits}
use Rattle.sg_build.proofs.Steps.{ready, ready_count, ready_roots, refused_tops, grew_node, grew_still, grew_refused}
use Rattle.sg_build.proofs.built.+build.Goals as goal

pub node_over-node-requires-clause-count : goal.node_over-node-requires-clause-count
node_over-node-requires-clause-count t c =
    let mid = c.trees_of.new.terms in
    let roots = c.trees_of.new.roots.items in
    let r = ready c.args.terms.now mid roots c.args.op c.args.scheme c.requires.0 c.args.elided (kids_of c.args.kids.now) c.trees_of.result c.trees_of.ensures.grew c.requires.1 c.if-is_err.ensures.value c.trees_of.ensures.held in
    ready_count mid c.args.op c.args.scheme roots (kids_of c.args.kids.now) r

pub node_over-node-requires-clause-roots : goal.node_over-node-requires-clause-roots
node_over-node-requires-clause-roots t c =
    let mid = c.trees_of.new.terms in
    let roots = c.trees_of.new.roots.items in
    let r = ready c.args.terms.now mid roots c.args.op c.args.scheme c.requires.0 c.args.elided (kids_of c.args.kids.now) c.trees_of.result c.trees_of.ensures.grew c.requires.1 c.if-is_err.ensures.value c.trees_of.ensures.held in
    ready_roots mid c.args.op c.args.scheme roots (kids_of c.args.kids.now) r c.facts-2.ensures

pub node_over-undo-requires-in-Err-clause-roots : goal.node_over-undo-requires-in-Err-clause-roots
node_over-undo-requires-in-Err-clause-roots t c =
    refused_tops c.trees_of.new.terms c.node.new.self c.trees_of.new.roots.items c.deref-in-Err.result.now c.trees_of.ensures.grew.tops c.in-Err.ensures.err (c.deref-in-Err.ensures.value ∙ c.in-Err.ensures.refused)

pub node_over-returns-in-Ok-clause-held : goal.node_over-returns-in-Ok-clause-held
node_over-returns-in-Ok-clause-held t c =
    let mid = c.trees_of.new.terms in
    let roots = c.trees_of.new.roots.items in
    let r = ready c.args.terms.now mid roots c.args.op c.args.scheme c.requires.0 c.args.elided (kids_of c.args.kids.now) c.trees_of.result c.trees_of.ensures.grew c.requires.1 c.if-is_err.ensures.value c.trees_of.ensures.held in
    c.in-Ok.ensures.held (kids_of c.args.kids.now) r.all

pub node_over-returns-in-Ok-clause-grew : goal.node_over-returns-in-Ok-clause-grew
node_over-returns-in-Ok-clause-grew t c =
    let mid = c.trees_of.new.terms in
    let roots = c.trees_of.new.roots.items in
    let e = c.in-Ok.ensures in
    let r = ready c.args.terms.now mid roots c.args.op c.args.scheme c.requires.0 c.args.elided (kids_of c.args.kids.now) c.trees_of.result c.trees_of.ensures.grew c.requires.1 c.if-is_err.ensures.value c.trees_of.ensures.held in
    grew_node c.args.terms.now mid c.node.new.self roots c.in-Ok.n c.args.op c.args.scheme c.args.elided (kids_of c.args.kids.now) c.facts-2.ensures c.facts-in-Ok.ensures c.trees_of.ensures.grew r e.kept
    (e.held (kids_of c.args.kids.now) r.all) e.unknown e.fresh e.root e.hung e.roots

pub node_over-returns-in-Err-clause-err : goal.node_over-returns-in-Err-clause-err
node_over-returns-in-Err-clause-err t c =
    let old = c.args.terms.now in
    let mid = c.trees_of.new.terms in
    let e = c.in-Err.ensures in
    let same = c.deref-in-Err.ensures.value ∙ e.refused in
    c.undo-in-Err.ensures old c.facts.ensures
    (subst (GrewBy old c.node.new.self) (sym same) (grew_refused old mid c.node.new.self c.trees_of.new.roots.items c.trees_of.ensures.grew e.kept e.err))

pub trees_of-tree_of-requires : goal.trees_of-tree_of-requires
trees_of-tree_of-requires t c =
    let kids = c.args.kids.now in
    let i = c.loop-kid.kid-index in
    let h : height_of c.kid-item.result ≤ height_of_all (kids_of kids) = height_item kids i c.kid-item.result c.loop-kid-test.true c.kid-item.is in
    let fits = kid_fits c.args.terms.now.spec kids c.requires.fit.0 i c.kid-item.result c.requires.fit.1 c.loop-kid-test.true in
    let there : Fits c.args.terms.now.spec c.kid-item.result fits.0 = subst (λ (x : Term). Fits c.args.terms.now.spec x fits.0) (sym c.kid-item.is) fits.1 in
    (search (rules, h), (fits.0, subst (λ (s : Spec). Fits s c.kid-item.result fits.0) (sym c.loop-kid.invariant.grew.spec) there))

pub trees_of-returns-in_err-n-clause-grew : goal.trees_of-returns-in_err-n-clause-grew
trees_of-returns-in_err-n-clause-grew t c = grew_still c.args.terms.now c.loop-kid.terms c.tree_of.new.terms c.loop-kid.roots.items c.loop-kid.invariant.grew c.in_err-n.ensures.err

pub trees_of-loop-kid-preserved : goal.trees_of-loop-kid-preserved
trees_of-loop-kid-preserved t c =
    let mid = c.loop-kid.terms in
    let new = c.tree_of.new.terms in
    let kids = c.args.kids.now in
    let i = c.loop-kid.kid-index in
    let roots = c.loop-kid.roots.items in
    let n = c.in_ok-n.n in
    let x = c.kid-item.result in
    let count = c.loop-kid.invariant.count in
    let room = c.loop-kid.invariant.room in
    let low = c.loop-kid-test.true in
    let long = c.loop-kid.roots.ok.0 in
    let ok : is_ok c.push.result ≡ true = c.push.ensures.succeeds (omega (arith, count, room, low, long)) in
    let items : c.push.new.self.items ≡ roots ++ n ∷ [] = rw ok at c.push.ensures.items in
    let grew = c.in_ok-n.ensures.grew in
    let still = hold_still mid new (grew_terms mid new (n ∷ []) grew c.facts.ensures) roots (kids_of (take i kids)) c.loop-kid.invariant.held in
    record {
      count = ap length items ∙ (let more = length-append roots (n ∷ []) in omega (arith, more, count));
      room = (let kept = c.push.ensures.capacity in omega (arith, kept, room));
      held = subst (λ ids. AllHold new ids (kids_of (take (i + 1) kids))) (sym items)
          (subst (λ ts. AllHold new (roots ++ n ∷ []) (kids_of ts)) (sym (take_more kids i x low c.kid-item.is)) (hold_more new roots (take i kids) n x still c.in_ok-n.ensures.held));
      grew = subst (GrewBy c.args.terms.now new) (sym items) (grew_then c.args.terms.now mid new roots (n ∷ []) c.loop-kid.invariant.grew grew);
    }
