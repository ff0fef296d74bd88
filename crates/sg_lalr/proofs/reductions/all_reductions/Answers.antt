use Rattle.std.proofs.Common.{◌≡◌, ℕ, suc, ◌+◌, ◌++◌, ◌∷◌, [], List, length, ap, ◌∙◌, subst, arith}
use Rattle.std.specs.Prelude.{◌↔◌, slice_index}
use Rattle.std.proofs.lemmas.List.{get_or_read, length_push}
use Rattle.sg_lalr.specs.declared.lookaheads.Node.{Node}
use Rattle.sg_lalr.specs.Reductions.{Reduction, ReducesBy, DoesReduce}
use Rattle.sg_lalr.proofs.ReductionLemmas.{states-more}
use Rattle.sg_lalr.proofs.reductions.all_reductions.Goals as goal

pub loop-state-preserved : goal.loop-state-preserved
loop-state-preserved c =
    let g = c.args.g.now in
    let nodes : List Node = c.args.looks.now.layout.nodes.items in
    let firsts : List ℕ = c.args.looks.now.layout.firsts.items in
    let rows = c.args.looks.now.rows.rows in
    let s = c.loop-state.state in
    let low = c.loop-state-test.true in
    let laid = c.requires.laid in
    let count = laid.count in
    let from : c.index-from.result.now ≡ slice_index firsts s = get_or_read firsts s c.index-from.result.now (omega (arith, low, count)) c.index-from.ensures 0 in
    let next : s + 1 ≡ suc s = omega arith in
    let to : c.index-to.result.now ≡ slice_index firsts (suc s) = get_or_read firsts (s + 1) c.index-to.result.now (omega (arith, low, count)) c.index-to.ensures 0 ∙ ap (slice_index firsts) next in
    let found : List Reduction = c.in_ok-found.found.items in
    let last : (p t : ℕ) → ReducesBy found p t ↔ DoesReduce g nodes rows (slice_index firsts s) (slice_index firsts (suc s)) p t =
    subst (λ z. (p t : ℕ) → ReducesBy found p t ↔ DoesReduce g nodes rows z (slice_index firsts (suc s)) p t) from
    (subst (λ z. (p t : ℕ) → ReducesBy found p t ↔ DoesReduce g nodes rows c.index-from.result.now z p t) to
    (subst (λ ns. (p t : ℕ) → ReducesBy found p t ↔ DoesReduce g ns rows c.index-from.result.now c.index-to.result.now p t) c.deref.ensures.value c.in_ok-found.ensures)) in
    let items : c.push.new.self.items ≡ c.loop-state.rows.items ++ found ∷ [] = c.in_ok-push.ensures.items ∙ ap (λ r. c.loop-state.rows.items ++ r ∷ []) c.new.ensures in
    rw items (record {
      count = let k = c.loop-state.invariant.count in omega (arith, k, length_push c.loop-state.rows.items found);
      each = states-more c.loop-state.rows.items found s (λ r p t. DoesReduce g nodes rows (slice_index firsts r) (slice_index firsts (suc r)) p t) c.loop-state.invariant.count c.loop-state.invariant.each last;
    })

pub returns-clause-each : goal.returns-clause-each
returns-clause-each c s p t low = c.loop-state.invariant.each s p t (let e = c.loop-state-test.false in omega (arith, low, e))

pub reductions_of-requires-clause-to : goal.reductions_of-requires-clause-to
reductions_of-requires-clause-to c =
    let firsts : List ℕ = c.args.looks.now.layout.firsts.items in
    let s = c.loop-state.state in
    let low = c.loop-state-test.true in
    let laid = c.requires.laid in
    let count = laid.count in
    let next : s + 1 ≡ suc s = omega arith in
    let to : c.index-to.result.now ≡ slice_index firsts (suc s) = get_or_read firsts (s + 1) c.index-to.result.now (omega (arith, low, count)) c.index-to.ensures 0 ∙ ap (slice_index firsts) next in
    let w = laid.within (suc s) low in
    omega (arith, w, to, ap length c.deref.ensures.value)

pub reductions_of-requires-clause-order : goal.reductions_of-requires-clause-order
reductions_of-requires-clause-order c =
    let firsts : List ℕ = c.args.looks.now.layout.firsts.items in
    let s = c.loop-state.state in
    let low = c.loop-state-test.true in
    let laid = c.requires.laid in
    let count = laid.count in
    let from : c.index-from.result.now ≡ slice_index firsts s = get_or_read firsts s c.index-from.result.now (omega (arith, low, count)) c.index-from.ensures 0 in
    let next : s + 1 ≡ suc s = omega arith in
    let to : c.index-to.result.now ≡ slice_index firsts (suc s) = get_or_read firsts (s + 1) c.index-to.result.now (omega (arith, low, count)) c.index-to.ensures 0 ∙ ap (slice_index firsts) next in
    let r = laid.rising s low in
    omega (arith, r, from, to)
