use Rattle.std.proofs.Common.{◌≡◌, ℕ, suc, ◌+◌, map, ap, ◌∙◌, arith}
use Rattle.sg_kinds.specs.Instances.{below}
use Rattle.sg_prec.specs.Levels.{levels_before, levels_of}
use Rattle.sg_grammar.specs.Numbered.{nonterminal_count}
use Rattle.sg_grammar.proofs.LevelNumbers.{row_more, before_more}
use Rattle.sg_grammar.proofs.numbering.levels_before.Goals as goal

pub loop-n-preserved : goal.loop-n-preserved
loop-n-preserved c =
    let s = c.args.spec.now in
    let n = c.loop-n.n in
    let before = levels_before s.levels s.productions in
    let more : suc n ≡ n + 1 = omega arith in
    let told : c.in_ok-levels.levels ≡ levels_of s.levels s.productions = c.in_ok-levels.ensures ∙ (λ t. levels_of (c.as_slice-2.ensures t) (c.as_slice.ensures t)) in
    record {
      row = c.in_ok-push.ensures.items ∙ row_more before n c.loop-n.total c.loop-n.before.items c.loop-n.invariant.row c.loop-n.invariant.total ∙ ap (λ (k : ℕ). map before (below k)) more;
      total = before_more s.levels s.productions n c.height.result c.loop-n.total c.in_ok-total.total c.in_ok-levels.levels told c.loop-n.invariant.total c.height.ensures.number c.in_ok-total.ensures;
    }

pub returns : goal.returns
returns c =
    let s = c.args.spec.now in
    let n = c.loop-n.n in
    let before = levels_before s.levels s.productions in
    let count : n ≡ nonterminal_count s = omega (arith, c.loop-n-test.false, c.loop-n.auto.n-end, c.nonterminals-n-end.ensures.number) in
    c.in_ok-push-2.ensures.items ∙ row_more before n c.loop-n.total c.loop-n.before.items c.loop-n.invariant.row c.loop-n.invariant.total ∙ ap (λ (k : ℕ). map before (below (suc k))) count
