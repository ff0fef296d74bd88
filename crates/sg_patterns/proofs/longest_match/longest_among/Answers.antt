use Rattle.std.proofs.Common.{◌≡◌, ◌+◌, ◌++◌, ◌∷◌, [], length, take, map, arith, ap, sym, ◌∙◌, subst, Some, length-append}
use Rattle.std.specs.Prelude.{slice_get}
use Rattle.std.proofs.lemmas.Option.{slice_get-get_or}
use Rattle.std.proofs.lemmas.List.{length-map, length-take-le, take_all}
use Rattle.sg_patterns.specs.LongestMatch.{Pattern, IsAnswer}
use Rattle.sg_patterns.proofs.Answering.{there, among-more, answer-kept, answer-better}
use Rattle.sg_patterns.proofs.Failing.{have-set}
use Rattle.sg_patterns.proofs.longest_match.longest_among.Goals as goal
use Rattle.sg_patterns.proofs.longest_match.longest_among.Goals.{then-len-len_of, else-len-len_of}

pub longest_from-len-requires-clause-known : goal.longest_from-len-requires-clause-known
longest_from-len-requires-clause-known c =
    let k = c.loop-k.k in
    let programs = c.args.programs.now in
    let known = c.loop-k.invariant.known in
    let here : slice_get programs k ≡ Some c.index-programs-k.result = slice_get-get_or programs k c.index-programs-k.result (omega arith) ∙ ap Some (sym c.index-programs-k.is) in
    known.each k c.index-programs-k.result _ here (slice_get-get_or c.loop-k.failures k c.index-failures-k.result (omega (arith, known.same)))

pub loop-k-preserved : goal.loop-k-preserved
loop-k-preserved c = record {
  known =
      let programs = c.args.programs.now in
      let here : slice_get programs c.loop-k.k ≡ Some c.index-programs-k.result = slice_get-get_or programs c.loop-k.k c.index-programs-k.result (omega arith) ∙ ap Some (sym c.index-programs-k.is) in
      have-set programs c.args.text.now c.loop-k.failures c.loop-k.k c.index-programs-k.result c.longest_from-len.new.failures here c.loop-k.invariant.known c.longest_from-len.ensures.known;
  longest = λ ts ps len are before.
      let k = c.loop-k.k in
      let programs = c.args.programs.now in
      let q = there ps k (omega (arith, are.same)) in
      let so_far = ts ++ map Pattern (take k ps) in
      let here : slice_get programs k ≡ Some c.index-programs-k.result = slice_get-get_or programs k c.index-programs-k.result (omega arith) ∙ ap Some (sym c.index-programs-k.is) in
      let found = c.longest_from-len.ensures.longest q.0 (are.each k c.index-programs-k.result q.0 here q.1) in
      let count : c.args.number + k ≡ length so_far = omega (arith, len, are.same, length-append ts (map Pattern (take k ps)), length-map (take k ps) Pattern, length-take-le k ps (omega (arith, are.same))) in
      let old = c.loop-k.invariant.longest ts ps len are before in
      subst (λ us. IsAnswer us c.args.text.now c.args.at c.if-len-len_of.best) (sym (among-more c.args.text.now c.args.at ts ps k q.0 q.1))
      (elim c.if-len-len_of.branch [
        | then-len-len_of w ↦ subst (IsAnswer (so_far ++ Pattern q.0 ∷ []) c.args.text.now c.args.at) (sym w.best-is) (answer-better c.args.text.now c.args.at so_far (Pattern q.0) c.longest_from-len.result (c.args.number + k) c.loop-k.best old found (omega (arith, c.len_of.ensures)) count)
        | else-len-len_of w ↦ subst (IsAnswer (so_far ++ Pattern q.0 ∷ []) c.args.text.now c.args.at) (sym w.best-is) (answer-kept c.args.text.now c.args.at so_far (Pattern q.0) c.loop-k.best old (λ n h. omega (arith, found.most n h, c.len_of.ensures)))
      ]);
}

pub returns-clause-longest : goal.returns-clause-longest
returns-clause-longest c ts ps len are before =
    let all : take c.loop-k.k ps ≡ ps = take_all c.loop-k.k ps (omega (arith, are.same)) in
    subst (λ qs. IsAnswer (ts ++ map Pattern qs) c.args.text.now c.args.at c.loop-k.best) all (c.loop-k.invariant.longest ts ps len are before)
