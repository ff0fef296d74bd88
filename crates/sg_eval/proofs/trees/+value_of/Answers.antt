use Rattle.std.proofs.Common.{◌≤◌, ◌∙◌, ap, map, rules}
use Rattle.std.proofs.lemmas.List.{take_all}
use Rattle.sg_kinds.specs.Values.{row_of}
use Rattle.sg_kinds.specs.Terms.{height_of, height_of_all, kids_of}
use Rattle.sg_kinds.specs.ValueOf as term
use Rattle.sg_eval.proofs.Kept.{height_item, values_of-kids_of}
use Rattle.sg_eval.proofs.trees.+value_of.Goals as goal

pub values_of-value_of-requires : goal.values_of-value_of-requires
values_of-value_of-requires t c =
    let h : height_of c.term-item.result ≤ height_of_all (kids_of c.args.terms.now) = height_item c.args.terms.now c.loop-term.term-index c.term-item.result c.loop-term-test.true c.term-item.is in
    search (rules, h)

pub values_of-returns : goal.values_of-returns
values_of-returns t c = ap row_of c.loop-term.invariant ∙ ap (λ l. row_of (map term.value_of l)) (take_all c.loop-term.term-index c.args.terms.now c.loop-term-test.false) ∙ values_of-kids_of c.args.terms.now
