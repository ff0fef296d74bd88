use Rattle.std.proofs.Common.{◌≡◌, Some, None, sym, ap, ◌∙◌, arith}
use Rattle.std.specs.Prelude.{slice_get}
use Rattle.sg_matching.specs.Under.{value_under}
use Rattle.sg_matching.specs.Transformation.{suits_at}
use Rattle.sg_matching.proofs.FirstFound.{item_there}
use Rattle.sg_matching.proofs.Numbered.{numbered_low, find_here, find_on, find_past, first_told}
use Rattle.sg_matching.proofs.named.found_by.Goals as goal

pub suits-requires-clause-within : goal.suits-requires-clause-within
suits-requires-clause-within c =
    let named = c.requires.named in
    let i = c.loop-k.k-index in
    let k = c.k-item.result in
    let at : slice_get c.args.numbers.now i ≡ Some k = item_there c.args.numbers.now i k c.loop-k-test.true c.k-item.is in
    let low = numbered_low named.0 c.args.terms.now.spec.transforms 0 i k (ap (λ l. slice_get l i) (sym named.1) ∙ at) in
    omega (arith, low)

pub returns-then-suits-clause-first : goal.returns-then-suits-clause-first
returns-then-suits-clause-first c =
    let g = c.args.terms.now in
    let q = c.phylum-p.result in
    let ks = c.args.numbers.now in
    let k = c.k-item.result in
    let found = find_here (suits_at g.spec q (value_under g c.args.at)) ks c.loop-k.k-index k c.loop-k.invariant c.loop-k-test.true c.k-item.is (sym c.suits.ensures ∙ c.if-suits.true) in
    first_told g c.facts.ensures c.args.at q ks (Some k) found c.phylum-p.ensures.term

pub loop-k-preserved : goal.loop-k-preserved
loop-k-preserved c =
    let g = c.args.terms.now in
    find_on (suits_at g.spec c.phylum-p.result (value_under g c.args.at)) c.args.numbers.now c.loop-k.k-index c.k-item.result c.loop-k.invariant c.loop-k-test.true c.k-item.is (sym c.suits.ensures ∙ c.if-suits.false)

pub returns-clause-first : goal.returns-clause-first
returns-clause-first c =
    let g = c.args.terms.now in
    let q = c.phylum-p.result in
    let ks = c.args.numbers.now in
    let none = find_past (suits_at g.spec q (value_under g c.args.at)) ks c.loop-k.k-index c.loop-k.invariant c.loop-k-test.false in
    first_told g c.facts.ensures c.args.at q ks None none c.phylum-p.ensures.term
