use Rattle.std.proofs.Common.{◌≡◌, ℕ, ◌<◌, length, get_or, map, sym, ◌∙◌, subst, arith, Some, None}
use Rattle.std.specs.Prelude.{slice_get}
use Rattle.sg_lalr.specs.Lookaheads.{node_at}
use Rattle.sg_lalr.proofs.BegunLemmas.{row-left, begun-found, first-in, none-in}
use Rattle.sg_lalr.proofs.lookaheads.begun_slot.Goals as goal

pub returns-then-b-to-clause-some : goal.returns-then-b-to-clause-some
returns-then-b-to-clause-some c =
    let g = c.args.g.now in
    let nodes = c.args.nodes.now in
    let slots = c.args.slots.now in
    let q = c.in-Some.q.now in
    let row = c.of_symbol.result.now in
    let first : Some q ≡ slice_get row 0 = c.in-Some.ensures.value in
    let left = row-left g.rules (map (λ k. k.items) c.args.lefts.now) row c.args.x q c.requires.lefts c.of_symbol.ensures (first-in row q first) in
    let found = begun-found g nodes slots c.args.from c.args.to c.args.x q c.place_of-b.result c.requires.slots c.requires.to c.requires.one left (c.requires.begun q left) (λ m l h is. c.place_of-b.ensures.only m l h (is ∙ sym c.beginning.ensures)) in
    found.1

pub returns-else-b-to-clause-none : goal.returns-else-b-to-clause-none
returns-else-b-to-clause-none c =
    let g = c.args.g.now in
    let nodes = c.args.nodes.now in
    let slots = c.args.slots.now in
    let q = c.in-Some.q.now in
    let row = c.of_symbol.result.now in
    let first : Some q ≡ slice_get row 0 = c.in-Some.ensures.value in
    let left = row-left g.rules (map (λ k. k.items) c.args.lefts.now) row c.args.x q c.requires.lefts c.of_symbol.ensures (first-in row q first) in
    let found = begun-found g nodes slots c.args.from c.args.to c.args.x q c.place_of-b.result c.requires.slots c.requires.to c.requires.one left (c.requires.begun q left) (λ m l h is. c.place_of-b.ensures.only m l h (is ∙ sym c.beginning.ensures)) in
    let low = found.0 in
    absurd (omega (arith, low, c.if-b-to.false))

pub returns-in_default-clause-none : goal.returns-in_default-clause-none
returns-in_default-clause-none c k begins =
    let row = c.of_symbol.result.now in
    let first : None ≡ slice_get row 0 = rw c.in_default.is at c.first.ensures.value in
    let q = (node_at c.args.nodes.now k).item.production in
    none-in row q first (subst (λ r. (j : ℕ) × (j < length r) × (get_or r j q ≡ q)) (sym c.of_symbol.ensures) ((c.requires.lefts c.args.x q).1 begins.1))
