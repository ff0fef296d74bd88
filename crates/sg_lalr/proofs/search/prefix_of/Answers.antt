use Rattle.std.proofs.Common.{◌≡◌, suc, ◌-◌, ◌<◌, ◌≤◌, List, [], ◌∷◌, ◌++◌, length, refl, sym, ap, ◌∙◌, subst, arith}
use Rattle.std.proofs.lemmas.List.{append-nil, append_assoc}
use Rattle.sg_lalr.specs.declared.states.Origin.{Origin}
use Rattle.sg_lalr.specs.Automaton.{origin_at, FoundBy, at_first, further}
use Rattle.sg_lalr.proofs.search.prefix_of.Goals as goal

pub origins-preserved : goal.origins-preserved
origins-preserved c =
    let origins : List Origin = c.args.origins.now in
    let at = c.origins.at in
    let k = at - 1 in
    let more : 0 < at = c.origins-test.true in
    let there = c.origins.invariant.0 in
    let low : k < length origins = omega (arith, more, there) in
    let is : suc k ≡ at = omega (arith, more) in
    let back = c.requires.back k low in
    let bound : (origin_at origins k).state ≤ length origins = omega (arith, back, low) in (
      bound,
      λ w f.
          let one = c.origins.invariant.1 ((origin_at origins k).symbol ∷ w) (subst (λ n. FoundBy origins n ((origin_at origins k).symbol ∷ w)) is (further k (origin_at origins k).state w low refl f)) in
          subst (FoundBy origins c.args.state) (sym (append_assoc c.origins.symbols.items ((origin_at origins k).symbol ∷ []) w) ∙ ap (λ xs. xs ++ w) (sym c.in_ok-push.ensures.items)) one,
    )

pub returns : goal.returns
returns c =
    let origins : List Origin = c.args.origins.now in
    let at = c.origins.at in
    let test = c.origins-test.false in
    let is : 0 ≡ at = omega (arith, test) in
    let items = c.origins.symbols.items in
    (items, subst (FoundBy origins c.args.state) (append-nil items) (c.origins.invariant.1 [] (subst (λ n. FoundBy origins n []) is at_first)), c.reverse.ensures.items)
