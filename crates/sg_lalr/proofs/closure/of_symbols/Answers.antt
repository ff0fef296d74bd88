use Rattle.std.proofs.Common.{◌≡◌, ◌+◌, ◌++◌, [], ℕ, map, get_or, take, sym, ap, ◌∙◌, subst}
use Rattle.std.specs.Prelude.{slice_index_or}
use Rattle.std.proofs.lemmas.List.{take_all, get_or_default}
use Rattle.sg_lalr.proofs.OpeningLemmas.{GathersAll, gathers-none, gathers-more}
use Rattle.sg_lalr.proofs.closure.of_symbols.Goals as goal

pub loop-y-init : goal.loop-y-init
loop-y-init c = rw c.new-productions.ensures.items (gathers-none (map (λ k. k.items) c.args.lefts.now))

pub loop-y-preserved : goal.loop-y-preserved
loop-y-preserved c =
    let rows = map (λ k. k.items) c.args.lefts.now in
    let symbols = c.args.symbols.now in
    let list = c.loop-y.productions.items in
    let k = c.loop-y.y-index in
    let y : ℕ = get_or symbols k 0 in
    let grown : c.extend_from_slice.new.self.items ≡ list ++ slice_index_or rows y [] = c.in_ok-extend_from_slice.ensures.items ∙ ap (λ r. list ++ r) c.of_symbol.ensures in
    subst (GathersAll rows (take (k + 1) symbols)) (sym grown) (gathers-more rows symbols list k y c.loop-y-test.true (get_or_default symbols k 0 y c.loop-y-test.true) c.loop-y.invariant)

pub returns : goal.returns
returns c =
    let rows = map (λ k. k.items) c.args.lefts.now in
    subst (λ s. GathersAll rows s c.loop-y.productions.items) (take_all c.loop-y.y-index c.args.symbols.now c.loop-y-test.false) c.loop-y.invariant
