use Rattle.std.proofs.Common.{◌≡◌, ℕ, ◌<◌, sym, ap, ◌∙◌, subst, arith, length, get_or}
use Rattle.std.specs.Prelude.{◌↔◌, slice_index_or, Contains}
use Rattle.std.proofs.lemmas.List.{length-replicate}
use Rattle.std.proofs.lemmas.List.Elements.{Contains-get_or}
use Rattle.sg_sets.specs.Members.{Has}
use Rattle.sg_lalr.specs.Lefts.{HasHead}
use Rattle.sg_lalr.proofs.ClosureLemmas.{none-held}
use Rattle.sg_lalr.proofs.OpeningLemmas.{opened-few}
use Rattle.sg_lalr.proofs.BegunLemmas.{head-within}
use Rattle.sg_lalr.proofs.CornerLemmas.{reaching-start, reaching-more, reaching-all}
use Rattle.sg_lalr.proofs.closure.reached.Goals as goal

pub reached-init : goal.reached-init
reached-init c =
    let none : (q : ℕ) → Has c.in_ok-seen.seen q → ⊥ = λ q h. none-held c.symbols.result q (subst (λ s. Has s q) c.in_ok-seen.ensures h) in
    let wide : length c.in_ok-seen.seen ≡ c.args.g.now.symbols = ap length c.in_ok-seen.ensures ∙ length-replicate c.symbols.result _ ∙ c.symbols.ensures in
    reaching-start c.args.g.now.rules c.args.x c.args.g.now.symbols c.in_ok-seen.seen c.open.new.there c.open.new.opened.items none (c.open.ensures.width ∙ wide) c.in_ok-open.ensures.gains c.in_ok-open.ensures.opened

pub open-requires-in-reached-clause-within : goal.open-requires-in-reached-clause-within
open-requires-in-reached-clause-within c k d l =
    let g = c.args.g.now in
    let row = c.of_symbol.result.now in
    let Y = c.index-symbol.result.now in
    let head = (c.requires.heads Y (slice_index_or row k d)).0 (subst (λ r. Contains r (slice_index_or row k d)) c.of_symbol.ensures (Contains-get_or row k d l)) in
    let low = head-within g Y (slice_index_or row k d) c.sound.ensures head in
    let wide = c.reached.invariant.width in
    omega (arith, low, wide)

pub reached-smaller : goal.reached-smaller
reached-smaller c =
    let few = opened-few c.reached.seen c.reached.reached.items c.reached.invariant.opened in
    let wide = c.reached.invariant.width in
    omega (arith, few, wide)

pub reached-preserved : goal.reached-preserved
reached-preserved c =
    let rules = c.args.g.now.rules in
    let l = c.reached in
    let symbols = l.reached.items in
    let low : l.k < length symbols = omega arith in
    let Y = c.index-symbol.result.now in
    let reads : Y ≡ get_or symbols l.k Y = c.index-symbol.ensures in
    let heads : (Z : ℕ) → Contains c.of_symbol.result.now Z ↔ HasHead rules Y Z = subst (λ r. (Z : ℕ) → Contains r Z ↔ HasHead rules Y Z) (sym c.of_symbol.ensures) (c.requires.heads Y) in
    let more = c.in_ok-open-2.ensures.keeps in
    reaching-more rules c.args.x c.args.g.now.symbols l.seen c.open-in-reached.new.there symbols c.open-in-reached.new.opened.items more.0 c.of_symbol.result.now l.k Y low reads heads
    c.open-in-reached.ensures.width c.in_ok-open-2.ensures.gains c.in_ok-open-2.ensures.opened more.1 l.invariant

pub returns : goal.returns
returns c = reaching-all c.args.g.now.rules c.args.x c.args.g.now.symbols c.reached.seen c.reached.reached.items c.reached.k (omega arith) c.reached.invariant
