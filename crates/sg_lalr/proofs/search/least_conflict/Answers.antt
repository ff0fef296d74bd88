use Rattle.std.proofs.Common.{◌≡◌, ℕ, suc, ◌+◌, ◌<◌, inl, inr, List, length, map, sym, ap, ◌∙◌, subst, arith}
use Rattle.std.specs.Prelude.{slice_index}
use Rattle.std.proofs.lemmas.Bool.{cases_lt}
use Rattle.std.proofs.lemmas.List.{get_or_read}
use Rattle.sg_lalr.specs.declared.lookaheads.Node.{Node}
use Rattle.sg_lalr.specs.Closure.{InRange}
use Rattle.sg_lalr.specs.Lookaheads.{node_at}
use Rattle.sg_lalr.specs.Clashes.{Clashes, IsApart}
use Rattle.sg_lalr.proofs.LookLemmas.{node-range}
use Rattle.sg_lalr.proofs.ConflictLemmas.{nodes-apart, quiet}
use Rattle.sg_lalr.proofs.search.least_conflict.Goals as goal

pub least_clash-terminal-requires-clause-range : goal.least_clash-terminal-requires-clause-range
least_clash-terminal-requires-clause-range c =
    let g = c.args.g.now in
    let a = c.args.automaton.now in
    let nodes : List Node = c.args.looks.now.layout.nodes.items in
    let value = c.as_slice-nodes.ensures.value in
    λ m l. subst (λ (ns : List Node). InRange g (node_at ns m).item) (sym value) (node-range g (map (λ k. k.items) a.kernels.keys) a.cores.items a.moves.items a.origins.items c.requires.whole nodes c.args.looks.now.layout.firsts.items c.requires.laid m (subst (λ (ns : List Node). m < length ns) value l))

pub least_clash-terminal-requires-clause-apart : goal.least_clash-terminal-requires-clause-apart
least_clash-terminal-requires-clause-apart c =
    let g = c.args.g.now in
    let a = c.args.automaton.now in
    let nodes : List Node = c.args.looks.now.layout.nodes.items in
    let firsts : List ℕ = c.args.looks.now.layout.firsts.items in
    let value = c.as_slice-nodes.ensures.value in
    let s = c.loop-state.state in
    let low : s < length a.cores.items = (let test = c.loop-state-test.true in let end = c.len-state-end.ensures in let same = a.cores.ok.0 in omega (arith, test, end, same)) in
    let count = c.requires.laid.count in
    let from : c.index-from.result.now ≡ slice_index firsts s = get_or_read firsts s c.index-from.result.now (omega (arith, low, count)) c.index-from.ensures 0 in
    let next : s + 1 ≡ suc s = omega arith in
    let to : c.index-to.result.now ≡ slice_index firsts (suc s) = get_or_read firsts (s + 1) c.index-to.result.now (omega (arith, low, count)) c.index-to.ensures 0 ∙ ap (slice_index firsts) next in
    let apart = nodes-apart g c.sound.ensures c.requires.productive c.requires.entry (map (λ k. k.items) a.kernels.keys) a.cores.items a.moves.items a.origins.items c.requires.whole nodes firsts c.requires.laid c.args.looks.now.rows.rows c.requires.exact s low in
    subst (λ (ns : List Node). IsApart g ns c.index-from.result.now c.index-to.result.now) (sym value) (subst (λ x. IsApart g nodes x c.index-to.result.now) (sym from) (subst (IsApart g nodes (slice_index firsts s)) (sym to) apart))

pub describe-requires-clause-clashes : goal.describe-requires-clause-clashes
describe-requires-clause-clashes c =
    let g = c.args.g.now in
    let a = c.args.automaton.now in
    let nodes : List Node = c.args.looks.now.layout.nodes.items in
    let firsts : List ℕ = c.args.looks.now.layout.firsts.items in
    let rows = c.args.looks.now.rows.rows in
    let value = c.as_slice-nodes.ensures.value in
    let s = c.loop-state.state in
    let low : s < length a.cores.items = (let test = c.loop-state-test.true in let end = c.len-state-end.ensures in let same = a.cores.ok.0 in omega (arith, test, end, same)) in
    let count = c.requires.laid.count in
    let from : c.index-from.result.now ≡ slice_index firsts s = get_or_read firsts s c.index-from.result.now (omega (arith, low, count)) c.index-from.ensures 0 in
    let next : s + 1 ≡ suc s = omega arith in
    let to : c.index-to.result.now ≡ slice_index firsts (suc s) = get_or_read firsts (s + 1) c.index-to.result.now (omega (arith, low, count)) c.index-to.ensures 0 ∙ ap (slice_index firsts) next in
    let t = c.least_clash-terminal.result in
    let one = c.least_clash-terminal.ensures.clash (let test = c.if-terminal-terminals.true in let all = c.terminals-in-loop-state.ensures in omega (arith, test, all)) in
    subst (λ y. Clashes g nodes rows (slice_index firsts s) y t) to (subst (λ x. Clashes g nodes rows x c.index-to.result.now t) from (subst (λ (ns : List Node). Clashes g ns rows c.index-from.result.now c.index-to.result.now t) value one))

pub describe-requires-clause-least : goal.describe-requires-clause-least
describe-requires-clause-least c =
    let g = c.args.g.now in
    let a = c.args.automaton.now in
    let nodes : List Node = c.args.looks.now.layout.nodes.items in
    let firsts : List ℕ = c.args.looks.now.layout.firsts.items in
    let rows = c.args.looks.now.rows.rows in
    let value = c.as_slice-nodes.ensures.value in
    let s = c.loop-state.state in
    let low : s < length a.cores.items = (let test = c.loop-state-test.true in let end = c.len-state-end.ensures in let same = a.cores.ok.0 in omega (arith, test, end, same)) in
    let count = c.requires.laid.count in
    let from : c.index-from.result.now ≡ slice_index firsts s = get_or_read firsts s c.index-from.result.now (omega (arith, low, count)) c.index-from.ensures 0 in
    let next : s + 1 ≡ suc s = omega arith in
    let to : c.index-to.result.now ≡ slice_index firsts (suc s) = get_or_read firsts (s + 1) c.index-to.result.now (omega (arith, low, count)) c.index-to.ensures 0 ∙ ap (slice_index firsts) next in
    λ t k. c.least_clash-terminal.ensures.least t (subst (λ (ns : List Node). Clashes g ns rows c.index-from.result.now c.index-to.result.now t) (sym value) (subst (λ x. Clashes g nodes rows x c.index-to.result.now t) (sym from) (subst (λ y. Clashes g nodes rows (slice_index firsts s) y t) (sym to) k)))

pub loop-state-preserved : goal.loop-state-preserved
loop-state-preserved c =
    let g = c.args.g.now in
    let a = c.args.automaton.now in
    let nodes : List Node = c.args.looks.now.layout.nodes.items in
    let firsts : List ℕ = c.args.looks.now.layout.firsts.items in
    let rows = c.args.looks.now.rows.rows in
    let value = c.as_slice-nodes.ensures.value in
    let s = c.loop-state.state in
    let low : s < length a.cores.items = (let test = c.loop-state-test.true in let end = c.len-state-end.ensures in let same = a.cores.ok.0 in omega (arith, test, end, same)) in
    let count = c.requires.laid.count in
    let from : c.index-from.result.now ≡ slice_index firsts s = get_or_read firsts s c.index-from.result.now (omega (arith, low, count)) c.index-from.ensures 0 in
    let next : s + 1 ≡ suc s = omega arith in
    let to : c.index-to.result.now ≡ slice_index firsts (suc s) = get_or_read firsts (s + 1) c.index-to.result.now (omega (arith, low, count)) c.index-to.ensures 0 ∙ ap (slice_index firsts) next in
    let high = c.if-terminal-terminals.false in (
      c.least_clash-terminal.ensures.width,
      λ r u l k. elim (cases_lt r s) [
        | inl under ↦ c.loop-state.invariant.1 r u under k
        | inr over ↦
            let is : r ≡ s = omega (arith, l, over) in
            let here = subst (λ z. Clashes g nodes rows (slice_index firsts z) (slice_index firsts (suc z)) u) is k in
            let least = c.least_clash-terminal.ensures.least u (subst (λ (ns : List Node). Clashes g ns rows c.index-from.result.now c.index-to.result.now u) (sym value) (subst (λ x. Clashes g nodes rows x c.index-to.result.now u) (sym from) (subst (λ y. Clashes g nodes rows (slice_index firsts s) y u) (sym to) here))) in
            let terminal = here.terminal in
            let all = c.terminals-in-loop-state.ensures in
            omega (arith, high, least, terminal, all)
      ],
    )

pub returns-clause-none : goal.returns-clause-none
returns-clause-none c =
    let g = c.args.g.now in
    let a = c.args.automaton.now in
    let test = c.loop-state-test.false in
    quiet g c.sound.ensures c.requires.productive c.requires.entry (map (λ k. k.items) a.kernels.keys) a.cores.items a.moves.items a.origins.items c.requires.whole c.args.looks.now.layout.nodes.items c.args.looks.now.layout.firsts.items c.requires.laid c.args.looks.now.rows.rows c.requires.exact
    (λ r u l. c.loop-state.invariant.1 r u (let end = c.len-state-end.ensures in let same = a.cores.ok.0 in omega (arith, l, test, end, same)))
