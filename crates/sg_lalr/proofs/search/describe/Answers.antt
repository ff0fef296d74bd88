use Rattle.std.proofs.Common.{◌≡◌, ◌≢◌, ℕ, suc, ◌+◌, ◌<◌, ◌≤◌, List, length, reverse, map, Some, None, sym, ap, ◌∙◌, subst, arith}
use Rattle.std.specs.Prelude.{slice_index}
use Rattle.std.proofs.lemmas.List.{get_or_read, reverse-reverse}
use Rattle.std.proofs.lemmas.Option.{same_Some, none-some}
use Rattle.sg_lalr.specs.declared.lookaheads.Node.{Node}
use Rattle.sg_lalr.specs.declared.conflict.Deed.{Deed}
use Rattle.sg_lalr.specs.Items.{item}
use Rattle.sg_lalr.specs.Closure.{InRange}
use Rattle.sg_lalr.specs.Automaton.{FoundBy}
use Rattle.sg_lalr.specs.Lookaheads.{node, node_at}
use Rattle.sg_lalr.specs.Clashes.{Does}
use Rattle.sg_lalr.specs.Conflict.{LeastConflict}
use Rattle.sg_lalr.proofs.LookLemmas.{node-range, range-below}
use Rattle.sg_lalr.proofs.ConflictLemmas.{least-conflict}
use Rattle.sg_lalr.proofs.search.describe.Goals as goal

pub first_but-requires-clause-range : goal.first_but-requires-clause-range
first_but-requires-clause-range c =
    let g = c.args.g.now in
    let a = c.args.automaton.now in
    let nodes : List Node = c.args.looks.now.layout.nodes.items in
    let value = c.as_slice-nodes.ensures.value in
    λ m l. subst (λ (ns : List Node). InRange g (node_at ns m).item) (sym value) (node-range g (map (λ k. k.items) a.kernels.keys) a.cores.items a.moves.items a.origins.items c.requires.whole nodes c.args.looks.now.layout.firsts.items c.requires.laid m (subst (λ (ns : List Node). m < length ns) value l))

pub first_but-requires-2-clause-range : goal.first_but-requires-2-clause-range
first_but-requires-2-clause-range c =
    let g = c.args.g.now in
    let a = c.args.automaton.now in
    let nodes : List Node = c.args.looks.now.layout.nodes.items in
    let value = c.as_slice-nodes.ensures.value in
    λ m l. subst (λ (ns : List Node). InRange g (node_at ns m).item) (sym value) (node-range g (map (λ k. k.items) a.kernels.keys) a.cores.items a.moves.items a.origins.items c.requires.whole nodes c.args.looks.now.layout.firsts.items c.requires.laid m (subst (λ (ns : List Node). m < length ns) value l))

pub returns : goal.returns
returns c =
    let g = c.args.g.now in
    let auto = c.args.automaton.now in
    let origins = auto.origins.items in
    let nodes : List Node = c.args.looks.now.layout.nodes.items in
    let firsts : List ℕ = c.args.looks.now.layout.firsts.items in
    let rows = c.args.looks.now.rows.rows in
    let s = c.args.state in
    let t = c.args.terminal in
    let laid = c.requires.laid in
    let count = laid.count in
    let low = c.requires.state in
    let value = c.as_slice-nodes.ensures.value in
    let from : c.index-from.result.now ≡ slice_index firsts s = get_or_read firsts s c.index-from.result.now (omega (arith, low, count)) c.index-from.ensures 0 in
    let next : s + 1 ≡ suc s = omega arith in
    let to : c.index-to.result.now ≡ slice_index firsts (suc s) = get_or_read firsts (s + 1) c.index-to.result.now (omega (arith, low, count)) c.index-to.ensures 0 ∙ ap (slice_index firsts) next in
    let one = c.unwrap-first.ensures in
    let two = c.unwrap-second.ensures in
    let m = c.unwrap-first.result.0 in
    let n = c.unwrap-second.result.0 in
    let a = c.unwrap-first.result.1 in
    let b = c.unwrap-second.result.1 in
    let within : (c.index-from.result.now ≤ m) × (m < c.index-to.result.now) = rw one at c.first_but.ensures.within in
    let within2 : (c.index-from.result.now ≤ n) × (n < c.index-to.result.now) = rw two at c.first_but-2.ensures.within in
    let da : Does g c.as_slice-nodes.result.now rows t m a = rw one at c.first_but.ensures.some in
    let db : Does g c.as_slice-nodes.result.now rows t n b = rw two at c.first_but-2.ensures.some in
    let other : Some b ≢ Some a = rw two at c.first_but-2.ensures.other in
    let first : (k : ℕ) (d : Deed) → c.index-from.result.now ≤ k → k < m → Does g c.as_slice-nodes.result.now rows t k d → Some d ≡ None = rw one at c.first_but.ensures.first in
    let second : (k : ℕ) (d : Deed) → c.index-from.result.now ≤ k → k < n → Does g c.as_slice-nodes.result.now rows t k d → Some d ≡ Some a = rw two at c.first_but-2.ensures.first in
    let w = c.in_ok-prefix.ensures.0 in
    let shown : w ≡ reverse c.new.result = sym (reverse-reverse w) ∙ sym (ap reverse (c.new.ensures ∙ c.in_ok-prefix.ensures.2)) in
    let all = least-conflict g c.sound.ensures c.requires.productive c.requires.entry (map (λ k. k.items) auto.kernels.keys) auto.cores.items auto.moves.items origins c.requires.whole nodes firsts laid rows c.requires.exact
    s t (reverse c.new.result) low (subst (FoundBy origins s) shown (subst (λ os. FoundBy os s w) c.deref.ensures.value c.in_ok-prefix.ensures.1)) c.requires.clear c.requires.least c.requires.clashes.terminal
    m n a b
    (subst (λ z. z ≤ m) from within.0) (subst (λ z. m < z) to within.1) (subst (λ z. z ≤ n) from within2.0) (subst (λ z. n < z) to within2.1)
    (subst (λ (ns : List Node). Does g ns rows t m a) value da) (subst (λ (ns : List Node). Does g ns rows t n b) value db)
    (λ e. other (ap Some e))
    (λ k d l h does. none-some d (sym (first k d (subst (λ z. z ≤ k) (sym from) l) h (subst (λ (ns : List Node). Does g ns rows t k d) (sym value) does))))
    (λ k d l h does. same_Some d a (second k d (subst (λ z. z ≤ k) (sym from) l) h (subst (λ (ns : List Node). Does g ns rows t k d) (sym value) does))) in
    let there : m < length nodes = range-below auto.cores.items nodes firsts laid s m low (subst (λ z. m < z) to within.1) in
    let there2 : n < length nodes = range-below auto.cores.items nodes firsts laid s n low (subst (λ z. n < z) to within2.1) in
    let is : c.index.result.now ≡ node_at nodes m = get_or_read nodes m c.index.result.now there c.index.ensures (node 0 (item 0 0)) in
    let is2 : c.index-2.result.now ≡ node_at nodes n = get_or_read nodes n c.index-2.result.now there2 c.index-2.ensures (node 0 (item 0 0)) in
    subst (λ i. LeastConflict g (reverse c.new.result) t i c.index-2.result.now.item) (sym (ap (λ (z : Node). z.item) is)) (subst (LeastConflict g (reverse c.new.result) t (node_at nodes m).item) (sym (ap (λ (z : Node). z.item) is2)) all)
