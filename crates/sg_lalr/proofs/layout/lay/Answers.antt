use Rattle.std.proofs.Common.{◌≡◌, ◌+◌, ◌++◌, ◌∷◌, [], ◌∙◌, sym, ap, length, map, take, arith, List}
use Rattle.std.proofs.lemmas.List.{take_more}
use Rattle.sg_lalr.specs.Items.{Item}
use Rattle.sg_lalr.specs.Lookaheads.{node}
use Rattle.sg_lalr.proofs.LayoutLemmas.{laid-none, laid-more, length-front}
use Rattle.sg_lalr.proofs.layout.lay.Goals as goal

pub loop-state-init : goal.loop-state-init
loop-state-init c = rw (c.new-nodes.ensures.items, c.in_ok-push.ensures.items, c.new-firsts.ensures.items) laid-none

pub loop-state-preserved : goal.loop-state-preserved
loop-state-preserved c =
    let cores = c.args.cores.now in
    let s = c.loop-state.state in
    let core : List Item = c.index-cores-state.result in
    let more : take (s + 1) cores ≡ take s cores ++ core ∷ [] = take_more cores s core c.loop-state-test.true ∙ ap (λ r. take s cores ++ r ∷ []) (sym c.index-cores-state.is) in
    let count : length (take s cores) ≡ s = length-front cores s (omega arith) in
    let nodes : c.push_core.new.nodes.items ≡ c.loop-state.nodes.items ++ map (node (length (take s cores))) core = c.in_ok-push_core.ensures ∙ ap (λ r. c.loop-state.nodes.items ++ map (node s) r) c.as_slice.ensures ∙ ap (λ n. c.loop-state.nodes.items ++ map (node n) core) (sym count) in
    let long : c.len.result ≡ length (c.loop-state.nodes.items ++ map (node (length (take s cores))) core) = c.len.ensures ∙ c.push_core.new.nodes.ok.0 ∙ ap length nodes in
    let firsts : c.push-in-loop-state.new.self.items ≡ c.loop-state.firsts.items ++ length (c.loop-state.nodes.items ++ map (node (length (take s cores))) core) ∷ [] = c.in_ok-push-2.ensures.items ∙ ap (λ n. c.loop-state.firsts.items ++ n ∷ []) long in
    rw (more, nodes, firsts) (laid-more (take s cores) core c.loop-state.nodes.items c.loop-state.firsts.items c.loop-state.invariant)
