use Rattle.std.proofs.Common.{◌≡◌, ℕ, ◌<◌, sym, subst, arith}
use Rattle.std.specs.Prelude.{◌↔◌}
use Rattle.sg_sets.specs.Rows.{Holds}
use Rattle.sg_lalr.proofs.FirstLemmas.{LinkedBy, links-within, first-exact}
use Rattle.sg_lalr.proofs.firsts.firsts.Goals as goal

pub flow-requires : goal.flow-requires
flow-requires c =
    let g = c.args.g.now in
    let linked : LinkedBy c.args.nullable.now g.rules c.deref.result.now = subst (LinkedBy c.args.nullable.now g.rules) (sym c.deref.ensures.value) (subst (λ rs. LinkedBy c.args.nullable.now rs c.in_ok-links.links.items) c.rules.ensures c.in_ok-links.ensures) in
    links-within g c.args.nullable.now c.deref.result.now c.loop-x.rows.rows c.sound.ensures c.loop-x.invariant.count linked

pub returns-clause-exact : goal.returns-clause-exact
returns-clause-exact c =
    let g = c.args.g.now in
    let linked : LinkedBy c.args.nullable.now g.rules c.deref.result.now = subst (LinkedBy c.args.nullable.now g.rules) (sym c.deref.ensures.value) (subst (λ rs. LinkedBy c.args.nullable.now rs c.in_ok-links.links.items) c.rules.ensures c.in_ok-links.ensures) in
    let own : (X u : ℕ) → Holds c.loop-x.rows.rows X u ↔ ((X < g.terminals) × (u ≡ X)) = subst (λ n. (X u : ℕ) → Holds c.loop-x.rows.rows X u ↔ ((X < n) × (u ≡ X))) (omega arith) c.loop-x.invariant.own in
    first-exact g c.args.nullable.now c.requires c.sound.ensures c.deref.result.now linked c.loop-x.rows.rows c.flow.new.self.rows own c.flow.ensures.flows
