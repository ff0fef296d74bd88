use Rattle.std.proofs.Common.{◌∙◌, sym, arith}
use Rattle.sg_dependencies.proofs.SoundRules.{sound_range}
use Rattle.sg_attrib.proofs.Calls.{count_is, op_there}
use Rattle.sg_propagate.proofs.rise.visits.Goals as goal

pub visit_count-requires-clause-range : goal.visit_count-requires-clause-range
visit_count-requires-clause-range c =
    let is = c.facts.ensures in
    rw c.spec.ensures (sound_range c.args.terms.now.spec is.sound.counted is.sound.shapes is.sound.rules)

pub visit_count-requires-clause-there : goal.visit_count-requires-clause-there
visit_count-requires-clause-there c = rw c.spec.ensures (op_there c.args.terms.now c.facts.ensures c.args.n c.in-Some.op (sym c.op.ensures.op ∙ c.in-Some.is))

pub returns-in-Some-clause-each : goal.returns-in-Some-clause-each
returns-in-Some-clause-each c = λ k less.
    let at = sym c.op.ensures.op ∙ c.in-Some.is in
    record {
      op = c.in-Some.op;
      is = at;
      low = omega arith;
      high = λ x found. (let count = (count_is c.args.terms.now c.facts.ensures c.args.plans.now c.args.n c.in-Some.op c.visit_count.result at (rw c.spec.ensures at c.visit_count.ensures) x found).1 in omega (arith, less, count));
    }

pub returns-in-Some-clause-all : goal.returns-in-Some-clause-all
returns-in-Some-clause-all c = λ k v.
    let at = sym c.op.ensures.op ∙ c.in-Some.is in
    let x = c.requires.live.node in
    let count = (count_is c.args.terms.now c.facts.ensures c.args.plans.now c.args.n c.in-Some.op c.visit_count.result at (rw c.spec.ensures at c.visit_count.ensures) x c.requires.live.found).1 in
    let high = v.high x c.requires.live.found in
    omega (arith, high, count)
