use Rattle.std.proofs.Common.{◌≤◌, length, arith, ◌∙◌}
use Rattle.sg_uses.proofs.SeenLaws.{seen_pop, front_kept}
use Rattle.sg_uses.proofs.scope.Scope.leave.Goals as goal

pub loop-self-preserved-in-Some : goal.loop-self-preserved-in-Some
loop-self-preserved-in-Some c =
    let few : c.args.count ≤ length c.pop.new.self.items = omega (arith, c.loop-self-test.true, c.len.ensures, c.in-Some.ensures.cases) in
    record {
      seen = seen_pop c.loop-self.self-inside.names.items c.pop.new.self.items c.in-Some.name c.loop-self.self-inside.seen c.remove.new.self c.as_slice.result.now c.loop-self.invariant.seen c.in-Some.ensures.items c.as_slice.ensures.value c.remove.ensures.updates;
      front = front_kept c.loop-self.self-inside.names.items c.pop.new.self.items c.in-Some.name c.args.count c.in-Some.ensures.items few ∙ c.loop-self.invariant.front;
    }
