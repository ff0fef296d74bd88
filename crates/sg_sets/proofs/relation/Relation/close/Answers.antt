use Rattle.std.proofs.Common.{◌∙◌}
use Rattle.sg_sets.proofs.LengthenLemmas.{paths-of}
use Rattle.sg_sets.proofs.relation.Relation.close.Goals as goal

pub loop-preserved : goal.loop-preserved
loop-preserved c = record {
  size = c.lengthen.ensures.size ∙ c.loop.invariant.size;
  contains = λ a b h. c.lengthen.ensures.contains a b (c.loop.invariant.contains a b h);
  least = paths-of c.args.self.now c.loop.self c.lengthen.new.self c.loop.invariant.least c.lengthen.ensures.least;
}

pub returns-clause-least : goal.returns-clause-least
returns-clause-least c = paths-of c.args.self.now c.loop.self c.lengthen.new.self c.loop.invariant.least c.lengthen.ensures.least

pub loop-init : goal.loop-init
loop-init c = record {
  size = c.close_in_order.ensures.size ∙ c.close_in_few.ensures.size;
  contains = λ a b h. c.close_in_order.ensures.contains a b (c.close_in_few.ensures.contains a b h);
  least = paths-of c.args.self.now c.close_in_few.new.self c.close_in_order.new.self c.close_in_few.ensures.least c.close_in_order.ensures.least;
}

pub returns-then-is_ok-clause-least : goal.returns-then-is_ok-clause-least
returns-then-is_ok-clause-least c = paths-of c.args.self.now c.close_in_few.new.self c.close_in_order.new.self c.close_in_few.ensures.least c.close_in_order.ensures.least
