use Rattle.std.proofs.Common.{◌∙◌}
use Rattle.sg_sets.proofs.LengthenLemmas.{paths-of}
use Rattle.sg_sets.proofs.relation.Relation.close_in_few.Goals as goal

pub loop-grown-preserved : goal.loop-grown-preserved
loop-grown-preserved c = record {
  size = c.lengthen_few.ensures.size ∙ c.loop-grown.invariant.size;
  contains = λ a b h. c.lengthen_few.ensures.contains a b (c.loop-grown.invariant.contains a b h);
  least = paths-of c.args.self.now c.loop-grown.self c.lengthen_few.new.self c.loop-grown.invariant.least c.lengthen_few.ensures.least;
}

pub returns-clause-least : goal.returns-clause-least
returns-clause-least c = paths-of c.args.self.now c.loop-grown.self c.lengthen_few.new.self c.loop-grown.invariant.least c.lengthen_few.ensures.least

pub returns-then-not-grown-clause-least : goal.returns-then-not-grown-clause-least
returns-then-not-grown-clause-least c = paths-of c.args.self.now c.loop-grown.self c.lengthen_few.new.self c.loop-grown.invariant.least c.lengthen_few.ensures.least
