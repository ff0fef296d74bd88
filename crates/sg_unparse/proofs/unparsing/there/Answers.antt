use Rattle.sg_unparse.proofs.Placed.{place_within, there_kid}
use Rattle.sg_unparse.proofs.unparsing.there.Goals as goal

pub kid-requires-clause-place : goal.kid-requires-clause-place
kid-requires-clause-place c = place_within c.args.terms.now c.facts.ensures c.args.n c.args.at c.if-at-eq0.false c.requires.there

pub returns-else-at-eq0 : goal.returns-else-at-eq0
returns-else-at-eq0 c = there_kid c.args.terms.now c.facts.ensures c.args.n c.kid.result c.args.at c.if-at-eq0.false c.kid.ensures.child
