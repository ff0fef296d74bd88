use Rattle.sg_reasons.proofs.Causes.{numbers_of, named_by}
use Rattle.sg_reasons.proofs.scene.is_rule.Goals as goal

pub joins-requires-clause-target : goal.joins-requires-clause-target
joins-requires-clause-target c = (numbers_of c.args.scene.now.rules.now c.args.edge.op c.args.place c.args.rule.now c.in-Some.frame.now c.requires.scene.range c.requires.rule c.in-Some.ensures c.requires.of).target

pub joins-requires-clause-args : goal.joins-requires-clause-args
joins-requires-clause-args c = (numbers_of c.args.scene.now.rules.now c.args.edge.op c.args.place c.args.rule.now c.in-Some.frame.now c.requires.scene.range c.requires.rule c.in-Some.ensures c.requires.of).args

pub returns-in-Some : goal.returns-in-Some
returns-in-Some c = λ yes. named_by c.args.scene.now.rules.now c.args.edge.op c.args.edge.from c.args.edge.to c.args.place c.args.rule.now c.in-Some.frame.now c.requires.scene.range c.requires.rule c.in-Some.ensures c.requires.of (c.joins.ensures yes)
