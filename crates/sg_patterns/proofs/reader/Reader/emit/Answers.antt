use Rattle.sg_patterns.proofs.Emitting.{made-more}
use Rattle.sg_patterns.proofs.reader.Reader.emit.Goals as goal

pub returns-clause-made : goal.returns-clause-made
returns-clause-made c = made-more c.args.self.now.steps.items c.push.new.self.items c.args.step c.in_ok-push.ensures.items
