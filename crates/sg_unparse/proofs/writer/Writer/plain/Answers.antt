use Rattle.std.proofs.Common.{sym, ◌∙◌}
use Rattle.sg_unparse.proofs.Writing.{on_ok, plain_flat}
use Rattle.sg_unparse.proofs.writer.Writer.plain.Goals as goal

pub returns-then-not-contains : goal.returns-then-not-contains
returns-then-not-contains c = on_ok c.bytes.result _ _ (λ f at u is. plain_flat at c.args.self.now c.bytes.new.self u c.args.text.now (sym c.contains.ensures.value ∙ c.if-not-contains.true) (f at u is)) c.bytes.ensures
