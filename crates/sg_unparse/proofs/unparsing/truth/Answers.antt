use Rattle.std.proofs.Common.{sym, subst}
use Rattle.std.specs.Prelude.{Bool, if◌then◌else◌, codes}
use Rattle.sg_unparse.specs.Cells.{plain}
use Rattle.sg_unparse.specs.Written.{Wrote}
use Rattle.sg_unparse.proofs.Writing.{on_ok}
use Rattle.sg_unparse.proofs.unparsing.truth.Goals as goal

pub returns-then-b : goal.returns-then-b
returns-then-b c = on_ok c.plain.result _ _ (λ f at u is. subst (λ (t : Bool). Wrote at c.args.w.now c.plain.new.self (plain u (if t then codes "true" else codes "false"))) (sym c.if-b.true) (f at u is)) c.plain.ensures

pub returns-else-b : goal.returns-else-b
returns-else-b c = on_ok c.plain-else-b.result _ _ (λ f at u is. subst (λ (t : Bool). Wrote at c.args.w.now c.plain-else-b.new.self (plain u (if t then codes "true" else codes "false"))) (sym c.if-b.false) (f at u is)) c.plain-else-b.ensures
