use Rattle.std.proofs.Common.{◌∙◌}
use Rattle.std.specs.Prelude.{is_some}
use Rattle.sg_select.proofs.Schemed.{turned}
use Rattle.sg_groves.specs.Grove.{spec_shown}
use Rattle.sg_edits.proofs.Editable.{editable_is, editable_none}
use Rattle.sg_edits.proofs.here.is_editable.Goals as goal

pub returns-in-Some : goal.returns-in-Some
returns-in-Some c = λ t h. editable_is (spec_shown c.args.terms.now) t c.in-Some.scheme.now (c.in-Some.ensures t h)

pub returns-in-None : goal.returns-in-None
returns-in-None c = λ t h. turned (is_some c.op.result) c.is_none.result c.is_none.ensures ∙ editable_none (spec_shown c.args.terms.now) t c.op.result (c.in-None.ensures t h) (c.op.ensures.term t h)
