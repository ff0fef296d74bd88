use Rattle.std.proofs.Common.{ap, sym, ◌∙◌, subst, Err}
use Rattle.sg_saved_form.specs.Files.{IsNoFile}
use Rattle.sg_saved.proofs.reading.term_opened.Goals as goal

pub returns-in-Err-Form-clause-right : goal.returns-in-Err-Form-clause-right
returns-in-Err-Form-clause-right c = subst (IsNoFile c.args.bytes.now) (sym c.in-Err-Form.place-is) (c.outline_of.ensures.form c.in-Err-Form.place (c.in-Err-Form.is ∙ ap Err c.in-Err-Form.field-0-is))
