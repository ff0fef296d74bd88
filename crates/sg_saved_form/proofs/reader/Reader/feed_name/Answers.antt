use Rattle.std.proofs.Common.{sym, subst, IfOk}
use Rattle.sg_saved_form.specs.Readers.{Fed}
use Rattle.sg_saved_form.proofs.Noting.{name-default}
use Rattle.sg_saved_form.proofs.reader.Reader.feed_name.Goals as goal

pub returns-in_default : goal.returns-in_default
returns-in_default c os bs is at =
    subst (λ o. IfOk c.feed_flag.result (λ more. Fed o more c.feed_flag.new.self))
    (sym (name-default os bs c.args.byte c.args.kind c.in_default.not-Letter c.in_default.not-Zero c.in_default.not-Digit c.in_default.not-LeftParenthesis)) (c.feed_flag.ensures os bs is)
