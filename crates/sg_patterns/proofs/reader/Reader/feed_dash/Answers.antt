use Rattle.std.proofs.Common.{sym, ap, subst, ◌∙◌}
use Rattle.std.specs.Prelude.{IfOk}
use Rattle.sg_patterns.specs.Machine as machine
use Rattle.sg_patterns.specs.Readers.{Fed}
use Rattle.sg_patterns.proofs.Defaults.{dash-default}
use Rattle.sg_patterns.proofs.reader.Reader.feed_dash.Goals as goal

pub returns-in_default : goal.returns-in_default
returns-in_default c m outer f negated rs h =
    subst (λ o. IfOk c.feed_end.result (λ more. Fed o more c.feed_end.new.self)) (ap (machine.feed_end outer f negated rs c.args.low c.args.byte) c.is_plain_inside.ensures ∙ sym (dash-default outer f negated rs c.args.low c.args.byte c.args.kind c.in_default.not-Backslash)) (c.feed_end.ensures m outer f negated rs h)
