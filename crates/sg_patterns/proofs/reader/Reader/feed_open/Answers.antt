use Rattle.std.proofs.Common.{sym, subst}
use Rattle.sg_patterns.specs.Readers.{Fed}
use Rattle.sg_patterns.proofs.Defaults.{open-default}
use Rattle.sg_patterns.proofs.reader.Reader.feed_open.Goals as goal

pub returns-in_default : goal.returns-in_default
returns-in_default c m outer f negated rs h =
    subst (λ o. Fed o c.feed_start.result c.feed_start.new.self) (sym (open-default outer f negated rs c.args.byte c.args.kind c.in_default.not-Caret)) (c.feed_start.ensures m outer f negated rs h)
