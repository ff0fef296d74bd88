use Rattle.std.proofs.Common.{ap, subst}
use Rattle.std.specs.Prelude.{IfOk}
use Rattle.sg_patterns.specs.Machine as machine
use Rattle.sg_patterns.specs.Readers.{Fed}
use Rattle.sg_patterns.proofs.reader.Reader.feed_inside.Goals as goal

pub returns-in-Low : goal.returns-in-Low
returns-in-Low c m outer f negated rs h = rw c.in-Low.is (c.feed_low.ensures m outer f negated rs h)

pub returns-in-Done : goal.returns-in-Done
returns-in-Done c m outer f negated rs h = rw c.in-Done.is (c.feed_next.ensures m outer f negated rs h)

pub returns-in-Dash : goal.returns-in-Dash
returns-in-Dash c m outer f negated rs h = rw c.in-Dash.is (c.feed_dash.ensures m outer f negated rs h)

pub returns-in-EndEscape : goal.returns-in-EndEscape
returns-in-EndEscape c m outer f negated rs h =
    rw c.in-EndEscape.is (subst (λ o. IfOk c.feed_end.result (λ more. Fed o more c.feed_end.new.self)) (ap (machine.feed_end outer f negated rs c.in-EndEscape.low c.args.byte) c.is_special.ensures) (c.feed_end.ensures m outer f negated rs h))
