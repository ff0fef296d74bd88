use Rattle.sg_console.proofs.LineLemmas.{passing-more, passed-end, passed-newline}
use Rattle.sg_console.proofs.lines.pass_over.Goals as goal

pub returns-in_default : goal.returns-in_default
returns-in_default g c =
    let both = passed-end (g.R.Read.remaining c.args.reader.now) (g.R.Read.remaining c.loop.reader) (g.R.Read.remaining c.next_byte.new.reader) c.loop.some c.in_ok-byte.field-0 c.loop.invariant c.in_ok-byte.ensures
    c.in_default.is in
    record { some = both.0; rest = both.1 }

pub returns-then-byte-eq10 : goal.returns-then-byte-eq10
returns-then-byte-eq10 g c =
    let both = passed-newline (g.R.Read.remaining c.args.reader.now) (g.R.Read.remaining c.loop.reader) (g.R.Read.remaining c.next_byte.new.reader) c.loop.some c.in_ok-byte.field-0 c.in-Some.byte c.loop.invariant
    c.in_ok-byte.ensures c.in-Some.is c.if-byte-eq10.true in
    record { some = both.0; rest = both.1 }

pub loop-preserved : goal.loop-preserved
loop-preserved g c =
    passing-more (g.R.Read.remaining c.args.reader.now) (g.R.Read.remaining c.loop.reader) (g.R.Read.remaining c.next_byte.new.reader) c.loop.some c.in_ok-byte.field-0 c.in-Some.byte c.loop.invariant
    c.in_ok-byte.ensures c.in-Some.is c.if-byte-eq10.false
