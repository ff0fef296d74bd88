use Rattle.std.proofs.Common.{arith}
use Rattle.sg_console.proofs.LineLemmas.{filled-newline, filled-end}
use Rattle.sg_console.proofs.lines.fill.Goals as goal

pub returns-in_default-clause-filled : goal.returns-in_default-clause-filled
returns-in_default-clause-filled g c =
    filled-end c.args.most (g.R.Read.remaining c.args.reader.now) (g.R.Read.remaining c.loop-reader.reader) (g.R.Read.remaining c.next_byte.new.reader) c.loop-reader.line.items
    c.in_ok-byte.field-0 (omega (arith, c.loop-reader.invariant.within, c.loop-reader.line.ok.0)) c.loop-reader.invariant.plain c.loop-reader.invariant.consumed c.in_ok-byte.ensures c.in_default.is

pub returns-then-byte-eq10-clause-filled : goal.returns-then-byte-eq10-clause-filled
returns-then-byte-eq10-clause-filled g c =
    filled-newline c.args.most (g.R.Read.remaining c.args.reader.now) (g.R.Read.remaining c.loop-reader.reader) (g.R.Read.remaining c.next_byte.new.reader) c.loop-reader.line.items
    c.push_reserved.new.self.items c.in_ok-byte.field-0 c.in-Some.byte (omega (arith, c.loop-reader-test.true, c.len.ensures, c.loop-reader.line.ok.0)) c.loop-reader.invariant.plain c.loop-reader.invariant.consumed
    c.in_ok-byte.ensures c.in-Some.is c.if-byte-eq10.true c.push_reserved.ensures.items
