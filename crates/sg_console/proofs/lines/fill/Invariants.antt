use Rattle.std.proofs.Common.{◌≡◌, ◌≢◌, ◌≤◌, ◌-◌, All, vec_len, vec_capacity}
use Rattle.std.specs.Io.KnownBytes.{Consumes}
use Rattle.sg_console.proofs.lines.fill.Given as goal

-- the bytes so far came off the front of what the reader had left, and none is a newline
abbrev pub invariant-loop-reader : goal.invariant-loop-reader
invariant-loop-reader g l = record {
  within : vec_len l.line ≤ l.most;
  room : vec_capacity l.line ≡ vec_capacity l.initial.line;
  plain : All (λ b. b ≢ 10) l.line.items;
  consumed : Consumes (g.R.Read.remaining l.initial.reader) (g.R.Read.remaining l.reader) l.line.items;
}

abbrev pub decreases-loop-reader : goal.decreases-loop-reader
decreases-loop-reader g l = l.most - vec_len l.line
