use Rattle.std.proofs.Common.{◌≤◌, ◌-◌, vec_len}
use Rattle.std.specs.Io.KnownBytes.{Consumes}
use Rattle.sg_outside.proofs.file_shelf.read_front.Given as goal

-- the bytes so far came off the front of what the reader had left
abbrev pub invariant-loop-chunk : goal.invariant-loop-chunk
invariant-loop-chunk g l = record {
  within : vec_len l.bytes ≤ l.most;
  consumed : Consumes (g.R.Read.remaining l.initial.reader) (g.R.Read.remaining l.reader) l.bytes.items;
}

abbrev pub decreases-loop-chunk : goal.decreases-loop-chunk
decreases-loop-chunk g l = l.most - vec_len l.bytes
