use Rattle.std.proofs.Common.{◌≡◌, drop, is_some}
use Rattle.sg_kinds.specs.Pieces.{pieces_of}
use Rattle.sg_schemes.proofs.Escaped.{escaped}
use Rattle.sg_schemes.proofs.strings.is_escaped.Given as goal

abbrev pub invariant-loop-byte : goal.invariant-loop-byte
invariant-loop-byte l = escaped l.percent (drop l.byte-index l.text) ≡ is_some (pieces_of l.text)
