use Rattle.std.proofs.Common.{◌≡◌, ◌++◌, drop}
use Rattle.sg_text.specs.Strings.{unescaped, unescaped_after}
use Rattle.sg_text.proofs.strings.unescape.Given as goal

abbrev pub invariant-loop-byte : goal.invariant-loop-byte
invariant-loop-byte l = unescaped l.inner ≡ l.bytes.items ++ unescaped_after l.escaped (drop l.byte-index l.inner)
