use Rattle.std.proofs.Common.{◌≡◌, ◌++◌, drop}
use Rattle.sg_views.specs.Schemes.{bytes_in}
use Rattle.sg_views.proofs.schemes.bytes_in.Given as goal

abbrev pub invariant-loop-string : goal.invariant-loop-string
invariant-loop-string l = l.bytes.items ++ bytes_in (drop l.string-index l.strings) ≡ bytes_in l.strings
