use Rattle.std.proofs.Common.{◌≡◌, ◌+◌, false, drop}
use Rattle.sg_text.specs.Tokens.{string_len}
use Rattle.sg_text.proofs.forms.string_len.Given as goal

abbrev pub invariant-loop-place : goal.invariant-loop-place
invariant-loop-place l = string_len false l.rest ≡ l.place + string_len l.escaped (drop l.place l.rest)
