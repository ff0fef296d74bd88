use Rattle.std.proofs.Common.{◌≡◌, ◌≤◌, ◌+◌, drop}
use Rattle.sg_text.specs.Cut.{declaration_len}
use Rattle.sg_text.proofs.declarations.declaration_len.Given as goal

abbrev pub invariant-loop-place : goal.invariant-loop-place
invariant-loop-place l =
    (l.open ≤ l.place) × (declaration_len 0 l.tokens ≡ l.place + declaration_len l.open (drop l.place l.tokens))
