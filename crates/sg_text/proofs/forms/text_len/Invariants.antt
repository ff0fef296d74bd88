use Rattle.std.proofs.Common.{◌≡◌, ◌+◌, ◌≤◌, false, drop, cond}
use Rattle.sg_text.specs.Tokens.{text_len}
use Rattle.sg_text.proofs.forms.text_len.Given as goal

abbrev pub invariant-loop-byte : goal.invariant-loop-byte
invariant-loop-byte l =
    (l.good + cond l.escaped 1 0 ≤ l.byte-index) × (text_len false l.rest ≡ l.good + text_len l.escaped (drop l.byte-index l.rest))
