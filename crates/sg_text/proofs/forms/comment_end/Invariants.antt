use Rattle.std.proofs.Common.{◌≡◌, drop}
use Rattle.sg_text.specs.Tokens.{comment_end}
use Rattle.sg_text.proofs.Scans.{shifted}
use Rattle.sg_text.proofs.forms.comment_end.Given as goal

abbrev pub invariant-loop-place : goal.invariant-loop-place
invariant-loop-place l = comment_end l.rest ≡ shifted l.place (comment_end (drop l.place l.rest))
