use Rattle.sg_typing.proofs.BodyUntyped.{pattern_untyped}
use Rattle.sg_typing.proofs.laws.mismatched_patterns_are_untyped.Goals as goal

pub returns : goal.returns
returns c = pattern_untyped
