use Rattle.std.proofs.Common.{sym, ◌∙◌}
use Rattle.std.proofs.lemmas.Option.{slice_get_within}
use Rattle.sg_eval.proofs.patterns.is_made.Goals as goal

pub has_number-requires-clause-number : goal.has_number-requires-clause-number
has_number-requires-clause-number c = slice_get_within _ _ _ (c.requires.made.stands c.args.kind c.args.p c.in-Some.id (sym c.number.ensures ∙ c.in-Some.is))
