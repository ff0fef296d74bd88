use Rattle.std.proofs.Common.{◌∙◌}
use Rattle.std.specs.Prelude.{bytes_eq}
use Rattle.sg_grammar.proofs.Places.{place-some, place-none}
use Rattle.sg_grammar.proofs.numbering.place_of.Goals as goal

pub returns-in-Some-clause-place : goal.returns-in-Some-clause-place
returns-in-Some-clause-place c = place-some (λ v. v.items) (bytes_eq c.args.text.now) c.args.literals.now.keys c.in-Some.place c.in-Some.ensures.index

pub returns-in-None-clause-place : goal.returns-in-None-clause-place
returns-in-None-clause-place c = c.len.ensures.len ∙ place-none (λ v. v.items) (bytes_eq c.args.text.now) c.args.literals.now.keys c.in-None.ensures.index
