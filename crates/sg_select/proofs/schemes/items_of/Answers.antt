use Rattle.std.proofs.Common.{ap, ◌∙◌}
use Rattle.std.specs.Prelude.{slice_get, unwrap_or}
use Rattle.sg_kinds.specs.declared.marks.ChildPlace.TheVariants.{Hidden}
use Rattle.sg_groves.specs.Grove.{spec_shown}
use Rattle.sg_unparse.specs.Unparsed.{child_places}
use Rattle.sg_select.proofs.Schemed.{place_is, place_none}
use Rattle.sg_select.proofs.schemes.items_of.Goals as goal

pub returns-in-Some : goal.returns-in-Some
returns-in-Some c = λ t h k. ap (λ l. unwrap_or (slice_get (child_places l) k) Hidden) c.as_slice.ensures ∙ place_is (spec_shown c.args.terms.now) t k c.in-Some.scheme.now (c.in-Some.ensures t h)

pub returns-in-None : goal.returns-in-None
returns-in-None c = λ t h k. place_none (spec_shown c.args.terms.now) t k (c.in-None.ensures t h)
