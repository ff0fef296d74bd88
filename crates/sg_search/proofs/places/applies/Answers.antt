use Rattle.std.proofs.Common.{sym, ap, ◌∙◌}
use Rattle.std.specs.Prelude.{is_some}
use Rattle.std.specs.List.{list_any}
use Rattle.sg_kinds.specs.ValueOf.{value_of}
use Rattle.sg_groves.proofs.Held.{held_fits}
use Rattle.sg_matching.specs.Transformation.{applies}
use Rattle.sg_search.proofs.Behind.{any_position}
use Rattle.sg_search.proofs.Given.{fits_phylum}
use Rattle.sg_search.proofs.places.applies.Goals as goal

pub returns : goal.returns
returns c = λ name t named holds.
    let g = c.args.terms.now in
    let live = c.requires.live in
    let p = live.node.label.phylum in
    let fits = held_fits g c.facts.ensures c.args.n live.node t live.found holds in
    c.is_some.ensures ∙ ap is_some (c.found_by.ensures.first name p t named holds fits) ∙ any_position (applies g.spec p name (value_of t)) g.spec.transforms 0
    ∙ ap (λ q. list_any (applies g.spec q name (value_of t)) g.spec.transforms) (sym (fits_phylum g.spec t p fits))
