use Rattle.std.specs.Prelude.{[], ◌∷◌, ◌++◌, slice_set}
use Rattle.std.proofs.Common.{ap, ◌∙◌}
use Rattle.std.proofs.lemmas.List.{set-set, get_or_default}
use Rattle.sg_orders.proofs.grown.push_at.Goals as goal

pub returns : goal.returns
returns g c =
    let rows = c.args.rows.now in
    let place = c.args.place in
    let row = c.into_vec-row.ensures ∙ c.replace.ensures.value ∙ get_or_default rows place c.index-rows-place.result [] c.requires in
    set-set rows place c.replace.new.dest c.new-3.result
    ∙ ap (slice_set rows place) (c.new-3.ensures ∙ c.in_ok-push.ensures.items ∙ ap (λ xs. xs ++ c.args.element ∷ []) row)
