use Rattle.std.proofs.Common.{ap, ◌∙◌, false, [], ◌∷◌, ◌++◌}
use Rattle.sg_kinds.specs.Terms.{Node, kids_of}
use Rattle.sg_edits.proofs.lists.pair.Goals as goal

pub returns : goal.returns
returns c =
    let items = c.in_ok-push-2.ensures.items ∙ ap (λ l. l ++ c.args.rest ∷ []) (c.in_ok-push.ensures.items ∙ ap (λ l. l ++ c.args.first ∷ []) c.in_ok-kids.ensures.items) in
    c.plain.ensures ∙ ap (λ l. Node c.args.op 0 false (kids_of l)) items
