use Rattle.std.proofs.Common.{◌++◌, map, [], ◌∷◌, ap, ◌∙◌}
use Rattle.sg_ast.specs.declared.name.Quoted.{Quoted}
use Rattle.sg_record.proofs.levels.add_levels.Goals as goal

pub returns-in_ok-push : goal.returns-in_ok-push
returns-in_ok-push c =
    rw c.in-Levels.is
    (c.in_ok-push.ensures.items
    ∙ ap (λ ts. c.args.levels.now.items ++ record { group = c.in-Levels.group; literals = ts } ∷ []) (c.in_ok-literals.ensures ∙ ap (map (λ (s : Quoted). s.text)) c.as_slice.ensures))
