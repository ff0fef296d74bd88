use Rattle.std.proofs.Common.{◌∙◌, ap, ◌++◌, [], ◌∷◌, nat_eq, if◌then◌else◌}
use Rattle.sg_names.proofs.RowLaws.{pushed}
use Rattle.sg_names.proofs.groups.Groups.put.Goals as goal

pub returns : goal.returns
returns g c = λ k. pushed c.reach.new.self.rows.items c.args.owner c.index_mut.result.now c.push.new.self c.args.thing c.in_ok-reach.ensures.reached c.index_mut.ensures.value c.in_ok-push.ensures.items k
    ∙ ap (λ l. l ++ (if nat_eq c.args.owner k then c.args.thing ∷ [] else [])) (c.in_ok-reach.ensures.rows k)
