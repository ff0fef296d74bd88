use Rattle.std.proofs.Common.{refl, sym, ap, subst}
use Rattle.sg_kinds.specs.Places.{put}
use Rattle.sg_pool.proofs.Grown.{grown_itself}
use Rattle.sg_forest.proofs.Laws.{KeepsTreesWithout-part_set}
use Rattle.sg_groves.specs.Grove.{Grove}
use Rattle.sg_groves.specs.Holds.{Holds}
use Rattle.sg_terms.specs.Kept.{ChangesTerms}
use Rattle.sg_terms.specs.Labels.{with_elided}
use Rattle.sg_terms.proofs.Held.{part_after}
use Rattle.sg_terms.proofs.Moved.{Holds-stays}
use Rattle.sg_terms.proofs.Steps.{grove}
use Rattle.sg_terms.proofs.Written.{op_there, IsGrove-marked, numbers_marked, Holds-marked}
use Rattle.sg_terms.proofs.terms.Terms.set_elided.Goals as goal

pub invariant_of-self : goal.invariant_of-self
invariant_of-self c =
    let live = rw (← c.self.view_is) at c.requires.live in
    let node = rw (← c.self.view_is) at c.requires.node in
    let x = op_there (grove c.self.inside.spec c.self.inside.view c.self.inside.trees c.self.inside.pool) c.args.n live node in (
      IsGrove-marked c.self.inside.spec c.self.inside.view c.self.inside.trees c.put_elided.new.trees c.self.inside.pool c.self.invariant.0 c.args.n x.0 x.1 x.2 x.3 (record x.0.part { elided = c.args.on }) refl (c.put_elided.ensures.set x.0 x.1) (part_after c.self.inside.spec c.self.inside.view c.self.inside.trees c.self.inside.trees c.self.inside.pool c.self.inside.pool (grown_itself c.self.inside.pool) c.self.invariant.0 c.args.n x.0 x.2 x.1 x.3).scheme,
      c.self.invariant.1,
    )

pub returns-clause-set : goal.returns-clause-set
returns-clause-set c = rw (← c.self.view_is) c.put_elided.ensures.set

pub returns-clause-over : goal.returns-clause-over
returns-clause-over c =
    let live = rw (← c.self.view_is) at c.requires.live in
    let node = rw (← c.self.view_is) at c.requires.node in
    let x = op_there (grove c.self.inside.spec c.self.inside.view c.self.inside.trees c.self.inside.pool) c.args.n live node in
    subst (λ (g : Grove). ChangesTerms g (grove c.self.inside.spec c.self.inside.view c.put_elided.new.trees c.self.inside.pool) c.args.n (with_elided c.args.on)) c.self.view_is
    (λ u m t s climbs h at.
    let it = Holds-marked c.self.inside.spec c.self.inside.view c.self.inside.trees c.put_elided.new.trees c.self.inside.pool c.self.invariant.0 c.args.n x.0 x.1 x.2 x.3 (record x.0.part { elided = c.args.on }) refl (c.put_elided.ensures.set x.0 x.1) u m t s climbs h at in
    subst (λ z. Holds (grove c.self.inside.spec c.self.inside.view c.put_elided.new.trees c.self.inside.pool) m (put t u z)) (sym (ap (with_elided c.args.on) it.1)) it.2)

pub returns-clause-others : goal.returns-clause-others
returns-clause-others c =
    let live = rw (← c.self.view_is) at c.requires.live in
    let node = rw (← c.self.view_is) at c.requires.node in
    let x = op_there (grove c.self.inside.spec c.self.inside.view c.self.inside.trees c.self.inside.pool) c.args.n live node in
    rw (← c.self.view_is)
    (λ m t not h. Holds-stays c.self.inside.spec c.self.inside.view c.self.inside.trees c.put_elided.new.trees c.self.inside.pool c.self.inside.pool (grown_itself c.self.inside.pool) c.self.invariant.0 m t
    (λ tree s. KeepsTreesWithout-part_set _ _ c.self.invariant.0.forest.linked c.args.n (record x.0.part { elided = c.args.on }) (c.put_elided.ensures.set x.0 x.1) m tree not s) h)

pub returns-clause-numbers : goal.returns-clause-numbers
returns-clause-numbers c =
    let live = rw (← c.self.view_is) at c.requires.live in
    let node = rw (← c.self.view_is) at c.requires.node in
    let x = op_there (grove c.self.inside.spec c.self.inside.view c.self.inside.trees c.self.inside.pool) c.args.n live node in
    rw (← c.self.view_is) (numbers_marked c.self.inside.spec c.self.inside.view c.self.inside.trees c.put_elided.new.trees c.self.inside.pool c.self.invariant.0 c.args.n x.0 x.1 x.2 x.3 (record x.0.part { elided = c.args.on }) refl (c.put_elided.ensures.set x.0 x.1))

pub returns-clause-room : goal.returns-clause-room
returns-clause-room c = rw (← c.self.view_is) c.put_elided.ensures.room
