use Rattle.sg_eval.proofs.MadeLater.{made_later}
use Rattle.std.proofs.Common.{refl, []}
use Rattle.sg_forest.proofs.Laws.{KeepsKids-same, KeepsTrees-kids}
use Rattle.sg_terms.proofs.Made.{leaf_kind, leaf_part, leaf_kept, IsGrove-leaf, held_leaf, was_free}
use Rattle.sg_terms.proofs.Moved.{Holds-stays}
use Rattle.sg_terms.proofs.Steps.{IsGrove-same}
use Rattle.sg_terms.proofs.terms.Terms.leaf.Goals as goal

pub put-requires : goal.put-requires
put-requires c = let fits = rw (← c.self.view_is) at c.requires in leaf_kept c.self.inside.spec c.args.p c.args.v.now fits

pub grow_leaf-requires : goal.grow_leaf-requires
grow_leaf-requires c = c.self.invariant.0.forest

pub invariant_of-self : goal.invariant_of-self
invariant_of-self c = (
  IsGrove-same c.self.inside.spec c.self.inside.view c.self.inside.trees c.self.inside.trees c.self.inside.pool c.put.new.self c.put.ensures.grown c.self.invariant.0 refl,
  made_later c.self.inside.spec c.self.inside.made c.self.inside.pool c.put.new.self c.self.invariant.1 c.put.ensures.grown,
)

pub invariant_of-self-2 : goal.invariant_of-self-2
invariant_of-self-2 c =
    let fits = rw (← c.self.view_is) at c.requires in (
      IsGrove-leaf c.self.inside.spec c.self.inside.view c.self.inside.trees c.grow_leaf.new.trees c.self.inside.pool c.put.new.self c.put.ensures.grown c.self.invariant.0 c.grow_leaf.ensures.kids c.grow_leaf.ensures.forest
          c.args.p c.in_ok-id.id c.args.v.now c.grow_leaf.result fits c.in_ok-id.ensures.stands c.grow_leaf.ensures.grown c.grow_leaf.ensures.err,
      made_later c.self.inside.spec c.self.inside.made c.self.inside.pool c.put.new.self c.self.invariant.1 c.put.ensures.grown,
    )

pub returns-clause-held : goal.returns-clause-held
returns-clause-held c =
    held_leaf c.self.inside.spec c.self.inside.view c.self.inside.trees c.grow_leaf.new.trees c.self.inside.pool c.put.new.self c.put.ensures.grown c.self.invariant.0 c.grow_leaf.ensures.kids c.grow_leaf.ensures.forest
    c.args.p c.in_ok-id.id c.args.v.now c.grow_leaf.result c.in_ok-id.ensures.stands c.grow_leaf.ensures.tree

pub returns-clause-fresh : goal.returns-clause-fresh
returns-clause-fresh c =
    rw (← c.self.view_is)
    (was_free c.self.inside.spec c.self.inside.view c.self.inside.trees c.grow_leaf.new.trees c.self.inside.pool c.put.new.self c.put.ensures.grown c.self.invariant.0 c.grow_leaf.ensures.kids c.grow_leaf.ensures.forest
    (leaf_kind c.args.p) (leaf_part c.in_ok-id.id) [] c.grow_leaf.result c.grow_leaf.ensures.grown)

pub returns-clause-roots : goal.returns-clause-roots
returns-clause-roots c = rw (← c.self.view_is) c.grow_leaf.ensures.roots

pub returns-clause-kept : goal.returns-clause-kept
returns-clause-kept c = rw (← c.self.view_is) (record { spec = refl; view = refl; pool = c.put.ensures.grown; kids = c.grow_leaf.ensures.kids; ways = c.grow_leaf.ensures.ways })

pub returns-clause-terms : goal.returns-clause-terms
returns-clause-terms c =
    rw (← c.self.view_is)
    (λ m t h. Holds-stays c.self.inside.spec c.self.inside.view c.self.inside.trees c.grow_leaf.new.trees c.self.inside.pool c.put.new.self c.put.ensures.grown c.self.invariant.0 m t (KeepsTrees-kids _ _ c.grow_leaf.ensures.kids m) h)

pub returns-in_err-id-clause-kept : goal.returns-in_err-id-clause-kept
returns-in_err-id-clause-kept c = rw (← c.self.view_is) (record { spec = refl; view = refl; pool = c.put.ensures.grown; kids = KeepsKids-same _; ways = λ path n m way. way })

pub returns-in_err-id-clause-terms : goal.returns-in_err-id-clause-terms
returns-in_err-id-clause-terms c =
    rw (← c.self.view_is) (λ m t h. Holds-stays c.self.inside.spec c.self.inside.view c.self.inside.trees c.self.inside.trees c.self.inside.pool c.put.new.self c.put.ensures.grown c.self.invariant.0 m t (λ tree s. s) h)
