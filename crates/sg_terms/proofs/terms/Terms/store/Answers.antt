use Rattle.std.proofs.Common.{ap, ◌∙◌}
use Rattle.std.specs.List.{slice_get}
use Rattle.std.specs.Prelude.{option_and_then}
use Rattle.sg_forest.specs.Node.{Node}
use Rattle.sg_groves.specs.declared.kind.Kind.{Kind}
use Rattle.sg_groves.specs.declared.part.Part.{Part}
use Rattle.sg_terms.proofs.Steps.{grove}
use Rattle.sg_terms.proofs.Written.{op_node, slot_within, IsGrove-stored, stored_there, OnlyStored-slot}
use Rattle.sg_terms.proofs.terms.Terms.store.Goals as goal

pub put_value-requires-clause-live : goal.put_value-requires-clause-live
put_value-requires-clause-live c =
    let s = rw (← c.self.view_is) at c.requires in
    let x = op_node (grove c.self.inside.spec c.self.inside.view c.self.inside.trees c.self.inside.pool) c.args.n s.op s.is in
    record { node = x.0; found = x.1 }

pub put_value-requires-clause-slot : goal.put_value-requires-clause-slot
put_value-requires-clause-slot c =
    let s = rw (← c.self.view_is) at c.requires in
    λ x found. slot_within (grove c.self.inside.spec c.self.inside.view c.self.inside.trees c.self.inside.pool) c.self.invariant.0 c.args.n c.args.slot c.args.v s x found

pub invariant_of-self : goal.invariant_of-self
invariant_of-self c =
    let s = rw (← c.self.view_is) at c.requires in
    let x = op_node (grove c.self.inside.spec c.self.inside.view c.self.inside.trees c.self.inside.pool) c.args.n s.op s.is in (
      IsGrove-stored c.self.inside.spec c.self.inside.view c.self.inside.trees c.put_value.new.trees c.self.inside.pool c.self.invariant.0 c.args.n x.0 x.1 c.args.slot c.args.v s (c.put_value.ensures.set x.0 x.1),
      c.self.invariant.1,
    )

pub returns-clause-before : goal.returns-clause-before
returns-clause-before c =
    let s = rw (← c.self.view_is) at c.requires in
    let x = op_node (grove c.self.inside.spec c.self.inside.view c.self.inside.trees c.self.inside.pool) c.args.n s.op s.is in
    rw (← c.self.view_is) (ap (option_and_then (λ (y : Node Kind Part). slice_get y.part.values c.args.slot)) x.1 ∙ c.put_value.ensures.before x.0 x.1)

pub returns-clause-stored : goal.returns-clause-stored
returns-clause-stored c =
    let s = rw (← c.self.view_is) at c.requires in
    let x = op_node (grove c.self.inside.spec c.self.inside.view c.self.inside.trees c.self.inside.pool) c.args.n s.op s.is in
    stored_there c.self.inside.spec c.self.inside.view c.self.inside.trees c.put_value.new.trees c.self.inside.pool c.self.invariant.0 c.args.n x.0 x.1 c.args.slot c.args.v s (c.put_value.ensures.set x.0 x.1)

pub returns-clause-kept : goal.returns-clause-kept
returns-clause-kept c =
    let s = rw (← c.self.view_is) at c.requires in
    let x = op_node (grove c.self.inside.spec c.self.inside.view c.self.inside.trees c.self.inside.pool) c.args.n s.op s.is in
    rw (← c.self.view_is)
    (OnlyStored-slot c.self.inside.spec c.self.inside.view c.self.inside.trees c.put_value.new.trees c.self.inside.pool c.self.invariant.0 c.args.n x.0 x.1 c.args.slot c.args.v s (c.put_value.ensures.set x.0 x.1) c.put_value.ensures.room)
