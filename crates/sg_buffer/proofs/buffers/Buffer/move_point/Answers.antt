use Rattle.std.proofs.Common.{◌≡◌, subst, sym}
use Rattle.sg_buffer.specs.declared.buffers.Buffer.TheInside.{Inside}
use Rattle.sg_buffer.proofs.Methods.{moved_point, none_open}
use Rattle.sg_buffer.proofs.buffers.Buffer.move_point.Goals as goal
use Rattle.sg_buffer.proofs.buffers.Buffer.move_point.Goals.{in-Some, in_default}

pub invariant_of-self : goal.invariant_of-self
invariant_of-self c = elim c.match-self.branch [
  | in-Some w ↦ (
    (moved_point c.self.inside c.args.self.now c.self.view_is c.self.invariant.0 c.args.k _ _ w.in-Some.is w.move_point.ensures c.match-self.self-inside w.self-inside-is).0,
    subst (λ (i : Inside). i.attribution.value.spec ≡ i.terms.spec) (sym w.self-inside-is) c.self.invariant.1,
  )
  | in_default w ↦ absurd (none_open c.self.inside c.args.self.now c.self.view_is c.args.k c.requires w.in_default.is)
]

pub returns-clause-state : goal.returns-clause-state
returns-clause-state c = elim c.match-self.branch [
  | in-Some w ↦ (moved_point c.self.inside c.args.self.now c.self.view_is c.self.invariant.0 c.args.k _ _ w.in-Some.is w.move_point.ensures c.match-self.self-inside w.self-inside-is).1
  | in_default w ↦ absurd (none_open c.self.inside c.args.self.now c.self.view_is c.args.k c.requires w.in_default.is)
]
