use Rattle.std.proofs.Common.{sym, ◌∙◌}
use Rattle.sg_uses.proofs.SeenLaws.{seen_push}
use Rattle.sg_uses.proofs.scope.Scope.bind.Goals as goal

pub invariant_of-self-in-Ok : goal.invariant_of-self-in-Ok
invariant_of-self-in-Ok c = seen_push c.self.inside.names.items c.push.new.self.items c.in_ok-from_slice.field-0 c.in_ok-key.key c.self.inside.seen c.insert.new.self c.args.name.now c.self.invariant c.in_ok-from_slice.ensures.items c.in_ok-key.ensures.items c.in_ok-push.ensures.items (sym c.if-contains.false ∙ c.contains.ensures) c.in-Ok.ensures.updates
