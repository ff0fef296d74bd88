use Rattle.std.proofs.Common.{◌≡◌, true, false, sym, ap, ◌∙◌, arith}
use Rattle.std.specs.Prelude.{is_some}
use Rattle.sg_types.specs.Scopes.{place_in}
use Rattle.sg_types.proofs.FirstPlaces.{bound_again, bound_first}
use Rattle.sg_types.proofs.scope.Scope.bind.Goals as goal

pub invariant_of-self-then-contains_key : goal.invariant_of-self-then-contains_key
invariant_of-self-then-contains_key c =
    let there : is_some (place_in c.self.inside.places c.args.variable.name) ≡ true = ap (λ n. is_some (place_in c.self.inside.places n)) (sym c.as_slice.ensures) ∙ sym c.contains_key.ensures ∙ c.if-contains_key.true in
    bound_again c.self.inside.variables.items c.push.new.self.items c.args.variable c.self.inside.places c.self.invariant c.in_ok-push.ensures.items there

pub invariant_of-self-in-Ok : goal.invariant_of-self-in-Ok
invariant_of-self-in-Ok c =
    let fresh : is_some (place_in c.self.inside.places c.args.variable.name) ≡ false = ap (λ n. is_some (place_in c.self.inside.places n)) (sym c.as_slice.ensures) ∙ sym c.contains_key.ensures ∙ c.if-contains_key.false in
    bound_first c.self.inside.variables.items c.push-2.new.self.items c.args.variable c.in_ok-key.key c.len-place.result c.self.inside.places c.insert.new.self c.self.invariant c.in_ok-push-2.ensures.items (c.in_ok-key.ensures.items ∙ c.as_slice-2.ensures) (omega arith) fresh c.in-Ok.ensures.updates
