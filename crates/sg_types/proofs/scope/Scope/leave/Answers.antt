use Rattle.std.proofs.Common.{◌≡◌, ◌≤◌, length, take, Some, sym, ap, ◌∙◌, arith}
use Rattle.sg_types.specs.Scopes.{place_in, AreFirst}
use Rattle.sg_types.proofs.FirstPlaces.{left_first, left_again, front_kept, is_place, is_no_place}
use Rattle.sg_types.proofs.scope.Scope.leave.Goals as goal
use Rattle.sg_types.proofs.scope.Scope.leave.Goals.{then-eq, else-eq}

pub loop-self-preserved-in-Some : goal.loop-self-preserved-in-Some
loop-self-preserved-in-Some c =
    let few : c.args.count ≤ length c.pop.new.self.items = omega (arith, c.loop-self-test.true, c.len.ensures, c.in-Some.ensures.cases) in
    let front : take c.args.count c.pop.new.self.items ≡ take c.args.count c.args.self.now = front_kept c.loop-self.self-inside.variables.items c.pop.new.self.items c.in-Some.variable c.args.count c.in-Some.ensures.items few ∙ c.loop-self.invariant.front in
    let count : c.len-in-Some.result ≡ length c.pop.new.self.items = omega arith in
    let told : c.copied-first.result ≡ place_in c.loop-self.self-inside.places c.in-Some.variable.name = c.copied-first.ensures ∙ c.get.ensures.value ∙ ap (place_in c.loop-self.self-inside.places) c.as_slice.ensures in
    elim c.if-eq.branch [
      | then-eq w ↦
          let there = sym told ∙ is_place c.copied-first.result c.len-in-Some.result (sym c.eq.ensures ∙ w.if-eq.true) ∙ ap Some count in
          let first : AreFirst c.pop.new.self.items w.remove.new.self = left_first c.loop-self.self-inside.variables.items c.pop.new.self.items c.in-Some.variable w.as_slice-then-eq.result.now c.loop-self.self-inside.places w.remove.new.self c.loop-self.invariant.first c.in-Some.ensures.items w.as_slice-then-eq.ensures there w.remove.ensures.updates in
          rw w.self-inside-is (record { first = first; front = front })
      | else-eq w ↦
          let first : AreFirst c.pop.new.self.items c.loop-self.self-inside.places = left_again c.loop-self.self-inside.variables.items c.pop.new.self.items c.in-Some.variable c.loop-self.self-inside.places c.loop-self.invariant.first c.in-Some.ensures.items (λ there. is_no_place c.copied-first.result c.len-in-Some.result (sym c.eq.ensures ∙ w.if-eq.false) (told ∙ there ∙ ap Some (sym count))) in
          rw w.self-inside-is (record { first = first; front = front })
    ]
