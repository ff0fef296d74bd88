use Rattle.std.proofs.Common.{◌≡◌, ◌<◌, length, ap, arith, refl, sym, subst, ◌∙◌}
use Rattle.std.specs.Vec.{with_items}
use Rattle.std.proofs.lemmas.List.{with_items_is}
use Rattle.sg_patterns.specs.Flags.{flag_at}
use Rattle.sg_patterns.proofs.Failing.{kept-spent, kept-more}
use Rattle.sg_patterns.proofs.failures.Failures.meets.Goals as goal

pub returns-then-agree-clause-met : goal.returns-then-agree-clause-met
returns-then-agree-clause-met c p q h text sized known =
    kept-spent text p q h _ c.args.place c.index_mut-checkpoint.result.now c.args.flags.now c.args.self.now c.index_mut-checkpoint.ensures.value (omega arith) c.if-self-place.true c.if-checkpoint-place.true (λ k less. ap (λ fs. flag_at fs k) (sym c.deref.ensures.value) ∙ c.if-agree.ensures k (subst (λ fs. k < length fs) (sym c.deref.ensures.value) less)) sized known

pub returns-clause-kept : goal.returns-clause-kept
returns-clause-kept c p q h text sized known =
    let old = c.index_mut-checkpoint.result.now in
    let items : (with_items old.flags c.copy.new.flags).items ≡ c.copy.new.flags = with_items_is old.flags c.copy.new.flags (omega (arith, c.copy.auto.flags, c.deref_mut.ensures.len)) in
    kept-more text p q h _ c.args.place old (record { place = c.args.place; flags = with_items old.flags c.copy.new.flags }) c.args.flags.now c.args.self.now c.index_mut-checkpoint.ensures.value (omega arith) refl
    (λ k less. ap (λ fs. flag_at fs k) items ∙ c.copy.ensures k (subst (λ fs. k < length fs) (sym c.deref_mut.ensures.value) less)) sized known
