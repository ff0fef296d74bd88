use Rattle.std.proofs.Common.{◌≡◌, ◌+◌, [], ◌∷◌, ◌++◌, Some, sym, ap, ◌∙◌, subst, append_assoc}
use Rattle.std.proofs.lemmas.Option.{same_Some}
use Rattle.sg_kinds.specs.Expressions.{AndPattern}
use Rattle.sg_kinds.specs.Evaluation.{bound_by, bound_by_all}
use Rattle.sg_kinds.specs.PatternView.{pattern_of, patterns_of}
use Rattle.sg_matching.specs.Under.{value_under, values_under}
use Rattle.sg_groves.proofs.Held.{live_holds}
use Rattle.sg_matching.proofs.NodeValues.{value_told, tree_told}
use Rattle.sg_matching.proofs.Matched.{applied_bound, both_bind, on_ok}
use Rattle.sg_matching.proofs.bindings.+binding.Goals as goal

pub bind-returns-in_ok-push-in-Variable : goal.bind-returns-in_ok-push-in-Variable
bind-returns-in_ok-push-in-Variable t c =
    let g = c.args.terms.now in
    let v = value_under g c.args.n in
    let held = live_holds g c.facts.ensures c.args.n c.requires in
    let same : c.in_ok-value_out-in-Variable.field-0 ≡ v = c.in_ok-value_out-in-Variable.ensures held.0 held.1 ∙ sym (value_told g c.facts.ensures c.args.n held.0 held.1) in
    λ values e.
    let one : Some (v ∷ []) ≡ Some values = sym (ap (λ p. bound_by g.spec (pattern_of p) v) c.in-Variable.is) ∙ e in
    c.in_ok-push-in-Variable.ensures.items ∙ ap (λ w. c.args.bound.now.items ++ w ∷ []) same ∙ ap (λ l. c.args.bound.now.items ++ l) (same_Some (v ∷ []) values one)

pub bind-returns-in-Operator : goal.bind-returns-in-Operator
bind-returns-in-Operator t c =
    let g = c.args.terms.now in
    let v = value_under g c.args.n in
    λ values e.
    let b = applied_bound g.spec c.in-Operator.field-0 (patterns_of c.in-Operator.parts) v values (sym (ap (λ p. bound_by g.spec (pattern_of p) v) c.in-Operator.is) ∙ e) in
    let vs = tree_told g c.facts.ensures c.args.n c.in-Operator.field-0 b.0 c.requires b.1 in
    c.bind_all.ensures values (subst (λ ws. bound_by_all g.spec (patterns_of c.in-Operator.parts) ws ≡ Some values) vs b.2)

pub bind_all-returns-in_ok-bind-in-More : goal.bind_all-returns-in_ok-bind-in-More
bind_all-returns-in_ok-bind-in-More t c =
    let g = c.args.terms.now in
    let first = pattern_of c.in-More.first.value in
    let rest = patterns_of c.in-More.rest.value in
    let v = value_under g c.in-Some.kid in
    let vs = values_under g c.args.n (c.args.k + 1) in
    λ values e.
    let whole = sym (ap (λ p. bound_by_all g.spec (patterns_of p) (values_under g c.args.n c.args.k)) c.in-More.is ∙ ap (bound_by_all g.spec (AndPattern first rest)) c.in-Some.ensures.values) ∙ e in
    let b = both_bind (bound_by g.spec first v) (bound_by_all g.spec rest vs) values whole in
    let here = c.in_ok-bind-in-More.ensures b.first (ap (λ p. bound_by g.spec (pattern_of p) v) c.deref.ensures ∙ b.first_is) in
    let later = c.bind_all.ensures b.rest (ap (λ p. bound_by_all g.spec (patterns_of p) vs) c.deref-in-More.ensures ∙ b.rest_is) in
    on_ok c.bind_all.result _ _ (λ f. f ∙ ap (λ l. l ++ b.rest) here ∙ append_assoc c.args.bound.now.items b.first b.rest ∙ ap (λ l. c.args.bound.now.items ++ l) (sym b.whole)) later
