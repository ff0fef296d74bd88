use Rattle.std.proofs.Common.{◌≡◌, ◌+◌, true, sym, ap, ◌∙◌}
use Rattle.std.specs.Prelude.{◌&&◌, is_some}
use Rattle.sg_kinds.specs.Expressions.{AndPattern}
use Rattle.sg_kinds.specs.Evaluation.{bound_by, bound_by_all}
use Rattle.sg_kinds.specs.PatternView.{pattern_of, patterns_of}
use Rattle.sg_matching.specs.Under.{value_under, values_under}
use Rattle.sg_matching.proofs.Matched.{both_match}
use Rattle.sg_matching.proofs.patterns.+matching.Goals as goal

pub all_match-returns-then-is_match : goal.all_match-returns-then-is_match
all_match-returns-then-is_match t c =
    let g = c.args.terms.now in
    let first = pattern_of c.in-More.first.value in
    let rest = patterns_of c.in-More.rest.value in
    let v = value_under g c.in-Some.kid in
    let vs = values_under g c.args.n (c.args.k + 1) in
    let matched : is_some (bound_by g.spec first v) ≡ true = sym (c.if-is_match.ensures ∙ ap (λ p. is_some (bound_by g.spec (pattern_of p) v)) c.deref.ensures) in
    c.all_match.ensures ∙ ap (λ p. is_some (bound_by_all g.spec (patterns_of p) vs)) c.deref-then-is_match.ensures
    ∙ sym (ap (λ p. is_some (bound_by_all g.spec (patterns_of p) (values_under g c.args.n c.args.k))) c.in-More.is
    ∙ ap (λ ws. is_some (bound_by_all g.spec (AndPattern first rest) ws)) c.in-Some.ensures.values
    ∙ both_match (bound_by g.spec first v) (bound_by_all g.spec rest vs)
    ∙ ap (λ b. b && is_some (bound_by_all g.spec rest vs)) matched)
