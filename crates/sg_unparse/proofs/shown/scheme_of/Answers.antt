use Rattle.std.proofs.Common.{ap, ◌∙◌, subst}
use Rattle.std.specs.Prelude.{◌≡◌, ◌%◌, length, slice_get, Option, Some, None, MatchOption}
use Rattle.sg_kinds.specs.InView.{in_view}
use Rattle.sg_kinds.specs.declared.spec.Scheme.{Scheme}
use Rattle.sg_unparse.proofs.Viewed.{scheme_at}
use Rattle.sg_unparse.proofs.shown.scheme_of.Goals as goal

pub returns : goal.returns
returns c =
    let found = ap (λ ss. slice_get ss (c.args.number % length ss)) c.schemes_in.ensures ∙ scheme_at (in_view c.args.spec.now c.args.view) c.args.op c.args.number in
    subst (λ (o : Option Scheme). MatchOption c.scheme_in.result (o ≡ None) (λ s. o ≡ Some s.now)) found c.scheme_in.ensures
