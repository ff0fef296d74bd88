-- The expressions of transformations and of input productions.
use Rattle.std.specs.Prelude.{◌≡◌, refl, ℕ, Some, slice_get}
use Rattle.std.proofs.Common.{inl, inr}
use Rattle.std.proofs.lemmas.Option.{slice_get_within, get_or_from_slice_get}
use Rattle.sg_kinds.specs.declared.spec.Spec.{Spec}
use Rattle.sg_kinds.specs.declared.spec.Transform.{Transform}
use Rattle.sg_kinds.specs.declared.spec.Production.{Production}
use Rattle.sg_eval.specs.Applied.{IsApplied}

pub transform_applied : (spec : Spec) (n : ℕ) (x : Transform) → slice_get spec.transforms n ≡ Some x → IsApplied spec x.expr
transform_applied spec n x h = inl (n, x, slice_get_within spec.transforms n x h, get_or_from_slice_get spec.transforms n x x h, refl)

pub production_applied : (spec : Spec) (n : ℕ) (r : Production) → slice_get spec.productions n ≡ Some r → IsApplied spec r.expr
production_applied spec n r h = inr (n, r, slice_get_within spec.productions n r h, get_or_from_slice_get spec.productions n r r h, refl)
