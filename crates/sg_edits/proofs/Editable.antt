-- Whether a node may be typed in, by its current scheme.
use Rattle.std.specs.Prelude.{◌≡◌, ℕ, not, false, Option, Some, None, option_map, unwrap_or, is_some}
use Rattle.std.proofs.Common.{sym, ap, ◌∙◌}
use Rattle.std.proofs.lemmas.Option.{none-some}
use Rattle.sg_kinds.specs.Terms.{Term, Leaf, Node}
use Rattle.sg_kinds.specs.declared.spec.Scheme.{Scheme}
use Rattle.sg_kinds.specs.declared.spec.Spec.{Spec}
use Rattle.sg_terms.specs.Labels as labels
use Rattle.sg_unparse.specs.Printing.{current_scheme}
use Rattle.sg_edits.specs.Edits.{is_editable}

pub editable_is : (spec : Spec) (t : Term) (s : Scheme) → current_scheme spec t ≡ Some s → s.editable ≡ is_editable spec t
editable_is spec (Leaf p v) s is = absurd (none-some s is)
editable_is spec (Node op n elided ts) s is = ap (λ o. unwrap_or (option_map (λ (z : Scheme). z.editable) o) false) (sym is)

pub editable_none : (spec : Spec) (t : Term) (o : Option ℕ) → current_scheme spec t ≡ None → o ≡ labels.op_of t → not (is_some o) ≡ is_editable spec t
editable_none spec (Leaf p v) o is seen = ap (λ z. not (is_some z)) seen
editable_none spec (Node op n elided ts) o is seen = ap (λ z. not (is_some z)) seen ∙ ap (λ z. unwrap_or (option_map (λ (y : Scheme). y.editable) z) false) (sym is)
