-- Schemes and values as they are seen in a view.
use Rattle.std.specs.Prelude.{◌≡◌, ◌≢◌, refl, ℕ, ◌+◌, ◌%◌, ◌≤◌, true, false, List, [], ◌∷◌, length, take, Option, Some, None, slice_get, option_map, option_and_then, unwrap_or}
use Rattle.std.proofs.Common.{sym, ap, ◌∙◌, arith}
use Rattle.std.proofs.lemmas.List.{take_all}
use Rattle.std.proofs.lemmas.List.Sums.{sum_by_more}
use Rattle.std.proofs.lemmas.Option.{get_or_from_slice_get, slice_get_within}
use Rattle.sg_kinds.specs.Values.{Value, Truth, Number, Chars, Tree, Fault}
use Rattle.sg_kinds.specs.InView.{schemes_in_view, own_or, in_view}
use Rattle.sg_kinds.specs.declared.spec.Spec.{Spec}
use Rattle.sg_kinds.specs.declared.spec.Operator.{Operator}
use Rattle.sg_kinds.specs.declared.spec.Scheme.{Scheme}
use Rattle.sg_kinds.proofs.InView.{op_in_view, count_in_view}
use Rattle.sg_groves.specs.Grove.{Grove, spec_shown}
use Rattle.sg_unparse.specs.Margins.{ons_of, ons_of_operators, ons_of_schemes}
use Rattle.sg_unparse.specs.Printing.{count_of, scheme_of, schemes_of, value_text}

-- the specification that is seen, by the parts that are read
pub as_shown : (g : Grove) (spec : Spec) (v : ℕ) → spec ≡ g.spec → v ≡ g.view → in_view spec v ≡ spec_shown g
as_shown g spec v same view = ap (λ s. in_view s v) same ∙ ap (in_view g.spec) view

-- a value is shown the same in each view
pub text_in_view : (spec : Spec) (v p : ℕ) (x : Value) → value_text spec p x ≡ value_text (in_view spec v) p x
text_in_view spec v p (Truth true) = refl
text_in_view spec v p (Truth false) = refl
text_in_view spec v p (Number z) = refl
text_in_view spec v p (Chars []) = refl
text_in_view spec v p (Chars (b ∷ s)) = refl
text_in_view spec v p (Tree op vs) = refl
text_in_view spec v p (Fault why) = refl

-- the schemes of an operator that is there: its own, if it has some, or else the ordinary ones
pub own_some : (ordinary ss : List Scheme) → ss ≢ [] → ss ≡ own_or ordinary ss
own_some ordinary [] h = absurd (h refl)
own_some ordinary (s ∷ ss) h = refl

abbrev schemes_with : List Scheme → Option Operator → List Scheme
schemes_with ss x = unwrap_or (option_map (λ (o : Operator). o.schemes) (option_map (λ (o : Operator). record o { schemes = own_or o.schemes ss }) x)) []

module _ (spec : Spec) (v op : ℕ) where
  seen : schemes_of (in_view spec v) op ≡ schemes_with (schemes_in_view spec.views v op) (slice_get spec.ops op)
  seen = ap (λ x. unwrap_or (option_map (λ (o : Operator). o.schemes) x) []) (op_in_view spec v op)

  pub none_seen : slice_get spec.ops op ≡ None → [] ≡ schemes_of (in_view spec v) op
  none_seen is = sym (seen ∙ ap (schemes_with (schemes_in_view spec.views v op)) is)

  seen_there : (o : Operator) → slice_get spec.ops op ≡ Some o → own_or o.schemes (schemes_in_view spec.views v op) ≡ schemes_of (in_view spec v) op
  seen_there o is = sym (seen ∙ ap (schemes_with (schemes_in_view spec.views v op)) is)

  pub own_seen : (o : Operator) → slice_get spec.ops op ≡ Some o → schemes_in_view spec.views v op ≢ [] → schemes_in_view spec.views v op ≡ schemes_of (in_view spec v) op
  own_seen o is some = own_some o.schemes (schemes_in_view spec.views v op) some ∙ seen_there o is

  pub ordinary_seen : (o : Operator) → slice_get spec.ops op ≡ Some o → schemes_in_view spec.views v op ≡ [] → o.schemes ≡ schemes_of (in_view spec v) op
  ordinary_seen o is none = ap (own_or o.schemes) (sym none) ∙ seen_there o is

-- a scheme by the schemes of its operator, and how many there are
pub scheme_at : (spec : Spec) (op n : ℕ) → slice_get (schemes_of spec op) (n % length (schemes_of spec op)) ≡ scheme_of spec op n
scheme_at spec op n = by (slice_get spec.ops op)
  where
    by : (x : Option Operator) → slice_get (unwrap_or (option_map (λ (o : Operator). o.schemes) x) []) (n % length (unwrap_or (option_map (λ (o : Operator). o.schemes) x) [])) ≡ option_and_then (λ (o : Operator). slice_get o.schemes (n % length o.schemes)) x
    by None = refl
    by (Some o) = refl

pub schemes_counted : (spec : Spec) (op : ℕ) → length (schemes_of spec op) ≡ count_of spec op
schemes_counted spec op = by (slice_get spec.ops op)
  where
    by : (x : Option Operator) → length (unwrap_or (option_map (λ (o : Operator). o.schemes) x) []) ≡ unwrap_or (option_map (λ (o : Operator). length o.schemes) x) 0
    by None = refl
    by (Some o) = refl

-- how often all operators up to one widen the margin in a view
module _ (spec : Spec) (v k : ℕ) where
  pub ons_more : (o : Operator) → slice_get spec.ops k ≡ Some o
      → ons_of_operators (take (k + 1) (in_view spec v).ops) ≡ ons_of_operators (take k (in_view spec v).ops) + ons_of_schemes (own_or o.schemes (schemes_in_view spec.views v k))
  ons_more o is =
      let seen : Operator = record o { schemes = own_or o.schemes (schemes_in_view spec.views v k) } in
      let there = op_in_view spec v k ∙ ap (option_map (λ (x : Operator). record x { schemes = own_or x.schemes (schemes_in_view spec.views v k) })) is in
      sum_by_more (λ (x : Operator). ons_of_schemes x.schemes) (in_view spec v).ops k seen (slice_get_within (in_view spec v).ops k seen there)
      ∙ ap (λ (x : Operator). ons_of_operators (take k (in_view spec v).ops) + ons_of_schemes x.schemes) (get_or_from_slice_get (in_view spec v).ops k seen seen there)

  pub ons_all : length spec.ops ≤ k → ons_of_operators (take k (in_view spec v).ops) ≡ ons_of (in_view spec v)
  ons_all h = ap ons_of_operators (take_all k (in_view spec v).ops (omega (arith, h, count_in_view spec v)))
