-- A specification as it is seen in a view. View 0 is the ordinary one.
use Rattle.std.specs.Prelude.{ℕ, zero, suc, List, [], ◌∷◌, slice_get, unwrap_or}
use Rattle.sg_kinds.specs.Specification.{Spec, Operator, Scheme, Views}

-- the schemes of each operator in a view; none in the ordinary one, and where there is no such view
abbrev pub row_in_view : Views → ℕ → List (List Scheme)
row_in_view views zero = []
row_in_view views (suc v) = unwrap_or (slice_get views.rows v) []

-- the schemes that an operator has in a view alone
abbrev pub schemes_in_view : Views → ℕ → ℕ → List Scheme
schemes_in_view views v op = unwrap_or (slice_get (row_in_view views v) op) []

-- its own schemes there, or else the ordinary ones
abbrev pub own_or : List Scheme → List Scheme → List Scheme
own_or ordinary [] = ordinary
own_or ordinary (s ∷ ss) = s ∷ ss

unfoldable pub ops_in : List (List Scheme) → List Operator → List Operator
ops_in [] ops = ops
ops_in (ss ∷ rows) [] = []
ops_in (ss ∷ rows) (o ∷ ops) = record o { schemes = own_or o.schemes ss } ∷ ops_in rows ops

abbrev pub in_view : Spec → ℕ → Spec
in_view spec v = record spec { ops = ops_in (row_in_view spec.views v) spec.ops }
