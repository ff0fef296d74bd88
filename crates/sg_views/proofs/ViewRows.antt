-- The rows of views, one more at a time, and what is put together of them.
use Rattle.std.proofs.Common.{◌≡◌, ℕ, suc, ◌+◌, List, [], ◌∷◌, ◌++◌, map, ap, ◌∙◌, arith}
use Rattle.std.proofs.lemmas.List.{map-append}
use Rattle.sg_kinds.specs.Instances.{below}
use Rattle.sg_kinds.specs.Values.{Bytes}
use Rattle.sg_kinds.specs.declared.spec.Scheme.{Scheme}
use Rattle.sg_ast.specs.Declarations.{Decl}
use Rattle.sg_names.specs.declared.table.Table.{Table}
use Rattle.sg_views.specs.Views.{view_names, row_of, views_of}

pub below_more : {A : Type 0} (f : ℕ → A) (k : ℕ) → map f (below (k + 1)) ≡ map f (below k) ++ f k ∷ []
below_more f k = ap (λ n. map f (below n)) (let e : k + 1 ≡ suc k = omega arith in e) ∙ map-append f (below k) (k ∷ [])

pub views_made : (t : Table) (ds : List Decl) (names : List Bytes) (rows : List (List (List Scheme))) → names ≡ view_names ds → rows ≡ map (row_of t ds) names → record { names = names; rows = rows } ≡ views_of t ds
unfolding views_of
views_made t ds names rows are made = λ i. record { names = are i; rows = (made ∙ ap (map (row_of t ds)) are) i }
