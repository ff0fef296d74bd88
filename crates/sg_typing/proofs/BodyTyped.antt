-- An expression that fits where it stands has, in the record, a type that is accepted there.
use Rattle.std.proofs.Common.{◌≡◌, refl, ap, ◌∙◌, ℕ, true, List, ◌++◌, Option, Some, None}
use Rattle.sg_kinds.specs.Typing.{is_found, type_of}
use Rattle.sg_kinds.specs.declared.spec.Spec.{Spec}
use Rattle.sg_ast.specs.Expressions.{Expr}
use Rattle.sg_ast.specs.Chains.{expr_place}
use Rattle.sg_ast.specs.Written.{AreWritten}
use Rattle.sg_ast.proofs.FirstLaws.{neither}
use Rattle.sg_names.specs.Drafted.{HasTable, drafted}
use Rattle.sg_names.specs.declared.table.Table.{Table}
use Rattle.sg_names.proofs.DraftedLaws.{accepted_kept, type_kept}
use Rattle.sg_types.specs.declared.scope.Variable.{Variable}
use Rattle.sg_types.specs.Bindings.{Owner}
use Rattle.sg_types.specs.Expressions.{type_in, mismatch_in, mismatch_at, recorded}
use Rattle.sg_types.specs.Types.{unless, fits_where}
use Rattle.sg_typing.specs.Written.{HasLists, AreOutside, known}
use Rattle.sg_typing.proofs.Kept.{expr_kept}
use Rattle.sg_typing.proofs.RecordTyped.{unless_is}

-- what is wanted is known, and what is given is accepted there
fits : (t : Table) (w : Owner) (vs : List Variable) (wanted : Option ℕ) (e : Expr) → mismatch_at t w vs wanted e ≡ None → (p : ℕ) × (wanted ≡ Some p) × (is_found (drafted t) p (type_in t w vs e) ≡ true) × (mismatch_in t w vs e ≡ None)
fits t w vs wanted e h = by wanted (neither (unless (fits_where t wanted (type_in t w vs e)) (expr_place e)) (mismatch_in t w vs e) h).0
  where
    inside : mismatch_in t w vs e ≡ None
    inside = (neither (unless (fits_where t wanted (type_in t w vs e)) (expr_place e)) (mismatch_in t w vs e) h).1

    by : (o : Option ℕ) → unless (fits_where t o (type_in t w vs e)) (expr_place e) ≡ None → (p : ℕ) × (o ≡ Some p) × (is_found (drafted t) p (type_in t w vs e) ≡ true) × (mismatch_in t w vs e ≡ None)
    by None k = cc
    by (Some p) k = (p, refl, unless_is (is_found (drafted t) p (type_in t w vs e)) (expr_place e) k, inside)

pub found_kept : (t : Table) (spec : Spec) → HasTable t spec → (p : ℕ) (o : Option ℕ) → is_found spec p o ≡ is_found (drafted t) p o
found_kept t spec h p None = refl
found_kept t spec h p (Some q) = accepted_kept t spec h q p

pub body_kept : (t : Table) (spec : Spec) → HasTable t spec → HasLists t → (w : Owner) (outer : List ℕ) → AreOutside t w outer → (vs : List Variable) (types : List ℕ) → known vs ≡ Some types → (wanted : Option ℕ) (e : Expr) → AreWritten e → mismatch_at t w vs wanted e ≡ None
    → (p : ℕ) × (wanted ≡ Some p) × (is_found spec p (type_of spec (outer ++ types) (recorded t w vs e)) ≡ true)
body_kept t spec table lists w outer out vs types k wanted e written h =
    let f = fits t w vs wanted e h in (
      f.0,
      f.1,
      found_kept t spec table f.0 (type_of spec (outer ++ types) (recorded t w vs e))
          ∙ ap (is_found (drafted t) f.0) (type_kept t spec table (outer ++ types) (recorded t w vs e) ∙ expr_kept t lists w outer out vs types e k written f.3)
          ∙ f.2,
    )
