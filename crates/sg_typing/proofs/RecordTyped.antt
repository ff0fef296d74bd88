-- The record that is made is typed as its definitions want, where nothing mismatches.
use Rattle.std.proofs.Common.{◌≡◌, refl, sym, arith, ℕ, zero, suc, ◌<◌, Bool, true, false, List, [], ◌∷◌, ◌++◌, Option, Some, None}
use Rattle.std.specs.Prelude.{◌^◌, option_map, option_and_then, unwrap_or}
use Rattle.sg_kinds.specs.Values.{is_number}
use Rattle.sg_kinds.specs.Specification.{truths, numbers}
use Rattle.sg_kinds.specs.Typing.{bound_types, bound_types_all, is_usable}
use Rattle.sg_kinds.specs.Typing as typing
use Rattle.sg_kinds.specs.Expressions as kept
use Rattle.sg_kinds.specs.declared.marks.Made.{Made}
use Rattle.sg_kinds.specs.declared.fault.Position.{Position}
use Rattle.sg_kinds.proofs.Elementary.{lt_true}
use Rattle.sg_ast.specs.Patterns.{Pattern, Patterns, Amount, Chars, Truth, Anything, Variable, MadeAs, Applied, NoPattern, AndPattern}
use Rattle.sg_ast.specs.Written.{HasValues, HaveValues}
use Rattle.sg_ast.proofs.FirstLaws.{neither}
use Rattle.sg_names.specs.declared.table.Table.{Table}
use Rattle.sg_names.specs.Lookups.{usable_named}
use Rattle.sg_names.specs.Names.{op_named}
use Rattle.sg_names.specs.Drafted.{drafted}
use Rattle.sg_types.specs.declared.scope.Variable as scope
use Rattle.sg_types.specs.Types.{unless, untyped, fits_where}
use Rattle.sg_types.specs.Patterns.{is_wanted, takes_texts, is_operator_of, parts_of, mismatch_in, mismatch_in_all, variables_of, variables_of_all, recorded, recorded_all, signed}
use Rattle.sg_typing.specs.Written.{IsUsable, known}

-- tests
pub unless_is : (b : Bool) (place : Position) → unless b place ≡ None → b ≡ true
unless_is true place h = refl
unless_is false place h = cc

pub untyped_is : (o : Option ℕ) (place : Position) → untyped o place ≡ None → (p : ℕ) × (o ≡ Some p)
untyped_is (Some p) place h = (p, refl)
untyped_is None place h = cc

-- the known types of variables behind others
pub known-append : (xs ys : List scope.Variable) → known (xs ++ ys) ≡ option_and_then (λ ps. option_map (λ qs. ps ++ qs) (known ys)) (known xs)
known-append [] ys = by (known ys)
  where
    by : (o : Option (List ℕ)) → o ≡ option_map (λ qs. [] ++ qs) o
    by None = refl
    by (Some qs) = refl
known-append (x ∷ xs) ys = rw (known-append xs ys) (by x.of (known xs) (known ys))
  where
    by : (p : Option ℕ) (a b : Option (List ℕ)) → option_and_then (λ p. option_map (λ ps. p ∷ ps) (option_and_then (λ ps. option_map (λ qs. ps ++ qs) b) a)) p ≡ option_and_then (λ ps. option_map (λ qs. ps ++ qs) b) (option_and_then (λ p. option_map (λ ps. p ∷ ps) a) p)
    by None a b = refl
    by (Some p) None b = refl
    by (Some p) (Some ps) None = refl
    by (Some p) (Some ps) (Some qs) = refl

-- numbers that are written are in range
signed_is : (negative : Bool) (n : ℕ) → n < 2 ^ 63 → is_number (signed negative n) ≡ true
signed_is false n h = lt_true n (2 ^ 63) h
signed_is true zero h = refl
signed_is true (suc n) h = lt_true n (2 ^ 63) (omega (arith, h))

found_there : (t : Table) (p : ℕ) (o : Option ℕ) → fits_where t (Some p) o ≡ true → (q : ℕ) × (o ≡ Some q) × (typing.is_accepted (drafted t) q p ≡ true)
found_there t p None h = cc
found_there t p (Some q) h = (q, refl, h)

-- a made term of a type that is accepted
made_fits : (t : Table) (made : Made) (p q : ℕ) (o : Option ℕ) → o ≡ Some q → is_usable (drafted t) q ≡ true → typing.is_accepted (drafted t) q p ≡ true → bound_types (drafted t) (kept.MadeAs made (unwrap_or o 0)) p ≡ Some []
made_fits t made p q o is u a = rw is (rw (u, a) refl)

-- an operator's pattern, whose parts fit
applied_fits : (t : Table) (p : ℕ) (xs : Patterns) (o : Option ℕ) → is_operator_of t o (Some p) ≡ true
    → bound_types_all (drafted t) (recorded_all t xs (parts_of t o)) (parts_of t o) ≡ known (variables_of_all t xs (parts_of t o))
    → bound_types (drafted t) (kept.Applied (unwrap_or o 0) (recorded_all t xs (parts_of t o))) p ≡ known (variables_of_all t xs (parts_of t o))
applied_fits t p xs None h inside = cc
applied_fits t p xs (Some op) h inside = rw h inside

module _ (t : Table) (usable : IsUsable t) where
  -- a pattern that fits binds its variables, with their types
  mutual
    pub pattern_typed : (q : Pattern) (p : ℕ) → HasValues q → mismatch_in t q (Some p) ≡ None → bound_types (drafted t) (recorded t q) p ≡ known (variables_of t q (Some p))
    pattern_typed (Amount negative n place) p v h =
        let e = unless_is (is_wanted numbers (Some p)) place h in
        rw (signed_is negative n v) (rw e refl)
    pattern_typed (Chars s) p v h =
        let e = unless_is (takes_texts t (Some p)) s.place h in
        rw v (rw e refl)
    pattern_typed (Truth b place) p v h =
        let e = unless_is (is_wanted truths (Some p)) place h in
        rw e refl
    pattern_typed (Anything place) p v h = refl
    pattern_typed (Variable n) p v h = refl
    pattern_typed (MadeAs made n place) p v h =
        let x = found_there t p (usable_named t n.text) (unless_is (fits_where t (Some p) (usable_named t n.text)) place h) in
        made_fits t made p x.0 (usable_named t n.text) x.1 (usable n.text x.0 x.1) x.2
    pattern_typed (Applied n xs) p v h =
        let b = neither (unless (is_operator_of t (op_named t.ops n.text) (Some p)) n.place) (mismatch_in_all t n.place xs (parts_of t (op_named t.ops n.text))) h in
        applied_fits t p xs (op_named t.ops n.text) (unless_is (is_operator_of t (op_named t.ops n.text) (Some p)) n.place b.0) (patterns_typed n.place xs (parts_of t (op_named t.ops n.text)) v b.1)

    pub patterns_typed : (place : Position) (xs : Patterns) (ps : List ℕ) → HaveValues xs → mismatch_in_all t place xs ps ≡ None → bound_types_all (drafted t) (recorded_all t xs ps) ps ≡ known (variables_of_all t xs ps)
    patterns_typed place NoPattern [] v h = refl
    patterns_typed place NoPattern (p ∷ ps) v h = cc
    patterns_typed place (AndPattern x xs) [] v h = cc
    patterns_typed place (AndPattern x xs) (p ∷ ps) v h =
        let b = neither (mismatch_in t x (Some p)) (mismatch_in_all t place xs ps) h in
        rw (pattern_typed x p v.0 b.0, patterns_typed place xs ps v.1 b.1) (sym (known-append (variables_of t x (Some p)) (variables_of_all t xs ps)))
