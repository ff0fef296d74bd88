-- What the names of an expression mean has a type.
use Rattle.std.proofs.Common.{◌≡◌, refl, sym, ap, subst, ◌∙◌, ℕ, zero, suc, ◌+◌, true, List, [], ◌∷◌, Option, Some, None, slice_get}
use Rattle.std.specs.Prelude.{is_some, option_map, option_and_then}
use Rattle.std.specs.List.{position}
use Rattle.sg_kinds.specs.Values.{Bytes}
use Rattle.sg_kinds.specs.Typing.{slot_type}
use Rattle.sg_kinds.specs.declared.spec.Occurrence.{Occurrence}
use Rattle.sg_ast.specs.FirstFault.{or_else}
use Rattle.sg_ast.specs.declared.name.Reference.{Reference}
use Rattle.sg_ast.specs.declared.name.Remote.{Remote}
use Rattle.sg_names.specs.Drafted.{drafted}
use Rattle.sg_names.specs.Lookups.{far_slot, local, operand, reference}
use Rattle.sg_names.specs.declared.table.Operand.{Operand}
use Rattle.sg_names.specs.declared.table.Table.{Table}
use Rattle.sg_types.specs.Bindings.{Owner, OfEquation, OfProduction, OfNothing, argument, behind, is_at, local_at, outside, own_slots, reference_at, remote_at, symbol_there, type_there}
use Rattle.sg_types.specs.Scopes.{found, place_of}
use Rattle.sg_types.specs.declared.scope.Variable.{Variable}
use Rattle.sg_typing.specs.Written.{known}
use Rattle.sg_typing.proofs.ArgsTyped.{far_typed, local_typed, reference_typed}
use Rattle.sg_typing.proofs.ExprTyped.{known_cons}

abbrev pub HasType : ℕ × Option ℕ → Type 0
HasType x = (p : ℕ) × (x.1 ≡ Some p)

-- a variable that is known
known_typed : (vs : List Variable) (S : List ℕ) (k : ℕ) (v : Variable) → known vs ≡ Some S → slice_get vs k ≡ Some v → (p : ℕ) × (v.of ≡ Some p)
known_typed [] S k v h g = cc
known_typed (x ∷ vs) S zero v h g =
    let c = known_cons x vs S h in
    let same : x ≡ v = cc in
    (c.0, ap (λ (y : Variable). y.of) (sym same) ∙ c.2)
known_typed (x ∷ vs) S (suc k) v h g = let c = known_cons x vs S h in known_typed vs c.1 k v c.3 g

found_typed : (vs : List Variable) (S : List ℕ) (n : Bytes) (y : ℕ × Option ℕ) → known vs ≡ Some S → found vs n ≡ Some y → HasType y
found_typed vs S n y h g = by (place_of vs n) g
  where
    there : (k : ℕ) (o : Option Variable) → slice_get vs k ≡ o → option_map (λ (v : Variable). (k, v.of)) o ≡ Some y → HasType y
    there k None e f = cc
    there k (Some v) e f = let same : (k, v.of) ≡ y = cc in subst HasType same (known_typed vs S k v h e)

    by : (o : Option ℕ) → option_and_then (λ k. option_map (λ (v : Variable). (k, v.of)) (slice_get vs k)) o ≡ Some y → HasType y
    by None f = cc
    by (Some k) f = there k (slice_get vs k) refl f

-- an argument of an equation
argument_typed : (t : Table) (op : ℕ) (args : List Occurrence) (at slot p : ℕ) (x : ℕ × Option ℕ) → slot_type (drafted t) op at slot ≡ Some p → argument t op args at slot ≡ Some x → HasType x
argument_typed t op args at slot p x is h = by (position (is_at at slot) args) h
  where
    by : (o : Option ℕ) → option_map (λ k. (k, slot_type (drafted t) op at slot)) o ≡ Some x → HasType x
    by None f = cc
    by (Some k) f = let same : (k, slot_type (drafted t) op at slot) ≡ x = cc in (p, ap (λ (y : ℕ × Option ℕ). y.1) (sym same) ∙ is)

local_there : (t : Table) (w : Owner) (n : Bytes) (x : ℕ × Option ℕ) → local_at t w n ≡ Some x → HasType x
local_there t (OfProduction left parts) n x h = cc
local_there t OfNothing n x h = cc
local_there t (OfEquation op args) n x h = by (local t op n) refl h
  where
    by : (o : Option ℕ) → local t op n ≡ o → option_and_then (argument t op args 0) (option_map (λ k. own_slots t op + k) o) ≡ Some x → HasType x
    by None e f = cc
    by (Some k) e f = let p = local_typed t op k n e in argument_typed t op args 0 (own_slots t op + k) p.0 x p.1 f

pub reference_there : (t : Table) (w : Owner) (r : Reference) (x : ℕ × Option ℕ) → reference_at t w r ≡ Some x → HasType x
reference_there t OfNothing r x h = cc
reference_there t (OfProduction left parts) r x h = by (operand t left parts r) h
  where
    by : (o : Option Operand) → option_map (symbol_there parts) o ≡ Some x → HasType x
    by None f = cc
    by (Some o) f = let same : symbol_there parts o ≡ x = cc in (o.of, ap (λ (y : ℕ × Option ℕ). y.1) (sym same))
reference_there t (OfEquation op args) r x h = by (reference t op r) refl h
  where
    by : (o : Option Occurrence) → reference t op r ≡ o → option_and_then (λ (o : Occurrence). argument t op args o.at o.slot) o ≡ Some x → HasType x
    by None e f = cc
    by (Some o) e f = let p = reference_typed t op r o e in argument_typed t op args o.at o.slot p.0 x p.1 f

remote_there : (t : Table) (w : Owner) (r : Remote) (x : ℕ × Option ℕ) → remote_at t w r ≡ Some x → HasType x
remote_there t OfNothing r x h = cc
remote_there t (OfProduction left parts) r x h = cc
remote_there t (OfEquation op args) r x h = by (far_slot t op r) refl h
  where
    by : (s : Option ℕ) → far_slot t op r ≡ s → option_and_then (argument t op args 0) s ≡ Some x → HasType x
    by None e f = cc
    by (Some s) e f = let p = far_typed t op r s e in argument_typed t op args 0 s p.0 x p.1 f

-- a bare name: a local, else a variable
pub variable_there : (t : Table) (w : Owner) (vs : List Variable) (S : List ℕ) (n : Bytes) → known vs ≡ Some S → (a b : Option (ℕ × Option ℕ)) → local_at t w n ≡ a → found vs n ≡ b
    → is_some (or_else a (option_map (behind (outside w)) b)) ≡ true → (p : ℕ) × (type_there (or_else a (option_map (behind (outside w)) b)) ≡ Some p)
variable_there t w vs S n k (Some x) b e f h = local_there t w n x e
variable_there t w vs S n k None (Some y) e f h = found_typed vs S n y k f
variable_there t w vs S n k None None e f h = cc

pub named_there : (t : Table) (w : Owner) (r : Reference) (o : Option (ℕ × Option ℕ)) → reference_at t w r ≡ o → is_some o ≡ true → (p : ℕ) × (type_there o ≡ Some p)
named_there t w r None e h = cc
named_there t w r (Some x) e h = reference_there t w r x e

pub far_there : (t : Table) (w : Owner) (r : Remote) (o : Option (ℕ × Option ℕ)) → remote_at t w r ≡ o → is_some o ≡ true → (p : ℕ) × (type_there o ≡ Some p)
far_there t w r None e h = cc
far_there t w r (Some x) e h = remote_there t w r x e
