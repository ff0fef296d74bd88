-- What the laws of types ask of variables, tables and what stands around an expression.
use Rattle.std.specs.Prelude.{◌≡◌, ℕ, Bool, true, false, List, [], ◌∷◌, Option, Some, option_map, option_and_then, slice_get, length}
use Rattle.sg_kinds.specs.Values.{Bytes}
use Rattle.sg_kinds.specs.Typing.{is_usable}
use Rattle.sg_kinds.specs.declared.marks.Unary.{Unary}
use Rattle.sg_kinds.specs.declared.marks.Unary.TheVariants.{TextToNumber, NumberToText, TextLength}
use Rattle.sg_kinds.specs.Specification.{phylum_of, args_of}
use Rattle.sg_ast.specs.declared.name.Reference.{Reference}
use Rattle.sg_ast.specs.declared.name.Remote.{Remote}
use Rattle.sg_names.specs.declared.table.Table.{Table}
use Rattle.sg_names.specs.declared.table.Signature.{Signature}
use Rattle.sg_names.specs.declared.table.Callable.{Callable}
use Rattle.sg_names.specs.declared.table.Callable.TheVariants as callable
use Rattle.sg_names.specs.Lookups.{usable_named, callable as callable_named}
use Rattle.sg_names.specs.Drafted.{drafted}
use Rattle.sg_types.specs.declared.scope.Variable.{Variable}
use Rattle.sg_types.specs.Types.{list_at}
use Rattle.sg_types.specs.Bindings.{Owner, outside, reference_at, remote_at, local_at}

-- the types of variables, where all are known
abbrev pub known : List Variable → Option (List ℕ)
known [] = Some []
known (v ∷ vs) = option_and_then (λ p. option_map (λ ps. p ∷ ps) (known vs)) v.of

-- a phylum whose name may be used may be used
abbrev pub IsUsable : Table → Type 0
IsUsable t = (n : Bytes) (p : ℕ) → usable_named t n ≡ Some p → is_usable (drafted t) p ≡ true

-- each list phylum has its binary operator, over an element and the list
abbrev pub HasLists : Table → Type 0
HasLists t = (l : ℕ) (x : ℕ × ℕ) → list_at t l ≡ Some x
    → (phylum_of t.ops x.0 ≡ Some l) × (args_of t.ops x.0 ≡ x.1 ∷ l ∷ [])

-- the types of the bindings before the variables: as many as there are, each the type of what names it
pub record AreOutside (t : Table) (w : Owner) (outer : List ℕ) : Type 0 where
  pub count : length outer ≡ outside w
  pub references : (r : Reference) (x : ℕ × Option ℕ) → reference_at t w r ≡ Some x → slice_get outer x.0 ≡ x.1
  pub remotes : (r : Remote) (x : ℕ × Option ℕ) → remote_at t w r ≡ Some x → slice_get outer x.0 ≡ x.1
  pub locals : (n : Bytes) (x : ℕ × Option ℕ) → local_at t w n ≡ Some x → slice_get outer x.0 ≡ x.1

-- what a name before parentheses means has a result
abbrev pub is_builtin : Unary → Bool
is_builtin TextToNumber = true
is_builtin NumberToText = true
is_builtin TextLength = true
is_builtin f = false

abbrev pub IsCallable : Table → Callable → Type 0
IsCallable t (callable.Operator op) = (p : ℕ) × (phylum_of t.ops op ≡ Some p)
IsCallable t (callable.Function f) = (g : Signature) × (slice_get t.functions f ≡ Some g)
IsCallable t (callable.Builtin f) = is_builtin f ≡ true

abbrev pub AreCallable : Table → Type 0
AreCallable t = (n : Bytes) (c : Callable) → callable_named t n ≡ Some c → IsCallable t c
