-- What the laws of types ask of names: that each means something where it stands, among the variables that are visible
-- there, that calls and operator patterns have as many parts as declared, and that far attributes are there.
use Rattle.std.specs.Prelude.{◌≡◌, true, List, [], ◌++◌, map, All, None, is_some, ⊤}
use Rattle.sg_kinds.specs.Values.{Bytes}
use Rattle.sg_kinds.specs.Specification.{locals_of}
use Rattle.sg_kinds.specs.declared.spec.Local.{Local}
use Rattle.sg_ast.specs.Expressions.{Expr}
use Rattle.sg_ast.specs.FirstFault.{first}
use Rattle.sg_ast.specs.Remotes.{remotes_of}
use Rattle.sg_ast.specs.declared.name.Remote.{Remote}
use Rattle.sg_names.specs.Arity.{arity_at}
use Rattle.sg_names.specs.Lookups.{far_slot}
use Rattle.sg_names.specs.UnknownName.{unknown_at}
use Rattle.sg_names.specs.Uses.{Site, Use, InOperator, InProduction, Elsewhere, is_visible}
use Rattle.sg_names.specs.declared.table.Table.{Table}
use Rattle.sg_types.specs.declared.scope.Variable.{Variable}
use Rattle.sg_types.specs.Bindings.{Owner, OfEquation, OfProduction, OfNothing}
use Rattle.sg_typing.specs.Arguments.{args_in}

-- none of these uses is of an unknown name or over another number of parts
abbrev pub AreKnown : Table → List Use → Type 0
AreKnown t us = (first (unknown_at t) us ≡ None) × (first (arity_at t) us ≡ None)

-- where the expressions of an owner stand
abbrev pub site_of : Owner → Site
site_of (OfEquation op args) = InOperator op
site_of (OfProduction left parts) = InProduction left parts
site_of OfNothing = Elsewhere

-- the names of the variables, and in an equation those of its operator's locals before them
abbrev pub names_of : List Variable → List Bytes
names_of vs = map (λ (v : Variable). v.name) vs

abbrev pub names_outside : Table → Owner → List Bytes
names_outside t (OfEquation op args) = map (λ (l : Local). l.name) (locals_of t.ops op)
names_outside t w = []

-- what is visible there is one of them
abbrev pub AreAmong : List Bytes → List Bytes → Type 0
AreAmong scope names = (n : Bytes) → is_visible scope n ≡ true → is_visible names n ≡ true

abbrev pub SeesVariables : Table → Owner → List Variable → List Bytes → Type 0
SeesVariables t w vs scope = AreAmong scope (names_outside t w ++ names_of vs)

-- the arguments of an equation are what its expression names
abbrev pub HasArguments : Table → Owner → Expr → Type 0
HasArguments t (OfEquation op args) e = args ≡ args_in t op e
HasArguments t w e = ⊤

-- in an equation, each attribute of an enclosing node has its far attribute at the left side
abbrev pub HasFar : Table → Owner → Remote → Type 0
HasFar t (OfEquation op args) r = is_some (far_slot t op r) ≡ true
HasFar t w r = ⊤

abbrev pub HasFars : Table → Owner → Expr → Type 0
HasFars t w e = All (HasFar t w) (remotes_of e)
