-- The references to enclosing nodes in the equations of operators that are there, in the order of the text.
use Rattle.std.specs.Prelude.{ℕ, List, [], map, flat_map, Option, Some, None}
use Rattle.sg_ast.specs.Declarations.{Decl, Equation, Equations}
use Rattle.sg_ast.specs.Expressions.{Expr}
use Rattle.sg_ast.specs.Remotes.{remotes_of}
use Rattle.sg_ast.specs.declared.name.Remote.{Remote}
use Rattle.sg_names.specs.Lookups.{far_list, operator_at}
use Rattle.sg_names.specs.declared.table.Table.{Table}
use Rattle.sg_remote.specs.declared.atoms.Atom.{Atom}

abbrev pub atom : Table → ℕ → Remote → Atom
atom t op r = record { op = op; list = far_list t r; place = r.place }

abbrev pub atoms_in : Table → ℕ → Expr → List Atom
atoms_in t op e = map (atom t op) (remotes_of e)

abbrev pub atoms_of : Table → ℕ → List Equation → List Atom
atoms_of t op es = flat_map (λ (q : Equation). atoms_in t op q.expr) es

abbrev pub atoms_under : Table → List Equation → Option ℕ → List Atom
atoms_under t es None = []
atoms_under t es (Some op) = atoms_of t op es

abbrev pub atoms_at : Table → Decl → List Atom
atoms_at t (Equations p op locals es) = atoms_under t es (operator_at t p op)
atoms_at t d = []

abbrev pub atoms : Table → List Decl → List Atom
atoms t ds = flat_map (atoms_at t) ds
