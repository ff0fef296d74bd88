-- Where the first fault of names and shapes is none, no row has one.
use Rattle.std.proofs.Common.{◌≡◌, List, [], ◌∷◌, Option, None}
use Rattle.sg_kinds.specs.declared.fault.SpecFault.{SpecFault}
use Rattle.sg_ast.specs.Declarations.{Decl}
use Rattle.sg_ast.specs.FirstFault.{or_else}
use Rattle.sg_ast.proofs.FirstLaws.{first-none, neither}
use Rattle.sg_names.specs.Arity.{arity}
use Rattle.sg_names.specs.Names.{names_of}
use Rattle.sg_names.specs.Shapes.{result_count, root_count, list_shape, optional_shape, root_inherits}
use Rattle.sg_names.specs.TwiceBound.{twice_bound}
use Rattle.sg_names.specs.UnknownName.{unknown_name}
use Rattle.sg_shapes.specs.Resolved.{shape_rows, binding_rows}
use Rattle.sg_counts.specs.Duplicates.{duplicate}
use Rattle.sg_counts.specs.Limits.{limit}
use Rattle.sg_resolve.specs.Resolved.{no_completion, resolve_fault}

pub record HasNoNamesFault (ds : List Decl) : Type 0 where
  pub limits : limit ds ≡ None
  pub duplicates : duplicate ds ≡ None
  pub unknown : unknown_name (names_of ds) ds ≡ None
  pub results : result_count (names_of ds) ≡ None
  pub roots : root_count ds ≡ None
  pub lists : list_shape (names_of ds) ds ≡ None
  pub options : optional_shape (names_of ds) ds ≡ None
  pub completions : no_completion (names_of ds) ≡ None
  pub inherits : root_inherits (names_of ds) ds ≡ None
  pub bindings : twice_bound (names_of ds) ds ≡ None
  pub arities : arity (names_of ds) ds ≡ None

pub no_fault : (ds : List Decl) → resolve_fault ds ≡ None → HasNoNamesFault ds
unfolding resolve_fault
no_fault ds e =
    let t = names_of ds in
    let rows = first-none (λ (o : Option SpecFault). o) (limit ds ∷ duplicate ds ∷ shape_rows t ds ∷ no_completion t ∷ binding_rows t ds ∷ []) e in
    let a = neither (unknown_name t ds) (or_else (result_count t) (or_else (root_count ds) (or_else (list_shape t ds) (optional_shape t ds)))) rows.1.1.0 in
    let b = neither (result_count t) (or_else (root_count ds) (or_else (list_shape t ds) (optional_shape t ds))) a.1 in
    let c = neither (root_count ds) (or_else (list_shape t ds) (optional_shape t ds)) b.1 in
    let d = neither (list_shape t ds) (optional_shape t ds) c.1 in
    let f = neither (root_inherits t ds) (or_else (twice_bound t ds) (arity t ds)) rows.1.1.1.1.0 in
    let g = neither (twice_bound t ds) (arity t ds) f.1 in
    record {
      limits = rows.0;
      duplicates = rows.1.0;
      unknown = a.0;
      results = b.0;
      roots = c.0;
      lists = d.0;
      options = d.1;
      completions = rows.1.1.1.0;
      inherits = f.0;
      bindings = g.0;
      arities = g.1;
    }
