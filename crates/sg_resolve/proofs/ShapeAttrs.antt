-- The types of attributes, arguments and locals may be used.
use Rattle.std.proofs.Common.{◌≡◌, ◌⊎◌, inl, inr, ℕ, Bool, true, false, if◌then◌else◌, List, [], ◌∷◌, length, flat_map, unwrap_or, refl}
use Rattle.std.specs.List.{AllByRecursion}
use Rattle.sg_kinds.specs.declared.spec.Attr.{Attr}
use Rattle.sg_kinds.specs.declared.spec.Local.{Local}
use Rattle.sg_kinds.specs.declared.spec.Operator.{Operator}
use Rattle.sg_kinds.specs.Specification.{is_leaf_shape}
use Rattle.sg_ast.specs.declared.name.Name.{Name}
use Rattle.sg_ast.specs.declared.name.Typed.{Typed}
use Rattle.sg_ast.specs.declared.decl.Alt.{Alt}
use Rattle.sg_ast.specs.declared.decl.AttrDecl.{AttrDecl}
use Rattle.sg_ast.specs.Declarations as decl
use Rattle.sg_ast.specs.Declarations.{Decl}
use Rattle.sg_names.specs.declared.heads.Head.{Head}
use Rattle.sg_names.specs.Heads.{number_in, numbers_in}
use Rattle.sg_names.specs.Names.{phyla_in, names_of, operator, operator_of, operators_at, attribute, attributes_at, attributes_in, local, locals_at, value_attr}
use Rattle.sg_resolve.proofs.ShapeLists.{each_implies, each_flat, each_map, each_owned}
use Rattle.sg_resolve.proofs.ShapeTable.{plain_ops, own_attrs, own_locals, phylum_made}
use Rattle.sg_resolve.proofs.ShapeKnown.{IsKnown, IsUsed, args_known, attrs_known, locals_known}

-- a test that all numbers of names pass that may be used
module _ (ds : List Decl) (Good : ℕ → Type 0) (used : (n : Name) → IsUsed (names_of ds) n → Good (number_in (phyla_in ds) n.text)) (known : AllByRecursion (IsKnown (names_of ds)) ds) where
  attrs_at : (d : Decl) → IsKnown (names_of ds) d → AllByRecursion (λ (x : ℕ × Attr). Good x.1.of) (attributes_at (phyla_in ds) (phyla_in ds) d)
  attrs_at (decl.Attributes n attrs) k =
      each_map (λ (x : ℕ × Attr). Good x.1.of) (attribute (phyla_in ds) (number_in (phyla_in ds) n.text)) attrs
      (each_implies (λ (a : AttrDecl). IsUsed (names_of ds) a.of) (λ (a : AttrDecl). Good (number_in (phyla_in ds) a.of.text)) (λ a u. used a.of u) attrs (attrs_known (names_of ds) n attrs k))
  attrs_at (decl.Root n) k = tt
  attrs_at (decl.Listed n) k = tt
  attrs_at (decl.Optional listed n) k = tt
  attrs_at (decl.Operators n alts) k = tt
  attrs_at (decl.LexemeOf n s) k = tt
  attrs_at (decl.Equations n op locals es) k = tt
  attrs_at (decl.Schemes n op view ss) k = tt
  attrs_at (decl.Function t n params e) k = tt
  attrs_at (decl.Transform n title q e) k = tt
  attrs_at (decl.Productions n rights) k = tt
  attrs_at (decl.Entry n m a) k = tt
  attrs_at (decl.Precedence g ls place) k = tt

  pub attrs_good : (p : ℕ) → AllByRecursion (λ (a : Attr). Good a.of) (own_attrs ds p)
  attrs_good p =
      each_owned (λ k (a : Attr). Good a.of) p (attributes_in (phyla_in ds) (phyla_in ds) ds)
      (each_flat (λ (x : ℕ × Attr). Good x.1.of) (attributes_at (phyla_in ds) (phyla_in ds)) ds
      (each_implies (IsKnown (names_of ds)) (λ d. AllByRecursion (λ (x : ℕ × Attr). Good x.1.of) (attributes_at (phyla_in ds) (phyla_in ds) d)) attrs_at ds known))

  -- of a leaf its own phylum, else what is used
  pub types_good : (p : ℕ) (h : Head) → AllByRecursion (λ (a : Attr). (a.of ≡ p) ⊎ Good a.of) (phylum_made ds p h).attrs
  types_good p h = by (is_leaf_shape (phylum_made ds p h).shape)
    where
      by : (b : Bool) → AllByRecursion (λ (a : Attr). (a.of ≡ p) ⊎ Good a.of) (if b then value_attr p ∷ [] else own_attrs ds p)
      by true = (inl refl, tt)
      by false = each_implies (λ (a : Attr). Good a.of) (λ (a : Attr). (a.of ≡ p) ⊎ Good a.of) (λ a g. inr g) (own_attrs ds p) (attrs_good p)

  locals_of_decl : (d : Decl) → IsKnown (names_of ds) d → AllByRecursion (λ (x : ℕ × Local). Good x.1.of) (locals_at (phyla_in ds) (plain_ops ds) d)
  locals_of_decl (decl.Equations n op locals es) k =
      each_map (λ (x : ℕ × Local). Good x.1.of) (local (phyla_in ds) (unwrap_or (operator_of (plain_ops ds) (number_in (phyla_in ds) n.text) op.text) (length (plain_ops ds)))) locals
      (each_implies (λ (t : Typed). IsUsed (names_of ds) t.of) (λ (t : Typed). Good (number_in (phyla_in ds) t.of.text)) (λ t u. used t.of u) locals (locals_known (names_of ds) n op locals es k))
  locals_of_decl (decl.Root n) k = tt
  locals_of_decl (decl.Listed n) k = tt
  locals_of_decl (decl.Optional listed n) k = tt
  locals_of_decl (decl.Operators n alts) k = tt
  locals_of_decl (decl.LexemeOf n s) k = tt
  locals_of_decl (decl.Attributes n attrs) k = tt
  locals_of_decl (decl.Schemes n op view ss) k = tt
  locals_of_decl (decl.Function t n params e) k = tt
  locals_of_decl (decl.Transform n title q e) k = tt
  locals_of_decl (decl.Productions n rights) k = tt
  locals_of_decl (decl.Entry n m a) k = tt
  locals_of_decl (decl.Precedence g ls place) k = tt

  pub locals_good : (op : ℕ) → AllByRecursion (λ (l : Local). Good l.of) (own_locals ds op)
  locals_good op =
      each_owned (λ k (l : Local). Good l.of) op (flat_map (locals_at (phyla_in ds) (plain_ops ds)) ds)
      (each_flat (λ (x : ℕ × Local). Good x.1.of) (locals_at (phyla_in ds) (plain_ops ds)) ds
      (each_implies (IsKnown (names_of ds)) (λ d. AllByRecursion (λ (x : ℕ × Local). Good x.1.of) (locals_at (phyla_in ds) (plain_ops ds) d)) locals_of_decl ds known))

  args_at : (d : Decl) → IsKnown (names_of ds) d → AllByRecursion (λ (o : Operator). AllByRecursion Good o.args) (operators_at (phyla_in ds) d)
  args_at (decl.Operators n alts) k =
      each_map (λ (o : Operator). AllByRecursion Good o.args) (operator (phyla_in ds) n) alts
      (each_implies (λ (a : Alt). AllByRecursion (IsUsed (names_of ds)) a.args) (λ (a : Alt). AllByRecursion Good (numbers_in (phyla_in ds) a.args)) named alts (args_known (names_of ds) n alts k))
    where
      named : (a : Alt) → AllByRecursion (IsUsed (names_of ds)) a.args → AllByRecursion Good (numbers_in (phyla_in ds) a.args)
      named a u = each_map Good (λ (n : Name). number_in (phyla_in ds) n.text) a.args (each_implies (IsUsed (names_of ds)) (λ (n : Name). Good (number_in (phyla_in ds) n.text)) used a.args u)
  args_at (decl.Root n) k = tt
  args_at (decl.Listed n) k = tt
  args_at (decl.Optional listed n) k = tt
  args_at (decl.LexemeOf n s) k = tt
  args_at (decl.Attributes n attrs) k = tt
  args_at (decl.Equations n op locals es) k = tt
  args_at (decl.Schemes n op view ss) k = tt
  args_at (decl.Function t n params e) k = tt
  args_at (decl.Transform n title q e) k = tt
  args_at (decl.Productions n rights) k = tt
  args_at (decl.Entry n m a) k = tt
  args_at (decl.Precedence g ls place) k = tt

  pub args_good : AllByRecursion (λ (o : Operator). AllByRecursion Good o.args) (plain_ops ds)
  args_good =
      each_flat (λ (o : Operator). AllByRecursion Good o.args) (operators_at (phyla_in ds)) ds
      (each_implies (IsKnown (names_of ds)) (λ d. AllByRecursion (λ (o : Operator). AllByRecursion Good o.args) (operators_at (phyla_in ds) d)) args_at ds known)
