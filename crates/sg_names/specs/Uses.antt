-- The uses of names in declarations, in the order of the text, each with what it must mean.
use Rattle.std.specs.Prelude.{ℕ, suc, Bool, if◌then◌else◌, List, [], ◌∷◌, ◌++◌, map, flat_map, fold, bytes_eq, Option, Some, None}
use Rattle.std.specs.List.{list_any}
use Rattle.sg_kinds.specs.Values.{Bytes}
use Rattle.sg_kinds.specs.Specification.{locals_of}
use Rattle.sg_kinds.specs.declared.spec.Local.{Local}
use Rattle.sg_ast.specs.declared.name.Name.{Name}
use Rattle.sg_ast.specs.declared.name.Typed.{Typed}
use Rattle.sg_ast.specs.declared.name.Pair.{Pair}
use Rattle.sg_ast.specs.declared.name.Reference.{Reference}
use Rattle.sg_ast.specs.declared.decl.Alt.{Alt}
use Rattle.sg_ast.specs.declared.decl.AttrDecl.{AttrDecl}
use Rattle.sg_ast.specs.declared.decl.Target.{Target}
use Rattle.sg_ast.specs.declared.decl.Target.TheVariants as target
use Rattle.sg_ast.specs.declared.decl.Item.{Item}
use Rattle.sg_ast.specs.declared.decl.Item.TheVariants as item
use Rattle.sg_ast.specs.declared.decl.SchemeDecl.{SchemeDecl}
use Rattle.sg_ast.specs.declared.decl.Part.{Part}
use Rattle.sg_ast.specs.declared.decl.Part.TheVariants as part
use Rattle.sg_ast.specs.Patterns as p
use Rattle.sg_ast.specs.Patterns.{Pattern, Patterns, NoPattern, AndPattern, Applied, MadeAs}
use Rattle.sg_ast.specs.Expressions as e
use Rattle.sg_ast.specs.Expressions.{Expr, Exprs, Cases, NoExpr, AndExpr, NoCase, Default, Case}
use Rattle.sg_ast.specs.Declarations.{Decl, Equation, Right, Root, Listed, Optional, Operators, Attributes, Equations, Schemes, Function, Transform, Productions, Entry}
use Rattle.sg_names.specs.declared.table.Table.{Table}
use Rattle.sg_names.specs.Lookups.{operator_at}

-- where an expression stands: in an equation of an operator, in an input production with its left side, or where no
-- reference may stand
pub data Site : Type 0 where
  InOperator : ℕ → Site
  InProduction : Bytes → List Part → Site
  Elsewhere : Site

-- a use: of a phylum; of a phylum that has operators; of one, or of a nonterminal, that has attributes; of an
-- operator of a phylum; of a symbol of a production; of a nonterminal's result; of a reference; of an attribute of an
-- enclosing node; of a variable among those that are visible; a binding where these are visible; and a call or an
-- operator pattern over so many parts
pub data Use : Type 0 where
  UsesPhylum : Name → Use
  HasOperators : Name → Use
  HasAttributes : Name → Use
  UsesOperator : Name → Name → Use
  UsesSymbol : Name → Use
  UsesResult : Name → Name → Use
  Refers : Site → Reference → Use
  Encloses : Site → Pair → Use
  UsesVariable : List Bytes → Name → Use
  Binds : List Bytes → Name → Use
  Calls : Name → ℕ → Use
  Matches : Name → ℕ → Use

-- the visible variables, one more where its name is new
abbrev pub is_visible : List Bytes → Bytes → Bool
is_visible scope n = list_any (bytes_eq n) scope

abbrev pub with_variable : List Bytes → Bytes → List Bytes
with_variable scope n = if is_visible scope n then scope else scope ++ n ∷ []

-- how many parts stand between parentheses
abbrev pub patterns_count : Patterns → ℕ
patterns_count NoPattern = 0
patterns_count (AndPattern x xs) = suc (patterns_count xs)

abbrev pub exprs_count : Exprs → ℕ
exprs_count NoExpr = 0
exprs_count (AndExpr x xs) = suc (exprs_count xs)

-- the variables that are visible behind a pattern, whose names are bound from left to right
abbrev mutual
  pub pattern_scope : List Bytes → Pattern → List Bytes
  pattern_scope scope (p.Variable n) = with_variable scope n.text
  pattern_scope scope (Applied n ps) = patterns_scope scope ps
  pattern_scope scope x = scope

  pub patterns_scope : List Bytes → Patterns → List Bytes
  patterns_scope scope NoPattern = scope
  patterns_scope scope (AndPattern x xs) = patterns_scope (pattern_scope scope x) xs

abbrev mutual
  pub pattern_uses : List Bytes → Pattern → List Use
  pattern_uses scope (p.Variable n) = Binds scope n ∷ []
  pattern_uses scope (MadeAs made n place) = UsesPhylum n ∷ []
  pattern_uses scope (Applied n ps) = Matches n (patterns_count ps) ∷ patterns_uses scope ps
  pattern_uses scope x = []

  pub patterns_uses : List Bytes → Patterns → List Use
  patterns_uses scope NoPattern = []
  patterns_uses scope (AndPattern x xs) = pattern_uses scope x ++ patterns_uses (pattern_scope scope x) xs

abbrev mutual
  pub expr_uses : Site → List Bytes → Expr → List Use
  expr_uses site scope (e.Amount n place) = []
  expr_uses site scope (e.Chars s) = []
  expr_uses site scope (e.Truth b place) = []
  expr_uses site scope (e.Variable n) = UsesVariable scope n ∷ []
  expr_uses site scope (e.Attribute r) = Refers site r ∷ []
  expr_uses site scope (e.Remote r) = map (Encloses site) r.pairs
  expr_uses site scope (e.MadeOf made n place) = UsesPhylum n ∷ []
  expr_uses site scope (e.Paren a place) = expr_uses site scope a
  expr_uses site scope (e.Single f a place) = expr_uses site scope a
  expr_uses site scope (e.Binary s a b) = expr_uses site scope a ++ expr_uses site scope b
  expr_uses site scope (e.Choice a b c) = expr_uses site scope a ++ (expr_uses site scope b ++ expr_uses site scope c)
  expr_uses site scope (e.Call n es) = Calls n (exprs_count es) ∷ exprs_uses site scope es
  expr_uses site scope (e.Let n a b place) = Binds scope n ∷ expr_uses site scope a
      ++ expr_uses site (with_variable scope n.text) b
  expr_uses site scope (e.With a q b cs place) = expr_uses site scope a
      ++ (pattern_uses scope q ++ (expr_uses site (pattern_scope scope q) b ++ cases_uses site scope cs))

  pub exprs_uses : Site → List Bytes → Exprs → List Use
  exprs_uses site scope NoExpr = []
  exprs_uses site scope (AndExpr x xs) = expr_uses site scope x ++ exprs_uses site scope xs

  pub cases_uses : Site → List Bytes → Cases → List Use
  cases_uses site scope NoCase = []
  cases_uses site scope (Default x) = expr_uses site scope x
  cases_uses site scope (Case q x cs) = pattern_uses scope q
      ++ (expr_uses site (pattern_scope scope q) x ++ cases_uses site scope cs)

-- a pattern, and an expression where its names are visible
abbrev pub case_uses : Site → List Bytes → Pattern → Expr → List Use
case_uses site scope q b = pattern_uses scope q ++ expr_uses site (pattern_scope scope q) b

-- the locals of the operator that a declaration speaks of, which are visible in its equations and schemes
abbrev pub local_scope : Table → ℕ → List Bytes
local_scope t op = fold with_variable [] (map (λ (l : Local). l.name) (locals_of t.ops op))

-- what an equation defines, or a scheme shows
abbrev pub target_uses : Site → List Bytes → Target → List Use
target_uses site scope (target.Attribute r) = Refers site r ∷ []
target_uses site scope (target.Local n) = UsesVariable scope n ∷ []

abbrev pub equation_uses : Site → List Bytes → Equation → List Use
equation_uses site scope q = target_uses site scope q.target ++ expr_uses site scope q.expr

abbrev pub item_uses : Site → List Bytes → Item → List Use
item_uses site scope (item.Shows t) = target_uses site scope t
item_uses site scope x = []

abbrev pub scheme_uses : Site → List Bytes → SchemeDecl → List Use
scheme_uses site scope s = flat_map (item_uses site scope) s.items

-- the equations of an operator, and its schemes
abbrev pub equations_uses : Table → List Equation → ℕ → List Use
equations_uses t es op = flat_map (equation_uses (InOperator op) (local_scope t op)) es

abbrev pub schemes_uses : Table → List SchemeDecl → ℕ → List Use
schemes_uses t ss op = flat_map (scheme_uses (InOperator op) (local_scope t op)) ss

-- uses of an operator's declaration, where the operator is there
abbrev pub within : (ℕ → List Use) → Option ℕ → List Use
within uses None = []
within uses (Some op) = uses op

-- parameters are bound from left to right
abbrev pub params_scope : List Bytes → List Typed → List Bytes
params_scope scope params = fold (λ s (t : Typed). with_variable s t.name.text) scope params

abbrev pub params_uses : List Bytes → List Typed → List Use
params_uses scope [] = []
params_uses scope (t ∷ ts) = UsesPhylum t.of ∷ Binds scope t.name ∷ params_uses (with_variable scope t.name.text) ts

abbrev pub part_uses : Part → List Use
part_uses (part.Named n) = UsesSymbol n ∷ []
part_uses (part.Literal s) = []

abbrev pub right_uses : Bytes → Right → List Use
right_uses left r = flat_map part_uses r.parts ++ expr_uses (InProduction left r.parts) [] r.expr

abbrev pub in_equations : Table → Name → Name → List Typed → List Equation → List Use
in_equations t n op locals es = UsesOperator n op ∷ map (λ (l : Typed). UsesPhylum l.of) locals
    ++ within (equations_uses t es) (operator_at t n op)

abbrev pub in_schemes : Table → Name → Name → List SchemeDecl → List Use
in_schemes t n op ss = UsesOperator n op ∷ within (schemes_uses t ss) (operator_at t n op)

abbrev pub in_attributes : Name → List AttrDecl → List Use
in_attributes n attrs = HasAttributes n ∷ map (λ (a : AttrDecl). UsesPhylum a.of) attrs

abbrev pub in_transform : Name → Pattern → Expr → List Use
in_transform n q x = UsesPhylum n ∷ case_uses Elsewhere [] q x

abbrev pub in_entry : Name → Name → Name → List Use
in_entry n m a = UsesPhylum n ∷ UsesResult m a ∷ []

abbrev pub in_function : Name → List Typed → Expr → List Use
in_function ty params x = UsesPhylum ty ∷ params_uses [] params ++ expr_uses Elsewhere (params_scope [] params) x

abbrev pub decl_uses : Table → Decl → List Use
decl_uses t (Root n) = HasOperators n ∷ []
decl_uses t (Listed n) = HasOperators n ∷ []
decl_uses t (Optional listed n) = HasOperators n ∷ []
decl_uses t (Operators n alts) = flat_map (λ (a : Alt). map UsesPhylum a.args) alts
decl_uses t (Attributes n attrs) = in_attributes n attrs
decl_uses t (Equations n op locals es) = in_equations t n op locals es
decl_uses t (Schemes n op view ss) = in_schemes t n op ss
decl_uses t (Function ty n params x) = in_function ty params x
decl_uses t (Transform n title q x) = in_transform n q x
decl_uses t (Productions n rs) = flat_map (right_uses n.text) rs
decl_uses t (Entry n m a) = in_entry n m a
decl_uses t d = []

abbrev pub uses : Table → List Decl → List Use
uses t ds = flat_map (decl_uses t) ds
