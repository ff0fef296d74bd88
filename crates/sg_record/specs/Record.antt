-- The record of a specification: what its names mean, what is kept of its expressions, its rules and its lexemes, and
-- from its declarations the schemes of each view, the bodies of functions, the transformations, the productions, the
-- entries and the precedence lines. A name that means nothing has the number 0; where no name is unknown, there is none.
use Rattle.std.specs.Prelude.{ℕ, ◌+◌, List, [], ◌∷◌, ◌++◌, map, flat_map, Option, Some, None, unwrap_or}
use Rattle.sg_kinds.specs.Values.{Bytes}
use Rattle.sg_kinds.specs.Expressions.{Expr, Named}
use Rattle.sg_kinds.specs.Lexemes.{Lexeme}
use Rattle.sg_kinds.specs.declared.spec.Scheme.{Scheme}
use Rattle.sg_kinds.specs.declared.spec.Operator.{Operator}
use Rattle.sg_kinds.specs.declared.spec.Rule.{Rule}
use Rattle.sg_kinds.specs.declared.spec.Function.{Function}
use Rattle.sg_kinds.specs.declared.spec.Transform.{Transform}
use Rattle.sg_kinds.specs.declared.spec.Symbol.{Symbol}
use Rattle.sg_kinds.specs.declared.spec.Production.{Production}
use Rattle.sg_kinds.specs.declared.spec.Entry.{Entry}
use Rattle.sg_kinds.specs.declared.spec.LevelLine.{LevelLine}
use Rattle.sg_kinds.specs.declared.spec.Spec.{Spec}
use Rattle.sg_kinds.specs.declared.spec.Symbol.TheVariants.{Quoted, Lexical, Nonterminal}
use Rattle.sg_ast.specs.declared.name.Name.{Name}
use Rattle.sg_ast.specs.declared.name.Quoted.{Quoted as String}
use Rattle.sg_ast.specs.declared.decl.Part.{Part}
use Rattle.sg_ast.specs.declared.decl.Part.TheVariants as part
use Rattle.sg_ast.specs.Declarations.{Decl, Right}
use Rattle.sg_ast.specs.Declarations as decl
use Rattle.sg_names.specs.declared.table.Signature.{Signature}
use Rattle.sg_names.specs.declared.table.Table.{Table}
use Rattle.sg_names.specs.Names.{map_from}
use Rattle.sg_names.specs.Lookups.{usable_named, nonterminal_named}
use Rattle.sg_types.specs.Patterns.{recorded}
use Rattle.sg_typing.specs.declared.bodies.TypedExpr.{TypedExpr}
use Rattle.sg_typing.specs.Bodies.{expr_count, exprs_in, result_type}
use Rattle.sg_views.specs.Schemes.{schemes_of}
use Rattle.sg_views.specs.Views.{views_of}

-- operators with their schemes in the ordinary view
abbrev pub with_scheme : (ℕ → List Scheme) → ℕ → Operator → Operator
with_scheme schemes k o = record o { schemes = schemes k }

abbrev pub with_schemes : (ℕ → List Scheme) → List Operator → List Operator
with_schemes schemes ops = map_from (with_scheme schemes) 0 ops

-- what declarations give, each by how many expressions stand before it
abbrev pub each_from : {A : Type 0} → (ℕ → Decl → List A) → ℕ → List Decl → List A
each_from f k [] = []
each_from f k (d ∷ ds) = f k d ++ each_from f (k + expr_count d) ds

-- the numbers of the bodies of functions, and functions with them
abbrev pub body_at : ℕ → Decl → List ℕ
body_at k (decl.Function of n params e) = k ∷ []
body_at k d = []

abbrev pub bodies_in : ℕ → List Decl → List ℕ
bodies_in k ds = each_from body_at k ds

abbrev pub with_body : Signature → ℕ → Function
with_body f k = record { name = f.name; params = f.params; result = f.result; body = k }

abbrev pub with_bodies : List ℕ → List Signature → List Function
with_bodies ks [] = []
with_bodies [] (f ∷ fs) = with_body f 0 ∷ with_bodies [] fs
with_bodies (k ∷ ks) (f ∷ fs) = with_body f k ∷ with_bodies ks fs

-- transformations
abbrev pub phylum_in : Table → Bytes → ℕ
phylum_in t n = unwrap_or (usable_named t n) 0

abbrev pub transforms_at : Table → ℕ → Decl → List Transform
transforms_at t k (decl.Transform n title q e) = record {
  name = title.text;
  phylum = phylum_in t n.text;
  pattern = recorded t q;
  expr = k;
} ∷ []
transforms_at t k d = []

abbrev pub transforms_in : Table → ℕ → List Decl → List Transform
transforms_in t k ds = each_from (transforms_at t) k ds

-- input productions: a name in them is a nonterminal, or else a lexeme phylum
abbrev pub nonterminal_in : Table → Bytes → ℕ
nonterminal_in t n = unwrap_or (nonterminal_named t n) 0

abbrev pub symbol_named : Table → Bytes → Option ℕ → Symbol
symbol_named t n (Some k) = Nonterminal k
symbol_named t n None = Lexical (phylum_in t n)

abbrev pub symbol_of : Table → Part → Symbol
symbol_of t (part.Named n) = symbol_named t n.text (nonterminal_named t n.text)
symbol_of t (part.Literal s) = Quoted s.text

abbrev pub production : Table → Name → ℕ → Right → Production
production t n k r = record {
  name = n.text;
  left = nonterminal_in t n.text;
  of = unwrap_or (result_type t n) 0;
  right = map (symbol_of t) r.parts;
  expr = k;
}

abbrev pub productions_at : Table → ℕ → Decl → List Production
productions_at t k (decl.Productions n rights) = map_from (production t n) k rights
productions_at t k d = []

abbrev pub productions_in : Table → ℕ → List Decl → List Production
productions_in t k ds = each_from (productions_at t) k ds

-- entries
abbrev pub entry_at : Table → Decl → List Entry
entry_at t (decl.Entry n m a) = record { phylum = phylum_in t n.text; nonterminal = nonterminal_in t m.text } ∷ []
entry_at t d = []

-- precedence lines
abbrev pub levels_at : Decl → List LevelLine
levels_at (decl.Precedence g ls place) = record { group = g; literals = map (λ (s : String). s.text) ls } ∷ []
levels_at d = []

-- the expressions, and behind them the one that names the first of what an equation names: far attributes are handed
-- down by it
abbrev pub recorded_exprs : Table → List Decl → List Expr
recorded_exprs t ds = map (λ (x : TypedExpr). x.expr) (exprs_in t ds) ++ Named 0 ∷ []

-- the record, from the table of the declarations' names, their rules and their lexemes
unfoldable pub record_of : Table → List Decl → List Rule → List Lexeme → Spec
record_of t ds rules lexemes = record {
  phyla = t.phyla;
  ops = with_schemes (schemes_of t None ds) t.ops;
  exprs = recorded_exprs t ds;
  rules = rules;
  functions = with_bodies (bodies_in 0 ds) t.functions;
  transforms = transforms_in t 0 ds;
  lexemes = lexemes;
  productions = productions_in t 0 ds;
  entries = flat_map (entry_at t) ds;
  levels = flat_map levels_at ds;
  views = views_of t ds;
  root = t.root;
}
