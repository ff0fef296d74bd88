-- Five small languages, for worked examples.
use Rattle.std.specs.Prelude.{ℕ, pos, false, List, [], ◌∷◌}
use Rattle.sg_kinds.specs.Values.{Number}
use Rattle.sg_kinds.specs.Specification.{Spec, Shape, Phylum, Attr, Operator, Rule, Occurrence, Production, Symbol}
use Rattle.sg_kinds.specs.Expressions.{Expr, Exprs, Constant, Named, MadeOf, Single, Binary, Choice, Apply, Call, With, NoExpr, AndExpr, NoCase, Case, Variable, Applied, NoPattern, AndPattern}
use Rattle.sg_kinds.specs.Lexemes.{Class, Then, Several, Many}
use Rattle.sg_kinds.specs.declared.spec.Symbol.TheVariants.{Quoted, Lexical, Nonterminal}
use Rattle.sg_kinds.specs.declared.marks.Made.TheVariants.{Placeholder}
use Rattle.sg_kinds.specs.Typing.{whitespace}
use Rattle.sg_kinds.specs.declared.marks.Unary.TheVariants.{TextToNumber}
use Rattle.sg_kinds.specs.declared.marks.Shape.TheVariants.{Truths, Numbers, Texts, Lexemes, Ordinary, Listed}
use Rattle.sg_kinds.specs.declared.marks.Way.TheVariants.{Synthesized, Inherited}
use Rattle.sg_kinds.specs.declared.marks.Sign.TheVariants.{Add, Sub, Equal, Below}

-- short forms
abbrev pub syn : ℕ → Attr
syn of = record { name = []; way = Synthesized; of = of; far = [] }

abbrev pub inh : ℕ → Attr
inh of = record { name = []; way = Inherited; of = of; far = [] }

abbrev pub phylum : Shape → List ℕ → List Attr → Phylum
phylum shape ops attrs = record { name = []; shape = shape; ops = ops; attrs = attrs }

abbrev pub operator : ℕ → List ℕ → Operator
operator p args = record { name = []; phylum = p; args = args; locals = []; schemes = [] }

abbrev pub at : ℕ → ℕ → Occurrence
at k slot = record { at = k; slot = slot }

abbrev pub rule : ℕ → Occurrence → List Occurrence → ℕ → Rule
rule op target args expr = record { op = op; target = target; args = args; expr = expr }

abbrev pub production : ℕ → List Symbol → ℕ → Production
production left right expr = record { name = []; left = left; of = 4; right = right; expr = expr }

abbrev pub exprs_of : List Expr → Exprs
exprs_of [] = NoExpr
exprs_of (e ∷ es) = AndExpr e (exprs_of es)

abbrev pub num : ℕ → Expr
num n = Constant (Number (pos n))

abbrev pub base : List Phylum → List Phylum
base more = phylum Truths [] (syn 0 ∷ []) ∷ phylum Numbers [] (syn 1 ∷ []) ∷ phylum Texts [] (syn 2 ∷ []) ∷ more

-- sums: calc 3, exp 4, NUM 5, WHITESPACE 6; CalcTop 0, Null 1, Sum 2, Const 3; nonterminals E 0, T 1
abbrev pub sums : Spec
sums = record {
  phyla = base (phylum Ordinary (0 ∷ []) [] ∷ phylum Ordinary (1 ∷ 2 ∷ 3 ∷ []) (syn 1 ∷ []) ∷ phylum (Lexemes 0) [] (syn 5 ∷ []) ∷ record (phylum (Lexemes 1) [] (syn 6 ∷ [])) { name = whitespace } ∷ []);
  ops = operator 3 (4 ∷ []) ∷ operator 4 [] ∷ operator 4 (4 ∷ 4 ∷ []) ∷ operator 4 (1 ∷ []) ∷ [];
  exprs = num 0 ∷ Binary Add (Named 0) (Named 1) ∷ Named 0 ∷ Apply 2 (exprs_of (Named 0 ∷ MadeOf Placeholder 4 ∷ []))
      ∷ Apply 2 (exprs_of (Named 0 ∷ Named 1 ∷ [])) ∷ Apply 3 (exprs_of (Single TextToNumber (Named 0) ∷ [])) ∷ [];
  rules = rule 1 (at 0 0) [] 0 ∷ rule 2 (at 0 0) (at 1 0 ∷ at 2 0 ∷ []) 1 ∷ rule 3 (at 0 0) (at 1 0 ∷ []) 2 ∷ [];
  functions = [];
  transforms = record { name = 43 ∷ []; phylum = 4; pattern = Variable; expr = 3 } ∷ [];
  lexemes = Several (Class false ((48, 57) ∷ [])) ∷ Several (Class false ((32, 32) ∷ (10, 10) ∷ [])) ∷ [];
  productions = production 0 (Nonterminal 0 ∷ Quoted (43 ∷ []) ∷ Nonterminal 1 ∷ []) 4 ∷ production 0 (Nonterminal 1 ∷ []) 2
      ∷ production 1 (Lexical 5 ∷ []) 5 ∷ production 1 (Quoted (40 ∷ []) ∷ Nonterminal 0 ∷ Quoted (41 ∷ []) ∷ []) 2 ∷ [];
  entries = record { phylum = 4; nonterminal = 0 } ∷ [];
  levels = [];
  views = record { names = []; rows = [] };
  root = 3;
}

-- the body of `look`: with (e) (NoEnv() : 0 - 1, Bind(n, v, r) : n == k ? v : look(k, r))
abbrev pub look : Expr
look = With (Named 1) (Case (Applied 6 NoPattern) (Binary Sub (num 0) (num 1))
    (Case (Applied 7 (AndPattern Variable (AndPattern Variable (AndPattern Variable NoPattern))))
    (Choice (Binary Equal (Named 2) (Named 0)) (Named 3) (Call 0 (exprs_of (Named 0 ∷ Named 4 ∷ [])))) NoCase))

-- lets: prog 3, stmts 4, stmt 5, env 6, ID 7; Prog 0, NoStmts 1, Stmts 2, Empty 3, Decl 4, Print 5, NoEnv 6, Bind 7
abbrev pub lets : Spec
lets = record {
  phyla = base (phylum Ordinary (0 ∷ []) [] ∷ phylum Listed (1 ∷ 2 ∷ []) (inh 6 ∷ syn 1 ∷ []) ∷ phylum Ordinary (3 ∷ 4 ∷ 5 ∷ []) (inh 6 ∷ syn 6 ∷ syn 1 ∷ [])
      ∷ phylum Ordinary (6 ∷ 7 ∷ []) [] ∷ phylum (Lexemes 0) [] (syn 7 ∷ []) ∷ []);
  ops = operator 3 (4 ∷ []) ∷ operator 4 [] ∷ operator 4 (5 ∷ 4 ∷ []) ∷ operator 5 [] ∷ operator 5 (7 ∷ 1 ∷ [])
      ∷ record (operator 5 (7 ∷ [])) { locals = record { name = []; of = 1 } ∷ [] } ∷ operator 6 [] ∷ operator 6 (7 ∷ 1 ∷ 6 ∷ []) ∷ [];
  exprs = look ∷ Apply 6 NoExpr ∷ num 0 ∷ Named 0 ∷ Binary Add (Named 0) (Named 1) ∷ Apply 7 (exprs_of (Named 0 ∷ Named 1 ∷ Named 2 ∷ []))
      ∷ Call 0 (exprs_of (Named 0 ∷ Named 1 ∷ [])) ∷ Choice (Binary Below (Named 0) (num 0)) (num 1) (num 0) ∷ [];
  rules = rule 0 (at 1 0) [] 1 ∷ rule 1 (at 0 1) [] 2 ∷ rule 2 (at 1 0) (at 0 0 ∷ []) 3 ∷ rule 2 (at 2 0) (at 1 1 ∷ []) 3 ∷ rule 2 (at 0 1) (at 1 2 ∷ at 2 1 ∷ []) 4
      ∷ rule 3 (at 0 1) (at 0 0 ∷ []) 3 ∷ rule 3 (at 0 2) [] 2 ∷ rule 4 (at 0 1) (at 1 0 ∷ at 2 0 ∷ at 0 0 ∷ []) 5 ∷ rule 4 (at 0 2) [] 2
      ∷ rule 5 (at 0 3) (at 1 0 ∷ at 0 0 ∷ []) 6 ∷ rule 5 (at 0 1) (at 0 0 ∷ []) 3 ∷ rule 5 (at 0 2) (at 0 3 ∷ []) 7 ∷ [];
  functions = record { name = []; params = 7 ∷ 6 ∷ []; result = 1; body = 0 } ∷ [];
  transforms = [];
  lexemes = Then (Class false ((97, 122) ∷ [])) (Many (Class false ((97, 122) ∷ (48, 57) ∷ []))) ∷ [];
  productions = [];
  entries = [];
  levels = [];
  views = record { names = []; rows = [] };
  root = 3;
}

-- a source and its use: prog 3, src 4, use 5; Prog 0, Zero 1, One 2, Use 3
abbrev pub uses : Spec
uses = record {
  phyla = base (phylum Ordinary (0 ∷ []) [] ∷ phylum Ordinary (1 ∷ 2 ∷ []) (syn 1 ∷ []) ∷ phylum Ordinary (3 ∷ []) (inh 1 ∷ inh 1 ∷ syn 1 ∷ []) ∷ []);
  ops = operator 3 (4 ∷ 5 ∷ []) ∷ operator 4 [] ∷ operator 4 [] ∷ operator 5 [] ∷ [];
  exprs = num 0 ∷ num 1 ∷ Named 0 ∷ Binary Add (Named 0) (num 1) ∷ Binary Add (Named 0) (Named 1) ∷ [];
  rules = rule 1 (at 0 0) [] 0 ∷ rule 2 (at 0 0) [] 1 ∷ rule 0 (at 2 0) (at 1 0 ∷ []) 2 ∷ rule 0 (at 2 1) (at 1 0 ∷ []) 3 ∷ rule 3 (at 0 2) (at 0 0 ∷ at 0 1 ∷ []) 4 ∷ [];
  functions = [];
  transforms = [];
  lexemes = [];
  productions = [];
  entries = [];
  levels = [];
  views = record { names = []; rows = [] };
  root = 3;
}

-- runaway functions: f(a) = f(a), and g(n) = n == 0 ? 1 : g(n - 1) + g(n - 1)
abbrev pub runaways : Spec
runaways = record {
  phyla = base [];
  ops = [];
  exprs = Call 0 (exprs_of (Named 0 ∷ [])) ∷ Choice (Binary Equal (Named 0) (num 0)) (num 1) (Binary Add (Call 1 (exprs_of (Binary Sub (Named 0) (num 1) ∷ []))) (Call 1 (exprs_of (Binary Sub (Named 0) (num 1) ∷ [])))) ∷ Call 0 (exprs_of (num 1 ∷ [])) ∷ Call 1 (exprs_of (num 20 ∷ [])) ∷ [];
  rules = [];
  functions = record { name = []; params = 1 ∷ []; result = 1; body = 0 } ∷ record { name = []; params = 1 ∷ []; result = 1; body = 1 } ∷ [];
  transforms = [];
  lexemes = [];
  productions = [];
  entries = [];
  levels = [];
  views = record { names = []; rows = [] };
  root = 0;
}

-- two visits that meet: r 3, x 4; P 0, X 1; x has i, j inherited, s, t synthesized
abbrev pub meeting : Spec
meeting = record {
  phyla = base (phylum Ordinary (0 ∷ []) [] ∷ phylum Ordinary (1 ∷ []) (inh 1 ∷ inh 1 ∷ syn 1 ∷ syn 1 ∷ []) ∷ []);
  ops = operator 3 (4 ∷ 4 ∷ []) ∷ operator 4 [] ∷ [];
  exprs = Named 0 ∷ num 0 ∷ [];
  rules = rule 1 (at 0 2) (at 0 0 ∷ []) 0 ∷ rule 1 (at 0 3) (at 0 1 ∷ []) 0
      ∷ rule 0 (at 1 0) (at 2 2 ∷ []) 0 ∷ rule 0 (at 1 1) [] 1 ∷ rule 0 (at 2 0) [] 1 ∷ rule 0 (at 2 1) (at 1 3 ∷ []) 0 ∷ [];
  functions = [];
  transforms = [];
  lexemes = [];
  productions = [];
  entries = [];
  levels = [];
  views = record { names = []; rows = [] };
  root = 3;
}
