-- Nodes as trees, and a function value that reads expressions of at most so many nodes in depth.
use Rattle.std.specs.Prelude.{ℕ, List, map, Result}
use Rattle.std.specs.declared.alloc.Global.{Global}
use denote.Ref.{MutBor}
use Rattle.sg_ast.specs.Patterns.{Pattern}
use Rattle.sg_ast.specs.Expressions.{Expr}
use Rattle.sg_ast.specs.View.{expr_of, case_of}
use Rattle.sg_ast.specs.ReadingExpressions.{expr_within}
use Rattle.sg_cursor.specs.declared.refusal.Refusal.{Refusal}
use Rattle.sg_cursor.specs.declared.tokens.Tokens.{Tokens}
use Rattle.sg_expressions.specs.declared.nodes.Node.{Node}
use Rattle.sg_expressions.specs.declared.nodes.Nodes.{Nodes}
use Rattle.sg_expressions.specs.declared.nodes.CaseNodes.{CaseNodes}
use Rattle.sg_cursor.specs.Left.{left_of, Reads}

abbrev pub node_of : Node → Expr
node_of n = expr_of n.expr

abbrev pub nodes_of : Nodes → List Expr
nodes_of n = map expr_of n.exprs.items

abbrev pub cases_in : CaseNodes → List (Pattern × Expr)
cases_in n = map case_of n.cases.items

pub record Nests (depth : ℕ) (pre : Global → MutBor Tokens → ℕ → ℕ → Type 0)
    (post : Global → MutBor Tokens → ℕ → ℕ → Result Node Refusal → MutBor Tokens → Type 0) : Type 0 where
  pub callable : (alloc : Global) (old : MutBor Tokens) (least : ℕ) → pre alloc old depth least
  pub reads : (alloc : Global) (old new : MutBor Tokens) (least : ℕ) (r : Result Node Refusal)
      → post alloc old depth least r new
      → Reads node_of (expr_within depth least (left_of old.now)) r (left_of new.now)
