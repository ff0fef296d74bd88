-- Chains of cases that are made from their ends, and put together from their fronts.
use Rattle.std.proofs.Common.{◌≡◌, ℕ, Option, List, [], ◌∷◌, ◌++◌, map, refl, sym, ap, ◌∙◌}
use Rattle.std.proofs.lemmas.List.{map_push}
use Rattle.sg_kinds.specs.Expressions.{Pattern, Expr, Cases, Case}
use Rattle.sg_kinds.specs.PatternView.{pattern_of}
use Rattle.sg_kinds.specs.declared.fault.Position.{Position}
use Rattle.sg_kinds.specs.declared.expr.ExprTree.{ExprTree}
use Rattle.sg_ast.specs.Patterns as plain
use Rattle.sg_ast.specs.Expressions as tree
use Rattle.sg_ast.specs.FirstFault.{or_else}
use Rattle.sg_ast.specs.Chains.{expr_place}
use Rattle.sg_ast.proofs.FirstLaws.{or_else_assoc}
use Rattle.sg_names.specs.declared.table.Table.{Table}
use Rattle.sg_types.specs.declared.scope.Variable.{Variable}
use Rattle.sg_types.specs.declared.found.FoundCase.{FoundCase}
use Rattle.sg_types.specs.Bindings.{Owner}
use Rattle.sg_types.specs.Patterns.{mismatch_in, variables_of}
use Rattle.sg_types.specs.Expressions.{type_in, mismatch_in as inside, where_wanted, mismatch_in_cases, recorded_cases}
use Rattle.sg_types.specs.ExpressionsView.{IsCase, with_cases, case_of}

or_else_twice : {A : Type 0} (a b c d : Option A) → or_else (or_else a (or_else b c)) d ≡ or_else a (or_else b (or_else c d))
or_else_twice a b c d = or_else_assoc a (or_else b c) d ∙ ap (or_else a) (or_else_assoc b c d)

pub with_cases-push : (xs : List (Pattern × Expr)) (x : Pattern × Expr) (cs : Cases) → with_cases (xs ++ x ∷ []) cs ≡ with_cases xs (Case x.0 x.1 cs)
with_cases-push [] x cs = refl
with_cases-push (y ∷ xs) x cs = ap (Case y.0 y.1) (with_cases-push xs x cs)

-- the last of a list goes onto the chain
pub case_moves : {X : Type 0} {whole : Cases} (f : X → Pattern × Expr) (xs ys : List X) (x : X) (cs : Cases) → ys ≡ xs ++ x ∷ [] → with_cases (map f ys) cs ≡ whole → with_cases (map f xs) (Case (f x).0 (f x).1 cs) ≡ whole
case_moves f xs ys x cs is e = sym (with_cases-push (map f xs) (f x) cs) ∙ ap (λ (l : List _). with_cases l cs) (sym (map_push f xs x)) ∙ ap (λ (l : List _). with_cases (map f l) cs) (sym is) ∙ e

-- the first of a chain goes behind a list
pub case_taken : {X : Type 0} {whole : Cases} (f : X → Pattern × Expr) (xs ys : List X) (x : X) (cs : Cases) → ys ≡ xs ++ x ∷ [] → with_cases (map f xs) (Case (f x).0 (f x).1 cs) ≡ whole → with_cases (map f ys) cs ≡ whole
case_taken f xs ys x cs is e = ap (λ (l : List _). with_cases (map f l) cs) is ∙ ap (λ (l : List _). with_cases l cs) (map_push f xs x) ∙ with_cases-push (map f xs) (f x) cs ∙ e

module _ (t : Table) (w : Owner) (vs : List Variable) (subject wanted : Option ℕ) (q : plain.Pattern) (e : tree.Expr) (cs : tree.Cases) (f : FoundCase) (is : IsCase t w vs subject q e f) where
  -- the mismatch of one case more
  pub mismatch_goes : (m whole : Option Position) → or_else m (mismatch_in_cases t w vs subject wanted (tree.Case q e cs)) ≡ whole
      → or_else (or_else m (or_else f.pattern.mismatch (where_wanted t wanted f.body.of f.body.place f.body.mismatch))) (mismatch_in_cases t w vs subject wanted cs) ≡ whole
  mismatch_goes m whole h =
      let vars = vs ++ variables_of t q subject in
      rw (is.pattern.mismatch, is.body.of, is.body.place, is.body.mismatch) (or_else_twice m (mismatch_in t q subject) (where_wanted t wanted (type_in t w vars e) (expr_place e) (inside t w vars e)) (mismatch_in_cases t w vs subject wanted cs) ∙ h)

  -- one case more of the record
  pub list_goes : (xs ys : List (Pattern × ExprTree)) (whole : Cases) → ys ≡ xs ++ (pattern_of f.pattern.tree, f.body.tree) ∷ []
      → with_cases (map case_of xs) (recorded_cases t w vs subject (tree.Case q e cs)) ≡ whole
      → with_cases (map case_of ys) (recorded_cases t w vs subject cs) ≡ whole
  list_goes xs ys whole more h = case_taken case_of xs ys (pattern_of f.pattern.tree, f.body.tree) (recorded_cases t w vs subject cs) more (rw (is.pattern.tree, is.body.tree) h)
