-- The mismatches of cases, one case after the other, and of arguments for which no type is left.
use Rattle.std.proofs.Common.{◌≡◌, refl, ap, ◌∙◌, ℕ, List, [], ◌∷◌, ◌++◌, Option, Some, append_assoc}
use Rattle.std.proofs.lemmas.List.{append-nil}
use Rattle.sg_ast.specs.Expressions.{Expr, Exprs, Cases, NoExpr, AndExpr, Case}
use Rattle.sg_ast.specs.Patterns.{Pattern}
use Rattle.sg_names.specs.declared.table.Table.{Table}
use Rattle.sg_types.specs.Bindings.{Owner}
use Rattle.sg_types.specs.Patterns.{variables_of}
use Rattle.sg_types.specs.declared.scope.Variable.{Variable}
use Rattle.sg_mistyped.specs.Mistyped.{of_pattern, of_body, of_exprs, of_cases}
use Rattle.sg_mistyped.specs.declared.mistyped.Mistyped.{Mistyped}

pub case_goes : (t : Table) (w : Owner) (vs : List Variable) (subject wanted : Option ℕ) (q : Pattern) (e : Expr) (cs : Cases) (xs ys whole : List Mistyped)
    → ys ≡ xs ++ (of_pattern t q subject ++ of_body t w (vs ++ variables_of t q subject) wanted e)
    → xs ++ of_cases t w vs subject wanted (Case q e cs) ≡ whole → ys ++ of_cases t w vs subject wanted cs ≡ whole
case_goes t w vs subject wanted q e cs xs ys whole is h =
    let ps = of_pattern t q subject in
    let bs = of_body t w (vs ++ variables_of t q subject) wanted e in
    let rest = of_cases t w vs subject wanted cs in
    ap (λ l. l ++ rest) is ∙ append_assoc xs (ps ++ bs) rest ∙ ap (λ l. xs ++ l) (append_assoc ps bs rest) ∙ h

pub none_wanted : (t : Table) (w : Owner) (vs : List Variable) (es : Exprs) → of_exprs t w vs es [] ≡ []
none_wanted t w vs NoExpr = refl
none_wanted t w vs (AndExpr e es) = refl

-- of one argument
pub one_wanted : (t : Table) (w : Owner) (vs : List Variable) (e : Expr) (es : Exprs) (p : ℕ) → of_exprs t w vs (AndExpr e es) (p ∷ []) ≡ of_body t w vs (Some p) e
one_wanted t w vs e es p = ap (λ l. of_body t w vs (Some p) e ++ l) (none_wanted t w vs es) ∙ append-nil (of_body t w vs (Some p) e)
