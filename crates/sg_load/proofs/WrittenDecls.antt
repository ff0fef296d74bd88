-- A declaration whose spelling has lexemes of their forms has values as its literals.
use Rattle.std.proofs.Common.{List, [], ◌∷◌, ◌++◌, flat_map}
use Rattle.std.specs.List.{AllByRecursion, join_by}
use Rattle.sg_text.specs.declared.symbols.Symbol.TheVariants.{Colon, Equals, Semicolon, RightParenthesis, LeftBrace, RightBrace}
use Rattle.sg_ast.specs.Expressions.{Expr}
use Rattle.sg_ast.specs.Declarations.{Equation, Right, Decl, Root, Listed, Optional, Operators, LexemeOf, Attributes, Equations, Schemes, Function, Transform, Productions, Entry, Precedence}
use Rattle.sg_ast.specs.Spelling.{Piece, sign, bar, comma, spell_expr, spell_pattern, spell_target, spell_equation, spell_local, spell_param, spell_part, spell_right, spell}
use Rattle.sg_ast.specs.Grouped.{IsExpr, IsEquation, IsRight, IsTree}
use Rattle.sg_ast.specs.Written.{AreWritten, IsWritten}
use Rattle.sg_load.proofs.WrittenMarks.{AreFormed}
use Rattle.sg_load.proofs.WrittenTrees.{parts, pattern_written, expr_written}

-- an expression before other pieces
expr_before : (e : Expr) (ps : List Piece) → IsExpr e → AreFormed (spell_expr e ++ ps) → AreWritten e
expr_before e ps is h = expr_written e is.grouped (parts (spell_expr e) ps h).0

equation_written : (e : Equation) → IsEquation e → AreFormed (spell_equation e) → AreWritten e.expr
equation_written e is h =
    let s = parts (spell_target e.target) (sign Equals ∷ spell_expr e.expr ++ sign Semicolon ∷ []) h in
    expr_before e.expr (sign Semicolon ∷ []) is.1 s.1.1

equations_written : (es : List Equation) → AllByRecursion IsEquation es → AreFormed (flat_map spell_equation es) → AllByRecursion (λ (e : Equation). AreWritten e.expr) es
equations_written [] is h = tt
equations_written (e ∷ es) is h =
    let s = parts (spell_equation e) (flat_map spell_equation es) h in
    (equation_written e is.0 s.0, equations_written es is.1 s.1)

right_written : (r : Right) → IsRight r → AreFormed (spell_right r) → AreWritten r.expr
right_written r is h =
    let s = parts (flat_map spell_part r.parts) (sign RightParenthesis ∷ sign LeftBrace ∷ spell_expr r.expr ++ sign RightBrace ∷ []) h.1 in
    expr_before r.expr (sign RightBrace ∷ []) is s.1.1.1

more_rights_written : (rs : List Right) → AllByRecursion IsRight rs → AreFormed (flat_map (λ (r : Right). bar ++ spell_right r) rs) → AllByRecursion (λ (r : Right). AreWritten r.expr) rs
more_rights_written [] is h = tt
more_rights_written (r ∷ rs) is h =
    let s = parts (spell_right r) (flat_map (λ (r : Right). bar ++ spell_right r) rs) h.1 in
    (right_written r is.0 s.0, more_rights_written rs is.1 s.1)

rights_written : (rs : List Right) → AllByRecursion IsRight rs → AreFormed (join_by spell_right bar rs) → AllByRecursion (λ (r : Right). AreWritten r.expr) rs
rights_written [] is h = tt
rights_written (r ∷ rs) is h =
    let s = parts (spell_right r) (flat_map (λ (r : Right). bar ++ spell_right r) rs) h in
    (right_written r is.0 s.0, more_rights_written rs is.1 s.1)

pub decl_written : (d : Decl) → IsTree d → AreFormed (spell d) → IsWritten d
decl_written (Root n) is h = tt
decl_written (Listed n) is h = tt
decl_written (Optional listed n) is h = tt
decl_written (Operators n alts) is h = tt
decl_written (LexemeOf n s) is h = tt
decl_written (Attributes n attrs) is h = tt
decl_written (Equations n op locals es) is h =
    let s1 = parts (flat_map spell_local locals) (flat_map spell_equation es ++ sign RightBrace ∷ sign Semicolon ∷ []) h.1.1.1.1 in
    let s2 = parts (flat_map spell_equation es) (sign RightBrace ∷ sign Semicolon ∷ []) s1.1 in
    equations_written es is s2.0
decl_written (Schemes n op view schemes) is h = is.0
decl_written (Function t n params body) is h =
    let s = parts (join_by spell_param comma params) (sign RightParenthesis ∷ sign LeftBrace ∷ spell_expr body ++ sign RightBrace ∷ sign Semicolon ∷ []) h.1.1.1 in
    expr_before body (sign RightBrace ∷ sign Semicolon ∷ []) is s.1.1.1
decl_written (Transform n title q e) is h =
    let s = parts (spell_pattern q) (sign Colon ∷ spell_expr e ++ sign Semicolon ∷ []) h.1.1.1.1 in
    (pattern_written q is.0.numbers s.0, expr_before e (sign Semicolon ∷ []) is.1 s.1.1)
decl_written (Productions n rights) is h =
    let s = parts (join_by spell_right bar rights) (sign Semicolon ∷ []) h.1.1 in
    (is.0, rights_written rights is.1 s.0)
decl_written (Entry n m a) is h = tt
decl_written (Precedence g literals place) is h = tt
