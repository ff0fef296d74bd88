-- Worked rows of the reading.
use Rattle.std.proofs.Common.{◌≡◌, ℕ, zero, suc, ◌+◌, true, false, List, [], ◌∷◌, Some, None, refl}
use Rattle.std.specs.Prelude.{codes, is_some}
use Rattle.sg_text.specs.declared.symbols.Symbol.TheVariants as s
use Rattle.sg_text.specs.declared.words.Keyword.TheVariants as keyword
use Rattle.sg_text.specs.Lexemes.{Lexeme, Word, Reserved, Numeral, Literal, Sign}
use Rattle.sg_kinds.specs.declared.fault.Position.{Position}
use Rattle.sg_kinds.specs.declared.marks.Group.TheVariants.{Left}
use Rattle.sg_ast.specs.declared.name.Name.{Name}
use Rattle.sg_ast.specs.declared.name.Occurrence.TheVariants.{Own}
use Rattle.sg_ast.specs.declared.expr.Infix.TheVariants as infixes
use Rattle.sg_ast.specs.declared.decl.Target.TheVariants as target
use Rattle.sg_ast.specs.Patterns as p
use Rattle.sg_ast.specs.Expressions.{Expr, Amount, Variable, Remote, Binary, Choice, With, Default}
use Rattle.sg_ast.specs.Declarations.{Root, Equations, Schemes, Precedence}
use Rattle.sg_ast.specs.Spelling.{Mark}
use Rattle.sg_ast.specs.Readers.{Outcome, sees, eat, expect, name, number, string, quoted, more}
use Rattle.sg_ast.specs.ReadingNames.{named_reference, own_reference, target_of, truth, another, separated, pair, negative, signed_pattern, pattern_by, pattern_within}
use Rattle.sg_ast.specs.ReadingExpressions.{remote, paren, case, sees_case, default_case, with_cases, named_expr, signed_expr, reserved_expr, operand, shallow, next_infix, climb, chosen, expr_by, expr_within, expr}
use Rattle.sg_ast.specs.Reading.{local, equation, equations, resting, editing, scheme, view_of, schemes, grouped, precedence, root, of_operator, of_colon, of_phylum, of_name, declaration, decl_of}

abbrev at : ℕ → Position
at k = record { token = k; line = 1 }

-- lexemes on the first line, numbered from this one on
abbrev numbered : ℕ → List Lexeme → List Mark
numbered k [] = []
numbered k (l ∷ ls) = (l, at k) ∷ numbered (k + 1) ls

abbrev named : List ℕ → ℕ → Name
named w k = record { text = w; place = at k }

abbrev a : ℕ → Expr
a k = Variable (named (codes "a") k)

abbrev names : List ℕ → Lexeme
names w = Word w

-- `root calc;`
root_reads : decl_of (numbered 4 (Reserved keyword.Root ∷ Word (codes "calc") ∷ Sign s.Semicolon ∷ [])) ≡ Some (Root (named (codes "calc") 5))
unfolding sees expect name root declaration decl_of
root_reads = refl

-- `p : O { $$.v = 1; };`
equation_reads : decl_of (numbered 0 (Word (codes "p") ∷ Sign s.Colon ∷ Word (codes "O") ∷ Sign s.LeftBrace ∷ Sign s.DollarDollar ∷ Sign s.Dot ∷ Word (codes "v") ∷ Sign s.Equals ∷ Numeral 1 ∷ Sign s.Semicolon ∷ Sign s.RightBrace ∷ Sign s.Semicolon ∷ []))
    ≡ Some (Equations (named (codes "p") 0) (named (codes "O") 2) [] (record { target = target.Attribute (record { of = Own (at 4); attr = named (codes "v") 6 }); expr = Amount 1 (at 8) } ∷ []))
unfolding sees eat expect name number string more own_reference named_reference target_of truth shallow next_infix operand climb chosen expr_by expr_within local equation equations of_operator of_colon of_phylum of_name declaration decl_of
equation_reads = refl

-- what an expression of names `a` with these lexemes between them is
abbrev read : List Lexeme → Outcome Expr
read ls = expr (numbered 0 ls)

-- `a - a * a - a` is `(a - a * a) - a`
left_grouped : read (names (codes "a") ∷ Sign s.Minus ∷ names (codes "a") ∷ Sign s.Star ∷ names (codes "a") ∷ Sign s.Minus ∷ names (codes "a") ∷ [])
    ≡ Some (Binary infixes.Sub (Binary infixes.Sub (a 0) (Binary infixes.Mul (a 2) (a 4))) (a 6), [])
unfolding sees expect name operand named_expr shallow next_infix climb chosen expr_by expr_within
left_grouped = refl

-- `a :: a :: a` is `a :: (a :: a)`
right_grouped : read (names (codes "a") ∷ Sign s.ColonColon ∷ names (codes "a") ∷ Sign s.ColonColon ∷ names (codes "a") ∷ [])
    ≡ Some (Binary infixes.Cons (a 0) (Binary infixes.Cons (a 2) (a 4)), [])
unfolding sees expect name operand named_expr shallow next_infix climb chosen expr_by expr_within
right_grouped = refl

-- of `a < a < a` the second `<` is left
comparison_once : read (names (codes "a") ∷ Sign s.Less ∷ names (codes "a") ∷ Sign s.Less ∷ names (codes "a") ∷ [])
    ≡ Some (Binary infixes.Below (a 0) (a 2), numbered 3 (Sign s.Less ∷ names (codes "a") ∷ []))
unfolding sees expect name operand named_expr shallow next_infix climb chosen expr_by expr_within
comparison_once = refl

-- `a ? a : a ? a : a` is `a ? a : (a ? a : a)`
choice_grouped : read (names (codes "a") ∷ Sign s.Question ∷ names (codes "a") ∷ Sign s.Colon ∷ names (codes "a") ∷ Sign s.Question ∷ names (codes "a") ∷ Sign s.Colon ∷ names (codes "a") ∷ [])
    ≡ Some (Choice (a 0) (a 2) (Choice (a 4) (a 6) (a 8)), [])
unfolding sees expect name operand named_expr shallow next_infix climb chosen expr_by expr_within
choice_grouped = refl

-- `with (a) (-5 : 0, default : 1)`
with_reads : read (Reserved keyword.With ∷ Sign s.LeftParenthesis ∷ names (codes "a") ∷ Sign s.RightParenthesis ∷ Sign s.LeftParenthesis ∷ Sign s.Minus ∷ Numeral 5 ∷ Sign s.Colon ∷ Numeral 0 ∷ Sign s.Comma ∷ Reserved keyword.Default ∷ Sign s.Colon ∷ Numeral 1 ∷ Sign s.RightParenthesis ∷ [])
    ≡ Some (With (a 2) (p.Amount true 5 (at 5)) (Amount 0 (at 8)) (Default (Amount 1 (at 12))) (at 0), [])
unfolding sees expect name number more truth another negative signed_pattern pattern_by pattern_within case sees_case default_case with_cases reserved_expr operand named_expr shallow next_infix climb chosen expr_by expr_within
with_reads = refl

-- `{r.n, r.m}`
enclosing_reads : read (Sign s.LeftBrace ∷ names (codes "r") ∷ Sign s.Dot ∷ names (codes "n") ∷ Sign s.Comma ∷ names (codes "r") ∷ Sign s.Dot ∷ names (codes "m") ∷ Sign s.RightBrace ∷ [])
    ≡ Some (Remote (record { pairs = record { phylum = named (codes "r") 1; attr = named (codes "n") 3 } ∷ record { phylum = named (codes "r") 5; attr = named (codes "m") 7 } ∷ []; place = at 0 }), [])
unfolding sees expect name more another separated pair remote signed_expr operand named_expr shallow next_infix climb chosen expr_by expr_within
enclosing_reads = refl

-- `{}` is no expression
nothing_enclosing_refused : read (Sign s.LeftBrace ∷ Sign s.RightBrace ∷ []) ≡ None
unfolding sees expect name separated pair remote signed_expr operand expr_by expr_within
nothing_enclosing_refused = refl

-- `left '+' '-';`
line_reads : decl_of (numbered 0 (Word (codes "left") ∷ Literal (codes "+") ∷ Literal (codes "-") ∷ Sign s.Semicolon ∷ []))
    ≡ Some (Precedence Left (record { text = codes "+"; place = at 1 } ∷ record { text = codes "-"; place = at 2 } ∷ []) (at 0))
unfolding sees expect name quoted more grouped precedence of_name declaration decl_of
line_reads = refl

-- `above '+';` is no declaration
other_word_refused : decl_of (numbered 0 (Word (codes "above") ∷ Literal (codes "+") ∷ Sign s.Semicolon ∷ [])) ≡ None
unfolding sees name precedence of_name declaration decl_of
other_word_refused = refl

-- `p : O in v [ ^ : ];`
view_reads : decl_of (numbered 0 (Word (codes "p") ∷ Sign s.Colon ∷ Word (codes "O") ∷ Reserved keyword.In ∷ Word (codes "v") ∷ Sign s.LeftBracket ∷ Sign s.Caret ∷ Sign s.Colon ∷ Sign s.RightBracket ∷ Sign s.Semicolon ∷ []))
    ≡ Some (Schemes (named (codes "p") 0) (named (codes "O") 2) (Some (named (codes "v") 4)) (record { place = at 5; rests = false; editable = false; items = [] } ∷ []))
unfolding sees eat expect name more resting editing scheme view_of schemes of_operator of_colon of_phylum of_name declaration decl_of
view_reads = refl

-- so many parentheses around `a`
abbrev closed : ℕ → List Lexeme
closed zero = []
closed (suc n) = Sign s.RightParenthesis ∷ closed n

abbrev nested : ℕ → ℕ → List Lexeme
nested zero m = names (codes "a") ∷ closed m
nested (suc n) m = Sign s.LeftParenthesis ∷ nested n m

-- an expression that is 128 nodes deep, and one of 129
deepest_reads : is_some (read (nested 127 127)) ≡ true
unfolding sees expect name paren signed_expr operand named_expr shallow next_infix climb chosen expr_by expr_within
deepest_reads = refl

too_deep_refused : read (nested 128 128) ≡ None
unfolding sees expect name paren signed_expr operand named_expr shallow next_infix climb chosen expr_by expr_within
too_deep_refused = refl
