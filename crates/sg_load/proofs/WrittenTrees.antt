-- A tree whose spelling has lexemes of their forms has values as its literals.
use Rattle.std.proofs.Common.{List, [], ◌∷◌, ◌++◌}
use Rattle.sg_text.specs.declared.symbols.Symbol.TheVariants.{Colon, Question, LeftParenthesis, RightParenthesis}
use Rattle.sg_text.specs.declared.words.Keyword.TheVariants as keyword
use Rattle.sg_ast.specs.Levels.{symbol_of}
use Rattle.sg_ast.specs.Patterns.{Pattern, Patterns, NoPattern, AndPattern}
use Rattle.sg_ast.specs.Patterns as p
use Rattle.sg_ast.specs.Expressions.{Expr, Exprs, Cases, Amount, Chars, Truth, Variable, Attribute, Remote, MadeOf, Paren, Single, Binary, Choice, Call, Let, With, NoExpr, AndExpr, NoCase, Default, Case}
use Rattle.sg_ast.specs.Spelling.{Piece, sign, word, spell_pattern, spell_patterns, spell_more_patterns, spell_expr, spell_exprs, spell_more_exprs, spell_cases}
use Rattle.sg_ast.specs.Grouped.{HasNumbers, HaveNumbers, IsGrouped, AreGrouped, HasGrouped}
use Rattle.sg_ast.specs.Written.{HasValues, HaveValues, AreWritten, AreWrittenAll, AreWrittenCases}
use Rattle.sg_resolve.proofs.ShapeLists.{each_split}
use Rattle.sg_load.proofs.WrittenText.{HasForm}
use Rattle.sg_load.proofs.WrittenMarks.{lexeme_in, AreFormed}

-- the lexemes of a spelling in two parts
pub parts : (xs ys : List Piece) → AreFormed (xs ++ ys) → AreFormed xs × AreFormed ys
parts xs ys h = each_split (λ (x : Piece). HasForm (lexeme_in x)) xs ys h

mutual
  pub pattern_written : (q : Pattern) → HasNumbers q → AreFormed (spell_pattern q) → HasValues q
  pattern_written (p.Amount negative n place) range h = range
  pattern_written (p.Chars s) range h = h.0
  pattern_written (p.Truth b place) range h = tt
  pattern_written (p.Anything place) range h = tt
  pattern_written (p.Variable n) range h = tt
  pattern_written (p.MadeAs made n place) range h = tt
  pattern_written (p.Applied n xs) range h =
      patterns_written xs range (parts (spell_patterns xs) (sign RightParenthesis ∷ []) h.1.1).0

  patterns_written : (xs : Patterns) → HaveNumbers xs → AreFormed (spell_patterns xs) → HaveValues xs
  patterns_written NoPattern range h = tt
  patterns_written (AndPattern x xs) range h =
      let s = parts (spell_pattern x) (spell_more_patterns xs) h in
      (pattern_written x range.0 s.0, more_patterns_written xs range.1 s.1)

  more_patterns_written : (xs : Patterns) → HaveNumbers xs → AreFormed (spell_more_patterns xs) → HaveValues xs
  more_patterns_written NoPattern range h = tt
  more_patterns_written (AndPattern x xs) range h =
      let s = parts (spell_pattern x) (spell_more_patterns xs) h.1 in
      (pattern_written x range.0 s.0, more_patterns_written xs range.1 s.1)

mutual
  pub expr_written : (e : Expr) → IsGrouped e → AreFormed (spell_expr e) → AreWritten e
  expr_written (Amount n place) g h = g
  expr_written (Chars s) g h = h.0
  expr_written (Truth b place) g h = tt
  expr_written (Variable n) g h = tt
  expr_written (Attribute r) g h = tt
  expr_written (Remote r) g h = tt
  expr_written (MadeOf made n place) g h = tt
  expr_written (Paren a place) g h = expr_written a g (parts (spell_expr a) (sign RightParenthesis ∷ []) h.1).0
  expr_written (Single f a place) g h = expr_written a g.1 h.1
  expr_written (Binary s a b) g h =
      let t = parts (spell_expr a) (sign (symbol_of s) ∷ spell_expr b) h in
      (expr_written a g.2 t.0, expr_written b g.3 t.1.1)
  expr_written (Choice a b c) g h =
      let s1 = parts (spell_expr a) (sign Question ∷ spell_expr b ++ (sign Colon ∷ spell_expr c)) h in
      let s2 = parts (spell_expr b) (sign Colon ∷ spell_expr c) s1.1.1 in
      (expr_written a g.1 s1.0, expr_written b g.2 s2.0, expr_written c g.3 s2.1.1)
  expr_written (Call n es) g h = exprs_written es g (parts (spell_exprs es) (sign RightParenthesis ∷ []) h.1.1).0
  expr_written (Let n a b place) g h =
      let s1 = parts (spell_expr a) (word keyword.In ∷ sign LeftParenthesis ∷ spell_expr b ++ sign RightParenthesis ∷ []) h.1.1.1 in
      let s2 = parts (spell_expr b) (sign RightParenthesis ∷ []) s1.1.1.1 in
      (expr_written a g.0 s1.0, expr_written b g.1 s2.0)
  expr_written (With a q b cs place) g h =
      let s1 = parts (spell_expr a) (sign RightParenthesis ∷ sign LeftParenthesis ∷ spell_pattern q ++ (sign Colon ∷ spell_expr b ++ (spell_cases cs ++ sign RightParenthesis ∷ []))) h.1.1 in
      let s2 = parts (spell_pattern q) (sign Colon ∷ spell_expr b ++ (spell_cases cs ++ sign RightParenthesis ∷ [])) s1.1.1.1 in
      let s3 = parts (spell_expr b) (spell_cases cs ++ sign RightParenthesis ∷ []) s2.1.1 in
      let s4 = parts (spell_cases cs) (sign RightParenthesis ∷ []) s3.1 in
      (expr_written a g.0 s1.0, pattern_written q g.1.numbers s2.0, expr_written b g.2 s3.0, cases_written cs g.3 s4.0)

  exprs_written : (es : Exprs) → AreGrouped es → AreFormed (spell_exprs es) → AreWrittenAll es
  exprs_written NoExpr g h = tt
  exprs_written (AndExpr e es) g h =
      let s = parts (spell_expr e) (spell_more_exprs es) h in
      (expr_written e g.0 s.0, more_exprs_written es g.1 s.1)

  more_exprs_written : (es : Exprs) → AreGrouped es → AreFormed (spell_more_exprs es) → AreWrittenAll es
  more_exprs_written NoExpr g h = tt
  more_exprs_written (AndExpr e es) g h =
      let s = parts (spell_expr e) (spell_more_exprs es) h.1 in
      (expr_written e g.0 s.0, more_exprs_written es g.1 s.1)

  cases_written : (cs : Cases) → HasGrouped cs → AreFormed (spell_cases cs) → AreWrittenCases cs
  cases_written NoCase g h = tt
  cases_written (Default e) g h = expr_written e g h.1.1.1
  cases_written (Case q e cs) g h =
      let s1 = parts (spell_pattern q) (sign Colon ∷ spell_expr e ++ spell_cases cs) h.1 in
      let s2 = parts (spell_expr e) (spell_cases cs) s1.1.1 in
      (pattern_written q g.0.numbers s1.0, expr_written e g.1 s2.0, cases_written cs g.2 s2.1)
