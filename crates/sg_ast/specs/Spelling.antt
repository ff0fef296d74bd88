-- The spelling of trees, and which tokens fit it.
use Rattle.std.specs.Prelude.{ℕ, Bool, true, false, List, [], ◌∷◌, ◌++◌, flat_map, Option, Some, None, codes}
use Rattle.std.specs.List.{join_by}
use Rattle.sg_text.specs.Lexemes.{Lexeme, Word, Reserved, Numeral, String, Literal, Sign}
use Rattle.sg_text.specs.declared.symbols.Symbol.{Symbol}
use Rattle.sg_text.specs.declared.symbols.Symbol.TheVariants.{ColonColonEquals, Colon, DotDot, Dot, DollarDollar, Dollar, Bar, Equals, Less, Greater, Minus, Star, Question, Comma, Semicolon, LeftParenthesis, RightParenthesis, LeftBracket, RightBracket, LeftBrace, RightBrace, At, Caret, Tilde}
use Rattle.sg_text.specs.declared.words.Keyword.{Keyword}
use Rattle.sg_text.specs.declared.words.Keyword.TheVariants as keyword
use Rattle.sg_kinds.specs.declared.fault.Position.{Position}
use Rattle.sg_kinds.specs.declared.marks.Made.{Made}
use Rattle.sg_kinds.specs.declared.marks.Made.TheVariants.{Completing, Placeholder}
use Rattle.sg_kinds.specs.declared.marks.Way.{Way}
use Rattle.sg_kinds.specs.declared.marks.Way.TheVariants.{Synthesized, Inherited}
use Rattle.sg_kinds.specs.declared.marks.ChildPlace.{ChildPlace}
use Rattle.sg_kinds.specs.declared.marks.ChildPlace.TheVariants.{Resting, Passed, Hidden}
use Rattle.sg_kinds.specs.declared.marks.Group.{Group}
use Rattle.sg_kinds.specs.declared.marks.Group.TheVariants as group
use Rattle.sg_ast.specs.declared.name.Name.{Name}
use Rattle.sg_ast.specs.declared.name.Quoted.{Quoted}
use Rattle.sg_ast.specs.declared.name.Occurrence.{Occurrence}
use Rattle.sg_ast.specs.declared.name.Occurrence.TheVariants.{Own, Named}
use Rattle.sg_ast.specs.declared.name.Reference.{Reference}
use Rattle.sg_ast.specs.declared.name.Pair.{Pair}
use Rattle.sg_ast.specs.declared.name.Typed.{Typed}
use Rattle.sg_ast.specs.declared.decl.Alt.{Alt}
use Rattle.sg_ast.specs.declared.decl.AttrDecl.{AttrDecl}
use Rattle.sg_ast.specs.declared.decl.Target.{Target}
use Rattle.sg_ast.specs.declared.decl.Target.TheVariants as target
use Rattle.sg_ast.specs.declared.decl.Item.{Item}
use Rattle.sg_ast.specs.declared.decl.Item.TheVariants as item
use Rattle.sg_ast.specs.declared.decl.SchemeDecl.{SchemeDecl}
use Rattle.sg_ast.specs.declared.decl.Part.{Part}
use Rattle.sg_ast.specs.declared.decl.Part.TheVariants as part
use Rattle.sg_ast.specs.Levels.{symbol_of, prefix_symbol}
use Rattle.sg_ast.specs.Patterns.{Pattern, Patterns, NoPattern, AndPattern}
use Rattle.sg_ast.specs.Patterns as p
use Rattle.sg_ast.specs.Expressions.{Expr, Exprs, Cases, Amount, Chars, Truth, Variable, Attribute, Remote, MadeOf, Paren, Single, Binary, Choice, Call, Let, With, NoExpr, AndExpr, NoCase, Default, Case}
use Rattle.sg_ast.specs.Declarations.{Equation, Right, Decl, Root, Listed, Optional, Operators, LexemeOf, Attributes, Equations, Schemes, Function, Transform, Productions, Entry, Precedence}

-- a token's lexeme and place
abbrev pub Mark : Type 0
Mark = Lexeme × Position

-- a token of a spelling: its lexeme, and its place where the tree keeps it
pub data Piece : Type 0 where
  Free : Lexeme → Piece
  Kept : Lexeme → Position → Piece

-- the marks fit the pieces one by one, and behind them the rest is left
pub data Takes : List Piece → List Mark → List Mark → Type 0 where
  none : {rest : List Mark} → Takes [] rest rest
  free : {l : Lexeme} {place : Position} {ps : List Piece} {ms rest : List Mark}
      → Takes ps ms rest → Takes (Free l ∷ ps) ((l, place) ∷ ms) rest
  kept : {l : Lexeme} {place : Position} {ps : List Piece} {ms rest : List Mark}
      → Takes ps ms rest → Takes (Kept l place ∷ ps) ((l, place) ∷ ms) rest

abbrev pub sign : Symbol → Piece
sign s = Free (Sign s)

abbrev pub sign_at : Symbol → Position → Piece
sign_at s place = Kept (Sign s) place

abbrev pub word : Keyword → Piece
word k = Free (Reserved k)

abbrev pub named : Name → Piece
named n = Kept (Word n.text) n.place

abbrev pub text : Quoted → Piece
text s = Kept (String s.text) s.place

abbrev pub literal : Quoted → Piece
literal s = Kept (Literal s.text) s.place

abbrev pub spell_name : Name → List Piece
spell_name n = named n ∷ []

abbrev pub spell_text : Quoted → List Piece
spell_text s = text s ∷ []

abbrev pub spell_literal : Quoted → List Piece
spell_literal s = literal s ∷ []

abbrev pub truth_word : Bool → Keyword
truth_word true = keyword.True
truth_word false = keyword.False

abbrev pub opening : Made → Symbol
opening Completing = LeftBracket
opening Placeholder = Less

abbrev pub closing : Made → Symbol
closing Completing = RightBracket
closing Placeholder = Greater

-- [ '$' number ]
abbrev pub spell_number : Option ℕ → List Piece
spell_number None = []
spell_number (Some k) = sign Dollar ∷ Free (Numeral k) ∷ []

-- '$$' | name [ '$' number ]
abbrev pub spell_occurrence : Occurrence → List Piece
spell_occurrence (Own place) = sign_at DollarDollar place ∷ []
spell_occurrence (Named n number) = named n ∷ spell_number number

-- occurrence '.' name
abbrev pub spell_reference : Reference → List Piece
spell_reference r = spell_occurrence r.of ++ sign Dot ∷ named r.attr ∷ []

-- what stands between alternatives, and between parameters
abbrev pub bar : List Piece
bar = sign Bar ∷ []

abbrev pub comma : List Piece
comma = sign Comma ∷ []

-- name '.' name
abbrev pub spell_pair : Pair → List Piece
spell_pair p = named p.phylum ∷ sign Dot ∷ named p.attr ∷ []

-- [ '-' ] number, with the place of the first token
abbrev pub spell_amount : Bool → ℕ → Position → List Piece
spell_amount false n place = Kept (Numeral n) place ∷ []
spell_amount true n place = sign_at Minus place ∷ Free (Numeral n) ∷ []

abbrev mutual
  pub spell_pattern : Pattern → List Piece
  spell_pattern (p.Amount negative n place) = spell_amount negative n place
  spell_pattern (p.Chars s) = text s ∷ []
  spell_pattern (p.Truth b place) = Kept (Reserved (truth_word b)) place ∷ []
  spell_pattern (p.Anything place) = sign_at Star place ∷ []
  spell_pattern (p.Variable n) = named n ∷ []
  spell_pattern (p.MadeAs made n place) = sign_at (opening made) place ∷ named n ∷ sign (closing made) ∷ []
  spell_pattern (p.Applied n ps) = named n ∷ sign LeftParenthesis ∷ spell_patterns ps ++ sign RightParenthesis ∷ []

  -- [ pattern { ',' pattern } ]
  pub spell_patterns : Patterns → List Piece
  spell_patterns NoPattern = []
  spell_patterns (AndPattern x xs) = spell_pattern x ++ spell_more_patterns xs

  -- { ',' pattern }
  pub spell_more_patterns : Patterns → List Piece
  spell_more_patterns NoPattern = []
  spell_more_patterns (AndPattern x xs) = sign Comma ∷ spell_pattern x ++ spell_more_patterns xs

abbrev mutual
  pub spell_expr : Expr → List Piece
  spell_expr (Amount n place) = Kept (Numeral n) place ∷ []
  spell_expr (Chars s) = text s ∷ []
  spell_expr (Truth b place) = Kept (Reserved (truth_word b)) place ∷ []
  spell_expr (Variable n) = named n ∷ []
  spell_expr (Attribute r) = spell_reference r
  spell_expr (Remote r) = sign_at LeftBrace r.place ∷ join_by spell_pair comma r.pairs ++ sign RightBrace ∷ []
  spell_expr (MadeOf made n place) = sign_at (opening made) place ∷ named n ∷ sign (closing made) ∷ []
  spell_expr (Paren a place) = sign_at LeftParenthesis place ∷ spell_expr a ++ sign RightParenthesis ∷ []
  spell_expr (Single f a place) = sign_at (prefix_symbol f) place ∷ spell_expr a
  spell_expr (Binary s a b) = spell_expr a ++ sign (symbol_of s) ∷ spell_expr b
  spell_expr (Choice a b c) = spell_expr a ++ (sign Question ∷ spell_expr b ++ (sign Colon ∷ spell_expr c))
  spell_expr (Call n es) = named n ∷ sign LeftParenthesis ∷ spell_exprs es ++ sign RightParenthesis ∷ []
  spell_expr (Let n a b place) =
      Kept (Reserved keyword.Let) place ∷ named n ∷ sign Equals ∷ spell_expr a
      ++ (word keyword.In ∷ sign LeftParenthesis ∷ spell_expr b ++ sign RightParenthesis ∷ [])
  spell_expr (With a q b cs place) =
      Kept (Reserved keyword.With) place ∷ sign LeftParenthesis ∷ spell_expr a
      ++ (sign RightParenthesis ∷ sign LeftParenthesis ∷ spell_pattern q
      ++ (sign Colon ∷ spell_expr b ++ (spell_cases cs ++ sign RightParenthesis ∷ [])))

  -- [ expr { ',' expr } ]
  pub spell_exprs : Exprs → List Piece
  spell_exprs NoExpr = []
  spell_exprs (AndExpr e es) = spell_expr e ++ spell_more_exprs es

  -- { ',' expr }
  pub spell_more_exprs : Exprs → List Piece
  spell_more_exprs NoExpr = []
  spell_more_exprs (AndExpr e es) = sign Comma ∷ spell_expr e ++ spell_more_exprs es

  -- { ',' pattern ':' expr } [ ',' 'default' ':' expr ]
  pub spell_cases : Cases → List Piece
  spell_cases NoCase = []
  spell_cases (Default e) = sign Comma ∷ word keyword.Default ∷ sign Colon ∷ spell_expr e
  spell_cases (Case q e cs) = sign Comma ∷ spell_pattern q ++ (sign Colon ∷ spell_expr e ++ spell_cases cs)

abbrev pub spell_target : Target → List Piece
spell_target (target.Attribute r) = spell_reference r
spell_target (target.Local n) = named n ∷ []

-- target '=' expr ';'
abbrev pub spell_equation : Equation → List Piece
spell_equation e = spell_target e.target ++ (sign Equals ∷ spell_expr e.expr ++ sign Semicolon ∷ [])

-- name '(' { name } ')'
abbrev pub spell_alt : Alt → List Piece
spell_alt a = named a.name ∷ sign LeftParenthesis ∷ flat_map spell_name a.args ++ sign RightParenthesis ∷ []

abbrev pub way_word : Way → Keyword
way_word Synthesized = keyword.Synthesized
way_word Inherited = keyword.Inherited

-- ( 'synthesized' | 'inherited' ) name name ';'
abbrev pub spell_attr : AttrDecl → List Piece
spell_attr a = word (way_word a.way) ∷ named a.of ∷ named a.name ∷ sign Semicolon ∷ []

-- 'local' name name ';'
abbrev pub spell_local : Typed → List Piece
spell_local t = word keyword.Local ∷ named t.of ∷ named t.name ∷ sign Semicolon ∷ []

-- name name
abbrev pub spell_param : Typed → List Piece
spell_param t = named t.of ∷ named t.name ∷ []

abbrev pub child_symbol : ChildPlace → Symbol
child_symbol Resting = At
child_symbol Passed = Caret
child_symbol Hidden = DotDot

-- string | '@' | '^' | '..' | target | '[' { string } ']'
abbrev pub spell_item : Item → List Piece
spell_item (item.Writes s) = text s ∷ []
spell_item (item.Child place) = sign (child_symbol place) ∷ []
spell_item (item.Shows t) = spell_target t
spell_item (item.Separates ss) = sign LeftBracket ∷ flat_map spell_text ss ++ sign RightBracket ∷ []

abbrev pub resting_symbol : Bool → Symbol
resting_symbol true = At
resting_symbol false = Caret

abbrev pub editing_symbol : Bool → Symbol
editing_symbol true = ColonColonEquals
editing_symbol false = Colon

-- '[' ( '@' | '^' ) ( ':' | '::=' ) { item } ']'
abbrev pub spell_scheme : SchemeDecl → List Piece
spell_scheme s =
    sign_at LeftBracket s.place ∷ sign (resting_symbol s.rests) ∷ sign (editing_symbol s.editable)
    ∷ flat_map spell_item s.items ++ sign RightBracket ∷ []

abbrev pub spell_part : Part → List Piece
spell_part (part.Named n) = named n ∷ []
spell_part (part.Literal s) = literal s ∷ []

-- '(' { name | quoted } ')' '{' expr '}'
abbrev pub spell_right : Right → List Piece
spell_right r =
    sign_at LeftParenthesis r.place ∷ flat_map spell_part r.parts
    ++ (sign RightParenthesis ∷ sign LeftBrace ∷ spell_expr r.expr ++ sign RightBrace ∷ [])

-- the words of precedence lines, which are not reserved
abbrev pub group_word : Group → List ℕ
group_word group.Left = codes "left"
group_word group.Right = codes "right"
group_word group.NonAssoc = codes "nonassoc"

-- [ 'in' name ]
abbrev pub spell_view : Option Name → List Piece
spell_view None = []
spell_view (Some v) = word keyword.In ∷ named v ∷ []

-- [ 'list' ]
abbrev pub spell_listed : Bool → List Piece
spell_listed false = []
spell_listed true = word keyword.List ∷ []

-- the tokens of a declaration
abbrev pub spell : Decl → List Piece
spell (Root n) = word keyword.Root ∷ named n ∷ sign Semicolon ∷ []
spell (Listed n) = word keyword.List ∷ named n ∷ sign Semicolon ∷ []
spell (Optional listed n) = word keyword.Optional ∷ spell_listed listed ++ (named n ∷ sign Semicolon ∷ [])
spell (Operators n alts) = named n ∷ sign Colon ∷ join_by spell_alt bar alts ++ sign Semicolon ∷ []
spell (LexemeOf n s) = named n ∷ sign Colon ∷ sign Less ∷ text s ∷ sign Greater ∷ sign Semicolon ∷ []
spell (Attributes n attrs) =
    named n ∷ sign LeftBrace ∷ flat_map spell_attr attrs ++ sign RightBrace ∷ sign Semicolon ∷ []
spell (Equations n op locals equations) =
    named n ∷ sign Colon ∷ named op ∷ sign LeftBrace ∷ flat_map spell_local locals
    ++ (flat_map spell_equation equations ++ sign RightBrace ∷ sign Semicolon ∷ [])
spell (Schemes n op view schemes) =
    named n ∷ sign Colon ∷ named op ∷ spell_view view ++ (flat_map spell_scheme schemes ++ sign Semicolon ∷ [])
spell (Function t n params body) =
    named t ∷ named n ∷ sign LeftParenthesis ∷ join_by spell_param comma params
    ++ (sign RightParenthesis ∷ sign LeftBrace ∷ spell_expr body ++ sign RightBrace ∷ sign Semicolon ∷ [])
spell (Transform n title q e) =
    word keyword.Transform ∷ named n ∷ word keyword.On ∷ text title ∷ spell_pattern q
    ++ (sign Colon ∷ spell_expr e ++ sign Semicolon ∷ [])
spell (Productions n rights) =
    named n ∷ sign ColonColonEquals ∷ join_by spell_right bar rights ++ sign Semicolon ∷ []
spell (Entry n m a) = named n ∷ sign Tilde ∷ named m ∷ sign Dot ∷ named a ∷ sign Semicolon ∷ []
spell (Precedence g literals place) = Kept (Word (group_word g)) place ∷ flat_map spell_literal literals
    ++ sign Semicolon ∷ []
