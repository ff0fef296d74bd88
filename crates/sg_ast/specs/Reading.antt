-- The reading of declarations.
use Rattle.std.specs.Prelude.{bytes_eq, ◌||◌, ◌==◌, not, ℕ, Bool, true, false, if◌then◌else◌, List, [], ◌∷◌, length, Option, Some, None}
use Rattle.sg_text.specs.Lexemes.{Lexeme}
use Rattle.sg_text.specs.declared.symbols.Symbol.TheVariants.{ColonColonEquals, Colon, DotDot, Dot, Bar, Equals, Less, Greater, Semicolon, LeftParenthesis, RightParenthesis, LeftBracket, RightBracket, LeftBrace, RightBrace, At, Caret, Tilde}
use Rattle.sg_text.specs.declared.words.Keyword.TheVariants as keyword
use Rattle.sg_kinds.specs.declared.fault.Position.{Position}
use Rattle.sg_kinds.specs.declared.marks.Way.{Way}
use Rattle.sg_kinds.specs.declared.marks.Way.TheVariants.{Synthesized, Inherited}
use Rattle.sg_kinds.specs.declared.marks.ChildPlace.TheVariants.{Resting, Passed, Hidden}
use Rattle.sg_kinds.specs.declared.marks.Group.{Group}
use Rattle.sg_kinds.specs.declared.marks.Group.TheVariants as group
use Rattle.sg_ast.specs.declared.name.Name.{Name}
use Rattle.sg_ast.specs.declared.name.Typed.{Typed}
use Rattle.sg_ast.specs.declared.decl.Alt.{Alt}
use Rattle.sg_ast.specs.declared.decl.AttrDecl.{AttrDecl}
use Rattle.sg_ast.specs.declared.decl.Item.{Item}
use Rattle.sg_ast.specs.declared.decl.Item.TheVariants as item
use Rattle.sg_ast.specs.declared.decl.SchemeDecl.{SchemeDecl}
use Rattle.sg_ast.specs.declared.decl.Part.{Part}
use Rattle.sg_ast.specs.declared.decl.Part.TheVariants as part
use Rattle.sg_ast.specs.Declarations.{Equation, Right, Decl, Root, Listed, Optional, Operators, LexemeOf, Attributes, Equations, Schemes, Function, Transform, Productions, Entry, Precedence}
use Rattle.sg_ast.specs.Spelling.{Mark, group_word}
use Rattle.sg_ast.specs.Readers.{Reader, ◌>>=◌, ◌>>◌, ◌<$>◌, done, refuse, is_sign, is_reserved, is_name, is_string, is_literal, sees, eat, expect, name, string, quoted, many}
use Rattle.sg_ast.specs.ReadingNames.{target_of, arguments, pattern}
use Rattle.sg_ast.specs.ReadingExpressions.{expr}

-- name '(' { name } ')', after the name
unfoldable pub alt_of : Name → Reader Alt
alt_of n = do
  expect (is_sign LeftParenthesis)
  args ← many (sees is_name) name []
  expect (is_sign RightParenthesis)
  done (record { name = n; args = args })

-- name '(' { name } ')'
unfoldable pub alt : Reader Alt
alt = name >>= alt_of

-- '|' and one more
unfoldable pub other : {A : Type 0} → Reader A → Reader A
other one = expect (is_sign Bar) >> one

-- ':' name '(' .. { '|' .. } ';', after the second name
unfoldable pub operators : Name → Name → Reader Decl
operators n first = do
  a ← alt_of first
  alts ← many (sees (is_sign Bar)) (other alt) (a ∷ [])
  expect (is_sign Semicolon)
  done (Operators n alts)

-- '<' string '>' ';', after name ':'
unfoldable pub lexeme : Name → Reader Decl
lexeme n = do
  expect (is_sign Less)
  s ← string
  expect (is_sign Greater)
  expect (is_sign Semicolon)
  done (LexemeOf n s)

-- 'synthesized' | 'inherited'
unfoldable pub way : Reader Way
way = do
  is_synthesized ← eat (is_reserved keyword.Synthesized)
  if is_synthesized then done Synthesized else (λ (place : Position). Inherited) <$> expect
      (is_reserved keyword.Inherited)

-- ( 'synthesized' | 'inherited' ) name name ';'
unfoldable pub attr : Reader AttrDecl
attr = do
  w ← way
  t ← name
  n ← name
  expect (is_sign Semicolon)
  done (record { way = w; of = t; name = n })

abbrev pub sees_other : (Lexeme → Bool) → List Mark → Bool
sees_other test ms = sees (λ l. not (test l)) ms

-- '{' { attr } '}' ';', after the name
unfoldable pub attributes : Name → Reader Decl
attributes n = do
  expect (is_sign LeftBrace)
  attrs ← many (sees_other (is_sign RightBrace)) attr []
  expect (is_sign RightBrace)
  expect (is_sign Semicolon)
  done (Attributes n attrs)

-- 'local' name name ';'
unfoldable pub local : Reader Typed
local = do
  expect (is_reserved keyword.Local)
  t ← name
  n ← name
  expect (is_sign Semicolon)
  done (record { of = t; name = n })

-- target '=' expr ';'
unfoldable pub equation : Reader Equation
equation = do
  t ← target_of
  expect (is_sign Equals)
  e ← expr
  expect (is_sign Semicolon)
  done (record { target = t; expr = e })

-- '{' { local } { equation } '}' ';', after name ':' name
unfoldable pub equations : Name → Name → Reader Decl
equations n op = do
  expect (is_sign LeftBrace)
  locals ← many (sees (is_reserved keyword.Local)) local []
  es ← many (sees_other (is_sign RightBrace)) equation []
  expect (is_sign RightBrace)
  expect (is_sign Semicolon)
  done (Equations n op locals es)

-- '[' { string } ']'
unfoldable pub separator : Reader Item
separator = do
  expect (is_sign LeftBracket)
  ss ← many (sees is_string) string []
  expect (is_sign RightBracket)
  done (item.Separates ss)

-- string | '@' | '^' | '..' | target | '[' { string } ']'
unfoldable pub item_of : Reader Item
item_of = λ ms.
    if sees is_string ms then (item.Writes <$> string) ms
    else (if sees (is_sign At) ms then ((λ (place : Position). item.Child Resting) <$> expect (is_sign At)) ms
    else (if sees (is_sign Caret) ms then ((λ (place : Position). item.Child Passed) <$> expect (is_sign Caret)) ms
    else (if sees (is_sign DotDot) ms then ((λ (place : Position). item.Child Hidden) <$> expect (is_sign DotDot)) ms
    else (if sees (is_sign LeftBracket) ms then separator ms
    else (item.Shows <$> target_of) ms))))

-- '@' | '^', true for the first
unfoldable pub resting : Reader Bool
resting = do
  rests ← eat (is_sign At)
  if rests then done true else (λ (place : Position). false) <$> expect (is_sign Caret)

-- ':' | '::=', true for the second
unfoldable pub editing : Reader Bool
editing = do
  edits ← eat (is_sign ColonColonEquals)
  if edits then done true else (λ (place : Position). false) <$> expect (is_sign Colon)

-- '[' ( '@' | '^' ) ( ':' | '::=' ) { item } ']'
unfoldable pub scheme : Reader SchemeDecl
scheme = do
  place ← expect (is_sign LeftBracket)
  rests ← resting
  edits ← editing
  items ← many (sees_other (is_sign RightBracket)) item_of []
  expect (is_sign RightBracket)
  done (record { place = place; rests = rests; editable = edits; items = items })

-- [ 'in' name ]
unfoldable pub view_of : Reader (Option Name)
view_of = do
  is_named ← eat (is_reserved keyword.In)
  if is_named then Some <$> name else done None

-- [ 'in' name ] scheme { scheme } ';', after name ':' name
unfoldable pub schemes : Name → Name → Reader Decl
schemes n op = do
  view ← view_of
  first ← scheme
  found ← many (sees (is_sign LeftBracket)) scheme (first ∷ [])
  expect (is_sign Semicolon)
  done (Schemes n op view found)

-- name name
unfoldable pub param : Reader Typed
param = do
  t ← name
  n ← name
  done (record { of = t; name = n })

-- name '(' [ param { ',' param } ] ')' '{' expr '}' ';', after the first name
unfoldable pub function : Name → Reader Decl
function t = do
  n ← name
  expect (is_sign LeftParenthesis)
  params ← arguments param
  expect (is_sign LeftBrace)
  body ← expr
  expect (is_sign RightBrace)
  expect (is_sign Semicolon)
  done (Function t n params body)

-- 'transform' name 'on' string pattern ':' expr ';'
unfoldable pub transform : Reader Decl
transform = do
  expect (is_reserved keyword.Transform)
  n ← name
  expect (is_reserved keyword.On)
  title ← string
  q ← pattern
  expect (is_sign Colon)
  e ← expr
  expect (is_sign Semicolon)
  done (Transform n title q e)

abbrev pub is_part : Lexeme → Bool
is_part l = is_name l || is_literal l

-- name | quoted
unfoldable pub part_of : Reader Part
part_of = λ ms. if sees is_name ms then (part.Named <$> name) ms else (part.Literal <$> quoted) ms

-- '(' { name | quoted } ')' '{' expr '}'
unfoldable pub right : Reader Right
right = do
  place ← expect (is_sign LeftParenthesis)
  parts ← many (sees is_part) part_of []
  expect (is_sign RightParenthesis)
  expect (is_sign LeftBrace)
  e ← expr
  expect (is_sign RightBrace)
  done (record { place = place; parts = parts; expr = e })

-- '::=' right { '|' right } ';', after the name
unfoldable pub productions : Name → Reader Decl
productions n = do
  expect (is_sign ColonColonEquals)
  first ← right
  found ← many (sees (is_sign Bar)) (other right) (first ∷ [])
  expect (is_sign Semicolon)
  done (Productions n found)

-- '~' name '.' name ';', after the name
unfoldable pub entry : Name → Reader Decl
entry n = do
  expect (is_sign Tilde)
  m ← name
  expect (is_sign Dot)
  a ← name
  expect (is_sign Semicolon)
  done (Entry n m a)

-- how the literals of a line with this first word group
abbrev pub group_of : List ℕ → Option Group
group_of w =
    if bytes_eq w (group_word group.Left) then Some group.Left
    else (if bytes_eq w (group_word group.Right) then Some group.Right
    else (if bytes_eq w (group_word group.NonAssoc) then Some group.NonAssoc else None))

-- quoted { quoted } ';', after the first word
unfoldable pub grouped : Group → Position → Reader Decl
grouped g place = do
  first ← quoted
  literals ← many (sees is_literal) quoted (first ∷ [])
  expect (is_sign Semicolon)
  done (Precedence g literals place)

abbrev pub grouped_by : Option Group → Position → Reader Decl
grouped_by None place = refuse
grouped_by (Some g) place = grouped g place

-- ( 'left' | 'right' | 'nonassoc' ) quoted { quoted } ';', after the first word
unfoldable pub precedence : Name → Reader Decl
precedence n = grouped_by (group_of n.text) n.place

-- 'root' name ';'
unfoldable pub root : Reader Decl
root = do
  expect (is_reserved keyword.Root)
  n ← name
  expect (is_sign Semicolon)
  done (Root n)

-- 'list' name ';'
unfoldable pub listed : Reader Decl
listed = do
  expect (is_reserved keyword.List)
  n ← name
  expect (is_sign Semicolon)
  done (Listed n)

-- 'optional' [ 'list' ] name ';'
unfoldable pub optional : Reader Decl
optional = do
  expect (is_reserved keyword.Optional)
  is_list ← eat (is_reserved keyword.List)
  n ← name
  expect (is_sign Semicolon)
  done (Optional is_list n)

-- a declaration that begins with name ':' name
unfoldable pub of_operator : Name → Name → Reader Decl
of_operator n op = λ ms.
    if sees (is_sign LeftParenthesis) ms then operators n op ms
    else (if sees (is_sign LeftBrace) ms then equations n op ms
    else schemes n op ms)

-- a declaration that begins with name ':', after both
unfoldable pub of_colon : Name → Reader Decl
of_colon n = λ ms. if sees (is_sign Less) ms then lexeme n ms else (name >>= of_operator n) ms

-- a declaration that begins with name ':', after the name
unfoldable pub of_phylum : Name → Reader Decl
of_phylum n = expect (is_sign Colon) >> of_colon n

-- a declaration that begins with a name, after it
unfoldable pub of_name : Name → Reader Decl
of_name n = λ ms.
    if sees (is_sign Colon) ms then of_phylum n ms
    else (if sees (is_sign LeftBrace) ms then attributes n ms
    else (if sees (is_sign ColonColonEquals) ms then productions n ms
    else (if sees (is_sign Tilde) ms then entry n ms
    else (if sees is_literal ms then precedence n ms
    else function n ms))))

unfoldable pub declaration : Reader Decl
declaration = λ ms.
    if sees is_name ms then (name >>= of_name) ms
    else (if sees (is_reserved keyword.Root) ms then root ms
    else (if sees (is_reserved keyword.List) ms then listed ms
    else (if sees (is_reserved keyword.Optional) ms then optional ms
    else transform ms)))

-- what was read, where nothing is left
abbrev pub entire : {A : Type 0} → Option (A × List Mark) → Option A
entire (Some p) = if length p.1 == 0 then Some p.0 else None
entire None = None

-- the tree that the marks spell
unfoldable pub decl_of : List Mark → Option Decl
decl_of ms = entire (declaration ms)
