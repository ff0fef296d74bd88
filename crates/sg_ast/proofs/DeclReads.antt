-- The spelling of a declaration is read as this declaration.
use Rattle.std.proofs.Common.{◌≡◌, ◌<◌, Bool, true, false, List, [], ◌∷◌, ◌++◌, length, Option, Some, None, refl, ap, ◌∙◌, arith, length-append}
use Rattle.std.specs.Prelude.{flat_map, not, ⊤, ◌||◌}
use Rattle.std.specs.List.{AllByRecursion, join_by}
use Rattle.sg_text.specs.Lexemes.{Sign}
use Rattle.sg_text.specs.declared.symbols.Symbol.{Symbol}
use Rattle.sg_text.specs.declared.symbols.Symbol.TheVariants.{ColonColonEquals, Colon, Dot, DotDot, Dollar, Bar, Equals, Semicolon, LeftParenthesis, RightParenthesis, LeftBracket, RightBracket, LeftBrace, RightBrace, At, Caret}
use Rattle.sg_text.specs.declared.words.Keyword.TheVariants as keyword
use Rattle.sg_kinds.specs.declared.marks.Way.{Way}
use Rattle.sg_kinds.specs.declared.marks.Way.TheVariants.{Synthesized, Inherited}
use Rattle.sg_kinds.specs.declared.marks.ChildPlace.TheVariants.{Resting, Passed, Hidden}
use Rattle.sg_kinds.specs.declared.marks.Group.{Group}
use Rattle.sg_kinds.specs.declared.marks.Group.TheVariants.{Left, Right as ToRight, NonAssoc}
use Rattle.sg_kinds.specs.declared.fault.Position.{Position}
use Rattle.sg_ast.specs.declared.name.Name.{Name}
use Rattle.sg_ast.specs.declared.name.Quoted.{Quoted}
use Rattle.sg_ast.specs.declared.name.Occurrence.{Occurrence}
use Rattle.sg_ast.specs.declared.name.Occurrence.TheVariants.{Own, Named}
use Rattle.sg_ast.specs.declared.name.Typed.{Typed}
use Rattle.sg_ast.specs.declared.decl.Alt.{Alt}
use Rattle.sg_ast.specs.declared.decl.AttrDecl.{AttrDecl}
use Rattle.sg_ast.specs.declared.decl.Target.{Target}
use Rattle.sg_ast.specs.declared.decl.Target.TheVariants as target
use Rattle.sg_ast.specs.declared.decl.Item.{Item}
use Rattle.sg_ast.specs.declared.decl.Item.TheVariants as item
use Rattle.sg_ast.specs.declared.decl.SchemeDecl.{SchemeDecl}
use Rattle.sg_ast.specs.declared.decl.Part.{Part}
use Rattle.sg_ast.specs.declared.decl.Part.TheVariants as part
use Rattle.sg_ast.specs.Patterns.{Pattern}
use Rattle.sg_ast.specs.Expressions.{Expr}
use Rattle.sg_ast.specs.Declarations.{Equation, Right, Decl, Root, Listed, Optional, Operators, LexemeOf, Attributes, Equations, Schemes, Function, Transform, Productions, Entry, Precedence}
use Rattle.sg_ast.specs.Spelling.{Mark, Piece, Takes, none, free, kept, sign, sign_at, word, named, way_word, group_word, bar, comma, spell_name, spell_text, spell_literal, spell_view, spell_occurrence, spell_expr, spell_pattern, spell_target, spell_equation, spell_alt, spell_attr, spell_local, spell_param, spell_item, spell_scheme, resting_symbol, editing_symbol, spell_part, spell_right, spell}
use Rattle.sg_ast.specs.Grouped.{max_depth, IsItem, IsScheme, IsPattern, IsExpr, IsEquation, IsRight, IsTree}
use Rattle.sg_ast.specs.Readers.{Reader, is_sign, is_reserved, is_name, is_string, is_literal, sees, eat, expect, name, string, quoted, many}
use Rattle.sg_ast.specs.ReadingNames.{refers, pattern}
use Rattle.sg_ast.specs.ReadingExpressions.{expr}
use Rattle.sg_ast.specs.Reading.{alt, alt_of, other, operators, lexeme, way, attr, sees_other, attributes, local, equation, equations, separator, item_of, resting, editing, scheme, view_of, schemes, param, function, transform, is_part, part_of, right, productions, entry, group_of, grouped, precedence, root, listed, optional, of_operator, of_colon, of_phylum, of_name, declaration}
use Rattle.sg_ast.proofs.Steps.{◌then◌, splits, ends, sign_self, First, name_first, string_first, quoted_first, sign_first, sign_behind, word_behind, sees_free, sees_kept, Items, more_reads}
use Rattle.sg_ast.proofs.References.{target_by}
use Rattle.sg_ast.proofs.Separated.{Elements, trivial, arguments_first}
use Rattle.sg_ast.proofs.PatternLaws as patterns
use Rattle.sg_ast.proofs.LevelLaws.{sign_binds, binds_first}
use Rattle.sg_ast.proofs.ExprReads.{expr_reads}

-- ---- parts

-- a list that ends where no item stands next
list_first : {A : Type 0} {test : List Mark → Bool} {one : Reader A} {s : A → List Piece} {Is : A → Type 0} {Ends : List Mark → Type 0} → Items test one s Is Ends
    → (found xs : List A) {ps : List Piece} {ms rest : List Mark} → AllByRecursion Is xs → Takes (flat_map s xs ++ ps) ms rest
    → ((mid : List Mark) → Takes ps mid rest → Ends mid × (test mid ≡ false)) → First (many test one found) (found ++ xs) ps ms rest
list_first {s = s} items found xs {ms = ms} all t over =
    let p = splits (flat_map s xs) t in
    let end = over p.0 p.2 in
    record { mid = p.0; read = more_reads items xs (length ms) found all p.1 end.0 end.1 (omega arith); tail = p.2 }

expr_first : (e : Expr) (s : Symbol) {ps : List Piece} {ms rest : List Mark} → IsExpr e → sign_binds s ≡ 0 → Takes (spell_expr e ++ sign s ∷ ps) ms rest → First expr e (sign s ∷ ps) ms rest
expr_first e s is quiet t =
    let p = splits (spell_expr e) t in
    record { mid = p.0; read = expr_reads max_depth e is.grouped is.within p.1 (binds_first p.2 ∙ quiet); tail = p.2 }

pattern_first : (q : Pattern) {ps : List Piece} {ms rest : List Mark} → IsPattern q → Takes (spell_pattern q ++ sign Colon ∷ ps) ms rest → First pattern q (sign Colon ∷ ps) ms rest
pattern_first q {ms = ms} is t =
    let p = splits (spell_pattern q) t in
    record {
      mid = p.0;
      tail = p.2;
      read = patterns.pattern_reads max_depth q ms p.0 (record { numbers = is.numbers; within = is.within }) p.1 (sees_free (is_sign LeftParenthesis) p.2);
    }

-- ---- operators

names : Items (sees is_name) name spell_name (λ n. ⊤) (λ ms. ⊤)
names = record { reads = name_alone; begins = λ n t. sees_kept is_name t; behind = λ n t. tt; some = λ n. omega arith }
  where
    name_alone : (n : Name) {ms rest : List Mark} → ⊤ → Takes (spell_name n) ms rest → ⊤ → name ms ≡ Some (n, rest)
    name_alone n is t end = let t1 = name_first t in t1.read ∙ ap (λ (r : List Mark). Some (n, r)) (ends t1.tail)

alt_reads : (a : Alt) {ms rest : List Mark} → Takes (sign LeftParenthesis ∷ flat_map spell_name a.args ++ sign RightParenthesis ∷ []) ms rest → alt_of a.name ms ≡ Some (a, rest)
unfolding alt_of
alt_reads a t =
    let t1 = sign_behind LeftParenthesis t in
    let t2 = list_first names [] a.args (trivial a.args) t1.tail (λ mid t. (tt, sees_free is_name t)) in
    let t3 = sign_behind RightParenthesis t2.tail in
    rw (t1.read, t2.read, t3.read, ends t3.tail) refl

-- an alternative behind a bar
others : {A : Type 0} {one : Reader A} {s : A → List Piece} {Is : A → Type 0} → ((a : A) (ms rest : List Mark) → Is a → Takes (s a) ms rest → one ms ≡ Some (a, rest))
    → Items (sees (is_sign Bar)) (other one) (λ a. sign Bar ∷ s a) Is (λ ms. ⊤)
unfolding other
others {A = A} {one = one} {s = s} {Is = Is} reads = record { reads = λ a {ms} {rest} is t end. behind_bar a ms rest is t; begins = λ a t. sees_free (is_sign Bar) t; behind = λ a t. tt; some = λ a. omega arith }
  where
    behind_bar : (a : A) (ms rest : List Mark) → Is a → Takes (sign Bar ∷ s a) ms rest → other one ms ≡ Some (a, rest)
    behind_bar a ms rest is t = let t1 = sign_behind Bar t in rw (t1.read, reads a t1.mid rest is t1.tail) refl

alt_whole : (a : Alt) (ms rest : List Mark) → ⊤ → Takes (spell_alt a) ms rest → alt ms ≡ Some (a, rest)
unfolding alt
alt_whole a ms rest is t =
    let t1 = name_first t in
    rw (t1.read, alt_reads a t1.tail) refl

-- alternatives behind the first name
abbrev after_first : Alt → List Alt → List Piece
after_first a alts = (sign LeftParenthesis ∷ flat_map spell_name a.args ++ sign RightParenthesis ∷ []) ++ flat_map (λ y. sign Bar ∷ spell_alt y) alts

operators_reads : (n : Name) (a : Alt) (alts : List Alt) {ms rest : List Mark} → Takes (after_first a alts ++ sign Semicolon ∷ []) ms rest
    → operators n a.name ms ≡ Some (Operators n (a ∷ alts), rest)
unfolding operators
operators_reads n a alts t =
    let p = splits (after_first a alts) t in
    let q = splits (sign LeftParenthesis ∷ flat_map spell_name a.args ++ sign RightParenthesis ∷ []) p.1 in
    let t2 = list_first (others alt_whole) (a ∷ []) alts (trivial alts) (q.2 then p.2) (λ mid t. (tt, sees_free (is_sign Bar) t)) in
    let t3 = sign_behind Semicolon t2.tail in
    rw (alt_reads a q.1, t2.read, t3.read, ends t3.tail) refl

-- ---- attributes, locals and equations

way_reads : (w : Way) {ps : List Piece} {ms rest : List Mark} → Takes (word (way_word w) ∷ ps) ms rest → First way w ps ms rest
unfolding way eat sees expect
way_reads Synthesized (free {ms = ms} t) = record { mid = ms; read = refl; tail = t }
way_reads Inherited (free {ms = ms} t) = record { mid = ms; read = refl; tail = t }

attr_reads : (a : AttrDecl) {ms rest : List Mark} → Takes (spell_attr a) ms rest → attr ms ≡ Some (a, rest)
unfolding attr
attr_reads a t =
    let t1 = way_reads a.way t in
    let t2 = name_first t1.tail in
    let t3 = name_first t2.tail in
    let t4 = sign_behind Semicolon t3.tail in
    rw (t1.read, t2.read, t3.read, t4.read, ends t4.tail) refl

attr_begins : (w : Way) {ps : List Piece} {ms rest : List Mark} → Takes (word (way_word w) ∷ ps) ms rest → sees_other (is_sign RightBrace) ms ≡ true
unfolding sees
attr_begins w (free t) = refl

attrs : Items (sees_other (is_sign RightBrace)) attr spell_attr (λ a. ⊤) (λ ms. ⊤)
attrs = record { reads = λ a is t end. attr_reads a t; begins = λ a t. attr_begins a.way t; behind = λ a t. tt; some = λ a. omega arith }

closed : (s : Symbol) {ps : List Piece} {ms rest : List Mark} → Takes (sign s ∷ ps) ms rest → sees_other (is_sign s) ms ≡ false
closed s t = sees_free _ t ∙ ap not (sign_self s)

local_reads : (a : Typed) {ms rest : List Mark} → Takes (spell_local a) ms rest → local ms ≡ Some (a, rest)
unfolding local
local_reads a t =
    let t1 = word_behind keyword.Local t in
    let t2 = name_first t1.tail in
    let t3 = name_first t2.tail in
    let t4 = sign_behind Semicolon t3.tail in
    rw (t1.read, t2.read, t3.read, t4.read, ends t4.tail) refl

locals : Items (sees (is_reserved keyword.Local)) local spell_local (λ a. ⊤) (λ ms. ⊤)
locals = record { reads = λ a is t end. local_reads a t; begins = λ a t. sees_free (is_reserved keyword.Local) t; behind = λ a t. tt; some = λ a. omega arith }

-- a target begins with `$$` or a name
pub record BeginsTarget (ms : List Mark) : Type 0 where
  pub brace : sees_other (is_sign RightBrace) ms ≡ true
  pub bracket : sees_other (is_sign RightBracket) ms ≡ true
  pub string : sees is_string ms ≡ false
  pub rests : sees (is_sign At) ms ≡ false
  pub passes : sees (is_sign Caret) ms ≡ false
  pub hides : sees (is_sign DotDot) ms ≡ false
  pub separates : sees (is_sign LeftBracket) ms ≡ false
  pub local : sees (is_reserved keyword.Local) ms ≡ false
  pub refers : refers ms ≡ false

occurrence_begins : (o : Occurrence) (ps : List Piece) {ms rest : List Mark} → Takes (spell_occurrence o ++ ps) ms rest → BeginsTarget ms
unfolding sees
occurrence_begins (Own place) ps (kept t) = record { brace = refl; bracket = refl; string = refl; rests = refl; passes = refl; hides = refl; separates = refl; local = refl; refers = refl }
occurrence_begins (Named n k) ps (kept t) = record { brace = refl; bracket = refl; string = refl; rests = refl; passes = refl; hides = refl; separates = refl; local = refl; refers = refl }

target_begins : (x : Target) {ms rest : List Mark} → Takes (spell_target x) ms rest → BeginsTarget ms
unfolding sees
target_begins (target.Attribute r) t = occurrence_begins r.of (sign Dot ∷ named r.attr ∷ []) t
target_begins (target.Local n) (kept t) = record { brace = refl; bracket = refl; string = refl; rests = refl; passes = refl; hides = refl; separates = refl; local = refl; refers = refl }

not_refers : (s : Symbol) {ps : List Piece} {ms rest : List Mark} → (is_sign Dollar (Sign s) || is_sign Dot (Sign s)) ≡ false → Takes (sign s ∷ ps) ms rest → refers ms ≡ false
unfolding sees
not_refers s is (free t) = is

equation_reads : (a : Equation) {ms rest : List Mark} → IsEquation a → Takes (spell_equation a) ms rest → equation ms ≡ Some (a, rest)
unfolding equation
equation_reads a {ms = ms} is t =
    let p = splits (spell_target a.target) t in
    let read1 = target_by a.target is.0 p.1 (not_refers Equals refl p.2) in
    let t2 = sign_behind Equals p.2 in
    let t3 = expr_first a.expr Semicolon is.1 refl t2.tail in
    let t4 = sign_behind Semicolon t3.tail in
    rw (read1, t2.read, t3.read, t4.read, ends t4.tail) refl

some_target : (x : Target) → 0 < length (spell_target x)
some_target (target.Attribute r) = some_occurrence r.of
  where
    some_occurrence : (o : Occurrence) → 0 < length (spell_occurrence o ++ sign Dot ∷ named r.attr ∷ [])
    some_occurrence (Own place) = omega arith
    some_occurrence (Named n k) = omega arith
some_target (target.Local n) = omega arith

equation_items : Items (sees_other (is_sign RightBrace)) equation spell_equation IsEquation (λ ms. ⊤)
equation_items = record {
  reads = λ a is t end. equation_reads a is t;
  begins = λ a t. (target_begins a.target (splits (spell_target a.target) t).1).brace;
  behind = λ a t. tt;
  some = λ a. omega (arith, some_target a.target, length-append {A = Piece});
}

after_locals : (es : List Equation) (ps : List Piece) (ms rest : List Mark) → Takes (flat_map spell_equation es ++ sign RightBrace ∷ ps) ms rest → sees (is_reserved keyword.Local) ms ≡ false
after_locals [] ps ms rest t = sees_free (is_reserved keyword.Local) t
after_locals (e ∷ es) ps ms rest t =
    let p = splits (flat_map spell_equation (e ∷ es)) t in
    let q = splits (spell_equation e) p.1 in
    (target_begins e.target (splits (spell_target e.target) q.1).1).local

equations_reads : (n op : Name) (ls : List Typed) (es : List Equation) {ms rest : List Mark} → AllByRecursion IsEquation es
    → Takes (sign LeftBrace ∷ flat_map spell_local ls ++ (flat_map spell_equation es ++ sign RightBrace ∷ sign Semicolon ∷ [])) ms rest
    → equations n op ms ≡ Some (Equations n op ls es, rest)
unfolding equations
equations_reads n op ls es {rest = rest} is t =
    let t1 = sign_behind LeftBrace t in
    let t2 = list_first locals [] ls (trivial ls) t1.tail (λ mid t. (tt, after_locals es (sign Semicolon ∷ []) mid rest t)) in
    let t3 = list_first equation_items [] es is t2.tail (λ mid t. (tt, closed RightBrace t)) in
    let t4 = sign_behind RightBrace t3.tail in
    let t5 = sign_behind Semicolon t4.tail in
    rw (t1.read, t2.read, t3.read, t4.read, t5.read, ends t5.tail) refl

attributes_reads : (n : Name) (xs : List AttrDecl) {ms rest : List Mark} → Takes (sign LeftBrace ∷ flat_map spell_attr xs ++ sign RightBrace ∷ sign Semicolon ∷ []) ms rest
    → attributes n ms ≡ Some (Attributes n xs, rest)
unfolding attributes
attributes_reads n xs t =
    let t1 = sign_behind LeftBrace t in
    let t2 = list_first attrs [] xs (trivial xs) t1.tail (λ mid t. (tt, closed RightBrace t)) in
    let t3 = sign_behind RightBrace t2.tail in
    let t4 = sign_behind Semicolon t3.tail in
    rw (t1.read, t2.read, t3.read, t4.read, ends t4.tail) refl

-- ---- schemes

texts : Items (sees is_string) string spell_text (λ s. ⊤) (λ ms. ⊤)
texts = record { reads = text_alone; begins = λ s t. sees_kept is_string t; behind = λ s t. tt; some = λ s. omega arith }
  where
    text_alone : (s : Quoted) {ms rest : List Mark} → ⊤ → Takes (spell_text s) ms rest → ⊤ → string ms ≡ Some (s, rest)
    text_alone s is t end = let t1 = string_first t in t1.read ∙ ap (λ (r : List Mark). Some (s, r)) (ends t1.tail)

separator_reads : (ss : List Quoted) {ms rest : List Mark} → Takes (spell_item (item.Separates ss)) ms rest → separator ms ≡ Some (item.Separates ss, rest)
unfolding separator
separator_reads ss t =
    let t1 = sign_behind LeftBracket t in
    let t2 = list_first texts [] ss (trivial ss) t1.tail (λ mid t. (tt, sees_free is_string t)) in
    let t3 = sign_behind RightBracket t2.tail in
    rw (t1.read, t2.read, t3.read, ends t3.tail) refl

item_reads : (x : Item) {ms rest : List Mark} → IsItem x → Takes (spell_item x) ms rest → refers rest ≡ false → item_of ms ≡ Some (x, rest)
unfolding item_of sees expect string
item_reads (item.Writes s) is (kept none) end = refl
item_reads (item.Child Resting) is (free none) end = refl
item_reads (item.Child Passed) is (free none) end = refl
item_reads (item.Child Hidden) is (free none) end = refl
item_reads (item.Separates ss) is (free t) end = separator_reads ss (free t)
item_reads (item.Shows x) is t end =
    let b = target_begins x t in
    rw (b.string, b.rests, b.passes, b.hides, b.separates, target_by x is t end) refl

-- an item begins with none of these
item_begins : (x : Item) {ms rest : List Mark} → Takes (spell_item x) ms rest → (sees_other (is_sign RightBracket) ms ≡ true) × (refers ms ≡ false)
unfolding sees
item_begins (item.Writes s) (kept t) = (refl, refl)
item_begins (item.Child Resting) (free t) = (refl, refl)
item_begins (item.Child Passed) (free t) = (refl, refl)
item_begins (item.Child Hidden) (free t) = (refl, refl)
item_begins (item.Separates ss) (free t) = (refl, refl)
item_begins (item.Shows x) t = let b = target_begins x t in (b.bracket, b.refers)

some_item : (x : Item) → 0 < length (spell_item x)
some_item (item.Shows x) = some_target x
some_item x = omega arith

items : Items (sees_other (is_sign RightBracket)) item_of spell_item IsItem (λ ms. refers ms ≡ false)
items = record { reads = λ x is t end. item_reads x is t end; begins = λ x t. (item_begins x t).0; behind = λ x t. (item_begins x t).1; some = λ x. some_item x }

resting_first : (b : Bool) {ps : List Piece} {ms rest : List Mark} → Takes (sign (resting_symbol b) ∷ ps) ms rest → First resting b ps ms rest
unfolding resting eat sees expect
resting_first true (free {ms = ms} t) = record { mid = ms; read = refl; tail = t }
resting_first false (free {ms = ms} t) = record { mid = ms; read = refl; tail = t }

editing_first : (b : Bool) {ps : List Piece} {ms rest : List Mark} → Takes (sign (editing_symbol b) ∷ ps) ms rest → First editing b ps ms rest
unfolding editing eat sees expect
editing_first true (free {ms = ms} t) = record { mid = ms; read = refl; tail = t }
editing_first false (free {ms = ms} t) = record { mid = ms; read = refl; tail = t }

scheme_reads : (x : SchemeDecl) {ms rest : List Mark} → IsScheme x → Takes (spell_scheme x) ms rest → scheme ms ≡ Some (x, rest)
unfolding scheme
scheme_reads x is t =
    let t1 = sign_first LeftBracket t in
    let t2 = resting_first x.rests t1.tail in
    let t3 = editing_first x.editable t2.tail in
    let t4 = list_first items [] x.items is t3.tail (λ mid t. (not_refers RightBracket refl t, closed RightBracket t)) in
    let t5 = sign_behind RightBracket t4.tail in
    rw (t1.read, t2.read, t3.read, t4.read, t5.read, ends t5.tail) refl

scheme_items : Items (sees (is_sign LeftBracket)) scheme spell_scheme IsScheme (λ ms. ⊤)
scheme_items = record { reads = λ x is t end. scheme_reads x is t; begins = λ x t. sees_kept (is_sign LeftBracket) t; behind = λ x t. tt; some = λ x. omega arith }

view_first : (v : Option Name) {place : Position} {ps : List Piece} {ms rest : List Mark} → Takes (spell_view v ++ sign_at LeftBracket place ∷ ps) ms rest
    → First view_of v (sign_at LeftBracket place ∷ ps) ms rest
unfolding view_of eat sees name
view_first None {ms = ms} (kept t) = record { mid = ms; read = refl; tail = kept t }
view_first (Some v) (free (kept {ms = ms} t)) = record { mid = ms; read = refl; tail = t }

schemes_reads : (n op : Name) (v : Option Name) (x : SchemeDecl) (xs : List SchemeDecl) {ms rest : List Mark} → AllByRecursion IsScheme (x ∷ xs)
    → Takes (spell_view v ++ (flat_map spell_scheme (x ∷ xs) ++ sign Semicolon ∷ [])) ms rest → schemes n op ms ≡ Some (Schemes n op v (x ∷ xs), rest)
unfolding schemes
schemes_reads n op v x xs is t =
    let t1 = view_first v t in
    let p = splits (flat_map spell_scheme (x ∷ xs)) t1.tail in
    let q = splits (spell_scheme x) p.1 in
    let t2 = list_first scheme_items (x ∷ []) xs is.1 (q.2 then p.2) (λ mid t. (tt, sees_free (is_sign LeftBracket) t)) in
    let t3 = sign_behind Semicolon t2.tail in
    rw (t1.read, scheme_reads x is.0 q.1, t2.read, t3.read, ends t3.tail) refl

-- ---- functions and transformations

param_reads : (x : Typed) {ms rest : List Mark} → ⊤ → Takes (spell_param x) ms rest → ⊤ → param ms ≡ Some (x, rest)
unfolding param
param_reads x is t end =
    let t1 = name_first t in
    let t2 = name_first t1.tail in
    rw (t1.read, t2.read, ends t2.tail) refl

params : Elements param spell_param (λ x. ⊤) (λ ms. ⊤)
params = record { reads = param_reads; begins = λ x t. sees_kept (is_sign RightParenthesis) t; at_comma = λ ps ms rest t. tt; at_end = λ ps ms rest t. tt }

function_reads : (f n : Name) (xs : List Typed) (e : Expr) {ms rest : List Mark} → IsExpr e
    → Takes (named n ∷ sign LeftParenthesis ∷ join_by spell_param comma xs ++ (sign RightParenthesis ∷ sign LeftBrace ∷ spell_expr e ++ (sign RightBrace ∷ sign Semicolon ∷ []))) ms rest
    → function f ms ≡ Some (Function f n xs e, rest)
unfolding function
function_reads f n xs e is t =
    let t1 = name_first t in
    let t2 = sign_behind LeftParenthesis t1.tail in
    let t3 = arguments_first params xs (trivial xs) t2.tail in
    let t4 = sign_behind LeftBrace t3.tail in
    let t5 = expr_first e RightBrace is refl t4.tail in
    let t6 = sign_behind RightBrace t5.tail in
    let t7 = sign_behind Semicolon t6.tail in
    rw (t1.read, t2.read, t3.read, t4.read, t5.read, t6.read, t7.read, ends t7.tail) refl

transform_reads : (n : Name) (title : Quoted) (q : Pattern) (e : Expr) {ms rest : List Mark} → IsPattern q → IsExpr e → Takes (spell (Transform n title q e)) ms rest
    → transform ms ≡ Some (Transform n title q e, rest)
unfolding transform
transform_reads n title q e is_pattern is_expr t =
    let t1 = word_behind keyword.Transform t in
    let t2 = name_first t1.tail in
    let t3 = word_behind keyword.On t2.tail in
    let t4 = string_first t3.tail in
    let t5 = pattern_first q is_pattern t4.tail in
    let t6 = sign_behind Colon t5.tail in
    let t7 = expr_first e Semicolon is_expr refl t6.tail in
    let t8 = sign_behind Semicolon t7.tail in
    rw (t1.read, t2.read, t3.read, t4.read, t5.read, t6.read, t7.read, t8.read, ends t8.tail) refl

-- ---- productions

part_reads : (x : Part) {ms rest : List Mark} → ⊤ → Takes (spell_part x) ms rest → ⊤ → part_of ms ≡ Some (x, rest)
unfolding part_of sees name quoted
part_reads (part.Named n) is (kept none) end = refl
part_reads (part.Literal s) is (kept none) end = refl

part_begins : (x : Part) {ms rest : List Mark} → Takes (spell_part x) ms rest → sees is_part ms ≡ true
unfolding sees
part_begins (part.Named n) (kept t) = refl
part_begins (part.Literal s) (kept t) = refl

some_part : (x : Part) → 0 < length (spell_part x)
some_part (part.Named n) = omega arith
some_part (part.Literal s) = omega arith

parts : Items (sees is_part) part_of spell_part (λ x. ⊤) (λ ms. ⊤)
parts = record { reads = part_reads; begins = λ x t. part_begins x t; behind = λ x t. tt; some = some_part }

right_reads : (x : Right) (ms rest : List Mark) → IsRight x → Takes (spell_right x) ms rest → right ms ≡ Some (x, rest)
unfolding right
right_reads x ms rest is t =
    let t1 = sign_first LeftParenthesis t in
    let t2 = list_first parts [] x.parts (trivial x.parts) t1.tail (λ mid t. (tt, sees_free is_part t)) in
    let t3 = sign_behind RightParenthesis t2.tail in
    let t4 = sign_behind LeftBrace t3.tail in
    let t5 = expr_first x.expr RightBrace is refl t4.tail in
    let t6 = sign_behind RightBrace t5.tail in
    rw (t1.read, t2.read, t3.read, t4.read, t5.read, t6.read, ends t6.tail) refl

productions_reads : (n : Name) (x : Right) (xs : List Right) {ms rest : List Mark} → AllByRecursion IsRight (x ∷ xs)
    → Takes (sign ColonColonEquals ∷ join_by spell_right bar (x ∷ xs) ++ sign Semicolon ∷ []) ms rest → productions n ms ≡ Some (Productions n (x ∷ xs), rest)
unfolding productions
productions_reads n x xs is t =
    let t1 = sign_behind ColonColonEquals t in
    let p = splits (join_by spell_right bar (x ∷ xs)) t1.tail in
    let q = splits (spell_right x) p.1 in
    let t2 = list_first (others right_reads) (x ∷ []) xs is.1 (q.2 then p.2) (λ mid t. (tt, sees_free (is_sign Bar) t)) in
    let t3 = sign_behind Semicolon t2.tail in
    rw (t1.read, right_reads x t1.mid q.0 is.0 q.1, t2.read, t3.read, ends t3.tail) refl

-- ---- precedence lines

literals : Items (sees is_literal) quoted spell_literal (λ s. ⊤) (λ ms. ⊤)
literals = record { reads = literal_alone; begins = λ s t. sees_kept is_literal t; behind = λ s t. tt; some = λ s. omega arith }
  where
    literal_alone : (s : Quoted) {ms rest : List Mark} → ⊤ → Takes (spell_literal s) ms rest → ⊤ → quoted ms ≡ Some (s, rest)
    literal_alone s is t end = let t1 = quoted_first t in t1.read ∙ ap (λ (r : List Mark). Some (s, r)) (ends t1.tail)

group_found : (g : Group) → group_of (group_word g) ≡ Some g
group_found Left = refl
group_found ToRight = refl
group_found NonAssoc = refl

grouped_reads : (g : Group) (l : Quoted) (ls : List Quoted) (place : Position) {ms rest : List Mark} → Takes (flat_map spell_literal (l ∷ ls) ++ sign Semicolon ∷ []) ms rest
    → grouped g place ms ≡ Some (Precedence g (l ∷ ls) place, rest)
unfolding grouped
grouped_reads g l ls place t =
    let t1 = quoted_first t in
    let t2 = list_first literals (l ∷ []) ls (trivial ls) t1.tail (λ mid t. (tt, sees_free is_literal t)) in
    let t3 = sign_behind Semicolon t2.tail in
    rw (t1.read, t2.read, t3.read, ends t3.tail) refl

precedence_reads : (g : Group) (l : Quoted) (ls : List Quoted) (place : Position) {ms rest : List Mark} → Takes (flat_map spell_literal (l ∷ ls) ++ sign Semicolon ∷ []) ms rest
    → precedence (record { text = group_word g; place = place }) ms ≡ Some (Precedence g (l ∷ ls) place, rest)
unfolding precedence
precedence_reads g l ls place t = rw (group_found g) (grouped_reads g l ls place t)

-- ---- declarations

pub decl_reads : (d : Decl) {ms rest : List Mark} → IsTree d → Takes (spell d) ms rest → declaration ms ≡ Some (d, rest)
unfolding declaration of_name of_phylum of_colon of_operator root listed optional lexeme entry eat sees expect name string
decl_reads (Root n) is (free (kept (free none))) = refl
decl_reads (Listed n) is (free (kept (free none))) = refl
decl_reads (Optional false n) is (free (kept (free none))) = refl
decl_reads (Optional true n) is (free (free (kept (free none)))) = refl
decl_reads (Operators n []) is t = absurd (is refl)
decl_reads (Operators n (a ∷ alts)) is (kept (free (kept (free t)))) = operators_reads n a alts (free t)
decl_reads (LexemeOf n s) is (kept (free (free (kept (free (free none)))))) = refl
decl_reads (Attributes n xs) is (kept (free t)) = attributes_reads n xs (free t)
decl_reads (Equations n op ls es) is (kept (free (kept (free t)))) = equations_reads n op ls es is (free t)
decl_reads (Schemes n op v []) is t = absurd (is.0 refl)
decl_reads (Schemes n op None (x ∷ xs)) is (kept (free (kept (kept t)))) = schemes_reads n op None x xs is.1 (kept t)
decl_reads (Schemes n op (Some v) (x ∷ xs)) is (kept (free (kept (free t)))) = schemes_reads n op (Some v) x xs is.1 (free t)
decl_reads (Function f n xs e) is (kept (kept t)) = function_reads f n xs e is (kept t)
decl_reads (Transform n title q e) is (free t) = transform_reads n title q e is.0 is.1 (free t)
decl_reads (Productions n []) is t = absurd (is.0 refl)
decl_reads (Productions n (x ∷ xs)) is (kept (free t)) = productions_reads n x xs is.1 (free t)
decl_reads (Entry n m a) is (kept (free (kept (free (kept (free none)))))) = refl
decl_reads (Precedence g [] place) is t = absurd (is refl)
decl_reads (Precedence g (l ∷ ls) place) is (kept (kept t)) = precedence_reads g l ls place (kept t)
