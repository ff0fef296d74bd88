-- A declaration that is read is spelled by what was read.
use Rattle.std.proofs.Common.{◌≡◌, ℕ, Bool, true, false, List, [], ◌∷◌, ◌++◌, Option, Some, None, refl, sym, ap, ◌∙◌, subst, append_assoc}
use Rattle.std.specs.Prelude.{bytes_eq, cond, flat_map, ⊤}
use Rattle.std.specs.List.{AllByRecursion, join_by}
use Rattle.std.proofs.lemmas.Option.{same_Some}
use Rattle.std.proofs.lemmas.Slice.Eq.{bytes_eq-Decides}
use Rattle.sg_text.specs.Lexemes.{Word, Sign}
use Rattle.sg_text.specs.declared.symbols.Symbol.TheVariants as signs
use Rattle.sg_text.specs.declared.words.Keyword.TheVariants as keyword
use Rattle.sg_kinds.specs.declared.fault.Position.{Position}
use Rattle.sg_kinds.specs.declared.marks.Way.{Way}
use Rattle.sg_kinds.specs.declared.marks.Way.TheVariants.{Synthesized, Inherited}
use Rattle.sg_kinds.specs.declared.marks.Group.{Group}
use Rattle.sg_kinds.specs.declared.marks.Group.TheVariants as group
use Rattle.sg_ast.specs.declared.name.Name.{Name}
use Rattle.sg_ast.specs.declared.name.Quoted.{Quoted}
use Rattle.sg_ast.specs.declared.name.Typed.{Typed}
use Rattle.sg_ast.specs.declared.decl.Alt.{Alt}
use Rattle.sg_ast.specs.declared.decl.AttrDecl.{AttrDecl}
use Rattle.sg_ast.specs.declared.decl.Item.{Item}
use Rattle.sg_ast.specs.declared.decl.SchemeDecl.{SchemeDecl}
use Rattle.sg_ast.specs.declared.decl.Part.{Part}
use Rattle.sg_ast.specs.Declarations.{Equation, Right, Decl, Operators, Schemes, Productions, Precedence}
use Rattle.sg_ast.specs.Spelling.{Mark, Piece, Kept, Takes, none, free, kept, sign, word, comma, way_word, group_word, resting_symbol, editing_symbol, spell_name, spell_text, spell_literal, spell_view, spell_expr, spell_equation, spell_alt, spell_attr, spell_local, spell_param, spell_item, spell_scheme, spell_part, spell_right, spell_listed, spell}
use Rattle.sg_ast.specs.Grouped.{max_depth, IsItem, IsScheme, IsExpr, IsEquation, IsRight, IsTree}
use Rattle.sg_ast.specs.Readers.{Reader, done, ◌<$>◌, is_sign, is_reserved, is_name, is_string, is_literal, sees, expect, name, string, quoted}
use Rattle.sg_ast.specs.ReadingExpressions.{expr}
use Rattle.sg_ast.specs.Reading.{alt, alt_of, other, operators, lexeme, way, attr, sees_other, attributes, local, equation, equations, separator, item_of, resting, editing, scheme, view_of, schemes, param, function, transform, is_part, part_of, right, productions, entry, group_of, grouped, grouped_by, precedence, root, listed, optional, of_operator, of_colon, of_phylum, of_name, declaration}
use Rattle.sg_ast.proofs.Steps.{◌then◌, alone, opens, closes, either, name_read, string_read, quoted_read, sign_read, sign_at_read, word_read, Eaten, took, left, eat_read, after_name, more_read, all_read, Listed as Found}
use Rattle.sg_ast.proofs.References.{target_read}
use Rattle.sg_ast.proofs.Separated.{arguments_read}
use Rattle.sg_ast.proofs.PatternLaws as patterns
use Rattle.sg_ast.proofs.ExprSpelled.{expr_read}

-- ---- parts

read_expr : (e : _) {ms rest : List Mark} → expr ms ≡ Some (e, rest) → IsExpr e × Takes (spell_expr e) ms rest
read_expr e {ms = ms} {rest = rest} is =
    let r = expr_read max_depth e ms rest is in (record { grouped = r.0.grouped; within = r.0.within }, r.1)

-- a list that begins with one that was read
first_and : {A : Type 0} {s : A → List Piece} {Is : A → Type 0} {x : A} {ys : List A} {ms rest : List Mark} → Found s Is (x ∷ []) ys ms rest
    → (xs : List A) × (ys ≡ x ∷ xs) × AllByRecursion Is xs × Takes (flat_map s xs) ms rest
first_and f = (f.xs, f.all, f.each, f.spelled)

-- ---- operators

name_alone : (n : Name) (ms rest : List Mark) → name ms ≡ Some (n, rest) → ⊤ × Takes (spell_name n) ms rest
name_alone n ms rest e = (tt, name_read e)

alt_read : (n : Name) {a : Alt} {ms rest : List Mark} → alt_of n ms ≡ Some (a, rest) → Takes (spell_alt a) ((Word n.text, n.place) ∷ ms) rest
unfolding alt_of
alt_read n {ms = ms} e =
    let s1 = opens e in
    let s2 = opens s1.3 in
    let s3 = opens s2.3 in
    let args = all_read (more_read (sees is_name) name spell_name (λ n. ⊤) name_alone _ [] s2.2) in
    closes (λ a rest. Takes (spell_alt a) ((Word n.text, n.place) ∷ ms) rest) (kept (sign_read signs.LeftParenthesis s1.2 then args.1 then sign_read signs.RightParenthesis s3.2)) s3.3

alt_whole : (a : Alt) (ms rest : List Mark) → alt ms ≡ Some (a, rest) → ⊤ × Takes (spell_alt a) ms rest
unfolding alt
alt_whole a ms rest e = let s1 = opens e in (tt, after_name s1.2 (alt_read s1.0 s1.3))

other_read : {A : Type 0} (one : Reader A) (s : A → List Piece) (Is : A → Type 0) → ((a : A) (ms rest : List Mark) → one ms ≡ Some (a, rest) → Is a × Takes (s a) ms rest)
    → (a : A) (ms rest : List Mark) → other one ms ≡ Some (a, rest) → Is a × Takes (sign signs.Bar ∷ s a) ms rest
unfolding other
other_read one s Is read a ms rest e =
    let s1 = opens e in
    let r = read a s1.1 rest s1.3 in
    (r.0, sign_read signs.Bar s1.2 then r.1)

-- a declaration that was read behind some marks
abbrev IsRead : List Mark → Decl → List Mark → Type 0
IsRead ms d rest = IsTree d × Takes (spell d) ms rest

-- the marks of a name
abbrev mark : Name → List Mark → List Mark
mark n ms = (Word n.text, n.place) ∷ ms

operators_read : (n op : Name) {place : Position} {d : Decl} {ms rest : List Mark} → operators n op ms ≡ Some (d, rest) → IsRead (mark n ((Sign signs.Colon, place) ∷ mark op ms)) d rest
unfolding operators
operators_read n op {place = place} {ms = ms} e =
    let s1 = opens e in
    let s2 = opens s1.3 in
    let s3 = opens s2.3 in
    let first = alt_read op s1.2 in
    let all = first_and (more_read (sees (is_sign signs.Bar)) (other alt) (λ a. sign signs.Bar ∷ spell_alt a) (λ a. ⊤) (other_read alt spell_alt (λ a. ⊤) alt_whole) _ (s1.0 ∷ []) s2.2) in
    let P : List Alt → Type 0 = λ alts. IsRead (mark n ((Sign signs.Colon, place) ∷ mark op ms)) (Operators n alts) s3.1 in
    closes (IsRead (mark n ((Sign signs.Colon, place) ∷ mark op ms)))
    (subst P (sym all.1) ((λ e. cc), kept (free ((first then all.3) then sign_read signs.Semicolon s3.2)))) s3.3

-- ---- attributes, locals and equations

way_by : (b : Bool) (w : Way) {ms mid rest : List Mark} → Eaten (is_reserved keyword.Synthesized) b ms mid
    → cond b (done Synthesized) ((λ (place : Position). Inherited) <$> expect (is_reserved keyword.Inherited)) mid ≡ Some (w, rest) → Takes (word (way_word w) ∷ []) ms rest
way_by true w {ms = ms} (took first) e = closes (λ w rest. Takes (word (way_word w) ∷ []) ms rest) (word_read keyword.Synthesized first) e
way_by false w {ms = ms} left e =
    let s1 = opens e in closes (λ w rest. Takes (word (way_word w) ∷ []) ms rest) (word_read keyword.Inherited s1.2) s1.3

way_read : {w : Way} {ms rest : List Mark} → way ms ≡ Some (w, rest) → Takes (word (way_word w) ∷ []) ms rest
unfolding way
way_read {w = w} e = let s1 = opens e in way_by s1.0 w (eat_read (is_reserved keyword.Synthesized) s1.2) s1.3

attr_read : (a : AttrDecl) (ms rest : List Mark) → attr ms ≡ Some (a, rest) → ⊤ × Takes (spell_attr a) ms rest
unfolding attr
attr_read a ms rest e =
    let s1 = opens e in
    let s2 = opens s1.3 in
    let s3 = opens s2.3 in
    let s4 = opens s3.3 in
    closes (λ a rest. ⊤ × Takes (spell_attr a) ms rest) (tt, way_read s1.2 then name_read s2.2 then name_read s3.2 then sign_read signs.Semicolon s4.2) s4.3

attributes_read : (n : Name) {d : Decl} {ms rest : List Mark} → attributes n ms ≡ Some (d, rest) → IsRead (mark n ms) d rest
unfolding attributes
attributes_read n {ms = ms} e =
    let s1 = opens e in
    let s2 = opens s1.3 in
    let s3 = opens s2.3 in
    let s4 = opens s3.3 in
    let all = all_read (more_read (sees_other (is_sign signs.RightBrace)) attr spell_attr (λ a. ⊤) attr_read _ [] s2.2) in
    closes (IsRead (mark n ms)) (tt, kept (sign_read signs.LeftBrace s1.2 then all.1 then sign_read signs.RightBrace s3.2 then sign_read signs.Semicolon s4.2)) s4.3

local_read : (a : Typed) (ms rest : List Mark) → local ms ≡ Some (a, rest) → ⊤ × Takes (spell_local a) ms rest
unfolding local
local_read a ms rest e =
    let s1 = opens e in
    let s2 = opens s1.3 in
    let s3 = opens s2.3 in
    let s4 = opens s3.3 in
    closes (λ a rest. ⊤ × Takes (spell_local a) ms rest) (tt, word_read keyword.Local s1.2 then name_read s2.2 then name_read s3.2 then sign_read signs.Semicolon s4.2) s4.3

equation_read : (a : Equation) (ms rest : List Mark) → equation ms ≡ Some (a, rest) → IsEquation a × Takes (spell_equation a) ms rest
unfolding equation
equation_read a ms rest e =
    let s1 = opens e in
    let s2 = opens s1.3 in
    let s3 = opens s2.3 in
    let s4 = opens s3.3 in
    let t = target_read s1.2 in
    let x = read_expr s3.0 s3.2 in
    closes (λ a rest. IsEquation a × Takes (spell_equation a) ms rest) ((t.0, x.0), t.1 then sign_read signs.Equals s2.2 then x.1 then sign_read signs.Semicolon s4.2) s4.3

equations_read : (n op : Name) {place : Position} {d : Decl} {ms rest : List Mark} → equations n op ms ≡ Some (d, rest) → IsRead (mark n ((Sign signs.Colon, place) ∷ mark op ms)) d rest
unfolding equations
equations_read n op {place = place} {ms = ms} e =
    let s1 = opens e in
    let s2 = opens s1.3 in
    let s3 = opens s2.3 in
    let s4 = opens s3.3 in
    let s5 = opens s4.3 in
    let ls = all_read (more_read (sees (is_reserved keyword.Local)) local spell_local (λ a. ⊤) local_read _ [] s2.2) in
    let es = all_read (more_read (sees_other (is_sign signs.RightBrace)) equation spell_equation IsEquation equation_read _ [] s3.2) in
    closes (IsRead (mark n ((Sign signs.Colon, place) ∷ mark op ms)))
    (es.0, kept (free (kept (sign_read signs.LeftBrace s1.2 then ls.1 then es.1 then sign_read signs.RightBrace s4.2 then sign_read signs.Semicolon s5.2)))) s5.3

-- ---- schemes

text_alone : (s : Quoted) (ms rest : List Mark) → string ms ≡ Some (s, rest) → ⊤ × Takes (spell_text s) ms rest
text_alone s ms rest e = (tt, string_read e)

separator_read : {x : Item} {ms rest : List Mark} → separator ms ≡ Some (x, rest) → IsItem x × Takes (spell_item x) ms rest
unfolding separator
separator_read {ms = ms} e =
    let s1 = opens e in
    let s2 = opens s1.3 in
    let s3 = opens s2.3 in
    let ss = all_read (more_read (sees is_string) string spell_text (λ s. ⊤) text_alone _ [] s2.2) in
    closes (λ x rest. IsItem x × Takes (spell_item x) ms rest) (tt, sign_read signs.LeftBracket s1.2 then ss.1 then sign_read signs.RightBracket s3.2) s3.3

item_read : (x : Item) (ms rest : List Mark) → item_of ms ≡ Some (x, rest) → IsItem x × Takes (spell_item x) ms rest
unfolding item_of
item_read x ms rest e =
    let P : Item → List Mark → Type 0 = λ x rest. IsItem x × Takes (spell_item x) ms rest in
    either (sees is_string ms) e
    (λ is e. let s1 = opens e in closes P (tt, string_read s1.2) s1.3)
    (λ not e. either (sees (is_sign signs.At) ms) e
    (λ is e. let s1 = opens e in closes P (tt, sign_read signs.At s1.2) s1.3)
    (λ not e. either (sees (is_sign signs.Caret) ms) e
    (λ is e. let s1 = opens e in closes P (tt, sign_read signs.Caret s1.2) s1.3)
    (λ not e. either (sees (is_sign signs.DotDot) ms) e
    (λ is e. let s1 = opens e in closes P (tt, sign_read signs.DotDot s1.2) s1.3)
    (λ not e. either (sees (is_sign signs.LeftBracket) ms) e
    (λ is e. separator_read e)
    (λ not e. let s1 = opens e in closes P (target_read s1.2) s1.3)))))

resting_by : (b c : Bool) {ms mid rest : List Mark} → Eaten (is_sign signs.At) b ms mid
    → cond b (done true) ((λ (place : Position). false) <$> expect (is_sign signs.Caret)) mid ≡ Some (c, rest) → Takes (sign (resting_symbol c) ∷ []) ms rest
resting_by true c {ms = ms} (took first) e = closes (λ c rest. Takes (sign (resting_symbol c) ∷ []) ms rest) (sign_read signs.At first) e
resting_by false c {ms = ms} left e = let s1 = opens e in closes (λ c rest. Takes (sign (resting_symbol c) ∷ []) ms rest) (sign_read signs.Caret s1.2) s1.3

editing_by : (b c : Bool) {ms mid rest : List Mark} → Eaten (is_sign signs.ColonColonEquals) b ms mid
    → cond b (done true) ((λ (place : Position). false) <$> expect (is_sign signs.Colon)) mid ≡ Some (c, rest) → Takes (sign (editing_symbol c) ∷ []) ms rest
editing_by true c {ms = ms} (took first) e = closes (λ c rest. Takes (sign (editing_symbol c) ∷ []) ms rest) (sign_read signs.ColonColonEquals first) e
editing_by false c {ms = ms} left e = let s1 = opens e in closes (λ c rest. Takes (sign (editing_symbol c) ∷ []) ms rest) (sign_read signs.Colon s1.2) s1.3

scheme_read : (x : SchemeDecl) (ms rest : List Mark) → scheme ms ≡ Some (x, rest) → IsScheme x × Takes (spell_scheme x) ms rest
unfolding scheme resting editing
scheme_read x ms rest e =
    let s1 = opens e in
    let s2 = opens s1.3 in
    let s3 = opens s2.3 in
    let s4 = opens s3.3 in
    let s5 = opens s4.3 in
    let r = opens s2.2 in
    let d = opens s3.2 in
    let rests = resting_by r.0 s2.0 (eat_read (is_sign signs.At) r.2) r.3 in
    let edits = editing_by d.0 s3.0 (eat_read (is_sign signs.ColonColonEquals) d.2) d.3 in
    let xs = all_read (more_read (sees_other (is_sign signs.RightBracket)) item_of spell_item IsItem item_read _ [] s4.2) in
    closes (λ x rest. IsScheme x × Takes (spell_scheme x) ms rest)
    (xs.0, sign_at_read signs.LeftBracket s1.2 then rests then edits then xs.1 then sign_read signs.RightBracket s5.2) s5.3

view_by : (b : Bool) (v : Option Name) {ms mid rest : List Mark} → Eaten (is_reserved keyword.In) b ms mid
    → cond b (Some <$> name) (done None) mid ≡ Some (v, rest) → Takes (spell_view v) ms rest
view_by true v {ms = ms} (took first) e =
    let s1 = opens e in
    closes (λ v rest. Takes (spell_view v) ms rest) (word_read keyword.In first then name_read s1.2) s1.3
view_by false v {ms = ms} left e = closes (λ v rest. Takes (spell_view v) ms rest) none e

view_read : (v : Option Name) {ms rest : List Mark} → view_of ms ≡ Some (v, rest) → Takes (spell_view v) ms rest
unfolding view_of
view_read v e = let s1 = opens e in view_by s1.0 v (eat_read (is_reserved keyword.In) s1.2) s1.3

schemes_read : (n op : Name) {place : Position} {d : Decl} {ms rest : List Mark} → schemes n op ms ≡ Some (d, rest) → IsRead (mark n ((Sign signs.Colon, place) ∷ mark op ms)) d rest
unfolding schemes
schemes_read n op {place = place} {ms = ms} e =
    let s1 = opens e in
    let s2 = opens s1.3 in
    let s3 = opens s2.3 in
    let s4 = opens s3.3 in
    let first = scheme_read s2.0 s1.1 s2.1 s2.2 in
    let all = first_and (more_read (sees (is_sign signs.LeftBracket)) scheme spell_scheme IsScheme scheme_read _ (s2.0 ∷ []) s3.2) in
    let P : List SchemeDecl → Type 0 = λ xs. IsRead (mark n ((Sign signs.Colon, place) ∷ mark op ms)) (Schemes n op s1.0 xs) s4.1 in
    closes (IsRead (mark n ((Sign signs.Colon, place) ∷ mark op ms)))
    (subst P (sym all.1) (((λ e. cc), (first.0, all.2)), kept (free (kept (view_read s1.0 s1.2 then (first.1 then all.3) then sign_read signs.Semicolon s4.2))))) s4.3

-- ---- functions and transformations

param_read : (x : Typed) (ms rest : List Mark) → param ms ≡ Some (x, rest) → ⊤ × Takes (spell_param x) ms rest
unfolding param
param_read x ms rest e =
    let s1 = opens e in
    let s2 = opens s1.3 in
    closes (λ x rest. ⊤ × Takes (spell_param x) ms rest) (tt, name_read s1.2 then name_read s2.2) s2.3

-- the parenthesis that ends a list, before what follows
behind_list : (x : List Piece) {y : List Piece} {ms mid rest : List Mark} → Takes (x ++ sign signs.RightParenthesis ∷ []) ms mid → Takes y mid rest → Takes (x ++ sign signs.RightParenthesis ∷ y) ms rest
behind_list x {y = y} {ms = ms} {rest = rest} t s = let P : List Piece → Type 0 = λ ps. Takes ps ms rest in subst P (append_assoc x (sign signs.RightParenthesis ∷ []) y) (t then s)

function_read : (f : Name) {d : Decl} {ms rest : List Mark} → function f ms ≡ Some (d, rest) → IsRead (mark f ms) d rest
unfolding function
function_read f {ms = ms} e =
    let s1 = opens e in
    let s2 = opens s1.3 in
    let s3 = opens s2.3 in
    let s4 = opens s3.3 in
    let s5 = opens s4.3 in
    let s6 = opens s5.3 in
    let s7 = opens s6.3 in
    let ps = arguments_read param spell_param (λ x. ⊤) param_read s3.0 s2.1 s3.1 s3.2 in
    let x = read_expr s5.0 s5.2 in
    let body = sign_read signs.LeftBrace s4.2 then x.1 then sign_read signs.RightBrace s6.2 then sign_read signs.Semicolon s7.2 in
    closes (IsRead (mark f ms))
    (x.0, kept (name_read s1.2 then sign_read signs.LeftParenthesis s2.2 then behind_list (join_by spell_param comma s3.0) ps.1 body)) s7.3

transform_read : {d : Decl} {ms rest : List Mark} → transform ms ≡ Some (d, rest) → IsRead ms d rest
unfolding transform
transform_read {ms = ms} e =
    let s1 = opens e in
    let s2 = opens s1.3 in
    let s3 = opens s2.3 in
    let s4 = opens s3.3 in
    let s5 = opens s4.3 in
    let s6 = opens s5.3 in
    let s7 = opens s6.3 in
    let s8 = opens s7.3 in
    let q = patterns.pattern_read max_depth s5.0 s4.1 s5.1 s5.2 in
    let x = read_expr s7.0 s7.2 in
    closes (IsRead ms) (
      (record { numbers = q.0.numbers; within = q.0.within }, x.0),
      word_read keyword.Transform s1.2 then name_read s2.2 then word_read keyword.On s3.2 then string_read s4.2 then q.1
          then sign_read signs.Colon s6.2 then x.1 then sign_read signs.Semicolon s8.2,
    ) s8.3

-- ---- productions

part_read : (x : Part) (ms rest : List Mark) → part_of ms ≡ Some (x, rest) → ⊤ × Takes (spell_part x) ms rest
unfolding part_of
part_read x ms rest e =
    let P : Part → List Mark → Type 0 = λ x rest. ⊤ × Takes (spell_part x) ms rest in
    either (sees is_name ms) e
    (λ is e. let s1 = opens e in closes P (tt, name_read s1.2) s1.3)
    (λ not e. let s1 = opens e in closes P (tt, quoted_read s1.2) s1.3)

right_read : (x : Right) (ms rest : List Mark) → right ms ≡ Some (x, rest) → IsRight x × Takes (spell_right x) ms rest
unfolding right
right_read x ms rest e =
    let s1 = opens e in
    let s2 = opens s1.3 in
    let s3 = opens s2.3 in
    let s4 = opens s3.3 in
    let s5 = opens s4.3 in
    let s6 = opens s5.3 in
    let ps = all_read (more_read (sees is_part) part_of spell_part (λ x. ⊤) part_read _ [] s2.2) in
    let r = read_expr s5.0 s5.2 in
    closes (λ x rest. IsRight x × Takes (spell_right x) ms rest)
    (r.0, sign_at_read signs.LeftParenthesis s1.2 then ps.1 then sign_read signs.RightParenthesis s3.2 then sign_read signs.LeftBrace s4.2 then r.1 then sign_read signs.RightBrace s6.2) s6.3

productions_read : (n : Name) {d : Decl} {ms rest : List Mark} → productions n ms ≡ Some (d, rest) → IsRead (mark n ms) d rest
unfolding productions
productions_read n {ms = ms} e =
    let s1 = opens e in
    let s2 = opens s1.3 in
    let s3 = opens s2.3 in
    let s4 = opens s3.3 in
    let first = right_read s2.0 s1.1 s2.1 s2.2 in
    let all = first_and (more_read (sees (is_sign signs.Bar)) (other right) (λ x. sign signs.Bar ∷ spell_right x) IsRight (other_read right spell_right IsRight right_read) _ (s2.0 ∷ []) s3.2) in
    let P : List Right → Type 0 = λ xs. IsRead (mark n ms) (Productions n xs) s4.1 in
    closes (IsRead (mark n ms))
    (subst P (sym all.1) (((λ e. cc), (first.0, all.2)), kept (sign_read signs.ColonColonEquals s1.2 then (first.1 then all.3) then sign_read signs.Semicolon s4.2))) s4.3

-- ---- precedence lines

literal_alone : (s : Quoted) (ms rest : List Mark) → quoted ms ≡ Some (s, rest) → ⊤ × Takes (spell_literal s) ms rest
literal_alone s ms rest e = (tt, quoted_read e)

-- the word of a line
is_word_of : (w : List ℕ) (g h : Group) → bytes_eq w (group_word h) ≡ true → Some h ≡ Some g → w ≡ group_word g
is_word_of w g h is e = (bytes_eq-Decides w (group_word h)).0 is ∙ ap group_word (same_Some _ _ e)

group_read : (w : List ℕ) (g : Group) → group_of w ≡ Some g → w ≡ group_word g
group_read w g e =
    either (bytes_eq w (group_word group.Left)) e
    (λ is e. is_word_of w g group.Left is e)
    (λ not e. either (bytes_eq w (group_word group.Right)) e
    (λ is e. is_word_of w g group.Right is e)
    (λ not e. either (bytes_eq w (group_word group.NonAssoc)) e
    (λ is e. is_word_of w g group.NonAssoc is e)
    (λ not e. absurd (cc))))

first_word : (n : Name) (g : Group) {ps : List Piece} {ms rest : List Mark} → n.text ≡ group_word g → Takes ps ms rest → Takes (Kept (Word (group_word g)) n.place ∷ ps) (mark n ms) rest
first_word n g is t = rw is (kept t)

grouped_read : (n : Name) (g : Group) {d : Decl} {ms rest : List Mark} → n.text ≡ group_word g → grouped g n.place ms ≡ Some (d, rest) → IsRead (mark n ms) d rest
unfolding grouped
grouped_read n g {ms = ms} is e =
    let s1 = opens e in
    let s2 = opens s1.3 in
    let s3 = opens s2.3 in
    let all = first_and (more_read (sees is_literal) quoted spell_literal (λ s. ⊤) literal_alone _ (s1.0 ∷ []) s2.2) in
    let P : List Quoted → Type 0 = λ ls. IsRead (mark n ms) (Precedence g ls n.place) s3.1 in
    closes (IsRead (mark n ms))
    (subst P (sym all.1) ((λ e. cc), first_word n g is ((quoted_read s1.2 then all.3) then sign_read signs.Semicolon s3.2))) s3.3

precedence_read : (n : Name) {d : Decl} {ms rest : List Mark} → precedence n ms ≡ Some (d, rest) → IsRead (mark n ms) d rest
unfolding precedence
precedence_read n {d = d} {ms = ms} {rest = rest} e = by (group_of n.text) refl e
  where
    by : (o : Option Group) → group_of n.text ≡ o → grouped_by o n.place ms ≡ Some (d, rest) → IsRead (mark n ms) d rest
    by None is e = absurd (cc)
    by (Some g) is e = grouped_read n g (group_read n.text g is) e

-- ---- declarations

lexeme_read : (n : Name) {place : Position} {d : Decl} {ms rest : List Mark} → lexeme n ms ≡ Some (d, rest) → IsRead (mark n ((Sign signs.Colon, place) ∷ ms)) d rest
unfolding lexeme
lexeme_read n {place = place} {ms = ms} e =
    let s1 = opens e in
    let s2 = opens s1.3 in
    let s3 = opens s2.3 in
    let s4 = opens s3.3 in
    closes (IsRead (mark n ((Sign signs.Colon, place) ∷ ms)))
    (tt, kept (free (sign_read signs.Less s1.2 then string_read s2.2 then sign_read signs.Greater s3.2 then sign_read signs.Semicolon s4.2))) s4.3

entry_read : (n : Name) {d : Decl} {ms rest : List Mark} → entry n ms ≡ Some (d, rest) → IsRead (mark n ms) d rest
unfolding entry
entry_read n {ms = ms} e =
    let s1 = opens e in
    let s2 = opens s1.3 in
    let s3 = opens s2.3 in
    let s4 = opens s3.3 in
    let s5 = opens s4.3 in
    closes (IsRead (mark n ms)) (tt, kept (sign_read signs.Tilde s1.2 then name_read s2.2 then sign_read signs.Dot s3.2 then name_read s4.2 then sign_read signs.Semicolon s5.2)) s5.3

root_read : {d : Decl} {ms rest : List Mark} → root ms ≡ Some (d, rest) → IsRead ms d rest
unfolding root
root_read {ms = ms} e =
    let s1 = opens e in
    let s2 = opens s1.3 in
    let s3 = opens s2.3 in
    closes (IsRead ms) (tt, word_read keyword.Root s1.2 then name_read s2.2 then sign_read signs.Semicolon s3.2) s3.3

listed_read : {d : Decl} {ms rest : List Mark} → listed ms ≡ Some (d, rest) → IsRead ms d rest
unfolding listed
listed_read {ms = ms} e =
    let s1 = opens e in
    let s2 = opens s1.3 in
    let s3 = opens s2.3 in
    closes (IsRead ms) (tt, word_read keyword.List s1.2 then name_read s2.2 then sign_read signs.Semicolon s3.2) s3.3

listed_word : (b : Bool) {ms mid : List Mark} → Eaten (is_reserved keyword.List) b ms mid → Takes (spell_listed b) ms mid
listed_word true (took first) = word_read keyword.List first
listed_word false left = none

optional_read : {d : Decl} {ms rest : List Mark} → optional ms ≡ Some (d, rest) → IsRead ms d rest
unfolding optional
optional_read {ms = ms} e =
    let s1 = opens e in
    let s2 = opens s1.3 in
    let s3 = opens s2.3 in
    let s4 = opens s3.3 in
    closes (IsRead ms) (tt, word_read keyword.Optional s1.2 then listed_word s2.0 (eat_read (is_reserved keyword.List) s2.2) then name_read s3.2 then sign_read signs.Semicolon s4.2) s4.3

-- the marks of a colon that was read
behind_colon : (n : Name) (d : Decl) {place : Position} {ms mid rest : List Mark} → expect (is_sign signs.Colon) ms ≡ Some (place, mid)
    → IsRead (mark n ((Sign signs.Colon, place) ∷ mid)) d rest → IsRead (mark n ms) d rest
behind_colon n d {rest = rest} e is =
    let P : List Mark → Type 0 = λ ms. IsRead (mark n ms) d rest in subst P (sym (alone (sign_at_read signs.Colon e))) is

-- the marks of a name behind a colon
behind_name : (n : Name) (d : Decl) {place : Position} {op : Name} {ms mid rest : List Mark} → name ms ≡ Some (op, mid)
    → IsRead (mark n ((Sign signs.Colon, place) ∷ mark op mid)) d rest → IsRead (mark n ((Sign signs.Colon, place) ∷ ms)) d rest
behind_name n d {place = place} {rest = rest} e is =
    let P : List Mark → Type 0 = λ ms. IsRead (mark n ((Sign signs.Colon, place) ∷ ms)) d rest in subst P (sym (alone (name_read e))) is

operator_read : (n op : Name) {place : Position} {d : Decl} {ms rest : List Mark} → of_operator n op ms ≡ Some (d, rest) → IsRead (mark n ((Sign signs.Colon, place) ∷ mark op ms)) d rest
unfolding of_operator
operator_read n op {ms = ms} e =
    either (sees (is_sign signs.LeftParenthesis) ms) e
    (λ is e. operators_read n op e)
    (λ not e. either (sees (is_sign signs.LeftBrace) ms) e
    (λ is e. equations_read n op e)
    (λ not e. schemes_read n op e))

colon_read : (n : Name) {place : Position} {d : Decl} {ms rest : List Mark} → of_colon n ms ≡ Some (d, rest) → IsRead (mark n ((Sign signs.Colon, place) ∷ ms)) d rest
unfolding of_colon
colon_read n {d = d} {ms = ms} e =
    either (sees (is_sign signs.Less) ms) e
    (λ is e. lexeme_read n e)
    (λ not e. let s1 = opens e in behind_name n d s1.2 (operator_read n s1.0 s1.3))

named_read : (n : Name) {d : Decl} {ms rest : List Mark} → of_name n ms ≡ Some (d, rest) → IsRead (mark n ms) d rest
unfolding of_name of_phylum
named_read n {d = d} {ms = ms} e =
    either (sees (is_sign signs.Colon) ms) e
    (λ is e. let s1 = opens e in behind_colon n d s1.2 (colon_read n s1.3))
    (λ not e. either (sees (is_sign signs.LeftBrace) ms) e
    (λ is e. attributes_read n e)
    (λ not e. either (sees (is_sign signs.ColonColonEquals) ms) e
    (λ is e. productions_read n e)
    (λ not e. either (sees (is_sign signs.Tilde) ms) e
    (λ is e. entry_read n e)
    (λ not e. either (sees is_literal ms) e
    (λ is e. precedence_read n e)
    (λ not e. function_read n e)))))

pub decl_read : {d : Decl} {ms rest : List Mark} → declaration ms ≡ Some (d, rest) → IsTree d × Takes (spell d) ms rest
unfolding declaration
decl_read {d = d} {ms = ms} {rest = rest} e =
    either (sees is_name ms) e
    (λ is e.
    let s1 = opens e in
    let r = named_read s1.0 s1.3 in
    (r.0, after_name s1.2 r.1))
    (λ not e. either (sees (is_reserved keyword.Root) ms) e
    (λ is e. root_read e)
    (λ not e. either (sees (is_reserved keyword.List) ms) e
    (λ is e. listed_read e)
    (λ not e. either (sees (is_reserved keyword.Optional) ms) e
    (λ is e. optional_read e)
    (λ not e. transform_read e))))
