-- The spelling of an expression is read as this expression.
use Rattle.std.proofs.Common.{◌≡◌, ◌≢◌, ℕ, zero, suc, ◌+◌, ◌-◌, ◌<◌, ◌≤◌, ◌^◌, Bool, true, false, List, [], ◌∷◌, ◌++◌, length, Option, Some, None, refl, sym, ap, ◌∙◌, subst, arith, append_assoc, ◌⊎◌, inl, inr}
use Rattle.std.specs.Prelude.{cond, flat_map, ⊤, drop}
use Rattle.std.specs.List.{AllByRecursion, join_by}
use Rattle.std.proofs.lemmas.Bool.{lt-ltb, le-leb, lt-leb, cases_lt}
use Rattle.sg_text.specs.declared.symbols.Symbol.TheVariants.{Comma, Colon, Dot, Question, RightParenthesis, LeftParenthesis, RightBrace, LeftBrace, Equals}
use Rattle.sg_text.specs.declared.words.Keyword.TheVariants as keyword
use Rattle.sg_kinds.specs.declared.fault.Position.{Position}
use Rattle.sg_kinds.specs.declared.marks.Made.TheVariants.{Completing, Placeholder}
use Rattle.sg_ast.specs.declared.name.Name.{Name}
use Rattle.sg_ast.specs.declared.name.Pair.{Pair}
use Rattle.sg_ast.specs.declared.name.Occurrence.{Occurrence}
use Rattle.sg_ast.specs.declared.name.Occurrence.TheVariants.{Own, Named}
use Rattle.sg_ast.specs.declared.expr.Infix.{Infix}
use Rattle.sg_ast.specs.declared.expr.Prefix.{Prefix}
use Rattle.sg_ast.specs.declared.expr.Prefix.TheVariants.{Minus, Not}
use Rattle.sg_ast.specs.Levels.{symbol_of, level, choice_level, prefix_level, atom_level, groups_left, left_by, right_by, next_by}
use Rattle.sg_ast.specs.Patterns.{Pattern}
use Rattle.sg_ast.specs.Patterns as p
use Rattle.sg_ast.specs.Expressions.{Expr, Exprs, Cases, Amount, Chars, Truth, Variable, Attribute, Remote, MadeOf, Paren, Single, Binary, Choice, Call, Let, With, NoExpr, AndExpr, NoCase, Default, Case}
use Rattle.sg_ast.specs.Spelling.{Mark, Piece, Free, Takes, none, free, kept, sign, sign_at, word, named, comma, spell_pair, spell_number, spell_occurrence, spell_reference, spell_pattern, spell_expr, spell_exprs, spell_more_exprs, spell_cases}
use Rattle.sg_ast.specs.Grouped.{max_depth, depth, exprs_depth, cases_depth, level_of, IsPattern, IsGrouped, AreGrouped, HasGrouped, IsOccurrence}
use Rattle.sg_ast.specs.Chains.{exprs_chain, cases_chain}
use Rattle.sg_ast.specs.Readers.{Reader, Outcome, and_then, is_sign, is_reserved, sees, expect, name, number, string}
use Rattle.sg_ast.specs.ReadingNames.{another, truth, pair}
use Rattle.sg_ast.specs.ReadingExpressions.{next_infix, paren, let_in, case, sees_case, default_case, with_cases, named_expr, remote, prefixed, signed_expr, reserved_expr, operand, shallow, climb, chosen, expr_by, expr_within}
use Rattle.sg_ast.proofs.Steps.{◌then◌, splits, ends, First, name_first, sign_first, sign_behind, word_first, word_behind, sees_free, sees_kept, Items, more_reads}
use Rattle.sg_ast.proofs.References.{own_reads, named_reads, pair_reads, refers_number}
use Rattle.sg_ast.proofs.Separated.{Elements, trivial, separated_first, arguments_first}
use Rattle.sg_ast.proofs.PatternLaws as patterns
use Rattle.sg_ast.proofs.LevelLaws.{may_follow, right_stops, level-small, sign_binds, binds_of, binds_first, no_call, no_reference, no_choice, gap, halts, halts_choice, next_found, infix_binds}

-- the law one node deeper
pub Whole : ℕ → Type 0
Whole d =
    (e : Expr) (least : ℕ) (ms rest : List Mark) → IsGrouped e → depth e ≤ d → least ≤ level_of e → Takes (spell_expr e) ms rest
    → binds_of rest < least → expr_within d least ms ≡ Some (e, rest)

level-some : (e : Expr) → choice_level ≤ level_of e
level-some (Binary s a b) = omega (arith, (level-small s).0)
level-some e = omega arith

-- an inner expression, behind which a token stands that goes on with nothing
inner : (d : ℕ) → Whole d → (e : Expr) {ms rest : List Mark} → IsGrouped e → depth e ≤ d → Takes (spell_expr e) ms rest → binds_of rest ≡ 0
    → expr_within d choice_level ms ≡ Some (e, rest)
unfolding Whole
inner d w e {ms = ms} {rest = rest} grouped within t end = w e choice_level ms rest grouped within (level-some e) t (omega (arith, end))

-- ---- chains as lists

pub exprs_list : Exprs → List Expr
exprs_list NoExpr = []
exprs_list (AndExpr e es) = e ∷ exprs_list es

chain-list : (es : Exprs) → exprs_chain (exprs_list es) ≡ es
unfolding exprs_list
chain-list NoExpr = refl
chain-list (AndExpr e es) = ap (AndExpr e) (chain-list es)

more-list : (es : Exprs) → spell_more_exprs es ≡ flat_map (λ e. sign Comma ∷ spell_expr e) (exprs_list es)
unfolding exprs_list
more-list NoExpr = refl
more-list (AndExpr e es) = ap (λ (ps : List Piece). sign Comma ∷ spell_expr e ++ ps) (more-list es)

spell-list : (es : Exprs) → spell_exprs es ≡ join_by spell_expr comma (exprs_list es)
unfolding exprs_list
spell-list NoExpr = refl
spell-list (AndExpr e es) = ap (λ (ps : List Piece). spell_expr e ++ ps) (more-list es)

-- an expression that is grouped and not too deep
pub record IsWithin (d : ℕ) (e : Expr) : Type 0 where
  pub grouped : IsGrouped e
  pub within : depth e ≤ d

each_within : (d : ℕ) (es : Exprs) → AreGrouped es → exprs_depth es ≤ d → AllByRecursion (IsWithin d) (exprs_list es)
unfolding exprs_list
each_within d NoExpr grouped within = tt
each_within d (AndExpr e es) grouped within = (record { grouped = grouped.0; within = omega arith }, each_within d es grouped.1 (omega arith))

pub cases_list : Cases → List (Pattern × Expr)
cases_list NoCase = []
cases_list (Default e) = []
cases_list (Case q e cs) = (q, e) ∷ cases_list cs

pub default_of : Cases → Option Expr
default_of NoCase = None
default_of (Default e) = Some e
default_of (Case q e cs) = default_of cs

cases-list : (cs : Cases) → cases_chain (cases_list cs) (default_of cs) ≡ cs
unfolding cases_list default_of
cases-list NoCase = refl
cases-list (Default e) = refl
cases-list (Case q e cs) = ap (Case q e) (cases-list cs)

abbrev pub spell_case : Pattern × Expr → List Piece
spell_case c = sign Comma ∷ spell_pattern c.0 ++ (sign Colon ∷ spell_expr c.1)

abbrev pub spell_default : Option Expr → List Piece
spell_default None = []
spell_default (Some e) = sign Comma ∷ word keyword.Default ∷ sign Colon ∷ spell_expr e

spell-cases : (cs : Cases) → spell_cases cs ≡ flat_map spell_case (cases_list cs) ++ spell_default (default_of cs)
unfolding cases_list default_of
spell-cases NoCase = refl
spell-cases (Default e) = refl
spell-cases (Case q e cs) =
    ap (λ (ps : List Piece). sign Comma ∷ spell_pattern q ++ (sign Colon ∷ spell_expr e ++ ps)) (spell-cases cs)
    ∙ sym (append_assoc (sign Comma ∷ spell_pattern q ++ (sign Colon ∷ spell_expr e)) (flat_map spell_case (cases_list cs)) (spell_default (default_of cs)) ∙ ap (λ (ps : List Piece). sign Comma ∷ ps) (append_assoc (spell_pattern q) (sign Colon ∷ spell_expr e) (flat_map spell_case (cases_list cs) ++ spell_default (default_of cs))))

-- a case that is not too deep
abbrev pub IsCase : ℕ → Pattern × Expr → Type 0
IsCase d c = IsPattern c.0 × IsWithin d c.1

each_case : (d : ℕ) (cs : Cases) → HasGrouped cs → cases_depth cs ≤ d → AllByRecursion (IsCase d) (cases_list cs)
unfolding cases_list
each_case d NoCase grouped within = tt
each_case d (Default e) grouped within = tt
each_case d (Case q e cs) grouped within = ((grouped.0, record { grouped = grouped.1; within = omega arith }), each_case d cs grouped.2 (omega arith))

abbrev pub IsDefault : ℕ → Option Expr → Type 0
IsDefault d None = ⊤
IsDefault d (Some e) = IsWithin d e

default_within : (d : ℕ) (cs : Cases) → HasGrouped cs → cases_depth cs ≤ d → IsDefault d (default_of cs)
unfolding default_of
default_within d NoCase grouped within = tt
default_within d (Default e) grouped within = record { grouped = grouped; within = within }
default_within d (Case q e cs) grouped within = default_within d cs grouped.2 (omega arith)

-- ---- atoms

begins_occurrence : (o : Occurrence) (ps : List Piece) {ms rest : List Mark} → Takes (spell_occurrence o ++ ps) ms rest → sees (is_sign RightParenthesis) ms ≡ false
unfolding sees
begins_occurrence (Own place) ps (kept t) = refl
begins_occurrence (Named n k) ps (kept t) = refl

begins : (e : Expr) {ms rest : List Mark} → Takes (spell_expr e) ms rest → sees (is_sign RightParenthesis) ms ≡ false
unfolding sees
begins (Amount n place) (kept t) = refl
begins (Chars s) (kept t) = refl
begins (Truth b place) (kept t) = refl
begins (Variable n) (kept t) = refl
begins (Attribute r) t = begins_occurrence r.of (sign Dot ∷ named r.attr ∷ []) t
begins (Remote r) (kept t) = refl
begins (MadeOf Completing n place) (kept t) = refl
begins (MadeOf Placeholder n place) (kept t) = refl
begins (Paren a place) (kept t) = refl
begins (Single Minus a place) (kept t) = refl
begins (Single Not a place) (kept t) = refl
begins (Binary s a b) t = begins a (splits (spell_expr a) t).1
begins (Choice a b c) t = begins a (splits (spell_expr a) t).1
begins (Call n es) (kept t) = refl
begins (Let n a b place) (kept t) = refl
begins (With a q b cs place) (kept t) = refl

-- a token that goes on with nothing stands next
quiet : (s : _) {ps : List Piece} (ms rest : List Mark) → sign_binds s ≡ 0 → Takes (sign s ∷ ps) ms rest → binds_of ms ≡ 0
quiet s ms rest nothing t = binds_first t ∙ nothing

elements : (d : ℕ) → Whole d → Elements (expr_within d choice_level) spell_expr (IsWithin d) (λ ms. binds_of ms ≡ 0)
elements d w = record {
  reads = λ e is t end. inner d w e is.grouped is.within t end;
  begins = λ e t. begins e t;
  at_comma = λ ps ms rest t. quiet Comma ms rest refl t;
  at_end = λ ps ms rest t. quiet RightParenthesis ms rest refl t;
}

paren_reads : (d : ℕ) → Whole d → (a : Expr) (place : Position) {ms rest : List Mark} → IsGrouped a → depth a ≤ d → Takes (spell_expr (Paren a place)) ms rest
    → paren (expr_within d) ms ≡ Some (Paren a place, rest)
unfolding paren
paren_reads d w a place {rest = rest} grouped within t =
    let t1 = sign_first LeftParenthesis t in
    let s2 = splits (spell_expr a) t1.tail in
    let read2 = inner d w a grouped within s2.1 (quiet RightParenthesis s2.0 rest refl s2.2) in
    let t3 = sign_behind RightParenthesis s2.2 in
    rw (t1.read, read2, t3.read, ends t3.tail) refl

call_reads : (d : ℕ) → Whole d → (n : Name) (es : Exprs) {ms rest : List Mark} → AreGrouped es → exprs_depth es ≤ d
    → Takes (sign LeftParenthesis ∷ spell_exprs es ++ sign RightParenthesis ∷ []) ms rest → named_expr (expr_within d) n ms ≡ Some (Call n es, rest)
unfolding named_expr
call_reads d w n es {ms = ms} {rest = rest} grouped within t =
    let t1 = sign_behind LeftParenthesis t in
    let P : List Piece → Type 0 = λ ps. Takes (ps ++ sign RightParenthesis ∷ []) t1.mid rest in
    let found = arguments_first (elements d w) (exprs_list es) (each_within d es grouped within) (subst P (spell-list es) t1.tail) in
    rw (sees_free (is_sign LeftParenthesis) t, t1.read, found.read, chain-list es, ends found.tail) refl

quiet_word : {ps : List Piece} (ms rest : List Mark) → Takes (word keyword.In ∷ ps) ms rest → binds_of ms ≡ 0
unfolding binds_of
quiet_word ms rest (free t) = refl

let_reads : (d : ℕ) → Whole d → (n : Name) (a b : Expr) (place : Position) {ms rest : List Mark} → IsGrouped a → IsGrouped b → depth a ≤ d → depth b ≤ d
    → Takes (spell_expr (Let n a b place)) ms rest → let_in (expr_within d) ms ≡ Some (Let n a b place, rest)
unfolding let_in
let_reads d w n a b place {rest = rest} grouped_a grouped_b within_a within_b t =
    let t1 = word_first keyword.Let t in
    let t2 = name_first t1.tail in
    let t3 = sign_behind Equals t2.tail in
    let s4 = splits (spell_expr a) t3.tail in
    let t5 = word_behind keyword.In s4.2 in
    let t6 = sign_behind LeftParenthesis t5.tail in
    let s7 = splits (spell_expr b) t6.tail in
    let t8 = sign_behind RightParenthesis s7.2 in
    let read4 = inner d w a grouped_a within_a s4.1 (quiet_word s4.0 rest s4.2) in
    let read7 = inner d w b grouped_b within_b s7.1 (quiet RightParenthesis s7.0 rest refl s7.2) in
    rw (t1.read, t2.read, t3.read, read4, t5.read, t6.read, read7, t8.read, ends t8.tail) refl

-- a pattern and its ':' come before an expression
case_reads : (d : ℕ) → Whole d → (c : Pattern × Expr) {ms rest : List Mark} → IsCase d c → Takes (spell_pattern c.0 ++ (sign Colon ∷ spell_expr c.1)) ms rest → binds_of rest ≡ 0
    → case (expr_within d) ms ≡ Some (c, rest)
unfolding case
case_reads d w c {ms = ms} {rest = rest} is t end =
    let s1 = splits (spell_pattern c.0) t in
    let read1 = patterns.pattern_reads max_depth c.0 ms s1.0 (record { numbers = is.0.numbers; within = is.0.within }) s1.1 (sees_free (is_sign LeftParenthesis) s1.2) in
    let t2 = sign_behind Colon s1.2 in
    let read3 = inner d w c.1 is.1.grouped is.1.within t2.tail end in
    rw (read1, t2.read, read3) refl

no_default : (q : Pattern) {ms rest : List Mark} → Takes (spell_pattern q) ms rest → sees (is_reserved keyword.Default) ms ≡ false
unfolding sees
no_default (p.Amount true n place) (kept t) = refl
no_default (p.Amount false n place) (kept t) = refl
no_default (p.Chars s) (kept t) = refl
no_default (p.Truth true place) (kept t) = refl
no_default (p.Truth false place) (kept t) = refl
no_default (p.Anything place) (kept t) = refl
no_default (p.Variable n) (kept t) = refl
no_default (p.MadeAs Completing n place) (kept t) = refl
no_default (p.MadeAs Placeholder n place) (kept t) = refl
no_default (p.Applied n xs) (kept t) = refl

case_tail : (c : Pattern × Expr) {ms rest : List Mark} → Takes (spell_case c) ms rest → (mid : List Mark) × Takes (spell_pattern c.0) (drop 1 ms) mid
case_tail c (free t) = let q = splits (spell_pattern c.0) t in (q.0, q.1)

case_begins : (c : Pattern × Expr) {ms rest : List Mark} → Takes (spell_case c) ms rest → sees_case ms ≡ true
unfolding sees_case
case_begins c {ms = ms} t = rw (sees_free (is_sign Comma) t, no_default c.0 (case_tail c t).1) refl

another_reads : (d : ℕ) → Whole d → (c : Pattern × Expr) {ms rest : List Mark} → IsCase d c → Takes (spell_case c) ms rest → binds_of rest ≡ 0
    → another (case (expr_within d)) ms ≡ Some (c, rest)
unfolding another
another_reads d w c is t end =
    let t1 = sign_behind Comma t in rw (t1.read, case_reads d w c is t1.tail end) refl

cases_items : (d : ℕ) → Whole d → Items sees_case (another (case (expr_within d))) spell_case (IsCase d) (λ ms. binds_of ms ≡ 0)
cases_items d w = record {
  reads = λ c is t end. another_reads d w c is t end;
  begins = λ c t. case_begins c t;
  behind = λ c {ms} {rest} t. quiet Comma ms rest refl t;
  some = λ c. omega arith;
}

default_first : (d : ℕ) → Whole d → (o : Option Expr) {ms rest : List Mark} → IsDefault d o → Takes (spell_default o ++ sign RightParenthesis ∷ []) ms rest
    → First (default_case (expr_within d)) o (sign RightParenthesis ∷ []) ms rest
unfolding default_case
default_first d w None {ms = ms} is t = record { mid = ms; read = rw (sees_free (is_sign Comma) t) refl; tail = t }
default_first d w (Some e) {rest = rest} is t =
    let t1 = sign_behind Comma t in
    let t2 = word_behind keyword.Default t1.tail in
    let t3 = sign_behind Colon t2.tail in
    let s4 = splits (spell_expr e) t3.tail in
    let read4 = inner d w e is.grouped is.within s4.1 (quiet RightParenthesis s4.0 rest refl s4.2) in
    record { mid = s4.0; read = rw (sees_free (is_sign Comma) t, t1.read, t2.read, t3.read, read4) refl; tail = s4.2 }

default_ends : (o : Option Expr) {ms rest : List Mark} → Takes (spell_default o ++ sign RightParenthesis ∷ []) ms rest → (sees_case ms ≡ false) × (binds_of ms ≡ 0)
unfolding sees_case sees binds_of
default_ends None (free t) = (refl, refl)
default_ends (Some e) (free (free t)) = (refl, refl)

with_reads : (d : ℕ) → Whole d → (a : Expr) (q : Pattern) (b : Expr) (cs : Cases) (place : Position) {ms rest : List Mark} → IsGrouped (With a q b cs place) → depth (With a q b cs place) ≤ suc d
    → Takes (spell_expr (With a q b cs place)) ms rest → with_cases (expr_within d) ms ≡ Some (With a q b cs place, rest)
unfolding with_cases
with_reads d w a q b cs place {rest = rest} grouped within t =
    let t1 = word_first keyword.With t in
    let t2 = sign_behind LeftParenthesis t1.tail in
    let s3 = splits (spell_expr a) t2.tail in
    let t4 = sign_behind RightParenthesis s3.2 in
    let t5 = sign_behind LeftParenthesis t4.tail in
    let s6 = splits (spell_pattern q) t5.tail in
    let s7 = splits (sign Colon ∷ spell_expr b) s6.2 in
    let P : List Piece → Type 0 = λ ps. Takes (ps ++ sign RightParenthesis ∷ []) s7.0 rest in
    let t7 = subst P (spell-cases cs) s7.2 in
    let Q : List Piece → Type 0 = λ ps. Takes ps s7.0 rest in
    let s8 = splits (flat_map spell_case (cases_list cs)) (subst Q (append_assoc (flat_map spell_case (cases_list cs)) (spell_default (default_of cs)) (sign RightParenthesis ∷ [])) t7) in
    let over = default_ends (default_of cs) s8.2 in
    let read3 = inner d w a grouped.0 (omega arith) s3.1 (quiet RightParenthesis s3.0 rest refl s3.2) in
    let first : IsCase d (q, b) = (grouped.1, record { grouped = grouped.2; within = omega arith }) in
    let items = cases_items d w in
    let quiet8 = behind items (cases_list cs) s8.1 over.1 in
    let read6 = case_reads d w (q, b) first (s6.1 then s7.1) quiet8 in
    let read8 = more_reads items (cases_list cs) (length s7.0) [] (each_case d cs grouped.3 (omega arith)) s8.1 over.1 over.0 (omega arith) in
    let t9 = default_first d w (default_of cs) (default_within d cs grouped.3 (omega arith)) s8.2 in
    let t10 = sign_behind RightParenthesis t9.tail in
    rw (t1.read, t2.read, read3, t4.read, t5.read, read6, read8, t9.read, t10.read, cases-list cs, ends t10.tail) refl
  where
    behind : {d : ℕ} → Items sees_case (another (case (expr_within d))) spell_case (IsCase d) (λ ms. binds_of ms ≡ 0)
        → (cs : List (Pattern × Expr)) {ms rest : List Mark} → Takes (flat_map spell_case cs) ms rest → binds_of rest ≡ 0 → binds_of ms ≡ 0
    behind items [] t end = ap binds_of (ends t) ∙ end
    behind items (c ∷ cs) {ms = ms} t end = let s = splits (spell_case c) t in quiet Comma ms s.0 refl s.1

-- ---- operands

no_parenthesis : (k : Option ℕ) (ps : List Piece) {ms rest : List Mark} → Takes (spell_number k ++ sign Dot ∷ ps) ms rest → sees (is_sign LeftParenthesis) ms ≡ false
unfolding sees
no_parenthesis None ps (free t) = refl
no_parenthesis (Some k) ps (free t) = refl

attribute_reads : (d : ℕ) (o : Occurrence) (a : Name) {ms rest : List Mark} → IsOccurrence o → Takes (spell_reference (record { of = o; attr = a })) ms rest
    → operand (expr_within d) ms ≡ Some (Attribute (record { of = o; attr = a }), rest)
unfolding operand named_expr signed_expr reserved_expr sees name
attribute_reads d (Own place) a is (kept t) = rw (own_reads place a (kept t)) refl
attribute_reads d (Named n k) a {rest = rest} is (kept {ms = ms} t) =
    rw (no_parenthesis k (named a ∷ []) t, refers_number k (named a ∷ []) ms rest t, named_reads n k a is t) refl

pairs : Elements pair spell_pair (λ p. ⊤) (λ ms. ⊤)
pairs = record { reads = pair_reads; begins = λ p t. sees_kept (is_sign RightParenthesis) t; at_comma = λ ps ms rest t. tt; at_end = λ ps ms rest t. tt }

remote_reads : (ps : List Pair) (place : Position) {ms rest : List Mark} → ps ≢ [] → Takes (sign_at LeftBrace place ∷ join_by spell_pair comma ps ++ sign RightBrace ∷ []) ms rest
    → remote ms ≡ Some (record { pairs = ps; place = place }, rest)
unfolding remote
remote_reads [] place some t = absurd (some refl)
remote_reads (p ∷ ps) place some t =
    let t1 = sign_first LeftBrace t in
    let t2 = separated_first pairs p ps (trivial (p ∷ ps)) t1.tail (λ mid t. (tt, sees_free (is_sign Comma) t)) in
    let t3 = sign_behind RightBrace t2.tail in
    rw (t1.read, t2.read, t3.read, ends t3.tail) refl

single_reads : (d : ℕ) → Whole d → (f : Prefix) (a : Expr) (place : Position) {ms rest : List Mark} → IsGrouped a → prefix_level ≤ level_of a → depth a ≤ d → Takes (spell_expr (Single f a place)) ms rest
    → binds_of rest ≤ 8 → prefixed (expr_within d) f ms ≡ Some (Single f a place, rest)
unfolding prefixed Whole
single_reads d w Minus a place {rest = rest} grouped high within t end =
    let t1 = sign_first _ t in
    let read2 = w a prefix_level t1.mid rest grouped within high t1.tail (omega (arith, end)) in
    rw (t1.read, read2) refl
single_reads d w Not a place {rest = rest} grouped high within t end =
    let t1 = sign_first _ t in
    let read2 = w a prefix_level t1.mid rest grouped within high t1.tail (omega (arith, end)) in
    rw (t1.read, read2) refl

operand_reads : (d : ℕ) → Whole d → (e : Expr) {ms rest : List Mark} → IsGrouped e → depth e ≤ suc d → prefix_level ≤ level_of e → Takes (spell_expr e) ms rest → binds_of rest ≤ atom_level
    → operand (expr_within d) ms ≡ Some (e, rest)
unfolding operand named_expr signed_expr reserved_expr truth sees expect name number string
operand_reads d w (Amount n place) grouped within high (kept none) end = rw (lt-ltb n (2 ^ 63) grouped) refl
operand_reads d w (Chars s) grouped within high (kept none) end = refl
operand_reads d w (Truth true place) grouped within high (kept none) end = refl
operand_reads d w (Truth false place) grouped within high (kept none) end = refl
operand_reads d w (Variable n) {rest = rest} grouped within high (kept none) end = rw (no_call rest end, no_reference rest end) refl
operand_reads d w (Attribute r) grouped within high t end = attribute_reads d r.of r.attr grouped t
operand_reads d w (Remote r) grouped within high (kept t) end = rw (remote_reads r.pairs r.place grouped (kept t)) refl
operand_reads d w (MadeOf Completing n place) grouped within high (kept t) end = patterns.completing_reads MadeOf n place (kept t)
operand_reads d w (MadeOf Placeholder n place) grouped within high (kept t) end = patterns.placeholder_reads MadeOf n place (kept t)
operand_reads d w (Paren a place) grouped within high (kept t) end = paren_reads d w a place grouped (omega arith) (kept t)
operand_reads d w (Single Minus a place) {rest = rest} grouped within high (kept t) end = single_reads d w Minus a place grouped.1 grouped.0 (omega arith) (kept t) (gap rest end)
operand_reads d w (Single Not a place) {rest = rest} grouped within high (kept t) end = single_reads d w Not a place grouped.1 grouped.0 (omega arith) (kept t) (gap rest end)
operand_reads d w (Binary s a b) grouped within high t end = absurd (omega (arith, (level-small s).1))
operand_reads d w (Choice a b c) grouped within high t end = absurd (omega arith)
operand_reads d w (Call n es) grouped within high (kept t) end = call_reads d w n es grouped (omega arith) t
operand_reads d w (Let n a b place) grouped within high (kept t) end = let_reads d w n a b place grouped.0 grouped.1 (omega arith) (omega arith) (kept t)
operand_reads d w (With a q b cs place) grouped within high (kept t) end = with_reads d w a q b cs place grouped within (kept t)

-- ---- operators

-- the greatest level of an operator that may follow
abbrev pub next_of : Expr → ℕ
next_of (Binary s a b) = next_by (level s)
next_of _ = atom_level

-- how many operators stand on the left edge
edge : Expr → ℕ
edge (Binary s a b) = suc (edge a)
edge _ = 0

-- the turns before those that are left
turns_for : Expr → ℕ → ℕ
turns_for (Binary s a b) n = turns_for a (suc n)
turns_for _ n = n

turns-edge : (e : Expr) (n : ℕ) → turns_for e n ≡ edge e + n
unfolding turns_for edge
turns-edge (Binary s a b) n = turns-edge a (suc n) ∙ omega arith
turns-edge e n = omega arith

edge-depth : (e : Expr) → edge e < depth e
unfolding edge
edge-depth (Binary s a b) = omega (arith, edge-depth a)
edge-depth e = omega arith

-- an operand and what follows it
abbrev start : (ℕ → Reader Expr) → ℕ → ℕ → ℕ → Reader Expr
start sub limit turns least = λ ms. and_then (operand sub ms) (climb sub limit turns least atom_level)

behind_first : {l : _} {ps : List Piece} {ms rest : List Mark} → Takes (Free l ∷ ps) ms rest → Takes ps (drop 1 ms) rest
behind_first (free t) = t

left-level : (s : Infix) → level s ≤ left_by (level s)
left-level s = by (groups_left (level s))
  where
    by : (a : Bool) → level s ≤ cond a (level s) (level s + 1)
    by true = omega arith
    by false = omega arith

pub left-least : (s : Infix) → choice_level < left_by (level s)
left-least s = omega (arith, left-level s, (level-small s).0)

follows_left : (s : Infix) (a : Expr) → left_by (level s) ≤ level_of a → level s ≤ next_of a
follows_left s (Binary t a b) le = may_follow (level s) (level t) le
follows_left s a le = omega (arith, (level-small s).1)

-- one more operator and its right operand
turn : (d : ℕ) → Whole d → (n least most : ℕ) (s : Infix) (a b : Expr) {ms rest : List Mark} → IsGrouped b → depth (Binary s a b) ≤ suc d → right_by (level s) ≤ level_of b
    → least ≤ level s → level s ≤ most → Takes (sign (symbol_of s) ∷ spell_expr b) ms rest → binds_of rest ≤ next_by (level s)
    → climb (expr_within d) (suc d) (suc n) least most a ms ≡ climb (expr_within d) (suc d) n least (next_by (level s)) (Binary s a b) rest
unfolding climb shallow Whole
turn d w n least most s a b {ms = ms} {rest = rest} grouped within right low high t end =
    let found = next_found least most s t in
    let t1 = behind_first t in
    let read = w b (right_by (level s)) (drop 1 ms) rest grouped (omega (arith, within)) right t1 (right_stops (binds_of rest) (level s) end) in
    rw (found, read, le-leb (depth (Binary s a b)) (suc d) within) refl

reads : (d : ℕ) → Whole d → (e : Expr) (n least : ℕ) (ms rest : List Mark) → IsGrouped e → depth e ≤ suc d → choice_level < level_of e → least ≤ level_of e
    → Takes (spell_expr e) ms rest → binds_of rest ≤ next_of e
    → start (expr_within d) (suc d) (turns_for e n) least ms ≡ climb (expr_within d) (suc d) n least (next_of e) e rest
unfolding turns_for
reads d w (Binary s a b) n least ms rest grouped within above low t end =
    let s1 = splits (spell_expr a) t in
    let up : choice_level < level_of a = omega (arith, left-least s, grouped.0) in
    let low_a : least ≤ level_of a = omega (arith, left-level s, grouped.0, low) in
    let follows : binds_of s1.0 ≤ next_of a = rw (infix_binds s s1.2) (follows_left s a grouped.0) in
    reads d w a (suc n) least ms s1.0 grouped.2 (omega arith) up low_a s1.1 follows
    ∙ turn d w n least (next_of a) s a b grouped.3 within grouped.1 low (follows_left s a grouped.0) s1.2 end
reads d w (Choice a b c) n least ms rest grouped within above low t end = absurd (omega arith)
reads d w e n least ms rest grouped within above low t end =
    let high : prefix_level ≤ level_of e = omega arith in rw (operand_reads d w e grouped within high t end) refl

joined : {A B C : Type 0} (o : Outcome A) (f : A → Reader B) (g : B → Reader C) → and_then o (λ x ms. and_then (f x ms) g) ≡ and_then (and_then o f) g
joined (Some p) f g = refl
joined None f g = refl

-- an expression without `? :` on its top, where no operator follows
ended : (d : ℕ) → Whole d → (e : Expr) (least : ℕ) (ms rest : List Mark) → IsGrouped e → depth e ≤ suc d → choice_level < level_of e → least ≤ level_of e
    → Takes (spell_expr e) ms rest → binds_of rest ≤ next_of e → next_infix least (next_of e) rest ≡ None
    → start (expr_within d) (suc d) (suc d) least ms ≡ Some (e, rest)
unfolding climb
ended d w e least ms rest grouped within above low t end over =
    let turns : suc d ≡ turns_for e (suc (d - edge e)) = omega (arith, turns-edge e (suc (d - edge e)), edge-depth e) in
    let T : ℕ → Type 0 = λ n. start (expr_within d) (suc d) n least ms ≡ Some (e, rest) in
    subst T (sym turns) (reads d w e (suc (d - edge e)) least ms rest grouped within above low t end ∙ rw over refl)

not_chosen : (sub : ℕ → Reader Expr) (limit least : ℕ) (e : Expr) (rest : List Mark) → binds_of rest < least → chosen sub limit least e rest ≡ Some (e, rest)
unfolding chosen
not_chosen sub limit least e rest end = by (cases_lt choice_level least)
  where
    by : (choice_level < least) ⊎ (least ≤ choice_level) → chosen sub limit least e rest ≡ Some (e, rest)
    by (inr low) = rw (le-leb least choice_level low, no_choice rest (omega arith)) refl
    by (inl high) = rw (lt-leb least choice_level high) refl

pub next-least : (e : Expr) (n least : ℕ) → choice_level < level_of e → least ≤ level_of e → n < least → n ≤ next_of e
next-least (Binary s a b) n least above low less = next-below (groups_left (level s))
  where
    next-below : (b : Bool) → n ≤ cond b (level s) (level s - 1)
    next-below true = omega arith
    next-below false = omega arith
next-least e n least above low less = omega arith

plain : (d : ℕ) → Whole d → (e : Expr) (least : ℕ) (ms rest : List Mark) → IsGrouped e → depth e ≤ suc d → choice_level < level_of e → least ≤ level_of e
    → Takes (spell_expr e) ms rest → binds_of rest < least → expr_within (suc d) least ms ≡ Some (e, rest)
unfolding expr_within expr_by
plain d w e least ms rest grouped within above low t end =
    let first = ended d w e least ms rest grouped within above low t (next-least e (binds_of rest) least above low end) (halts least (next_of e) rest end) in
    joined (operand (expr_within d) ms) (climb (expr_within d) (suc d) (suc d) least atom_level) (chosen (expr_within d) (suc d) least) ∙ rw (first, not_chosen (expr_within d) (suc d) least e rest end) refl

choice : (d : ℕ) → Whole d → (a b c : Expr) (least : ℕ) (ms rest : List Mark) → IsGrouped (Choice a b c) → depth (Choice a b c) ≤ suc d → least ≤ choice_level
    → Takes (spell_expr (Choice a b c)) ms rest → binds_of rest < least → expr_within (suc d) least ms ≡ Some (Choice a b c, rest)
unfolding expr_within expr_by chosen shallow
choice d w a b c least ms rest grouped within low t end =
    let s1 = splits (spell_expr a) t in
    let t2 = sign_behind Question s1.2 in
    let s3 = splits (spell_expr b) t2.tail in
    let t4 = sign_behind Colon s3.2 in
    let behind : binds_of s1.0 ≤ next_of a = rw (binds_first s1.2) (next-least a 1 2 grouped.0 grouped.0 (omega arith)) in
    let first = ended d w a least ms s1.0 grouped.1 (omega arith) grouped.0 (omega (arith, grouped.0)) s1.1 behind (halts_choice least (next_of a) s1.2) in
    let read3 = inner d w b grouped.2 (omega arith) s3.1 (quiet Colon s3.0 rest refl s3.2) in
    let read5 = inner d w c grouped.3 (omega arith) t4.tail (omega arith) in
    joined (operand (expr_within d) ms) (climb (expr_within d) (suc d) (suc d) least atom_level) (chosen (expr_within d) (suc d) least)
    ∙ rw (first, le-leb least choice_level low, sees_free (is_sign Question) s1.2, t2.read, read3, t4.read, read5, le-leb (depth (Choice a b c)) (suc d) within) refl

depth-some : (e : Expr) → 0 < depth e
depth-some e = omega (arith, edge-depth e)

pub whole : (d : ℕ) → Whole d
unfolding Whole
whole zero e least ms rest grouped within low t end = absurd (omega (arith, depth-some e))
whole (suc d) (Choice a b c) least ms rest grouped within low t end = choice d (whole d) a b c least ms rest grouped within low t end
whole (suc d) (Binary s a b) least ms rest grouped within low t end = plain d (whole d) (Binary s a b) least ms rest grouped within (level-small s).0 low t end
whole (suc d) e least ms rest grouped within low t end = plain d (whole d) e least ms rest grouped within (omega arith) low t end

-- the spelling of an expression that is grouped and not too deep is read as this expression, where what follows goes on with nothing
pub expr_reads : (d : ℕ) (e : Expr) {ms rest : List Mark} → IsGrouped e → depth e ≤ d → Takes (spell_expr e) ms rest → binds_of rest ≡ 0 → expr_within d choice_level ms ≡ Some (e, rest)
expr_reads d e grouped within t end = inner d (whole d) e grouped within t end
