-- An expression that is read is spelled by what was read.
use Rattle.std.proofs.Common.{◌≡◌, ◌≢◌, ℕ, zero, suc, ◌+◌, ◌<◌, ◌≤◌, Bool, true, false, List, [], ◌∷◌, ◌++◌, Option, Some, None, refl, sym, ap, ◌∙◌, subst, arith, append_assoc}
use Rattle.std.specs.Prelude.{cond, flat_map, max, nat_le, ◌&&◌, ⊤, drop}
use Rattle.std.specs.List.{AllByRecursion, join_by}
use Rattle.std.proofs.lemmas.Bool.{and_parts, leb-true}
use Rattle.sg_text.specs.Lexemes.{Word}
use Rattle.sg_text.specs.declared.symbols.Symbol.TheVariants as signs
use Rattle.sg_text.specs.declared.words.Keyword.TheVariants as keyword
use Rattle.sg_ast.specs.declared.name.Name.{Name}
use Rattle.sg_ast.specs.declared.name.Remote as enclosing
use Rattle.sg_ast.specs.declared.expr.Infix.{Infix}
use Rattle.sg_ast.specs.declared.expr.Prefix.{Prefix}
use Rattle.sg_ast.specs.declared.expr.Prefix.TheVariants.{Minus, Not}
use Rattle.sg_ast.specs.Levels.{symbol_of, level, choice_level, prefix_level, atom_level, groups_left, left_by, right_by, next_by}
use Rattle.sg_ast.specs.Patterns.{Pattern}
use Rattle.sg_ast.specs.Expressions.{Expr, Remote, MadeOf, Binary, Choice}
use Rattle.sg_ast.specs.Spelling.{Mark, Piece, Takes, none, free, kept, sign, comma, spell_pair, spell_pattern, spell_expr, spell_exprs, spell_more_exprs, spell_cases}
use Rattle.sg_ast.specs.Grouped.{max_depth, depth, exprs_depth, cases_depth, level_of, IsGrouped, AreGrouped, HasGrouped}
use Rattle.sg_ast.specs.Chains.{exprs_chain, cases_chain}
use Rattle.sg_ast.specs.Readers.{is_sign, is_reserved, is_name, sees}
use Rattle.sg_ast.specs.ReadingNames.{another, refers, pair}
use Rattle.sg_ast.specs.ReadingExpressions.{next_infix, paren, let_in, case, sees_case, default_case, with_cases, named_expr, remote, prefixed, signed_expr, reserved_expr, operand, shallow, step_by, climb, chosen, expr_by, expr_within}
use Rattle.sg_ast.proofs.Steps.{◌then◌, opens, closes, either, name_read, number_read, string_read, sign_read, sign_at_read, word_read, word_at_read, after_name, more_read, all_read}
use Rattle.sg_ast.proofs.References.{own_read, named_read, pair_read}
use Rattle.sg_ast.proofs.Separated.{separated_read, arguments_read}
use Rattle.sg_ast.proofs.PatternLaws as patterns
use Rattle.sg_ast.proofs.LevelLaws.{left_fits, right-small, level-small, IsNext, next_read}
use Rattle.sg_ast.proofs.ExprReads.{IsWithin, IsCase, spell_case, spell_default, next_of}

-- an expression that was read: grouped, not too deep, of at least this level, and spelled
pub record Was (d least : ℕ) (e : Expr) (ms rest : List Mark) : Type 0 where
  pub grouped : IsGrouped e
  pub within : depth e ≤ d
  pub low : least ≤ level_of e
  pub spelled : Takes (spell_expr e) ms rest

-- the law one node deeper
abbrev Inner : ℕ → Type 0
Inner d = (least : ℕ) (e : Expr) (ms rest : List Mark) → least ≤ prefix_level → expr_within d least ms ≡ Some (e, rest) → Was d least e ms rest

inner_read : (d : ℕ) → Inner d → (e : Expr) (ms rest : List Mark) → expr_within d choice_level ms ≡ Some (e, rest) → IsWithin d e × Takes (spell_expr e) ms rest
inner_read d w e ms rest is =
    let was = w choice_level e ms rest (omega arith) is in (record { grouped = was.grouped; within = was.within }, was.spelled)

-- an operand that was read
record IsOperand (d : ℕ) (e : Expr) (ms rest : List Mark) : Type 0 where
  grouped : IsGrouped e
  within : depth e ≤ suc d
  high : prefix_level ≤ level_of e
  next : next_of e ≡ atom_level
  spelled : Takes (spell_expr e) ms rest

-- ---- chains as lists

more-chain : (es : List Expr) → spell_more_exprs (exprs_chain es) ≡ flat_map (λ e. sign signs.Comma ∷ spell_expr e) es
more-chain [] = refl
more-chain (e ∷ es) = ap (λ (ps : List Piece). sign signs.Comma ∷ spell_expr e ++ ps) (more-chain es)

spell-chain : (es : List Expr) → spell_exprs (exprs_chain es) ≡ join_by spell_expr comma es
spell-chain [] = refl
spell-chain (e ∷ es) = ap (λ (ps : List Piece). spell_expr e ++ ps) (more-chain es)

all_within : (d : ℕ) (es : List Expr) → AllByRecursion (IsWithin d) es → AreGrouped (exprs_chain es) × (exprs_depth (exprs_chain es) ≤ d)
all_within d [] all = (tt, omega arith)
all_within d (e ∷ es) all = let rest = all_within d es all.1 in ((all.0.grouped, rest.0), omega (arith, rest.1, all.0.within))

spell-cases : (cs : List (Pattern × Expr)) (o : Option Expr) → spell_cases (cases_chain cs o) ≡ flat_map spell_case cs ++ spell_default o
spell-cases [] None = refl
spell-cases [] (Some e) = refl
spell-cases (c ∷ cs) o =
    ap (λ (ps : List Piece). sign signs.Comma ∷ spell_pattern c.0 ++ (sign signs.Colon ∷ spell_expr c.1 ++ ps)) (spell-cases cs o)
    ∙ sym (append_assoc (spell_case c) (flat_map spell_case cs) (spell_default o) ∙ ap (λ (ps : List Piece). sign signs.Comma ∷ ps) (append_assoc (spell_pattern c.0) (sign signs.Colon ∷ spell_expr c.1) (flat_map spell_case cs ++ spell_default o)))

abbrev IsDefault : ℕ → Option Expr → Type 0
IsDefault d None = ⊤
IsDefault d (Some e) = IsWithin d e

cases_within : (d : ℕ) (cs : List (Pattern × Expr)) (o : Option Expr) → AllByRecursion (IsCase d) cs → IsDefault d o
    → HasGrouped (cases_chain cs o) × (cases_depth (cases_chain cs o) ≤ d)
cases_within d [] None all is = (tt, omega arith)
cases_within d [] (Some e) all is = (is.grouped, is.within)
cases_within d (c ∷ cs) o all is =
    let rest = cases_within d cs o all.1 is in ((all.0.0, all.0.1.grouped, rest.0), omega (arith, rest.1, all.0.1.within))

-- ---- atoms

atom_high : prefix_level ≤ atom_level
atom_high = omega arith

paren_read : (d : ℕ) → Inner d → {e : Expr} {ms rest : List Mark} → paren (expr_within d) ms ≡ Some (e, rest) → IsOperand d e ms rest
unfolding paren
paren_read d w {ms = ms} e =
    let s1 = opens e in
    let s2 = opens s1.3 in
    let s3 = opens s2.3 in
    let a = inner_read d w s2.0 s1.1 s2.1 s2.2 in
    closes (λ e rest. IsOperand d e ms rest) (record {
      grouped = a.0.grouped;
      within = omega (arith, a.0.within);
      high = atom_high;
      next = refl;
      spelled = sign_at_read signs.LeftParenthesis s1.2 then a.1 then sign_read signs.RightParenthesis s3.2;
    }) s3.3

let_read : (d : ℕ) → Inner d → {e : Expr} {ms rest : List Mark} → let_in (expr_within d) ms ≡ Some (e, rest) → IsOperand d e ms rest
unfolding let_in
let_read d w {ms = ms} e =
    let s1 = opens e in
    let s2 = opens s1.3 in
    let s3 = opens s2.3 in
    let s4 = opens s3.3 in
    let s5 = opens s4.3 in
    let s6 = opens s5.3 in
    let s7 = opens s6.3 in
    let s8 = opens s7.3 in
    let a = inner_read d w s4.0 s3.1 s4.1 s4.2 in
    let b = inner_read d w s7.0 s6.1 s7.1 s7.2 in
    closes (λ e rest. IsOperand d e ms rest) (record {
      grouped = (a.0.grouped, b.0.grouped);
      within = omega (arith, a.0.within, b.0.within);
      high = atom_high;
      next = refl;
      spelled = word_at_read keyword.Let s1.2 then name_read s2.2 then sign_read signs.Equals s3.2 then a.1
          then word_read keyword.In s5.2 then sign_read signs.LeftParenthesis s6.2 then b.1 then sign_read signs.RightParenthesis s8.2;
    }) s8.3

case_read : (d : ℕ) → Inner d → (c : Pattern × Expr) (ms rest : List Mark) → case (expr_within d) ms ≡ Some (c, rest)
    → IsCase d c × Takes (spell_pattern c.0 ++ (sign signs.Colon ∷ spell_expr c.1)) ms rest
unfolding case
case_read d w c ms rest e =
    let s1 = opens e in
    let s2 = opens s1.3 in
    let s3 = opens s2.3 in
    let q = patterns.pattern_read max_depth s1.0 ms s1.1 s1.2 in
    let a = inner_read d w s3.0 s2.1 s3.1 s3.2 in
    let P : Pattern × Expr → List Mark → Type 0 = λ c rest. IsCase d c × Takes (spell_pattern c.0 ++ (sign signs.Colon ∷ spell_expr c.1)) ms rest in
    closes P ((record { numbers = q.0.numbers; within = q.0.within }, a.0), q.1 then sign_read signs.Colon s2.2 then a.1) s3.3

another_read : (d : ℕ) → Inner d → (c : Pattern × Expr) (ms rest : List Mark) → another (case (expr_within d)) ms ≡ Some (c, rest) → IsCase d c × Takes (spell_case c) ms rest
unfolding another
another_read d w c ms rest e =
    let s1 = opens e in
    let c1 = case_read d w c s1.1 rest s1.3 in
    (c1.0, sign_read signs.Comma s1.2 then c1.1)

default_read : (d : ℕ) → Inner d → {o : Option Expr} {ms rest : List Mark} → default_case (expr_within d) ms ≡ Some (o, rest) → IsDefault d o × Takes (spell_default o) ms rest
unfolding default_case
default_read d w {o = o} {ms = ms} {rest = rest} e =
    let P : Option Expr → List Mark → Type 0 = λ o rest. IsDefault d o × Takes (spell_default o) ms rest in
    either (sees (is_sign signs.Comma) ms) e
    (λ passes e.
    let s1 = opens e in
    let s2 = opens s1.3 in
    let s3 = opens s2.3 in
    let s4 = opens s3.3 in
    let a = inner_read d w s4.0 s3.1 s4.1 s4.2 in
    closes P (a.0, sign_read signs.Comma s1.2 then word_read keyword.Default s2.2 then sign_read signs.Colon s3.2 then a.1) s4.3)
    (λ fails e. closes P (tt, none) e)

deep_with : {d x y z : ℕ} → x ≤ d → y ≤ d → z ≤ d → suc (max x (max y z)) ≤ suc d
deep_with x y z = omega arith

high_enough : prefix_level ≤ prefix_level
high_enough = omega arith

with_read : (d : ℕ) → Inner d → {e : Expr} {ms rest : List Mark} → with_cases (expr_within d) ms ≡ Some (e, rest) → IsOperand d e ms rest
unfolding with_cases
with_read d w {ms = ms} e =
    let s1 = opens e in
    let s2 = opens s1.3 in
    let s3 = opens s2.3 in
    let s4 = opens s3.3 in
    let s5 = opens s4.3 in
    let s6 = opens s5.3 in
    let s7 = opens s6.3 in
    let s8 = opens s7.3 in
    let s9 = opens s8.3 in
    let a = inner_read d w s3.0 s2.1 s3.1 s3.2 in
    let c = case_read d w s6.0 s5.1 s6.1 s6.2 in
    let found = all_read (more_read sees_case (another (case (expr_within d))) spell_case (IsCase d) (another_read d w) _ [] s7.2) in
    let other = default_read d w s8.2 in
    let within = cases_within d s7.0 s8.0 found.0 other.0 in
    let P : List Piece → Type 0 = λ ps. Takes ps s6.1 s8.1 in
    let cases = subst P (sym (spell-cases s7.0 s8.0)) (found.1 then other.1) in
    let first = c.1 then cases then sign_read signs.RightParenthesis s9.2 in
    let Q : List Piece → Type 0 = λ ps. Takes ps s5.1 s9.1 in
    let whole = subst Q (append_assoc (spell_pattern s6.0.0) (sign signs.Colon ∷ spell_expr s6.0.1) (spell_cases (cases_chain s7.0 s8.0) ++ sign signs.RightParenthesis ∷ [])) first in
    closes (λ e rest. IsOperand d e ms rest) (record {
      grouped = (a.0.grouped, c.0.0, c.0.1.grouped, within.0);
      within = deep_with a.0.within c.0.1.within within.1;
      high = atom_high;
      next = refl;
      spelled = word_at_read keyword.With s1.2 then sign_read signs.LeftParenthesis s2.2 then a.1 then sign_read signs.RightParenthesis s4.2
          then sign_read signs.LeftParenthesis s5.2 then whole;
    }) s9.3

named_expr_read : (d : ℕ) → Inner d → (n : Name) {e : Expr} {ms rest : List Mark} → named_expr (expr_within d) n ms ≡ Some (e, rest) → IsOperand d e ((Word n.text, n.place) ∷ ms) rest
unfolding named_expr
named_expr_read d w n {e = a} {ms = ms} {rest = rest} e =
    let P : Expr → List Mark → Type 0 = λ e rest. IsOperand d e ((Word n.text, n.place) ∷ ms) rest in
    either (sees (is_sign signs.LeftParenthesis) ms) e
    (λ passes e.
    let s1 = opens e in
    let s2 = opens s1.3 in
    let found = arguments_read (expr_within d choice_level) spell_expr (IsWithin d) (inner_read d w) s2.0 s1.1 s2.1 s2.2 in
    let each = all_within d s2.0 found.0 in
    let Q : List Piece → Type 0 = λ ps. Takes (ps ++ sign signs.RightParenthesis ∷ []) s1.1 s2.1 in
    let inside = subst Q (sym (spell-chain s2.0)) found.1 in
    closes P (record {
      grouped = each.0;
      within = omega (arith, each.1);
      high = atom_high;
      next = refl;
      spelled = kept (sign_read signs.LeftParenthesis s1.2 then inside);
    }) s2.3)
    (λ fails e. either (refers ms) e
    (λ passes e.
    let s1 = opens e in
    let r = named_read n s1.2 in
    closes P (record { grouped = r.0; within = omega arith; high = atom_high; next = refl; spelled = r.1 }) s1.3)
    (λ fails e. closes P (record { grouped = tt; within = omega arith; high = atom_high; next = refl; spelled = kept none }) e))

remote_read : {r : enclosing.Remote} {ms rest : List Mark} → remote ms ≡ Some (r, rest) → (r.pairs ≢ []) × Takes (spell_expr (Remote r)) ms rest
unfolding remote
remote_read {ms = ms} e =
    let s1 = opens e in
    let s2 = opens s1.3 in
    let s3 = opens s2.3 in
    let ps = separated_read pair spell_pair (λ p. ⊤) pair_read s2.0 s1.1 s2.1 s2.2 in
    let P : enclosing.Remote → List Mark → Type 0 = λ r rest. (r.pairs ≢ []) × Takes (spell_expr (Remote r)) ms rest in
    closes P (ps.0, sign_at_read signs.LeftBrace s1.2 then ps.2 then sign_read signs.RightBrace s3.2) s3.3

prefixed_read : (d : ℕ) → Inner d → (f : Prefix) {e : Expr} {ms rest : List Mark} → prefixed (expr_within d) f ms ≡ Some (e, rest) → IsOperand d e ms rest
unfolding prefixed
prefixed_read d w Minus {ms = ms} e =
    let s1 = opens e in
    let s2 = opens s1.3 in
    let was = w prefix_level s2.0 s1.1 s2.1 high_enough s2.2 in
    closes (λ e rest. IsOperand d e ms rest) (record {
      grouped = (was.low, was.grouped);
      within = omega (arith, was.within);
      high = high_enough;
      next = refl;
      spelled = sign_at_read signs.Minus s1.2 then was.spelled;
    }) s2.3
prefixed_read d w Not {ms = ms} e =
    let s1 = opens e in
    let s2 = opens s1.3 in
    let was = w prefix_level s2.0 s1.1 s2.1 high_enough s2.2 in
    closes (λ e rest. IsOperand d e ms rest) (record {
      grouped = (was.low, was.grouped);
      within = omega (arith, was.within);
      high = high_enough;
      next = refl;
      spelled = sign_at_read signs.Bang s1.2 then was.spelled;
    }) s2.3

made_operand : (d : ℕ) {e : Expr} {ms rest : List Mark} → patterns.IsMade MadeOf e ms rest → IsOperand d e ms rest
made_operand d {ms = ms} {rest = rest} m =
    let P : Expr → Type 0 = λ e. IsOperand d e ms rest in
    subst P m.is (record { grouped = tt; within = omega arith; high = atom_high; next = refl; spelled = m.spelled })

signed_read : (d : ℕ) → Inner d → {e : Expr} {ms rest : List Mark} → signed_expr (expr_within d) ms ≡ Some (e, rest) → IsOperand d e ms rest
unfolding signed_expr
signed_read d w {ms = ms} e =
    either (sees (is_sign signs.LeftParenthesis) ms) e
    (λ is e. paren_read d w e)
    (λ not e. either (sees (is_sign signs.DollarDollar) ms) e
    (λ is e.
    let s1 = opens e in
    let r = own_read s1.2 in
    closes (λ e rest. IsOperand d e ms rest) (record { grouped = r.0; within = omega arith; high = atom_high; next = refl; spelled = r.1 }) s1.3)
    (λ not e. either (sees (is_sign signs.LeftBrace) ms) e
    (λ is e.
    let s1 = opens e in
    let r = remote_read s1.2 in
    closes (λ e rest. IsOperand d e ms rest) (record { grouped = r.0; within = omega arith; high = atom_high; next = refl; spelled = r.1 }) s1.3)
    (λ not e. either (sees (is_sign signs.Less) ms) e
    (λ is e. made_operand d (patterns.placeholder_read MadeOf e))
    (λ not e. either (sees (is_sign signs.LeftBracket) ms) e
    (λ is e. made_operand d (patterns.completing_read MadeOf e))
    (λ not e. either (sees (is_sign signs.Minus) ms) e
    (λ is e. prefixed_read d w Minus e)
    (λ not e. prefixed_read d w Not e))))))

reserved_read : (d : ℕ) → Inner d → {e : Expr} {ms rest : List Mark} → reserved_expr (expr_within d) ms ≡ Some (e, rest) → IsOperand d e ms rest
unfolding reserved_expr
reserved_read d w {ms = ms} e =
    either (sees (is_reserved keyword.Let) ms) e
    (λ is e. let_read d w e)
    (λ not e. either (sees (is_reserved keyword.With) ms) e
    (λ is e. with_read d w e)
    (λ not e.
    let s1 = opens e in
    closes (λ e rest. IsOperand d e ms rest) (record { grouped = tt; within = omega arith; high = atom_high; next = refl; spelled = patterns.truth_read s1.2 }) s1.3))

operand_read : (d : ℕ) → Inner d → {e : Expr} {ms rest : List Mark} → operand (expr_within d) ms ≡ Some (e, rest) → IsOperand d e ms rest
unfolding operand
operand_read d w {ms = ms} e =
    let P : Expr → List Mark → Type 0 = λ e rest. IsOperand d e ms rest in
    either (sees is_name ms) e
    (λ is e.
    let s1 = opens e in
    let s2 = named_expr_read d w s1.0 s1.3 in
    record { grouped = s2.grouped; within = s2.within; high = s2.high; next = s2.next; spelled = after_name s1.2 s2.spelled })
    (λ not e. either (sees _ ms) e
    (λ is e.
    let s1 = opens e in
    let n = number_read s1.2 in
    closes P (record { grouped = n.0; within = omega arith; high = atom_high; next = refl; spelled = n.1 }) s1.3)
    (λ not e. either (sees _ ms) e
    (λ is e.
    let s1 = opens e in
    closes P (record { grouped = tt; within = omega arith; high = atom_high; next = refl; spelled = string_read s1.2 }) s1.3)
    (λ not e. either (sees _ ms) e
    (λ is e. reserved_read d w e)
    (λ not e. signed_read d w e))))

-- ---- operators

-- a tree that is not too deep
record IsShallow (limit : ℕ) (e a : Expr) (ms rest : List Mark) : Type 0 where
  same : e ≡ a
  left : ms ≡ rest
  within : depth e ≤ limit

shallow_read : (limit : ℕ) (e : Expr) {a : Expr} {ms rest : List Mark} → shallow limit e ms ≡ Some (a, rest) → IsShallow limit e a ms rest
unfolding shallow
shallow_read limit e {ms = ms} is =
    either (nat_le (depth e) limit) is
    (λ passes is. closes (λ a rest. IsShallow limit e a ms rest) (record { same = refl; left = refl; within = leb-true (depth e) limit passes }) is)
    (λ fails is. absurd (cc))

left-small : (s : Infix) → left_by (level s) ≤ 9
left-small s = by (groups_left (level s))
  where
    by : (b : Bool) → cond b (level s) (level s + 1) ≤ 9
    by true = omega (arith, (level-small s).1)
    by false = omega (arith, (level-small s).1)

least-left : (s : Infix) (a : Expr) (most : ℕ) → choice_level < level_of a → most ≡ next_of a → level s ≤ most → left_by (level s) ≤ level_of a
least-left s (Binary t a b) most above is high = left_fits (level s) (level t) (omega arith) (rw is at high)
least-left s (Choice a b c) most above is high = absurd (omega arith)
least-left s a most above is high = omega (arith, left-small s)

-- what was read up to an operator
record IsLeft (d least most : ℕ) (a : Expr) (ms mid : List Mark) : Type 0 where
  grouped : IsGrouped a
  within : depth a ≤ suc d
  above : choice_level < level_of a
  low : least ≤ level_of a
  next : most ≡ next_of a
  spelled : Takes (spell_expr a) ms mid

-- one more operator and its right operand
grown : (d : ℕ) → Inner d → (least most : ℕ) (s : Infix) (a b whole : Expr) {ms mid after behind : List Mark} → IsLeft d least most a ms mid → IsNext least most s mid
    → expr_within d (right_by (level s)) (drop 1 mid) ≡ Some (b, after) → IsShallow (suc d) (Binary s a b) whole after behind
    → IsLeft d least (next_by (level s)) whole ms behind
grown d w least most s a b whole {ms = ms} {mid = mid} {after = after} {behind = behind} left is read shallow =
    let was = w (right_by (level s)) b (drop 1 mid) after (right-small s) read in
    let T : Expr → Type 0 = λ e. IsLeft d least (next_by (level s)) e ms behind in
    let M : List Mark → Type 0 = λ ts. Takes (sign (symbol_of s) ∷ spell_expr b) ts after in
    let D : List Mark → Type 0 = λ ts. Takes (spell_expr b) (drop 1 ts) after in
    let right : Takes (sign (symbol_of s) ∷ spell_expr b) mid after = subst M (sym is.is) (free (subst D is.is was.spelled)) in
    let E : List Mark → Type 0 = λ ts. Takes (spell_expr (Binary s a b)) ms ts in
    subst T shallow.same (record {
      grouped = (least-left s a most left.above left.next is.high, was.low, left.grouped, was.grouped);
      within = shallow.within;
      above = (level-small s).0;
      low = is.low;
      next = refl;
      spelled = subst E shallow.left (left.spelled then right);
    })

-- what an expression without `? :` on its top was
record IsPlain (d least : ℕ) (e : Expr) (ms rest : List Mark) : Type 0 where
  was : Was (suc d) least e ms rest
  above : choice_level < level_of e

stepped : (d : ℕ) → Inner d → (turns least most : ℕ) (a e : Expr) (ms mid rest : List Mark) (o : Option Infix) → IsLeft d least most a ms mid → next_infix least most mid ≡ o
    → ((next : ℕ) (whole : Expr) (behind : List Mark) → IsLeft d least next whole ms behind → climb (expr_within d) (suc d) turns least next whole behind ≡ Some (e, rest) → IsPlain d least e ms rest)
    → step_by (expr_within d) (suc d) (climb (expr_within d) (suc d) turns least) a o mid ≡ Some (e, rest) → IsPlain d least e ms rest
stepped d w turns least most a e ms mid rest None left found again is =
    closes (λ e rest. IsPlain d least e ms rest) (record { was = record { grouped = left.grouped; within = left.within; low = left.low; spelled = left.spelled }; above = left.above }) is
stepped d w turns least most a e ms mid rest (Some s) left found again is =
    let s1 = opens is in
    let s2 = opens s1.3 in
    let next = next_read least most s mid found in
    let grown_left = grown d w least most s a s1.0 s2.0 left next s1.2 (shallow_read (suc d) (Binary s a s1.0) s2.2) in
    again (next_by (level s)) s2.0 s2.1 grown_left s2.3

climbed : (d : ℕ) → Inner d → (turns least most : ℕ) (a e : Expr) (ms mid rest : List Mark) → IsLeft d least most a ms mid
    → climb (expr_within d) (suc d) turns least most a mid ≡ Some (e, rest) → IsPlain d least e ms rest
unfolding climb
climbed d w zero least most a e ms mid rest left is = absurd (cc)
climbed d w (suc turns) least most a e ms mid rest left is =
    stepped d w turns least most a e ms mid rest (next_infix least most mid) left refl
    (λ next whole behind grown_left is. climbed d w turns least next whole e ms behind rest grown_left is) is

chosen_read : (d : ℕ) → Inner d → (least : ℕ) (a e : Expr) (ms mid rest : List Mark) → IsPlain d least a ms mid → chosen (expr_within d) (suc d) least a mid ≡ Some (e, rest) → Was (suc d) least e ms rest
unfolding chosen
chosen_read d w least a e ms mid rest plain is =
    either (nat_le least choice_level && sees (is_sign signs.Question) mid) is
    (λ passes is.
    let tests = and_parts (nat_le least choice_level) (sees (is_sign signs.Question) mid) passes in
    let s1 = opens is in
    let s2 = opens s1.3 in
    let s3 = opens s2.3 in
    let s4 = opens s3.3 in
    let b = inner_read d w s2.0 s1.1 s2.1 s2.2 in
    let c = inner_read d w s4.0 s3.1 s4.1 s4.2 in
    let tree = Choice a s2.0 s4.0 in
    let shallow = shallow_read (suc d) tree s4.3 in
    let T : Expr → Type 0 = λ e. Was (suc d) least e ms rest in
    let E : List Mark → Type 0 = λ ts. Takes (spell_expr tree) ms ts in
    subst T shallow.same (record {
      grouped = (plain.above, plain.was.grouped, b.0.grouped, c.0.grouped);
      within = shallow.within;
      low = leb-true least choice_level tests.0;
      spelled = subst E shallow.left (plain.was.spelled then sign_read signs.Question s1.2 then b.1 then sign_read signs.Colon s3.2 then c.1);
    }))
    (λ fails is. closes (λ e rest. Was (suc d) least e ms rest) plain.was is)

deeper : (d : ℕ) → Inner d → (least : ℕ) (e : Expr) (ms rest : List Mark) → least ≤ prefix_level → expr_within (suc d) least ms ≡ Some (e, rest) → Was (suc d) least e ms rest
unfolding expr_within expr_by
deeper d w least e ms rest small is =
    let s1 = opens is in
    let s2 = opens s1.3 in
    let first = operand_read d w s1.2 in
    let left : IsLeft d least atom_level s1.0 ms s1.1 = record {
      grouped = first.grouped;
      within = first.within;
      above = omega (arith, first.high);
      low = omega (arith, first.high, small);
      next = sym first.next;
      spelled = first.spelled;
    } in
    chosen_read d w least s2.0 e ms s2.1 rest (climbed d w (suc d) least atom_level s1.0 s2.0 ms s1.1 s2.1 left s2.2) s2.3

read_by : (d : ℕ) → Inner d
unfolding expr_within
read_by zero least e ms rest small is = absurd (cc)
read_by (suc d) least e ms rest small is = deeper d (read_by d) least e ms rest small is

-- what is read is spelled
pub expr_read : (d : ℕ) (e : Expr) (ms rest : List Mark) → expr_within d choice_level ms ≡ Some (e, rest) → IsWithin d e × Takes (spell_expr e) ms rest
expr_read d e ms rest is = inner_read d (read_by d) e ms rest is
