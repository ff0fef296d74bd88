-- Which operators may stand beside which, and what may stand behind an expression.
use Rattle.std.proofs.Common.{◌≡◌, ℕ, ◌+◌, ◌-◌, ◌<◌, ◌≤◌, Bool, true, false, List, [], ◌∷◌, Option, Some, None, refl, sym, ap, ◌∙◌, arith}
use Rattle.std.specs.Prelude.{cond, ◌&&◌, nat_le}
use Rattle.std.proofs.lemmas.Bool.{and_parts, leb-true, le-leb, lt-leb, eqb-true}
use Rattle.std.proofs.lemmas.Option.{same_Some}
use Rattle.sg_text.specs.Lexemes.{Lexeme, Sign}
use Rattle.sg_text.specs.declared.symbols.Symbol.{Symbol}
use Rattle.sg_text.specs.declared.symbols.Symbol.TheVariants.{ColonColon, BarBar, AmpersandAmpersand, EqualsEquals, BangEquals, Less, LessEquals, Greater, GreaterEquals, Hash, Plus, Minus, Star, Slash, Percent, LeftParenthesis, Dollar, Dot, Question}
use Rattle.sg_kinds.specs.declared.fault.Position.{Position}
use Rattle.sg_ast.specs.declared.expr.Infix.{Infix}
use Rattle.sg_ast.specs.declared.expr.Infix.TheVariants as infixes
use Rattle.sg_ast.specs.Levels.{symbol_of, infix_of, level, groups_left, groups_right, left_by, right_by, next_by}
use Rattle.sg_ast.specs.Spelling.{Mark, Piece, Takes, free, sign}
use Rattle.sg_ast.specs.Readers.{is_sign, sees}
use Rattle.sg_ast.specs.ReadingNames.{refers}
use Rattle.sg_ast.specs.ReadingExpressions.{between, next_infix}
use Rattle.sg_ast.proofs.Steps.{either}

-- ---- levels

differ : (m n : ℕ) → groups_left m ≡ true → groups_left n ≡ false → m ≡ n → ⊥
differ m n p q e = let both : true ≡ false = sym p ∙ ap groups_left e ∙ q in cc

pub may_follow : (m n : ℕ) → left_by m ≤ n → m ≤ next_by n
may_follow m n le = by (groups_left m) (groups_left n) refl refl le
  where
    by : (a b : Bool) → groups_left m ≡ a → groups_left n ≡ b → cond a m (m + 1) ≤ n → m ≤ cond b n (n - 1)
    by true true p q h = h
    by true false p q h = omega (arith, differ m n p q)
    by false true p q h = omega arith
    by false false p q h = omega arith

pub left_fits : (m n : ℕ) → 0 < n → m ≤ next_by n → left_by m ≤ n
left_fits m n some le = by (groups_left m) (groups_left n) refl refl le
  where
    by : (a b : Bool) → groups_left m ≡ a → groups_left n ≡ b → m ≤ cond b n (n - 1) → cond a m (m + 1) ≤ n
    by true true p q h = h
    by true false p q h = omega arith
    by false true p q h = let ne : n ≡ m → ⊥ = differ n m q p in omega (arith, ne)
    by false false p q h = omega arith

pub right_stops : (m n : ℕ) → m ≤ next_by n → m < right_by n
right_stops m n le = by (groups_right n) (groups_left n) refl refl le
  where
    by : (a b : Bool) → groups_right n ≡ a → groups_left n ≡ b → m ≤ cond b n (n - 1) → m < cond a n (n + 1)
    by true true p q h =
        let five : n ≡ 5 = eqb-true n 5 p in let both : true ≡ false = sym q ∙ ap groups_left five in absurd (cc)
    by true false p q h = let five : n ≡ 5 = eqb-true n 5 p in omega arith
    by false true p q h = omega arith
    by false false p q h = omega arith

pub right-small : (f : Infix) → right_by (level f) ≤ 9
right-small f = by (groups_right (level f))
  where
    small : (f : Infix) → level f ≤ 8
    small infixes.Or = omega arith
    small infixes.And = omega arith
    small infixes.Cons = omega arith
    small infixes.Join = omega arith
    small infixes.Add = omega arith
    small infixes.Sub = omega arith
    small infixes.Mul = omega arith
    small infixes.Div = omega arith
    small infixes.Rem = omega arith
    small f = omega arith

    by : (a : Bool) → cond a (level f) (level f + 1) ≤ 9
    by true = omega (arith, small f)
    by false = omega (arith, small f)

pub level-small : (f : Infix) → (1 < level f) × (level f ≤ 8)
level-small infixes.Or = (omega arith, omega arith)
level-small infixes.And = (omega arith, omega arith)
level-small infixes.Cons = (omega arith, omega arith)
level-small infixes.Join = (omega arith, omega arith)
level-small infixes.Add = (omega arith, omega arith)
level-small infixes.Sub = (omega arith, omega arith)
level-small infixes.Mul = (omega arith, omega arith)
level-small infixes.Div = (omega arith, omega arith)
level-small infixes.Rem = (omega arith, omega arith)
level-small f = (omega arith, omega arith)

pub next-some : (f : Infix) → 1 ≤ next_by (level f)
next-some f = by (groups_left (level f)) (level-small f)
  where
    by : (b : Bool) → (1 < level f) × (level f ≤ 8) → 1 ≤ cond b (level f) (level f - 1)
    by true h = omega (arith, h.0)
    by false h = omega (arith, h.0)

-- ---- symbols of operators

pub infix-symbol : (f : Infix) → infix_of (symbol_of f) ≡ Some f
infix-symbol infixes.Or = refl
infix-symbol infixes.And = refl
infix-symbol infixes.Equal = refl
infix-symbol infixes.Unequal = refl
infix-symbol infixes.Below = refl
infix-symbol infixes.AtMost = refl
infix-symbol infixes.Above = refl
infix-symbol infixes.AtLeast = refl
infix-symbol infixes.Cons = refl
infix-symbol infixes.Join = refl
infix-symbol infixes.Add = refl
infix-symbol infixes.Sub = refl
infix-symbol infixes.Mul = refl
infix-symbol infixes.Div = refl
infix-symbol infixes.Rem = refl

symbol-infix : (s : Symbol) (f : Infix) → infix_of s ≡ Some f → s ≡ symbol_of f
symbol-infix BarBar f e = ap symbol_of (same_Some _ _ e)
symbol-infix AmpersandAmpersand f e = ap symbol_of (same_Some _ _ e)
symbol-infix EqualsEquals f e = ap symbol_of (same_Some _ _ e)
symbol-infix BangEquals f e = ap symbol_of (same_Some _ _ e)
symbol-infix Less f e = ap symbol_of (same_Some _ _ e)
symbol-infix LessEquals f e = ap symbol_of (same_Some _ _ e)
symbol-infix Greater f e = ap symbol_of (same_Some _ _ e)
symbol-infix GreaterEquals f e = ap symbol_of (same_Some _ _ e)
symbol-infix ColonColon f e = ap symbol_of (same_Some _ _ e)
symbol-infix Hash f e = ap symbol_of (same_Some _ _ e)
symbol-infix Plus f e = ap symbol_of (same_Some _ _ e)
symbol-infix Minus f e = ap symbol_of (same_Some _ _ e)
symbol-infix Star f e = ap symbol_of (same_Some _ _ e)
symbol-infix Slash f e = ap symbol_of (same_Some _ _ e)
symbol-infix Percent f e = ap symbol_of (same_Some _ _ e)
symbol-infix s f e = absurd (cc)

-- ---- what may stand behind an expression

-- the level of an operator or of `?`; more than all levels for what a name goes on with; else nothing
abbrev pub level_behind : Option Infix → ℕ
level_behind (Some f) = level f
level_behind None = 0

abbrev pub sign_binds : Symbol → ℕ
sign_binds LeftParenthesis = 11
sign_binds Dollar = 11
sign_binds Dot = 11
sign_binds Question = 1
sign_binds s = level_behind (infix_of s)

abbrev pub binds : Lexeme → ℕ
binds (Sign s) = sign_binds s
binds _ = 0

unfoldable pub binds_of : List Mark → ℕ
binds_of [] = 0
binds_of ((l, place) ∷ ms) = binds l

pub binds_first : {s : Symbol} {ps : List Piece} {ms rest : List Mark} → Takes (sign s ∷ ps) ms rest → binds_of ms ≡ sign_binds s
unfolding binds_of
binds_first (free t) = refl

infix-binds : (s : Symbol) (f : Infix) → infix_of s ≡ Some f → sign_binds s ≡ level f
infix-binds LeftParenthesis f e = absurd (cc)
infix-binds Dollar f e = absurd (cc)
infix-binds Dot f e = absurd (cc)
infix-binds Question f e = absurd (cc)
infix-binds s f e = ap level_behind e

pub no_call : (ms : List Mark) → binds_of ms ≤ 10 → sees (is_sign LeftParenthesis) ms ≡ false
unfolding binds_of sees
no_call [] h = refl
no_call ((Sign LeftParenthesis, place) ∷ ms) h = absurd (omega arith)
no_call ((Sign s, place) ∷ ms) h = refl
no_call ((l, place) ∷ ms) h = refl

pub no_reference : (ms : List Mark) → binds_of ms ≤ 10 → refers ms ≡ false
unfolding binds_of sees
no_reference [] h = refl
no_reference ((Sign Dollar, place) ∷ ms) h = absurd (omega arith)
no_reference ((Sign Dot, place) ∷ ms) h = absurd (omega arith)
no_reference ((Sign s, place) ∷ ms) h = refl
no_reference ((l, place) ∷ ms) h = refl

pub no_choice : (ms : List Mark) → binds_of ms < 1 → sees (is_sign Question) ms ≡ false
unfolding binds_of sees
no_choice [] h = refl
no_choice ((Sign Question, place) ∷ ms) h = absurd (omega arith)
no_choice ((Sign s, place) ∷ ms) h = refl
no_choice ((l, place) ∷ ms) h = refl

-- no level is a prefix operator's or an atom's
pub gap : (ms : List Mark) → binds_of ms ≤ 10 → binds_of ms ≤ 8
unfolding binds_of
gap [] h = omega arith
gap ((Sign s, place) ∷ ms) h = sign_gap s h
  where
    sign_gap : (s : Symbol) → sign_binds s ≤ 10 → sign_binds s ≤ 8
    sign_gap LeftParenthesis h = omega arith
    sign_gap Dollar h = omega arith
    sign_gap Dot h = omega arith
    sign_gap s h = omega arith
gap ((l, place) ∷ ms) h = omega arith

-- an operator that binds less than the least level is not read
between_none : (least most : ℕ) (o : Option Infix) → level_behind o < least → between least most o ≡ None
between_none least most None h = refl
between_none least most (Some f) h = rw (lt-leb least (level f) h) refl

pub halts : (least most : ℕ) (ms : List Mark) → binds_of ms < least → next_infix least most ms ≡ None
unfolding binds_of next_infix
halts least most [] h = refl
halts least most ((Sign s, place) ∷ ms) h = between_none least most (infix_of s) (below s h)
  where
    below : (s : Symbol) → sign_binds s < least → level_behind (infix_of s) < least
    below LeftParenthesis h = omega arith
    below Dollar h = omega arith
    below Dot h = omega arith
    below Question h = omega arith
    below s h = h
halts least most ((l, place) ∷ ms) h = refl

-- `?` is no operator between two operands
pub halts_choice : (least most : ℕ) {ps : List Piece} {ms rest : List Mark} → Takes (sign Question ∷ ps) ms rest → next_infix least most ms ≡ None
unfolding next_infix
halts_choice least most (free t) = refl

pub next_found : (least most : ℕ) (f : Infix) {ps : List Piece} {ms rest : List Mark} → Takes (sign (symbol_of f) ∷ ps) ms rest
    → least ≤ level f → level f ≤ most → next_infix least most ms ≡ Some f
unfolding next_infix
next_found least most f (free t) low high = rw (infix-symbol f, le-leb least (level f) low, le-leb (level f) most high) refl

pub infix_binds : (f : Infix) {ps : List Piece} {ms rest : List Mark} → Takes (sign (symbol_of f) ∷ ps) ms rest → binds_of ms ≡ level f
infix_binds f t = binds_first t ∙ infix-binds (symbol_of f) f (infix-symbol f)

-- the operator that stands next
pub record IsNext (least most : ℕ) (f : Infix) (ms : List Mark) : Type 0 where
  pub low : least ≤ level f
  pub high : level f ≤ most
  pub place : Position
  pub mid : List Mark
  pub is : ms ≡ (Sign (symbol_of f), place) ∷ mid

between_some : (least most : ℕ) (o : Option Infix) (f : Infix) → between least most o ≡ Some f → (o ≡ Some f) × (least ≤ level f) × (level f ≤ most)
between_some least most None f e = absurd (cc)
between_some least most (Some g) f e =
    either (nat_le least (level g) && nat_le (level g) most) e
    (λ passes e.
    let is : Some g ≡ Some f = e in
    let same = ap level (same_Some _ _ e) in
    let h = and_parts (nat_le least (level g)) (nat_le (level g) most) passes in
    (is, rw (← same) (leb-true least (level g) h.0), rw (← same) (leb-true (level g) most h.1)))
    (λ fails e. absurd (cc))

pub next_read : (least most : ℕ) (f : Infix) (ms : List Mark) → next_infix least most ms ≡ Some f → IsNext least most f ms
unfolding next_infix
next_read least most f [] e = absurd (cc)
next_read least most f ((Sign s, place) ∷ mid) e =
    let b = between_some least most (infix_of s) f e in
    record {
      low = b.1;
      high = b.2;
      place = place;
      mid = mid;
      is = ap (λ (x : Symbol). (Sign x, place) ∷ mid) (symbol-infix s f b.0);
    }
next_read least most f ((l, place) ∷ mid) e = absurd (cc)
