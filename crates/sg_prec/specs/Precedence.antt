-- How precedence lines group infix productions. Lines and nonterminals are counted from 0, and of lines that hold a
-- literal the first counts, which in a sound specification is the only one.
use Rattle.std.specs.Prelude.{ℕ, Bool, true, false, cond, not, ◌&&◌, ◌||◌, List, [], ◌∷◌, position, nat_eq, nat_lt, bytes_eq, Option, Some, None, is_some, slice_get, option_map, option_and_then, unwrap_or}
use Rattle.std.specs.List.{list_any}
use Rattle.sg_kinds.specs.Values.{Bytes}
use Rattle.sg_kinds.specs.declared.marks.Group.{Group}
use Rattle.sg_kinds.specs.declared.spec.LevelLine.{LevelLine}
use Rattle.sg_kinds.specs.declared.spec.Production.{Production}
use Rattle.sg_kinds.specs.declared.spec.Symbol.{Symbol}
use Rattle.sg_kinds.specs.declared.marks.Group.TheVariants.{Left, Right, NonAssoc}
use Rattle.sg_kinds.specs.declared.spec.Symbol.TheVariants.{Quoted, Nonterminal}

abbrev pub line_with : List LevelLine → Bytes → Option ℕ
line_with lines s = position (λ (l : LevelLine). list_any (bytes_eq s) l.literals) lines

-- the literal of (E 'op' E)
abbrev pub literal_between : ℕ → List Symbol → Option Bytes
literal_between E (Nonterminal a ∷ Quoted s ∷ Nonterminal b ∷ []) = cond (nat_eq E a && nat_eq E b) (Some s) None
literal_between E Xs = None

-- the line of an infix production; none of any other
abbrev pub infix_line : List LevelLine → Production → Option ℕ
infix_line lines r = option_and_then (line_with lines) (literal_between r.left r.right)

-- ('op' E)
abbrev pub is_before_itself : ℕ → List Symbol → Bool
is_before_itself E (Quoted s ∷ Nonterminal a ∷ []) = nat_eq E a
is_before_itself E Xs = false

-- the line of what stands directly below a symbol
abbrev pub line_below : List LevelLine → Option Production → Option ℕ
line_below lines b = option_and_then (infix_line lines) b

-- whether a line groups to the left, and to the right; `nonassoc` groups to neither
abbrev pub is_left : Group → Bool
is_left Left = true
is_left Right = false
is_left NonAssoc = false

abbrev pub is_right : Group → Bool
is_right Left = false
is_right Right = true
is_right NonAssoc = false

abbrev pub groups_left : List LevelLine → ℕ → Bool
groups_left lines i = unwrap_or (option_map (λ (l : LevelLine). is_left l.group) (slice_get lines i)) false

abbrev pub groups_right : List LevelLine → ℕ → Bool
groups_right lines i = unwrap_or (option_map (λ (l : LevelLine). is_right l.group) (slice_get lines i)) false

-- what may stand below an operand of line i: no infix production, one that binds more tightly, or one of the same
-- line where that groups to this side
abbrev pub may_stand : Bool → ℕ → Option ℕ → Bool
may_stand same i None = true
may_stand same i (Some j) = nat_lt i j || (nat_eq i j && same)

abbrev pub operands_fit : List LevelLine → ℕ → List (Option Production) → Bool
operands_fit lines i (a ∷ o ∷ b ∷ []) = may_stand (groups_left lines i) i (line_below lines a)
    && may_stand (groups_right lines i) i (line_below lines b)
operands_fit lines i bs = true

-- the operand of a prefix production is no infix one
abbrev pub operand_fits : List LevelLine → List (Option Production) → Bool
operand_fits lines (o ∷ a ∷ []) = not (is_some (line_below lines a))
operand_fits lines bs = true

abbrev pub is_grouped_by : List LevelLine → Option ℕ → Bool → List (Option Production) → Bool
is_grouped_by lines (Some i) prefix bs = operands_fit lines i bs
is_grouped_by lines None prefix bs = not prefix || operand_fits lines bs

-- The rules for what stands directly below the symbols of a production. That it is a production of the same
-- nonterminal needs no test, since it stands below that nonterminal; and a nonterminal without an infix production of
-- a line has none that could stand below.
abbrev pub is_grouped : List LevelLine → Production → List (Option Production) → Bool
is_grouped lines r bs = is_grouped_by lines (infix_line lines r) (is_before_itself r.left r.right) bs
