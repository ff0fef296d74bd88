-- The levels of a nonterminal: one for each line of its infix productions, in the order of the lines, and the last.
use Rattle.std.specs.Prelude.{ℕ, zero, suc, ◌+◌, Bool, false, cond, ◌&&◌, max, List, [], ◌∷◌, map, filter, length, slice_get, count_by, nat_eq, nat_lt, Option, Some, None, option_map, unwrap_or}
use Rattle.std.specs.List.{list_any}
use Rattle.sg_kinds.specs.declared.spec.LevelLine.{LevelLine}
use Rattle.sg_kinds.specs.declared.spec.Production.{Production}
use Rattle.sg_kinds.specs.declared.spec.Symbol.{Symbol}
use Rattle.sg_kinds.specs.Instances.{below}
use Rattle.sg_kinds.specs.declared.spec.Symbol.TheVariants.{Quoted, Lexical, Nonterminal}
use Rattle.sg_prec.specs.Precedence.{infix_line}

-- how many nonterminals are named: one more than the greatest number
abbrev pub named_in : List Symbol → ℕ
named_in [] = 0
named_in (Quoted s ∷ Xs) = named_in Xs
named_in (Lexical p ∷ Xs) = named_in Xs
named_in (Nonterminal n ∷ Xs) = max (suc n) (named_in Xs)

abbrev pub named_over : List Production → ℕ
named_over [] = 0
named_over (r ∷ rs) = max (max (suc r.left) (named_in r.right)) (named_over rs)

-- whether an infix production of the nonterminal is of the line
abbrev pub is_of_line : List LevelLine → ℕ → ℕ → Production → Bool
is_of_line lines N k r = nat_eq r.left N && unwrap_or (option_map (nat_eq k) (infix_line lines r)) false

abbrev pub has_line : List LevelLine → List Production → ℕ → ℕ → Bool
has_line lines ps N k = list_any (is_of_line lines N k) ps

abbrev pub lines_of : List LevelLine → List Production → ℕ → List ℕ
lines_of lines ps N = filter (has_line lines ps N) (below (length lines))

-- how many lines a nonterminal has; its last level has this number, counted from 0
abbrev pub height : List LevelLine → List Production → ℕ → ℕ
height lines ps N = length (lines_of lines ps N)

-- the level of a line
abbrev pub rank : List LevelLine → List Production → ℕ → ℕ → ℕ
rank lines ps N k = count_by (λ j. nat_lt j k) (lines_of lines ps N)

-- an infix production of a line is of that line's level, and any other of the last
abbrev pub level_by : List LevelLine → List Production → ℕ → Option ℕ → ℕ
level_by lines ps N (Some k) = rank lines ps N k
level_by lines ps N None = height lines ps N

abbrev pub level_of : List LevelLine → List Production → Production → ℕ
level_of lines ps r = level_by lines ps r.left (infix_line lines r)

-- how many levels the nonterminals before N have in all, each one more than its height
abbrev pub levels_before : List LevelLine → List Production → ℕ → ℕ
levels_before lines ps zero = zero
levels_before lines ps (suc N) = suc (levels_before lines ps N + height lines ps N)

-- the lines of each nonterminal
abbrev pub levels_of : List LevelLine → List Production → List (List ℕ)
levels_of lines ps = map (lines_of lines ps) (below (named_over ps))

-- those of one, none of a nonterminal that is not there
abbrev pub row_at : List (List ℕ) → ℕ → List ℕ
row_at rows N = unwrap_or (slice_get rows N) []

-- infix productions, each as its nonterminal and its line
abbrev pub with_infix : ℕ → Option ℕ → List (ℕ × ℕ) → List (ℕ × ℕ)
with_infix N None xs = xs
with_infix N (Some k) xs = (N, k) ∷ xs

abbrev pub infixes : List LevelLine → List Production → List (ℕ × ℕ)
infixes lines [] = []
infixes lines (r ∷ rs) = with_infix r.left (infix_line lines r) (infixes lines rs)

-- the lines of a nonterminal among them, in the order of the productions
abbrev pub lines_at : ℕ → List (ℕ × ℕ) → List ℕ
lines_at N [] = []
lines_at N (x ∷ xs) = cond (nat_eq x.0 N) (x.1 ∷ lines_at N xs) (lines_at N xs)
