-- Cells and ends of nodes among marks.
use Rattle.std.specs.Prelude.{◌≡◌, refl, ℕ, suc, ◌+◌, ◌-◌, List, [], ◌∷◌, ◌++◌, length}
use Rattle.std.proofs.Common.{sym, ◌∙◌, ap, arith}
use Rattle.sg_unparse.specs.Cells.{Mark, Writes, Closed, cells_in}
use Rattle.sg_unparse.specs.Page.{all_cells, spans_behind}

pub cells_in-append : (xs ys : List Mark) → cells_in (xs ++ ys) ≡ cells_in xs + cells_in ys
cells_in-append [] ys = omega arith
cells_in-append (Writes b u ∷ xs) ys = let e = cells_in-append xs ys in omega (arith, e)
cells_in-append (Closed u n ∷ xs) ys = cells_in-append xs ys

pub all_cells-append : (xs ys : List Mark) → all_cells (xs ++ ys) ≡ all_cells xs ++ all_cells ys
all_cells-append [] ys = refl
all_cells-append (Writes b u ∷ xs) ys = ap (λ cs. (b, u) ∷ cs) (all_cells-append xs ys)
all_cells-append (Closed u n ∷ xs) ys = all_cells-append xs ys

pub length-all_cells : (xs : List Mark) → length (all_cells xs) ≡ cells_in xs
length-all_cells [] = refl
length-all_cells (Writes b u ∷ xs) = ap suc (length-all_cells xs)
length-all_cells (Closed u n ∷ xs) = length-all_cells xs

pub spans_behind-append : (n : ℕ) (xs ys : List Mark) → spans_behind n (xs ++ ys) ≡ spans_behind n xs ++ spans_behind (n + cells_in xs) ys
spans_behind-append n [] ys = let e : n + 0 ≡ n = omega arith in ap (λ k. spans_behind k ys) (sym e)
spans_behind-append n (Writes b u ∷ xs) ys =
    let e : suc n + cells_in xs ≡ n + suc (cells_in xs) = omega arith in
    spans_behind-append (suc n) xs ys ∙ ap (λ k. spans_behind (suc n) xs ++ spans_behind k ys) e
spans_behind-append n (Closed u k ∷ xs) ys = ap (λ ss. record { node = u; from = n - k; to = n } ∷ ss) (spans_behind-append n xs ys)

pub ruleset streams = (cells_in-append, all_cells-append, length-all_cells, spans_behind-append)
