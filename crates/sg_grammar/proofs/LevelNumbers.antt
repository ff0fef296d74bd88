-- The numbers of levels, and how many levels stand before those of each nonterminal.
use Rattle.std.specs.Prelude.{◌≡◌, ℕ, zero, suc, ◌+◌, ◌-◌, ◌<◌, ◌≤◌, List, [], ◌∷◌, ◌++◌, length, map, Some, Result, Ok, Err, IfOk, slice_get}
use Rattle.std.proofs.Common.{refl, sym, ap, ◌∙◌, get_or, arith, inl, inr, length-append, add-one}
use Rattle.std.proofs.lemmas.Bool.{cases_lt, cases_order}
use Rattle.std.proofs.lemmas.List.{map-append, get_or_append_left, get_or_at, get_or-map, length-map}
use Rattle.std.proofs.lemmas.Option.{slice_get_within, get_or_from_slice_get}
use Rattle.sg_kinds.specs.Instances.{below}
use Rattle.sg_kinds.specs.declared.spec.LevelLine.{LevelLine}
use Rattle.sg_kinds.specs.declared.spec.Production.{Production}
use Rattle.sg_kinds.specs.declared.spec.Spec.{Spec}
use Rattle.sg_prec.specs.Levels.{height, levels_before, levels_of, row_at}
use Rattle.sg_prec.proofs.RisingRows.{row_of_levels}
use Rattle.sg_grammar.specs.Numbered.{first_nonterminal, nonterminal_count, level_number, symbol_count}

long_below : (n : ℕ) → length (below n) ≡ n
long_below zero = refl
long_below (suc n) = omega (arith, length-append (below n) (n ∷ []), long_below n)

at_below : (n k d : ℕ) → k < n → get_or (below n) k d ≡ k
at_below zero k d low = absurd (omega (arith, low))
at_below (suc n) k d low = elim (cases_lt k n) [
  | inl under ↦ let inside : k < length (below n) = omega (arith, long_below n, under) in get_or_append_left (below n) (n ∷ []) d k inside ∙ at_below n k d under
  | inr past ↦ let is : k ≡ n = omega (arith, low, past) in let long : length (below n) ≡ k = omega (arith, long_below n, is) in get_or_at (below n) n [] d k long ∙ sym is
]

-- what stands at a place of a row over the numbers below a number
pub row_at_place : (f : ℕ → ℕ) (n k x : ℕ) → slice_get (map f (below n)) k ≡ Some x → x ≡ f k
row_at_place f n k x is =
    let within = slice_get_within (map f (below n)) k x is in
    let long : length (map f (below n)) ≡ n = length-map (below n) f ∙ long_below n in
    let low : k < n = omega (arith, within, long) in
    let inside : k < length (below n) = omega (arith, long_below n, low) in
    sym (get_or_from_slice_get (map f (below n)) k x 0 is) ∙ get_or-map f (below n) k 0 0 inside ∙ ap f (at_below n k 0 low)

pub row_long : (f : ℕ → ℕ) (n : ℕ) → length (map f (below n)) ≡ n
row_long f n = length-map (below n) f ∙ long_below n

pub row_more : (f : ℕ → ℕ) (n x : ℕ) (xs : List ℕ) → xs ≡ map f (below n) → x ≡ f n → xs ++ x ∷ [] ≡ map f (below (suc n))
row_more f n x xs so_far is = (λ t. so_far t ++ is t ∷ []) ∙ sym (map-append f (below n) (n ∷ []))

module _ (lines : List LevelLine) (ps : List Production) where
  pub before_more : (N h total next : ℕ) (rows : List (List ℕ)) → rows ≡ levels_of lines ps → total ≡ levels_before lines ps N → h ≡ length (row_at rows N) → next ≡ total + 1 + h → next ≡ levels_before lines ps (N + 1)
  before_more N h total next rows told is high step =
      let whole : h ≡ height lines ps N = high ∙ ap (λ z. length (row_at z N)) told ∙ ap length (row_of_levels lines ps N) in
      rw add-one (omega (arith, is, whole, step))

  -- the levels of one nonterminal stand before those of the next
  pub before_rises : (N M : ℕ) → N < M → levels_before lines ps N + suc (height lines ps N) ≤ levels_before lines ps M
  before_rises N zero low = absurd (omega (arith, low))
  before_rises N (suc M) low = elim (cases_lt N M) [
    | inl under ↦ let up = before_rises N M under in omega (arith, up)
    | inr past ↦ let is : N ≡ M = omega (arith, low, past) in let same = ap (λ z. levels_before lines ps z + suc (height lines ps z)) is in omega (arith, same)
  ]

  -- each place is a level of one nonterminal
  pub level_found : (M k : ℕ) → k < levels_before lines ps M → (N : ℕ) × (i : ℕ) × (N < M) × (i ≤ height lines ps N) × (k ≡ levels_before lines ps N + i)
  level_found zero k low = absurd (omega (arith, low))
  level_found (suc M) k low = elim (cases_lt k (levels_before lines ps M)) [
    | inl under ↦ let f = level_found M k under in let less = f.2 in (f.0, f.1, omega (arith, less), f.3, f.4)
    | inr past ↦ (M, k - levels_before lines ps M, omega arith, omega (arith, low, past), omega (arith, past))
  ]

module _ (spec : Spec) where
  pub level_behind : (N i : ℕ) → first_nonterminal spec ≤ level_number spec N i
  unfolding level_number
  level_behind N i = omega arith

  pub level_next : (N i : ℕ) → level_number spec N (suc i) ≡ suc (level_number spec N i)
  unfolding level_number
  level_next N i = omega arith

  pub level_under : (N M i j : ℕ) → i ≤ height spec.levels spec.productions N → N < M → level_number spec N i < level_number spec M j
  unfolding level_number
  level_under N M i j low up = let rise = before_rises spec.levels spec.productions N M up in omega (arith, rise, low)

  -- a number tells the level and its nonterminal
  pub level_once : (N M i j : ℕ) → i ≤ height spec.levels spec.productions N → j ≤ height spec.levels spec.productions M → level_number spec N i ≡ level_number spec M j → (N ≡ M) × (i ≡ j)
  unfolding level_number
  level_once N M i j low high is = elim (cases_order N M) [
    | inl same ↦ (same, place same)
    | inr (inl less) ↦ absurd (let up = level_under N M i j low less in omega (arith, up, is))
    | inr (inr more) ↦ absurd (let up = level_under M N j i high more in omega (arith, up, is))
  ]
    where
      place : N ≡ M → i ≡ j
      place same = let before = ap (levels_before spec.levels spec.productions) same in omega (arith, before, is)

  -- each nonterminal of the grammar is a level
  pub level_there : (X : ℕ) → first_nonterminal spec ≤ X → X < symbol_count spec
      → (N : ℕ) × (i : ℕ) × (N < nonterminal_count spec) × (i ≤ height spec.levels spec.productions N) × (X ≡ level_number spec N i)
  unfolding level_number
  level_there X low high =
      let f = level_found spec.levels spec.productions (nonterminal_count spec) (X - first_nonterminal spec) (omega (arith, low, high)) in
      let at = f.4 in
      (f.0, f.1, f.2, f.3, omega (arith, low, at))

  pub level_within : (N i : ℕ) → N < nonterminal_count spec → i ≤ height spec.levels spec.productions N → level_number spec N i < symbol_count spec
  level_within N i named low = level_under N (nonterminal_count spec) i 0 low named

  -- what the code answers
  pub level_answer : {E : Type 0} (r : Result ℕ E) (N i first before : ℕ) → first ≡ first_nonterminal spec → before ≡ levels_before spec.levels spec.productions N → IfOk r (λ m. m ≡ first + before + i) → IfOk r (λ m. m ≡ level_number spec N i)
  unfolding level_number
  level_answer (Ok m) N i first before start is h = omega (arith, start, is, h)
  level_answer (Err e) N i first before start is h = tt

  pub count_answer : {E : Type 0} (r : Result ℕ E) (first before : ℕ) → first ≡ first_nonterminal spec → before ≡ levels_before spec.levels spec.productions (nonterminal_count spec) → IfOk r (λ m. m ≡ first + before) → IfOk r (λ m. m ≡ symbol_count spec)
  unfolding level_number
  count_answer (Ok m) first before start is h = omega (arith, start, is, h)
  count_answer (Err e) first before start is h = tt

  -- the last place of the row
  pub last_at : (rows : List ℕ) (x : ℕ) → rows ≡ map (levels_before spec.levels spec.productions) (below (suc (nonterminal_count spec))) → slice_get rows (length rows - 1) ≡ Some x → x ≡ levels_before spec.levels spec.productions (nonterminal_count spec)
  last_at rows x is at =
      let f = levels_before spec.levels spec.productions in
      let long : length rows ≡ suc (nonterminal_count spec) = ap length is ∙ row_long f (suc (nonterminal_count spec)) in
      let place : length rows - 1 ≡ nonterminal_count spec = omega (arith, long) in
      row_at_place f (suc (nonterminal_count spec)) (nonterminal_count spec) x ((λ t. slice_get (sym is t) (sym place t)) ∙ at)
