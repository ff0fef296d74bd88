-- The levels of a nonterminal follow its lines.
use Rattle.std.specs.Prelude.{◌≡◌, ℕ, suc, ◌<◌, ◌≤◌, ◌↔◌, Bool, true, false, cond, not, ◌&&◌, List, [], ◌∷◌, length, nat_eq, nat_lt, bytes_eq, Option, Some, None, is_some, option_map, option_and_then, unwrap_or, Contains, IsTrue}
use Rattle.std.specs.List.{list_any}
use Rattle.std.proofs.Common.{refl, ap, ◌∙◌, arith, inl, inr}
use Rattle.std.proofs.lemmas.Bool.{false≢true, cases_order, cases_lt, or_cases, or_left, or_right, and_parts, and_from, eqb-true, eq-eqb, ltb-true, lt-ltb, le-ltb}
use Rattle.std.proofs.lemmas.List.Folds.{list_any_at}
use Rattle.std.proofs.lemmas.List.Quantifiers.{position-Some}
use Rattle.std.proofs.lemmas.List.Sums.{count_by-le-length}
use Rattle.sg_kinds.specs.Values.{Bytes}
use Rattle.sg_kinds.specs.Instances.{below}
use Rattle.sg_kinds.specs.declared.spec.LevelLine.{LevelLine}
use Rattle.sg_kinds.specs.declared.spec.Production.{Production}
use Rattle.sg_prec.specs.Precedence.{line_with, literal_between, infix_line, may_stand}
use Rattle.sg_prec.specs.Levels.{is_of_line, has_line, lines_of, height, rank, level_by}
use Rattle.sg_prec.proofs.Counting.{count_le, count_lt, filter_has, below_has}

-- a line of an infix production of the nonterminal
pub record IsLine (lines : List LevelLine) (ps : List Production) (N k : ℕ) : Type 0 where
  pub has : has_line lines ps N k ≡ true
  pub there : k < length lines

line_low : (lines : List LevelLine) (s : Bytes) (k : ℕ) → line_with lines s ≡ Some k → k < length lines
line_low [] s k is = cc
line_low (l ∷ lines) s k is = (position-Some (λ (l : LevelLine). list_any (bytes_eq s) l.literals) (l ∷ lines) k l is).0

line_some : (lines : List LevelLine) (o : Option Bytes) (k : ℕ) → option_and_then (line_with lines) o ≡ Some k → k < length lines
line_some lines None k is = cc
line_some lines (Some s) k is = line_low lines s k is

of_line : (lines : List LevelLine) (k : ℕ) (o : Option ℕ) → o ≡ Some k → unwrap_or (option_map (nat_eq k) o) false ≡ true
of_line lines k o is = ap (λ p. unwrap_or (option_map (nat_eq k) p) false) is ∙ eq-eqb k k refl

-- the line of a production is one of its nonterminal
pub line_known : (lines : List LevelLine) (ps : List Production) (r : Production) → Contains ps r → (k : ℕ) → infix_line lines r ≡ Some k → IsLine lines ps r.left k
line_known lines ps r (i, low, at) k is =
    let here : is_of_line lines r.left k r ≡ true = and_from (nat_eq r.left r.left) (unwrap_or (option_map (nat_eq k) (infix_line lines r)) false) (eq-eqb r.left r.left refl) (of_line lines k (infix_line lines r) is) in
    record {
      has = list_any_at (is_of_line lines r.left k) ps i r low (ap (is_of_line lines r.left k) at ∙ here);
      there = line_some lines (literal_between r.left r.right) k is;
    }

module _ (lines : List LevelLine) (ps : List Production) (N : ℕ) where
  line_there : (k : ℕ) → IsLine lines ps N k → Contains (lines_of lines ps N) k
  line_there k line = filter_has (has_line lines ps N) (below (length lines)) k (below_has (length lines) k line.there) line.has

  pub rank_low : (k : ℕ) → IsLine lines ps N k → rank lines ps N k < height lines ps N
  rank_low k line =
      let less = count_lt (λ j. nat_lt j k) (λ j. true) (λ j h. refl) (lines_of lines ps N) k (line_there k line) (le-ltb k k (omega arith)) refl in
      let most = count_by-le-length (λ (j : ℕ). true) (lines_of lines ps N) in
      omega (arith, less, most)

  pub rank_rises : (k j : ℕ) → k ≤ j → rank lines ps N k ≤ rank lines ps N j
  rank_rises k j up = count_le (λ i. nat_lt i k) (λ i. nat_lt i j) (λ i h. let low = ltb-true i k h in lt-ltb i j (omega (arith, low, up))) (lines_of lines ps N)

  pub rank_falls : (k j : ℕ) → IsLine lines ps N k → k < j → rank lines ps N k < rank lines ps N j
  rank_falls k j line up =
      count_lt (λ i. nat_lt i k) (λ i. nat_lt i j) (λ i h. let low = ltb-true i k h in lt-ltb i j (omega (arith, low, up))) (lines_of lines ps N) k (line_there k line) (le-ltb k k (omega arith)) (lt-ltb k j up)

  pub level_high : (o : Option ℕ) → ((j : ℕ) → o ≡ Some j → IsLine lines ps N j) → level_by lines ps N o ≤ height lines ps N
  level_high None known = omega arith
  level_high (Some j) known = let low = rank_low j (known j refl) in omega (arith, low)

  -- what is of the last level has no line
  pub last_alone : (o : Option ℕ) → ((j : ℕ) → o ≡ Some j → IsLine lines ps N j) → IsTrue (not (is_some o)) ↔ (height lines ps N ≤ level_by lines ps N o)
  last_alone None known = (λ _. omega arith, λ _. refl)
  last_alone (Some j) known = (λ no. absurd (false≢true no), λ high. let low = rank_low j (known j refl) in absurd (omega (arith, high, low)))

  -- what may stand below an operand is of the operand's level or a later one
  stands_same : (k : ℕ) → IsLine lines ps N k → (j : ℕ) → IsLine lines ps N j → IsTrue (may_stand true k (Some j)) ↔ (rank lines ps N k ≤ rank lines ps N j)
  stands_same k line j other = (to, from)
    where
      to : IsTrue (may_stand true k (Some j)) → rank lines ps N k ≤ rank lines ps N j
      to h = elim (or_cases (nat_lt k j) (nat_eq k j && true) h) [
        | inl less ↦ let low = ltb-true k j less in rank_rises k j (omega (arith, low))
        | inr both ↦ let is = eqb-true k j (and_parts (nat_eq k j) true both).0 in rank_rises k j (omega (arith, is))
      ]

      from : rank lines ps N k ≤ rank lines ps N j → IsTrue (may_stand true k (Some j))
      from up = elim (cases_order k j) [
        | inl is ↦ or_right (nat_lt k j) (nat_eq k j && true) (and_from (nat_eq k j) true (eq-eqb k j is) refl)
        | inr (inl less) ↦ or_left (nat_lt k j) (nat_eq k j && true) (lt-ltb k j less)
        | inr (inr more) ↦ let low = rank_falls j k other more in absurd (omega (arith, up, low))
      ]

  stands_behind : (k : ℕ) → IsLine lines ps N k → (j : ℕ) → IsLine lines ps N j → IsTrue (may_stand false k (Some j)) ↔ (suc (rank lines ps N k) ≤ rank lines ps N j)
  stands_behind k line j other = (to, from)
    where
      to : IsTrue (may_stand false k (Some j)) → suc (rank lines ps N k) ≤ rank lines ps N j
      to h = elim (or_cases (nat_lt k j) (nat_eq k j && false) h) [
        | inl less ↦ let low = rank_falls k j line (ltb-true k j less) in omega (arith, low)
        | inr both ↦ absurd (false≢true (and_parts (nat_eq k j) false both).1)
      ]

      from : suc (rank lines ps N k) ≤ rank lines ps N j → IsTrue (may_stand false k (Some j))
      from up = elim (cases_lt k j) [
        | inl less ↦ or_left (nat_lt k j) (nat_eq k j && false) (lt-ltb k j less)
        | inr more ↦ let low = rank_rises j k more in absurd (omega (arith, up, low))
      ]

  pub stands_high : (same : Bool) (k : ℕ) → IsLine lines ps N k → (o : Option ℕ) → ((j : ℕ) → o ≡ Some j → IsLine lines ps N j)
      → IsTrue (may_stand same k o) ↔ (cond same (rank lines ps N k) (suc (rank lines ps N k)) ≤ level_by lines ps N o)
  stands_high true k line None known = (λ _. let low = rank_low k line in omega (arith, low), λ _. refl)
  stands_high false k line None known = (λ _. let low = rank_low k line in omega (arith, low), λ _. refl)
  stands_high true k line (Some j) known = stands_same k line j (known j refl)
  stands_high false k line (Some j) known = stands_behind k line j (known j refl)
