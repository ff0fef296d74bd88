-- Lemmas on what stands before a set, on single sets, and on the vertices of paths.
use Rattle.std.proofs.Common.{◌≡◌, ℕ, zero, suc, ◌+◌, ◌<◌, inl, inr, List, [], ◌∷◌, Bool, true, false, length, set, replicate, sym, ap, ◌∙◌, subst, arith}
use Rattle.std.specs.Prelude.{◌↔◌}
use Rattle.std.proofs.lemmas.Bool.{cases_lt, cases_eq, false≢true}
use Rattle.std.proofs.lemmas.List.{get_or-set_same, get_or-set_other, get_or-replicate, get_or_past, length-replicate}
use Rattle.sg_sets.specs.Members.{has, Has, Shared}
use Rattle.sg_sets.specs.Paths.{Path}
use Rattle.sg_sets.specs.Rows.{row_of, Holds}

-- what holds in row a holds in a row that is there
pub Holds-below : (rows : List (List Bool)) (a b : ℕ) → Holds rows a b → a < length rows
Holds-below [] a b h = absurd (false≢true h)
Holds-below (r ∷ rows) zero b h = omega arith
Holds-below (r ∷ rows) (suc a) b h = let i = Holds-below rows a b h in omega (arith, i)

pub Path-below : (rows : List (List Bool)) (a b : ℕ) → Path (Holds rows) a b → a < length rows
Path-below rows a b ([], step) = Holds-below rows a b step
Path-below rows a b (v ∷ via, step) = Holds-below rows a v step.0

-- the set has just the vertices below n that are related to a member of the other
abbrev pub HasBefore : List (List Bool) → List Bool → ℕ → List Bool → Type 0
HasBefore rows after n found = (v : ℕ) → Has found v ↔ ((v < n) × ((b : ℕ) × Holds rows v b × Has after b))

pub before-yes : (rows : List (List Bool)) (after : List Bool) (n : ℕ) (found next : List Bool) → n < length found → HasBefore rows after n found → (b : ℕ) × Shared (row_of rows n) after b → next ≡ set found n true → HasBefore rows after (n + 1) next
before-yes rows after n found next low h (b, meet) is v = elim (cases_eq v n) [
  | inl same ↦ (
    λ k. (omega arith, subst (λ u. (c : ℕ) × Holds rows u c × Has after c) (sym same) (b, meet.0, meet.1)),
    λ k. rw (same, is) (get_or-set_same found n true false low),
  )
  | inr apart ↦
      let kept : has next v ≡ has found v = ap (λ l. has l v) is ∙ get_or-set_other found n v true false apart in (
        λ k. let old = (h v).0 (sym kept ∙ k) in (omega (arith, old.0), old.1),
        λ k. kept ∙ (h v).1 (omega (arith, k.0), k.1),
      )
]

pub before-no : (rows : List (List Bool)) (after : List Bool) (n : ℕ) (found next : List Bool) → HasBefore rows after n found → ¬ ((b : ℕ) × Shared (row_of rows n) after b) → next ≡ found → HasBefore rows after (n + 1) next
before-no rows after n found next h none is v = (
  λ k. let old = (h v).0 (subst (λ l. Has l v) is k) in (omega (arith, old.0), old.1),
  λ k. subst (λ l. Has l v) (sym is) (elim (cases_eq v n) [
    | inl same ↦ absurd (none (k.1.0, (subst (λ u. Holds rows u k.1.0) same k.1.1, k.1.2)))
    | inr apart ↦ (h v).1 (omega (arith, k.0), k.1)
  ]),
)

-- the set of one number
pub Has-single : (n a b : ℕ) → a < n → Has (set (replicate n false) a true) b ↔ (b ≡ a)
Has-single n a b low = elim (cases_eq b a) [
  | inl same ↦ (λ k. same, λ k. rw same (get_or-set_same (replicate n false) a true false (let l : length (replicate n false) ≡ n = length-replicate n false in omega (arith, l, low))))
  | inr apart ↦ (
    λ k. absurd (false≢true (sym (get_or-set_other (replicate n false) a b true false apart ∙ none b) ∙ k)),
    λ k. absurd (apart k),
  )
]
  where
    none : (i : ℕ) → has (replicate n false) i ≡ false
    none i = elim (cases_lt i n) [
      | inl low ↦ get_or-replicate n i false false low
      | inr high ↦ get_or_past (replicate n false) i false (let l : length (replicate n false) ≡ n = length-replicate n false in omega (arith, l, high))
    ]
