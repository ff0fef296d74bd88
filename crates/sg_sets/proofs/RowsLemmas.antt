-- Lemmas on rows of flags.
use Rattle.std.proofs.Common.{◌≡◌, ◌≢◌, ℕ, ◌+◌, ◌<◌, ◌⊎◌, inl, inr, Bool, true, false, not, cond, List, [], length, get_or, set, replicate, refl, sym, ap, ◌∙◌, subst, arith}
use Rattle.std.proofs.lemmas.Bool.{cases_eq}
use Rattle.std.proofs.lemmas.List.{get_or_default, length-set, get_or-replicate, length-replicate, set_comm, set-set, set-get_or, get_or-set_same, get_or-set_other}
use Rattle.std.proofs.lemmas.List.Sums.{sum_by-set}
use Rattle.std.specs.Prelude.{◌↔◌}
use Rattle.std.specs.Bool.{OnTrue, OnFalse}
use Rattle.sg_sets.proofs.OptionLemmas.{OnTrue-weaker, OnFalse-weaker}
use Rattle.sg_sets.specs.Members.{has, Has, missing_of}
use Rattle.sg_sets.specs.Rows.{row_of, Holds, all_missing, AllOfWidth}

pub AllOfWidth-replicate : (width n : ℕ) → AllOfWidth width (replicate n (replicate width false))
AllOfWidth-replicate width n a h =
    let low : a < n = omega (arith, h, length-replicate n (replicate width false)) in
    ap length (get_or-replicate n a (replicate width false) [] low) ∙ length-replicate width false

-- one flag more leaves one fewer missing, if it was not set
pub missing_of-set : (xs : List Bool) (b : ℕ) → b < length xs → missing_of xs ≡ missing_of (set xs b true) + cond (not (has xs b)) 1 0
missing_of-set xs b h =
    let s : missing_of (set xs b true) + cond (not (has xs b)) 1 0 ≡ missing_of xs + 0 = sum_by-set (λ f. cond (not f) 1 0) xs b true false h in
    omega (arith, s)

pub all_missing-set : (rows : List (List Bool)) (a b : ℕ) → a < length rows → b < length (row_of rows a) → all_missing rows ≡ all_missing (set rows a (set (row_of rows a) b true)) + cond (not (has (row_of rows a) b)) 1 0
all_missing-set rows a b h k =
    let s : all_missing (set rows a (set (row_of rows a) b true)) + missing_of (row_of rows a) ≡ all_missing rows + missing_of (set (row_of rows a) b true) = sum_by-set missing_of rows a (set (row_of rows a) b true) [] h in
    omega (arith, s, missing_of-set (row_of rows a) b k)

-- a row that is taken out, and put back after a write to another row
pub set_around : (rows : List (List Bool)) (from to : ℕ) (none set' joined : List Bool) → from ≢ to → from < length rows → set' ≡ row_of rows from → set (set (set rows from none) to joined) from set' ≡ set rows to joined
set_around rows from to none set' joined ne low e =
    ap (λ l. set l from set') (set_comm rows from to none joined ne)
    ∙ set-set (set rows to joined) from none set'
    ∙ ap (λ r. set (set rows to joined) from r) (e ∙ sym (get_or-set_other rows to from joined [] ne))
    ∙ set-get_or (set rows to joined) from []

pub set-joins : (rows : List (List Bool)) (to : ℕ) (more joined : List Bool) → to < length rows → ((a : ℕ) → Has joined a ↔ (Has (row_of rows to) a ⊎ Has more a)) → (x y : ℕ) → Holds (set rows to joined) x y ↔ (Holds rows x y ⊎ ((x ≡ to) × Has more y))
set-joins rows to more joined low h x y = elim (cases_eq x to) [
  | inr other ↦
      let same : row_of (set rows to joined) x ≡ row_of rows x = get_or-set_other rows to x joined [] other in
      (λ k. inl (subst (λ r. Has r y) same k), λ k. elim k [ inl was ↦ subst (λ r. Has r y) (sym same) was | inr new ↦ absurd (other new.0) ])
  | inl is ↦
      let here : row_of (set rows to joined) to ≡ joined = get_or-set_same rows to joined [] low in
      rw is (
        λ k. elim ((h y).0 (subst (λ r. Has r y) here k)) [ inl was ↦ inl was | inr new ↦ inr (refl, new) ],
        λ k. subst (λ r. Has r y) (sym here) ((h y).1 (elim k [ inl was ↦ inl was | inr new ↦ inr new.1 ])),
      )
]

pub set-grows : (rows : List (List Bool)) (to : ℕ) (joined : List Bool) → to < length rows → missing_of joined < missing_of (row_of rows to) → all_missing (set rows to joined) < all_missing rows
set-grows rows to joined low h =
    let s : all_missing (set rows to joined) + missing_of (row_of rows to) ≡ all_missing rows + missing_of joined = sum_by-set missing_of rows to joined [] low in
    omega (arith, s, h)

pub set-stays : (rows : List (List Bool)) (to : ℕ) (joined : List Bool) → joined ≡ row_of rows to → set rows to joined ≡ rows
set-stays rows to joined e = ap (λ r. set rows to r) e ∙ set-get_or rows to []

pub AllOfWidth-same : (width : ℕ) (rows other : List (List Bool)) → other ≡ rows → AllOfWidth width rows → AllOfWidth width other
AllOfWidth-same width rows other e h = rw e h

-- what a row that takes in another leaves, where that other was taken out for it
pub record JoinedRow (rows final : List (List Bool)) (from to : ℕ) (grown : Bool) : Type 0 where
  pub is : List Bool
  pub put : final ≡ set rows to is
  pub joins : (x y : ℕ) → Holds (set rows to is) x y ↔ (Holds rows x y ⊎ ((x ≡ to) × Holds rows from y))
  pub grows : OnTrue grown (all_missing (set rows to is) < all_missing rows)
  pub stays : OnFalse grown (set rows to is ≡ rows)

pub joined_row : (rows : List (List Bool)) (from to : ℕ) (none set' was joined : List Bool) (grown : Bool) → (from ≡ to → ⊥) → from < length rows → to < length rows → set' ≡ get_or rows from set' → was ≡ get_or (set rows from none) to was
    → ((a : ℕ) → Has joined a ↔ (Has was a ⊎ Has set' a)) → OnTrue grown (missing_of joined < missing_of was) → OnFalse grown (joined ≡ was)
    → JoinedRow rows (set (set (set rows from none) to joined) from set') from to grown
joined_row rows from to none set' was joined grown ne low low' e f joins grows stays =
    let taken : set' ≡ row_of rows from = e ∙ get_or_default rows from set' [] low in
    let apart : to ≢ from = λ d. ne (sym d) in
    let long : to < length (set rows from none) = rw (length-set rows from none) low' in
    let before : was ≡ row_of rows to = f ∙ get_or_default (set rows from none) to was [] long ∙ get_or-set_other rows from to none [] apart in
    record {
      is = joined;
      put = set_around rows from to none set' joined ne low taken;
      joins = set-joins rows to (row_of rows from) joined low' (λ a. subst (λ r. Has joined a ↔ (Has (row_of rows to) a ⊎ Has r a)) taken (subst (λ r. Has joined a ↔ (Has r a ⊎ Has set' a)) before (joins a)));
      grows = OnTrue-weaker grown _ _ (set-grows rows to joined low') (subst (λ r. OnTrue grown (missing_of joined < missing_of r)) before grows);
      stays = OnFalse-weaker grown _ _ (λ s. set-stays rows to joined (s ∙ before)) stays;
    }
