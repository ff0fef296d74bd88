-- Families of relations, of which one is replaced.
use Rattle.std.specs.Prelude.{◌≡◌, ℕ, ◌<◌, Bool, List, [], length}
use Rattle.std.proofs.Common.{refl, sym, ◌∙◌, subst, set, inl, inr, length-set}
use Rattle.std.proofs.lemmas.Bool.{cases_eq}
use Rattle.std.proofs.lemmas.List.{get_or-set_same, get_or-set_other}
use Rattle.sg_dependencies.specs.Induced.{relation_at}
use Rattle.sg_dependencies.specs.Rounds.{AreAlike}

pub at_same : (relations : List (List (List Bool))) (k : ℕ) (rows : List (List Bool)) → k < length relations → relation_at (set relations k rows) k ≡ rows
at_same relations k rows low = get_or-set_same relations k rows [] low

pub at_other : (relations : List (List (List Bool))) (k j : ℕ) (rows : List (List Bool)) → (j ≡ k → ⊥) → relation_at (set relations k rows) j ≡ relation_at relations j
at_other relations k j rows ne = get_or-set_other relations k j rows [] ne

-- what holds at each place of the old family, and at one place of the new rows
pub at_each : (relations : List (List (List Bool))) (k : ℕ) (rows : List (List Bool)) → k < length relations → (P : ℕ → List (List Bool) → Type 0) → P k rows → (j : ℕ) → P j (relation_at relations j) → P j (relation_at (set relations k rows) j)
at_each relations k rows low P new j old = elim (cases_eq j k) [
  | inl is ↦ rw is (subst (P k) (sym (at_same relations k rows low)) new)
  | inr ne ↦ subst (P j) (sym (at_other relations k j rows ne)) old
]

pub alike_itself : (relations : List (List (List Bool))) → AreAlike relations relations
alike_itself relations = record { count = refl; sizes = λ k. refl }

pub alike_set : (first relations : List (List (List Bool))) (k : ℕ) (rows : List (List Bool)) → AreAlike first relations → k < length relations → length rows ≡ length (relation_at relations k) → AreAlike first (set relations k rows)
alike_set first relations k rows like low size = record {
  count = length-set relations k rows ∙ like.count;
  sizes = λ j. at_each relations k rows low (λ i r. length r ≡ length (relation_at first i)) (size ∙ like.sizes k) j (like.sizes j);
}
