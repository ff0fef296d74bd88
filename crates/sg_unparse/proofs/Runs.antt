-- Cells by the runs of their owners.
use Rattle.std.specs.Prelude.{◌≡◌, refl, ℕ, zero, suc, ◌+◌, ◌-◌, ◌<◌, ◌≤◌, Bool, true, false, nat_lt, if◌then◌else◌, List, [], ◌∷◌, ◌++◌, length, slice_get, MatchOption}
use Rattle.std.specs.List.{All}
use Rattle.std.proofs.Common.{ap, ◌∙◌, arith, get_or}
use Rattle.std.proofs.lemmas.Bool.{lt-ltb, le-ltb}
use Rattle.sg_forest.specs.declared.node_id.NodeId.{NodeId}
use Rattle.sg_kinds.specs.Values.{Bytes}
use Rattle.sg_unparse.specs.Page.{bytes_of}
use Rattle.sg_unparse.specs.Sheet.{owner_in, cells_from}
use Rattle.sg_unparse.specs.declared.page.Run.{Run}

pub bytes_kept : (n : ℕ) (f : ℕ → NodeId) (s : Bytes) → bytes_of (cells_from n f s) ≡ s
bytes_kept n f [] = refl
bytes_kept n f (b ∷ s) = ap (λ xs. b ∷ xs) (bytes_kept (suc n) f s)

pub cells_counted : (n : ℕ) (f : ℕ → NodeId) (s : Bytes) → length (cells_from n f s) ≡ length s
cells_counted n f [] = refl
cells_counted n f (b ∷ s) = ap suc (cells_counted (suc n) f s)

pub cells_append : (n : ℕ) (f : ℕ → NodeId) (s t : Bytes) → cells_from n f (s ++ t) ≡ cells_from n f s ++ cells_from (n + length s) f t
cells_append n f [] t = (let e : n ≡ n + 0 = omega arith in ap (λ k. cells_from k f t) e)
cells_append n f (b ∷ s) t =
    let e : suc n + length s ≡ n + suc (length s) = omega arith in
    ap (λ xs. (b, f n) ∷ xs) (cells_append (suc n) f s t ∙ ap (λ k. cells_from (suc n) f s ++ cells_from k f t) e)

pub cells_alike : (n : ℕ) (f g : ℕ → NodeId) (s : Bytes) → ((k : ℕ) → k < n + length s → f k ≡ g k) → cells_from n f s ≡ cells_from n g s
cells_alike n f g [] h = refl
cells_alike n f g (b ∷ s) h =
    ap (λ x. (b, x) ∷ cells_from (suc n) f s) (h n (omega arith)) ∙ ap (λ xs. (b, g n) ∷ xs) (cells_alike (suc n) f g s (λ k l. h k (omega (arith, l))))

pub cell_there : (n : ℕ) (f : ℕ → NodeId) (s : Bytes) (k : ℕ) (d : ℕ × NodeId) → k < length s → (get_or (cells_from n f s) k d).1 ≡ f (n + k)
cell_there n f [] k d h = absurd (omega (arith, h))
cell_there n f (b ∷ s) zero d h = (let e : n ≡ n + 0 = omega arith in ap f e)
cell_there n f (b ∷ s) (suc k) d h = (let e : suc n + k ≡ n + suc k = omega arith in cell_there (suc n) f s k d (omega (arith, h)) ∙ ap f e)

-- a run that begins behind a cell says nothing of it
pub owner_before : (n : NodeId) (rs : List Run) (r : Run) (k : ℕ) → k < r.from → owner_in n (rs ++ r ∷ []) k ≡ owner_in n rs k
owner_before n [] r k h = ap (λ t. if t then n else r.owner) (lt-ltb k r.from h)
owner_before n (x ∷ rs) r k h = by (owner_before x.owner rs r k h) (nat_lt k x.from)
  where
    by : owner_in x.owner (rs ++ r ∷ []) k ≡ owner_in x.owner rs k → (t : Bool) → (if t then n else owner_in x.owner (rs ++ r ∷ []) k) ≡ (if t then n else owner_in x.owner rs k)
    by e true = refl
    by e false = e

same_there : (xs : List Run) (q : ℕ) (d e : Run) → q < length xs → get_or xs q d ≡ get_or xs q e
same_there [] q d e l = absurd (omega (arith, l))
same_there (x ∷ xs) zero d e l = refl
same_there (x ∷ xs) (suc q) d e l = same_there xs q d e (omega (arith, l))

-- where the first p runs begin at a cell or before it, and the others behind it, its owner is that of the last of these
pub owner_at : (d : Run) (rs : List Run) (p k : ℕ) → p ≤ length rs → ((i : ℕ) (e : Run) → i < p → (get_or rs i e).from ≤ k) → ((i : ℕ) (e : Run) → p ≤ i → i < length rs → k < (get_or rs i e).from) → owner_in d.owner rs k ≡ (get_or (d ∷ rs) p d).owner
owner_at d [] zero k w low high = refl
owner_at d [] (suc p) k w low high = absurd (omega (arith, w))
owner_at d (r ∷ rs) zero k w low high = ap (λ t. if t then d.owner else owner_in r.owner rs k) (lt-ltb k r.from (high 0 d (omega arith) (omega arith)))
owner_at d (r ∷ rs) (suc p) k w low high =
    ap (λ t. if t then d.owner else owner_in r.owner rs k) (le-ltb k r.from (low 0 d (omega arith)))
    ∙ owner_at r rs p k (omega (arith, w)) (λ i e l. low (suc i) e (omega (arith, l))) (λ i e l m. high (suc i) e (omega (arith, l)) (omega (arith, m)))
    ∙ ap (λ (x : Run). x.owner) (same_there (r ∷ rs) p r d (omega (arith, w)))

-- where all runs begin at a cell or before it, its owner is that of the last run
pub owner_last : (n : NodeId) (rs : List Run) (k : ℕ) (d : Run) → 0 < length rs → All (λ (r : Run). r.from ≤ k) rs → owner_in n rs k ≡ (get_or rs (length rs - 1) d).owner
owner_last n [] k d h all = absurd (omega (arith, h))
owner_last n (r ∷ []) k d h all = ap (λ t. if t then n else r.owner) (le-ltb k r.from (all 0 d (omega arith)))
owner_last n (r ∷ s ∷ rs) k d h all =
    ap (λ t. if t then n else owner_in r.owner (s ∷ rs) k) (le-ltb k r.from (all 0 d (omega arith)))
    ∙ owner_last r.owner (s ∷ rs) k d (omega arith) (λ i e l. all (suc i) e (omega (arith, l)))
    ∙ (let e : suc (length (s ∷ rs) - 1) ≡ length (r ∷ s ∷ rs) - 1 = omega arith in ap (λ i. (get_or (r ∷ s ∷ rs) i d).owner) e)

pub owner_pushed : (n : NodeId) (rs : List Run) (r : Run) (k : ℕ) → r.from ≤ k → All (λ (r : Run). r.from ≤ k) rs → owner_in n (rs ++ r ∷ []) k ≡ r.owner
owner_pushed n [] r k h all = ap (λ t. if t then n else r.owner) (le-ltb k r.from h)
owner_pushed n (x ∷ rs) r k h all =
    ap (λ t. if t then n else owner_in x.owner (rs ++ r ∷ []) k) (le-ltb k x.from (all 0 r (omega arith)))
    ∙ owner_pushed x.owner rs r k h (λ i e l. all (suc i) e (omega (arith, l)))

-- where the first run begins at a cell or before it, some do
pub some_passed : (rs : List Run) (p k : ℕ) → MatchOption (slice_get rs 0) ⊥ (λ (r : Run). r.from ≤ k) → ((i : ℕ) (e : Run) → p ≤ i → i < length rs → k < (get_or rs i e).from) → 1 ≤ p
some_passed [] p k first high = absurd first
some_passed (r ∷ rs) zero k first high = (let g = high 0 r (omega arith) (omega arith) in omega (arith, g, first))
some_passed (r ∷ rs) (suc p) k first high = omega arith
