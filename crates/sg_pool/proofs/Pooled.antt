-- The values of a pool's entries.
use Rattle.std.specs.Prelude.{◌≡◌, refl, ℕ, zero, suc, ◌+◌, ◌<◌, ◌≤◌, true, ◌⊎◌, List, [], ◌∷◌, ◌++◌, map, length, All, Contains, Some, slice_get}
use Rattle.std.specs.Bool.{Decides, one_answer}
use Rattle.std.specs.Cmp.{decided, IsEquivalence}
use Rattle.std.specs.List.{list_any}
use Rattle.std.proofs.Common.{inl, inr, sym, ◌∙◌, ap, subst, arith, get_or, append_assoc, length-append, rules}
use Rattle.std.proofs.lemmas.List.{length-map}
use Rattle.std.proofs.lemmas.Map.Views.{list_any-from_Contains, Contains-from_any}
use Rattle.std.proofs.lemmas.Option.{slice_get-get_or, get_or_from_slice_get, unwrap_or-slice_get}
use Rattle.std.proofs.lemmas.Bool.{cases_order}
use Rattle.sg_kinds.specs.Evaluation.{untyped}
use Rattle.sg_kinds.specs.Values.{Value, Tree, row_of, same_value}
use Rattle.sg_pool.specs.Pools.{value_at, has_value, AreDifferent}
use Rattle.sg_pool.specs.PoolEntries.{PoolEntry, entry_value, kid_numbers, same_entry}
use Rattle.sg_pool.specs.declared.entry.PoolEntry.TheVariants as entry
use Rattle.sg_pool.specs.declared.pool.Measure.{Measure}
use Rattle.sg_pool.specs.PoolView.{values_from, pooled_values, AreBelow, AreOrdered, measure_of, IsPooled}
use Rattle.sg_kinds.specs.SameValue.{value_is, value_same}
use Rattle.sg_pool.specs.SameEntry.{entry_is, entry_equal}
use Rattle.sg_kinds.proofs.Kids.{row_injective}
use Rattle.sg_kinds.proofs.Elementary.{slice_get-front, slice_get-seam, map_at}

pub below_all : (n : ℕ) (ks : List ℕ) → All (λ k. k < n) ks → AreBelow n ks
below_all n [] h = tt
below_all n (k ∷ ks) h = (h 0 0 (omega arith), below_all n ks (λ i d l. h (suc i) d (omega arith)))

pub below_more : (m n : ℕ) (ks : List ℕ) → m ≤ n → AreBelow m ks → AreBelow n ks
below_more m n [] l h = tt
below_more m n (k ∷ ks) l h = (omega (arith, h.0), below_more m n ks l h.1)

-- what a number stands for stays where values are put behind
pub map-value_at : (vs more : List Value) (ks : List ℕ) → AreBelow (length vs) ks → map (value_at (vs ++ more)) ks ≡ map (value_at vs) ks
map-value_at vs more [] h = refl
map-value_at vs more (k ∷ ks) h = rw (slice_get-front vs more k h.0, map-value_at vs more ks h.1) refl

pub entry_value-stays : (vs more : List Value) (e : PoolEntry) → AreBelow (length vs) (kid_numbers e) → entry_value (vs ++ more) e ≡ entry_value vs e
entry_value-stays vs more (entry.Bool b) h = refl
entry_value-stays vs more (entry.Int z) h = refl
entry_value-stays vs more (entry.Text s) h = refl
entry_value-stays vs more (entry.Tree op ks) h = ap (λ l. Tree op (row_of l)) (map-value_at vs more ks h)
entry_value-stays vs more (entry.Fault kind) h = refl

-- the values begin with those that are there
pub tail_of : (done : List Value) (es : List PoolEntry) → (more : List Value) × (values_from done es ≡ done ++ more)
tail_of done [] = ([], sym (search rules))
tail_of done (e ∷ es) =
    let t = tail_of (done ++ entry_value done e ∷ []) es in
    (entry_value done e ∷ t.0, t.1 ∙ append_assoc done (entry_value done e ∷ []) t.0)

pub length-values_from : (done : List Value) (es : List PoolEntry) → length (values_from done es) ≡ length done + length es
length-values_from done [] = omega arith
length-values_from done (e ∷ es) = length-values_from (done ++ entry_value done e ∷ []) es ∙ (let l : length (done ++ entry_value done e ∷ []) ≡ length done + 1 = length-append done (entry_value done e ∷ []) in omega (arith, l))

pub values_from-push : (done : List Value) (es : List PoolEntry) (e : PoolEntry) → values_from done (es ++ e ∷ []) ≡ values_from done es ++ entry_value (values_from done es) e ∷ []
values_from-push done [] e = refl
values_from-push done (x ∷ es) e = values_from-push (done ++ entry_value done x ∷ []) es e

-- an entry's place has its value
module _ where
  at_first : (done : List Value) (x : PoolEntry) (es : List PoolEntry) → AreBelow (length done) (kid_numbers x)
      → slice_get (values_from (done ++ entry_value done x ∷ []) es) (length done) ≡ Some (entry_value (values_from (done ++ entry_value done x ∷ []) es) x)
  at_first done x es below =
      let w = entry_value done x in
      let t = tail_of (done ++ w ∷ []) es in
      let whole : values_from (done ++ w ∷ []) es ≡ done ++ w ∷ t.0 = t.1 ∙ append_assoc done (w ∷ []) t.0 in
      rw whole (slice_get-seam done w t.0 ∙ ap Some (sym (entry_value-stays done (w ∷ t.0) x below)))

  pub values_at : (done : List Value) (n : ℕ) (es : List PoolEntry) (i : ℕ) (e : PoolEntry) → n ≡ length done → AreOrdered n es → slice_get es i ≡ Some e
      → slice_get (values_from done es) (n + i) ≡ Some (entry_value (values_from done es) e)
  values_at done n [] i e len o h = cc
  values_at done n (x ∷ es) zero e len o h =
      let same : x ≡ e = cc in
      let k : n + 0 ≡ length done = omega (arith, len) in
      rw (k, ← same) (at_first done x es (subst (λ m. AreBelow m (kid_numbers x)) len o.0))
  values_at done n (x ∷ es) (suc i) e len o h =
      let l : suc n ≡ length (done ++ entry_value done x ∷ []) = (let a : length (done ++ entry_value done x ∷ []) ≡ length done + 1 = length-append done (entry_value done x ∷ []) in omega (arith, a, len)) in
      let k : n + suc i ≡ suc n + i = omega arith in
      rw k (values_at (done ++ entry_value done x ∷ []) (suc n) es i e l o.1 h)

-- different places have different values
pub place_is : (vs : List Value) (a b : ℕ) → AreDifferent vs → a < length vs → b < length vs → value_at vs a ≡ value_at vs b → a ≡ b
place_is vs a b different la lb e = by (cases_order a b)
  where
    same : get_or vs a untyped ≡ get_or vs b untyped
    same = sym (unwrap_or-slice_get vs a untyped) ∙ e ∙ unwrap_or-slice_get vs b untyped

    by : (a ≡ b) ⊎ ((a < b) ⊎ (b < a)) → a ≡ b
    by (inl h) = h
    by (inr (inl h)) = absurd (different a b untyped h lb same)
    by (inr (inr h)) = absurd (different b a untyped h la (sym same))

pub places_are : (vs : List Value) (xs ys : List ℕ) → AreDifferent vs → AreBelow (length vs) xs → AreBelow (length vs) ys → map (value_at vs) xs ≡ map (value_at vs) ys → xs ≡ ys
places_are vs [] [] different hx hy e = refl
places_are vs [] (y ∷ ys) different hx hy e = cc
places_are vs (x ∷ xs) [] different hx hy e = cc
places_are vs (x ∷ xs) (y ∷ ys) different hx hy e =
    let first : value_at vs x ≡ value_at vs y = cc in
    let rest : map (value_at vs) xs ≡ map (value_at vs) ys = cc in
    cc (place_is vs x y different hx.0 hy.0 first, places_are vs xs ys different hx.1 hy.1 rest)

-- entries with one value are the same
pub entry_value-is : (vs : List Value) (x y : PoolEntry) → AreDifferent vs → AreBelow (length vs) (kid_numbers x) → AreBelow (length vs) (kid_numbers y) → entry_value vs x ≡ entry_value vs y → x ≡ y
entry_value-is vs (entry.Bool a) (entry.Bool b) different hx hy e = cc
entry_value-is vs (entry.Int a) (entry.Int b) different hx hy e = cc
entry_value-is vs (entry.Text a) (entry.Text b) different hx hy e = cc
entry_value-is vs (entry.Tree p xs) (entry.Tree q ys) different hx hy e =
    let op : p ≡ q = cc in
    let rows : row_of (map (value_at vs) xs) ≡ row_of (map (value_at vs) ys) = cc in
    cc (op, places_are vs xs ys different hx hy (row_injective _ _ rows))
entry_value-is vs (entry.Fault a) (entry.Fault b) different hx hy e = cc
entry_value-is vs x y different hx hy e = cc

-- the children of an entry at a place
pub ordered_at : (n : ℕ) (es : List PoolEntry) (i : ℕ) (e : PoolEntry) → AreOrdered n es → slice_get es i ≡ Some e → AreBelow (n + i) (kid_numbers e)
ordered_at n [] i e o h = cc
ordered_at n (x ∷ es) zero e o h = let same : x ≡ e = cc in let k : n + 0 ≡ n = omega arith in rw (k, ← same) o.0
ordered_at n (x ∷ es) (suc i) e o h = let k : n + suc i ≡ suc n + i = omega arith in rw k (ordered_at (suc n) es i e o.1 h)

pub ordered_push : (n : ℕ) (es : List PoolEntry) (e : PoolEntry) → AreOrdered n es → AreBelow (n + length es) (kid_numbers e) → AreOrdered n (es ++ e ∷ [])
ordered_push n [] e o h = let k : n + 0 ≡ n = omega arith in (subst (λ m. AreBelow m (kid_numbers e)) k h, tt)
ordered_push n (x ∷ es) e o h = let k : n + length (x ∷ es) ≡ suc n + length es = omega arith in (o.0, ordered_push (suc n) es e o.1 (subst (λ m. AreBelow m (kid_numbers e)) k h))

pub length-values_of : (es : List PoolEntry) → length (pooled_values es) ≡ length es
length-values_of es = length-values_from [] es ∙ (omega arith)

pub value_at_place : (es : List PoolEntry) (i : ℕ) (e : PoolEntry) → AreOrdered 0 es → slice_get es i ≡ Some e → slice_get (pooled_values es) i ≡ Some (entry_value (pooled_values es) e)
value_at_place es i e o h = let k : 0 + i ≡ i = omega arith in subst (λ m. slice_get (pooled_values es) m ≡ Some (entry_value (pooled_values es) e)) k (values_at [] 0 es i e refl o h)

-- where an entry is there, and where its value is there
pub has_itself : IsEquivalence same_value
has_itself = decided same_value (λ x y. (value_is x y, λ e. subst (λ z. same_value x z ≡ true) e (value_same x)))

pub has_entry-Decides : (es : List PoolEntry) (e : PoolEntry) → Decides (list_any (same_entry e) es) (Contains es e)
has_entry-Decides es e = (Contains-from_any entry_is e es, list_any-from_Contains entry_equal e es)

pub has_value-Decides : (es : List PoolEntry) (e : PoolEntry) → AreOrdered 0 es → AreDifferent (pooled_values es) → AreBelow (length (pooled_values es)) (kid_numbers e)
    → Decides (has_value (pooled_values es) (entry_value (pooled_values es) e)) (Contains es e)
has_value-Decides es e o different below = (to, from)
  where
    to : has_value (pooled_values es) (entry_value (pooled_values es) e) ≡ true → Contains es e
    to h =
        let c = Contains-from_any value_is (entry_value (pooled_values es) e) (pooled_values es) h in
        let l : c.0 < length es = omega (arith, c.1, length-values_of es) in
        let at : slice_get es c.0 ≡ Some (get_or es c.0 e) = slice_get-get_or es c.0 e l in
        let v : slice_get (pooled_values es) c.0 ≡ Some (entry_value (pooled_values es) (get_or es c.0 e)) = value_at_place es c.0 (get_or es c.0 e) o at in
        let w : entry_value (pooled_values es) (get_or es c.0 e) ≡ entry_value (pooled_values es) e = sym (get_or_from_slice_get (pooled_values es) c.0 _ (entry_value (pooled_values es) e) v) ∙ c.2 in
        let b : AreBelow (length (pooled_values es)) (kid_numbers (get_or es c.0 e)) = below_more (0 + c.0) (length (pooled_values es)) _ (omega (arith, c.1)) (ordered_at 0 es c.0 (get_or es c.0 e) o at) in
        (c.0, l, entry_value-is (pooled_values es) (get_or es c.0 e) e different b below w)

    from : Contains es e → has_value (pooled_values es) (entry_value (pooled_values es) e) ≡ true
    from c =
        let at : slice_get es c.0 ≡ Some e = slice_get-get_or es c.0 e c.1 ∙ ap Some c.2 in
        let v : slice_get (pooled_values es) c.0 ≡ Some (entry_value (pooled_values es) e) = value_at_place es c.0 e o at in
        list_any-from_Contains has_itself (entry_value (pooled_values es) e) (pooled_values es)
        (c.0, omega (arith, c.1, length-values_of es), get_or_from_slice_get (pooled_values es) c.0 _ (entry_value (pooled_values es) e) v)

pub has_same : (es : List PoolEntry) (e : PoolEntry) → AreOrdered 0 es → AreDifferent (pooled_values es) → AreBelow (length (pooled_values es)) (kid_numbers e)
    → list_any (same_entry e) es ≡ has_value (pooled_values es) (entry_value (pooled_values es) e)
has_same es e o different below = one_answer _ _ (has_entry-Decides es e) (has_value-Decides es e o different below)

-- what a pool's parts tell of a number
pub all_below : (n : ℕ) (ks : List ℕ) → AreBelow n ks → All (λ k. k < n) ks
all_below n [] h i d l = absurd (omega arith)
all_below n (k ∷ ks) h zero d l = h.0
all_below n (k ∷ ks) h (suc i) d l = all_below n ks h.1 i d (omega arith)

pub entry_told : (es : List PoolEntry) (ms : List Measure) (vs : List Value) (i : ℕ) (e : PoolEntry) → IsPooled es ms → pooled_values es ≡ vs → slice_get es i ≡ Some e → slice_get vs i ≡ Some (entry_value vs e)
entry_told es ms vs i e p view at = subst (λ l. slice_get l i ≡ Some (entry_value l e)) view (value_at_place es i e p.ordered at)

pub kids_told : (es : List PoolEntry) (ms : List Measure) (i : ℕ) (e : PoolEntry) → IsPooled es ms → slice_get es i ≡ Some e → All (λ k. k < i) (kid_numbers e)
kids_told es ms i e p at = all_below i (kid_numbers e) (subst (λ m. AreBelow m (kid_numbers e)) (omega arith) (ordered_at 0 es i e p.ordered at))

-- the measure at a place is that of its value
pub measures_length : (es : List PoolEntry) (ms : List Measure) (vs : List Value) → IsPooled es ms → pooled_values es ≡ vs → length ms ≡ length vs
measures_length es ms vs p view = ap length p.measures ∙ length-map (pooled_values es) measure_of ∙ ap length view

pub entries_length : (es : List PoolEntry) (vs : List Value) → pooled_values es ≡ vs → length es ≡ length vs
entries_length es vs view = sym (length-values_of es) ∙ ap length view

pub measure_told : (es : List PoolEntry) (ms : List Measure) (vs : List Value) (i : ℕ) (d : Measure) → IsPooled es ms → pooled_values es ≡ vs → i < length vs → get_or ms i d ≡ measure_of (value_at vs i)
measure_told es ms vs i d p view l =
    ap (λ k. get_or k i d) (p.measures ∙ ap (map measure_of) view) ∙ map_at measure_of vs i d untyped l ∙ ap measure_of (sym (unwrap_or-slice_get vs i untyped))
