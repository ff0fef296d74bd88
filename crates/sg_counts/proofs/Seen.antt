-- Counts of keys, where they are equal by an order, and of keys that are seen another way.
use Rattle.std.proofs.Common.{◌≡◌, ℕ, suc, ◌+◌, ◌<◌, Bool, true, false, cond, ◌||◌, List, [], ◌∷◌, ◌++◌, length, map, take, get_or, Option, Some, None, option_map, unwrap_or, nat_le, refl, sym, ap, ◌∙◌, arith}
use Rattle.std.specs.Cmp.{IsTotalOrder}
use Rattle.std.specs.List.{count_by, sum_by, list_any}
use Rattle.std.specs.BTreeMap.{is_at}
use Rattle.std.specs.declared.cmp.Ordering.{Ordering}
use Rattle.std.specs.declared.cmp.Ordering.TheVariants.{Less, Equal, Greater}
use Rattle.std.proofs.lemmas.Cmp.{alike_right}
use Rattle.std.proofs.lemmas.List.{map_push}
use Rattle.std.proofs.lemmas.List.Sums.{sum_by-cons, sum_by_more}
use Rattle.sg_ast.specs.FirstFault.{repeat_from}
use Rattle.sg_counts.specs.Crowds.{different, different_behind, crowd, crowded_behind}

alike_sums : {X : Type 0} (f g : X → ℕ) (xs : List X) → ((x : X) → f x ≡ g x) → sum_by f xs ≡ sum_by g xs
alike_sums f g [] h = refl
alike_sums f g (x ∷ xs) h = sum_by-cons f x xs ∙ ap (λ n. n + sum_by f xs) (h x) ∙ ap (λ n. g x + n) (alike_sums f g xs h) ∙ sym (sum_by-cons g x xs)

-- equal keys have equal counts
same_count : {K : Type 0} {R : K → K → Ordering} → IsTotalOrder R → (xs : List K) (x q : K) → R x q ≡ Equal → count_by (λ b. is_at (R b) x) xs ≡ count_by (λ b. is_at (R b) q) xs
same_count {K} {R} order xs x q e = alike_sums (λ (b : K). cond (is_at (R b) x) 1 0) (λ (b : K). cond (is_at (R b) q) 1 0) xs (λ b. ap (λ (o : Ordering). cond (is_at (λ (k : K). o) x) 1 0) (alike_right order x q b e))

-- the count of each key after one more key
pub more_counts : {K : Type 0} {R : K → K → Ordering} → IsTotalOrder R → (xs : List K) (i : ℕ) (x q : K) (n : ℕ) (old new : Option ℕ) → i < length xs → x ≡ get_or xs i x
    → n ≡ count_by (λ b. is_at (R b) x) (take i xs) → unwrap_or old 0 ≡ count_by (λ b. is_at (R b) q) (take i xs) → new ≡ cond (is_at (R x) q) (Some (n + 1)) old
    → unwrap_or new 0 ≡ count_by (λ b. is_at (R b) q) (take (i + 1) xs)
more_counts {K} {R} order xs i x q n old new low here at_x at_q is =
    ap (λ (o : Option ℕ). unwrap_or o 0) is ∙ by (R x q) refl ∙ sym (sum_by_more (λ (b : K). cond (is_at (R b) q) 1 0) xs i x low ∙ ap (λ (y : K). count_by (λ b. is_at (R b) q) (take i xs) + cond (is_at (R y) q) 1 0) (sym here))
  where
    by : (o : Ordering) → R x q ≡ o → unwrap_or (cond (is_at (λ (k : K). o) q) (Some (n + 1)) old) 0 ≡ count_by (λ b. is_at (R b) q) (take i xs) + cond (is_at (λ (k : K). o) q) 1 0
    by Less e = let h : unwrap_or old 0 ≡ count_by (λ b. is_at (R b) q) (take i xs) = at_q in omega (arith, h)
    by Equal e = let h : n ≡ count_by (λ b. is_at (R b) q) (take i xs) = at_x ∙ same_count order (take i xs) x q e in omega (arith, h)
    by Greater e = let h : unwrap_or old 0 ≡ count_by (λ b. is_at (R b) q) (take i xs) = at_q in omega (arith, h)

with_or_without : {X : Type 0} (b : Bool) (x : X) (rest : List X) {n : ℕ} → length rest ≡ n → length (cond b rest (x ∷ rest)) ≡ cond b n (suc n)
with_or_without true x rest e = e
with_or_without false x rest e = ap suc e

-- keys that are equal where what is seen of them is
module _ {K X : Type 0} (same : K → K → Bool) (equal : X → X → Bool) (view : K → X) (agree : (a b : K) → same a b ≡ equal (view a) (view b)) where
  any_seen : (x : K) (xs : List K) → list_any (λ y. same y x) xs ≡ list_any (λ y. equal y (view x)) (map view xs)
  any_seen x [] = refl
  any_seen x (y ∷ xs) = ap (λ b. b || list_any (λ y. same y x) xs) (agree y x) ∙ ap (λ b. equal (view y) (view x) || b) (any_seen x xs)

  count_seen : (x : K) (xs : List K) → count_by (λ y. same y x) xs ≡ count_by (λ y. equal y (view x)) (map view xs)
  count_seen x [] = refl
  count_seen x (y ∷ xs) =
      sum_by-cons (λ y. cond (same y x) 1 0) y xs ∙ ap (λ b. cond b 1 0 + count_by (λ y. same y x) xs) (agree y x)
      ∙ ap (λ n. cond (equal (view y) (view x)) 1 0 + n) (count_seen x xs) ∙ sym (sum_by-cons (λ y. cond (equal y (view x)) 1 0) (view y) (map view xs))

  different_behind_seen : (before xs : List K) → length (different_behind same before xs) ≡ length (different_behind equal (map view before) (map view xs))
  different_behind_seen before [] = refl
  different_behind_seen before (x ∷ xs) =
      let n = length (different_behind equal (map view before ++ view x ∷ []) (map view xs)) in
      let rest : length (different_behind same (before ++ x ∷ []) xs) ≡ n = different_behind_seen (before ++ x ∷ []) xs ∙ ap (λ (l : List X). length (different_behind equal l (map view xs))) (map_push view before x) in
      with_or_without (list_any (λ y. same y x) before) x (different_behind same (before ++ x ∷ []) xs) rest
      ∙ ap (λ b. cond b n (suc n)) (any_seen x before)
      ∙ sym (with_or_without (list_any (λ y. equal y (view x)) (map view before)) (view x) (different_behind equal (map view before ++ view x ∷ []) (map view xs)) refl)

  pub different_seen : (xs : List K) → length (different same xs) ≡ length (different equal (map view xs))
  different_seen xs = different_behind_seen [] xs

  crowded_behind_seen : (limit : ℕ) (before xs : List K) → option_map view (crowded_behind same limit before xs) ≡ crowded_behind equal limit (map view before) (map view xs)
  crowded_behind_seen limit before [] = refl
  crowded_behind_seen limit before (x ∷ xs) =
      found_or_not (nat_le limit (count_by (λ y. same y x) before)) x (crowded_behind same limit (before ++ x ∷ []) xs)
      (crowded_behind_seen limit (before ++ x ∷ []) xs ∙ ap (λ (l : List X). crowded_behind equal limit l (map view xs)) (map_push view before x))
      ∙ ap (λ n. cond (nat_le limit n) (Some (view x)) (crowded_behind equal limit (map view before ++ view x ∷ []) (map view xs))) (count_seen x before)
    where
      found_or_not : (b : Bool) (x : K) (rest : Option K) {other : Option X} → option_map view rest ≡ other → option_map view (cond b (Some x) rest) ≡ cond b (Some (view x)) other
      found_or_not true x rest e = refl
      found_or_not false x rest e = e

  pub crowd_seen : (limit : ℕ) (xs : List K) → crowd same limit xs ≡ crowd equal limit (map view xs)
  crowd_seen limit xs = by (crowded_behind same limit [] xs) ∙ ap (option_map (λ x. count_by (λ y. equal y x) (map view xs))) (crowded_behind_seen limit [] xs)
    where
      by : (o : Option K) → option_map (λ x. count_by (λ y. same y x) xs) o ≡ option_map (λ x. count_by (λ y. equal y x) (map view xs)) (option_map view o)
      by None = refl
      by (Some x) = ap Some (count_seen x xs)

  pub repeat_seen : (before : List K) (place : ℕ) (xs : List K) → repeat_from same before place xs ≡ repeat_from equal (map view before) place (map view xs)
  repeat_seen before place [] = refl
  repeat_seen before place (x ∷ xs) =
      ap (λ b. cond b (Some place) (repeat_from same (before ++ x ∷ []) (suc place) xs)) (any_seen x before)
      ∙ ap (λ o. cond (list_any (λ y. equal y (view x)) (map view before)) (Some place) o)
      (repeat_seen (before ++ x ∷ []) (suc place) xs ∙ ap (λ (l : List X). repeat_from equal l (suc place) (map view xs)) (map_push view before x))
