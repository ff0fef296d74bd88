-- Names that are equal by their order are equal byte by byte.
use Rattle.std.proofs.Common.{◌≡◌, ℕ, Bool, true, false, cond, ◌&&◌, List, length, nat_eq, nat_lt, bytes_eq, Result, Ok, Err, IfOk, refl, ap, ◌∙◌, arith}
use Rattle.std.specs.Borrow.{Bor}
use Rattle.std.specs.BTreeMap.{is_at}
use Rattle.std.specs.Cmp.Lexicographic.{slice_cmp}
use Rattle.std.specs.Ordering.{nat_cmp, is_eq, ordering_then}
use Rattle.std.specs.declared.cmp.Ordering.{Ordering}
use Rattle.std.specs.declared.cmp.Ordering.TheVariants.{Less, Equal, Greater}
use Rattle.std.proofs.lemmas.Bool.Decides.{nat_tests}
use Rattle.std.proofs.lemmas.Map.Text.{is_eq-slice_cmp}
use Rattle.sg_counts.specs.Crowds.{different, crowd}
use Rattle.sg_counts.specs.Limits.{is_same_operator}
use Rattle.sg_counts.specs.OwnersView.{names_of, operators_of}
use Rattle.sg_counts.proofs.Seen.{different_seen, crowd_seen}

pub both_equal : (o p : Ordering) → is_eq (ordering_then o p) ≡ (is_eq o && is_eq p)
both_equal Less p = refl
both_equal Equal p = refl
both_equal Greater p = refl

pub same_number : (m n : ℕ) → is_eq (nat_cmp m n) ≡ nat_eq m n
same_number m n = by (nat_lt m n) (nat_eq m n) refl refl
  where
    by : (l e : Bool) → nat_lt m n ≡ l → nat_eq m n ≡ e → is_eq (cond l Less (cond e Equal Greater)) ≡ e
    by true true h k = grind (arith, nat_tests)
    by true false h k = refl
    by false true h k = refl
    by false false h k = refl

-- an answer that is one value is one that equals it
pub told : {A E : Type 0} {x y : A} (r : Result A E) → IfOk r (λ n. n ≡ x) → x ≡ y → IfOk r (λ n. n ≡ y)
told (Ok n) h e = h ∙ e
told (Err e) h is = h

-- the orders of names and of pairs of names
abbrev pub name_order : Bor (List ℕ) → Bor (List ℕ) → Ordering
name_order a b = slice_cmp nat_cmp a.now b.now

abbrev pair_order : Bor (List ℕ) × Bor (List ℕ) → Bor (List ℕ) × Bor (List ℕ) → Ordering
pair_order a b = ordering_then (name_order a.0 b.0) (name_order a.1 b.1)

same_pairs : (a b : Bor (List ℕ) × Bor (List ℕ)) → is_at (pair_order a) b ≡ is_same_operator (a.0.now, a.1.now) (b.0.now, b.1.now)
same_pairs a b = both_equal (name_order a.0 b.0) (name_order a.1 b.1) ∙ ap (λ t. t && is_eq (name_order a.1 b.1)) (is_eq-slice_cmp a.0.now b.0.now) ∙ ap (λ t. bytes_eq a.0.now b.0.now && t) (is_eq-slice_cmp a.1.now b.1.now)

pub different_names : (xs : List (Bor (List ℕ))) → length (different (λ a b. is_at (λ y. slice_cmp nat_cmp a.now y.now) b) xs) ≡ length (different bytes_eq (names_of xs))
different_names xs = different_seen (λ a b. is_at (name_order a) b) bytes_eq (λ (n : Bor (List ℕ)). n.now) (λ a b. is_eq-slice_cmp a.now b.now) xs

pub crowd_names : (limit : ℕ) (xs : List (Bor (List ℕ))) → crowd (λ a b. is_at (λ y. slice_cmp nat_cmp a.now y.now) b) limit xs ≡ crowd bytes_eq limit (names_of xs)
crowd_names limit xs = crowd_seen (λ a b. is_at (name_order a) b) bytes_eq (λ (n : Bor (List ℕ)). n.now) (λ a b. is_eq-slice_cmp a.now b.now) limit xs

pub crowd_operators : (limit : ℕ) (xs : List (Bor (List ℕ) × Bor (List ℕ))) → crowd (λ a b. is_at (pair_order a) b) limit xs ≡ crowd is_same_operator limit (operators_of xs)
crowd_operators limit xs = crowd_seen (λ a b. is_at (pair_order a) b) is_same_operator (λ (n : Bor (List ℕ) × Bor (List ℕ)). (n.0.now, n.1.now)) same_pairs limit xs
