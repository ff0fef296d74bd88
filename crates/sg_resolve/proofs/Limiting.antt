-- What it says that no count is over its limit.
use Rattle.std.proofs.Common.{◌≡◌, ℕ, ◌+◌, ◌<◌, ◌≤◌, Bool, true, false, cond, List, [], ◌∷◌, ◌++◌, length, Option, Some, None, option_map, bytes_eq, nat_le, nat_lt, refl, ap, ◌∙◌, append_assoc, append-nil, arith}
use Rattle.std.specs.List.{All, AllByRecursion, count_by, flat_map}
use Rattle.std.proofs.lemmas.Bool.Decides.{nat_tests}
use Rattle.std.proofs.lemmas.List.Elements.{All-from_recursion}
use Rattle.std.proofs.lemmas.Bool.{and_parts}
use Rattle.sg_kinds.specs.Values.{Bytes}
use Rattle.sg_kinds.proofs.Elementary.{bytes_is}
use Rattle.sg_ast.specs.Declarations.{Decl}
use Rattle.sg_ast.specs.FirstFault.{first, over}
use Rattle.sg_ast.proofs.FirstLaws.{first-none}
use Rattle.sg_counts.specs.Crowds.{different, crowd, crowded_behind}
use Rattle.sg_counts.specs.Limits.{is_same_operator, limit_fault, counts_over, limit, phyla_of, arities_of, attributes_of, locals_of, parameters_of, schemes_of, symbols_of, views_in, is_transform}
use Rattle.sg_resolve.specs.Limited.{IsLimited}
use Rattle.sg_resolve.proofs.Counting.{one_if, passes, fails, count-cons, count-append}

pub nothing_mapped : {A B : Type 0} (f : A → B) (o : Option A) → option_map f o ≡ None → o ≡ None
nothing_mapped f None e = refl
nothing_mapped f (Some x) e = absurd (cc e)

at_most : (limit n : ℕ) → nat_lt limit n ≡ false → n ≤ limit
at_most limit n e = grind (arith, nat_tests)

below_it : (limit n : ℕ) → nat_le limit n ≡ false → n < limit
below_it limit n e = grind (arith, nat_tests)

not_over : (limit n : ℕ) → over limit n ≡ None → n ≤ limit
not_over limit n e = by (nat_lt limit n) refl e
  where
    by : (b : Bool) → nat_lt limit n ≡ b → cond b (Some n) None ≡ None → n ≤ limit
    by true is none = absurd (cc none)
    by false is none = at_most limit n is

none_over : (limit : ℕ) (ns : List ℕ) → AllByRecursion (λ n. over limit n ≡ None) ns → AllByRecursion (λ n. n ≤ limit) ns
none_over limit [] all = tt
none_over limit (n ∷ ns) all = (not_over limit n all.0, none_over limit ns all.1)

pub all_within : (limit : ℕ) (ns : List ℕ) → first (over limit) ns ≡ None → All (λ n. n ≤ limit) ns
all_within limit ns e = All-from_recursion (λ n. n ≤ limit) ns (none_over limit ns (first-none (over limit) ns e))

-- where no element comes too often, each comes so often at most
module _ {X : Type 0} (same : X → X → Bool) (exact : (x y : X) → same x y ≡ true → x ≡ y) (limit : ℕ) where
  one_more : (before : List X) (x q : X) → count_by (λ y. same y x) before < limit → count_by (λ y. same y q) before ≤ limit → count_by (λ y. same y q) (before ++ x ∷ []) ≤ limit
  one_more before x q few so_far = by (same x q) refl
    where
      split : count_by (λ y. same y q) (before ++ x ∷ []) ≡ count_by (λ y. same y q) before + (one_if (same x q) + 0)
      split = count-append (λ y. same y q) before (x ∷ []) ∙ ap (λ n. count_by (λ y. same y q) before + n) (count-cons (λ y. same y q) x [])

      by : (b : Bool) → same x q ≡ b → count_by (λ y. same y q) (before ++ x ∷ []) ≤ limit
      by true is =
          let alike : count_by (λ y. same y x) before ≡ count_by (λ y. same y q) before = ap (λ z. count_by (λ y. same y z) before) (exact x q is) in
          let one : one_if (same x q) ≡ 1 = passes (same x q) is in
          omega (arith, few, alike, one, split)
      by false is =
          let none : one_if (same x q) ≡ 0 = fails (same x q) is in
          omega (arith, so_far, none, split)

  few_behind : (before xs : List X) → ((q : X) → count_by (λ y. same y q) before ≤ limit) → crowded_behind same limit before xs ≡ None → (q : X) → count_by (λ y. same y q) (before ++ xs) ≤ limit
  few_behind before [] so_far e q = rw (append-nil before) (so_far q)
  few_behind before (x ∷ xs) so_far e q = by (nat_le limit (count_by (λ y. same y x) before)) refl e (λ low none. few_behind (before ++ x ∷ []) xs low none q)
    where
      by : (b : Bool) → nat_le limit (count_by (λ y. same y x) before) ≡ b → cond b (Some x) (crowded_behind same limit (before ++ x ∷ []) xs) ≡ None
          → (((r : X) → count_by (λ y. same y r) (before ++ x ∷ []) ≤ limit) → crowded_behind same limit (before ++ x ∷ []) xs ≡ None → count_by (λ y. same y q) ((before ++ x ∷ []) ++ xs) ≤ limit)
          → count_by (λ y. same y q) (before ++ x ∷ xs) ≤ limit
      by true is none rest = absurd (cc none)
      by false is none rest =
          let few : count_by (λ y. same y x) before < limit = below_it limit (count_by (λ y. same y x) before) is in
          let all : count_by (λ y. same y q) ((before ++ x ∷ []) ++ xs) ≤ limit = rest (λ r. one_more before x r few (so_far r)) none in
          rw (append_assoc before (x ∷ []) xs) at all

  pub few : (xs : List X) → crowd same limit xs ≡ None → (q : X) → count_by (λ y. same y q) xs ≤ limit
  few xs e q = few_behind [] xs (λ r. omega arith) (nothing_mapped (λ x. count_by (λ y. same y x) xs) (crowded_behind same limit [] xs) e) q

same_operators : (a b : Bytes × Bytes) → is_same_operator a b ≡ true → a ≡ b
same_operators a b e =
    let both = and_parts (bytes_eq a.0 b.0) (bytes_eq a.1 b.1) e in
    let p : a.0 ≡ b.0 = bytes_is a.0 b.0 both.0 in
    let q : a.1 ≡ b.1 = bytes_is a.1 b.1 both.1 in
    λ i. (p i, q i)

-- each count, where none is over its limit
pub within_limits : (ds : List Decl) → limit ds ≡ None → IsLimited ds
within_limits ds e =
    let rows = first-none limit_fault (counts_over ds) e in
    record {
      phyla = not_over 512 (length (different bytes_eq (flat_map phyla_of ds))) (nothing_mapped _ _ rows.0);
      ops = not_over 2048 (length (flat_map arities_of ds)) (nothing_mapped _ _ rows.1.0);
      args = all_within 16 (flat_map arities_of ds) (nothing_mapped _ _ rows.1.1.0);
      attrs = few bytes_eq bytes_is 32 (flat_map attributes_of ds) (nothing_mapped _ _ rows.1.1.1.0);
      locals = few is_same_operator same_operators 32 (flat_map locals_of ds) (nothing_mapped _ _ rows.1.1.1.1.0);
      functions = not_over 1024 (length (flat_map parameters_of ds)) (nothing_mapped _ _ rows.1.1.1.1.1.0);
      params = all_within 16 (flat_map parameters_of ds) (nothing_mapped _ _ rows.1.1.1.1.1.1.0);
      transforms = not_over 1024 (count_by is_transform ds) (nothing_mapped _ _ rows.1.1.1.1.1.1.1.0);
      schemes = all_within 16 (flat_map schemes_of ds) (nothing_mapped _ _ rows.1.1.1.1.1.1.1.1.0);
      productions = not_over 1024 (length (flat_map symbols_of ds)) (nothing_mapped _ _ rows.1.1.1.1.1.1.1.1.1.0);
      symbols = all_within 16 (flat_map symbols_of ds) (nothing_mapped _ _ rows.1.1.1.1.1.1.1.1.1.1.0);
      views = not_over 16 (length (different bytes_eq (flat_map views_in ds))) (nothing_mapped _ _ rows.1.1.1.1.1.1.1.1.1.1.1.0);
    }
