-- What is found by the numbers of a name's transformations.
use Rattle.std.specs.Prelude.{◌≡◌, refl, ℕ, zero, suc, ◌+◌, ◌<◌, ◌≤◌, Bool, true, false, cond, nat_eq, bytes_eq, List, [], ◌∷◌, length, Option, Some, None, slice_get, is_some, drop}
use Rattle.std.specs.List.{find, position_from}
use Rattle.std.specs.Option.{option_map_or}
use Rattle.std.proofs.Common.{sym, ap, ◌∙◌, arith, get_or}
use Rattle.std.proofs.lemmas.Option.{none-some, same_Some}
use Rattle.sg_kinds.specs.Values.{Bytes, Value}
use Rattle.sg_kinds.specs.Evaluation.{bound_by}
use Rattle.sg_kinds.specs.declared.spec.Spec.{Spec}
use Rattle.sg_kinds.specs.declared.spec.Transform.{Transform}
use Rattle.sg_kinds.proofs.Kids.{drop_more}
use Rattle.sg_kinds.proofs.Completed.{drop_all}
use Rattle.sg_kinds.specs.Fits.{Fits}
use Rattle.sg_kinds.specs.Terms.{Term}
use Rattle.sg_kinds.specs.ValueOf.{value_of}
use Rattle.sg_forest.specs.declared.node_id.NodeId.{NodeId}
use Rattle.sg_groves.specs.Grove.{Grove, IsGrove}
use Rattle.sg_groves.specs.Holds.{Holds}
use Rattle.sg_matching.specs.Under.{value_under}
use Rattle.sg_matching.specs.Transformation.{applies, numbered, numbers_of, suits, suits_at}
use Rattle.sg_matching.proofs.NodeValues.{one_phylum, value_told}

-- each number is one of a transformation
pub numbered_low : (name : Bytes) (xs : List Transform) (i j k : ℕ) → slice_get (numbered name i xs) j ≡ Some k → k < i + length xs
numbered_low name [] i j k at = absurd (none-some k at)
numbered_low name (x ∷ xs) i j k at = by (bytes_eq x.name name) j (λ l there. numbered_low name xs (i + 1) l k there) at
  where
    by : (b : Bool) (l : ℕ) → ((m : ℕ) → slice_get (numbered name (i + 1) xs) m ≡ Some k → k < i + 1 + length xs) → slice_get (cond b (i ∷ numbered name (i + 1) xs) (numbered name (i + 1) xs)) l ≡ Some k → k < i + suc (length xs)
    by true zero later at = let same = same_Some i k at in omega (arith, same)
    by true (suc l) later at = let low = later l at in omega (arith, low)
    by false l later at = let low = later l at in omega (arith, low)

module _ (spec : Spec) (p : ℕ) (v : Value) where
  from_number : (name : Bytes) (xs : List Transform) (i : ℕ) → ((k : ℕ) → slice_get xs k ≡ slice_get spec.transforms (i + k)) → find (suits_at spec p v) (numbered name i xs) ≡ position_from (applies spec p name v) i xs
  from_number name [] i are = refl
  from_number name (x ∷ xs) i are =
      by (nat_eq x.phylum p) refl (bytes_eq x.name name) refl (is_some (bound_by spec x.pattern v)) refl
      (from_number name xs (i + 1) (λ k. are (suc k) ∙ ap (slice_get spec.transforms) (omega arith)))
    where
      here : suits_at spec p v i ≡ suits spec p v x
      here = ap (λ o. option_map_or (suits spec p v) o false) (sym (are 0 ∙ ap (slice_get spec.transforms) (omega arith)))

      by : (n : Bool) → nat_eq x.phylum p ≡ n → (b : Bool) → bytes_eq x.name name ≡ b → (s : Bool) → is_some (bound_by spec x.pattern v) ≡ s
          → find (suits_at spec p v) (numbered name (i + 1) xs) ≡ position_from (applies spec p name v) (i + 1) xs → find (suits_at spec p v) (numbered name i (x ∷ xs)) ≡ position_from (applies spec p name v) i (x ∷ xs)
      by true n true b true s rest = simp (b, here, n, s) refl
      by true n true b false s rest = simp (b, here, n, s) rest
      by false n true b s t rest = simp (b, here, n) rest
      by true n false b s t rest = simp (n, b) rest
      by false n false b s t rest = simp (n, b) rest

  -- the first of them is the first of the name that applies
  pub first_by_number : (name : Bytes) → find (suits_at spec p v) (numbers_of spec name) ≡ position_from (applies spec p name v) 0 spec.transforms
  first_by_number name = from_number name spec.transforms 0 (λ k. ap (slice_get spec.transforms) (omega arith))

-- the numbers from the first on
module _ (test : ℕ → Bool) (ks : List ℕ) (i k : ℕ) (left : find test ks ≡ find test (drop i ks)) (low : i < length ks) (is : k ≡ get_or ks i k) where
  next_is : (b : Bool) → test k ≡ b → find test ks ≡ cond b (Some k) (find test (drop (i + 1) ks))
  next_is b told = left ∙ ap (find test) (drop_more ks i k low is) ∙ ap (λ c. cond c (Some k) (find test (drop (i + 1) ks))) told

  pub find_here : test k ≡ true → find test ks ≡ Some k
  find_here passes = next_is true passes

  pub find_on : test k ≡ false → find test ks ≡ find test (drop (i + 1) ks)
  find_on fails = next_is false fails

pub find_past : (test : ℕ → Bool) (ks : List ℕ) (i : ℕ) → find test ks ≡ find test (drop i ks) → length ks ≤ i → find test ks ≡ None
find_past test ks i left past = left ∙ ap (find test) (drop_all ks i past)

-- what is found by the numbers is the first that applies to the term under the node
pub first_told : (g : Grove) → IsGrove g → (at : NodeId) (q : ℕ) (ks : List ℕ) (r : Option ℕ) → find (suits_at g.spec q (value_under g at)) ks ≡ r → ((t : Term) → Holds g at t → Fits g.spec t q)
    → (name : Bytes) (p : ℕ) (t : Term) → ks ≡ numbers_of g.spec name → Holds g at t → Fits g.spec t p → r ≡ position_from (applies g.spec p name (value_of t)) 0 g.spec.transforms
first_told g is at q ks r found typed name p t named holds fits =
    sym found ∙ ap (find (suits_at g.spec q (value_under g at))) named ∙ first_by_number g.spec q (value_under g at) name
    ∙ ap (λ y. position_from (applies g.spec y name (value_under g at)) 0 g.spec.transforms) (one_phylum g.spec t q p (typed t holds) fits)
    ∙ ap (λ v. position_from (applies g.spec p name v) 0 g.spec.transforms) (value_told g is at t holds)
