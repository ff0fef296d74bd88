-- Places of texts among the keys of a set.
use Rattle.std.proofs.Common.{◌≡◌, ℕ, ◌+◌, ◌≤◌, ◌||◌, Bool, true, false, not, cond, List, [], ◌∷◌, ◌++◌, length, map, refl, sym, ap, ◌∙◌, arith, Some, None}
use Rattle.std.specs.Prelude.{bytes_eq, nat_lt, position}
use Rattle.std.specs.List.{position_or_len, list_any}
use Rattle.std.proofs.lemmas.Bool.{ltb-false}
use Rattle.sg_patterns.specs.Lexemes.{with_text}

position_or_len-map : {X Y : Type 0} (f : X → Y) (p : Y → Bool) (xs : List X) → position_or_len p (map f xs) ≡ position_or_len (λ x. p (f x)) xs
position_or_len-map f p [] = refl
position_or_len-map f p (x ∷ xs) = ap (λ n. cond (not (p (f x))) (1 + n) 0) (position_or_len-map f p xs)

position_or_len-le : {X : Type 0} (p : X → Bool) (xs : List X) → position_or_len p xs ≤ length xs
position_or_len-le p [] = omega arith
position_or_len-le p (x ∷ xs) = let i = position_or_len-le p xs in elim (p x) as (λ b. cond (not b) (1 + position_or_len p xs) 0 ≤ length (x ∷ xs)) [ true ↦ omega arith | false ↦ omega (arith, i) ]

by_test : (b : Bool) (k n place : ℕ) → Some place ≡ cond b (Some k) None → place ≡ k
by_test true k n place is = cc
by_test false k n place is = cc

none_by_test : (b : Bool) (k : ℕ) → None ≡ cond b (Some k) None → b ≡ false
none_by_test true k is = cc
none_by_test false k is = refl

module _ {X : Type 0} (f : X → List ℕ) (p : List ℕ → Bool) (keys : List X) where
  pub place-some : (place : ℕ) → Some place ≡ position (λ x. p (f x)) keys → place ≡ position_or_len p (map f keys)
  place-some place is = by_test (nat_lt (position_or_len (λ x. p (f x)) keys) (length keys)) (position_or_len (λ x. p (f x)) keys) (length keys) place is ∙ sym (position_or_len-map f p keys)

  pub place-none : None ≡ position (λ x. p (f x)) keys → length keys ≡ position_or_len p (map f keys)
  place-none is =
      let low = ltb-false (position_or_len (λ x. p (f x)) keys) (length keys) (none_by_test (nat_lt (position_or_len (λ x. p (f x)) keys) (length keys)) (position_or_len (λ x. p (f x)) keys) is) in
      omega (arith, low, position_or_len-le (λ x. p (f x)) keys, position_or_len-map f p keys)

any-map : {X : Type 0} (f : X → List ℕ) (p : List ℕ → Bool) (xs : List X) → list_any p (map f xs) ≡ list_any (λ x. p (f x)) xs
any-map f p [] = refl
any-map f p (x ∷ xs) = ap (λ b. p (f x) || b) (any-map f p xs)

map-push : {X : Type 0} (f : X → List ℕ) (xs : List X) (x : X) → map f (xs ++ x ∷ []) ≡ map f xs ++ f x ∷ []
map-push f [] x = refl
map-push f (y ∷ xs) x = ap (λ l. f y ∷ l) (map-push f xs x)

-- a text that is not yet there
pub map-with_text : {X : Type 0} (f : X → List ℕ) (keys : List X) (x : X) → map f (cond (list_any (λ y. bytes_eq (f x) (f y)) keys) keys (keys ++ x ∷ [])) ≡ with_text (map f keys) (f x)
map-with_text f keys x =
    by (list_any (λ y. bytes_eq (f x) (f y)) keys) ∙ ap (λ b. cond b (map f keys) (map f keys ++ f x ∷ [])) (sym (any-map f (bytes_eq (f x)) keys))
  where
    by : (b : Bool) → map f (cond b keys (keys ++ x ∷ [])) ≡ cond b (map f keys) (map f keys ++ f x ∷ [])
    by true = refl
    by false = map-push f keys x

-- one that is there
pub with_text-there : {X : Type 0} (f : X → List ℕ) (keys : List X) (s : List ℕ) (b : Bool) → b ≡ list_any (λ x. bytes_eq s (f x)) keys → b ≡ true → map f keys ≡ with_text (map f keys) s
with_text-there f keys s b is there = sym (ap (λ c. cond c (map f keys) (map f keys ++ s ∷ [])) (any-map f (bytes_eq s) keys ∙ sym is ∙ there))
