-- Lemmas on lists of items in their order.
use Rattle.std.proofs.Common.{◌≡◌, ℕ, zero, suc, ◌⊎◌, inl, inr, Bool, true, false, cond, List, [], ◌∷◌, ◌++◌, get_or, drop, map, refl, sym, ap, ◌∙◌, subst, arith, Option, Some, None}
use Rattle.std.specs.Prelude.{◌↔◌, Contains, AllPairs, All, filter}
use Rattle.std.proofs.lemmas.Bool.{eqb-true, eq-eqb}
use Rattle.std.proofs.lemmas.List.Elements.{Contains-get_or}
use Rattle.sg_grammar.specs.Grammar.{Grammar}
use Rattle.sg_lalr.specs.Items.{Item, Before, IsRising, symbol_of, is_before, moved, advance}

pub Contains-front : {X : Type 0} (x : X) (xs : List X) → Contains (x ∷ xs) x
Contains-front x xs = (0, omega arith, refl)

pub Contains-behind : {X : Type 0} (y : X) (xs : List X) (x : X) → Contains xs x → Contains (y ∷ xs) x
Contains-behind y xs x (k, l, e) = (suc k, omega (arith, l), e)

pub Contains-cons : {X : Type 0} (y : X) (xs : List X) (x : X) → Contains (y ∷ xs) x → (y ≡ x) ⊎ Contains xs x
Contains-cons y xs x (zero, l, e) = inl e
Contains-cons y xs x (suc k, l, e) = inr (k, omega (arith, l), e)

pub Contains-nil : {X : Type 0} (x : X) → Contains [] x → ⊥
Contains-nil x (k, l, e) = omega (arith, l)

pub All-contained : {X : Type 0} (P : X → Type 0) (xs : List X) → ((x : X) → Contains xs x → P x) → All P xs
All-contained P xs h k d l = h (get_or xs k d) (Contains-get_or xs k d l)

pub pairs-cons : {X : Type 0} (R : X → X → Type 0) (x : X) (xs : List X) → ((y : X) → Contains xs y → R x y) → AllPairs R xs → AllPairs R (x ∷ xs)
pairs-cons R x xs h t zero zero d l k = absurd (omega (arith, l))
pairs-cons R x xs h t zero (suc j) d l k = h (get_or xs j d) (Contains-get_or xs j d (omega (arith, k)))
pairs-cons R x xs h t (suc i) zero d l k = absurd (omega (arith, l))
pairs-cons R x xs h t (suc i) (suc j) d l k = t i j d (omega (arith, l)) (omega (arith, k))

pub pairs-head : {X : Type 0} (R : X → X → Type 0) (x : X) (xs : List X) → AllPairs R (x ∷ xs) → (y : X) → Contains xs y → R x y
pairs-head R x xs h y (k, l, e) = subst (R x) e (h 0 (suc k) y (omega arith) (omega (arith, l)))

pub pairs-tail : {X : Type 0} (R : X → X → Type 0) (x : X) (xs : List X) → AllPairs R (x ∷ xs) → AllPairs R xs
pairs-tail R x xs h i j d l k = h (suc i) (suc j) d (omega (arith, l)) (omega (arith, k))

pub pairs-nil : {X : Type 0} (R : X → X → Type 0) → AllPairs R []
pairs-nil R i j d l k = absurd (omega (arith, k))

Contains-split : {X : Type 0} (ys zs : List X) (y : X) → Contains (zs ++ ys) y → Contains zs y ⊎ Contains ys y
Contains-split ys [] y c = inr c
Contains-split ys (z ∷ zs) y c = elim (Contains-cons z (zs ++ ys) y c) [
  | inl e ↦ inl (0, omega arith, e)
  | inr r ↦ elim (Contains-split ys zs y r) [ inl a ↦ inl (Contains-behind z zs y a) | inr b ↦ inr b ]
]

pub pairs-append : {X : Type 0} (R : X → X → Type 0) (xs ys : List X) → AllPairs R xs → AllPairs R ys → ((x y : X) → Contains xs x → Contains ys y → R x y) → AllPairs R (xs ++ ys)
pairs-append R [] ys p q h = q
pairs-append R (x ∷ xs) ys p q h =
    pairs-cons R x (xs ++ ys) (λ y c. elim (Contains-split ys xs y c) [ inl a ↦ pairs-head R x xs p y a | inr b ↦ h x y (Contains-front x xs) b ])
    (pairs-append R xs ys (pairs-tail R x xs p) q (λ a b c d. h a b (Contains-behind x xs a c) d))

pub pairs-drop : {X : Type 0} (R : X → X → Type 0) (n : ℕ) (xs : List X) → AllPairs R xs → AllPairs R (drop n xs)
pairs-drop R zero xs h = h
pairs-drop R (suc n) [] h = h
pairs-drop R (suc n) (x ∷ xs) h = pairs-drop R n xs (pairs-tail R x xs h)

pub Before-irreflexive : (i j : Item) → Before i j → Before j i → ⊥
Before-irreflexive i j (inl a) (inl b) = omega (arith, a, b)
Before-irreflexive i j (inl a) (inr b) = let e = b.0 in omega (arith, a, e)
Before-irreflexive i j (inr a) (inl b) = let e = a.0 in omega (arith, b, e)
Before-irreflexive i j (inr a) (inr b) = let l = a.1 in let k = b.1 in omega (arith, l, k)

pub Before-itself : (i : Item) → Before i i → ⊥
Before-itself i h = Before-irreflexive i i h h

-- lists in their order with the same items are equal
pub rising-same : (xs ys : List Item) → IsRising xs → IsRising ys → ((i : Item) → Contains xs i ↔ Contains ys i) → xs ≡ ys
rising-same [] [] p q h = refl
rising-same [] (y ∷ ys) p q h = absurd (Contains-nil y ((h y).1 (Contains-front y ys)))
rising-same (x ∷ xs) [] p q h = absurd (Contains-nil x ((h x).0 (Contains-front x xs)))
rising-same (x ∷ xs) (y ∷ ys) p q h =
    let heads : x ≡ y = elim (Contains-cons y ys x ((h x).0 (Contains-front x xs))) [
      | inl e ↦ sym e
      | inr later ↦ elim (Contains-cons x xs y ((h y).1 (Contains-front y ys))) [
        | inl e ↦ e
        | inr later' ↦ absurd (Before-irreflexive y x (pairs-head Before y ys q x later) (pairs-head Before x xs p y later'))
      ]
    ] in
    let tails : xs ≡ ys = rising-same xs ys (pairs-tail Before x xs p) (pairs-tail Before y ys q) (λ i. (
      λ c. elim (Contains-cons y ys i ((h i).0 (Contains-behind x xs i c))) [ inl e ↦ absurd (Before-itself x (subst (Before x) (sym e ∙ sym heads) (pairs-head Before x xs p i c))) | inr r ↦ r ],
      λ c. elim (Contains-cons x xs i ((h i).1 (Contains-behind y ys i c))) [ inl e ↦ absurd (Before-itself y (subst (Before y) (sym e ∙ heads) (pairs-head Before y ys q i c))) | inr r ↦ r ],
    )) in
    ap (λ z. z ∷ xs) heads ∙ ap (λ l. y ∷ l) tails

-- which items are before a symbol
pub before-true : (X : ℕ) (o : Option ℕ) → is_before X o ≡ true → o ≡ Some X
before-true X None h = cc
before-true X (Some Y) h = ap Some (sym (eqb-true X Y h))

pub before-some : (X : ℕ) (o : Option ℕ) → o ≡ Some X → is_before X o ≡ true
before-some X o h = ap (is_before X) h ∙ eq-eqb X X refl

abbrev Moved : Grammar → ℕ → List Item → Item → Type 0
Moved g X items j = (i : Item) × Contains items i × (symbol_of g i ≡ Some X) × (j ≡ moved i)

-- the list that `advance` gives, by its first item's test
abbrev onto : Bool → Item → List Item → List Item
onto b x rest = map moved (cond b (x ∷ rest) rest)

moved-later : (g : Grammar) (X : ℕ) (x : Item) (xs : List Item) (j : Item) → Moved g X xs j → Moved g X (x ∷ xs) j
moved-later g X x xs j r = (r.0, Contains-behind x xs r.0 r.1, r.2, r.3)

advance-from-step : (g : Grammar) (X : ℕ) (x : Item) (xs rest : List Item) (j : Item) → (Contains (map moved rest) j → Moved g X xs j) → (b : Bool) → is_before X (symbol_of g x) ≡ b → Contains (onto b x rest) j → Moved g X (x ∷ xs) j
advance-from-step g X x xs rest j rec true e c = elim (Contains-cons (moved x) (map moved rest) j c) [
  | inl same ↦ (x, Contains-front x xs, before-true X (symbol_of g x) e, sym same)
  | inr r ↦ moved-later g X x xs j (rec r)
]
advance-from-step g X x xs rest j rec false e c = moved-later g X x xs j (rec c)

pub advance-from : (g : Grammar) (X : ℕ) (items : List Item) (j : Item) → Contains (advance g X items) j → (i : Item) × Contains items i × (symbol_of g i ≡ Some X) × (j ≡ moved i)
advance-from g X [] j c = absurd (Contains-nil j c)
advance-from g X (x ∷ xs) j c =
    advance-from-step g X x xs (filter (λ i. is_before X (symbol_of g i)) xs) j (advance-from g X xs j) (is_before X (symbol_of g x)) refl c

advance-has-step : (g : Grammar) (X : ℕ) (x : Item) (xs rest : List Item) (i : Item) → symbol_of g i ≡ Some X → (Contains xs i → Contains (map moved rest) (moved i)) → (b : Bool) → is_before X (symbol_of g x) ≡ b → (x ≡ i) ⊎ Contains xs i → Contains (onto b x rest) (moved i)
advance-has-step g X x xs rest i s rec true e (inl same) = subst (λ y. Contains (moved x ∷ map moved rest) (moved y)) same (Contains-front (moved x) (map moved rest))
advance-has-step g X x xs rest i s rec true e (inr r) = Contains-behind (moved x) (map moved rest) (moved i) (rec r)
advance-has-step g X x xs rest i s rec false e (inl same) = absurd (let t : true ≡ false = sym (before-some X (symbol_of g i) s) ∙ (ap (λ y. is_before X (symbol_of g y)) (sym same) ∙ e) in cc)
advance-has-step g X x xs rest i s rec false e (inr r) = rec r

pub advance-has : (g : Grammar) (X : ℕ) (items : List Item) (i : Item) → Contains items i → symbol_of g i ≡ Some X → Contains (advance g X items) (moved i)
advance-has g X [] i c s = absurd (Contains-nil i c)
advance-has g X (x ∷ xs) i c s =
    advance-has-step g X x xs (filter (λ j. is_before X (symbol_of g j)) xs) i s (λ r. advance-has g X xs i r s) (is_before X (symbol_of g x)) refl (Contains-cons x xs i c)

Before-moved : (i j : Item) → Before i j → Before (moved i) (moved j)
Before-moved i j (inl a) = inl a
Before-moved i j (inr b) = inr (b.0, (let l = b.1 in omega (arith, l)))

advance-rising-step : (x : Item) (rest : List Item) → IsRising (map moved rest) → ((j : Item) → Contains (map moved rest) j → Before (moved x) j) → (b : Bool) → IsRising (onto b x rest)
advance-rising-step x rest up above true = pairs-cons Before (moved x) (map moved rest) above up
advance-rising-step x rest up above false = up

pub advance-rising : (g : Grammar) (X : ℕ) (items : List Item) → IsRising items → IsRising (advance g X items)
advance-rising g X [] h = pairs-nil Before
advance-rising g X (x ∷ xs) h =
    advance-rising-step x (filter (λ i. is_before X (symbol_of g i)) xs) (advance-rising g X xs (pairs-tail Before x xs h))
    (λ j c. let r = advance-from g X xs j c in subst (Before (moved x)) (sym r.3) (Before-moved x r.0 (pairs-head Before x xs h r.0 r.1))) (is_before X (symbol_of g x))
