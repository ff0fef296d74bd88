-- Lemmas on least sets.
use Rattle.std.proofs.Common.{◌≡◌, ℕ, zero, suc, ◌+◌, ◌<◌, ◌⊎◌, Bool, true, false, List, [], ◌∷◌, length, get_or, set, take, sym, ap, ◌∙◌, subst, arith, Some, inl, inr}
use Rattle.std.specs.Prelude.{All, slice_get}
use Rattle.std.specs.Bool.{OnTrue, OnFalse}
use Rattle.std.proofs.lemmas.Bool.{cases_eq}
use Rattle.std.proofs.lemmas.List.{get_or-set_same, get_or-set_other}
use Rattle.std.proofs.lemmas.List.Elements.{All-head, All-tail, All-more}
use Rattle.std.proofs.lemmas.Option.{slice_get-get_or, get_or_from_slice_get, slice_get_within}
use Rattle.sg_sets.specs.Members.{has, Has, missing_of}
use Rattle.sg_grammar.specs.declared.grammar.Production.{Production}
use Rattle.sg_lalr.specs.Least.{Grown, nothing, passes, under, HasOnly, IsClosed}

-- a set and one number more
pub Has-kept : (xs : List Bool) (a b : ℕ) → a < length xs → Has xs b → Has (set xs a true) b
Has-kept xs a b low h = elim (cases_eq b a) [
  | inl same ↦ rw same (get_or-set_same xs a true false low)
  | inr apart ↦ get_or-set_other xs a b true false apart ∙ h
]

pub Has-new : (xs : List Bool) (a : ℕ) → a < length xs → Has (set xs a true) a
Has-new xs a low = get_or-set_same xs a true false low

pub Has-was : (xs : List Bool) (a b : ℕ) → Has (set xs a true) b → (b ≡ a) ⊎ Has xs b
Has-was xs a b h = elim (cases_eq b a) [
  | inl same ↦ inl same
  | inr apart ↦ inr (sym (get_or-set_other xs a b true false apart) ∙ h)
]

-- a string whose symbols are each in the least set
pub grown-all : (rules : List Production) (low : ℕ) (set : List Bool) → HasOnly rules low set → (Xs : List ℕ) → All (Has set) Xs → Grown rules low Xs
grown-all rules low set only [] h = nothing
grown-all rules low set only (X ∷ Xs) h = joined (only X (All-head (Has set) X Xs h)) (grown-all rules low set only Xs (All-tail (Has set) X Xs h))
  where
    joined : Grown rules low (X ∷ []) → Grown rules low Xs → Grown rules low (X ∷ Xs)
    joined (passes _ _ l k) rest = passes X Xs l rest
    joined (under q r _ _ a b c k) rest = under q r X Xs a b c rest

pub only-more : (rules : List Production) (low : ℕ) (set : List Bool) (q : ℕ) (r : Production) → slice_get rules q ≡ Some r → HasOnly rules low set → All (Has set) r.right → (next : List Bool) → ((X : ℕ) → Has next X → (X ≡ r.left) ⊎ Has set X) → HasOnly rules low next
only-more rules low set q r is only all next was X h = elim (was X h) [
  | inl same ↦ under q r X [] is same (grown-all rules low set only r.right all) nothing
  | inr old ↦ only X old
]

All-onto : (P : ℕ → Type 0) (X : ℕ) (Xs : List ℕ) → P X → All P Xs → All P (X ∷ Xs)
All-onto P X Xs h t zero d l = h
All-onto P X Xs h t (suc k) d l = t k d (omega (arith, l))

-- what is closed and has the symbols below the bound has the least set
pub closed-has : (rules : List Production) (low : ℕ) (set : List Bool) → ((X : ℕ) → X < low → Has set X) → IsClosed set rules → (Xs : List ℕ) → Grown rules low Xs → All (Has set) Xs
closed-has rules low set below closed _ nothing = λ k d l. absurd (omega (arith, l))
closed-has rules low set below closed _ (passes X Xs l rest) = All-onto (Has set) X Xs (below X l) (closed-has rules low set below closed Xs rest)
closed-has rules low set below closed _ (under q r X Xs is same sides rest) =
    All-onto (Has set) X Xs
    (subst (λ Y. Has set Y) (sym same) (subst (λ (s : Production). All (Has set) s.right → Has set s.left) (get_or_from_slice_get rules q r r is) (closed q r (slice_get_within rules q r is)) (closed-has rules low set below closed r.right sides)))
    (closed-has rules low set below closed Xs rest)

-- one rule more of a round
pub record Grew (rules : List Production) (start now : List Bool) (n : ℕ) (grown : Bool) : Type 0 where
  pub width : length now ≡ length start
  pub keeps : (X : ℕ) → Has start X → Has now X
  pub only : (low : ℕ) → HasOnly rules low start → HasOnly rules low now
  pub grows : OnTrue grown (missing_of now < missing_of start)
  pub stays : OnFalse grown (now ≡ start)
  pub closed : OnFalse grown (IsClosed now (take n rules))

fewer : (start now next : List Bool) (grown : Bool) → OnTrue grown (missing_of now < missing_of start) → OnFalse grown (now ≡ start) → missing_of next < missing_of now → missing_of next < missing_of start
fewer start now next true g s h = omega (arith, g, h)
fewer start now next false g s h = subst (λ t. missing_of next < missing_of t) s h

pub grew-more : (rules : List Production) (start now next : List Bool) (n : ℕ) (r : Production) (grown : Bool) → n < length rules → r ≡ get_or rules n r → Grew rules start now n grown → length next ≡ length now → ((X : ℕ) → Has now X → Has next X)
    → ((X : ℕ) → Has next X → ((X ≡ r.left) × All (Has now) r.right) ⊎ Has now X) → missing_of next < missing_of now → Grew rules start next (n + 1) true
grew-more rules start now next n r grown low is g w k was fewer-now = record {
  width = w ∙ g.width;
  keeps = λ X h. k X (g.keeps X h);
  only = λ l h X there. elim (was X there) [
    | inl new ↦ only-more rules l now n r (slice_get-get_or rules n r low ∙ ap Some (sym is)) (g.only l h) new.1 next (λ Y m. elim (was Y m) [ inl a ↦ inl a.0 | inr b ↦ inr b ]) X there
    | inr old ↦ g.only l h X old
  ];
  grows = fewer start now next grown g.grows g.stays fewer-now;
  stays = tt;
  closed = tt;
}

closed-more : (rules : List Production) (now next : List Bool) (n : ℕ) (r : Production) → n < length rules → r ≡ get_or rules n r → (All (Has now) r.right → Has next r.left) → next ≡ now → IsClosed now (take n rules) → IsClosed next (take (n + 1) rules)
closed-more rules now next n r low is has same closed =
    subst (λ s. IsClosed s (take (n + 1) rules)) (sym same) (All-more (λ (x : Production). All (Has now) x.right → Has now x.left) rules n r low closed
    (subst (λ (x : Production). All (Has now) x.right → Has now x.left) is (λ a. subst (λ s. Has s r.left) same (has a))))

pub grew-same : (rules : List Production) (start now next : List Bool) (n : ℕ) (r : Production) (grown : Bool) → n < length rules → r ≡ get_or rules n r → Grew rules start now n grown
    → (All (Has now) r.right → Has next r.left) → next ≡ now → Grew rules start next (n + 1) grown
grew-same rules start now next n r grown low is g has same = record {
  width = ap length same ∙ g.width;
  keeps = λ X h. subst (λ s. Has s X) (sym same) (g.keeps X h);
  only = λ l h X there. g.only l h X (subst (λ s. Has s X) same there);
  grows = subst (λ s. OnTrue grown (missing_of s < missing_of start)) (sym same) g.grows;
  stays = subst (λ s. OnFalse grown (s ≡ start)) (sym same) g.stays;
  closed = by grown g.closed;
}
  where
    by : (b : Bool) → OnFalse b (IsClosed now (take n rules)) → OnFalse b (IsClosed next (take (n + 1) rules))
    by true c = tt
    by false c = closed-more rules now next n r low is has same c
