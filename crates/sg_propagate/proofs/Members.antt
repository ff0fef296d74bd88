-- The members of a set after a key was put in or taken out.
use Rattle.std.specs.Prelude.{◌≡◌, ◌↔◌, ◌⊎◌, ℕ, zero, suc, ◌<◌, Bool, true, false, cond, ◌&&◌, ◌||◌, List, [], ◌∷◌, length, Contains, nat_eq}
use Rattle.std.proofs.Common.{refl, sym, ap, ◌∙◌, subst, get_or, arith, inl, inr}
use Rattle.std.proofs.lemmas.Bool.{and_parts, and_from}
use Rattle.std.specs.List.{list_any}
use Rattle.std.proofs.lemmas.Map.Views.{Contains-from_any}
use Rattle.sg_kinds.proofs.Elementary.{eq_is, eq_itself}

module _ {K : Type 0} (eq : K → K → Bool) (itself : (x : K) → eq x x ≡ true) (same : (x y : K) → eq x y ≡ true → x ≡ y) where
  pub there : (ks : List K) (k : K) → Contains ks k → list_any (eq k) ks ≡ true
  there [] k has = absurd (let l = has.1 in omega (arith, l))
  there (x ∷ xs) k has = by has.0 has.1 has.2 (there xs k)
    where
      by : (i : ℕ) → i < length (x ∷ xs) → get_or (x ∷ xs) i k ≡ k → (Contains xs k → list_any (eq k) xs ≡ true) → (eq k x || list_any (eq k) xs) ≡ true
      by zero low at rest = ap (λ y. eq k y || list_any (eq k) xs) at ∙ ap (λ b. b || list_any (eq k) xs) (itself k)
      by (suc i) low at rest = last (eq k x) (rest (i, (omega (arith, low)), at))
        where
          last : (b : Bool) {c : Bool} → c ≡ true → (b || c) ≡ true
          last true is = refl
          last false is = is

  pub found : (ks : List K) (k : K) → list_any (eq k) ks ≡ true → Contains ks k
  found ks k = Contains-from_any same k ks

  module _ (old new : List K) (k : K) where
    pub inserted : ((q : K) → list_any (eq q) new ≡ cond (eq k q) true (list_any (eq q) old)) → (x : K) → Contains new x ↔ (Contains old x ⊎ (x ≡ k))
    inserted put x = (λ has. there_or (eq k x) refl (sym (put x) ∙ there new x has), λ has. found new x (put x ∙ elim has [ inl was ↦ stays (eq k x) (there old x was) | inr is ↦ ap (λ b. cond b true (list_any (eq x) old)) (ap (eq k) is ∙ itself k) ]))
      where
        there_or : (b : Bool) → eq k x ≡ b → cond b true (list_any (eq x) old) ≡ true → Contains old x ⊎ (x ≡ k)
        there_or true is at = inr (sym (same k x is))
        there_or false is at = inl (found old x at)

        stays : (b : Bool) → list_any (eq x) old ≡ true → cond b true (list_any (eq x) old) ≡ true
        stays true at = refl
        stays false at = at

  module _ (before old new : List K) (is : before ≡ old) (k : K) where
    pub put_in : ((q : K) → list_any (eq q) new ≡ cond (eq k q) true (list_any (eq q) before)) → (x : K) → Contains new x ↔ (Contains old x ⊎ (x ≡ k))
    put_in put x = subst (λ ks. Contains new x ↔ (Contains ks x ⊎ (x ≡ k))) is (inserted before new k put x)

    pub is_in : (b : Bool) → b ≡ list_any (eq k) before → (b ≡ true) ↔ Contains old k
    is_in b at = subst (λ ks. (b ≡ true) ↔ Contains ks k) is (λ yes. found before k (sym at ∙ yes), λ has. at ∙ there before k has)

-- equations at nodes
abbrev pub same_pair : ℕ × ℕ → ℕ × ℕ → Bool
same_pair x y = nat_eq x.0 y.0 && nat_eq x.1 y.1

pub pair_itself : (x : ℕ × ℕ) → same_pair x x ≡ true
pair_itself x = and_from (nat_eq x.0 x.0) (nat_eq x.1 x.1) (eq_itself x.0) (eq_itself x.1)

pub pair_is : (x y : ℕ × ℕ) → same_pair x y ≡ true → x ≡ y
pair_is x y is = let p = and_parts (nat_eq x.0 y.0) (nat_eq x.1 y.1) is in ap (λ n. (n, x.1)) (eq_is x.0 y.0 p.0) ∙ ap (λ r. (y.0, r)) (eq_is x.1 y.1 p.1)
