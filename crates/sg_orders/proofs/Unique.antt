-- The layers of a phylum are unique, and from the second on none is passed over.
use Rattle.std.specs.Prelude.{◌≡◌, ℕ, zero, suc, ◌+◌, ◌-◌, ◌%◌, ◌<◌, ◌≤◌, ◌⊎◌, Bool, nat_eq, ◌||◌, length}
use Rattle.std.proofs.Common.{refl, sym, ◌∙◌, ap, subst, arith, inl, inr}
use Rattle.std.proofs.lemmas.Bool.{cases_lt, cases_eq, eqb-true, eq-eqb, or_cases, or_left, or_right}
use Rattle.sg_kinds.specs.declared.spec.Rules.{Rules}
use Rattle.sg_kinds.specs.Specification.{attrs_of}
use Rattle.sg_kinds.specs.Dependencies.{IsAttr, InPhylum}
use Rattle.sg_kinds.specs.Layers.{IsLayering, MayBeTaken, IsOfKind}

module _ (rules : Rules) (X : ℕ) where
  -- what may be taken of one layering's layer m, where the lower layers are those of the other
  taken_by : (l k : ℕ → ℕ) (m : ℕ) → IsLayering rules X l → ((a : ℕ) → IsAttr rules X a → l a < m → k a ≡ l a) → ((a : ℕ) → IsAttr rules X a → k a < m → l a ≡ k a)
      → (a : ℕ) → IsAttr rules X a → l a ≡ m → ((b : ℕ) → InPhylum rules X a b → IsAttr rules X b) → MayBeTaken rules X k m (λ b. nat_eq (l b) m)
  taken_by l k m is lower upper a attr at within = record {
    kind = λ b there e. subst (λ n. IsOfKind rules X n b) at ((is.allowed a attr).kind b there (eq-eqb (l b) (l a) (eqb-true (l b) m e ∙ sym at)));
    not_before = λ b there e. elim (cases_lt (k b) m) [
      | inl under ↦ absurd (let same = upper b there under in let here = eqb-true (l b) m e in omega (arith, same, here, under))
      | inr past ↦ past
    ];
    closed = λ b c there e d. elim ((is.allowed a attr).closed b c there (eq-eqb (l b) (l a) (eqb-true (l b) m e ∙ sym at)) d) [
      | inl in' ↦ inl (eq-eqb (l c) m (eqb-true (l c) (l a) in' ∙ at))
      | inr under ↦ inr (let to = Rattle.sg_dependencies.proofs.Sound.phylum_attrs rules X b c d in let same = lower c to.1 (omega (arith, under, at)) in omega (arith, same, under, at))
    ];
  }

  pub record AgreeBelow (l k : ℕ → ℕ) (n : ℕ) : Type 0 where
    pub first : (a : ℕ) → IsAttr rules X a → l a < n → k a ≡ l a
    pub second : (a : ℕ) → IsAttr rules X a → k a < n → l a ≡ k a

  same_at : (l k : ℕ → ℕ) (m a : ℕ) → IsLayering rules X l → IsLayering rules X k → ((b : ℕ) → IsAttr rules X b → l b < m → k b ≡ l b) → ((b : ℕ) → IsAttr rules X b → k b < m → l b ≡ k b) → IsAttr rules X a → l a ≡ m → k a ≡ m
  same_at l k m a is are lower upper attr at =
      are.largest m (λ b. nat_eq (l b) m) (let p = is.positive a attr in omega (arith, p, at)) (taken_by l k m is lower upper a attr at (λ b d. (Rattle.sg_dependencies.proofs.Sound.phylum_attrs rules X a b d).1)) a attr (eq-eqb (l a) m at)

  agree_below : (l k : ℕ → ℕ) (n : ℕ) → IsLayering rules X l → IsLayering rules X k → AgreeBelow l k n
  agree_below l k zero is are = record { first = λ a attr low. absurd (omega (arith, low)); second = λ a attr low. absurd (omega (arith, low)) }
  agree_below l k (suc n) is are =
      let rest = agree_below l k n is are in
      record {
        first = λ a attr low. elim (cases_lt (l a) n) [
          | inl under ↦ rest.first a attr under
          | inr past ↦ let at : l a ≡ n = omega (arith, low, past) in same_at l k n a is are rest.first rest.second attr at ∙ sym at
        ];
        second = λ a attr low. elim (cases_lt (k a) n) [
          | inl under ↦ rest.second a attr under
          | inr past ↦ let at : k a ≡ n = omega (arith, low, past) in same_at k l n a are is rest.second rest.first attr at ∙ sym at
        ];
      }

  pub same_layers : (l k : ℕ → ℕ) → IsLayering rules X l → IsLayering rules X k → (a : ℕ) → IsAttr rules X a → l a ≡ k a
  same_layers l k is are a attr = sym ((agree_below l k (suc (l a)) is are).first a attr (omega arith))

  -- a layer and the second one below it, where none is between
  two : (l : ℕ → ℕ) (m : ℕ) → ℕ → Bool
  two l m b = nat_eq (l b) (m + 2) || nat_eq (l b) m

  mod_two : (m : ℕ) → (m + 2) % 2 ≡ m % 2
  mod_two m = omega arith

  module _ (l : ℕ → ℕ) (is : IsLayering rules X l) where
    kind_at : (b : ℕ) → IsAttr rules X b → IsOfKind rules X (l b) b
    kind_at b attr = (is.allowed b attr).kind b attr (eq-eqb (l b) (l b) refl)

    after_at : (b c : ℕ) → IsAttr rules X b → InPhylum rules X b c → l c ≤ l b
    after_at b c attr d = elim ((is.allowed b attr).closed b c attr (eq-eqb (l b) (l b) refl) d) [
      | inl same ↦ let e = eqb-true (l c) (l b) same in omega (arith, e)
      | inr under ↦ omega (arith, under)
    ]

    no_gap : (m a : ℕ) → 1 ≤ m → IsAttr rules X a → l a ≡ m + 2 → ((b : ℕ) → IsAttr rules X b → l b ≡ m + 1 → ⊥) → ⊥
    unfolding two
    no_gap m a low attr at none =
        let same : l a ≡ m = is.largest m (two l m) low (record {
          kind = λ b there e. elim (or_cases (nat_eq (l b) (m + 2)) (nat_eq (l b) m) e) [
            | inl f ↦ kind_at b there ∙ ap (λ n. nat_eq (n % 2) 0) (eqb-true (l b) (m + 2) f) ∙ ap (λ n. nat_eq n 0) (mod_two m)
            | inr f ↦ kind_at b there ∙ ap (λ n. nat_eq (n % 2) 0) (eqb-true (l b) m f)
          ];
          not_before = λ b there e. elim (or_cases (nat_eq (l b) (m + 2)) (nat_eq (l b) m) e) [
            | inl f ↦ let g = eqb-true (l b) (m + 2) f in omega (arith, g)
            | inr f ↦ let g = eqb-true (l b) m f in omega (arith, g)
          ];
          closed = λ b c there e d.
              let to = Rattle.sg_dependencies.proofs.Sound.phylum_attrs rules X b c d in
              let most : l c ≤ m + 2 = elim (or_cases (nat_eq (l b) (m + 2)) (nat_eq (l b) m) e) [
                | inl f ↦ let g = eqb-true (l b) (m + 2) f in let h = after_at b c there d in omega (arith, g, h)
                | inr f ↦ let g = eqb-true (l b) m f in let h = after_at b c there d in omega (arith, g, h)
              ] in
              elim (cases_lt (l c) m) [
                | inl under ↦ inr under
                | inr past ↦ elim (cases_eq (l c) (m + 1)) [
                  | inl between ↦ absurd (none c to.1 between)
                  | inr other ↦ elim (cases_eq (l c) m) [
                    | inl here ↦ inl (or_right (nat_eq (l c) (m + 2)) (nat_eq (l c) m) (eq-eqb (l c) m here))
                    | inr apart ↦ inl (or_left (nat_eq (l c) (m + 2)) (nat_eq (l c) m) (eq-eqb (l c) (m + 2) (omega (arith, most, past, other, apart))))
                  ]
                ]
              ];
        }) a attr (or_left (nat_eq (l a) (m + 2)) (nat_eq (l a) m) (eq-eqb (l a) (m + 2) at)) in
        omega (arith, same, at)

    -- an attribute of a layer below n, or none there
    pub record HasLayer (k : ℕ) : Type 0 where
      pub attr : ℕ
      pub there : IsAttr rules X attr
      pub layer : l attr ≡ k

    found_below : (k n : ℕ) → n ≤ length (attrs_of rules.phyla X) → HasLayer k ⊎ ((b : ℕ) → b < n → l b ≡ k → ⊥)
    found_below k zero low = inr (λ b under e. omega (arith, under))
    found_below k (suc n) low = elim (found_below k n (omega (arith, low))) [
      | inl has ↦ inl has
      | inr none ↦ elim (cases_eq (l n) k) [
        | inl e ↦ inl (record { attr = n; there = omega (arith, low); layer = e })
        | inr other ↦ inr (λ b under e. elim (cases_lt b n) [ inl before ↦ none b before e | inr past ↦ let here : b ≡ n = omega (arith, under, past) in other (ap l (sym here) ∙ e) ])
      ]
    ]

    next_lower : (m a : ℕ) → 1 ≤ m → IsAttr rules X a → l a ≡ m + 2 → HasLayer (m + 1)
    next_lower m a low attr at = elim (found_below (m + 1) (length (attrs_of rules.phyla X)) (omega arith)) [
      | inl has ↦ has
      | inr none ↦ absurd (no_gap m a low attr at none)
    ]

    down_to : (fuel k a : ℕ) → 2 ≤ k → IsAttr rules X a → k ≤ l a → l a ≤ k + fuel → HasLayer k
    down_to zero k a two attr low high = record { attr = a; there = attr; layer = omega (arith, low, high) }
    down_to (suc fuel) k a two attr low high = elim (cases_eq (l a) k) [
      | inl here ↦ record { attr = a; there = attr; layer = here }
      | inr above ↦
          let at : l a ≡ (l a - 2) + 2 = omega (arith, two, low, above) in
          let next = next_lower (l a - 2) a (omega (arith, two, low, above)) attr at in
          let e = next.layer in
          down_to fuel k next.attr two next.there (omega (arith, e, low, above, two)) (omega (arith, e, high, above, two, low))
    ]

    -- from the second on no layer below another is empty
    pub none_passed : (k a : ℕ) → 2 ≤ k → IsAttr rules X a → k ≤ l a → HasLayer k
    none_passed k a two attr low = down_to (l a) k a two attr low (omega arith)
