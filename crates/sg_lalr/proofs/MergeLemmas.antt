-- Lemmas on the merging of a kernel with the productions that it opens.
use Rattle.std.proofs.Common.{◌≡◌, ℕ, zero, suc, ◌+◌, ◌<◌, ◌≤◌, ◌⊎◌, inl, inr, List, [], ◌∷◌, ◌++◌, length, get_or, take, drop, refl, sym, ap, ◌∙◌, subst, arith}
use Rattle.std.specs.Prelude.{◌↔◌, Contains, All, AllPairs}
use Rattle.std.proofs.lemmas.Bool.{cases_lt}
use Rattle.std.proofs.lemmas.List.{drop_more, take_more, take-append-drop, drop_all}
use Rattle.std.proofs.lemmas.List.Elements.{Contains-push, Contains-push_cases, Contains-append_left, Contains-append_right, Contains-append_cases, All-contains}
use Rattle.sg_lalr.specs.Items.{Item, item, Before, IsRising}
use Rattle.sg_lalr.specs.Closure.{IsOpened}
use Rattle.sg_lalr.proofs.RisingLemmas.{Contains-front, Contains-behind, Contains-cons, Contains-nil, pairs-append, pairs-cons, pairs-nil, pairs-drop, pairs-head}

-- how far a merge has come: the first k productions are opened, the kernel is kept up to a place, and what is left of both comes later
pub record Merged (opened : List ℕ) (kernel items : List Item) (at k : ℕ) : Type 0 where
  pub rising : IsRising items
  pub before : (i j : Item) → Contains items i → Contains (drop at kernel) j → Before i j
  pub has : (i : Item) → Contains items i ↔ (Contains (take at kernel) i ⊎ IsOpened (take k opened) i)
  pub below : (i : Item) (q : ℕ) → Contains items i → Contains (drop k opened) q → i.production < q
  pub within : at ≤ length kernel

Contains-dropped : {X : Type 0} (n : ℕ) (xs : List X) (x : X) → Contains (drop n xs) x → Contains xs x
Contains-dropped zero xs x c = c
Contains-dropped (suc n) [] x c = c
Contains-dropped (suc n) (y ∷ xs) x c = Contains-behind y xs x (Contains-dropped n xs x c)

pub merged-none : (opened : List ℕ) (kernel : List Item) → Merged opened kernel [] 0 0
merged-none opened kernel = record {
  rising = pairs-nil Before;
  before = λ i j c. absurd (Contains-nil i c);
  has = λ i. (λ c. absurd (Contains-nil i c), λ h. elim h [ inl c ↦ absurd (Contains-nil i c) | inr o ↦ absurd (Contains-nil i.production o.1) ]);
  below = λ i q c. absurd (Contains-nil i c);
  within = omega arith;
}

-- what is left of a list at a place, and what comes before it
module _ {X : Type 0} (xs : List X) (at : ℕ) (x : X) (low : at < length xs) (is : x ≡ get_or xs at x) where
  split : drop at xs ≡ x ∷ drop (at + 1) xs
  split = drop_more xs at x low ∙ ap (λ y. y ∷ drop (at + 1) xs) (sym is)

  more : take (at + 1) xs ≡ take at xs ++ x ∷ []
  more = take_more xs at x low ∙ ap (λ y. take at xs ++ y ∷ []) (sym is)

  front : Contains (drop at xs) x
  front = subst (λ l. Contains l x) (sym split) (Contains-front x (drop (at + 1) xs))

  later : (y : X) → Contains (drop (at + 1) xs) y → Contains (drop at xs) y
  later y d = subst (λ l. Contains l y) (sym split) (Contains-behind x (drop (at + 1) xs) y d)

  first-or : (y : X) → Contains (drop at xs) y → (x ≡ y) ⊎ Contains (drop (at + 1) xs) y
  first-or y d = Contains-cons x (drop (at + 1) xs) y (subst (λ l. Contains l y) split d)

  above : (R : X → X → Type 0) → AllPairs R xs → (y : X) → Contains (drop (at + 1) xs) y → R x y
  above R up = pairs-head R x (drop (at + 1) xs) (subst (AllPairs R) split (pairs-drop R at xs up))

  taken-old : (y : X) → Contains (take at xs) y → Contains (take (at + 1) xs) y
  taken-old y c = subst (λ l. Contains l y) (sym more) (Contains-append_left (take at xs) (x ∷ []) y c)

  taken-new : Contains (take (at + 1) xs) x
  taken-new = subst (λ l. Contains l x) (sym more) (Contains-push (take at xs) x)

  taken-cases : (y : X) → Contains (take (at + 1) xs) y → Contains (take at xs) y ⊎ (x ≡ y)
  taken-cases y c = Contains-push_cases (take at xs) x y (subst (λ l. Contains l y) more c)

pushed-rising : (items : List Item) (x : Item) → IsRising items → ((i : Item) → Contains items i → Before i x) → IsRising (items ++ x ∷ [])
pushed-rising items x up last = pairs-append Before items (x ∷ []) up (pairs-cons Before x [] (λ y c. absurd (Contains-nil y c)) (pairs-nil Before)) (λ a y c d. elim (Contains-cons x [] y d) [ inl e ↦ subst (Before a) e (last a c) | inr none ↦ absurd (Contains-nil y none) ])

-- an item of the kernel before the next production
pub merged-kept : (opened : List ℕ) (kernel items : List Item) (at k : ℕ) (x : Item) (p : ℕ) → at < length kernel → x ≡ get_or kernel at x → k < length opened → p ≡ get_or opened k p → x.production < p → AllPairs ◌<◌ opened → IsRising kernel → Merged opened kernel items at k → Merged opened kernel (items ++ x ∷ []) (at + 1) k
merged-kept opened kernel items at k x p low is here next first apart up m = record {
  rising = pushed-rising items x m.rising (λ i c. m.before i x c (front kernel at x low is));
  before = λ i j c d. elim (Contains-push_cases items x i c) [
    | inl old ↦ m.before i j old (later kernel at x low is j d)
    | inr e ↦ subst (λ y. Before y j) e (above kernel at x low is Before up j d)
  ];
  has = λ i. (
    λ c. elim (Contains-push_cases items x i c) [
      | inl old ↦ elim ((m.has i).0 old) [ inl t ↦ inl (taken-old kernel at x low is i t) | inr o ↦ inr o ]
      | inr e ↦ inl (subst (Contains (take (at + 1) kernel)) e (taken-new kernel at x low is))
    ],
    λ h. elim h [
      | inl t ↦ elim (taken-cases kernel at x low is i t) [
        | inl old ↦ Contains-append_left items (x ∷ []) i ((m.has i).1 (inl old))
        | inr e ↦ subst (Contains (items ++ x ∷ [])) e (Contains-push items x)
      ]
      | inr o ↦ Contains-append_left items (x ∷ []) i ((m.has i).1 (inr o))
    ],
  );
  below = λ i q c d. elim (Contains-push_cases items x i c) [
    | inl old ↦ m.below i q old d
    | inr e ↦ subst (λ (y : Item). y.production < q) e (elim (first-or opened k p here next q d) [
      | inl same ↦ subst (λ n. x.production < n) same first
      | inr behind ↦ (let l = above opened k p here next ◌<◌ apart q behind in omega (arith, l, first))
    ])
  ];
  within = omega (arith, low);
}

-- what is left of the kernel is of the next production or later ones
pub rest-from : (kernel : List Item) (at : ℕ) (x : Item) (p : ℕ) → at < length kernel → x ≡ get_or kernel at x → p ≤ x.production → IsRising kernel → (j : Item) → Contains (drop at kernel) j → p ≤ j.production
rest-from kernel at x p low is high up j d = elim (first-or kernel at x low is j d) [
  | inl e ↦ subst (λ (y : Item). p ≤ y.production) e high
  | inr r ↦ elim (above kernel at x low is Before up j r) [ inl l ↦ omega (arith, l, high) | inr l ↦ (let e = l.0 in omega (arith, e, high)) ]
]

pub rest-none : (kernel : List Item) (at p : ℕ) → length kernel ≤ at → (j : Item) → Contains (drop at kernel) j → p ≤ j.production
rest-none kernel at p high j d = absurd (Contains-nil j (subst (λ l. Contains l j) (drop_all at kernel high) d))

pub merged-opened : (opened : List ℕ) (kernel items : List Item) (at k p : ℕ) → k < length opened → p ≡ get_or opened k p → AllPairs ◌<◌ opened → All (λ (i : Item). Contains opened i.production → 0 < i.dot) kernel → ((j : Item) → Contains (drop at kernel) j → p ≤ j.production)
    → Merged opened kernel items at k → Merged opened kernel (items ++ item p 0 ∷ []) at (k + 1)
merged-opened opened kernel items at k p here next apart dots rest m = record {
  rising = pushed-rising items (item p 0) m.rising (λ i c. inl (m.below i p c (front opened k p here next)));
  before = λ i j c d. elim (Contains-push_cases items (item p 0) i c) [
    | inl old ↦ m.before i j old d
    | inr e ↦ subst (λ x. Before x j) e (ahead j d)
  ];
  has = λ i. (
    λ c. elim (Contains-push_cases items (item p 0) i c) [
      | inl old ↦ elim ((m.has i).0 old) [ inl t ↦ inl t | inr o ↦ inr (o.0, taken-old opened k p here next i.production o.1) ]
      | inr e ↦ inr (subst (IsOpened (take (k + 1) opened)) e (refl, taken-new opened k p here next))
    ],
    λ h. elim h [
      | inl t ↦ Contains-append_left items (item p 0 ∷ []) i ((m.has i).1 (inl t))
      | inr o ↦ elim (taken-cases opened k p here next i.production o.1) [
        | inl old ↦ Contains-append_left items (item p 0 ∷ []) i ((m.has i).1 (inr (o.0, old)))
        | inr e ↦
            let begins : item p 0 ≡ i = λ n. record { production = e n; dot = sym o.0 n } in
            subst (Contains (items ++ item p 0 ∷ [])) begins (Contains-push items (item p 0))
      ]
    ],
  );
  below = λ i q c d. elim (Contains-push_cases items (item p 0) i c) [
    | inl old ↦ m.below i q old (later opened k p here next q d)
    | inr e ↦ subst (λ (x : Item). x.production < q) e (above opened k p here next ◌<◌ apart q d)
  ];
  within = m.within;
}
  where
    ahead : (j : Item) → Contains (drop at kernel) j → Before (item p 0) j
    ahead = λ j d. elim (cases_lt p j.production) [
      | inl less ↦ inl less
      | inr near ↦
          let l = rest j d in
          let same : p ≡ j.production = omega (arith, l, near) in
          let there = Contains-dropped k opened p (front opened k p here next) in
          inr (same, All-contains (λ (i : Item). Contains opened i.production → 0 < i.dot) kernel j dots (Contains-dropped at kernel j d) (subst (Contains opened) same there))
    ]

pub merged-rising : (opened : List ℕ) (kernel items : List Item) (at k : ℕ) → IsRising kernel → Merged opened kernel items at k → IsRising (items ++ drop at kernel)
merged-rising opened kernel items at k up m = pairs-append Before items (drop at kernel) m.rising (pairs-drop Before at kernel up) m.before

pub merged-has : (opened : List ℕ) (kernel items : List Item) (at k : ℕ) → take k opened ≡ opened → Merged opened kernel items at k → (i : Item) → Contains (items ++ drop at kernel) i ↔ (Contains kernel i ⊎ IsOpened opened i)
merged-has opened kernel items at k all m i = (
  λ c. elim (Contains-append_cases items (drop at kernel) i c) [
    | inl a ↦ elim ((m.has i).0 a) [
      | inl t ↦ inl (whole (Contains-append_left (take at kernel) (drop at kernel) i t))
      | inr o ↦ inr (o.0, subst (λ l. Contains l i.production) all o.1)
    ]
    | inr b ↦ inl (whole (Contains-append_right (take at kernel) (drop at kernel) i b))
  ],
  λ h. elim h [
    | inl t ↦ elim (Contains-append_cases (take at kernel) (drop at kernel) i (subst (λ l. Contains l i) (sym (take-append-drop at kernel)) t)) [
      | inl a ↦ Contains-append_left items (drop at kernel) i ((m.has i).1 (inl a))
      | inr b ↦ Contains-append_right items (drop at kernel) i b
    ]
    | inr o ↦ Contains-append_left items (drop at kernel) i ((m.has i).1 (inr (o.0, subst (λ l. Contains l i.production) (sym all) o.1)))
  ],
)
  where
    whole : Contains (take at kernel ++ drop at kernel) i → Contains kernel i
    whole = λ c. subst (λ l. Contains l i) (take-append-drop at kernel) c
