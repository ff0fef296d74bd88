-- Lemmas on the terminals with which strings begin.
use Rattle.std.proofs.Common.{◌≡◌, ℕ, zero, suc, ◌+◌, ◌<◌, ◌≤◌, ◌⊎◌, inl, inr, Bool, List, [], ◌∷◌, ◌++◌, length, get_or, take, refl, sym, ap, ◌∙◌, subst, arith, Some}
use Rattle.std.specs.Prelude.{◌↔◌, Contains, All, slice_get}
use Rattle.std.proofs.lemmas.Bool.{cases_lt}
use Rattle.std.proofs.lemmas.List.{take_more, append-nil}
use Rattle.std.proofs.lemmas.List.Elements.{Contains-push, Contains-push_cases, Contains-append_left, Contains-get_or}
use Rattle.std.proofs.lemmas.Option.{slice_get_within, same_Some, none-some, slice_get-get_or, get_or_from_slice_get}
use Rattle.sg_sets.specs.Members.{Has}
use Rattle.sg_sets.specs.Paths.{Leads, Reaches, Linked}
use Rattle.sg_sets.specs.Rows.{Holds, AreRows}
use Rattle.sg_sets.proofs.PathsLemmas.{Reaches-step}
use Rattle.sg_grammar.specs.declared.grammar.Production.{Production}
use Rattle.sg_grammar.specs.Grammar.{Grammar}
use Rattle.sg_grammar.specs.WellFormed.{IsRule, IsWellFormed}
use Rattle.sg_lalr.specs.Least.{Grown, nothing, passes, under}
use Rattle.sg_lalr.specs.ValidItems.{Begins, behind, here, inside}
use Rattle.sg_lalr.specs.Firsts.{First, itself, within, Firsts, StandsBehind, StandsBelow, IsNullable}
use Rattle.sg_lalr.proofs.CoreLemmas.{grown-all}

stands-later : (set : List Bool) (Xs : List ℕ) (n Y : ℕ) → StandsBelow set Xs n Y → StandsBelow set Xs (n + 1) Y
stands-later set Xs n Y h = (h.0, (let l = h.1 in omega (arith, l)), h.2, h.3)

stands-cases : (set : List Bool) (Xs : List ℕ) (n Y : ℕ) → StandsBelow set Xs (n + 1) Y → StandsBelow set Xs n Y ⊎ (All (Has set) (take n Xs) × (slice_get Xs n ≡ Some Y))
stands-cases set Xs n Y h = elim (cases_lt h.0 n) [
  | inl low ↦ inl (h.0, low, h.2, h.3)
  | inr high ↦
      let l = h.1 in
      let is : h.0 ≡ n = omega (arith, l, high) in
      inr (subst (λ d. All (Has set) (take d Xs)) is h.2, ap (slice_get Xs) (sym is) ∙ h.3)
]

stands-all : (set : List Bool) (Xs : List ℕ) (n Y : ℕ) → length Xs ≤ n → StandsBehind set Xs Y → StandsBelow set Xs n Y
stands-all set Xs n Y l h = (h.0, (let k = slice_get_within Xs h.0 Y h.2 in omega (arith, k, l)), h.1, h.2)

stands-below : (set : List Bool) (Xs : List ℕ) (n Y : ℕ) → StandsBelow set Xs n Y → StandsBehind set Xs Y
stands-below set Xs n Y h = (h.0, h.2, h.3)

-- links that a right side has gained
abbrev pub Linking : List (ℕ × ℕ) → List (ℕ × ℕ) → ℕ → (ℕ → Type 0) → Type 0
Linking old now left P = (a b : ℕ) → Linked now a b ↔ (Linked old a b ⊎ ((b ≡ left) × P a))

pub linking-more : (set : List Bool) (Xs : List ℕ) (n left : ℕ) (old now : List (ℕ × ℕ)) → n < length Xs → All (Has set) (take n Xs) → Linking old now left (StandsBelow set Xs n) → Linking old (now ++ (get_or Xs n 0, left) ∷ []) left (StandsBelow set Xs (n + 1))
linking-more set Xs n left old now low nulls l a b = (
  λ h. elim (Contains-push_cases now (get_or Xs n 0, left) (a, b) h) [
    | inl was ↦ elim ((l a b).0 was) [ inl older ↦ inl older | inr new ↦ inr (new.0, stands-later set Xs n a new.1) ]
    | inr e ↦ inr (sym (ap (λ (p : ℕ × ℕ). p.1) e), (n, omega arith, nulls, slice_get-get_or Xs n 0 low ∙ ap Some (ap (λ (p : ℕ × ℕ). p.0) e)))
  ],
  λ h. elim h [
    | inl older ↦ Contains-append_left now ((get_or Xs n 0, left) ∷ []) (a, b) ((l a b).1 (inl older))
    | inr new ↦ elim (stands-cases set Xs n a new.1) [
      | inl before ↦ Contains-append_left now ((get_or Xs n 0, left) ∷ []) (a, b) ((l a b).1 (inr (new.0, before)))
      | inr this ↦ subst (Contains (now ++ (get_or Xs n 0, left) ∷ [])) (λ i. (get_or_from_slice_get Xs n a 0 this.1 i, sym new.0 i)) (Contains-push now (get_or Xs n 0, left))
    ]
  ],
)

pub linking-same : (set : List Bool) (Xs : List ℕ) (n left : ℕ) (old now : List (ℕ × ℕ)) → (All (Has set) (take n Xs) → ⊥) → Linking old now left (StandsBelow set Xs n) → Linking old now left (StandsBelow set Xs (n + 1))
linking-same set Xs n left old now shut l a b = (
  λ h. elim ((l a b).0 h) [ inl older ↦ inl older | inr new ↦ inr (new.0, stands-later set Xs n a new.1) ],
  λ h. elim h [
    | inl older ↦ (l a b).1 (inl older)
    | inr new ↦ elim (stands-cases set Xs n a new.1) [ inl before ↦ (l a b).1 (inr (new.0, before)) | inr this ↦ absurd (shut this.0) ]
  ],
)

pub linking-all : (set : List Bool) (Xs : List ℕ) (n left : ℕ) (old now : List (ℕ × ℕ)) → length Xs ≤ n → Linking old now left (StandsBelow set Xs n) → Linking old now left (StandsBehind set Xs)
linking-all set Xs n left old now long l a b = (
  λ h. elim ((l a b).0 h) [ inl older ↦ inl older | inr new ↦ inr (new.0, stands-below set Xs n a new.1) ],
  λ h. elim h [ inl older ↦ (l a b).1 (inl older) | inr new ↦ (l a b).1 (inr (new.0, stands-all set Xs n a long new.1)) ],
)

-- the links of productions
abbrev pub LinkedBy : List Bool → List Production → List (ℕ × ℕ) → Type 0
LinkedBy set rules links = (a b : ℕ) → Linked links a b ↔ ((r : Production) × Contains rules r × (b ≡ r.left) × StandsBehind set r.right a)

pub linked-more : (set : List Bool) (rules : List Production) (n : ℕ) (r : Production) (now next : List (ℕ × ℕ)) → n < length rules → r ≡ get_or rules n r → LinkedBy set (take n rules) now → Linking now next r.left (StandsBehind set r.right) → LinkedBy set (take (n + 1) rules) next
linked-more set rules n r now next low is l gains a b =
    let more : take (n + 1) rules ≡ take n rules ++ r ∷ [] = take_more rules n r low ∙ ap (λ x. take n rules ++ x ∷ []) (sym is) in (
      λ h. elim ((gains a b).0 h) [
        | inl was ↦ (let o = (l a b).0 was in (o.0, subst (λ rs. Contains rs o.0) (sym more) (Contains-append_left (take n rules) (r ∷ []) o.0 o.1), o.2, o.3))
        | inr new ↦ (r, subst (λ rs. Contains rs r) (sym more) (Contains-push (take n rules) r), new.0, new.1)
      ],
      λ h. elim (Contains-push_cases (take n rules) r h.0 (subst (λ rs. Contains rs h.0) more h.1)) [
        | inl old ↦ (gains a b).1 (inl ((l a b).1 (h.0, old, h.2, h.3)))
        | inr e ↦ (gains a b).1 (inr (h.2 ∙ ap (λ (x : Production). x.left) (sym e), subst (λ (x : Production). StandsBehind set x.right a) (sym e) h.3))
      ],
    )

-- sets that a string has gained
abbrev pub BegunBy : List Bool → List ℕ → List (List Bool) → List Bool → (ℕ → Type 0) → Type 0
BegunBy set Xs rows now P = (u : ℕ) → Has now u ↔ ((Y : ℕ) × P Y × Holds rows Y u)

pub begun-more : (set : List Bool) (Xs : List ℕ) (rows : List (List Bool)) (n : ℕ) (now next : List Bool) → n < length Xs → All (Has set) (take n Xs) → ((u : ℕ) → Has next u ↔ (Has now u ⊎ Holds rows (get_or Xs n 0) u)) → BegunBy set Xs rows now (StandsBelow set Xs n) → BegunBy set Xs rows next (StandsBelow set Xs (n + 1))
begun-more set Xs rows n now next low nulls joins b u = (
  λ h. elim ((joins u).0 h) [
    | inl was ↦ (let o = (b u).0 was in (o.0, stands-later set Xs n o.0 o.1, o.2))
    | inr new ↦ (get_or Xs n 0, (n, omega arith, nulls, slice_get-get_or Xs n 0 low), new)
  ],
  λ h. elim (stands-cases set Xs n h.0 h.1) [
    | inl before ↦ (joins u).1 (inl ((b u).1 (h.0, before, h.2)))
    | inr this ↦ (joins u).1 (inr (subst (λ Y. Holds rows Y u) (sym (get_or_from_slice_get Xs n h.0 0 this.1)) h.2))
  ],
)

pub begun-same : (set : List Bool) (Xs : List ℕ) (rows : List (List Bool)) (n : ℕ) (now : List Bool) → (All (Has set) (take n Xs) → ⊥) → BegunBy set Xs rows now (StandsBelow set Xs n) → BegunBy set Xs rows now (StandsBelow set Xs (n + 1))
begun-same set Xs rows n now shut b u = (
  λ h. let o = (b u).0 h in (o.0, stands-later set Xs n o.0 o.1, o.2),
  λ h. elim (stands-cases set Xs n h.0 h.1) [ inl before ↦ (b u).1 (h.0, before, h.2) | inr this ↦ absurd (shut this.0) ],
)

pub begun-all : (set : List Bool) (Xs : List ℕ) (rows : List (List Bool)) (n : ℕ) (now : List Bool) → length Xs ≤ n → BegunBy set Xs rows now (StandsBelow set Xs n) → BegunBy set Xs rows now (StandsBehind set Xs)
begun-all set Xs rows n now long b u = (
  λ h. let o = (b u).0 h in (o.0, stands-below set Xs n o.0 o.1, o.2),
  λ h. (b u).1 (h.0, stands-all set Xs n h.0 long h.1, h.2),
)

-- nullable strings
grown-each : (rules : List Production) (set : List Bool) → ((X : ℕ) → Grown rules 0 (X ∷ []) → Has set X) → (Xs : List ℕ) → Grown rules 0 Xs → All (Has set) Xs
grown-each rules set has _ nothing = λ k d l. absurd (omega (arith, l))
grown-each rules set has _ (passes X Xs l rest) = absurd (omega (arith, l))
grown-each rules set has _ (under q r X Xs is same sides rest) = onto (has X (under q r X [] is same sides nothing)) (grown-each rules set has Xs rest)
  where
    onto : Has set X → All (Has set) Xs → All (Has set) (X ∷ Xs)
    onto h t zero d l = h
    onto h t (suc k) d l = t k d (omega (arith, l))

module _ (g : Grammar) (set : List Bool) (nullable : IsNullable g set) where
  pub null-front : (Xs : List ℕ) → All (Has set) Xs → Grown g.rules 0 Xs
  null-front Xs h = grown-all g.rules 0 Xs (λ k d l. (nullable (get_or Xs k d)).0 (h k d l))

  pub front-null : (Xs : List ℕ) → Grown g.rules 0 Xs → All (Has set) Xs
  front-null Xs h = grown-each g.rules set (λ X k. (nullable X).1 k) Xs h

slice_get-contains : {X : Type 0} (xs : List X) (n : ℕ) (x : X) → slice_get xs n ≡ Some x → Contains xs x
slice_get-contains xs n x is = (n, slice_get_within xs n x is, get_or_from_slice_get xs n x x is)

contains-slice_get : {X : Type 0} (xs : List X) (x : X) → Contains xs x → (n : ℕ) × (slice_get xs n ≡ Some x)
contains-slice_get xs x (k, low, is) = (k, slice_get-get_or xs k x low ∙ ap Some is)

-- the rows that flow are those of the first terminals
module _ (g : Grammar) (set : List Bool) (nullable : IsNullable g set) (formed : IsWellFormed g) (links : List (ℕ × ℕ)) (linked : LinkedBy set g.rules links)
    (start rows : List (List Bool)) (own : (X u : ℕ) → Holds start X u ↔ ((X < g.terminals) × (u ≡ X))) (flows : (x y : ℕ) → Holds rows x y ↔ ((s : ℕ) × Holds start s y × Reaches (Linked links) s x)) where
  first-link : (a b u : ℕ) → Linked links a b → First g a u → First g b u
  first-link a b u l f =
      let k = (linked a b).0 l in
      let n = contains-slice_get g.rules k.0 k.1 in
      within n.0 k.3.0 b a u k.0 n.1 k.2 (null-front g set nullable (take k.3.0 k.0.right) k.3.1) k.3.2 f

  first-along : (a b u : ℕ) (via : List ℕ) → Leads (Linked links) a via b → First g a u → First g b u
  first-along a b u [] l f = first-link a b u l f
  first-along a b u (v ∷ via) l f = first-along v b u via l.1 (first-link a v u l.0 f)

  first-sound : (X u : ℕ) → Holds rows X u → First g X u
  first-sound X u h =
      let f = (flows X u).0 h in
      let o = (own f.0 u).0 f.1 in
      let here : First g f.0 u = subst (First g f.0) (sym o.1) (itself f.0 o.0) in
      elim f.2 [ inl same ↦ subst (λ Y. First g Y u) same here | inr path ↦ first-along f.0 X u path.0 path.1 here ]

  first-complete : (X u : ℕ) → First g X u → Holds rows X u
  first-complete _ _ (itself X l) = (flows X X).1 (X, (own X X).1 (l, refl), inl refl)
  first-complete _ _ (within q d X Y u r is left null at f) =
      let i = (flows Y u).0 (first-complete Y u f) in
      let link : Linked links Y X = (linked Y X).1 (r, slice_get-contains g.rules q r is, left, (d, front-null g set nullable (take d r.right) null, at)) in
      (flows X u).1 (i.0, i.1, Reaches-step (Linked links) i.0 Y X i.2 link)

  first-below : (X u : ℕ) → First g X u → X < g.symbols
  first-below _ _ (itself X l) = let w = formed.within in omega (arith, l, w)
  first-below _ _ (within q d X Y u r is left null at f) = subst (λ Z. Z < g.symbols) (sym left) (let c = slice_get-contains g.rules q r is in let k = formed.rules c.0 r c.1 in subst (λ (s : Production). s.left < g.symbols) c.2 k.1)

  pub first-exact : (X u : ℕ) → Holds rows X u ↔ ((X < g.symbols) × First g X u)
  first-exact X u = (λ h. (first-below X u (first-sound X u h), first-sound X u h), λ h. first-complete X u h.1)

pub links-within : (g : Grammar) (set : List Bool) (links : List (ℕ × ℕ)) (rows : List (List Bool)) → IsWellFormed g → length rows ≡ g.symbols → LinkedBy set g.rules links → All (AreRows rows) links
links-within g set links rows formed long linked k d l =
    let pair = get_or links k d in
    let b = (linked pair.0 pair.1).0 (Contains-get_or links k d l) in
    let r = b.1 in
    let rule : IsRule (suc (length g.entries)) g.terminals g.symbols b.0 = subst (IsRule (suc (length g.entries)) g.terminals g.symbols) r.2 (formed.rules r.0 b.0 r.1) in
    let symbol : pair.0 < g.symbols = subst (λ X. X < g.symbols) (get_or_from_slice_get b.0.right b.3.0 pair.0 0 b.3.2) (rule.2.1 b.3.0 0 (slice_get_within b.0.right b.3.0 pair.0 b.3.2)).1 in
    (omega (arith, symbol, long), subst (λ n. n < length rows) (sym b.2) (let m = rule.1 in omega (arith, m, long)))

-- what begins, with a terminal behind it
module _ (g : Grammar) where
  pub null-begins : (Xs Ys : List ℕ) (t u : ℕ) → Grown g.rules 0 Xs → Begins g Ys t u → Begins g (Xs ++ Ys) t u
  null-begins _ Ys t u nothing b = b
  null-begins _ Ys t u (passes X Xs l rest) b = absurd (omega (arith, l))
  null-begins _ Ys t u (under q r X Xs is same sides rest) b = inside q r X (Xs ++ Ys) t u is same (null-begins r.right (Xs ++ Ys) t u sides (null-begins Xs Ys t u rest b))

  -- a string begins as the symbol behind its nullable front
  front-begins : (Xs Ys : List ℕ) (d Y t u : ℕ) → Grown g.rules 0 (take d Xs) → slice_get Xs d ≡ Some Y → ((Zs : List ℕ) → Begins g (Y ∷ Zs) t u) → Begins g (Xs ++ Ys) t u
  front-begins [] Ys d Y t u null at b = absurd (none-some Y at)
  front-begins (X ∷ Xs) Ys zero Y t u null at b = subst (λ Z. Begins g (Z ∷ (Xs ++ Ys)) t u) (sym (same_Some X Y at)) (b (Xs ++ Ys))
  front-begins (X ∷ Xs) Ys (suc d) Y t u (passes _ _ l rest) at b = absurd (omega (arith, l))
  front-begins (X ∷ Xs) Ys (suc d) Y t u (under q r _ _ is same sides rest) at b = inside q r X (Xs ++ Ys) t u is same (null-begins r.right (Xs ++ Ys) t u sides (front-begins Xs Ys d Y t u rest at b))

  first-begins : (X t u : ℕ) → First g X u → (Zs : List ℕ) → Begins g (X ∷ Zs) t u
  first-begins _ t _ (itself X l) Zs = here X Zs t l
  first-begins _ t _ (within q d X Y u r is left null at f) Zs = inside q r X Zs t u is left (front-begins r.right Zs d Y t u null at (first-begins Y t u f))

  pub firsts-begins : (Xs : List ℕ) (t u : ℕ) → Firsts g Xs u → Begins g Xs t u
  firsts-begins Xs t u h = subst (λ l. Begins g l t u) (append-nil Xs) (front-begins Xs [] h.0 h.1 t u h.2 h.3 (first-begins h.1 t u h.4))

  -- a joined string begins in its front, or the front is nullable
  grown-split : (Xs Ys : List ℕ) → Grown g.rules 0 (Xs ++ Ys) → Grown g.rules 0 Xs × Grown g.rules 0 Ys
  grown-split [] Ys h = (nothing, h)
  grown-split (X ∷ Xs) Ys (passes _ _ l rest) = absurd (omega (arith, l))
  grown-split (X ∷ Xs) Ys (under q r _ _ is same sides rest) = let i = grown-split Xs Ys rest in (under q r X Xs is same sides i.0, i.1)

  firsts-split : (Xs Ys : List ℕ) (d Y : ℕ) → Grown g.rules 0 (take d (Xs ++ Ys)) → slice_get (Xs ++ Ys) d ≡ Some Y → (Grown g.rules 0 (take d Xs) × (slice_get Xs d ≡ Some Y)) ⊎ (Grown g.rules 0 Xs × ((e : ℕ) × Grown g.rules 0 (take e Ys) × (slice_get Ys e ≡ Some Y)))
  firsts-split [] Ys d Y null at = inr (nothing, (d, null, at))
  firsts-split (X ∷ Xs) Ys zero Y null at = inl (nothing, at)
  firsts-split (X ∷ Xs) Ys (suc d) Y (passes _ _ l rest) at = absurd (omega (arith, l))
  firsts-split (X ∷ Xs) Ys (suc d) Y (under q r _ _ is same sides rest) at = elim (firsts-split Xs Ys d Y rest at) [
    | inl a ↦ inl (under q r X (take d Xs) is same sides a.0, a.1)
    | inr b ↦ inr (under q r X Xs is same sides b.0, b.1)
  ]

  pub begins-firsts : (Xs : List ℕ) (t u : ℕ) → Begins g Xs t u → Firsts g Xs u ⊎ (Grown g.rules 0 Xs × (u ≡ t))
  begins-firsts _ _ _ (behind t) = inr (nothing, refl)
  begins-firsts _ _ _ (here X Xs t l) = inl (0, X, nothing, refl, itself X l)
  begins-firsts _ _ _ (inside q r X Xs t u is same b) = elim (begins-firsts (r.right ++ Xs) t u b) [
    | inl f ↦ elim (firsts-split r.right Xs f.0 f.1 f.2 f.3) [
      | inl a ↦ inl (0, X, nothing, refl, within q f.0 X f.1 u r is same a.0 a.1 f.4)
      | inr k ↦ inl (suc k.1.0, f.1, under q r X (take k.1.0 Xs) is same k.0 k.1.1, k.1.2, f.4)
    ]
    | inr n ↦ (let s = grown-split r.right Xs n.0 in inr (under q r X Xs is same s.0 s.1, n.1))
  ]
