-- Lemmas on conflicts within a state.
use Rattle.std.proofs.Common.{◌≡◌, ◌≢◌, ℕ, ◌+◌, ◌<◌, ◌≤◌, ◌⊎◌, inl, inr, Bool, true, false, List, length, set, refl, sym, ap, ◌∙◌, subst, arith, Option, Some, None}
use Rattle.std.specs.Prelude.{◌↔◌, is_some, not, IfNone, IfSome}
use Rattle.std.proofs.lemmas.Bool.{cases_lt}
use Rattle.std.proofs.lemmas.Option.{same_Some, none-some}
use Rattle.sg_sets.specs.Members.{Has}
use Rattle.sg_sets.specs.Rows.{Holds}
use Rattle.sg_grammar.specs.Grammar.{Grammar}
use Rattle.sg_lalr.specs.declared.lookaheads.Node.{Node}
use Rattle.sg_lalr.specs.declared.conflict.Deed.{Deed}
use Rattle.sg_lalr.specs.declared.conflict.Deed.TheVariants.{Shifts, Reduces}
use Rattle.sg_lalr.specs.Items.{symbol_of}
use Rattle.sg_lalr.specs.Lookaheads.{node_at}
use Rattle.sg_lalr.specs.Clashes.{Does, Clashes, IsApart, ShiftsThere, ReducesThere}
use Rattle.sg_lalr.proofs.LeastLemmas.{Has-kept, Has-new, Has-was}

module _ (g : Grammar) (nodes : List Node) (from : ℕ) where
  -- the terminals that are shifted up to a place
  abbrev pub Shifted : List Bool → List Bool → ℕ → Type 0
  Shifted old now m = (length now ≡ g.terminals) × ((t : ℕ) → Has now t ↔ (Has old t ⊎ ((t < g.terminals) × ShiftsThere g nodes from m t)))

  pub shifted-more : (old now : List Bool) (m x : ℕ) → from ≤ m → symbol_of g (node_at nodes m).item ≡ Some x → x < g.terminals → Shifted old now m → (t : ℕ) → Has (set now x true) t ↔ (Has old t ⊎ ((t < g.terminals) × ShiftsThere g nodes from (m + 1) t))
  shifted-more old now m x low symbol small s t = (
    λ h. elim (Has-was now x t h) [
      | inl e ↦ inr (omega (arith, e, small), (m, low, omega arith, symbol ∙ ap Some (sym e)))
      | inr was ↦ elim ((s.1 t).0 was) [ inl older ↦ inl older | inr new ↦ (let l = new.1.2 in inr (new.0, (new.1.0, new.1.1, omega (arith, l), new.1.3))) ]
    ],
    λ h. elim h [
      | inl older ↦ Has-kept now x t (let w = s.0 in omega (arith, w, small)) ((s.1 t).1 (inl older))
      | inr new ↦ elim (cases_lt new.1.0 m) [
        | inl before ↦ Has-kept now x t (let w = s.0 in omega (arith, w, small)) ((s.1 t).1 (inr (new.0, (new.1.0, new.1.1, before, new.1.3))))
        | inr after ↦
            let l = new.1.2 in
            let is : new.1.0 ≡ m = omega (arith, l, after) in
            let e : x ≡ t = same_Some x t (sym symbol ∙ ap (λ k. symbol_of g (node_at nodes k).item) (sym is) ∙ new.1.3) in
            subst (Has (set now x true)) e (Has-new now x (let w = s.0 in omega (arith, w, small)))
      ]
    ],
  )

  pub shifted-same : (old now : List Bool) (m : ℕ) → ((x : ℕ) → x < g.terminals → symbol_of g (node_at nodes m).item ≡ Some x → ⊥) → Shifted old now m → (t : ℕ) → Has now t ↔ (Has old t ⊎ ((t < g.terminals) × ShiftsThere g nodes from (m + 1) t))
  shifted-same old now m none s t = (
    λ h. elim ((s.1 t).0 h) [ inl older ↦ inl older | inr new ↦ (let l = new.1.2 in inr (new.0, (new.1.0, new.1.1, omega (arith, l), new.1.3))) ],
    λ h. elim h [
      | inl older ↦ (s.1 t).1 (inl older)
      | inr new ↦ elim (cases_lt new.1.0 m) [
        | inl before ↦ (s.1 t).1 (inr (new.0, (new.1.0, new.1.1, before, new.1.3)))
        | inr after ↦ absurd (let l = new.1.2 in let is : new.1.0 ≡ m = omega (arith, l, after) in none t new.0 (ap (λ k. symbol_of g (node_at nodes k).item) (sym is) ∙ new.1.3))
      ]
    ],
  )

module _ (g : Grammar) (nodes : List Node) (rows : List (List Bool)) (from to : ℕ) where
  -- a completed node that reduces on a terminal which is shifted, or on which an earlier one reduces
  abbrev pub PairAt : ℕ → ℕ → Type 0
  PairAt r t = (from ≤ r) × (symbol_of g (node_at nodes r).item ≡ None) × Holds rows r t × ((t < g.terminals) × (ShiftsThere g nodes from to t ⊎ ReducesThere g nodes rows from r t))

  pub record Taking (taken : List Bool) (best m : ℕ) : Type 0 where
    pub width : length taken ≡ g.terminals
    pub has : (t : ℕ) → Has taken t ↔ (((t < g.terminals) × ShiftsThere g nodes from to t) ⊎ ReducesThere g nodes rows from m t)
    pub least : (t r : ℕ) → r < m → PairAt r t → best ≤ t
    pub found : best < g.terminals → (r : ℕ) × (r < m) × PairAt r best
    pub within : best ≤ g.terminals

  reduces-later : (m t : ℕ) → ReducesThere g nodes rows from m t → ReducesThere g nodes rows from (m + 1) t
  reduces-later m t h = let l = h.2 in (h.0, h.1, omega (arith, l), h.3, h.4)

  pub taking-more : (taken next : List Bool) (best better m : ℕ) → from ≤ m → m < to → symbol_of g (node_at nodes m).item ≡ None → ((t : ℕ) → Holds rows m t → t < g.terminals) → length next ≡ length taken → ((t : ℕ) → Has next t ↔ (Has taken t ⊎ Holds rows m t))
      → ((t : ℕ) → Has taken t → Holds rows m t → better ≤ t) → better ≤ best → (better ≡ best) ⊎ (Has taken better × Holds rows m better) → Taking taken best m → Taking next better (m + 1)
  taking-more taken next best better m low high none small wide joins less below either k = record {
    width = wide ∙ k.width;
    has = λ t. (
      λ h. elim ((joins t).0 h) [
        | inl was ↦ elim ((k.has t).0 was) [ inl s ↦ inl s | inr r ↦ inr (reduces-later m t r) ]
        | inr new ↦ inr (m, low, omega arith, none, new)
      ],
      λ h. elim h [
        | inl s ↦ (joins t).1 (inl ((k.has t).1 (inl s)))
        | inr r ↦ elim (cases_lt r.0 m) [
          | inl before ↦ (joins t).1 (inl ((k.has t).1 (inr (r.0, r.1, before, r.3, r.4))))
          | inr after ↦ (joins t).1 (inr (subst (λ z. Holds rows z t) (let l = r.2 in let e : r.0 ≡ m = omega (arith, l, after) in e) r.4))
        ]
      ],
    );
    least = λ t r l p. elim (cases_lt r m) [
      | inl before ↦ (let b = k.least t r before p in omega (arith, b, below))
      | inr after ↦
          let is : r ≡ m = omega (arith, l, after) in
          let q = subst (λ z. PairAt z t) is p in
          less t ((k.has t).1 (elim (q.3.1) [ inl s ↦ inl (q.3.0, s) | inr d ↦ inr d ])) q.2
    ];
    found = λ l. elim either [
      | inl e ↦ (let f = k.found (omega (arith, l, e)) in let b = f.1 in (f.0, omega (arith, b), subst (PairAt f.0) (sym e) f.2))
      | inr new ↦ (m, omega arith, (low, none, new.1, (l, elim ((k.has better).0 new.0) [ inl s ↦ inl s.1 | inr r ↦ inr r ])))
    ];
    within = let w = k.within in omega (arith, w, below);
  }

  pub taking-same : (taken : List Bool) (best m : ℕ) → (symbol_of g (node_at nodes m).item ≡ None → ⊥) → Taking taken best m → Taking taken best (m + 1)
  taking-same taken best m some k = record {
    width = k.width;
    within = k.within;
    has = λ t. (
      λ h. elim ((k.has t).0 h) [ inl s ↦ inl s | inr r ↦ inr (reduces-later m t r) ],
      λ h. elim h [
        | inl s ↦ (k.has t).1 (inl s)
        | inr r ↦ elim (cases_lt r.0 m) [
          | inl before ↦ (k.has t).1 (inr (r.0, r.1, before, r.3, r.4))
          | inr after ↦ absurd (some (subst (λ z. symbol_of g (node_at nodes z).item ≡ None) (let l = r.2 in let e : r.0 ≡ m = omega (arith, l, after) in e) r.3))
        ]
      ],
    );
    least = λ t r l p. elim (cases_lt r m) [
      | inl before ↦ k.least t r before p
      | inr after ↦ absurd (some (subst (λ z. symbol_of g (node_at nodes z).item ≡ None) (let e : r ≡ m = omega (arith, l, after) in e) p.1))
    ];
    found = λ l. let f = k.found l in let b = f.1 in (f.0, omega (arith, b), f.2);
  }

  -- such a pair is a conflict, and each conflict has one
  pub pair-clashes : IsApart g nodes from to → (r t : ℕ) → r < to → PairAt r t → Clashes g nodes rows from to t
  pair-clashes apart r t high p = elim (p.3.1) [
    | inl s ↦ record {
      terminal = p.3.0;
      one = s.0;
      other = r;
      does = Shifts;
      differs = Reduces (node_at nodes r).item.production;
      one_above = s.1;
      one_below = s.2;
      other_above = p.0;
      other_below = high;
      acts = s.3;
      acts_too = (refl, p.1, p.2);
      different = λ e. cc;
    }
    | inr d ↦ record {
      terminal = p.3.0;
      one = d.0;
      other = r;
      does = Reduces (node_at nodes d.0).item.production;
      differs = Reduces (node_at nodes r).item.production;
      one_above = d.1;
      one_below = (let l = d.2 in omega (arith, l, high));
      other_above = p.0;
      other_below = high;
      acts = (refl, d.3, d.4);
      acts_too = (refl, p.1, p.2);
      different = λ e. apart d.0 r d.1 d.2 high d.3 p.1 (let q : (node_at nodes d.0).item.production ≡ (node_at nodes r).item.production = cc in q);
    }
  ]

  clash-by : (t m n : ℕ) (a b : Deed) → t < g.terminals → from ≤ m → m < to → from ≤ n → n < to → Does g nodes rows t m a → Does g nodes rows t n b → a ≢ b → (r : ℕ) × (r < to) × PairAt r t
  clash-by t m n Shifts Shifts term l h k j x y apart = absurd (apart refl)
  clash-by t m n Shifts (Reduces q) term l h k j x y apart = (n, j, (k, y.1, y.2, (term, inl (m, l, h, x))))
  clash-by t m n (Reduces p) Shifts term l h k j x y apart = (m, h, (l, x.1, x.2, (term, inl (n, k, j, y))))
  clash-by t m n (Reduces p) (Reduces q) term l h k j x y apart = elim (cases_lt m n) [
    | inl less ↦ (n, j, (k, y.1, y.2, (term, inr (m, l, less, x.1, x.2))))
    | inr ge ↦ elim (cases_lt n m) [
      | inl more ↦ (m, h, (l, x.1, x.2, (term, inr (n, k, more, y.1, y.2))))
      | inr le ↦ absurd (apart (ap Reduces (x.0 ∙ ap (λ z. (node_at nodes z).item.production) (let e : m ≡ n = omega (arith, ge, le) in e) ∙ sym y.0)))
    ]
  ]

  pub clash-pair : (t : ℕ) → Clashes g nodes rows from to t → (r : ℕ) × (r < to) × PairAt r t
  clash-pair t c = clash-by t c.one c.other c.does c.differs c.terminal c.one_above c.one_below c.other_above c.other_below c.acts c.acts_too c.different

pub is_none-None : {A : Type 0} (o : Option A) (b : Bool) → is_some o ≡ not b → b ≡ true → o ≡ None
is_none-None None b e h = refl
is_none-None (Some x) true e h = cc
is_none-None (Some x) false e h = cc

pub is_none-Some : {A : Type 0} (o : Option A) (b : Bool) → is_some o ≡ not b → b ≡ false → o ≡ None → ⊥
is_none-Some None true e h k = cc
is_none-Some None false e h k = cc
is_none-Some (Some x) b e h k = cc

pub lesser-all : (found : Option ℕ) (better : ℕ) (S : ℕ → Type 0) → IfNone found ((a : ℕ) → ¬ (S a)) → IfSome found (λ m. (a : ℕ) → S a → m ≤ a) → IfSome found (λ x. better ≤ x) → (a : ℕ) → S a → better ≤ a
lesser-all None better S none least less a s = absurd (none a s)
lesser-all (Some x) better S none least less a s = let l = least a s in omega (arith, l, less)

pub some-shared : (found : Option ℕ) (S : ℕ → Type 0) (x : ℕ) → found ≡ Some x → IfSome found S → S x
some-shared None S x e h = absurd (none-some x e)
some-shared (Some y) S x e h = subst S (same_Some y x e) h
