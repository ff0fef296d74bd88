-- Lemmas on links and rows that nodes have gained.
use Rattle.std.proofs.Common.{◌≡◌, ℕ, zero, suc, ◌+◌, ◌<◌, ◌≤◌, ◌⊎◌, inl, inr, Bool, false, List, [], ◌∷◌, ◌++◌, length, get_or, sym, ap, ◌∙◌, subst, arith}
use Rattle.std.specs.Prelude.{◌↔◌, Contains, All, replicate, slice_index}
use Rattle.std.proofs.lemmas.Bool.{cases_lt, false≢true}
use Rattle.std.proofs.lemmas.List.Elements.{Contains-push, Contains-push_cases, Contains-append_left, Contains-get_or}
use Rattle.sg_lalr.proofs.ClosureLemmas.{none-held}
use Rattle.sg_sets.specs.Members.{Has}
use Rattle.sg_sets.specs.Paths.{Linked}
use Rattle.sg_sets.specs.Rows.{Holds, AreRows}
use Rattle.sg_lalr.specs.Slots.{OfSome, Joined, Gained}

pub of-some-as : (slots : List ℕ) (P Q : ℕ → Type 0) → ((c : ℕ) → c < length slots → P c → Q c) → (y : ℕ) → OfSome slots P y → OfSome slots Q y
of-some-as slots P Q f y o = (o.0, o.1, f o.0 o.1 o.2, o.3)

-- one node passes
pub of-one : (slots : List ℕ) (P : ℕ → Type 0) (b : ℕ) → b < length slots → P b → ((c : ℕ) → c < length slots → P c → c ≡ b) → (y : ℕ) → OfSome slots P y ↔ (y ≡ slice_index slots b)
of-one slots P b low here only y = (λ o. o.3 ∙ ap (slice_index slots) (only o.0 o.1 o.2), λ e. (b, low, here, e))

-- a link to the row of the nodes that pass
pub joined-row : (old : List (ℕ × ℕ)) (slots : List ℕ) (a s : ℕ) (P : ℕ → Type 0) → ((y : ℕ) → OfSome slots P y ↔ (y ≡ s)) → Joined old (old ++ (slice_index slots a, s) ∷ []) slots a P
joined-row old slots a s P is x y = (
  λ h. elim (Contains-push_cases old (slice_index slots a, s) (x, y) h) [
    | inl was ↦ inl was
    | inr e ↦ inr (sym (ap (λ (p : ℕ × ℕ). p.0) e), (is y).1 (sym (ap (λ (p : ℕ × ℕ). p.1) e)))
  ],
  λ h. elim h [
    | inl older ↦ Contains-append_left old ((slice_index slots a, s) ∷ []) (x, y) older
    | inr new ↦ (let e = (is y).0 new.1 in subst (Contains (old ++ (slice_index slots a, s) ∷ [])) (λ i. (sym new.0 i, sym e i)) (Contains-push old (slice_index slots a, s)))
  ],
)

pub joined-none : (old : List (ℕ × ℕ)) (slots : List ℕ) (a : ℕ) (P : ℕ → Type 0) → ((c : ℕ) → c < length slots → P c → ⊥) → Joined old old slots a P
joined-none old slots a P none x y = (λ h. inl h, λ h. elim h [ inl older ↦ older | inr new ↦ absurd (none new.1.0 new.1.1 new.1.2) ])

pub joined-as : (old now : List (ℕ × ℕ)) (slots : List ℕ) (a : ℕ) (P Q : ℕ → Type 0) → ((c : ℕ) → c < length slots → P c ↔ Q c) → Joined old now slots a P → Joined old now slots a Q
joined-as old now slots a P Q same j x y = (
  λ h. elim ((j x y).0 h) [ inl older ↦ inl older | inr new ↦ inr (new.0, of-some-as slots P Q (λ c l. (same c l).0) y new.1) ],
  λ h. elim h [ inl older ↦ (j x y).1 (inl older) | inr new ↦ (j x y).1 (inr (new.0, of-some-as slots Q P (λ c l. (same c l).1) y new.1)) ],
)

pub joined-both : (old mid now : List (ℕ × ℕ)) (slots : List ℕ) (a : ℕ) (P Q : ℕ → Type 0) → Joined old mid slots a P → Joined mid now slots a Q → Joined old now slots a (λ c. P c ⊎ Q c)
joined-both old mid now slots a P Q j k x y = (
  λ h. elim ((k x y).0 h) [
    | inl was ↦ elim ((j x y).0 was) [ inl older ↦ inl older | inr new ↦ (let o = new.1 in inr (new.0, (o.0, o.1, inl o.2, o.3))) ]
    | inr new ↦ (let o = new.1 in inr (new.0, (o.0, o.1, inr o.2, o.3)))
  ],
  λ h. elim h [
    | inl older ↦ (k x y).1 (inl ((j x y).1 (inl older)))
    | inr new ↦ (let o = new.1 in elim (o.2) [
      | inl p ↦ (k x y).1 (inl ((j x y).1 (inr (new.0, (o.0, o.1, p, o.3)))))
      | inr q ↦ (k x y).1 (inr (new.0, (o.0, o.1, q, o.3)))
    ])
  ],
)

-- the row of the nodes that pass has gained a set
pub gained-row : (old now : List (List Bool)) (slots : List ℕ) (s : ℕ) (first : List Bool) (P : ℕ → Type 0) (Q : ℕ → ℕ → Type 0) → ((y : ℕ) → OfSome slots P y ↔ (y ≡ s)) → ((y u : ℕ) → Holds now y u ↔ (Holds old y u ⊎ ((y ≡ s) × Has first u)))
    → ((c u : ℕ) → c < length slots → (P c × Has first u) ↔ Q c u) → Gained old now slots Q
gained-row old now slots s first P Q is gains same y u = (
  λ h. elim ((gains y u).0 h) [ inl older ↦ inl older | inr new ↦ (let o = (is y).1 new.0 in inr (o.0, o.1, (same o.0 u o.1).0 (o.2, new.1), o.3)) ],
  λ h. elim h [ inl older ↦ (gains y u).1 (inl older) | inr o ↦ (let p = (same o.0 u o.1).1 o.2 in (gains y u).1 (inr ((is y).0 (o.0, o.1, p.0, o.3), p.1))) ],
)

pub gained-none : (old : List (List Bool)) (slots : List ℕ) (Q : ℕ → ℕ → Type 0) → ((c u : ℕ) → c < length slots → Q c u → ⊥) → Gained old old slots Q
gained-none old slots Q none y u = (λ h. inl h, λ h. elim h [ inl older ↦ older | inr new ↦ absurd (none new.0 u new.1 new.2) ])

-- the links of one node more
abbrev pub LinkedTo : List (ℕ × ℕ) → List ℕ → ℕ → (ℕ → ℕ → Type 0) → Type 0
LinkedTo links slots n F = (x y : ℕ) → Linked links x y ↔ ((b : ℕ) × (b < n) × (x ≡ slice_index slots b) × OfSome slots (F b) y)

pub links-more : (now next : List (ℕ × ℕ)) (slots : List ℕ) (a : ℕ) (F : ℕ → ℕ → Type 0) → LinkedTo now slots a F → Joined now next slots a (F a) → LinkedTo next slots (a + 1) F
links-more now next slots a F l gains x y = (
  λ h. elim ((gains x y).0 h) [
    | inl was ↦ (let o = (l x y).0 was in let k = o.1 in (o.0, omega (arith, k), o.2, o.3))
    | inr new ↦ (a, omega arith, new.0, new.1)
  ],
  λ h. elim (cases_lt h.0 a) [
    | inl low ↦ (gains x y).1 (inl ((l x y).1 (h.0, low, h.2, h.3)))
    | inr high ↦ (let k = h.1 in let e : h.0 ≡ a = omega (arith, k, high) in (gains x y).1 (inr (h.2 ∙ ap (slice_index slots) e, subst (λ z. OfSome slots (F z) y) e h.3)))
  ],
)

abbrev pub SeededTo : List (List Bool) → List ℕ → ℕ → (ℕ → ℕ → Type 0) → (ℕ → ℕ → ℕ → Type 0) → Type 0
SeededTo rows slots n S G = (y u : ℕ) → Holds rows y u ↔ (OfSome slots (λ c. S c u) y ⊎ ((b : ℕ) × (b < n) × OfSome slots (λ c. G b c u) y))

pub seeds-more : (now next : List (List Bool)) (slots : List ℕ) (a : ℕ) (S : ℕ → ℕ → Type 0) (G : ℕ → ℕ → ℕ → Type 0) → SeededTo now slots a S G → Gained now next slots (G a) → SeededTo next slots (a + 1) S G
seeds-more now next slots a S G s gains y u = (
  λ h. elim ((gains y u).0 h) [
    | inl was ↦ elim ((s y u).0 was) [ inl start ↦ inl start | inr given ↦ (let k = given.1 in inr (given.0, omega (arith, k), given.2)) ]
    | inr new ↦ inr (a, omega arith, new)
  ],
  λ h. elim h [
    | inl start ↦ (gains y u).1 (inl ((s y u).1 (inl start)))
    | inr given ↦ elim (cases_lt given.0 a) [
      | inl low ↦ (gains y u).1 (inl ((s y u).1 (inr (given.0, low, given.2))))
      | inr high ↦ (let k = given.1 in let e : given.0 ≡ a = omega (arith, k, high) in (gains y u).1 (inr (subst (λ z. OfSome slots (λ c. G z c u) y) e given.2)))
    ]
  ],
)

-- rows with nothing in them
pub rows-none : (n m x y : ℕ) → Holds (replicate n (replicate m false)) x y → ⊥
rows-none zero m x y h = false≢true h
rows-none (suc n) m zero y h = none-held m y h
rows-none (suc n) m (suc x) y h = rows-none n m x y h

-- both ends of a link are rows
pub links-rows : (links : List (ℕ × ℕ)) (slots : List ℕ) (rows : List (List Bool)) (n : ℕ) (F : ℕ → ℕ → Type 0) → LinkedTo links slots n F → n ≤ length slots → ((m : ℕ) → m < length slots → slice_index slots m < length rows) → All (AreRows rows) links
links-rows links slots rows n F linked few within k d l =
    let h = (linked (get_or links k d).0 (get_or links k d).1).0 (Contains-get_or links k d l) in
    let b = h.1 in
    let low = within h.0 (omega (arith, b, few)) in
    let high = within h.3.0 h.3.1 in
    let from = h.2 in
    let to = h.3.3 in
    (omega (arith, low, from), omega (arith, high, to))

-- the rows of the first nodes that pass have gained lookaheads
abbrev pub GainedTo : List (List Bool) → List (List Bool) → List ℕ → ℕ → (ℕ → ℕ → Type 0) → Type 0
GainedTo old now slots a P = (y u : ℕ) → Holds now y u ↔ (Holds old y u ⊎ ((c : ℕ) × (c < a) × P c u × (y ≡ slice_index slots c)))

pub gained-to-more : (old now next : List (List Bool)) (slots : List ℕ) (a t : ℕ) (P : ℕ → Type 0) → P a → GainedTo old now slots a (λ c u. P c × (u ≡ t)) → ((y u : ℕ) → Holds next y u ↔ (Holds now y u ⊎ ((y ≡ slice_index slots a) × (u ≡ t)))) → GainedTo old next slots (a + 1) (λ c u. P c × (u ≡ t))
gained-to-more old now next slots a t P here g gains y u = (
  λ h. elim ((gains y u).0 h) [
    | inl was ↦ elim ((g y u).0 was) [ inl older ↦ inl older | inr new ↦ (let l = new.1 in inr (new.0, omega (arith, l), new.2, new.3)) ]
    | inr new ↦ inr (a, omega arith, (here, new.1), new.0)
  ],
  λ h. elim h [
    | inl older ↦ (gains y u).1 (inl ((g y u).1 (inl older)))
    | inr new ↦ elim (cases_lt new.0 a) [
      | inl low ↦ (gains y u).1 (inl ((g y u).1 (inr (new.0, low, new.2, new.3))))
      | inr high ↦ (let l = new.1 in let e : new.0 ≡ a = omega (arith, l, high) in (gains y u).1 (inr (new.3 ∙ ap (slice_index slots) e, new.2.1)))
    ]
  ],
)

pub gained-to-same : (old now : List (List Bool)) (slots : List ℕ) (a t : ℕ) (P : ℕ → Type 0) → (P a → ⊥) → GainedTo old now slots a (λ c u. P c × (u ≡ t)) → GainedTo old now slots (a + 1) (λ c u. P c × (u ≡ t))
gained-to-same old now slots a t P none g y u = (
  λ h. elim ((g y u).0 h) [ inl older ↦ inl older | inr new ↦ (let l = new.1 in inr (new.0, omega (arith, l), new.2, new.3)) ],
  λ h. elim h [
    | inl older ↦ (g y u).1 (inl older)
    | inr new ↦ elim (cases_lt new.0 a) [
      | inl low ↦ (g y u).1 (inr (new.0, low, new.2, new.3))
      | inr high ↦ (let l = new.1 in absurd (none (subst P (let e : new.0 ≡ a = omega (arith, l, high) in e) new.2.0)))
    ]
  ],
)

pub gained-to-all : (old now : List (List Bool)) (slots : List ℕ) (a : ℕ) (P : ℕ → ℕ → Type 0) → a ≡ length slots → GainedTo old now slots a P → Gained old now slots P
gained-to-all old now slots a P all g y u = (
  λ h. elim ((g y u).0 h) [ inl older ↦ inl older | inr new ↦ (let l = new.1 in inr (new.0, omega (arith, l, all), new.2, new.3)) ],
  λ h. elim h [ inl older ↦ (g y u).1 (inl older) | inr o ↦ (let l = o.1 in (g y u).1 (inr (o.0, omega (arith, l, all), o.2, o.3))) ],
)
