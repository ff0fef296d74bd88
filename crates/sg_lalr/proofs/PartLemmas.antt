-- Lemmas on the part of the automaton that was found.
use Rattle.std.proofs.Common.{◌≡◌, ◌≢◌, ℕ, zero, suc, ◌+◌, ◌<◌, ◌≤◌, inl, inr, cond, List, [], ◌∷◌, ◌++◌, length, get_or, refl, sym, ap, ◌∙◌, subst, arith}
use Rattle.std.specs.Prelude.{Contains, All, nat_eq}
use Rattle.std.proofs.lemmas.Bool.{cases_lt, eq-eqb, ne_eqb}
use Rattle.std.proofs.lemmas.List.{get_or_append_left, get_or_push, get_or_default, length_push}
use Rattle.std.proofs.lemmas.List.Elements.{All-push, All-contains, Contains-get_or}
use Rattle.std.proofs.lemmas.List.Quantifiers.{all_pairs_push}
use Rattle.sg_grammar.specs.Grammar.{Grammar}
use Rattle.sg_lalr.specs.declared.states.Move.{Move}
use Rattle.sg_lalr.specs.declared.states.Origin.{Origin}
use Rattle.sg_lalr.specs.Items.{Item, item, HasNext, advance, Before, IsRising}
use Rattle.sg_lalr.specs.Closure.{InRange, IsKernel, IsClosure}
use Rattle.sg_lalr.specs.Automaton.{row_at, moves_at, leads_to, goto, starts_from, start_items, origin, Earlier, NotLater, IsBehind, origin_at, IsSorted, ComesFrom, IsPart, Entered, Overflows}
use Rattle.sg_lalr.proofs.RisingLemmas.{advance-from, advance-rising, All-contained, pairs-nil, pairs-cons, Contains-nil}
use Rattle.sg_lalr.proofs.StartLemmas.{starts-from}

pub row_at-front : (rows : List (List Item)) (row : List Item) (s : ℕ) → s < length rows → row_at (rows ++ row ∷ []) s ≡ row_at rows s
row_at-front rows row s low = get_or_append_left rows (row ∷ []) [] s low

pub row_at-last : (rows : List (List Item)) (row : List Item) (s : ℕ) → length rows ≡ s → row_at (rows ++ row ∷ []) s ≡ row
row_at-last rows row s is = get_or_push rows row [] s is

leads_to-other : (row : List Move) (m : Move) (X : ℕ) → (m.symbol ≡ X → ⊥) → leads_to (row ++ m ∷ []) X ≡ leads_to row X
leads_to-other [] m X apart = ap (λ b. cond b m.target 0) (ne_eqb m.symbol X apart)
leads_to-other (n ∷ row) m X apart = ap (λ t. cond (nat_eq n.symbol X) n.target t) (leads_to-other row m X apart)

leads_to-last : (row : List Move) (m : Move) (X : ℕ) → m.symbol ≡ X → All (λ (n : Move). n.symbol < X) row → leads_to (row ++ m ∷ []) X ≡ m.target
leads_to-last [] m X is below = ap (λ b. cond b m.target 0) (eq-eqb m.symbol X is)
leads_to-last (n ∷ row) m X is below =
    let l : n.symbol < X = below 0 n (omega arith) in
    ap (λ b. cond b n.target (leads_to (row ++ m ∷ []) X)) (ne_eqb n.symbol X (λ e. omega (arith, l, e))) ∙ leads_to-last row m X is (λ k d b. below (suc k) d (omega (arith, b)))

-- a kernel that lies behind a symbol
pub advance-kernel : (g : Grammar) (X : ℕ) (kernel core : List Item) → IsClosure g kernel core → IsKernel g (advance g X core)
advance-kernel g X kernel core c = record {
  rising = advance-rising g X core c.rising;
  within = All-contained (InRange g) (advance g X core) (λ j m. let f = advance-from g X core j m in subst (InRange g) (sym f.3) (All-contains (InRange g) core f.0 c.within f.1));
  dots = All-contained (λ (i : Item). i.production < length g.rules → 0 < i.dot) (advance g X core) (λ j m. let f = advance-from g X core j m in λ low. subst (λ (i : Item). 0 < i.dot) (sym f.3) (omega arith));
}

behind-more : (g : Grammar) (kernels : List (List Item)) (kernel core : List Item) (X v : ℕ) → IsBehind g kernels core X v → IsBehind g (kernels ++ kernel ∷ []) core X v
behind-more g kernels kernel core X v b = (let l = b.0 in omega (arith, l, length_push kernels kernel), row_at-front kernels kernel v b.0 ∙ b.1)

origin_at-front : (origins : List Origin) (o : Origin) (k : ℕ) → k < length origins → origin_at (origins ++ o ∷ []) k ≡ origin_at origins k
origin_at-front origins o k low = get_or_append_left origins (o ∷ []) (origin 0 0) k low

origin_at-last : (origins : List Origin) (o : Origin) (k : ℕ) → length origins ≡ k → origin_at (origins ++ o ∷ []) k ≡ o
origin_at-last origins o k is = get_or_push origins o (origin 0 0) k is

module _ (g : Grammar) where
  -- with the core of the next state
  pub part-core : (kernels cores : List (List Item)) (moves : List (List Move)) (origins : List Origin) (core : List Item) → IsPart g kernels cores moves origins → length cores < length kernels → IsClosure g (row_at kernels (length cores)) core → IsPart g kernels (cores ++ core ∷ []) moves origins
  part-core kernels cores moves origins core p low c = record {
    some = p.some;
    first = p.first;
    kernel = p.kernel;
    count = p.count;
    distinct = p.distinct;
    rising = p.rising;
    sorted = p.sorted;
    few = omega (arith, low, length_push cores core);
    closed = λ s l. elim (cases_lt s (length cores)) [
      | inl before ↦ subst (IsClosure g (row_at kernels s)) (sym (row_at-front cores core s before)) (p.closed s before)
      | inr after ↦
          let is : length cores ≡ s = omega (arith, l, after, length_push cores core) in
          subst (IsClosure g (row_at kernels s)) (sym (row_at-last cores core s is)) (subst (λ t. IsClosure g (row_at kernels t) core) is c)
    ];
    expanded = let e = p.expanded in omega (arith, e, length_push cores core);
    only = λ s l. subst (λ row. All (λ (m : Move). HasNext g row m.symbol) (moves_at moves s)) (sym (old s l)) (p.only s l);
    leads = λ s X l h. subst (λ row. IsBehind g kernels row X (goto moves s X)) (sym (old s l)) (p.leads s X l (subst (λ row. HasNext g row X) (old s l) h));
    comes = λ k l. let c = p.comes k l in record {
      earlier = c.earlier;
      expanded = let e = c.expanded in omega (arith, e, length_push cores core);
      next = subst (λ row. HasNext g row (origin_at origins k).symbol) (sym (row_at-front cores core (origin_at origins k).state c.expanded)) c.next;
      behind = c.behind ∙ ap (advance g (origin_at origins k).symbol) (sym (row_at-front cores core (origin_at origins k).state c.expanded));
    };
    earliest = λ s X k l h t. p.earliest s X k l (subst (λ row. HasNext g row X) (old s l) h) t;
  }
    where
      old : (s : ℕ) → s < length moves → row_at (cores ++ core ∷ []) s ≡ row_at cores s
      old = λ s l. row_at-front cores core s (let e = p.expanded in omega (arith, l, e))

  -- with one kernel more
  pub part-kernel : (kernels cores : List (List Item)) (moves : List (List Move)) (origins : List Origin) (s X : ℕ) → IsPart g kernels cores moves origins → s < length cores → HasNext g (row_at cores s) X → All (λ o. Earlier o (origin s X)) origins
      → (Contains kernels (advance g X (row_at cores s)) → ⊥) → IsPart g (kernels ++ advance g X (row_at cores s) ∷ []) cores moves (origins ++ origin s X ∷ [])
  part-kernel kernels cores moves origins s X p low next before absent = record {
    some = let l = p.some in omega (arith, l, long);
    first = row_at-front kernels kernel 0 p.some ∙ p.first;
    kernel = λ v l. elim (cases_lt v (length kernels)) [
      | inl early ↦ subst (IsKernel g) (sym (row_at-front kernels kernel v early)) (p.kernel v early)
      | inr late ↦ subst (IsKernel g) (sym (row_at-last kernels kernel v (omega (arith, l, late, long)))) (advance-kernel g X (row_at kernels s) (row_at cores s) (p.closed s low))
    ];
    few = let f = p.few in omega (arith, f, long);
    closed = λ t l. subst (λ k. IsClosure g k (row_at cores t)) (sym (row_at-front kernels kernel t (let f = p.few in omega (arith, f, l)))) (p.closed t l);
    expanded = p.expanded;
    sorted = p.sorted;
    only = p.only;
    leads = λ t Y l h. behind-more g kernels kernel (row_at cores t) Y (goto moves t Y) (p.leads t Y l h);
    count = let c = p.count in omega (arith, c, long, length_push origins (origin s X));
    comes = λ k l. elim (cases_lt k (length origins)) [
      | inl early ↦ subst (ComesFrom g (kernels ++ kernel ∷ []) cores k) (sym (origin_at-front origins (origin s X) k early)) (let c = p.comes k early in record {
        earlier = c.earlier;
        expanded = c.expanded;
        next = c.next;
        behind = row_at-front kernels kernel (suc k) (let n = p.count in omega (arith, n, early)) ∙ c.behind;
      })
      | inr late ↦
          let is : length origins ≡ k = omega (arith, l, late, length_push origins (origin s X)) in
          subst (ComesFrom g (kernels ++ kernel ∷ []) cores k) (sym (origin_at-last origins (origin s X) k is)) record {
            earlier = let f = p.few in let n = p.count in omega (arith, f, n, low, is);
            expanded = low;
            next = next;
            behind = row_at-last kernels kernel (suc k) (let n = p.count in omega (arith, n, is));
          }
    ];
    distinct = all_pairs_push ◌≢◌ kernels kernel p.distinct (λ k d l e. absent (subst (Contains kernels) e (Contains-get_or kernels k d l)));
    rising = all_pairs_push Earlier origins (origin s X) p.rising (λ k d l. before k d l);
    earliest = λ t Y k l h is. subst (λ o. NotLater o (origin t Y)) (sym (origin_at-front origins (origin s X) k (let b = (p.leads t Y l h).0 in let n = p.count in omega (arith, b, n, is)))) (p.earliest t Y k l h is);
  }
    where
      kernel : List Item
      kernel = advance g X (row_at cores s)

      long : length (kernels ++ advance g X (row_at cores s) ∷ []) ≡ length kernels + 1
      long = length_push kernels (advance g X (row_at cores s))

  -- how far the moves of state s are found: those on the symbols below b
  pub record Expanding (kernels cores : List (List Item)) (moves : List (List Move)) (origins : List Origin) (row : List Move) (s b : ℕ) : Type 0 where
    pub part : IsPart g kernels cores moves origins
    pub here : s < length cores
    pub leads : (X : ℕ) → X < b → HasNext g (row_at cores s) X → IsBehind g kernels (row_at cores s) X (leads_to row X)
    pub earliest : (X k : ℕ) → X < b → HasNext g (row_at cores s) X → leads_to row X ≡ suc k → NotLater (origin_at origins k) (origin s X)
    pub before : All (λ o. Earlier o (origin s b)) origins
    pub symbols : All (λ (m : Move). m.symbol < b) row
    pub only : All (λ (m : Move). HasNext g (row_at cores s) m.symbol) row
    pub sorted : IsSorted row

  earlier-next : (o : Origin) (s b c : ℕ) → b < c → Earlier o (origin s b) → Earlier o (origin s c)
  earlier-next o s b c l e = elim e [ inl a ↦ inl a | inr h ↦ inr (h.0, (let k = h.1 in omega (arith, k, l))) ]

  pub expanding-none : (kernels cores : List (List Item)) (moves : List (List Move)) (origins : List Origin) (s b : ℕ) → IsPart g kernels cores moves origins → s < length cores → ((X : ℕ) → HasNext g (row_at cores s) X → b ≤ X) → All (λ (o : Origin). o.state < s) origins → Expanding kernels cores moves origins [] s b
  expanding-none kernels cores moves origins s b p low none before = record {
    part = p;
    here = low;
    leads = λ X l h. absurd (let k = none X h in omega (arith, k, l));
    earliest = λ X k l h. absurd (let k = none X h in omega (arith, k, l));
    before = λ k d l. inl (before k d l);
    symbols = λ k d l. absurd (omega (arith, l));
    only = λ k d l. absurd (omega (arith, l));
    sorted = pairs-nil (λ (i j : Move). i.symbol < j.symbol);
  }

  -- the row with one move more, where the kernels have that behind it
  row-more : (kernels cores : List (List Item)) (moves : List (List Move)) (origins : List Origin) (row : List Move) (s x y v : ℕ) → IsPart g kernels cores moves origins → s < length cores
      → ((X : ℕ) → X < x → HasNext g (row_at cores s) X → IsBehind g kernels (row_at cores s) X (leads_to row X)) → ((X k : ℕ) → X < x → HasNext g (row_at cores s) X → leads_to row X ≡ suc k → NotLater (origin_at origins k) (origin s X))
      → All (λ o. Earlier o (origin s y)) origins → All (λ (m : Move). m.symbol < x) row → All (λ (m : Move). HasNext g (row_at cores s) m.symbol) row → HasNext g (row_at cores s) x → IsSorted row → x < y → ((X : ℕ) → suc x ≤ X → HasNext g (row_at cores s) X → y ≤ X)
      → IsBehind g kernels (row_at cores s) x v → ((k : ℕ) → v ≡ suc k → NotLater (origin_at origins k) (origin s x)) → Expanding kernels cores moves origins (row ++ record { symbol = x; target = v } ∷ []) s y
  row-more kernels cores moves origins row s x y v p low leads earliest before below only next sorted less least behind first = record {
    part = p;
    here = low;
    before = before;
    leads = λ X l h. elim (cases_lt X x) [
      | inl old ↦ subst (IsBehind g kernels (row_at cores s) X) (sym (leads_to-other row m X (λ e. omega (arith, e, old)))) (leads X old h)
      | inr new ↦
          let is : x ≡ X = same X l h new in
          subst (IsBehind g kernels (row_at cores s) X) (sym (leads_to-last row m X is (subst (λ z. All (λ (n : Move). n.symbol < z) row) is below))) (subst (λ z. IsBehind g kernels (row_at cores s) z v) is behind)
    ];
    earliest = λ X k l h t. elim (cases_lt X x) [
      | inl old ↦ earliest X k old h (sym (leads_to-other row m X (λ e. omega (arith, e, old))) ∙ t)
      | inr new ↦
          let is : x ≡ X = same X l h new in
          subst (λ z. NotLater (origin_at origins k) (origin s z)) is (first k (sym (leads_to-last row m X is (subst (λ z. All (λ (n : Move). n.symbol < z) row) is below)) ∙ t))
    ];
    symbols = All-push (λ (n : Move). n.symbol < y) row m (λ k d l. let b = below k d l in omega (arith, b, less)) less;
    only = All-push (λ (n : Move). HasNext g (row_at cores s) n.symbol) row m only next;
    sorted = all_pairs_push (λ (i j : Move). i.symbol < j.symbol) row m sorted (λ k d l. below k d l);
  }
    where
      m : Move
      m = record { symbol = x; target = v }

      same : (X : ℕ) → X < y → HasNext g (row_at cores s) X → x ≤ X → x ≡ X
      same = λ X l h new. elim (cases_lt x X) [ inl above ↦ absurd (let k = least X (omega (arith, above)) h in omega (arith, k, l)) | inr k ↦ omega (arith, k, new) ]

  pub expanding-more : (kernels more cores : List (List Item)) (moves : List (List Move)) (origins others : List Origin) (row : List Move) (s x y v : ℕ) → Expanding kernels cores moves origins row s x → HasNext g (row_at cores s) x → x < y → ((X : ℕ) → suc x ≤ X → HasNext g (row_at cores s) X → y ≤ X)
      → Entered kernels more origins others (advance g x (row_at cores s)) (origin s x) v → Expanding more cores moves others (row ++ record { symbol = x; target = v } ∷ []) s y
  expanding-more kernels more cores moves origins others row s x y v e next less least (inl old) =
      subst (λ ks. Expanding ks cores moves others (row ++ record { symbol = x; target = v } ∷ []) s y) (sym old.0) (subst (λ os. Expanding kernels cores moves os (row ++ record { symbol = x; target = v } ∷ []) s y) (sym old.1)
      (row-more kernels cores moves origins row s x y v e.part e.here e.leads e.earliest (λ k d l. earlier-next (get_or origins k d) s x y less (e.before k d l)) e.symbols e.only next e.sorted less least (old.2, old.3)
      (λ k is. inl (subst (λ o. Earlier o (origin s x)) refl (e.before k (origin 0 0) (let l = old.2 in let n = e.part.count in omega (arith, l, n, is)))))))
  expanding-more kernels more cores moves origins others row s x y v e next less least (inr new) =
      subst (λ ks. Expanding ks cores moves others (row ++ record { symbol = x; target = v } ∷ []) s y) (sym new.0) (subst (λ os. Expanding (kernels ++ kernel ∷ []) cores moves os (row ++ record { symbol = x; target = v } ∷ []) s y) (sym new.1)
      (row-more (kernels ++ kernel ∷ []) cores moves (origins ++ origin s x ∷ []) row s x y v (part-kernel kernels cores moves origins s x e.part e.here next e.before new.3) e.here
      (λ X l h. behind-more g kernels kernel (row_at cores s) X (leads_to row X) (e.leads X l h))
      (λ X k l h is. subst (λ o. NotLater o (origin s X)) (sym (origin_at-front origins (origin s x) k (let b = (e.leads X l h).0 in let n = e.part.count in omega (arith, b, n, is)))) (e.earliest X k l h is))
      (All-push (λ o. Earlier o (origin s y)) origins (origin s x) (λ k d l. earlier-next (get_or origins k d) s x y less (e.before k d l)) (inr (refl, less)))
      e.symbols e.only next e.sorted less least
      (let n = new.2 in omega (arith, n, length_push kernels kernel), row_at-last kernels kernel v (sym new.2))
      (λ k is. inr (let o : origin_at (origins ++ origin s x ∷ []) k ≡ origin s x = origin_at-last origins (origin s x) k (let c = e.part.count in let n = new.2 in omega (arith, c, n, is)) in (ap (λ (p : Origin). p.state) o, ap (λ (p : Origin). p.symbol) o)))))
    where
      kernel : List Item
      kernel = advance g x (row_at cores s)

  -- with the moves of the next state
  pub part-row : (kernels cores : List (List Item)) (moves : List (List Move)) (origins : List Origin) (row : List Move) (b : ℕ) → Expanding kernels cores moves origins row (length moves) b → ((X : ℕ) → HasNext g (row_at cores (length moves)) X → X < b) → IsPart g kernels cores (moves ++ row ∷ []) origins
  part-row kernels cores moves origins row b e all = record {
    some = p.some;
    first = p.first;
    kernel = p.kernel;
    few = p.few;
    closed = p.closed;
    count = p.count;
    comes = p.comes;
    distinct = p.distinct;
    rising = p.rising;
    expanded = let l = e.here in omega (arith, l, length_push moves row);
    sorted = λ s l. elim (cases_lt s (length moves)) [
      | inl old ↦ subst IsSorted (sym (get_or_append_left moves (row ∷ []) [] s old)) (p.sorted s old)
      | inr late ↦ subst IsSorted (sym (get_or_push moves row [] s (omega (arith, l, late, length_push moves row)))) e.sorted
    ];
    only = λ s l. elim (cases_lt s (length moves)) [
      | inl old ↦ subst (All (λ (m : Move). HasNext g (row_at cores s) m.symbol)) (sym (get_or_append_left moves (row ∷ []) [] s old)) (p.only s old)
      | inr late ↦
          let is : length moves ≡ s = omega (arith, l, late, length_push moves row) in
          subst (All (λ (m : Move). HasNext g (row_at cores s) m.symbol)) (sym (get_or_push moves row [] s is)) (subst (λ t. All (λ (m : Move). HasNext g (row_at cores t) m.symbol) row) is e.only)
    ];
    leads = λ s X l h. elim (cases_lt s (length moves)) [
      | inl old ↦ subst (IsBehind g kernels (row_at cores s) X) (sym (ap (λ r. leads_to r X) (get_or_append_left moves (row ∷ []) [] s old))) (p.leads s X old h)
      | inr late ↦
          let is : length moves ≡ s = omega (arith, l, late, length_push moves row) in
          subst (IsBehind g kernels (row_at cores s) X) (sym (ap (λ r. leads_to r X) (get_or_push moves row [] s is)))
          (subst (λ t. HasNext g (row_at cores t) X → IsBehind g kernels (row_at cores t) X (leads_to row X)) is (λ k. e.leads X (all X k) k) h)
    ];
    earliest = λ s X k l h t. elim (cases_lt s (length moves)) [
      | inl old ↦ p.earliest s X k old h (sym (ap (λ r. leads_to r X) (get_or_append_left moves (row ∷ []) [] s old)) ∙ t)
      | inr late ↦
          let is : length moves ≡ s = omega (arith, l, late, length_push moves row) in
          subst (λ u. HasNext g (row_at cores u) X → NotLater (origin_at origins k) (origin u X)) is (λ j. e.earliest X k (all X j) j (sym (ap (λ r. leads_to r X) (get_or_push moves row [] s is)) ∙ t)) h
    ];
  }
    where
      p : IsPart g kernels cores moves origins
      p = e.part

-- the same with the core of state s as the last
module _ (g : Grammar) (cores : List (List Item)) (core : List Item) (moves : List (List Move)) (s : ℕ) (here : length cores ≡ s) where
  at : row_at (cores ++ core ∷ []) s ≡ core
  at = row_at-last cores core s here

  pub start-row : (kernels : List (List Item)) (origins : List Origin) (row : List Move) (x : ℕ) → IsPart g kernels cores moves origins → s < length kernels → IsClosure g (row_at kernels s) core → ((X : ℕ) → HasNext g core X → x ≤ X) → row ≡ [] → Expanding g kernels (cores ++ core ∷ []) moves origins row s x
  start-row kernels origins row x p low c least none =
      subst (λ r. Expanding g kernels (cores ++ core ∷ []) moves origins r s x) (sym none)
      (expanding-none g kernels (cores ++ core ∷ []) moves origins s x
      (part-core g kernels cores moves origins core p (omega (arith, low, here)) (subst (λ t. IsClosure g (row_at kernels t) core) (sym here) c))
      (omega (arith, here, length_push cores core))
      (λ X h. least X (subst (λ l. HasNext g l X) at h))
      (λ k d l. subst (λ (o : Origin). o.state < s) (get_or_default origins k (origin 0 0) d l) (let e = (p.comes k l).expanded in omega (arith, e, here))))

  pub more-row : (kernels more : List (List Item)) (origins others : List Origin) (row next : List Move) (kernel : List Item) (x y v : ℕ) → Expanding g kernels (cores ++ core ∷ []) moves origins row s x → HasNext g core x → x < y → ((X : ℕ) → suc x ≤ X → HasNext g core X → y ≤ X)
      → kernel ≡ advance g x core → Entered kernels more origins others kernel (origin s x) v → next ≡ row ++ record { symbol = x; target = v } ∷ [] → Expanding g more (cores ++ core ∷ []) moves others next s y
  more-row kernels more origins others row next kernel x y v e has less least is entered new =
      subst (λ r. Expanding g more (cores ++ core ∷ []) moves others r s y) (sym new)
      (expanding-more g kernels more (cores ++ core ∷ []) moves origins others row s x y v e (subst (λ l. HasNext g l x) (sym at) has) less (λ X l h. least X l (subst (λ r. HasNext g r X) at h))
      (subst (λ k. Entered kernels more origins others k (origin s x) v) (is ∙ ap (advance g x) (sym at)) entered))

  pub overflow-row : (kernels : List (List Item)) (origins : List Origin) (row : List Move) (kernel : List Item) (x : ℕ) → Expanding g kernels (cores ++ core ∷ []) moves origins row s x → HasNext g core x → kernel ≡ advance g x core → length kernels ≡ 65536 → (Contains kernels kernel → ⊥) → Overflows g
  overflow-row kernels origins row kernel x e has is full absent = record {
    kernels = kernels;
    cores = cores ++ core ∷ [];
    moves = moves;
    origins = origins;
    part = e.part;
    full = full;
    state = s;
    symbol = x;
    expanded = e.here;
    next = subst (λ l. HasNext g l x) (sym at) has;
    absent = λ c. absent (subst (Contains kernels) (sym (is ∙ ap (advance g x) (sym at))) c);
  }

  pub end-row : (kernels : List (List Item)) (origins : List Origin) (row : List Move) (x : ℕ) → Expanding g kernels (cores ++ core ∷ []) moves origins row s x → length moves ≡ s → ((X : ℕ) → HasNext g core X → X < x) → IsPart g kernels (cores ++ core ∷ []) (moves ++ row ∷ []) origins
  end-row kernels origins row x e long all =
      part-row g kernels (cores ++ core ∷ []) moves origins row x (subst (λ t. Expanding g kernels (cores ++ core ∷ []) moves origins row t x) (sym long) e)
      (λ X h. all X (subst (λ l. HasNext g l X) at (subst (λ t. HasNext g (row_at (cores ++ core ∷ []) t) X) long h)))

-- the items with which the entries begin
pub starts_from-push : (p n : ℕ) → starts_from p (suc n) ≡ starts_from p n ++ item (p + n) 0 ∷ []
starts_from-push p zero = ap (λ m. item m 0 ∷ []) (let z : p ≡ p + 0 = omega arith in z)
starts_from-push p (suc n) = ap (λ l. item p 0 ∷ l) (starts_from-push (suc p) n ∙ ap (λ m. starts_from (suc p) n ++ item m 0 ∷ []) (let z : suc p + n ≡ p + suc n = omega arith in z))

starts-rising : (p n : ℕ) → IsRising (starts_from p n)
starts-rising p zero = pairs-nil Before
starts-rising p (suc n) = pairs-cons Before (item p 0) (starts_from (suc p) n) (λ y c. let s = starts-from (suc p) n y c in subst (Before (item p 0)) (sym s.2) (inl (omega arith))) (starts-rising (suc p) n)

starts-kernel : (g : Grammar) → IsKernel g (start_items g)
starts-kernel g = record {
  rising = starts-rising (length g.rules) (length g.entries);
  within = All-contained (InRange g) (start_items g) (λ i c. let s = starts-from (length g.rules) (length g.entries) i c in subst (InRange g) (sym s.2) (let l = s.1 in omega (arith, l)));
  dots = All-contained (λ (i : Item). i.production < length g.rules → 0 < i.dot) (start_items g) (λ i c. let s = starts-from (length g.rules) (length g.entries) i c in λ low. absurd (let e = ap (λ (j : Item). j.production) s.2 in omega (arith, low, e)));
}

-- the first kernel alone
pub part-none : (g : Grammar) → IsPart g (start_items g ∷ []) [] [] []
part-none g = record {
  some = omega arith;
  first = refl;
  kernel = λ v l. subst (λ u. IsKernel g (row_at (start_items g ∷ []) u)) (let z : 0 ≡ v = omega (arith, l) in z) (starts-kernel g);
  few = omega arith;
  closed = λ s l. absurd (omega (arith, l));
  expanded = omega arith;
  leads = λ s X l. absurd (omega (arith, l));
  count = refl;
  comes = λ k l. absurd (omega (arith, l));
  distinct = pairs-cons ◌≢◌ (start_items g) [] (λ y c. absurd (Contains-nil y c)) (pairs-nil ◌≢◌);
  rising = pairs-nil Earlier;
  earliest = λ s X k l. absurd (omega (arith, l));
  sorted = λ s l. absurd (omega (arith, l));
  only = λ s l. absurd (omega (arith, l));
}
