-- The machine goes no further at some time.
use Rattle.std.proofs.Common.{◌≡◌, ℕ, zero, suc, ◌+◌, ◌-◌, ◌<◌, ◌⊎◌, inl, inr, true, false, List, [], ◌∷◌, ◌++◌, length, drop, refl, sym, ap, ◌∙◌, subst, arith, eqb, Some}
use Rattle.std.specs.Prelude.{slice_get}
use Rattle.std.specs.List.{IsDistinct, list_any, AllByRecursion as ByRecursion}
use Rattle.std.proofs.lemmas.Bool.{cases_eq, ne_eqb, eqb-true, or_cases, false≢true}
use Rattle.std.proofs.lemmas.List.{append-nil}
use Rattle.std.proofs.lemmas.Map.Steps.{length-le_from_distinct_below}
use Rattle.std.proofs.lemmas.Option.{same_Some}
use Rattle.sg_grammar.specs.declared.grammar.Production.{Production}
use Rattle.sg_grammar.specs.Grammar.{right_of}
use Rattle.sg_grammar.specs.Derives.{Token, Derives, nothing, plain}
use Rattle.sg_lalr.specs.declared.table.Action.{Action}
use Rattle.sg_lalr.specs.declared.table.Action.TheVariants.{Shift, Reduce, Accept, Stop}
use Rattle.sg_lalr.specs.ValidItems.{Viable}
use Rattle.sg_lalr.specs.Tables.{View, IsTables, Decided}
use Rattle.sg_lalr.proofs.CoreLemmas.{before-step}
use Rattle.sg_lalr.proofs.MoveLemmas.{symbol-within}
use Rattle.sg_machine.specs.Machine.{look, state_behind, pushed, Run, stay}
use Rattle.sg_machine.proofs.Lists.{nil-cons, same-head, same-tail, drop-past, length-pushed}
use Rattle.sg_machine.proofs.Derivations.{derives-append}
use Rattle.sg_machine.proofs.Running.{shift-reduce, joined}
use Rattle.sg_machine.proofs.Stacks.{stack_of, reduce-step, Derived, Each, each-popped, each-pushed, derived-under, reducible}
use Rattle.sg_machine.proofs.Completion.{completion, one-size}
use Rattle.sg_machine.proofs.Exit.{accept-reduce, end-of, exit}

stop-reduce : (p : ℕ) → Stop ≡ Reduce p → ⊥
stop-reduce p e = cc

module _ (v : View) (tables : IsTables v) (m : Decided v) (ts : List Token) (low : look ts < v.grammar.terminals) where
  -- the machine comes to a prefix for which it does not reduce
  pub record Settles (w : List ℕ) : Type 0 where
    pub steps : ℕ
    pub prefix : List ℕ
    pub run : Run plain m steps (stack_of m w) ts (stack_of m prefix) ts
    pub viable : Viable v.grammar prefix
    pub each : Each v.grammar prefix
    pub free : (p : ℕ) → m.act (state_behind m prefix) (look ts) ≡ Reduce p → ⊥

  -- it comes to a shorter prefix
  record Lowers (w : List ℕ) : Type 0 where
    steps : ℕ
    prefix : List ℕ
    run : Run plain m steps (stack_of m w) ts (stack_of m prefix) ts
    viable : Viable v.grammar prefix
    each : Each v.grammar prefix
    shorter : length prefix < length w

  -- it puts another symbol in the place of the last, which derives the same in more nodes
  record Replaces (w : List ℕ) : Type 0 where
    below : List ℕ
    old : ℕ
    new : ℕ
    stands : w ≡ old ∷ below
    steps : ℕ
    run : Run plain m steps (stack_of m w) ts (stack_of m (new ∷ below)) ts
    viable : Viable v.grammar (new ∷ below)
    grows : (us : List Token) (i : ℕ) → Derived v.grammar old us i → (j : ℕ) × (i < j) × Derived v.grammar new us j

  abbrev Round : List ℕ → Type 0
  Round w = Settles w ⊎ (Lowers w ⊎ Replaces w)

  -- a reduction that takes the string and what stands before it
  beyond : (w Cs : List ℕ) (bs : List (Unit {0})) (c : ℕ) → Each v.grammar w → Derives v.grammar plain Cs [] bs c → (n : ℕ) → Run plain m n (stack_of m w) ts (stack_of m (pushed Cs w)) ts
      → (p : ℕ) (r : Production) → m.act (state_behind m (pushed Cs w)) (look ts) ≡ Reduce p → slice_get v.grammar.rules p ≡ Some r → length Cs < length r.right
      → (below : List ℕ) → pushed Cs w ≡ pushed r.right below → Viable v.grammar (r.left ∷ below) → (Rs : List ℕ) → r.right ≡ Rs ++ Cs → w ≡ pushed Rs below → Round w
  beyond w Cs bs c e d n run p r act is more below stands x [] sides place = absurd (let l : length r.right ≡ length Cs = ap length sides in omega (arith, l, more))
  beyond w Cs bs c e d n run p r act is more below stands x (X ∷ []) sides place =
      let once = reduce-step v m p r below ts is (ap (λ z. m.act (state_behind m z) (look ts)) (sym stands) ∙ act) in
      let last = subst (λ z. Run plain m (suc zero) (stack_of m z) ts (stack_of m (r.left ∷ below)) ts) (sym stands) once in
      inr (inr (record {
        below = below;
        old = X;
        new = r.left;
        stands = place;
        steps = n + suc zero;
        run = joined v plain m n (suc zero) (stack_of m w) (stack_of m (pushed Cs w)) (stack_of m (r.left ∷ below)) ts ts ts run last;
        viable = x;
        grows = λ us i a.
            let f = derives-append v.grammar plain (X ∷ []) Cs us [] a.0 bs i c a.1 d in
            let f1 = subst (λ z. Derives v.grammar plain z (us ++ []) (a.0 ++ bs) (i + c)) (sym sides) f in
            let f2 = subst (λ z. Derives v.grammar plain r.right z (a.0 ++ bs) (i + c)) (append-nil us) f1 in
            (suc (i + c), omega arith, derived-under v.grammar p r is us (a.0 ++ bs) (i + c) f2);
      }))
  beyond w Cs bs c e d n run p r act is more below stands x (X ∷ Y ∷ Rs) sides place =
      let once = reduce-step v m p r below ts is (ap (λ z. m.act (state_behind m z) (look ts)) (sym stands) ∙ act) in
      let last = subst (λ z. Run plain m (suc zero) (stack_of m z) ts (stack_of m (r.left ∷ below)) ts) (sym stands) once in
      let popped = each-popped v.grammar (X ∷ Y ∷ Rs) below (subst (λ z. Each v.grammar z) place e) in
      let f = derives-append v.grammar plain (X ∷ Y ∷ Rs) Cs popped.0 [] popped.1 bs popped.2 c popped.3 d in
      let f1 = subst (λ z. Derives v.grammar plain z (popped.0 ++ []) (popped.1 ++ bs) (popped.2 + c)) (sym sides) f in
      inr (inl (record {
        steps = n + suc zero;
        prefix = r.left ∷ below;
        run = joined v plain m n (suc zero) (stack_of m w) (stack_of m (pushed Cs w)) (stack_of m (r.left ∷ below)) ts ts ts run last;
        viable = x;
        each = (popped.0 ++ [], suc (popped.2 + c), derived-under v.grammar p r is (popped.0 ++ []) (popped.1 ++ bs) (popped.2 + c) f1, popped.4);
        shorter = (let a = length-pushed (X ∷ Y ∷ Rs) below in let b : length w ≡ length (pushed (X ∷ Y ∷ Rs) below) = ap length place in omega (arith, a, b));
      }))

  reducing : (w : List ℕ) → Viable v.grammar w → Each v.grammar w → (p : ℕ) → m.act (state_behind m w) (look ts) ≡ Reduce p → Round w
  reducing w x e p act =
      let g = v.grammar in
      let red = reducible v tables m w x (look ts) p low act in
      let c = completion v tables m red.like p red.dot (look ts) red.valid in
      let none : drop red.dot (right_of g p) ≡ [] = drop-past (right_of g p) red.dot red.ended in
      let a = c.accepted [] [] zero (subst (λ z. Derives g plain z [] [] zero) (sym none) nothing) in
      let i = exit v tables m w red.like red.same_state ts low (zero + c.more) (stack_of m red.like) c.behind_it a.0 a.1.0 (sym c.begins_so) a.1.1 [] [] zero refl x nothing in
      elim i.last [
        | inl free ↦ inl (record {
          steps = i.steps;
          prefix = pushed i.string w;
          run = i.run;
          viable = i.viable;
          each = each-pushed g i.string w [] i.results i.nodes i.derived e;
          free = free;
        })
        | inr l ↦
            let r = l.1 in
            let next = reducible v tables m (pushed i.string w) i.viable (look ts) l.0 low l.2 in
            let same : next.rule ≡ r = same_Some next.rule r (sym next.is ∙ l.3) in
            let stands : pushed i.string w ≡ pushed r.right next.below = next.stands ∙ ap (λ (z : Production). pushed z.right next.below) same in
            let parts = end-of r.right i.string next.below w (sym stands) (let k = l.4 in omega (arith, k)) in
            beyond w i.string i.results i.nodes e i.derived i.steps i.run l.0 r l.2 l.3 l.4 next.below stands (subst (λ (z : Production). Viable g (z.left ∷ next.below)) same next.viable) parts.0 parts.1 parts.2
      ]

  resting : (w : List ℕ) → Viable v.grammar w → Each v.grammar w → ((p : ℕ) → m.act (state_behind m w) (look ts) ≡ Reduce p → ⊥) → Round w
  resting w x e free = inl (record {
    steps = zero;
    prefix = w;
    run = stay (stack_of m w) ts;
    viable = x;
    each = e;
    free = free;
  })

  round-by : (w : List ℕ) → Viable v.grammar w → Each v.grammar w → (a : Action) → m.act (state_behind m w) (look ts) ≡ a → Round w
  round-by w x e (Shift u) is = resting w x e (λ p h. shift-reduce u p (sym is ∙ h))
  round-by w x e (Reduce p) is = reducing w x e p is
  round-by w x e Accept is = resting w x e (λ p h. accept-reduce p (sym is ∙ h))
  round-by w x e Stop is = resting w x e (λ p h. stop-reduce p (sym is ∙ h))

  round : (w : List ℕ) → Viable v.grammar w → Each v.grammar w → Round w
  round w x e = round-by w x e (m.act (state_behind m w) (look ts)) refl

  after : (w u : List ℕ) (n : ℕ) → Run plain m n (stack_of m w) ts (stack_of m u) ts → Settles u → Settles w
  after w u n run s = record {
    steps = n + s.steps;
    prefix = s.prefix;
    run = joined v plain m n s.steps (stack_of m w) (stack_of m u) (stack_of m s.prefix) ts ts ts run s.run;
    viable = s.viable;
    each = s.each;
    free = s.free;
  }

  -- ---- symbols that stood in one place

  -- a symbol that derives the tokens in fewer nodes
  record OldOne (us : List Token) (n : ℕ) (Y : ℕ) : Type 0 where
    within : Y < v.grammar.symbols
    size : ℕ
    less : size < n
    derived : Derived v.grammar Y us size

  abbrev Old : List Token → ℕ → List ℕ → Type 0
  Old us n [] = Unit {0}
  Old us n (Y ∷ Ys) = OldOne us n Y × Old us n Ys

  older : (us : List Token) (i j : ℕ) → i < j → (Ys : List ℕ) → Old us i Ys → Old us j Ys
  older us i j l [] h = tt
  older us i j l (Y ∷ Ys) h = (record { within = h.0.within; size = h.0.size; less = (let k = h.0.less in omega (arith, k, l)); derived = h.0.derived }, older us i j l Ys h.1)

  old-within : (us : List Token) (n : ℕ) (Ys : List ℕ) → Old us n Ys → (q : ℕ) → list_any (eqb q) Ys ≡ true → q < v.grammar.symbols
  old-within us n [] h q e = absurd (false≢true e)
  old-within us n (Y ∷ Ys) h q e = elim (or_cases (eqb q Y) (list_any (eqb q) Ys) e) [
    | inl here ↦ (let l = h.0.within in let s = eqb-true q Y here in omega (arith, l, s))
    | inr later ↦ old-within us n Ys h.1 q later
  ]

  distinct-with : (us : List Token) (n X : ℕ) → ((i : ℕ) → i < n → Derived v.grammar X us i → ⊥) → (Ys : List ℕ) → Old us n Ys → IsDistinct eqb Ys → IsDistinct eqb (X ∷ Ys)
  unfolding IsDistinct
  distinct-with us n X never Ys h d = (fresh Ys h, d)
    where
      fresh : (Zs : List ℕ) → Old us n Zs → ByRecursion (λ y. eqb X y ≡ false) Zs
      fresh [] k = tt
      fresh (Z ∷ Zs) k = (
        elim (cases_eq X Z) [
          | inl same ↦ absurd (never k.0.size k.0.less (subst (λ z. Derived v.grammar z us k.0.size) (sym same) k.0.derived))
          | inr other ↦ ne_eqb X Z other
        ],
        fresh Zs k.1,
      )

  distinct-none : IsDistinct eqb []
  unfolding IsDistinct
  distinct-none = tt

  -- the last symbol of a viable prefix has one size
  last-size : (X : ℕ) (w : List ℕ) → Viable v.grammar (X ∷ w) → (us : List Token) (n : ℕ) → Derived v.grammar X us n → (X < v.grammar.symbols) × ((i : ℕ) → i < n → Derived v.grammar X us i → ⊥)
  last-size X w x us n d =
      let b = before-step v.grammar X w x.0 x.1 x.2.0 x.2.1 in (
        symbol-within v.grammar tables.formed b.0 b.1 X b.3,
        λ i l a.
            let e = one-size v tables m w b.0 b.1 b.2.0 X b.2.1 b.3 us i (n - i) a (subst (λ z. Derived v.grammar X us z) (omega (arith, l)) d) in
            let k : n - i ≡ zero = e in
            omega (arith, k, l),
      )

  chain : (H : ℕ) → ((w : List ℕ) → length w < H → Viable v.grammar w → Each v.grammar w → Settles w) → (f X : ℕ) (w : List ℕ) → length w < H → Viable v.grammar (X ∷ w) → Each v.grammar w → (us : List Token) (n : ℕ) → Derived v.grammar X us n
      → (seen : List ℕ) → Old us n seen → IsDistinct eqb seen → length seen + f ≡ suc v.grammar.symbols → Settles (X ∷ w)
  chain H lower zero X w l x e us n d seen old apart count =
      let few = length-le_from_distinct_below seen v.grammar.symbols apart (old-within us n seen old) in
      absurd (omega (arith, few, count))
  chain H lower (suc f) X w l x e us n d seen old apart count =
      elim (round (X ∷ w) x (us, n, d, e)) [
        | inl s ↦ s
        | inr other ↦ elim other [
          | inl s ↦ after (X ∷ w) s.prefix s.steps s.run (lower s.prefix (let k = s.shorter in omega (arith, k, l)) s.viable s.each)
          | inr s ↦
              let same = same-head X s.old w s.below s.stands in
              let rest = same-tail X s.old w s.below s.stands in
              let grown = s.grows us n (subst (λ z. Derived v.grammar z us n) same d) in
              let size = last-size X w x us n d in
              let now : OldOne us grown.0 X = record { within = size.0; size = n; less = grown.1; derived = d } in
              after (X ∷ w) (s.new ∷ s.below) s.steps s.run
              (chain H lower f s.new s.below (subst (λ z. length z < H) rest l) s.viable (subst (λ z. Each v.grammar z) rest e) us grown.0 grown.2 (X ∷ seen) (now, older us n grown.0 grown.1 seen old) (distinct-with us n X size.1 seen old apart) (omega (arith, count)))
        ]
      ]

  settles-nothing : Viable v.grammar [] → Settles []
  settles-nothing x =
      elim (round [] x tt) [
        | inl s ↦ s
        | inr other ↦ elim other [ inl s ↦ absurd (let k = s.shorter in omega (arith, k)) | inr s ↦ absurd (nil-cons s.old s.below s.stands) ]
      ]

  settles-below : (H : ℕ) (w : List ℕ) → length w < H → Viable v.grammar w → Each v.grammar w → Settles w
  settles-below zero w l x e = absurd (omega (arith, l))
  settles-below (suc H) [] l x e = settles-nothing x
  settles-below (suc H) (X ∷ w) l x e = chain H (λ u k y f. settles-below H u k y f) (suc v.grammar.symbols) X w (omega (arith, l)) x e.3 e.0 e.1 e.2 [] tt distinct-none (omega arith)

  pub settles : (w : List ℕ) → Viable v.grammar w → Each v.grammar w → Settles w
  settles w x e = settles-below (suc (length w)) w (omega arith) x e
