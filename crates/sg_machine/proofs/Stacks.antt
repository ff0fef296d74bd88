-- Stacks without results: they are those of prefixes.
use Rattle.std.proofs.Common.{◌≡◌, ℕ, zero, suc, ◌+◌, ◌<◌, inl, inr, List, [], ◌∷◌, ◌++◌, length, take, refl, sym, ap, ◌∙◌, subst, arith, Some, None}
use Rattle.std.proofs.lemmas.Bool.{cases_order}
use Rattle.std.proofs.lemmas.List.{append-nil}
use Rattle.std.specs.Prelude.{slice_get}
use Rattle.sg_grammar.specs.declared.grammar.Production.{Production}
use Rattle.sg_grammar.specs.Grammar.{Grammar, right_of, symbol_at}
use Rattle.sg_grammar.specs.Derives.{Token, Derives, nothing, under, plain}
use Rattle.sg_lalr.specs.declared.table.Action.TheVariants.{Reduce}
use Rattle.sg_lalr.specs.ValidItems.{Valid, step, Viable, SameCore}
use Rattle.sg_lalr.specs.Automaton.{row_at}
use Rattle.sg_lalr.specs.Tables.{View, IsTables, IsAction, IsCore, Decided}
use Rattle.sg_lalr.proofs.RisingLemmas.{rising-same}
use Rattle.sg_machine.specs.Machine.{look, state_behind, top, pushed, Run, stay, reduce}
use Rattle.sg_machine.specs.Kept.{cells_of}
use Rattle.sg_machine.proofs.Lists.{take-past}
use Rattle.sg_machine.proofs.Exact.{core-at, right_of-rule}
use Rattle.sg_machine.proofs.Derivations.{derives-append, in-two}
use Rattle.sg_machine.proofs.Consume.{cells-results}
use Rattle.sg_machine.proofs.Suffix.{suffix, expected, within-some}

-- the stack of a prefix
abbrev pub stack_of : {v : View} → Decided v → List ℕ → List (ℕ × Unit {0})
stack_of m [] = []
stack_of m (X ∷ w) = (state_behind m (X ∷ w), tt) ∷ stack_of m w

abbrev pub units : List ℕ → List (Unit {0})
units [] = []
units (X ∷ Xs) = tt ∷ units Xs

pub length-units : (Xs : List ℕ) → length (units Xs) ≡ length Xs
length-units [] = refl
length-units (X ∷ Xs) = ap suc (length-units Xs)

pub units-only : (bs : List (Unit {0})) (Xs : List ℕ) → length bs ≡ length Xs → bs ≡ units Xs
units-only [] [] l = refl
units-only [] (X ∷ Xs) l = absurd (omega (arith, l))
units-only (b ∷ bs) [] l = absurd (omega (arith, l))
units-only (b ∷ bs) (X ∷ Xs) l = ap (λ z. tt ∷ z) (units-only bs Xs (omega (arith, l)))

pub top-stack : (v : View) (m : Decided v) (w : List ℕ) → top (stack_of m w) ≡ state_behind m w
top-stack v m [] = refl
top-stack v m (X ∷ w) = refl

pub stack-pushed : (v : View) (m : Decided v) (w Xs : List ℕ) → stack_of m (pushed Xs w) ≡ pushed (cells_of m w Xs (units Xs)) (stack_of m w)
stack-pushed v m w [] = refl
stack-pushed v m w (X ∷ Xs) = stack-pushed v m (X ∷ w) Xs

-- one state goes to one
pub same-behind : (v : View) (m : Decided v) (Xs w h : List ℕ) → state_behind m w ≡ state_behind m h → state_behind m (pushed Xs w) ≡ state_behind m (pushed Xs h)
same-behind v m [] w h e = e
same-behind v m (X ∷ Xs) w h e = same-behind v m Xs (X ∷ w) (X ∷ h) (ap (λ z. m.go z X) e)

-- a reduction of a right side on top
pub reduce-step : (v : View) (m : Decided v) (p : ℕ) (r : Production) (w : List ℕ) (ts : List Token) → slice_get v.grammar.rules p ≡ Some r → m.act (state_behind m (pushed r.right w)) (look ts) ≡ Reduce p → Run plain m (suc zero) (stack_of m (pushed r.right w)) ts (stack_of m (r.left ∷ w)) ts
reduce-step v m p r w ts is act =
    let cells = cells_of m w r.right (units r.right) in
    let counted = cells-results v m w r.right (units r.right) (length-units r.right) in
    let state : m.go (top (stack_of m w)) r.left ≡ state_behind m (r.left ∷ w) = ap (λ z. m.go z r.left) (top-stack v m w) in
    let rest = subst (λ z. Run plain m zero ((z, tt) ∷ stack_of m w) ts (stack_of m (r.left ∷ w)) ts) (sym state) (stay (stack_of m (r.left ∷ w)) ts) in
    reduce zero p r cells (stack_of m w) (stack_of m (pushed r.right w)) (stack_of m (r.left ∷ w)) ts ts (ap (λ z. m.act z (look ts)) (top-stack v m (pushed r.right w)) ∙ act) is (stack-pushed v m w r.right) counted.1 rest

-- ---- derivations of the symbols of a prefix

abbrev pub Derived : Grammar → ℕ → List Token → ℕ → Type 0
Derived g X ts n = (vs : List (Unit {0})) × Derives g plain (X ∷ []) ts vs n

abbrev pub Each : Grammar → List ℕ → Type 0
Each g [] = Unit {0}
Each g (X ∷ w) = (ts : List Token) × (n : ℕ) × Derived g X ts n × Each g w

pub each-popped : (g : Grammar) (Xs w : List ℕ) → Each g (pushed Xs w) → (ts : List Token) × (vs : List (Unit {0})) × (n : ℕ) × Derives g plain Xs ts vs n × Each g w
each-popped g [] w e = ([], [], zero, nothing, e)
each-popped g (X ∷ Xs) w e =
    let i = each-popped g Xs (X ∷ w) e in
    let x = i.4 in
    (x.0 ++ i.0, x.2.0 ++ i.1, x.1 + i.2, derives-append g plain (X ∷ []) Xs x.0 i.0 x.2.0 i.1 x.1 i.2 x.2.1 i.3, x.3)

pub each-pushed : (g : Grammar) (Xs w : List ℕ) (ts : List Token) (vs : List (Unit {0})) (n : ℕ) → Derives g plain Xs ts vs n → Each g w → Each g (pushed Xs w)
each-pushed g [] w ts vs n d e = e
each-pushed g (X ∷ Xs) w ts vs n d e =
    let two = in-two g plain (X ∷ []) Xs ts vs n d in
    each-pushed g Xs (X ∷ w) two.back two.back_results two.back_nodes two.second (two.front, two.front_nodes, (two.front_results, two.first), e)

-- what a production derives
pub derived-under : (g : Grammar) (p : ℕ) (r : Production) → slice_get g.rules p ≡ Some r → (ts : List Token) (vs : List (Unit {0})) (n : ℕ) → Derives g plain r.right ts vs n → Derived g r.left ts (suc n)
derived-under g p r is ts vs n d = (tt ∷ [], under p r r.left [] ts [] ts vs [] n zero n is refl d nothing (sym (append-nil ts)) (omega arith))

module _ (v : View) (tables : IsTables v) (m : Decided v) where
  -- what the items of a viable prefix do
  pub acts-at : (w : List ℕ) → Viable v.grammar w → (t : ℕ) → t < v.grammar.terminals → IsAction v (state_behind m w) t (m.act (state_behind m w) t)
  acts-at w x t low = m.acts (state_behind m w) t (core-at v tables m w x).0 low

  -- where a production is reduced, its right side stands on top, and its left side can follow what is below
  pub record Reducible (w : List ℕ) (t p : ℕ) : Type 0 where
    pub rule : Production
    pub is : slice_get v.grammar.rules p ≡ Some rule
    pub below : List ℕ
    pub stands : w ≡ pushed rule.right below
    pub viable : Viable v.grammar (rule.left ∷ below)
    pub like : List ℕ
    pub same_state : state_behind m w ≡ state_behind m like
    pub dot : ℕ
    pub valid : Valid v.grammar like p dot t
    pub ended : symbol_at v.grammar p dot ≡ None

  pub reducible : (w : List ℕ) → Viable v.grammar w → (t p : ℕ) → t < v.grammar.terminals → m.act (state_behind m w) t ≡ Reduce p → Reducible w t p
  reducible w x t p low act =
      let g = v.grammar in
      let c = core-at v tables m w x in
      let does = subst (λ z. IsAction v (state_behind m w) t z) act (acts-at w x t low) in
      let i = does.1.0 in
      let b = does.1.1 w c.1 in
      let here = (b.2.1 i.production i.dot).1 (t, b.2.2) in
      let began = suffix g w i.production i.dot here.0 here.1 in
      let rule = within-some g.rules p does.0 in
      let r = rule.0 in
      let at : slice_get g.rules i.production ≡ Some r = ap (λ z. slice_get g.rules z) (sym b.0) ∙ rule.1 in
      let side : take i.dot (right_of g i.production) ≡ r.right = take-past (right_of g i.production) i.dot b.1 ∙ right_of-rule g i.production r at in
      let expects = expected g began.before i.production here.0 r began.begins at in
      let h = b.2.0 in
      let k = core-at v tables m h (i.production, i.dot, (t, b.2.2)) in
      record {
        rule = r;
        is = rule.1;
        below = began.before;
        stands = began.is ∙ ap (λ z. pushed z began.before) side;
        viable = (expects.0, suc expects.1, (expects.2, step began.before expects.0 expects.1 expects.2 r.left expects.3 expects.4));
        like = h;
        same_state = same-state w h c k b.2.1;
        dot = i.dot;
        valid = subst (λ z. Valid g h z i.dot t) (sym b.0) b.2.2;
        ended = ap (λ z. symbol_at g z i.dot) b.0 ∙ b.1;
      }
    where
      same-state : (w h : List ℕ) → (state_behind m w < length v.cores) × IsCore v.grammar w (row_at v.cores (state_behind m w)) → (state_behind m h < length v.cores) × IsCore v.grammar h (row_at v.cores (state_behind m h)) → SameCore v.grammar w h → state_behind m w ≡ state_behind m h
      same-state w h c k same =
          let s = state_behind m w in
          let u = state_behind m h in
          let rows = rising-same (row_at v.cores s) (row_at v.cores u) c.1.0 k.1.0 (λ i. (
            λ a. (k.1.1 i.production i.dot).1 ((same i.production i.dot).0 ((c.1.1 i.production i.dot).0 a)),
            λ a. (c.1.1 i.production i.dot).1 ((same i.production i.dot).1 ((k.1.1 i.production i.dot).0 a)),
          )) in
          elim (cases_order s u) [
            | inl e ↦ e
            | inr apart ↦ elim apart [ inl less ↦ absurd (tables.distinct s u less k.0 rows) | inr more ↦ absurd (tables.distinct u s more c.0 (sym rows)) ]
          ]
