-- Each input is a sentence, or fails at some place.
use Rattle.std.proofs.Common.{◌≡◌, ℕ, zero, suc, ◌+◌, ◌<◌, ◌≤◌, ◌⊎◌, inl, inr, List, [], ◌∷◌, ◌++◌, length, map, refl, sym, ap, ◌∙◌, subst, arith, Some}
use Rattle.std.specs.Prelude.{slice_get}
use Rattle.std.proofs.lemmas.Bool.{cases_lt}
use Rattle.std.proofs.lemmas.List.{append-nil, length-append, length-map}
use Rattle.std.proofs.lemmas.List.Elements.{All-head, All-tail}
use Rattle.std.proofs.lemmas.Option.{same_Some, slice_get_within}
use Rattle.sg_grammar.specs.Grammar.{Grammar, symbol_at}
use Rattle.sg_grammar.specs.WellFormed.{IsStart, IsRule, IsWellFormed}
use Rattle.sg_grammar.specs.Derives.{Token, Algebra, Derives, nothing, token, plain}
use Rattle.sg_lalr.specs.declared.table.Action.{Action}
use Rattle.sg_lalr.specs.declared.table.Action.TheVariants.{Shift, Reduce, Accept, Stop}
use Rattle.sg_lalr.specs.ValidItems.{Valid, start, step, Viable}
use Rattle.sg_lalr.specs.Tables.{View, IsTables, IsAction, Decided}
use Rattle.sg_machine.specs.Machine.{look, state_behind, top, pushed, results_in, begun, Run, stay, shift, reduce, Accepts, StopsBefore}
use Rattle.sg_machine.specs.Sentences.{IsEntry, AreTokens, FailsAt}
use Rattle.sg_machine.proofs.Lists.{pushed-append, length-pushed, same-pushed}
use Rattle.sg_machine.proofs.Exact.{core-at, shifts, right_of-rule, right_of-entry}
use Rattle.sg_machine.proofs.Derivations.{retold, one-result}
use Rattle.sg_machine.proofs.Running.{IsOver, same-shift, joined}
use Rattle.sg_machine.proofs.Suffix.{All-at, within-some, suffix, entry-begins, marker-at}
use Rattle.sg_machine.proofs.Keeping.{look-within, kept-start, kept-run}
use Rattle.sg_machine.proofs.Ends.{stop-fails, accept-right}
use Rattle.sg_machine.proofs.Stacks.{stack_of, top-stack, Each, acts-at}
use Rattle.sg_machine.proofs.Halts.{Settles, settles}

-- the end stands on no right side
no-end : (first symbols k : ℕ) (right : List ℕ) (d : ℕ) → 0 < first → IsStart first symbols k right → slice_get right d ≡ Some zero → ⊥
no-end first symbols k [] d l h e = absurd h
no-end first symbols k (X ∷ Xs) zero l h e = let s = same_Some X zero e in let i = h.0 in omega (arith, s, i)
no-end first symbols k (X ∷ Xs) (suc d) l h e = let b = (All-at (λ Y. (first ≤ Y) × (Y < symbols)) Xs d zero h.2 e).0 in omega (arith, b, l)

expects-no-end : (g : Grammar) → IsWellFormed g → (w : List ℕ) (p d t : ℕ) → Valid g w p d t → symbol_at g p d ≡ Some zero → ⊥
expects-no-end g f w p d t x e =
    let first = suc (length g.entries) in
    elim (cases_lt p (length g.rules)) [
      | inl rule ↦
          let r = within-some g.rules p rule in
          let h = All-at (IsRule first g.terminals g.symbols) g.rules p r.0 f.rules r.1 in
          let b = (All-at (λ Y. (first ≤ Y) × (Y < g.symbols)) r.0.right d zero h.2.1 (ap (λ z. slice_get z d) (sym (right_of-rule g p r.0 r.1)) ∙ e)).0 in
          omega (arith, b)
      | inr high ↦
          let i = suffix g w p d t x in
          let k = entry-begins g i.before p t i.begins high in
          let r = within-some g.entries k.0 k.1 in
          no-end first g.symbols k.0 r.0.right d (omega arith) (f.entries k.0 r.0 r.1) (ap (λ z. slice_get z d) (sym (right_of-entry g k.0 p r.0 k.2 r.1)) ∙ e)
    ]

-- ---- a run with other results

abbrev states_of : {A : Type 0} → List (ℕ × A) → List ℕ
states_of s = map (λ c. c.0) s

abbrev first_of : List ℕ → ℕ
first_of [] = zero
first_of (u ∷ us) = u

top-states : {A : Type 0} (s : List (ℕ × A)) → top s ≡ first_of (states_of s)
top-states [] = refl
top-states (c ∷ s) = refl

states-pushed : {A : Type 0} (cs s : List (ℕ × A)) → states_of (pushed cs s) ≡ pushed (states_of cs) (states_of s)
states-pushed [] s = refl
states-pushed (c ∷ cs) s = states-pushed cs (c ∷ s)

length-states : {A : Type 0} (s : List (ℕ × A)) → length (states_of s) ≡ length s
length-states s = length-map s (λ c. c.0)

states-cons : {A B : Type 0} (u : ℕ) (a : A) (b : B) (s : List (ℕ × A)) (s' : List (ℕ × B)) → states_of s ≡ states_of s' → states_of ((u, a) ∷ s) ≡ states_of ((u, b) ∷ s')
states-cons u a b s s' e = ap (λ z. u ∷ z) e

-- so many cells on top of a stack
taken-off : {A : Type 0} (n : ℕ) (s : List A) → n ≤ length s → (cells : List A) × (base : List A) × (length cells ≡ n) × (s ≡ pushed cells base)
taken-off zero s l = ([], s, refl, refl)
taken-off (suc n) [] l = absurd (omega (arith, l))
taken-off (suc n) (x ∷ s) l =
    let i = taken-off n s (omega (arith, l)) in
    let long = length-append i.0 (x ∷ []) in
    let count = i.2 in
    (i.0 ++ x ∷ [], i.1, omega (arith, long, count), ap (λ z. x ∷ z) i.3 ∙ sym (pushed-append i.0 (x ∷ []) i.1))

run-retold : {A B : Type 0} (v : View) (m : Decided v) (alg : Algebra A) (bet : Algebra B) (n : ℕ) (s z : List (ℕ × A)) (ts us : List Token) → Run alg m n s ts z us → (s' : List (ℕ × B)) → states_of s ≡ states_of s' → (z' : List (ℕ × B)) × Run bet m n s' ts z' us × (states_of z ≡ states_of z')
run-retold v m alg bet _ _ _ _ _ (stay s ts) s' e = (s', stay s' ts, e)
run-retold v m alg bet _ _ z _ us (shift n u x s _ ts _ act run) s' e =
    let tops : top s' ≡ top s = top-states s' ∙ (ap first_of (sym e) ∙ sym (top-states s)) in
    let i = run-retold v m alg bet n ((u, alg.leaf x) ∷ s) z ts us run ((u, bet.leaf x) ∷ s') (states-cons u (alg.leaf x) (bet.leaf x) s s' e) in
    (i.0, shift n u x s' i.0 ts us (ap (λ y. m.act y x.terminal) tops ∙ act) i.1, i.2)
run-retold {A} {B} v m alg bet _ _ z ts us (reduce n p r cells base s _ _ _ act is stack lengths run) s' e =
    let tops : top s' ≡ top s = top-states s' ∙ (ap first_of (sym e) ∙ sym (top-states s)) in
    let long : length s' ≡ length s = sym (length-states s') ∙ (ap length (sym e) ∙ length-states s) in
    let whole : length s ≡ length (pushed cells base) = ap length stack in
    let room : length cells ≤ length s' = (let l = length-pushed cells base in omega (arith, long, whole, l)) in
    let off = taken-off (length cells) s' room in
    let more = off.0 in
    let below = off.1 in
    let states : pushed (states_of cells) (states_of base) ≡ pushed (states_of more) (states_of below) = sym (states-pushed cells base) ∙ (ap states_of (sym stack) ∙ (e ∙ (ap states_of off.3 ∙ states-pushed more below))) in
    let parts = same-pushed (states_of cells) (states_of more) (states_of base) (states_of below) states (length-states cells ∙ (sym off.2 ∙ sym (length-states more))) in
    let bases : top below ≡ top base = top-states below ∙ (ap first_of (sym parts.1) ∙ sym (top-states base)) in
    let cell : ℕ × B = (m.go (top below) r.left, bet.node p (results_in more)) in
    let cells-same : states_of ((m.go (top base) r.left, alg.node p (results_in cells)) ∷ base) ≡ states_of (cell ∷ below) =
    states-cons (m.go (top base) r.left) (alg.node p (results_in cells)) (bet.node p (results_in more)) base below parts.1 ∙ ap (λ y. states_of ((m.go y r.left, bet.node p (results_in more)) ∷ below)) (sym bases) in
    let i = run-retold v m alg bet n ((m.go (top base) r.left, alg.node p (results_in cells)) ∷ base) z ts us run (cell ∷ below) cells-same in
    (i.0, reduce n p r more below s' i.0 ts us (ap (λ y. m.act y (look ts)) tops ∙ act) is off.3 (off.2 ∙ lengths) i.1, i.2)

module _ (v : View) (tables : IsTables v) (m : Decided v) where
  record Halts (w : List ℕ) (ts : List Token) : Type 0 where
    steps : ℕ
    stack : List (ℕ × Unit {0})
    rest : List Token
    run : Run plain m steps (stack_of m w) ts stack rest
    over : IsOver (m.act (top stack) (look rest))

  zero-low : zero < v.grammar.terminals
  zero-low = let e = tables.formed.ends in omega (arith, e)

  here : (w : List ℕ) (ts : List Token) (low : look ts < v.grammar.terminals) (s : Settles v tables m ts low w) → IsOver (m.act (state_behind m s.prefix) (look ts)) → Halts w ts
  here w ts low s o = record {
    steps = s.steps;
    stack = stack_of m s.prefix;
    rest = ts;
    run = s.run;
    over = subst (λ z. IsOver (m.act z (look ts))) (sym (top-stack v m s.prefix)) o;
  }

  -- a shift of the next token
  record Shifted (w : List ℕ) (x : Token) (ts : List Token) : Type 0 where
    run : Run plain m (suc zero) (stack_of m w) (x ∷ ts) (stack_of m (x.terminal ∷ w)) ts
    viable : Viable v.grammar (x.terminal ∷ w)

  shifted : (w : List ℕ) → Viable v.grammar w → (x : Token) (ts : List Token) → x.terminal < v.grammar.terminals → (u : ℕ) → m.act (state_behind m w) x.terminal ≡ Shift u → Shifted w x ts
  shifted w h x ts low u act =
      let X = x.terminal in
      let does = subst (λ z. IsAction v (state_behind m w) X z) act (acts-at v tables m w h X low) in
      let i = does.0.0 in
      let b = does.0.1 w (core-at v tables m w h).1 in
      let state : u ≡ state_behind m (X ∷ w) = same-shift u (state_behind m (X ∷ w)) (sym act ∙ shifts v tables m w i.production i.dot b.1.0 X b.1.1 b.0 low) in
      let next = stack_of m (X ∷ w) in
      record {
        run = shift zero u x (stack_of m w) next ts ts (ap (λ z. m.act z X) (top-stack v m w) ∙ act) (subst (λ z. Run plain m zero ((z, tt) ∷ stack_of m w) ts next ts) (sym state) (stay next ts));
        viable = (i.production, suc i.dot, (b.1.0, step w i.production i.dot b.1.0 X b.1.1 b.0));
      }

  at-end : (w : List ℕ) (s : Settles v tables m [] zero-low w) (a : Action) → m.act (state_behind m s.prefix) zero ≡ a → Halts w []
  at-end w s (Shift u) is =
      let does = subst (λ z. IsAction v (state_behind m s.prefix) zero z) is (acts-at v tables m s.prefix s.viable zero zero-low) in
      let b = does.0.1 s.prefix (core-at v tables m s.prefix s.viable).1 in
      absurd (expects-no-end v.grammar tables.formed s.prefix does.0.0.production does.0.0.dot b.1.0 b.1.1 b.0)
  at-end w s (Reduce p) is = absurd (s.free p is)
  at-end w s Accept is = here w [] zero-low s (inl is)
  at-end w s Stop is = here w [] zero-low s (inr is)

  at-token : (w : List ℕ) (x : Token) (ts : List Token) (low : x.terminal < v.grammar.terminals) (s : Settles v tables m (x ∷ ts) low w) → ((u : List ℕ) → Viable v.grammar u → Each v.grammar u → Halts u ts) → (a : Action) → m.act (state_behind m s.prefix) x.terminal ≡ a → Halts w (x ∷ ts)
  at-token w x ts low s go (Shift u) is =
      let t = shifted s.prefix s.viable x ts low u is in
      let i = go (x.terminal ∷ s.prefix) t.viable (x ∷ [], suc zero, (tt ∷ [], token x x.terminal [] [] [] zero low refl nothing), s.each) in
      record {
        steps = s.steps + (suc zero + i.steps);
        stack = i.stack;
        rest = i.rest;
        run = joined v plain m s.steps (suc zero + i.steps) (stack_of m w) (stack_of m s.prefix) i.stack (x ∷ ts) (x ∷ ts) i.rest s.run
            (joined v plain m (suc zero) i.steps (stack_of m s.prefix) (stack_of m (x.terminal ∷ s.prefix)) i.stack (x ∷ ts) ts i.rest t.run i.run);
        over = i.over;
      }
  at-token w x ts low s go (Reduce p) is = absurd (s.free p is)
  at-token w x ts low s go Accept is = here w (x ∷ ts) low s (inl is)
  at-token w x ts low s go Stop is = here w (x ∷ ts) low s (inr is)

  halts : (ts : List Token) → AreTokens v.grammar ts → (w : List ℕ) → Viable v.grammar w → Each v.grammar w → Halts w ts
  halts [] h w x e = let s = settles v tables m [] zero-low w x e in at-end w s (m.act (state_behind m s.prefix) zero) refl
  halts (y ∷ ts) h w x e =
      let P = λ (t : Token). (0 < t.terminal) × (t.terminal < v.grammar.terminals) in
      let low = (All-head P y ts h).1 in
      let s = settles v tables m (y ∷ ts) low w x e in
      at-token w y ts low s (λ u k f. halts ts (All-tail P y ts h) u k f) (m.act (state_behind m s.prefix) y.terminal) refl

  halts-from : (k : ℕ) → k < length v.grammar.entries → (ts : List Token) → AreTokens v.grammar ts → Halts (suc k ∷ []) ts
  halts-from k l ts h =
      let x : Token = record { terminal = suc k; text = [] } in
      let low : suc k < v.grammar.terminals = (let e = tables.formed.ends in omega (arith, e, l)) in
      halts ts h (suc k ∷ []) (start-viable k l) (x ∷ [], suc zero, (tt ∷ [], token x (suc k) [] [] [] zero low refl nothing), tt)
    where
      start-viable : (k : ℕ) → k < length v.grammar.entries → Viable v.grammar (suc k ∷ [])
      start-viable k l = let p = length v.grammar.rules + k in (p, suc zero, (zero, step [] p zero zero (suc k) (start k p l refl) (marker-at v.grammar tables.formed k p l refl)))

  at-its-end : (ts : List Token) → AreTokens v.grammar ts → look ts ≡ zero → ts ≡ []
  at-its-end [] h e = refl
  at-its-end (x ∷ ts) h e = absurd (let l = (All-head (λ (t : Token). (0 < t.terminal) × (t.terminal < v.grammar.terminals)) x ts h).0 in omega (arith, l, e))

  module _ {A : Type 0} (alg : Algebra A) (k N : ℕ) (entry : IsEntry v.grammar k N) (ts : List Token) (tokens : AreTokens v.grammar ts) where
    pub each-answer : ((b : A) × (n : ℕ) × Derives v.grammar alg (N ∷ []) ts (b ∷ []) n) ⊎ ((j : ℕ) × FailsAt v.grammar N ts j)
    each-answer =
        let l = slice_get_within v.grammar.entries k entry.0 entry.1 in
        let i = halts-from k l ts tokens in
        let r = kept-run v tables m plain k tt l i.steps (begun m k tt) i.stack ts i.rest i.run [] tokens (kept-start v tables m plain k tt l (look ts)) in
        elim i.over [
          | inl accept ↦
              let a = accept-right v tables m plain k N entry tt r.0 (look i.rest) i.stack r.2 (look-within v.grammar.terminals i.rest zero-low r.3) accept in
              let whole : r.0 ≡ ts = sym (append-nil r.0) ∙ (ap (λ z. r.0 ++ z) (sym (at-its-end i.rest r.3 a.4)) ∙ sym r.1) in
              let d = retold v.grammar plain alg (N ∷ []) ts (a.1 ∷ []) a.0 (subst (λ z. Derives v.grammar plain (N ∷ []) z (a.1 ∷ []) a.0) whole a.2) in
              let o = one-result v.grammar alg N ts d.0 a.0 d.1 in
              inl (o.0, a.0, subst (λ z. Derives v.grammar alg (N ∷ []) ts z a.0) o.1 d.1)
          | inr stop ↦ inr (length r.0, subst (λ z. FailsAt v.grammar N z (length r.0)) (sym r.1) (stop-fails v tables m plain k N entry tt r.0 i.stack i.rest r.2 stop))
        ]

    pub each-end : (a : A) → ((n : ℕ) × (z : List (ℕ × A)) × Accepts alg m n (begun m k a) ts z) ⊎ ((rest : List Token) × StopsBefore alg m (begun m k a) ts rest)
    each-end a =
        let l = slice_get_within v.grammar.entries k entry.0 entry.1 in
        let i = halts-from k l ts tokens in
        let r = kept-run v tables m plain k tt l i.steps (begun m k tt) i.stack ts i.rest i.run [] tokens (kept-start v tables m plain k tt l (look ts)) in
        let q = run-retold v m plain alg i.steps (begun m k tt) i.stack ts i.rest i.run (begun m k a) refl in
        let tops : top q.0 ≡ top i.stack = top-states q.0 ∙ (ap first_of (sym q.2) ∙ sym (top-states i.stack)) in
        elim i.over [
          | inl accept ↦
              let b = accept-right v tables m plain k N entry tt r.0 (look i.rest) i.stack r.2 (look-within v.grammar.terminals i.rest zero-low r.3) accept in
              let none = at-its-end i.rest r.3 b.4 in
              inl (i.steps, q.0, (subst (λ z. Run alg m i.steps (begun m k a) ts q.0 z) none q.1, ap (λ z. m.act z zero) tops ∙ (ap (λ z. m.act (top i.stack) z) (sym b.4) ∙ accept)))
          | inr stop ↦ inr (i.rest, (i.steps, q.0, q.1, ap (λ z. m.act z (look i.rest)) tops ∙ stop))
        ]
