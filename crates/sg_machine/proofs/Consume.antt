-- The machine goes over the tokens of a derivation in as many steps as it has nodes.
use Rattle.std.proofs.Common.{◌≡◌, ℕ, zero, suc, ◌+◌, List, [], ◌∷◌, ◌++◌, length, drop, refl, sym, ap, ◌∙◌, subst, arith, append_assoc, Some, None}
use Rattle.std.specs.Prelude.{slice_get}
use Rattle.std.proofs.lemmas.List.{append-nil}
use Rattle.std.proofs.lemmas.Option.{slice_get_within}
use Rattle.sg_grammar.specs.declared.grammar.Production.{Production}
use Rattle.sg_grammar.specs.Grammar.{Grammar, right_of, symbol_at}
use Rattle.sg_grammar.specs.Derives.{Token, Algebra, Derives, nothing, token, under}
use Rattle.sg_lalr.specs.declared.table.Action.TheVariants.{Shift, Reduce}
use Rattle.sg_lalr.specs.ValidItems.{Begins, behind, Valid, close, step}
use Rattle.sg_lalr.specs.Tables.{View, IsTables, Decided}
use Rattle.sg_machine.specs.Machine.{look, state_behind, top, pushed, results_in, Run, stay, shift, reduce}
use Rattle.sg_machine.specs.Kept.{cells_of}
use Rattle.sg_machine.proofs.Lists.{drop-head, drop-tail, past-drop}
use Rattle.sg_machine.proofs.Exact.{right_of-rule, shifts, reduces}
use Rattle.sg_machine.proofs.Derivations.{begins-append, begins-of, length-results}
use Rattle.sg_machine.proofs.Running.{joined}

pub cells-results : {A : Type 0} (v : View) (m : Decided v) (w Xs : List ℕ) (bs : List A) → length bs ≡ length Xs → (results_in (cells_of m w Xs bs) ≡ bs) × (length (cells_of m w Xs bs) ≡ length Xs)
cells-results v m w [] [] l = (refl, refl)
cells-results v m w [] (b ∷ bs) l = absurd (omega (arith, l))
cells-results v m w (X ∷ Xs) [] l = absurd (omega (arith, l))
cells-results v m w (X ∷ Xs) (b ∷ bs) l =
    let i = cells-results v m (X ∷ w) Xs bs (omega (arith, l)) in (ap (λ z. b ∷ z) i.0, ap suc i.1)

pub top-cells : {A : Type 0} (v : View) (m : Decided v) (w Xs : List ℕ) (bs : List A) (s : List (ℕ × A)) → length bs ≡ length Xs → top s ≡ state_behind m w → top (pushed (cells_of m w Xs bs) s) ≡ state_behind m (pushed Xs w)
top-cells v m w [] bs s l h = h
top-cells v m w (X ∷ Xs) [] s l h = absurd (omega (arith, l))
top-cells v m w (X ∷ Xs) (b ∷ bs) s l h = top-cells v m (X ∷ w) Xs bs ((state_behind m (X ∷ w), b) ∷ s) (omega (arith, l)) refl

-- an item moves over what it still expects
pub moved : (g : Grammar) (w : List ℕ) (p d t : ℕ) (Xs : List ℕ) → Valid g w p d t → drop d (right_of g p) ≡ Xs → (e : ℕ) × Valid g (pushed Xs w) p e t × (symbol_at g p e ≡ None)
moved g w p d t [] v h = (d, v, past-drop (right_of g p) d h)
moved g w p d t (X ∷ Xs) v h = moved g (X ∷ w) p (suc d) t Xs (step w p d t X v (drop-head d (right_of g p) X Xs h)) (drop-tail d (right_of g p) X Xs h)

pub whole : (g : Grammar) (p : ℕ) (r : Production) → slice_get g.rules p ≡ Some r → drop zero (right_of g p) ≡ r.right
whole g p r is = right_of-rule g p r is

module _ {A : Type 0} (v : View) (tables : IsTables v) (m : Decided v) (alg : Algebra A) where
  -- one step at the end of a right side
  done : (p : ℕ) (r : Production) (w : List ℕ) (u : ℕ) → slice_get v.grammar.rules p ≡ Some r → Valid v.grammar w p zero u → (X : ℕ) → X ≡ r.left → (us : List Token) (ws : List A) (k : ℕ) → Derives v.grammar alg r.right us ws k
      → (s : List (ℕ × A)) → top s ≡ state_behind m w → (rest : List Token) → look rest ≡ u → (n : ℕ) (z : List (ℕ × A)) (zs : List Token) → Run alg m n ((state_behind m (X ∷ w), alg.node p ws) ∷ s) rest z zs
      → Run alg m (suc n) (pushed (cells_of m w r.right ws) s) rest z zs
  done p r w u is x X left us ws k d s q rest l n z zs run =
      let cells = cells_of m w r.right ws in
      let lengths = length-results v.grammar alg r.right us ws k d in
      let i = cells-results v m w r.right ws lengths in
      let end = moved v.grammar w p zero u r.right x (whole v.grammar p r is) in
      let does = reduces v tables m (pushed r.right w) p end.0 u end.1 end.2 (slice_get_within v.grammar.rules p r is) in
      let acts : m.act (top (pushed cells s)) (look rest) ≡ Reduce p = ap (λ y. m.act y (look rest)) (top-cells v m w r.right ws s lengths q) ∙ (ap (λ y. m.act (state_behind m (pushed r.right w)) y) l ∙ does) in
      let goes : state_behind m (X ∷ w) ≡ m.go (top s) r.left = ap (λ y. m.go (state_behind m w) y) left ∙ ap (λ y. m.go y r.left) (sym q) in
      let r1 = subst (λ y. Run alg m n ((y, alg.node p ws) ∷ s) rest z zs) goes run in
      let r2 = subst (λ y. Run alg m n ((m.go (top s) r.left, alg.node p y) ∷ s) rest z zs) (sym i.0) r1 in
      reduce n p r cells s (pushed cells s) z rest zs acts is refl i.1 r2

  pub consume : (w Xs Ys : List ℕ) (p d t : ℕ) (ts : List Token) (vs : List A) (n : ℕ) → Derives v.grammar alg Xs ts vs n → Valid v.grammar w p d t → drop d (right_of v.grammar p) ≡ Xs ++ Ys → (rest : List Token) → Begins v.grammar Ys t (look rest) → (s : List (ℕ × A)) → top s ≡ state_behind m w
      → Run alg m n s (ts ++ rest) (pushed (cells_of m w Xs vs) s) rest
  consume w _ Ys p d t _ _ _ nothing x h rest l s q = stay s rest
  consume w _ Ys p d t _ _ _ (token y X Xs ts vs n b e f) x h rest l s q =
      let at = drop-head d (right_of v.grammar p) X (Xs ++ Ys) h in
      let goes : m.act (top s) y.terminal ≡ Shift (state_behind m (X ∷ w)) = ap (λ z. m.act z y.terminal) q ∙ (ap (λ z. m.act (state_behind m w) z) (sym e) ∙ shifts v tables m w p d t X x at b) in
      let cell : ℕ × A = (state_behind m (X ∷ w), alg.leaf y) in
      shift n (state_behind m (X ∷ w)) y s (pushed (cells_of m (X ∷ w) Xs vs) (cell ∷ s)) (ts ++ rest) rest goes
      (consume (X ∷ w) Xs Ys p (suc d) t ts vs n f (step w p d t X x at) (drop-tail d (right_of v.grammar p) X (Xs ++ Ys) h) rest l (cell ∷ s) refl)
  consume w _ Ys p d t _ _ _ (under q' r X Xs us ts all ws vs i n k a c f1 f2 e j) x h rest l s q =
      let at = drop-head d (right_of v.grammar p) X (Xs ++ Ys) h in
      let tail = drop-tail d (right_of v.grammar p) X (Xs ++ Ys) h in
      let u = look (ts ++ rest) in
      let b = begins-append v.grammar Xs Ys (look rest) t u (begins-of v.grammar alg Xs ts vs n f2 rest) l in
      let closed = close w p d t X q' u r x at a c (subst (λ z. Begins v.grammar z t u) (sym tail) b) in
      let ends : drop zero (right_of v.grammar q') ≡ r.right ++ [] = whole v.grammar q' r a ∙ sym (append-nil r.right) in
      let over = consume w r.right [] q' zero u us ws i f1 closed ends (ts ++ rest) (behind u) s q in
      let cell : ℕ × A = (state_behind m (X ∷ w), alg.node q' ws) in
      let z = pushed (cells_of m (X ∷ w) Xs vs) (cell ∷ s) in
      let behind_it = consume (X ∷ w) Xs Ys p (suc d) t ts vs n f2 (step w p d t X x at) tail rest l (cell ∷ s) refl in
      let turned = done q' r w u a closed X c us ws i f1 s q (ts ++ rest) refl n z rest behind_it in
      let run = joined v alg m i (suc n) s (pushed (cells_of m w r.right ws) s) z (us ++ (ts ++ rest)) (ts ++ rest) rest over turned in
      let tokens : us ++ (ts ++ rest) ≡ all ++ rest = sym (append_assoc us ts rest) ∙ ap (λ y. y ++ rest) (sym e) in
      subst (λ y. Run alg m y s (all ++ rest) z rest) (omega (arith, j)) (subst (λ y. Run alg m (i + suc n) s y z rest) tokens run)
