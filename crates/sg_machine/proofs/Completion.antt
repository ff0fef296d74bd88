-- Whatever an item still derives is accepted over tokens that can follow it.
use Rattle.std.proofs.Common.{◌≡◌, ℕ, zero, suc, ◌+◌, ◌<◌, inl, List, [], ◌∷◌, ◌++◌, length, drop, refl, sym, ap, ◌∙◌, subst, arith, append_assoc, Some}
use Rattle.std.proofs.lemmas.List.{append-nil}
use Rattle.std.proofs.lemmas.List.Elements.{All-drop}
use Rattle.sg_grammar.specs.Grammar.{right_of, symbol_at}
use Rattle.sg_grammar.specs.Derives.{Token, Derives, under, plain}
use Rattle.sg_lalr.specs.ValidItems.{Begins, behind, Valid, start, close, step}
use Rattle.sg_lalr.specs.Tables.{View, IsTables, Decided}
use Rattle.sg_lalr.proofs.MoveLemmas.{right_of-fits, symbol-within}
use Rattle.sg_machine.specs.Machine.{look, pushed, Run, Accepts}
use Rattle.sg_machine.specs.Kept.{cells_of}
use Rattle.sg_machine.proofs.Lists.{drop-at}
use Rattle.sg_machine.proofs.Exact.{right_of-rule, accepts}
use Rattle.sg_machine.proofs.Derivations.{derives-append, begins-of, derives-some, derives-beginning, length-results}
use Rattle.sg_machine.proofs.Running.{split, over-at-once}
use Rattle.sg_machine.proofs.Consume.{top-cells, moved, consume}
use Rattle.sg_machine.proofs.Stacks.{stack_of, units-only, top-stack, Derived}

module _ (v : View) (tables : IsTables v) (m : Decided v) where
  -- whatever the rest of the item derives, with what stands behind it, is accepted in so many steps more
  pub record Completes (w : List ℕ) (p d t : ℕ) : Type 0 where
    pub behind_it : List Token
    pub begins_so : look behind_it ≡ t
    pub more : ℕ
    pub accepted : (us : List Token) (vs : List (Unit {0})) (n : ℕ) → Derives v.grammar plain (drop d (right_of v.grammar p)) us vs n → (z : List (ℕ × Unit {0})) × Accepts plain m (n + more) (stack_of m w) (us ++ behind_it) z

  rest-some : (p d : ℕ) → (ts : List Token) × (vs : List (Unit {0})) × (n : ℕ) × Derives v.grammar plain (drop d (right_of v.grammar p)) ts vs n
  rest-some p d = derives-some v.grammar tables.formed tables.productive (drop d (right_of v.grammar p)) (All-drop (λ X. X < v.grammar.symbols) d (right_of v.grammar p) (right_of-fits v.grammar p tables.formed).1)

  at-start : (k p : ℕ) → k < length v.grammar.entries → p ≡ length v.grammar.rules + k → (us : List Token) (vs : List (Unit {0})) (n : ℕ) → Derives v.grammar plain (right_of v.grammar p) us vs n → (z : List (ℕ × Unit {0})) × Accepts plain m (n + zero) [] (us ++ []) z
  at-start k p l e us vs n d =
      let R = right_of v.grammar p in
      let x = start k p l e in
      let run = consume v tables m plain [] R [] p zero zero us vs n d x (sym (append-nil R)) [] (behind zero) [] refl in
      let end = moved v.grammar [] p zero zero R x refl in
      let tops = top-cells v m [] R vs [] (length-results v.grammar plain R us vs n d) refl in
      let z = pushed (cells_of m [] R vs) [] in (
        z,
        (subst (λ j. Run plain m j [] (us ++ []) z []) (omega arith) run, ap (λ y. m.act y zero) tops ∙ accepts v tables m (pushed R []) p end.0 zero end.1 end.2 (omega (arith, e))),
      )

  -- one symbol further
  stepped : (w : List ℕ) (p d t X : ℕ) → Valid v.grammar w p d t → symbol_at v.grammar p d ≡ Some X → (i : Completes w p d t) → (ts : List Token) (bs : List (Unit {0})) (j : ℕ) → Derives v.grammar plain (X ∷ []) ts bs j
      → (us : List Token) (vs : List (Unit {0})) (n : ℕ) → Derives v.grammar plain (drop (suc d) (right_of v.grammar p)) us vs n → (z : List (ℕ × Unit {0})) × Accepts plain m (n + i.more) (stack_of m (X ∷ w)) (us ++ i.behind_it) z
  stepped w p d t X x at i ts bs j o us vs n f =
      let R = drop (suc d) (right_of v.grammar p) in
      let rights = drop-at (right_of v.grammar p) d X at in
      let whole = subst (λ y. Derives v.grammar plain y (ts ++ us) (bs ++ vs) (j + n)) (sym rights) (derives-append v.grammar plain (X ∷ []) R ts us bs vs j n o f) in
      let done = i.accepted (ts ++ us) (bs ++ vs) (j + n) whole in
      let run = subst (λ y. Run plain m (j + n + i.more) (stack_of m w) y done.0 []) (append_assoc ts us i.behind_it) done.1.0 in
      let b = subst (λ y. Begins v.grammar R y (look (us ++ i.behind_it))) i.begins_so (begins-of v.grammar plain R us vs n f i.behind_it) in
      let part = consume v tables m plain w (X ∷ []) R p d t ts bs j o x rights (us ++ i.behind_it) b (stack_of m w) (top-stack v m w) in
      let only = units-only bs (X ∷ []) (length-results v.grammar plain (X ∷ []) ts bs j o) in
      let part1 = subst (λ y. Run plain m j (stack_of m w) (ts ++ (us ++ i.behind_it)) (pushed (cells_of m w (X ∷ []) y) (stack_of m w)) (us ++ i.behind_it)) only part in
      let left = split v plain m j (n + i.more) (j + n + i.more) (stack_of m w) (stack_of m (X ∷ w)) done.0 (ts ++ (us ++ i.behind_it)) (us ++ i.behind_it) [] part1 run (omega arith) in
      (done.0, (left, done.1.1))

  pub completion : (w : List ℕ) (p d t : ℕ) → Valid v.grammar w p d t → Completes w p d t
  completion _ _ _ _ (start k p l e) = record {
    behind_it = [];
    begins_so = refl;
    more = zero;
    accepted = λ us vs n f. at-start k p l e us vs n f;
  }
  completion _ _ _ _ (close w p d t X q u r x at is left b) =
      let i = completion w p d t x in
      let g = v.grammar in
      let fits = All-drop (λ Y. Y < g.symbols) (suc d) (right_of g p) (right_of-fits g p tables.formed).1 in
      let l = derives-beginning g tables.formed tables.productive (drop (suc d) (right_of g p)) t u b fits i.behind_it i.begins_so in
      record {
        behind_it = l.0 ++ i.behind_it;
        begins_so = l.4;
        more = suc (l.2 + i.more);
        accepted = λ us vs n f.
            let side : Derives g plain r.right us vs n = subst (λ z. Derives g plain z us vs n) (right_of-rule g q r is) f in
            let node = under q r X (drop (suc d) (right_of g p)) us l.0 (us ++ l.0) vs l.1 n l.2 (n + l.2) is left side l.3 refl refl in
            let whole = subst (λ z. Derives g plain z (us ++ l.0) (tt ∷ l.1) (suc (n + l.2))) (sym (drop-at (right_of g p) d X at)) node in
            let done = i.accepted (us ++ l.0) (tt ∷ l.1) (suc (n + l.2)) whole in (
              done.0,
              (
                subst (λ j. Run plain m j (stack_of m w) (us ++ (l.0 ++ i.behind_it)) done.0 []) (omega arith)
                    (subst (λ z. Run plain m (suc (n + l.2) + i.more) (stack_of m w) z done.0 []) (append_assoc us l.0 i.behind_it) done.1.0),
                done.1.1,
              ),
            );
      }
  completion _ _ _ _ (step w p d t X x at) =
      let i = completion w p d t x in
      let o = tables.productive X (symbol-within v.grammar tables.formed p d X at) in
      record {
        behind_it = i.behind_it;
        begins_so = i.begins_so;
        more = i.more;
        accepted = stepped w p d t X x at i o.0 o.1 o.2 o.3;
      }

  -- two accepted runs from one stack over the same tokens have one length
  one-length : (i j : ℕ) (s y z : List (ℕ × Unit {0})) (ts : List Token) → Accepts plain m i s ts y → Accepts plain m (i + j) s ts z → j ≡ zero
  one-length i j s y z ts a b = (over-at-once v plain m j y z [] [] (inl a.1) (split v plain m i j (i + j) s y z ts [] [] a.0 b.0 refl)).0

  -- a symbol that an item of the prefix expects has one size of derivation over given tokens
  pub one-size : (w : List ℕ) (p d t X : ℕ) → Valid v.grammar w p d t → symbol_at v.grammar p d ≡ Some X → (ts : List Token) (i j : ℕ) → Derived v.grammar X ts i → Derived v.grammar X ts (i + j) → j ≡ zero
  one-size w p d t X x at ts i j a b =
      let c = completion w p d t x in
      let o = rest-some p (suc d) in
      let R = drop (suc d) (right_of v.grammar p) in
      let rights = drop-at (right_of v.grammar p) d X at in
      let e1 = subst (λ z. Derives v.grammar plain z (ts ++ o.0) (a.0 ++ o.1) (i + o.2)) (sym rights) (derives-append v.grammar plain (X ∷ []) R ts o.0 a.0 o.1 i o.2 a.1 o.3) in
      let e2 = subst (λ z. Derives v.grammar plain z (ts ++ o.0) (b.0 ++ o.1) (i + j + o.2)) (sym rights) (derives-append v.grammar plain (X ∷ []) R ts o.0 b.0 o.1 (i + j) o.2 b.1 o.3) in
      let r1 = c.accepted (ts ++ o.0) (a.0 ++ o.1) (i + o.2) e1 in
      let r2 = c.accepted (ts ++ o.0) (b.0 ++ o.1) (i + j + o.2) e2 in
      one-length (i + o.2 + c.more) j (stack_of m w) r1.0 r2.0 ((ts ++ o.0) ++ c.behind_it) r1.1
      (subst (λ k. Run plain m k (stack_of m w) ((ts ++ o.0) ++ c.behind_it) r2.0 []) (omega arith) r2.1.0, r2.1.1)
