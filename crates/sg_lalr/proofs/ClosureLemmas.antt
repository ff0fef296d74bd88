-- The items of a kernel with what it opens are those of its closure.
use Rattle.std.proofs.Common.{◌≡◌, ℕ, zero, suc, ◌<◌, ◌⊎◌, inl, inr, false, List, [], ◌∷◌, ◌++◌, length, replicate, refl, sym, ap, ◌∙◌, subst, arith, Some}
use Rattle.std.specs.Prelude.{◌↔◌, Contains, slice_get, option_map, unwrap_or}
use Rattle.std.proofs.lemmas.Bool.{false≢true}
use Rattle.std.proofs.lemmas.Option.{none-some}
use Rattle.std.proofs.lemmas.List.Elements.{All-contains}
use Rattle.sg_sets.specs.Members.{Has}
use Rattle.sg_grammar.specs.declared.grammar.Production.{Production}
use Rattle.sg_grammar.specs.Grammar.{Grammar, right_of, symbol_at}
use Rattle.sg_lalr.specs.Items.{Item, item, IsRising}
use Rattle.sg_lalr.specs.Closure.{In, kept, opened, InRange, IsKernel, IsClosure, Corner, same, further, OpensAt, IsOpened}
use Rattle.sg_lalr.proofs.RisingLemmas.{All-contained}
use Rattle.sg_lalr.proofs.OpeningLemmas.{opens-within}

pub slice_get-front : {X : Type 0} (xs ys : List X) (n : ℕ) (x : X) → slice_get xs n ≡ Some x → slice_get (xs ++ ys) n ≡ Some x
slice_get-front [] ys n x h = absurd (none-some x h)
slice_get-front (y ∷ xs) ys zero x h = h
slice_get-front (y ∷ xs) ys (suc n) x h = slice_get-front xs ys n x h

-- the right side of a production that is no start production
pub right_of-rule : (g : Grammar) (q : ℕ) (r : Production) → slice_get g.rules q ≡ Some r → right_of g q ≡ r.right
right_of-rule g q r is = ap (λ o. unwrap_or (option_map (λ (s : Production). s.right) o) []) (slice_get-front g.rules g.entries q r is)

module _ (g : Grammar) (kernel items : List Item) (list : List ℕ) (opens : (q : ℕ) → Contains list q ↔ ((i : Item) × Contains kernel i × OpensAt g i q))
    (has : (i : Item) → Contains items i ↔ (Contains kernel i ⊎ IsOpened list i)) where
  in-corner : (a q : ℕ) → Corner g.rules a q → In g kernel a zero → In g kernel q zero
  in-corner _ _ (same a r is) h = h
  in-corner _ _ (further a b c X r corner is first left) h =
      opened b zero X c left.0 (in-corner a b corner h) (ap (λ s. slice_get s zero) (right_of-rule g b r is) ∙ first) left.1 left.2

  in-opened : (q : ℕ) → Contains list q → In g kernel q zero
  in-opened q h =
      let o = (opens q).0 h in
      let by = o.2.2 in
      in-corner by.0 q by.2 (opened o.0.production o.0.dot o.2.0 by.0 by.1.0 (kept o.0.production o.0.dot o.1) o.2.1 by.1.1 by.1.2)

  pub items-in : (p d : ℕ) → Contains items (item p d) → In g kernel p d
  items-in p d c = elim ((has (item p d)).0 c) [
    | inl k ↦ kept p d k
    | inr o ↦ subst (λ n. In g kernel p n) (sym o.0) (in-opened p o.1)
  ]

  -- what has the symbol behind its dot opens the productions of that symbol
  list-has : (p d X q : ℕ) (r : Production) → Contains items (item p d) → symbol_at g p d ≡ Some X → slice_get g.rules q ≡ Some r → X ≡ r.left → Contains list q
  list-has p d X q r c symbol is left = elim ((has (item p d)).0 c) [
    | inl k ↦ (opens q).1 (item p d, k, (X, symbol, (q, (r, is, left), same q r is)))
    | inr o ↦
        let by = (opens p).0 o.1 in
        let corner = by.2.2 in
        let s = there g.rules p (opens-within g.rules by.2.0 p by.2.2) in
        let first : slice_get s.0.right zero ≡ Some X = ap (λ l. slice_get l zero) (sym (right_of-rule g p s.0 s.1)) ∙ (ap (symbol_at g p) (sym o.0) ∙ symbol) in
        (opens q).1 (by.0, by.1, (by.2.0, by.2.1, (corner.0, corner.1, further corner.0 p q X s.0 corner.2 s.1 first (r, is, left))))
  ]
    where
      there : (rs : List Production) (n : ℕ) → n < length rs → (s : Production) × (slice_get rs n ≡ Some s)
      there [] n low = absurd (omega (arith, low))
      there (s ∷ rs) zero low = (s, refl)
      there (s ∷ rs) (suc n) low = there rs n (omega (arith, low))

  pub in-items : (p d : ℕ) → In g kernel p d → Contains items (item p d)
  in-items p d (kept _ _ c) = (has (item p d)).1 (inl c)
  in-items _ _ (opened p d X q r i symbol is left) =
      (has (item q zero)).1 (inr (refl, list-has p d X q r (in-items p d i) symbol is left))

  pub closure-from : IsKernel g kernel → IsRising items → IsClosure g kernel items
  closure-from k up = record {
    rising = up;
    within = All-contained (InRange g) items (λ i c. elim ((has i).0 c) [ inl old ↦ All-contains (InRange g) kernel i k.within old | inr o ↦ (let by = (opens i.production).0 o.1 in let l = opens-within g.rules by.2.0 i.production by.2.2 in omega (arith, l)) ]);
    exact = λ p d. (items-in p d, in-items p d);
  }

-- a set with nothing in it
pub none-held : (n q : ℕ) → Has (replicate n false) q → ⊥
none-held zero q h = false≢true h
none-held (suc n) zero h = false≢true h
none-held (suc n) (suc q) h = none-held n q h
