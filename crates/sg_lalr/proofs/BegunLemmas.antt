-- Lemmas on the productions of a symbol, and on the nodes that begin them.
use Rattle.std.proofs.Common.{◌≡◌, ℕ, ◌+◌, ◌<◌, suc, ◌≤◌, inl, inr, List, [], ◌∷◌, ◌++◌, length, get_or, refl, sym, ap, ◌∙◌, subst, arith, Some, None}
use Rattle.std.specs.Prelude.{◌↔◌, slice_get, slice_index, Contains}
use Rattle.std.proofs.Math.ListN.{set}
use Rattle.std.proofs.lemmas.Bool.{cases_eq, cases_lt}
use Rattle.std.proofs.lemmas.List.{get_or-set_other, get_or-set_same}
use Rattle.std.proofs.lemmas.Option.{slice_get_within, get_or_from_slice_get, same_Some, none-some}
use Rattle.std.proofs.lemmas.List.Elements.{All-contains, Contains-push, Contains-push_cases, Contains-append_left}
use Rattle.sg_grammar.specs.declared.grammar.Production.{Production}
use Rattle.sg_grammar.specs.Grammar.{Grammar}
use Rattle.sg_grammar.specs.WellFormed.{IsRule, IsWellFormed}
use Rattle.sg_lalr.specs.declared.lookaheads.Node.{Node}
use Rattle.sg_lalr.specs.Items.{item}
use Rattle.sg_lalr.specs.Closure.{HasLeft}
use Rattle.sg_lalr.specs.Lefts.{AreLefts, HasHead, AreHeads}
use Rattle.sg_lalr.specs.Lookaheads.{node_at, BeginsWith}
use Rattle.sg_lalr.proofs.CornerLemmas.{HasLeft-at, HasLeft-within}
use Rattle.sg_lalr.specs.Slots.{IsOneEach, OfSome}
use Rattle.sg_lalr.proofs.RisingLemmas.{Contains-nil}

-- each row has the first n of the symbol's productions
abbrev pub LeftsTo : List Production → List (List ℕ) → ℕ → Type 0
LeftsTo rules lefts n = (X q : ℕ) → Contains (get_or lefts X []) q ↔ ((q < n) × HasLeft rules X q)

pub lefts-more : (rules : List Production) (lefts : List (List ℕ)) (n : ℕ) (r : Production) (row : List ℕ) → slice_get rules n ≡ Some r → r.left < length lefts → row ≡ get_or lefts r.left [] ++ n ∷ [] → LeftsTo rules lefts n → LeftsTo rules (set lefts r.left row) (n + 1)
lefts-more rules lefts n r row is low new l X q = elim (cases_eq X r.left) [
  | inl same ↦
      let here : get_or (set lefts r.left row) X [] ≡ get_or lefts X [] ++ n ∷ [] = ap (λ Y. get_or (set lefts r.left row) Y []) same ∙ get_or-set_same lefts r.left row [] low ∙ new ∙ ap (λ Y. get_or lefts Y [] ++ n ∷ []) (sym same) in (
        λ h. elim (Contains-push_cases (get_or lefts X []) n q (subst (λ xs. Contains xs q) here h)) [
          | inl was ↦ (let o = (l X q).0 was in let k = o.0 in (omega (arith, k), o.1))
          | inr e ↦ (omega (arith, e), (r, subst (λ k. slice_get rules k ≡ Some r) e is, same))
        ],
        λ h. subst (λ xs. Contains xs q) (sym here) (elim (cases_lt q n) [
          | inl before ↦ Contains-append_left (get_or lefts X []) (n ∷ []) q ((l X q).1 (before, h.1))
          | inr after ↦ (let k = h.0 in let e : n ≡ q = omega (arith, k, after) in subst (Contains (get_or lefts X [] ++ n ∷ [])) e (Contains-push (get_or lefts X []) n))
        ]),
      )
  | inr other ↦
      let here : get_or (set lefts r.left row) X [] ≡ get_or lefts X [] = get_or-set_other lefts r.left X row [] other in (
        λ h. (let o = (l X q).0 (subst (λ xs. Contains xs q) here h) in let k = o.0 in (omega (arith, k), o.1)),
        λ h. subst (λ xs. Contains xs q) (sym here) (elim (cases_lt q n) [
          | inl before ↦ (l X q).1 (before, h.1)
          | inr after ↦ absurd (let k = h.0 in let e : q ≡ n = omega (arith, k, after) in other (HasLeft-at rules X n r is (subst (HasLeft rules X) e h.1)))
        ]),
      )
]

pub lefts-all : (rules : List Production) (lefts : List (List ℕ)) (n : ℕ) → length rules ≤ n → LeftsTo rules lefts n → AreLefts rules lefts
lefts-all rules lefts n all l X q = (λ h. ((l X q).0 h).1, λ h. (l X q).1 ((let k = HasLeft-within rules X q h in omega (arith, k, all)), h))

-- each row has the symbols with which the symbol's productions begin
pub heads-none : (heads : List (List ℕ)) → ((X : ℕ) → get_or heads X [] ≡ []) → AreHeads [] heads
heads-none heads none X Y = (λ c. absurd (Contains-nil Y (subst (λ l. Contains l Y) (none X) c)), λ h. absurd (Contains-nil h.0 h.1))

head-older : (rules : List Production) (r : Production) (X Y : ℕ) → HasHead rules X Y → HasHead (rules ++ r ∷ []) X Y
head-older rules r X Y h = (h.0, Contains-append_left rules (r ∷ []) h.0 h.1, h.2, h.3)

pub heads-more : (rules : List Production) (heads : List (List ℕ)) (r : Production) (Z : ℕ) (row : List ℕ) → slice_get r.right 0 ≡ Some Z → r.left < length heads → row ≡ get_or heads r.left [] ++ Z ∷ [] → AreHeads rules heads → AreHeads (rules ++ r ∷ []) (set heads r.left row)
heads-more rules heads r Z row first low new are X Y = elim (cases_eq X r.left) [
  | inl same ↦
      let here : get_or (set heads r.left row) X [] ≡ get_or heads X [] ++ Z ∷ [] = ap (λ V. get_or (set heads r.left row) V []) same ∙ get_or-set_same heads r.left row [] low ∙ new ∙ ap (λ V. get_or heads V [] ++ Z ∷ []) (sym same) in (
        λ c. elim (Contains-push_cases (get_or heads X []) Z Y (subst (λ l. Contains l Y) here c)) [
          | inl was ↦ head-older rules r X Y ((are X Y).0 was)
          | inr e ↦ (r, Contains-push rules r, same, first ∙ ap Some e)
        ],
        λ h. subst (λ l. Contains l Y) (sym here) (elim (Contains-push_cases rules r h.0 h.1) [
          | inl before ↦ Contains-append_left (get_or heads X []) (Z ∷ []) Y ((are X Y).1 (h.0, before, h.2, h.3))
          | inr e ↦ subst (Contains (get_or heads X [] ++ Z ∷ [])) (same_Some Z Y (sym first ∙ ap (λ (s : Production). slice_get s.right 0) e ∙ h.3)) (Contains-push (get_or heads X []) Z)
        ]),
      )
  | inr other ↦
      let here : get_or (set heads r.left row) X [] ≡ get_or heads X [] = get_or-set_other heads r.left X row [] other in (
        λ c. head-older rules r X Y ((are X Y).0 (subst (λ l. Contains l Y) here c)),
        λ h. subst (λ l. Contains l Y) (sym here) (elim (Contains-push_cases rules r h.0 h.1) [
          | inl before ↦ (are X Y).1 (h.0, before, h.2, h.3)
          | inr e ↦ absurd (other (h.2 ∙ ap (λ (s : Production). s.left) (sym e)))
        ]),
      )
]

pub heads-same : (rules : List Production) (heads : List (List ℕ)) (r : Production) → slice_get r.right 0 ≡ None → AreHeads rules heads → AreHeads (rules ++ r ∷ []) heads
heads-same rules heads r none are X Y = (
  λ c. head-older rules r X Y ((are X Y).0 c),
  λ h. elim (Contains-push_cases rules r h.0 h.1) [
    | inl before ↦ (are X Y).1 (h.0, before, h.2, h.3)
    | inr e ↦ absurd (none-some Y (sym none ∙ ap (λ (s : Production). slice_get s.right 0) e ∙ h.3))
  ],
)

-- what begins a production is a symbol
pub head-within : (g : Grammar) (X Y : ℕ) → IsWellFormed g → HasHead g.rules X Y → Y < g.symbols
head-within g X Y formed h =
    let first = suc (length g.entries) in
    let r = h.0 in
    let rule : IsRule first g.terminals g.symbols r = All-contains (IsRule first g.terminals g.symbols) g.rules r formed.rules h.1 in
    let in_right : Contains r.right Y = (0, slice_get_within r.right 0 Y h.3, get_or_from_slice_get r.right 0 Y Y h.3) in
    (All-contains (λ Z. (first ≤ Z) × (Z < g.symbols)) r.right Y rule.2.1 in_right).1

-- what stands in the row of a symbol is a production of it
pub row-left : (rules : List Production) (lefts : List (List ℕ)) (row : List ℕ) (x q : ℕ) → AreLefts rules lefts → row ≡ get_or lefts x [] → Contains row q → HasLeft rules x q
row-left rules lefts row x q are is c = (are x q).0 (subst (λ r. Contains r q) is c)

-- the row of the node that begins one production of a symbol is that of all that begin its productions
pub begun-found : (g : Grammar) (nodes : List Node) (slots : List ℕ) (from to x q b : ℕ) → length slots ≡ length nodes → to ≤ length nodes → IsOneEach g nodes from to slots → HasLeft g.rules x q → ((c : ℕ) × (from ≤ c) × (c < to) × ((node_at nodes c).item ≡ item q 0)) → ((m : ℕ) → from ≤ m → m < to → (node_at nodes m).item ≡ item q 0 → m ≡ b)
    → (b < to) × ((y : ℕ) → OfSome slots (λ c. (from ≤ c) × (c < to) × BeginsWith g (node_at nodes c).item x) y ↔ (y ≡ slice_index slots b))
begun-found g nodes slots from to x q b long high one left there only =
    let is : there.0 ≡ b = only there.0 there.1 there.2 there.3 in
    let low : from ≤ b = (let l = there.1 in omega (arith, l, is)) in
    let below : b < to = (let l = there.2 in omega (arith, l, is)) in
    let here : (node_at nodes b).item ≡ item q 0 = ap (λ z. (node_at nodes z).item) (sym is) ∙ there.3 in
    let begins : BeginsWith g (node_at nodes b).item x = subst (λ i. BeginsWith g i x) (sym here) (refl, left) in (
      below,
      λ y. (
        λ o. o.3 ∙ one o.0 b x o.2.0 o.2.1 low below o.2.2 begins,
        λ e. (b, omega (arith, below, high, long), (low, below, begins), e),
      ),
    )

-- the first of a row is in it, and a row without a first has nothing
pub first-in : (row : List ℕ) (q : ℕ) → Some q ≡ slice_get row 0 → Contains row q
first-in row q e = (0, slice_get_within row 0 q (sym e), get_or_from_slice_get row 0 q q (sym e))

pub none-in : (row : List ℕ) (q : ℕ) → None ≡ slice_get row 0 → Contains row q → ⊥
none-in [] q e h = (let l = h.1 in omega (arith, l))
none-in (r ∷ row) q e h = none-some r e
