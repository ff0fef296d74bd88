-- Lemmas on left corners, and on the symbols that are reached through the beginnings of productions.
use Rattle.std.proofs.Common.{◌≡◌, ℕ, ◌+◌, ◌<◌, ◌≤◌, inl, inr, Bool, List, [], ◌∷◌, ◌++◌, length, get_or, take, sym, ap, ◌∙◌, subst, arith, Some}
use Rattle.std.specs.Prelude.{◌↔◌, slice_get, Contains}
use Rattle.std.proofs.lemmas.List.{take_all, take_more, take-append-le}
use Rattle.std.proofs.lemmas.List.Elements.{Contains-get_or, Contains-push, Contains-push_cases}
use Rattle.std.proofs.lemmas.Option.{slice_get_within, slice_get-get_or, get_or_from_slice_get, same_Some}
use Rattle.sg_grammar.specs.declared.grammar.Production.{Production}
use Rattle.sg_sets.specs.Members.{Has}
use Rattle.sg_lalr.specs.Closure.{HasLeft, Corner, same, further, Opens, AreOpened}
use Rattle.sg_lalr.specs.Lefts.{HasHead}
use Rattle.sg_lalr.proofs.OpeningLemmas.{GainsAll}
use Rattle.sg_lalr.proofs.RisingLemmas.{Contains-nil}

pub HasLeft-within : (rules : List Production) (X y : ℕ) → HasLeft rules X y → y < length rules
HasLeft-within rules X y h = slice_get_within rules y h.0 h.1

pub HasLeft-at : (rules : List Production) (X n : ℕ) (r : Production) → slice_get rules n ≡ Some r → HasLeft rules X n → X ≡ r.left
HasLeft-at rules X n r is h = h.2 ∙ ap (λ (s : Production). s.left) (same_Some h.0 r (sym h.1 ∙ is))

-- a symbol that begins a production of another opens its own productions where that other does
opens-head : (rules : List Production) (x Y Z q : ℕ) → ((p : ℕ) → HasLeft rules Y p → Opens rules x p) → HasHead rules Y Z → HasLeft rules Z q → Opens rules x q
opens-head rules x Y Z q opens h left =
    let r = h.0 in
    let p = h.1.0 in
    let is : slice_get rules p ≡ Some r = slice_get-get_or rules p r h.1.1 ∙ ap Some h.1.2 in
    let o = opens p (r, is, h.2) in
    (o.0, o.1, further o.0 p q Z r o.2 is h.3 left)

-- the symbols that were reached from x, of which the beginnings of the first k were followed
pub record Reaching (rules : List Production) (x symbols : ℕ) (seen : List Bool) (reached : List ℕ) (k : ℕ) : Type 0 where
  pub width : length seen ≡ symbols
  pub opened : AreOpened seen reached
  pub start : Contains reached x
  pub only : (Y q : ℕ) → Contains reached Y → HasLeft rules Y q → Opens rules x q
  pub closed : (Y Z : ℕ) → Contains (take k reached) Y → HasHead rules Y Z → Contains reached Z

pub reaching-start : (rules : List Production) (x symbols : ℕ) (none seen : List Bool) (reached : List ℕ) → ((q : ℕ) → Has none q → ⊥) → length seen ≡ symbols → GainsAll none seen (x ∷ []) → AreOpened seen reached → Reaching rules x symbols seen reached 0
reaching-start rules x symbols none seen reached empty width gains o = record {
  width = width;
  opened = o;
  start = (o.exact x).1 ((gains x).1 (inr (Contains-push [] x)));
  only = λ Y q c left. elim ((gains Y).0 ((o.exact Y).0 c)) [
    | inl was ↦ absurd (empty Y was)
    | inr new ↦ elim (Contains-push_cases [] x Y new) [
      | inl nothing ↦ absurd (Contains-nil Y nothing)
      | inr e ↦ (q, subst (λ Z. HasLeft rules Z q) (sym e) left, same q left.0 left.1)
    ]
  ];
  closed = λ Y Z c h. absurd (Contains-nil Y c);
}

pub reaching-more : (rules : List Production) (x symbols : ℕ) (old new : List Bool) (reached next more row : List ℕ) (k Y : ℕ) → k < length reached → Y ≡ get_or reached k Y → ((Z : ℕ) → Contains row Z ↔ HasHead rules Y Z) → length new ≡ length old → GainsAll old new row → AreOpened new next → next ≡ reached ++ more
    → Reaching rules x symbols old reached k → Reaching rules x symbols new next (k + 1)
reaching-more rules x symbols old new reached next more row k Y low reads heads wide gains o longer r = record {
  width = wide ∙ r.width;
  opened = o;
  start = older x r.start;
  only = λ Z q c left. elim ((gains Z).0 ((o.exact Z).0 c)) [
    | inl was ↦ r.only Z q ((r.opened.exact Z).1 was) left
    | inr head ↦ opens-head rules x Y Z q (λ p. r.only Y p there) ((heads Z).0 head) left
  ];
  closed = λ Z W c h. elim (Contains-push_cases (take k reached) Y Z (subst (λ l. Contains l Z) front c)) [
    | inl before ↦ older W (r.closed Z W before h)
    | inr e ↦ (o.exact W).1 ((gains W).1 (inr ((heads W).1 (subst (λ V. HasHead rules V W) (sym e) h))))
  ];
}
  where
    older : (Z : ℕ) → Contains reached Z → Contains next Z
    older Z c = (o.exact Z).1 ((gains Z).1 (inl ((r.opened.exact Z).0 c)))

    there : Contains reached Y
    there = subst (Contains reached) (sym reads) (Contains-get_or reached k Y low)

    front : take (k + 1) next ≡ take k reached ++ Y ∷ []
    front = ap (take (k + 1)) longer ∙ take-append-le (k + 1) reached more (omega (arith, low)) ∙ take_more reached k Y low ∙ ap (λ z. take k reached ++ z ∷ []) (sym reads)

-- where the beginnings of all were followed, they have what x opens
pub reaching-all : (rules : List Production) (x symbols : ℕ) (seen : List Bool) (reached : List ℕ) (k : ℕ) → length reached ≤ k → Reaching rules x symbols seen reached k → (q : ℕ) → Opens rules x q ↔ ((Y : ℕ) × Contains reached Y × HasLeft rules Y q)
reaching-all rules x symbols seen reached k all r q = (λ o. along o.0 q o.1 o.2, λ h. r.only h.0 q h.1 h.2)
  where
    along : (a c : ℕ) → HasLeft rules x a → Corner rules a c → (Y : ℕ) × Contains reached Y × HasLeft rules Y c
    along _ _ left (same a s is) = (x, r.start, left)
    along _ _ left (further a b c X s corner is first under) =
        let by = along a b left corner in
        let head : HasHead rules by.0 X = (s, (b, slice_get_within rules b s is, get_or_from_slice_get rules b s s is), HasLeft-at rules by.0 b s is by.2, first) in
        (X, r.closed by.0 X (subst (λ l. Contains l by.0) (sym (take_all k reached all)) by.1) head, under)
