-- A term writes the same where the values at its places are the same.
use Rattle.std.specs.Prelude.{◌≡◌, refl, ℕ, zero, suc, Bool, true, false, if◌then◌else◌, List, [], ◌∷◌, unwrap_or, None}
use Rattle.std.proofs.Common.{ap, ◌∙◌}
use Rattle.sg_kinds.specs.Values.{Value}
use Rattle.sg_kinds.specs.Terms.{Term, Terms, Leaf, Node, NoTerm, AndTerm}
use Rattle.sg_kinds.specs.Places.{Place}
use Rattle.sg_kinds.specs.Nets.{Reference}
use Rattle.sg_kinds.specs.Typing.{slot_type}
use Rattle.sg_kinds.specs.declared.spec.Spec.{Spec}
use Rattle.sg_kinds.specs.declared.spec.Occurrence.{Occurrence}
use Rattle.sg_kinds.specs.declared.spec.Item.{Item}
use Rattle.sg_kinds.specs.declared.spec.Item.TheVariants.{Writes as WritesPieces, Child, Shows, Separates}
use Rattle.sg_groves.specs.Evaluated.{IsAtOrBelow}
use Rattle.sg_groves.proofs.Below.{below_itself, below_by_child}
use Rattle.sg_unparse.specs.Cells.{Writing, nothing, in_turn, plain, pieces, ended, placed, goes_on, reference, items_of, shows, items, content, unparsed, unparsed_among}
use Rattle.sg_unparse.specs.Printing.{value_text}
use Rattle.sg_unparse.specs.Begins.{none_typed}
use Rattle.sg_unparse.proofs.Owners.{under_child}

reference_below : (u : Place) (o : Occurrence) → IsAtOrBelow (reference u o).node u
reference_below u o = by o.at
  where
    by : (n : ℕ) → IsAtOrBelow (elim n [ zero ↦ u | suc k ↦ k ∷ u ]) u
    by zero = below_itself u
    by (suc k) = below_by_child k u u (below_itself u)

module _ (spec : Spec) (value other : Reference Place → Value) where
  -- what the occurrences of an operator at a place show
  abbrev pub ShowSame : Place → ℕ → Type 0
  ShowSame u op = (o : Occurrence) → shows spec value none_typed u op o ≡ shows spec other none_typed u op o

  pub shows_same : (u : Place) (op : ℕ) (o : Occurrence) → value (reference u o) ≡ other (reference u o) → shows spec value none_typed u op o ≡ shows spec other none_typed u op o
  shows_same u op o e = ap (λ v. plain u (value_text spec (unwrap_or (slot_type spec op o.at o.slot) 0) v)) e

  items_same : (u : Place) (op : ℕ) (more : Bool) → ShowSame u op → (is : List Item) (kids : List Writing) → items spec value none_typed u op more is kids ≡ items spec other none_typed u op more is kids
  items_same u op more h [] kids = refl
  items_same u op more h (WritesPieces ps ∷ is) kids = ap (in_turn (pieces u ps)) (items_same u op more h is kids)
  items_same u op more h (Child place ∷ is) [] = items_same u op more h is []
  items_same u op more h (Child place ∷ is) (kid ∷ kids) = ap (in_turn (placed place kid)) (items_same u op more h is kids)
  items_same u op more h (Shows o ∷ is) kids = ap (λ z. in_turn z (items spec value none_typed u op more is kids)) (h o) ∙ ap (in_turn (shows spec other none_typed u op o)) (items_same u op more h is kids)
  items_same u op more h (Separates ps ∷ is) kids = ap (in_turn (if more then pieces u ps else nothing)) (items_same u op more h is kids)

  content_same : (u : Place) (elided : Bool) (f : Writing) → content spec value none_typed u None elided f ≡ content spec other none_typed u None elided f
  content_same u true f = refl
  content_same u false f = refl

  mutual
    pub unparsed_same : (u : Place) (t : Term) → ((a : Reference Place) → IsAtOrBelow a.node u → value a ≡ other a) → unparsed spec value none_typed u t ≡ unparsed spec other none_typed u t
    unparsed_same u (Leaf p v) h = refl
    unparsed_same u (Node op n elided ts) h =
        let kids = unparsed_among spec value none_typed u 0 ts in
        let own = items spec value none_typed u op (goes_on ts) (items_of spec op n) kids in
        ap (ended u) (content_same u elided own
        ∙ ap (content spec other none_typed u None elided)
        (items_same u op (goes_on ts) (λ o. shows_same u op o (h (reference u o) (reference_below u o))) (items_of spec op n) kids
        ∙ ap (items spec other none_typed u op (goes_on ts) (items_of spec op n)) (among_same u 0 ts h)))

    among_same : (u : Place) (k : ℕ) (ts : Terms) → ((a : Reference Place) → IsAtOrBelow a.node u → value a ≡ other a) → unparsed_among spec value none_typed u k ts ≡ unparsed_among spec other none_typed u k ts
    among_same u k NoTerm h = refl
    among_same u k (AndTerm t ts) h =
        ap (λ f. f ∷ unparsed_among spec value none_typed u (suc k) ts) (unparsed_same (k ∷ u) t (λ a b. h a (under_child a.node u k b)))
        ∙ ap (λ fs. unparsed spec other none_typed (k ∷ u) t ∷ fs) (among_same u (suc k) ts h)
