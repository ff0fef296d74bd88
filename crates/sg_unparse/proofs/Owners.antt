-- What a node writes is owned by it and by nodes below it.
use Rattle.std.specs.Prelude.{refl, ℕ, suc, false, List, [], ◌∷◌, ◌++◌, Option}
use Rattle.std.specs.List.{AllByRecursion}
use Rattle.std.proofs.Common.{sym, ap, ◌∙◌, append_assoc}
use Rattle.sg_kinds.specs.Values.{Bytes, Value}
use Rattle.sg_kinds.specs.Terms.{Term, Terms, Leaf, Node, NoTerm, AndTerm}
use Rattle.sg_kinds.specs.Places.{Place}
use Rattle.sg_kinds.specs.Nets.{Reference}
use Rattle.sg_kinds.specs.declared.spec.Spec.{Spec}
use Rattle.sg_groves.specs.Evaluated.{IsAtOrBelow}
use Rattle.sg_groves.proofs.Below.{below_itself}
use Rattle.sg_unparse.specs.Cells.{Mark, Closed, Writing, plain, cells_in, ended, goes_on, items_of, items, content, unparsed, unparsed_among}
use Rattle.sg_unparse.specs.Printing.{value_text}
use Rattle.sg_unparse.specs.Owned.{place_of_mark, AreOwned}
use Rattle.sg_unparse.proofs.Each.{Each, append_each, plain_each, items_each, content_each}

abbrev At : Place → Mark → Type 0
At u x = IsAtOrBelow (place_of_mark x) u

pub over : (w u v : Place) → IsAtOrBelow w u → IsAtOrBelow u v → IsAtOrBelow w v
over w u v a b = record { below = a.below ++ b.below; is = a.is ∙ ap (λ z. a.below ++ z) b.is ∙ sym (append_assoc a.below b.below v) }

pub under_child : (w u : Place) (k : ℕ) → IsAtOrBelow w (k ∷ u) → IsAtOrBelow w u
under_child w u k b = over w (k ∷ u) u b (record { below = k ∷ []; is = refl })

raised : (u : Place) (k : ℕ) (xs : List Mark) → AreOwned (k ∷ u) xs → AreOwned u xs
raised u k [] h = tt
raised u k (x ∷ xs) h = (under_child (place_of_mark x) u k h.0, raised u k xs h.1)

ended_owned : (u : Place) (f : Writing) → Each (At u) f → Each (At u) (ended u f)
ended_owned u f h m = append_each (At u) (f m).0 (Closed u (cells_in (f m).0) ∷ []) (h m) (below_itself u, tt)

module _ (spec : Spec) (value : Reference Place → Value) (typed : Place → Option Bytes) where
  mutual
    pub unparsed_owned : (u : Place) (t : Term) (m : ℕ) → AreOwned u (unparsed spec value typed u t m).0
    unparsed_owned u (Leaf p v) m =
        let own = plain u (value_text spec p v) in
        let each = plain_each (At u) u (λ b. below_itself u) (value_text spec p v) in
        ended_owned u (content spec value typed u (typed u) false own) (content_each (At u) u (λ b. below_itself u) spec value typed (typed u) false own each) m
    unparsed_owned u (Node op n elided ts) m =
        let kids = unparsed_among spec value typed u 0 ts in
        let own = items spec value typed u op (goes_on ts) (items_of spec op n) kids in
        let each = items_each (At u) u (λ b. below_itself u) spec value typed op (goes_on ts) (items_of spec op n) kids (among_owned u 0 ts) in
        ended_owned u (content spec value typed u (typed u) elided own) (content_each (At u) u (λ b. below_itself u) spec value typed (typed u) elided own each) m

    among_owned : (u : Place) (k : ℕ) (ts : Terms) → AllByRecursion (Each (At u)) (unparsed_among spec value typed u k ts)
    among_owned u k NoTerm = tt
    among_owned u k (AndTerm t ts) = ((λ m. raised u k (unparsed spec value typed (k ∷ u) t m).0 (unparsed_owned (k ∷ u) t m)), among_owned u (suc k) ts)
