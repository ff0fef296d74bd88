-- The line of one node, or none.
use Rattle.std.specs.Prelude.{◌≡◌, ℕ, true, false, cond, nat_eq, List, [], ◌∷◌, ◌++◌, length}
use Rattle.std.specs.List.{flat_map}
use Rattle.std.proofs.Common.{sym, ap, ◌∙◌, arith, append_assoc, append-nil}
use Rattle.std.proofs.lemmas.Bool.Decides.{nat_tests}
use Rattle.std.proofs.lemmas.List.{reverse-reverse}
use Rattle.sg_kinds.specs.Values.{Bytes}
use Rattle.sg_kinds.specs.Terms.{Term}
use Rattle.sg_kinds.specs.Places.{Place, place_of}
use Rattle.sg_kinds.specs.Fits.{Fits}
use Rattle.sg_forest.specs.declared.node_id.NodeId.{NodeId}
use Rattle.sg_groves.specs.Grove.{Grove, IsGrove}
use Rattle.sg_printing.specs.At.{IsAt}
use Rattle.sg_report.specs.Lines.{path_text, text_of, line_at, of_these, lines_at}
use Rattle.sg_report.specs.declared.attrs.Named.{Named}
use Rattle.sg_report.proofs.Walking.{is_of-fits}

regrouped : (old path value : Bytes) → (((old ++ path) ++ 32 ∷ []) ++ value) ++ 10 ∷ [] ≡ old ++ (path ++ 32 ∷ value ++ 10 ∷ [])
regrouped old path value = simp append_assoc

line_written : (old path value o1 o2 o3 o4 : Bytes) → o1 ≡ old ++ path → o2 ≡ o1 ++ 32 ∷ [] → o3 ≡ o2 ++ value → o4 ≡ o3 ++ 10 ∷ [] → o4 ≡ old ++ (path ++ 32 ∷ value ++ 10 ∷ [])
line_written old path value o1 o2 o3 o4 first blank third last =
    last ∙ ap (λ s. s ++ 10 ∷ []) (third ∙ ap (λ s. s ++ value) (blank ∙ ap (λ s. s ++ 32 ∷ []) first)) ∙ regrouped old path value

same_phylum : (p : ℕ) → nat_eq p p ≡ true
same_phylum p = grind (arith, nat_tests)

other_phylum : (p q : ℕ) → (q ≡ p → ⊥) → nat_eq p q ≡ false
other_phylum p q other = grind (arith, nat_tests)

module _ (g : Grove) (is : IsGrove g) (root n : NodeId) (t x : Term) (path : List ℕ) (at : IsAt g root n t (place_of path) x) (a : Named) where
  abbrev here : Place
  here = place_of path

  -- where it is of another phylum
  module _ (q : ℕ) (fits : Fits g.spec x q) (other : q ≡ a.phylum → ⊥) where
    no_place : of_these g.spec t a (here ∷ []) ≡ []
    no_place = ap (λ b. cond b (here ∷ []) []) (is_of-fits g.spec t x here at.part q fits a.phylum ∙ other_phylum a.phylum q other)

    pub no_count : 0 ≡ length (of_these g.spec t a (here ∷ []))
    no_count = sym (ap length no_place)

    pub no_text : (old : Bytes) → old ≡ old ++ lines_at g.spec t a (here ∷ [])
    no_text old = sym (append-nil old) ∙ sym (ap (λ us. old ++ flat_map (line_at g.spec t a.slot) us) no_place)

  -- where it is of the phylum
  module _ (fits : Fits g.spec x a.phylum) where
    one_place : of_these g.spec t a (here ∷ []) ≡ here ∷ []
    one_place = ap (λ b. cond b (here ∷ []) []) (is_of-fits g.spec t x here at.part a.phylum fits a.phylum ∙ same_phylum a.phylum)

    pub own_count : 1 ≡ length (of_these g.spec t a (here ∷ []))
    own_count = sym (ap length one_place)

    pub own_text : (old o1 o2 o3 o4 : Bytes) → o1 ≡ old ++ path_text path → o2 ≡ o1 ++ 32 ∷ [] → o3 ≡ o2 ++ text_of g.spec t a.slot here
        → o4 ≡ o3 ++ 10 ∷ [] → o4 ≡ old ++ lines_at g.spec t a (here ∷ [])
    own_text old o1 o2 o3 o4 first blank third last =
        line_written old (path_text path) (text_of g.spec t a.slot here) o1 o2 o3 o4 first blank third last
        ∙ ap (λ way. old ++ (path_text way ++ 32 ∷ text_of g.spec t a.slot here ++ 10 ∷ [])) (sym (reverse-reverse path))
        ∙ ap (λ s. old ++ s) (sym (append-nil (line_at g.spec t a.slot here)) ∙ sym (ap (flat_map (line_at g.spec t a.slot)) one_place))
