-- The machine over the tables of a small grammar: 4 ::= 2 4, and 4 ::= nothing; 2 and 3 are its terminals, and 1 is
-- the marker of its entry.
use Rattle.std.proofs.Common.{◌≡◌, ℕ, zero, List, [], ◌∷◌, refl, Some}
use Rattle.std.specs.Prelude.{slice_get}
use Rattle.sg_grammar.specs.declared.grammar.Made.TheVariants.{Same}
use Rattle.sg_grammar.specs.declared.grammar.Production.{Production}
use Rattle.sg_grammar.specs.Derives.{Token, Algebra}
use Rattle.sg_lalr.specs.declared.table.Action.TheVariants.{Shift, Reduce, Accept, Stop}
use Rattle.sg_lalr.specs.Tables.{View, Decided}
use Rattle.sg_machine.specs.Machine.{state_behind, begun, ended, stay, shift, reduce, Accepts, StopsBefore}

abbrev production : ℕ → List ℕ → Production
production left right = record { left = left; right = right; made = Same }

abbrev word : ℕ → Token
word t = record { terminal = t; text = [] }

-- what its tables do in the states behind the marker, behind a 2, and behind these with a 4
record IsSmall (v : View) (m : Decided v) (s : ℕ) : Type 0 where
  more : slice_get v.grammar.rules 0 ≡ Some (production 4 (2 ∷ 4 ∷ []))
  none : slice_get v.grammar.rules 1 ≡ Some (production 4 [])
  shifts : m.act (state_behind m (1 ∷ [])) 2 ≡ Shift s
  ends : m.act (state_behind m (1 ∷ [])) 0 ≡ Reduce 1
  stops : m.act s 3 ≡ Stop
  closes : m.act s 0 ≡ Reduce 1
  reduces : m.act (m.go s 4) 0 ≡ Reduce 0
  accepts : m.act (state_behind m (4 ∷ 1 ∷ [])) 0 ≡ Accept

module _ {A : Type 0} (alg : Algebra A) (v : View) (m : Decided v) (s : ℕ) (small : IsSmall v m s) (a : A) where
  -- nothing is a sentence of one node
  nothing-at-all : Accepts alg m 1 (begun m 0 a) [] (ended m 0 4 a (alg.node 1 []))
  nothing-at-all = (reduce zero 1 (production 4 []) [] (begun m 0 a) (begun m 0 a) (ended m 0 4 a (alg.node 1 [])) [] [] small.ends small.none refl refl (stay (ended m 0 4 a (alg.node 1 [])) []), small.accepts)

  -- a 2 is one of three: the token, nothing behind it, and the two together
  one-word : Accepts alg m 3 (begun m 0 a) (word 2 ∷ []) (ended m 0 4 a (alg.node 0 (alg.leaf (word 2) ∷ alg.node 1 [] ∷ [])))
  one-word =
      let first : ℕ × A = (s, alg.leaf (word 2)) in
      let second : ℕ × A = (m.go s 4, alg.node 1 []) in
      let z = ended m 0 4 a (alg.node 0 (alg.leaf (word 2) ∷ alg.node 1 [] ∷ [])) in (
        shift 2 s (word 2) (begun m 0 a) z [] [] small.shifts
            (reduce 1 1 (production 4 []) [] (first ∷ begun m 0 a) (first ∷ begun m 0 a) z [] [] small.closes small.none refl refl (reduce zero 0 (production 4 (2 ∷ 4 ∷ [])) (first ∷ second ∷ []) (begun m 0 a) (second ∷ first ∷ begun m 0 a) z [] [] small.reduces small.more refl refl (stay z []))),
        small.accepts,
      )

  -- a 3 behind it is wrong
  wrong-word : StopsBefore alg m (begun m 0 a) (word 2 ∷ word 3 ∷ []) (word 3 ∷ [])
  wrong-word =
      let first : ℕ × A = (s, alg.leaf (word 2)) in
      (1, first ∷ begun m 0 a, shift zero s (word 2) (begun m 0 a) (first ∷ begun m 0 a) (word 3 ∷ []) (word 3 ∷ []) small.shifts (stay (first ∷ begun m 0 a) (word 3 ∷ [])), small.stops)
