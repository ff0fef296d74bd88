-- What the machine keeps to while it runs over the tokens of an entry.
use Rattle.std.specs.Prelude.{◌≡◌, ℕ, suc, List, [], ◌∷◌, ◌++◌}
use Rattle.sg_grammar.specs.Derives.{Token, Algebra, Derives}
use Rattle.sg_lalr.specs.ValidItems.{Viable}
use Rattle.sg_lalr.specs.Tables.{View, Decided}
use Rattle.sg_machine.specs.Machine.{look, state_behind, pushed, begun, Run}

-- the cells of a string behind a prefix, from left to right: the states behind its symbols, beside their results
abbrev pub cells_of : {A : Type 0} {v : View} → Decided v → List ℕ → List ℕ → List A → List (ℕ × A)
cells_of m w [] bs = []
cells_of m w (X ∷ Xs) [] = []
cells_of m w (X ∷ Xs) (b ∷ bs) = (state_behind m (X ∷ w), b) ∷ cells_of m (X ∷ w) Xs bs

-- over the marker of entry k stand the cells of a string that derives the tokens so far, with its results; some item
-- is valid for it; and over every rest with this lookahead the machine comes from the beginning to this stack
pub record Kept {A : Type 0} {v : View} (alg : Algebra A) (m : Decided v) (k : ℕ) (a : A) (us : List Token) (t : ℕ)
    (s : List (ℕ × A)) : Type 0 where
  pub string : List ℕ
  pub results : List A
  pub nodes : ℕ
  pub derived : Derives v.grammar alg string us results nodes
  pub viable : Viable v.grammar (pushed string (suc k ∷ []))
  pub stacked : s ≡ pushed (cells_of m (suc k ∷ []) string results) (begun m k a)
  pub reached : (zs : List Token) → look zs ≡ t → (n : ℕ) × Run alg m n (begun m k a) (us ++ zs) s zs
