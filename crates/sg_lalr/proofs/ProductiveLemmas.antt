-- The least set above the terminals has what derives some tokens.
use Rattle.std.proofs.Common.{ℕ, List, [], ◌∷◌, refl}
use Rattle.sg_grammar.specs.Grammar.{Grammar}
use Rattle.sg_grammar.specs.Derives.{Token, Derives, plain, IsProductive}
use Rattle.sg_grammar.specs.Derives as derives
use Rattle.sg_lalr.specs.Least.{Grown, nothing, passes, under}

abbrev DerivesSome : Grammar → List ℕ → Type 0
DerivesSome g Xs = (ts : List Token) × (vs : List (Unit {0})) × (n : ℕ) × Derives g plain Xs ts vs n

derives-grown : (g : Grammar) (Xs : List ℕ) → Grown g.rules g.terminals Xs → DerivesSome g Xs
derives-grown g _ nothing = ([], [], 0, derives.nothing)
derives-grown g _ (passes X Xs l rest) =
    let i = derives-grown g Xs rest in
    (record { terminal = X; text = [] } ∷ i.0, tt ∷ i.1, _, derives.token (record { terminal = X; text = [] }) X Xs i.0 i.1 i.2 l refl i.3)
derives-grown g _ (under q r X Xs is same sides rest) =
    let s = derives-grown g r.right sides in
    let i = derives-grown g Xs rest in
    (_, tt ∷ i.1, _, derives.under q r X Xs s.0 i.0 _ s.1 i.1 s.2 i.2 _ is same s.3 i.3 refl refl)

grown-derives : (g : Grammar) (Xs : List ℕ) (ts : List Token) (vs : List (Unit {0})) (n : ℕ) → Derives g plain Xs ts vs n → Grown g.rules g.terminals Xs
grown-derives g _ _ _ _ derives.nothing = nothing
grown-derives g _ _ _ _ (derives.token x X Xs ts vs n l e d) = passes X Xs l (grown-derives g Xs ts vs n d)
grown-derives g _ _ _ _ (derives.under p r X Xs us ts all ws vs m n k is same sides rest e f) = under p r X Xs is same (grown-derives g r.right us ws m sides) (grown-derives g Xs ts vs n rest)

pub productive-grown : (g : Grammar) (X : ℕ) → Grown g.rules g.terminals (X ∷ []) → IsProductive g X
productive-grown g X h = derives-grown g (X ∷ []) h

pub grown-productive : (g : Grammar) (X : ℕ) → IsProductive g X → Grown g.rules g.terminals (X ∷ [])
grown-productive g X h = grown-derives g (X ∷ []) h.0 h.1 h.2 h.3
