-- Numbers that are reached along edges: the least set of them, and the flags that passes over the edges put up.
use Rattle.std.specs.Prelude.{◌≡◌, ℕ, zero, suc, max, Bool, true, false, if◌then◌else◌, List, [], ◌∷◌, ◌++◌, reverse, replicate, slice_set, slice_index_or}
use Rattle.std.specs.List.{Contains}
use Rattle.sg_remote.specs.declared.reach.Edge.{Edge}

-- what is reached from these numbers
pub data Reached (starts : List ℕ) (edges : List Edge) : ℕ → Type 0 where
  start : (p : ℕ) → Contains starts p → Reached starts edges p
  along : (e : Edge) (p : ℕ) → Contains edges e → e.to ≡ p → Reached starts edges e.from → Reached starts edges p

abbrev pub flag : List Bool → ℕ → Bool
flag flags k = slice_index_or flags k false

abbrev pub put_all : List Bool → List ℕ → List Bool
put_all flags [] = flags
put_all flags (k ∷ ks) = put_all (slice_set flags k true) ks

abbrev pub follow : List Bool → Edge → List Bool
follow flags e = if flag flags e.from then slice_set flags e.to true else flags

abbrev pub pass : List Bool → List Edge → List Bool
pass flags [] = flags
pass flags (e ∷ es) = pass (follow flags e) es

unfoldable pub passes : ℕ → List Edge → List Bool → List Bool
passes zero es flags = flags
passes (suc n) es flags = passes n es (pass flags es)

-- one more than the greatest start and end, so that each of these has a flag
abbrev pub past : List ℕ → ℕ
past [] = 0
past (k ∷ ks) = max (suc k) (past ks)

abbrev pub past_edges : List Edge → ℕ
past_edges [] = 0
past_edges (e ∷ es) = max (suc e.to) (past_edges es)

abbrev pub width : List ℕ → List Edge → ℕ
width starts edges = max (past starts) (past_edges edges)

-- first the starts, then what one pass more than there are flags puts up, forth and back along the edges, which is all
abbrev pub reached : List ℕ → List Edge → List Bool
reached starts edges = passes (suc (width starts edges)) (edges ++ reverse edges)
    (put_all (replicate (width starts edges) false) starts)
