-- A pool of shared values, as the list of its values: the number of a value is its place.
use Rattle.std.specs.Prelude.{◌≡◌, ℕ, Bool, true, cond, List, [], ◌∷◌, ◌++◌, map, AllPairs, ◌≢◌, slice_get, unwrap_or, Some}
use Rattle.std.specs.List.{list_any}
use Rattle.sg_kinds.specs.Values.{Value, Values, Chars, Tree, NoValue, AndValue, row_of, same_value, is_within}
use Rattle.sg_kinds.specs.Evaluation.{untyped}

-- the value of a number; a number out of range stands for no value that an operation takes
abbrev pub value_at : List Value → ℕ → Value
value_at pool id = unwrap_or (slice_get pool id) untyped

-- the number stands for the value
abbrev pub StandsFor : List Value → ℕ → Value → Type 0
StandsFor pool id v = slice_get pool id ≡ Some v

-- the tree of an operator over the values of numbers
abbrev pub tree_over : List Value → ℕ → List ℕ → Value
tree_over pool op kids = Tree op (row_of (map (value_at pool) kids))

-- whether a value is in the pool, and the pool with it
abbrev pub has_value : List Value → Value → Bool
has_value pool v = list_any (same_value v) pool

abbrev pub with_value : List Value → Value → List Value
with_value pool v = cond (has_value pool v) pool (pool ++ v ∷ [])

-- the pool with a value and all its parts, the children from left to right before the whole
abbrev mutual
  pub interned : List Value → Value → List Value
  interned pool (Tree op vs) = with_value (interned_all pool vs) (Tree op vs)
  interned pool v = with_value pool v

  pub interned_all : List Value → Values → List Value
  interned_all pool NoValue = pool
  interned_all pool (AndValue v vs) = interned_all (interned pool v) vs

-- the later pool has what the earlier one has, at the same numbers
pub record IsGrown (earlier later : List Value) : Type 0 where
  pub more : List Value
  pub is : later ≡ earlier ++ more

-- no value stands at two numbers
abbrev pub AreDifferent : List Value → Type 0
AreDifferent pool = AllPairs ◌≢◌ pool

-- what a pool may hold: a value in the limits, or any text
abbrev pub is_kept : Value → Bool
is_kept (Chars s) = true
is_kept v = is_within v
