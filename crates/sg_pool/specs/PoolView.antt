-- A pool of the code as the list of its values.
use Rattle.std.specs.Prelude.{◌≡◌, ℕ, suc, ◌<◌, ◌&&◌, nat_le, List, [], ◌∷◌, ◌++◌, map, ⊤}
use Rattle.sg_kinds.specs.Values.{Value, size_of, depth_of, size_limit, depth_limit}
use Rattle.sg_pool.specs.Pools.{AreDifferent}
use Rattle.sg_pool.specs.PoolEntries.{PoolEntry, entry_value, kid_numbers}
use Rattle.sg_pool.specs.declared.pool.Measure.{Measure}

-- the values of entries, one after another, behind those that are there
abbrev pub values_from : List Value → List PoolEntry → List Value
values_from done [] = done
values_from done (e ∷ es) = values_from (done ++ entry_value done e ∷ []) es

abbrev pub pooled_values : List PoolEntry → List Value
pooled_values es = values_from [] es

-- each number is below n
abbrev pub AreBelow : ℕ → List ℕ → Type 0
AreBelow n [] = ⊤
AreBelow n (k ∷ ks) = (k < n) × AreBelow n ks

-- each entry's children have smaller numbers; the first entry has the number n
abbrev pub AreOrdered : ℕ → List PoolEntry → Type 0
AreOrdered n [] = ⊤
AreOrdered n (e ∷ es) = AreBelow n (kid_numbers e) × AreOrdered (suc n) es

-- what is kept of a value: its size and its depth, and whether they are in the limits
abbrev pub measured : ℕ → ℕ → Measure
measured size depth = record { size = size; depth = depth; within = nat_le size size_limit && nat_le depth depth_limit }

abbrev pub measure_of : Value → Measure
measure_of v = measured (size_of v) (depth_of v)

pub record IsPooled (es : List PoolEntry) (ms : List Measure) : Type 0 where
  pub ordered : AreOrdered 0 es
  pub different : AreDifferent (pooled_values es)
  pub measures : ms ≡ map measure_of (pooled_values es)
