-- The visits of attributes by their layers, as lists of numbers.
use Rattle.std.specs.Prelude.{ℕ, suc, ◌-◌, max, List, map}
use Rattle.sg_kinds.specs.ValidPlans.{pair_of}
use Rattle.sg_kinds.specs.Visits.{greatest}

-- how many visits these layers make
abbrev pub pair_count : List ℕ → ℕ
pair_count layers = max 1 (greatest (map pair_of layers))

abbrev pub visits_by : List ℕ → List ℕ
visits_by layers = map (λ l. suc (pair_count layers) - pair_of l) layers
