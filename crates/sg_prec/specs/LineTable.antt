-- An ordered map from literals to their lines.
use Rattle.std.specs.Prelude.{◌≡◌, ℕ, List, Vec, Option}
use Rattle.std.specs.BTreeMap.{BTreeMap, get_by}
use Rattle.std.specs.Cmp.Lexicographic.{slice_cmp}
use Rattle.std.specs.Ordering.{nat_cmp}
use Rattle.sg_kinds.specs.Values.{Bytes}
use Rattle.sg_kinds.specs.declared.spec.LevelLine.{LevelLine}
use Rattle.sg_prec.specs.Precedence.{line_with}

abbrev pub line_in : {A : Type 0} → BTreeMap (Vec ℕ A) ℕ → Bytes → Option ℕ
line_in first s = get_by (λ k. slice_cmp nat_cmp s k.items) first

-- it has the line of each literal
abbrev pub TellsLines : {A : Type 0} → List LevelLine → BTreeMap (Vec ℕ A) ℕ → Type 0
TellsLines lines first = (s : Bytes) → line_in first s ≡ line_with lines s
