-- Values of types.
use Rattle.std.specs.Prelude.{ℕ, List, [], ◌∷◌, ⊤}
use Rattle.sg_kinds.specs.Values.{Value}
use Rattle.sg_kinds.specs.declared.spec.Spec.{Spec}
use Rattle.sg_kinds.specs.OfType.{IsOfType}

-- each value is of its type, and there are as many values as types
abbrev pub AreOfTypes : Spec → List ℕ → List Value → Type 0
AreOfTypes spec [] [] = ⊤
AreOfTypes spec (p ∷ ps) (v ∷ vs) = IsOfType spec p v × AreOfTypes spec ps vs
AreOfTypes spec ps vs = ⊥
