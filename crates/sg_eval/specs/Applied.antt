-- Which expressions are evaluated without an entry in a journal.
use Rattle.std.specs.Prelude.{◌≡◌, ◌⊎◌, ℕ, Any}
use Rattle.sg_kinds.specs.declared.spec.Spec.{Spec}
use Rattle.sg_kinds.specs.declared.spec.Transform.{Transform}
use Rattle.sg_kinds.specs.declared.spec.Production.{Production}

-- the expression is that of a transformation or of an input production
abbrev pub IsApplied : Spec → ℕ → Type 0
IsApplied spec e = Any (λ (x : Transform). x.expr ≡ e) spec.transforms
    ⊎ Any (λ (r : Production). r.expr ≡ e) spec.productions
