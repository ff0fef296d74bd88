use Rattle.std.proofs.Common.{◌≡◌, ℕ, drop}
use Rattle.std.specs.Prelude.{Some, false, slice_get}
use Rattle.std.specs.List.{list_any}
use Rattle.sg_search.specs.Heads.{may_apply}
use Rattle.sg_search.proofs.heads.heads_of.Given as goal

-- what is left decides of an operator that is not marked
abbrev pub invariant-loop-x : goal.invariant-loop-x
invariant-loop-x l = (op : ℕ) → slice_get l.heads.items op ≡ Some false
    → list_any (may_apply l.name op) l.terms.spec.transforms ≡ list_any (may_apply l.name op) (drop l.x-index l.terms.spec.transforms)
