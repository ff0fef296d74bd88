use Rattle.std.proofs.Common.{◌≡◌, drop}
use Rattle.std.specs.List.{list_any}
use Rattle.sg_useless.specs.Useless.{is_typed_operator}
use Rattle.sg_useless.proofs.finding.is_typed_by_any.Given as goal

abbrev pub invariant-loop-op : goal.invariant-loop-op
invariant-loop-op l = list_any (is_typed_operator l.spec l.is_root) (drop l.op-index l.ops) ≡ list_any (is_typed_operator l.spec l.is_root) l.ops
