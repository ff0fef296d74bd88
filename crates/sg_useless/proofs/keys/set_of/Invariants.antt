use Rattle.std.proofs.Common.{◌≡◌, take}
use Rattle.std.specs.List.{list_any}
use Rattle.std.specs.BTreeMap.{is_at}
use Rattle.std.specs.BTreeSet.{contains}
use Rattle.sg_useless.proofs.keys.set_of.Given as goal

abbrev pub invariant-loop-key : goal.invariant-loop-key
invariant-loop-key g l = (q : g.row.K.Denot) → contains g.K.Ord.cmp l.set q ≡ list_any (λ k. is_at (g.K.Ord.cmp k) q) (take l.key-index l.keys)
