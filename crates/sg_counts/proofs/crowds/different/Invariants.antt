use Rattle.std.proofs.Common.{◌≡◌, ◌+◌, length, take, drop}
use Rattle.std.specs.List.{list_any}
use Rattle.std.specs.BTreeMap.{is_at}
use Rattle.std.specs.BTreeSet.{contains, btree_set_len}
use Rattle.sg_counts.specs.Crowds.{different, different_behind}
use Rattle.sg_counts.proofs.crowds.different.Given as goal

abbrev pub invariant-loop-key : goal.invariant-loop-key
invariant-loop-key g l =
    let same = λ (a b : g.row.K.Denot). is_at (g.K.Ord.cmp a) b in
    record {
      seen : (q : g.row.K.Denot) → contains g.K.Ord.cmp l.seen q ≡ list_any (λ b. same b q) (take l.key-index l.keys);
      so_far : btree_set_len l.seen + length (different_behind same (take l.key-index l.keys) (drop l.key-index l.keys)) ≡ length (different same l.keys);
    }
