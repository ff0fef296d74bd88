use Rattle.std.proofs.Common.{◌≡◌, option_map, take, drop, unwrap_or}
use Rattle.std.specs.List.{count_by}
use Rattle.std.specs.BTreeMap.{is_at, get}
use Rattle.sg_counts.specs.Crowds.{crowd, crowded_behind}
use Rattle.sg_counts.proofs.crowds.crowd.Given as goal

abbrev pub invariant-loop-key : goal.invariant-loop-key
invariant-loop-key g l =
    let same = λ (a b : g.row.K.Denot). is_at (g.K.Ord.cmp a) b in
    record {
      counts : (q : g.row.K.Denot) → unwrap_or (get g.K.Ord.cmp l.counts q) 0 ≡ count_by (λ b. same b q) (take l.key-index l.keys);
      so_far : option_map (λ x. count_by (λ y. same y x) l.keys) (crowded_behind same l.limit (take l.key-index l.keys) (drop l.key-index l.keys)) ≡ crowd same l.limit l.keys;
    }
