use Rattle.std.proofs.Common.{◌≡◌, take, drop}
use Rattle.std.specs.List.{list_any}
use Rattle.std.specs.BTreeMap.{is_at}
use Rattle.std.specs.BTreeSet.{contains}
use Rattle.sg_ast.specs.FirstFault.{first_repeat, repeat_from}
use Rattle.sg_ast.proofs.firsts.first_repeat.Given as goal

abbrev pub invariant-loop-place : goal.invariant-loop-place
invariant-loop-place g l =
    let same = λ (a b : g.row.K.Denot). is_at (g.K.Ord.cmp a) b in
    record {
      seen : (q : g.row.K.Denot) → contains g.K.Ord.cmp l.seen q ≡ list_any (λ b. same b q) (take l.place l.keys);
      so_far : repeat_from same (take l.place l.keys) l.place (drop l.place l.keys) ≡ first_repeat same l.keys;
    }
