use Rattle.std.proofs.Common.{◌≡◌, take, drop}
use Rattle.std.specs.BTreeMap.{is_at, get}
use Rattle.sg_ast.specs.FirstFault.{first_repeat, repeat_from}
use Rattle.sg_counts.specs.Definitions.{clashes}
use Rattle.sg_counts.proofs.Clashing.{last_form, IsSettled}
use Rattle.sg_counts.proofs.duplicates.first_clash.Given as goal

abbrev pub invariant-loop-place : goal.invariant-loop-place
invariant-loop-place g l =
    let same = λ (a b : g.row.K.Denot). is_at (g.K.Ord.cmp a) b in
    record {
      forms : (q : g.row.K.Denot) → get g.K.Ord.cmp l.forms q ≡ last_form same (take l.place l.definitions) q;
      settled : IsSettled same (take l.place l.definitions);
      so_far : repeat_from (clashes same) (take l.place l.definitions) l.place (drop l.place l.definitions) ≡ first_repeat (clashes same) l.definitions;
    }
