use Rattle.std.proofs.Common.{◌≡◌, take}
use Rattle.sg_unparse.specs.Sheet.{starts_from}
use Rattle.sg_unparse.proofs.page.line_starts.Given as goal

abbrev pub invariant-loop-b : goal.invariant-loop-b
invariant-loop-b l = record {
  counted : l.behind ≡ l.b-index;
  begun : l.starts.items ≡ starts_from 0 (take l.b-index l.text);
}
