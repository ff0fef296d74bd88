use Rattle.std.proofs.Common.{◌≡◌, drop, find}
use Rattle.sg_unparse.specs.Sheet.{is_of}
use Rattle.sg_unparse.proofs.page.find_span.Given as goal

abbrev pub invariant-loop-span : goal.invariant-loop-span
invariant-loop-span l = find (is_of l.n) l.spans ≡ find (is_of l.n) (drop l.span-index l.spans)
