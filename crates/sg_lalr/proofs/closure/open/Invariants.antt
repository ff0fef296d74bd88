use Rattle.std.proofs.Common.{◌≡◌, ℕ, List, ◌++◌, length, take}
use Rattle.sg_lalr.specs.Closure.{AreOpened}
use Rattle.sg_lalr.proofs.OpeningLemmas.{GainsAll}
use Rattle.sg_lalr.proofs.closure.open.Given as goal

abbrev pub invariant-loop-p : goal.invariant-loop-p
invariant-loop-p l = record {
  width : length l.there ≡ length l.initial.there;
  opened : AreOpened l.there l.opened.items;
  gains : GainsAll l.initial.there l.there (take l.p-index l.list);
  keeps : (more : List ℕ) × (l.opened.items ≡ l.initial.opened.items ++ more);
}
