use Rattle.std.proofs.Common.{◌≡◌, length, take}
use Rattle.sg_lalr.specs.Closure.{AreOpened}
use Rattle.sg_lalr.proofs.OpeningLemmas.{OpenedBy}
use Rattle.sg_lalr.proofs.closure.open_all.Given as goal

abbrev pub invariant-loop-item : goal.invariant-loop-item
invariant-loop-item l = record {
  width : length l.there ≡ length l.g.rules;
  opened : AreOpened l.there l.opened.items;
  exact : OpenedBy l.g l.there (take l.item-index l.kernel);
}
