use Rattle.std.proofs.Common.{◌≡◌, ◌≤◌, drop}
use Rattle.sg_schemes.specs.Places.{separators_stand}
use Rattle.sg_schemes.proofs.places.separators_stand.Given as goal

abbrev pub invariant-loop-item : goal.invariant-loop-item
invariant-loop-item l = record {
  so_far : separators_stand l.may l.places (drop l.item-index l.items) ≡ separators_stand l.pair 0 l.items;
  few : l.places ≤ l.item-index;
}
