-- An ordered set of parts.
use Rattle.std.specs.Prelude.{◌≡◌, List}
use Rattle.std.specs.BTreeSet.{BTreeSet, contains}
use Rattle.sg_useless.specs.Parts.{Part, is_among}
use Rattle.sg_useless.specs.contracts.part.PartOrd as order

-- the set has these parts
abbrev pub AreKeys : List Part → BTreeSet Part → Type 0
AreKeys parts set = (x : Part) → contains order.TheImpl.ghosts.cmp set x ≡ is_among parts x
