use Rattle.std.proofs.Common.{◌≡◌, ◌++◌, take}
use Rattle.std.specs.Prelude.{codes}
use Rattle.std.specs.List.{flat_map}
use Rattle.sg_live.specs.Offers.{names_of}
use Rattle.sg_live.proofs.TextLemmas.{named}
use Rattle.sg_live.proofs.texts.offers_text.Given as goal

abbrev pub invariant-loop-name : goal.invariant-loop-name
invariant-loop-name l = l.out.items ≡ codes "! do" ++ flat_map named (names_of (take l.name-index l.names))
