use Rattle.std.proofs.Common.{◌≡◌, take}
use Rattle.std.specs.Prelude.{flat_map}
use Rattle.sg_place.specs.Points.{IsPoint}
use Rattle.sg_mismatches.specs.Mistypes.{mistyped_text}
use Rattle.sg_mismatches.proofs.mistypes.lines.Given as goal

abbrev pub invariant-loop-mistyped : goal.invariant-loop-mistyped
invariant-loop-mistyped l = record {
  text : l.out.items ≡ flat_map (mistyped_text l.bytes l.tokens l.names.phyla) (take l.mistyped-index l.found);
  known : IsPoint l.bytes l.known;
}
