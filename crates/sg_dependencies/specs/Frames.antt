-- Where the vertices of an operator stand among their numbers.
use Rattle.std.specs.Prelude.{ℕ, suc, ◌+◌, ◌-◌, cond, ◌&&◌, nat_eq, nat_le, List, map, length, unwrap_or, slice_index_or}
use Rattle.sg_kinds.specs.declared.spec.Rules.{Rules}
use Rattle.sg_kinds.specs.declared.spec.Occurrence.{Occurrence}
use Rattle.sg_kinds.specs.Specification.{args_of}
use Rattle.sg_kinds.specs.Instances.{attr_count, below}
use Rattle.sg_kinds.specs.Dependencies.{phylum_there}
use Rattle.sg_kinds.specs.Visits.{attrs_before}
use Rattle.sg_kinds.specs.ValidPlans.{vertices}
pub use Rattle.sg_dependencies.specs.declared.frame.Spot.{Spot}
pub use Rattle.sg_dependencies.specs.declared.frame.Frame.{Frame}

-- the left side of an operator, or an argument
abbrev pub spot_of : Rules → ℕ → ℕ → Spot
spot_of rules p k = record {
  phylum = unwrap_or (phylum_there rules.ops p k) 0;
  first = attrs_before rules p k;
  attrs = attr_count rules (phylum_there rules.ops p k);
}

unfoldable pub spots_of : Rules → ℕ → List Spot
spots_of rules p = map (spot_of rules p) (below (suc (length (args_of rules.ops p))))

abbrev pub frame_of : Rules → ℕ → Frame
frame_of rules p = record {
  spots = spots_of rules p;
  locals = attrs_before rules p
      (suc (length (args_of rules.ops p)));
  count = vertices rules p;
}

unfoldable pub frames_of : Rules → List Frame
frames_of rules = map (frame_of rules) (below (length rules.ops))

abbrev pub no_spot : Spot
no_spot = record { phylum = 0; first = 0; attrs = 0 }

abbrev pub spot_at : List Spot → ℕ → Spot
spot_at spots k = slice_index_or spots k no_spot

-- the number of an occurrence by a frame
abbrev pub number_in : Frame → Occurrence → ℕ
number_in frame o = cond (nat_eq o.at 0 && nat_le (spot_at frame.spots 0).attrs o.slot)
    (frame.locals + (o.slot - (spot_at frame.spots 0).attrs))
    ((spot_at frame.spots o.at).first + o.slot)
