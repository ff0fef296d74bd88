use Rattle.sg_dependencies.proofs.Ranges.{vertices_small}
use Rattle.sg_reasons.proofs.explaining.path.Goals as goal

pub frames-requires : goal.frames-requires
frames-requires c = vertices_small c.args.rules.now c.requires
