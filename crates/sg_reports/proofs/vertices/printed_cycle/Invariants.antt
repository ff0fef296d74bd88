use Rattle.std.proofs.Common.{◌≡◌, map, take}
use Rattle.sg_reports.specs.Vertices.{vertex_in}
use Rattle.sg_reports.proofs.vertices.printed_cycle.Given as goal

abbrev pub invariant-loop-m : goal.invariant-loop-m
invariant-loop-m l = l.printed.items ≡ map (vertex_in l.vertices.items) (take l.m-index l.cycle)
