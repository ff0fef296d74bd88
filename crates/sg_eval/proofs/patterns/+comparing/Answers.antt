use Rattle.std.proofs.Common.{rules, ◌<◌, length}
use Rattle.sg_kinds.specs.Values.{sizes_of, row_of}
use Rattle.sg_eval.proofs.Matched.{all_rest, sizes_fall}
use Rattle.sg_eval.proofs.patterns.+comparing.Goals as goal

pub are_values_at-are_values_at-requires : goal.are_values_at-are_values_at-requires
are_values_at-are_values_at-requires t c =
    let x = c.in-Some-Some.ensures.cases in
    let y = c.in-Some-Some.ensures'.cases in
    let fall : sizes_of (row_of c.in-Some-Some.vs.now) < sizes_of (row_of c.args.vs.now) = sizes_fall c.args.vs.now c.in-Some-Some.vs.now c.in-Some-Some.v.now x.0 in
    (search (rules, fall), all_rest (length c.args.pool.now) c.in-Some-Some.id.now c.args.ids.now c.in-Some-Some.ids.now y.0 c.requires)
