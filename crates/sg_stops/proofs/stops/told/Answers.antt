use Rattle.std.proofs.Common.{arith}
use Rattle.sg_stops.proofs.Spans.{end_bound, from_bound, if_told, place_bound, tells, to_bound}
use Rattle.sg_stops.proofs.stops.told.Goals as goal

pub slice_bounds-mends-end : goal.slice_bounds-mends-end
slice_bounds-mends-end c = end_bound c.args.bytes.now c.args.at c.args.tokens.now c.first-declaration.result.now c.end.result c.requires.tokens c.first-declaration.ensures c.end.ensures

pub mends-requires-clause-begins : goal.mends-requires-clause-begins
mends-requires-clause-begins c =
    from_bound c.args.bytes.now c.args.at c.args.tokens.now c.first-declaration.result.now c.in_ok-number.number c.end.result c.span-from.result.0 c.requires.tokens c.first-declaration.ensures
    c.end.ensures c.span-from.ensures.from

pub mends-requires-clause-ends : goal.mends-requires-clause-ends
mends-requires-clause-ends c =
    to_bound c.args.bytes.now c.args.at c.args.tokens.now c.first-declaration.result.now c.in_ok-number.number c.end.result c.span-from.result.1 c.requires.tokens c.first-declaration.ensures
    c.end.ensures c.span-from.ensures.to

pub overflow_add-at : goal.overflow_add-at
overflow_add-at c =
    let inside =
    place_bound c.args.bytes.now c.args.at c.args.tokens.now c.first-declaration.result.now c.in_ok-number.number c.span-from.result.0 c.requires.tokens c.first-declaration.ensures
    c.span-from.ensures.from c.requires.place.within
    in
    omega (arith, inside, c.requires.place.short)

pub stop_lines-requires : goal.stop_lines-requires
stop_lines-requires c = record {
  within =
      place_bound c.args.bytes.now c.args.at c.args.tokens.now c.first-declaration.result.now c.in_ok-number.number c.span-from.result.0 c.requires.tokens c.first-declaration.ensures
      c.span-from.ensures.from c.requires.place.within;
  short = c.requires.place.short;
}

pub returns : goal.returns
returns c =
    if_told c.stop_lines.result c.stop_lines.ensures (λ v is.
    tells c.args.bytes.now c.args.at c.args.tokens.now c.first-declaration.result.now c.in_ok-number.number c.end.result c.span-from.result.0 c.span-from.result.1 c.in_ok-found.found v.items
    c.requires.tokens c.first-declaration.ensures c.end.ensures c.span-from.ensures.from c.span-from.ensures.to c.in_ok-found.ensures is)
