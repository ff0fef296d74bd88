use Rattle.std.proofs.Common.{◌≡◌, ◌++◌, drop, map, flat_map}
use Rattle.sg_kinds.specs.Instances.{below}
use Rattle.sg_prec.specs.Levels.{height}
use Rattle.sg_prec.specs.Sources.{spread_from}
use Rattle.sg_prec.specs.Spread.{chain, spread_rule}
use Rattle.sg_prec.proofs.spreading.spread.Given as goal

abbrev pub invariant-loop-production : goal.invariant-loop-production
invariant-loop-production l =
    let rule = spread_rule l.spreading.lines.lines.now l.spreading.written.now in
    map spread_from l.all.items ++ map rule (drop l.production-index l.written) ≡ map rule l.written

abbrev pub invariant-loop-n : goal.invariant-loop-n
invariant-loop-n l =
    let lines = l.spreading.lines.lines.now in
    let ps = l.spreading.written.now in
    map spread_from l.all.items ≡ map (spread_rule lines ps) l.written ++ flat_map (λ N. map (chain lines ps N) (below (height lines ps N))) (below l.n)
