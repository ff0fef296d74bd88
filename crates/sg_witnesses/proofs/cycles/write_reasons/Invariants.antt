use Rattle.std.proofs.Common.{◌≡◌, ◌++◌, drop}
use Rattle.sg_witnesses.specs.Cycles.{reasons_text}
use Rattle.sg_witnesses.proofs.cycles.write_reasons.Given as goal

abbrev pub invariant-loop-place : goal.invariant-loop-place
invariant-loop-place l = l.out.items ++ reasons_text l.spec l.places l.place (drop l.place l.reasons)
    ≡ l.initial.out.items ++ reasons_text l.spec l.places 0 l.reasons
