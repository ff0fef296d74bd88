use Rattle.std.proofs.Common.{◌≡◌, ◌+◌, drop, false, option_map}
use Rattle.sg_script.specs.Words.{closing}
use Rattle.sg_script.proofs.words.closing.Given as goal

-- what is left decides
abbrev pub invariant-loop-place : goal.invariant-loop-place
invariant-loop-place l = closing false l.bytes ≡ option_map (λ k. l.place + k) (closing l.escaped (drop l.place l.bytes))
