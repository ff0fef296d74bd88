use Rattle.std.proofs.Common.{◌≡◌, map, reverse, string_bytes}
use Rattle.sg_outside.specs.FileLog.{entry_of}
use Rattle.sg_outside.proofs.file_log.FileLog.new.Given as goal

-- the log has the pairs so far, the newest first
abbrev pub invariant-loop-name : goal.invariant-loop-name
invariant-loop-name l = map entry_of l.log.items ≡ reverse (map (λ p. (string_bytes p.0, p.1.items)) l.yielded)
