use Rattle.std.proofs.Common.{◌≡◌}
use Rattle.std.specs.FinMap.{get}
use Rattle.std.specs.VecDeque.Iter.{deque_iter_rest}
use Rattle.sg_outside.proofs.FileSearch.{found}
use Rattle.sg_outside.proofs.file_log.FileLog.get.Given as goal

-- what is left decides
abbrev pub invariant-loop-file : goal.invariant-loop-file
invariant-loop-file l = get l.self l.name ≡ found l.name (deque_iter_rest l.file-iterator)
