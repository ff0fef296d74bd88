use Rattle.std.proofs.Common.{◌≡◌, ◌+◌, length}
use Rattle.sg_text.specs.Cut.{cut}
use Rattle.sg_ast.specs.Spells.{marked_from}
use Rattle.sg_ast.specs.View.{trees_of}
use Rattle.sg_reader.specs.EachRead.{read_from}
use Rattle.sg_reader.proofs.Found.{with_front}
use Rattle.sg_reader.proofs.reading.each.Given as goal

abbrev pub invariant-loop-rest : goal.invariant-loop-rest
invariant-loop-rest l =
    record {
      numbered : l.number + length l.rest ≡ length l.tokens;
      so_far :
          with_front (trees_of l.found.items) (read_from (length l.found.items) (marked_from l.bytes l.number (cut l.rest)))
          ≡ read_from 0 (marked_from l.bytes 0 (cut l.tokens));
    }

abbrev pub decreases-loop-rest : goal.decreases-loop-rest
decreases-loop-rest l = length l.rest
