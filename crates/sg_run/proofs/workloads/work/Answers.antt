use Rattle.std.proofs.Common.{◌≢◌, ◌∙◌, inl}
use Rattle.sg_kinds.specs.declared.fault.SpecFault.TheVariants.{NoMemory}
use Rattle.sg_eval.specs.Journal.{counted}
use Rattle.sg_output.proofs.Endings.{ends_with}
use Rattle.sg_output.proofs.Works.{the_lines, lines_read, ends_told, ends_cut, ends_fault, known_cut, known_fault}
use Rattle.sg_run.proofs.workloads.work.Goals as goal

-- the line was told
pub returns-in-Ok : goal.returns-in-Ok
returns-in-Ok g c =
    let a = c.in-Ok.ensures.accepted in
    record {
      known = inl (the_lines a);
      ended = λ r right shelf. ends_with _ _ _ _ _ _
          (ends_told a shelf _ _ c.args.count (counted c.args.journal.now) _ _ c.as_slice.result.now r right c.finish.ensures
          (c.as_slice.ensures.value ∙ c.in-Ok.ensures.line a.spec r.readers a.verdict.is (lines_read a r right))
          (c.in-Ok.ensures.evaluated a.spec r.readers a.verdict.is (lines_read a r right)))
          c.end.ensures;
    }

-- memory was wanting
pub returns-then-is_memory : goal.returns-then-is_memory
returns-then-is_memory g c = record {
  known = known_cut _ _ _ c.in-Err.ensures.known;
  ended = λ r right shelf. ends_cut shelf _ c.args.count _ _ r right c.in-Err.ensures.known c.in-Err.ensures.cut;
}

-- the built-in language has a fault
pub returns-else-is_memory : goal.returns-else-is_memory
returns-else-is_memory g c =
    let some : c.in-Err.fault ≢ NoMemory = λ is. let yes = c.if-is_memory.ensures.1 is in let no = c.if-is_memory.false in cc in
    let the = c.in-Err.ensures.fault some in
    record {
      known = known_fault _ _ _ _ _ _ the;
      ended = λ r right shelf. ends_fault _ shelf _ _ c.args.count _ _ _ r the right (c.in-Err.ensures.quiet some) (c.refuse.ensures shelf _);
    }
