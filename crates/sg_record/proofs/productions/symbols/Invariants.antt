use Rattle.std.proofs.Common.{◌≡◌, ◌++◌, drop, map}
use Rattle.sg_record.specs.Record.{symbol_of}
use Rattle.sg_record.proofs.productions.symbols.Given as goal

abbrev pub invariant-loop-part : goal.invariant-loop-part
invariant-loop-part l = l.symbols.items ++ map (symbol_of l.names) (drop l.part-index l.parts) ≡ map (symbol_of l.names) l.parts
