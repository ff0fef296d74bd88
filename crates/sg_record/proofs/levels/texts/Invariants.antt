use Rattle.std.proofs.Common.{◌≡◌, ◌++◌, drop, map}
use Rattle.sg_ast.specs.declared.name.Quoted.{Quoted}
use Rattle.sg_record.proofs.levels.texts.Given as goal

abbrev pub invariant-loop-literal : goal.invariant-loop-literal
invariant-loop-literal l = l.texts.items ++ map (λ (s : Quoted). s.text) (drop l.literal-index l.literals) ≡ map (λ (s : Quoted). s.text) l.literals
