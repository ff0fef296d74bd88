use Rattle.std.proofs.Common.{◌≡◌, arith, length, sym, subst, [], ◌∷◌}
use Rattle.std.proofs.lemmas.Bool.Decides.{nat_tests}
use Rattle.sg_kinds.specs.Lexemes as plain
use Rattle.sg_kinds.specs.LexemeCode.{first_of}
use Rattle.sg_patterns.specs.Programs.{IsProgram}
use Rattle.sg_patterns.proofs.Holding.{no-roots}
use Rattle.sg_patterns.proofs.program.Building.finish.Goals as goal

pub returns : goal.returns
returns c ps h =
    let self = c.args.self in
    let none : length self.roots.items ≡ 0 = grind (arith, nat_tests) in
    let empty : ps ≡ [] = no-roots self.nodes.items self.above.items self.empties.items self.roots.items ps h none in
    subst (λ qs. IsProgram c.last-2.result (first_of qs)) (sym empty) (c.last-2.ensures (plain.Nothing ∷ ps) (c.in_ok-nothing.ensures.holds ps h))
