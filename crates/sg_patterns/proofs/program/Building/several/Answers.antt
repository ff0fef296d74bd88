use Rattle.std.proofs.Common.{rules, ◌≡◌, false, arith, length, ap, refl, ◌∙◌}
use Rattle.std.proofs.lemmas.List.{get_or_default}
use Rattle.sg_kinds.specs.Lexemes as plain
use Rattle.sg_kinds.specs.LexemeCode.{of_one}
use Rattle.sg_patterns.specs.declared.program.Above.TheVariants.{Again}
use Rattle.sg_patterns.specs.Programs.{Holds}
use Rattle.sg_patterns.proofs.Holding.{one-within, several-holds, none-stays, on-ok}
use Rattle.sg_patterns.proofs.program.Building.several.Goals as goal

pub index_mut-requires : goal.index_mut-requires
index_mut-requires c =
    let self = c.args.self.now in
    let h = c.requires.1 in
    let within = one-within self.nodes.items self.above.items self.empties.items self.roots.items c.requires.0 h c.pop.new.self.items c.in-Some.part c.in-Some.ensures.items in
    omega (arith, within, h.above_each)

pub index-empty-requires : goal.index-empty-requires
index-empty-requires c =
    let self = c.args.self.now in
    let h = c.requires.1 in
    let within = one-within self.nodes.items self.above.items self.empties.items self.roots.items c.requires.0 h c.pop.new.self.items c.in-Some.part c.in-Some.ensures.items in
    omega (arith, within, h.empty_each)

pub returns-in-None : goal.returns-in-None
returns-in-None c ps h =
    let self = c.args.self.now in
    let few : length self.roots.items ≡ 0 = omega (arith, c.in-None.ensures.cases) in
    none-stays plain.Several self.nodes.items self.above.items self.empties.items self.roots.items c.pop.new.self.items ps few (search rules) h

pub returns-in-Some : goal.returns-in-Some
returns-in-Some c ps h =
    let self = c.args.self.now in
    let count : c.len-place.result ≡ length self.nodes.items = omega arith in
    let within = one-within self.nodes.items self.above.items self.empties.items self.roots.items ps h c.pop.new.self.items c.in-Some.part c.in-Some.ensures.items in
    on-ok c.push.result _ (Holds c.push.new.self (of_one plain.Several ps)) (several-holds self.nodes.items self.above.items self.empties.items self.roots.items ps h c.pop.new.self.items c.in-Some.part c.in-Some.ensures.items _ c.push.new.self _ _ refl refl refl refl (ap Again count) (c.index-empty.ensures ∙ get_or_default self.empties.items c.in-Some.part c.index-empty.result.now false (omega (arith, within, h.empty_each)))) c.push.ensures
