use Rattle.std.proofs.Common.{◌≡◌, ◌<◌, ℕ, Bool, false, ◌||◌, arith, length, get_or, ap, refl, ◌∙◌}
use Rattle.std.proofs.lemmas.List.{get_or_default}
use Rattle.sg_kinds.specs.Lexemes as plain
use Rattle.sg_kinds.specs.LexemeCode.{of_two}
use Rattle.sg_patterns.specs.declared.program.Above.TheVariants.{Same}
use Rattle.sg_patterns.specs.Programs.{Holds}
use Rattle.sg_patterns.proofs.Holding.{two-within, either-holds, few-stay, on-ok}
use Rattle.sg_patterns.proofs.program.Building.either.Goals as goal

pub index_mut-requires : goal.index_mut-requires
index_mut-requires c =
    let self = c.args.self.now in
    let h = c.requires.1 in
    let within = two-within self.nodes.items self.above.items self.empties.items self.roots.items c.requires.0 h c.pop_two.new.roots.items c.in-Some.first c.in-Some.second c.in-Some.ensures.two in
    omega (arith, within, h.above_each)

pub index_mut-requires-in-Some : goal.index_mut-requires-in-Some
index_mut-requires-in-Some c =
    let self = c.args.self.now in
    let h = c.requires.1 in
    let within = two-within self.nodes.items self.above.items self.empties.items self.roots.items c.requires.0 h c.pop_two.new.roots.items c.in-Some.first c.in-Some.second c.in-Some.ensures.two in
    omega (arith, within, h.above_each)

pub index-requires : goal.index-requires
index-requires c =
    let self = c.args.self.now in
    let h = c.requires.1 in
    let within = two-within self.nodes.items self.above.items self.empties.items self.roots.items c.requires.0 h c.pop_two.new.roots.items c.in-Some.first c.in-Some.second c.in-Some.ensures.two in
    omega (arith, within, h.empty_each)

pub index-requires-in-Some : goal.index-requires-in-Some
index-requires-in-Some c =
    let self = c.args.self.now in
    let h = c.requires.1 in
    let within = two-within self.nodes.items self.above.items self.empties.items self.roots.items c.requires.0 h c.pop_two.new.roots.items c.in-Some.first c.in-Some.second c.in-Some.ensures.two in
    omega (arith, within, h.empty_each)

pub returns-in-None : goal.returns-in-None
returns-in-None c ps h =
    let self = c.args.self.now in
    let few : length self.roots.items < 2 = omega (arith, c.in-None.ensures.few) in
    few-stay plain.Either self.nodes.items self.above.items self.empties.items self.roots.items c.pop_two.new.roots.items ps few c.in-None.ensures.stay h

pub returns-in-Some : goal.returns-in-Some
returns-in-Some c ps h =
    let self = c.args.self.now in
    let count : c.len-place.result ≡ length self.nodes.items = omega arith in
    let within = two-within self.nodes.items self.above.items self.empties.items self.roots.items ps h c.pop_two.new.roots.items c.in-Some.first c.in-Some.second c.in-Some.ensures.two in
    let flag = λ (k : ℕ) (b : Bool) (less : k < length self.nodes.items) (is : b ≡ get_or self.empties.items k b). is ∙ get_or_default self.empties.items k b false (omega (arith, h.empty_each)) in
    on-ok c.push.result _ (Holds c.push.new.self (of_two plain.Either ps)) (either-holds self.nodes.items self.above.items self.empties.items self.roots.items ps h c.pop_two.new.roots.items c.in-Some.first c.in-Some.second c.in-Some.ensures.two _ c.push.new.self _ _ _ refl refl refl refl (ap Same count) (ap Same count) (λ i. flag c.in-Some.first c.index.result.now within.0 c.index.ensures i || flag c.in-Some.second c.index-in-Some.result.now within.1 c.index-in-Some.ensures i)) c.push.ensures
