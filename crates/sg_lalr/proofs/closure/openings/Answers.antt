use Rattle.std.proofs.Common.{ℕ, List, ◌+◌, sym, ap, ◌∙◌, subst, arith, map}
use Rattle.std.specs.Prelude.{◌↔◌, Contains}
use Rattle.std.proofs.lemmas.List.{map_push}
use Rattle.sg_grammar.specs.declared.grammar.Production.{Production}
use Rattle.sg_lalr.specs.Closure.{HasLeft, Opens}
use Rattle.sg_lalr.specs.Lefts.{AreLefts, AreHeads}
use Rattle.sg_lalr.proofs.OpeningLemmas.{GathersAll, OpeningsTo, openings-more, openings-terminal, openings-all}
use Rattle.sg_lalr.proofs.closure.openings.Goals as goal
use Rattle.sg_lalr.proofs.closure.openings.Goals.{then-x-terminals, else-x-terminals+in_ok-symbols+in_ok-of_symbols}

pub reached-requires-clause-heads : goal.reached-requires-clause-heads
reached-requires-clause-heads c = subst (λ v. AreHeads c.args.g.now.rules (map (λ k. k.items) v)) (sym c.deref.ensures.value) c.in_ok-heads.ensures

-- what stands in the rows of the reached symbols is what opens
gathered : (rules : List Production) (rows : List (List ℕ)) (symbols list : List ℕ) (x : ℕ) → AreLefts rules rows → ((q : ℕ) → Opens rules x q ↔ ((Y : ℕ) × Contains symbols Y × HasLeft rules Y q)) → GathersAll rows symbols list → (q : ℕ) → Contains list q ↔ Opens rules x q
gathered rules rows symbols list x lefts opens gathers q = (
  λ c. (let by = (gathers q).0 c in (opens q).1 (by.0, by.1, (lefts by.0 q).0 by.2)),
  λ o. (let by = (opens q).0 o in (gathers q).1 (by.0, by.1, (lefts by.0 q).1 by.2)),
)

pub loop-x-preserved : goal.loop-x-preserved
loop-x-preserved c =
    let g = c.args.g.now in
    let x = c.loop-x.x in
    let new = c.if-x-terminals.push in
    let each : (q : ℕ) → Contains new.items q ↔ Opens g.rules x q = elim c.if-x-terminals.branch [
      | then-x-terminals w ↦
          let less = w.if-x-terminals.true in
          let all = c.terminals.ensures in
          openings-terminal g x new.items c.sound.ensures (omega (arith, less, all)) (ap (λ v. v.items) w.push-is ∙ w.new.ensures.items)
      | else-x-terminals+in_ok-symbols+in_ok-of_symbols w ↦
          let lefts = subst (λ v. AreLefts g.rules (map (λ k. k.items) v)) (sym w.deref-else-x-terminals.ensures.value) c.in_ok-lefts.ensures in
          let opens = subst (λ v. (q : ℕ) → Opens g.rules x q ↔ ((Y : ℕ) × Contains v Y × HasLeft g.rules Y q)) (sym w.deref-else-x-terminals-2.ensures.value) w.in_ok-symbols.ensures in
          subst (λ l. (q : ℕ) → Contains l q ↔ Opens g.rules x q) (sym (ap (λ v. v.items) w.push-is))
          (gathered g.rules (map (λ k. k.items) w.deref-else-x-terminals.result.now) w.deref-else-x-terminals-2.result.now w.in_ok-of_symbols.field-0.items x lefts opens w.in_ok-of_symbols.ensures)
    ] in
    subst (λ l. OpeningsTo g l (x + 1)) (sym (ap (map (λ k. k.items)) c.in_ok-push.ensures.items ∙ map_push (λ k. k.items) c.loop-x.lists.items new))
    (openings-more g (map (λ k. k.items) c.loop-x.lists.items) x new.items each c.loop-x.invariant)

pub returns : goal.returns
returns c =
    let past = c.loop-x-test.false in
    let within = c.loop-x.auto.x-end in
    let end = c.symbols-x-end.ensures in
    openings-all c.args.g.now (map (λ k. k.items) c.loop-x.lists.items) c.loop-x.x c.sound.ensures (omega (arith, past, within, end)) c.loop-x.invariant
