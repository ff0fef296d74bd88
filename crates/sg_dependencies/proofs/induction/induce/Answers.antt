use Rattle.std.specs.Prelude.{ℕ, ◌<◌, length}
use Rattle.std.proofs.Common.{sym, subst}
use Rattle.sg_sets.specs.Cycles.{HasNoCycle}
use Rattle.sg_sets.specs.Rows.{Holds}
use Rattle.sg_kinds.specs.Dependencies.{Direct, InOperator}
use Rattle.sg_dependencies.specs.Faults.{IsFirst}
use Rattle.sg_dependencies.specs.Induced.{relation_at}
use Rattle.sg_dependencies.specs.Rounds.{IsFirstCycle}
use Rattle.sg_dependencies.proofs.Reports.{all_acyclic, first_by}
use Rattle.sg_dependencies.proofs.induction.induce.Goals as goal

pub returns-in-Some-clause-fault : goal.returns-in-Some-clause-fault
returns-in-Some-clause-fault c =
    let rules = c.args.rules.now in
    let operators = c.in_ok-operators.operators.items in
    let found = c.in-Some.found in
    let is : IsFirstCycle operators found.place found.cycle = subst (λ xs. IsFirstCycle xs found.place found.cycle) c.deref.ensures.value (rw c.in-Some.is at c.in_ok-found.ensures.some) in
    subst (λ k. IsFirst rules (Direct rules) k found.cycle) (sym c.operator_id.ensures) (first_by rules (Direct rules) operators c.in_ok-operators.ensures.count c.in_ok-operators.ensures.each found.place found.cycle is)

pub returns-in-Some-2-clause-fault : goal.returns-in-Some-2-clause-fault
returns-in-Some-2-clause-fault c =
    let rules = c.args.rules.now in
    let operators = c.in_ok-operators.operators.items in
    let induced = c.in_ok-induced.induced in
    let found = c.in-Some-2.found in
    let none : (p : ℕ) → p < length operators → HasNoCycle (Holds (relation_at operators p)) =
    subst (λ xs. (p : ℕ) → p < length xs → HasNoCycle (Holds (relation_at xs p))) c.deref.ensures.value (rw c.in_default.is at c.in_ok-found.ensures.none) in
    let is : IsFirstCycle induced.operators.items found.place found.cycle = subst (λ xs. IsFirstCycle xs found.place found.cycle) c.deref-2.ensures.value (rw c.in-Some-2.is at c.in_ok-found-2.ensures.some) in (
      all_acyclic rules (Direct rules) operators c.in_ok-operators.ensures.count c.in_ok-operators.ensures.each none,
      subst (λ k. IsFirst rules (InOperator rules) k found.cycle) (sym c.operator_id-in-Some-2.ensures) (first_by rules (InOperator rules) induced.operators.items c.in_ok-induced.ensures.operators c.in_ok-induced.ensures.in_operator found.place found.cycle is),
    )

pub returns-clause-acyclic : goal.returns-clause-acyclic
returns-clause-acyclic c =
    let rules = c.args.rules.now in
    let induced = c.in_ok-induced.induced in
    let none : (p : ℕ) → p < length induced.operators.items → HasNoCycle (Holds (relation_at induced.operators.items p)) =
    subst (λ xs. (p : ℕ) → p < length xs → HasNoCycle (Holds (relation_at xs p))) c.deref-2.ensures.value (rw c.in_default-2.is at c.in_ok-found-2.ensures.none) in
    all_acyclic rules (InOperator rules) induced.operators.items c.in_ok-induced.ensures.operators c.in_ok-induced.ensures.in_operator none
