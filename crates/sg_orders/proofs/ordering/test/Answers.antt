use Rattle.std.specs.Prelude.{ℕ, ◌<◌, length}
use Rattle.std.proofs.Common.{sym, ap, ◌∙◌, subst}
use Rattle.std.proofs.lemmas.List.{with_items_is}
use Rattle.sg_sets.specs.Cycles.{HasNoCycle}
use Rattle.sg_sets.specs.Rows.{Holds}
use Rattle.sg_kinds.specs.Layers.{Extended}
use Rattle.sg_dependencies.specs.Faults.{IsFirst}
use Rattle.sg_dependencies.specs.Induced.{relation_at}
use Rattle.sg_dependencies.specs.Rounds.{IsFirstCycle, AreFitting}
use Rattle.sg_dependencies.specs.Vertices.{AreRowsOf}
use Rattle.sg_dependencies.proofs.Reports.{all_acyclic, first_by}
use Rattle.sg_orders.specs.Layerings.{layer_in, AreLater}
use Rattle.sg_orders.proofs.Extends.{AreExtendedRows, all_extended, fitting_later, acyclic_direct}
use Rattle.sg_orders.proofs.ordering.test.Goals as goal

pub extend-requires : goal.extend-requires
extend-requires c later is =
    let lays = subst (λ xs. AreLater xs later) c.deref.ensures.value is in
    subst (λ xs. AreFitting c.args.frames.now xs later) (sym c.as_mut_slice.ensures.value)
    (fitting_later c.args.rules.now c.in_ok-dependencies.dependencies c.args.frames.now c.in_ok-layers.layers.items later c.requires.range c.requires.frames c.in_ok-dependencies.ensures.exact c.in_ok-layers.ensures lays)

pub returns-in-Some-clause-fault : goal.returns-in-Some-clause-fault
returns-in-Some-clause-fault c =
    let rules = c.args.rules.now in
    let layers = c.in_ok-layers.layers.items in
    let operators = c.extend.new.operators in
    let found = c.in_ok-extend.ensures in
    let ext : AreExtendedRows rules layers operators = all_extended rules c.in_ok-dependencies.dependencies c.args.frames.now layers c.as_mut_slice.result.now operators c.requires.range c.requires.frames c.in_ok-dependencies.ensures.exact c.in_ok-layers.ensures c.as_mut_slice.ensures.value
    found.0 (subst (λ xs. AreLater xs found.0) c.deref.ensures.value found.1) found.2 in
    let same = with_items_is c.in_ok-dependencies.dependencies.operators operators (found.2.alike.count ∙ c.as_mut_slice.ensures.len) in
    let at = c.in-Some.found in
    let is : IsFirstCycle operators at.place at.cycle = subst (λ xs. IsFirstCycle xs at.place at.cycle) (c.deref-2.ensures.value ∙ same) (rw c.in-Some.is at c.in_ok-found.ensures.some) in (
      acyclic_direct rules c.in_ok-dependencies.ensures.acyclic,
      c.in_ok-dependencies.ensures.acyclic,
      record {
        layer = layer_in layers;
        layers = c.in_ok-layers.ensures.each;
        first = subst (λ k. IsFirst rules (Extended rules (layer_in layers)) k at.cycle) (sym c.operator_id.ensures) (first_by rules (Extended rules (layer_in layers)) operators ext.count ext.rows at.place at.cycle is);
      },
    )

pub returns-clause-exact : goal.returns-clause-exact
returns-clause-exact c =
    let rules = c.args.rules.now in
    let layers = c.in_ok-layers.layers.items in
    let operators = c.extend.new.operators in
    let found = c.in_ok-extend.ensures in
    let ext : AreExtendedRows rules layers operators = all_extended rules c.in_ok-dependencies.dependencies c.args.frames.now layers c.as_mut_slice.result.now operators c.requires.range c.requires.frames c.in_ok-dependencies.ensures.exact c.in_ok-layers.ensures c.as_mut_slice.ensures.value
    found.0 (subst (λ xs. AreLater xs found.0) c.deref.ensures.value found.1) found.2 in
    let same = with_items_is c.in_ok-dependencies.dependencies.operators operators (found.2.alike.count ∙ c.as_mut_slice.ensures.len) in
    record {
      layers = c.in_ok-layers.ensures;
      count = ap length same ∙ ext.count;
      rows = λ p low. subst (λ xs. AreRowsOf rules p (Extended rules (layer_in layers) p) (relation_at xs p)) (sym same) (ext.rows p low);
    }

pub returns-clause-acyclic : goal.returns-clause-acyclic
returns-clause-acyclic c =
    let rules = c.args.rules.now in
    let layers = c.in_ok-layers.layers.items in
    let operators = c.extend.new.operators in
    let found = c.in_ok-extend.ensures in
    let ext : AreExtendedRows rules layers operators = all_extended rules c.in_ok-dependencies.dependencies c.args.frames.now layers c.as_mut_slice.result.now operators c.requires.range c.requires.frames c.in_ok-dependencies.ensures.exact c.in_ok-layers.ensures c.as_mut_slice.ensures.value
    found.0 (subst (λ xs. AreLater xs found.0) c.deref.ensures.value found.1) found.2 in
    let same = with_items_is c.in_ok-dependencies.dependencies.operators operators (found.2.alike.count ∙ c.as_mut_slice.ensures.len) in
    let none : (p : ℕ) → p < length operators → HasNoCycle (Holds (relation_at operators p)) =
    subst (λ xs. (p : ℕ) → p < length xs → HasNoCycle (Holds (relation_at xs p))) (c.deref-2.ensures.value ∙ same) (rw c.in_default.is at c.in_ok-found.ensures.none) in
    all_acyclic rules (Extended rules (layer_in layers)) operators ext.count ext.rows none
