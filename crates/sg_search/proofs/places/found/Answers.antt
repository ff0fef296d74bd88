use Rattle.std.proofs.Common.{refl, ◌∙◌, subst}
use Rattle.std.specs.Prelude.{[], List}
use Rattle.sg_forest.specs.declared.node_id.NodeId.{NodeId}
use Rattle.sg_search.specs.Found.{found}
use Rattle.sg_search.specs.Gathered.{Gained}
use Rattle.sg_search.proofs.Gathers.{all_gained}
use Rattle.sg_search.proofs.places.found.Goals as goal

pub gather-requires-clause-named : goal.gather-requires-clause-named
gather-requires-clause-named c = (c.args.name.now, c.deref.ensures.value ∙ c.in_ok-numbers.ensures)

pub returns : goal.returns
returns c = record {
  places = λ x holds.
      let g = c.args.terms.now in
      let root = c.args.root in
      let us = found g.spec c.args.name.now x in
      all_gained g root c.gather.new.places.items us
      (subst (λ (l : List NodeId). Gained g root l c.gather.new.places.items us) c.new-places.ensures.items (c.in_ok-gather.ensures c.args.name.now root x x [] (c.deref.ensures.value ∙ c.in_ok-numbers.ensures) holds refl refl));
}
