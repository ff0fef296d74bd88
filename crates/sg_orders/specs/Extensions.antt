-- The extended dependencies of all operators, as rows of bits.
use Rattle.std.specs.Prelude.{◌≡◌, ℕ, ◌<◌, length}
use Rattle.sg_kinds.specs.declared.spec.Rules.{Rules}
use Rattle.sg_kinds.specs.Layers.{Extended}
use Rattle.sg_dependencies.specs.Induced.{relation_at}
use Rattle.sg_dependencies.specs.Vertices.{AreRowsOf}
use Rattle.sg_orders.specs.Layerings.{layer_in, AreLayerings}
use Rattle.sg_orders.specs.declared.ordering.Extension.{Extension}

pub record IsExtension (rules : Rules) (e : Extension) : Type 0 where
  pub layers : AreLayerings rules e.layers.items
  pub count : length e.operators.items ≡ length rules.ops
  pub rows : (p : ℕ) → p < length rules.ops → AreRowsOf rules p (Extended rules (layer_in e.layers.items) p)
      (relation_at e.operators.items p)
