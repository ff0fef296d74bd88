-- The dependencies of all operators and phyla, as rows of bits.
use Rattle.std.specs.Prelude.{◌≡◌, ◌↔◌, ℕ, ◌<◌, Bool, List, [], length, slice_index_or}
use Rattle.sg_sets.specs.Rows.{Holds}
use Rattle.sg_kinds.specs.declared.spec.Rules.{Rules}
use Rattle.sg_kinds.specs.Specification.{attrs_of}
use Rattle.sg_kinds.specs.Dependencies.{InOperator, InPhylum}
use Rattle.sg_dependencies.specs.Vertices.{AreRowsOf}
use Rattle.sg_dependencies.specs.declared.dependencies.Dependencies.{Dependencies}

-- the relation of an operator or a phylum
abbrev pub relation_at : List (List (List Bool)) → ℕ → List (List Bool)
relation_at relations k = slice_index_or relations k []

-- rows that relate just the attributes of X that its dependencies relate
pub record AreRowsOfPhylum (rules : Rules) (X : ℕ) (rows : List (List Bool)) : Type 0 where
  pub size : length rows ≡ length (attrs_of rules.phyla X)
  pub holds : (a b : ℕ) → Holds rows a b ↔ InPhylum rules X a b

pub record AreInduced (rules : Rules) (d : Dependencies) : Type 0 where
  pub operators : length d.operators.items ≡ length rules.ops
  pub phyla : length d.phyla.items ≡ length rules.phyla
  pub in_operator : (p : ℕ) → p < length rules.ops → AreRowsOf rules p (InOperator rules p)
      (relation_at d.operators.items p)
  pub in_phylum : (X : ℕ) → X < length rules.phyla → AreRowsOfPhylum rules X (relation_at d.phyla.items X)
