-- When no count of declarations is over its limit.
use Rattle.std.specs.Prelude.{◌≤◌, List, length, flat_map, count_by, bytes_eq, All}
use Rattle.sg_kinds.specs.Values.{Bytes}
use Rattle.sg_ast.specs.Declarations.{Decl}
use Rattle.sg_counts.specs.Crowds.{different}
use Rattle.sg_counts.specs.Limits.{phyla_of, arities_of, attributes_of, locals_of, parameters_of, schemes_of, symbols_of, views_in, is_transform, is_same_operator}

pub record IsLimited (ds : List Decl) : Type 0 where
  pub phyla : length (different bytes_eq (flat_map phyla_of ds)) ≤ 512
  pub ops : length (flat_map arities_of ds) ≤ 2048
  pub args : All (λ n. n ≤ 16) (flat_map arities_of ds)
  pub attrs : (n : Bytes) → count_by (λ m. bytes_eq m n) (flat_map attributes_of ds) ≤ 32
  pub locals : (o : Bytes × Bytes) → count_by (λ q. is_same_operator q o) (flat_map locals_of ds) ≤ 32
  pub functions : length (flat_map parameters_of ds) ≤ 1024
  pub params : All (λ n. n ≤ 16) (flat_map parameters_of ds)
  pub transforms : count_by is_transform ds ≤ 1024
  pub schemes : All (λ n. n ≤ 16) (flat_map schemes_of ds)
  pub productions : length (flat_map symbols_of ds) ≤ 1024
  pub symbols : All (λ n. n ≤ 16) (flat_map symbols_of ds)
  pub views : length (different bytes_eq (flat_map views_in ds)) ≤ 16
