-- The first operator of a shown phylum that has no scheme in the ordinary view. A shown phylum is the root, or an
-- argument phylum of an operator of a shown phylum.
use Rattle.std.specs.Prelude.{◌≡◌, ℕ, ◌<◌, Bool, false, nat_eq, List, Option, Some, None, slice_get, option_map, unwrap_or}
use Rattle.std.specs.List.{list_any}
use Rattle.sg_kinds.specs.Sound.{IsShown}
use Rattle.sg_kinds.specs.declared.spec.Operator.{Operator}
use Rattle.sg_kinds.specs.declared.fault.SpecFault.{SpecFault}
use Rattle.sg_ast.specs.Declarations.{Decl, Schemes}
use Rattle.sg_names.specs.Drafted.{drafted}
use Rattle.sg_names.specs.Lookups.{operator_at}
use Rattle.sg_names.specs.declared.table.Table.{Table}
use Rattle.sg_schemes.specs.ShownFlags.{fault_at}

-- whether a declaration gives an operator schemes in the ordinary view
abbrev pub gives : Table → ℕ → Decl → Bool
gives t k (Schemes p op None schemes) = unwrap_or (option_map (nat_eq k) (operator_at t p op)) false
gives t k d = false

-- an operator of a shown phylum to which no declaration gives a scheme
pub record LacksScheme (t : Table) (ds : List Decl) (k : ℕ) (o : Operator) : Type 0 where
  pub there : slice_get t.ops k ≡ Some o
  pub shown : IsShown (drafted t) o.phylum
  pub none : list_any (gives t k) ds ≡ false

-- the fault of the first such operator, or none
pub data IsNoScheme (t : Table) (ds : List Decl) (f : Option SpecFault) : Type 0 where
  all_have : ((k : ℕ) (o : Operator) → LacksScheme t ds k o → ⊥) → f ≡ None → IsNoScheme t ds f
  first_lacks : (k : ℕ) (o : Operator) → LacksScheme t ds k o
      → ((j : ℕ) (x : Operator) → j < k → LacksScheme t ds j x → ⊥) → f ≡ fault_at t k o → IsNoScheme t ds f
