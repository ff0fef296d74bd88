-- What the code makes of declarations for the record.
use Rattle.std.specs.Prelude.{◌≡◌, ℕ, List, flat_map, None}
use Rattle.sg_ast.specs.Declarations.{Decl}
use Rattle.sg_names.specs.declared.table.Table.{Table}
use Rattle.sg_names.specs.Rows.{row_at}
use Rattle.sg_record.specs.declared.record.Given.{Given}
use Rattle.sg_record.specs.Record.{transforms_in, productions_in, entry_at, levels_at, bodies_in}
use Rattle.sg_views.specs.Schemes.{schemes_of}
use Rattle.sg_views.specs.Views.{views_of}

pub record ArePartsOf (t : Table) (ds : List Decl) (p : Given) : Type 0 where
  pub schemes : (k : ℕ) → row_at p.schemes k ≡ schemes_of t None ds k
  pub views : p.views ≡ views_of t ds
  pub transforms : p.transforms.items ≡ transforms_in t 0 ds
  pub productions : p.productions.items ≡ productions_in t 0 ds
  pub entries : p.entries.items ≡ flat_map (entry_at t) ds
  pub levels : p.levels.items ≡ flat_map levels_at ds
  pub bodies : p.bodies.items ≡ bodies_in 0 ds
