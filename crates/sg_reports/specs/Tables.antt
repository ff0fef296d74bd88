-- Faults of tables as they are printed.
use Rattle.std.specs.Prelude.{List}
use Rattle.sg_kinds.specs.declared.spec.Spec.{Spec}
use Rattle.sg_kinds.specs.declared.fault.SpecFault.{SpecFault}
use Rattle.sg_kinds.specs.declared.fault.SpecFault.TheVariants as fault
use Rattle.sg_ast.specs.Declarations.{Decl}
use Rattle.sg_ast.specs.Parts.{head_place}
use Rattle.sg_lalr.specs.declared.table.TableFault.{TableFault}
use Rattle.sg_lalr.specs.declared.table.TableFault.TheVariants.{Unproductive, States, Conflict, NoMemory}
use Rattle.sg_reports.specs.Places.{place_in, production_places}
use Rattle.sg_reports.specs.Symbols.{written_name}
use Rattle.sg_reports.specs.Items.{printed_conflict}

-- a nonterminal that derives nothing is named at its first production; a conflict at its first item's production
unfoldable pub printed_table : Spec → List Decl → TableFault → SpecFault
printed_table spec ds (Unproductive X) = fault.Unproductive (head_place (written_name spec X) ds) (written_name spec X)
printed_table spec ds States = fault.States
printed_table spec ds (Conflict w t i j) = fault.Conflict (place_in (production_places spec ds) i.production)
    (printed_conflict spec w t i j)
printed_table spec ds NoMemory = fault.NoMemory
