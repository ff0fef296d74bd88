-- Faults of ordering as they are printed.
use Rattle.std.specs.Prelude.{List}
use Rattle.sg_kinds.specs.declared.spec.Spec.{Spec}
use Rattle.sg_kinds.specs.declared.fault.SpecFault.{SpecFault}
use Rattle.sg_kinds.specs.declared.fault.SpecFault.TheVariants as fault
use Rattle.sg_ast.specs.Declarations.{Decl}
use Rattle.sg_dependencies.specs.declared.fault.OrderFault.{OrderFault}
use Rattle.sg_dependencies.specs.declared.fault.OrderFault.TheVariants.{Direct, Induced, Ordered, NoMemory}
use Rattle.sg_reports.specs.Places.{place_in, operator_places}
use Rattle.sg_reports.specs.Vertices.{printed_cycle, operator_name}

-- an operator with a cycle is named at its declaration
unfoldable pub printed_order : Spec → List Decl → OrderFault → SpecFault
printed_order spec ds (Direct op cycle) = fault.Direct (place_in (operator_places ds) op) (operator_name spec op)
    (printed_cycle spec op cycle)
printed_order spec ds (Induced op cycle) = fault.Induced (place_in (operator_places ds) op) (operator_name spec op)
    (printed_cycle spec op cycle)
printed_order spec ds (Ordered op cycle) = fault.Ordered (place_in (operator_places ds) op) (operator_name spec op)
    (printed_cycle spec op cycle)
printed_order spec ds NoMemory = fault.NoMemory
