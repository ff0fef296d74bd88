-- The first static fault of declarations. The table of faults is cut into phases, each of which gives the first fault
-- of its rows.
use Rattle.std.specs.Prelude.{◌≡◌, ◌≢◌, ◌⊎◌, List, [], ◌∷◌, ◌++◌, Option, Some, ⊤}
use Rattle.sg_kinds.specs.declared.fault.SpecFault.{SpecFault}
use Rattle.sg_kinds.specs.declared.spec.Spec.{Spec}
use Rattle.sg_kinds.specs.Specification.{rules_of}
use Rattle.sg_ast.specs.Declarations.{Decl}
use Rattle.sg_ast.specs.FirstFault.{first_of}
use Rattle.sg_resolve.specs.Resolved.{resolve_fault}
use Rattle.sg_schemes.specs.NoScheme.{IsNoScheme}
use Rattle.sg_schemes.specs.Places.{scheme_kids}
use Rattle.sg_schemes.specs.Strings.{scheme_text}
use Rattle.sg_typing.specs.Checked.{first_fault}
use Rattle.sg_equations.specs.Complete.{incomplete}
use Rattle.sg_record.specs.Entries.{entry_twice, entry_type}
use Rattle.sg_remote.specs.Longer.{names_of}
use Rattle.sg_remote.specs.NoEnclosing.{IsNoEnclosing}
use Rattle.sg_grammar.specs.Numbered.{grammar_of}
use Rattle.sg_lalr.specs.Tables.{IsTableFault}
use Rattle.sg_lalr.specs.declared.table.TableFault.{TableFault}
use Rattle.sg_lalr.specs.declared.table.TableFault.TheVariants as table
use Rattle.sg_dependencies.specs.declared.fault.OrderFault.{OrderFault}
use Rattle.sg_dependencies.specs.declared.fault.OrderFault.TheVariants as order
use Rattle.sg_dependencies.specs.Faults.{IsFault}
use Rattle.sg_reports.specs.Tables.{printed_table}
use Rattle.sg_reports.specs.Orders.{printed_order}
use Rattle.sg_load.specs.Patterns.{IsLexemeFault}
use Rattle.sg_load.specs.SpecOf.{IsSpecOf}

-- counts, names, shapes, made terms and bindings; types; equations; references to enclosing nodes; schemes; the
-- patterns of lexeme phyla; entries; tables of the input grammar; the order of evaluation
pub data Phase : Type 0 where
  Names : Phase
  Types : Phase
  Equations : Phase
  Enclosing : Phase
  Schemes : Phase
  Lexemes : Phase
  Entries : Phase
  Tables : Phase
  Order : Phase

-- a missing scheme, then their places, then their strings
pub record IsSchemesFault (ds : List Decl) (f : Option SpecFault) : Type 0 where
  pub missing : Option SpecFault
  pub missing_is : IsNoScheme (names_of ds) ds missing
  pub first : f ≡ first_of (missing ∷ scheme_kids (names_of ds) ds ∷ scheme_text ds ∷ [])

-- second entries, then their types
abbrev pub entries_fault : List Decl → Option SpecFault
entries_fault ds = first_of (entry_twice (names_of ds) ds ∷ entry_type (names_of ds) ds ∷ [])

-- what the grammar of the record's input productions has no tables for
pub record IsPrintedTable (ds : List Decl) (f : SpecFault) : Type 0 where
  pub spec : Spec
  pub spec_is : IsSpecOf ds spec
  pub fault : TableFault
  pub some : fault ≢ table.NoMemory
  pub fault_is : IsTableFault (grammar_of spec) fault
  pub printed : f ≡ printed_table spec ds fault

-- what the record's equations have no order for
pub record IsPrintedOrder (ds : List Decl) (f : SpecFault) : Type 0 where
  pub spec : Spec
  pub spec_is : IsSpecOf ds spec
  pub fault : OrderFault
  pub some : fault ≢ order.NoMemory
  pub fault_is : IsFault (rules_of spec) fault
  pub printed : f ≡ printed_order spec ds fault

-- a fault of a phase
abbrev pub IsFaultOf : List Decl → Phase → SpecFault → Type 0
IsFaultOf ds Names f = resolve_fault ds ≡ Some f
IsFaultOf ds Types f = first_fault (names_of ds) ds ≡ Some f
IsFaultOf ds Equations f = incomplete (names_of ds) ds ≡ Some f
IsFaultOf ds Enclosing f = IsNoEnclosing (names_of ds) ds (Some f)
IsFaultOf ds Schemes f = IsSchemesFault ds (Some f)
IsFaultOf ds Lexemes f = IsLexemeFault ds f
IsFaultOf ds Entries f = entries_fault ds ≡ Some f
IsFaultOf ds Tables f = IsPrintedTable ds f
IsFaultOf ds Order f = IsPrintedOrder ds f

-- no fault of a phase; of any of these phases
abbrev pub HasNoFaultOf : List Decl → Phase → Type 0
HasNoFaultOf ds phase = (f : SpecFault) → IsFaultOf ds phase f → ⊥

abbrev pub HaveNoFault : List Decl → List Phase → Type 0
HaveNoFault ds [] = ⊤
HaveNoFault ds (phase ∷ phases) = HasNoFaultOf ds phase × HaveNoFault ds phases

-- a fault of the first of these phases that has one
abbrev pub IsFirstFault : List Decl → List Phase → SpecFault → Type 0
IsFirstFault ds [] f = ⊥
IsFirstFault ds (phase ∷ phases) f = IsFaultOf ds phase f ⊎ (HasNoFaultOf ds phase × IsFirstFault ds phases f)

-- the phases in their order: of names, types and equations, of what is shown and typed in, of the record
abbrev pub equation_phases : List Phase
equation_phases = Equations ∷ Enclosing ∷ []

abbrev pub early_phases : List Phase
early_phases = Names ∷ Types ∷ equation_phases

abbrev pub shown_phases : List Phase
shown_phases = Schemes ∷ Lexemes ∷ Entries ∷ []

abbrev pub late_phases : List Phase
late_phases = Tables ∷ Order ∷ []

abbrev pub phases : List Phase
phases = early_phases ++ (shown_phases ++ late_phases)
