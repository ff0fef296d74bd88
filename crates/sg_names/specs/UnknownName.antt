-- A name that has no meaning where it stands.
use Rattle.std.specs.Prelude.{Bool, false, ◌||◌, if◌then◌else◌, List, Option, Some, None, is_some, option_and_then}
use Rattle.sg_kinds.specs.Values.{Bytes}
use Rattle.sg_kinds.specs.Specification.{has_shape, is_lexical_shape, is_leaf_shape}
use Rattle.sg_kinds.specs.declared.fault.SpecFault.{SpecFault}
use Rattle.sg_kinds.specs.declared.fault.SpecFault.TheVariants as fault
use Rattle.sg_ast.specs.declared.name.Name.{Name}
use Rattle.sg_ast.specs.declared.name.Occurrence.TheVariants.{Own, Named}
use Rattle.sg_ast.specs.declared.name.Occurrence.{Occurrence}
use Rattle.sg_ast.specs.declared.name.Pair.{Pair}
use Rattle.sg_ast.specs.declared.name.Reference.{Reference}
use Rattle.sg_ast.specs.Declarations.{Decl}
use Rattle.sg_ast.specs.FirstFault.{first}
use Rattle.sg_names.specs.declared.table.Table.{Table}
use Rattle.sg_names.specs.Lookups.{attribute, phylum_named, usable_named, operator_at, nonterminal_named, callable, occurrence, reference, symbol, operand, symbol_type}
use Rattle.sg_names.specs.Names.{op_named}
use Rattle.sg_names.specs.Uses.{Site, Use, InOperator, InProduction, Elsewhere, UsesPhylum, HasOperators, HasAttributes, UsesOperator, UsesSymbol, UsesResult, Refers, Encloses, UsesVariable, Calls, Matches, is_visible, uses}

-- the fault of a name that does not mean what it must
abbrev pub unless_known : Bool → Name → Option SpecFault
unless_known known n = if known then None else Some (fault.UnknownName n.place n.text)

-- whether a name means a phylum with operators; a lexeme phylum that may be used
abbrev pub has_operators : Table → Bytes → Bool
has_operators t n = is_some (option_and_then (λ p. if has_shape t.phyla is_leaf_shape p then None else Some p)
    (phylum_named t n))

abbrev pub is_lexeme : Table → Bytes → Bool
is_lexeme t n = is_some (option_and_then (λ p. if has_shape t.phyla is_lexical_shape p then Some p else None)
    (usable_named t n))

abbrev pub is_nonterminal : Table → Bytes → Bool
is_nonterminal t n = is_some (nonterminal_named t n)

-- the name that a fault of a reference names where its occurrence has no meaning: of `$$` the attribute
abbrev pub occurrence_name : Reference → Occurrence → Name
occurrence_name r (Own place) = r.attr
occurrence_name r (Named q k) = q

-- a reference: the occurrence where it is not there, else the attribute where that is not there
abbrev pub reference_fault : Bool → Bool → Reference → Option SpecFault
reference_fault there known r = if there then unless_known known r.attr else unless_known false (occurrence_name r r.of)

-- whether an occurrence is there, and whether a reference to one has a meaning
abbrev pub is_there : Table → Site → Occurrence → Bool
is_there t (InOperator op) o = is_some (occurrence t op o)
is_there t (InProduction left parts) o = is_some (symbol left parts o)
is_there t Elsewhere o = false

abbrev pub is_known : Table → Site → Reference → Bool
is_known t (InOperator op) r = is_some (reference t op r)
is_known t (InProduction left parts) r = is_some (operand t left parts r)
is_known t Elsewhere r = false

abbrev pub unknown_reference : Table → Site → Reference → Option SpecFault
unknown_reference t site r = reference_fault (is_there t site r.of) (is_known t site r) r

-- a listed attribute of an enclosing node: its phylum, which has operators and of which only an equation may speak,
-- else the attribute
abbrev pub is_attribute : Table → Bytes → Bytes → Bool
is_attribute t n a = is_some (option_and_then (λ p. attribute t p a) (phylum_named t n))

abbrev pub may_enclose : Table → Site → Bytes → Bool
may_enclose t (InOperator op) n = has_operators t n
may_enclose t (InProduction left parts) n = false
may_enclose t Elsewhere n = false

abbrev pub unknown_enclosing : Table → Site → Pair → Option SpecFault
unknown_enclosing t site q = if may_enclose t site q.phylum.text then unless_known
    (is_attribute t q.phylum.text q.attr.text) q.attr else unless_known false q.phylum

abbrev pub unknown_at : Table → Use → Option SpecFault
unknown_at t (UsesPhylum n) = unless_known (is_some (usable_named t n.text)) n
unknown_at t (HasOperators n) = unless_known (has_operators t n.text) n
unknown_at t (HasAttributes n) = unless_known (has_operators t n.text || is_nonterminal t n.text) n
unknown_at t (UsesOperator n op) = if is_some (usable_named t n.text) then unless_known
    (is_some (operator_at t n op)) op else unless_known false n
unknown_at t (UsesSymbol n) = unless_known (is_lexeme t n.text || is_nonterminal t n.text) n
unknown_at t (UsesResult n a) = if is_nonterminal t n.text then unless_known
    (is_some (symbol_type t n.text a.text)) a else unless_known false n
unknown_at t (Refers site r) = unknown_reference t site r
unknown_at t (Encloses site q) = unknown_enclosing t site q
unknown_at t (UsesVariable scope n) = unless_known (is_visible scope n.text) n
unknown_at t (Calls n parts) = unless_known (is_some (callable t n.text)) n
unknown_at t (Matches n parts) = unless_known (is_some (op_named t.ops n.text)) n
unknown_at t u = None

unfoldable pub unknown_name : Table → List Decl → Option SpecFault
unknown_name t ds = first (unknown_at t) (uses t ds)
