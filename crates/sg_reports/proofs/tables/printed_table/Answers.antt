use Rattle.std.proofs.Common.{◌≡◌, List, ap, sym, ◌∙◌}
use Rattle.sg_kinds.specs.Values.{Bytes}
use Rattle.sg_kinds.specs.declared.fault.Position.{Position}
use Rattle.sg_kinds.specs.declared.fault.SpecFault.TheVariants as fault
use Rattle.sg_ast.specs.Declarations.{Decl}
use Rattle.sg_ast.specs.View.{trees_of}
use Rattle.sg_ast.specs.Parts.{head_place}
use Rattle.sg_reports.specs.Symbols.{symbol_in, name_of, written_name}
use Rattle.sg_reports.specs.Tables.{printed_table}
use Rattle.sg_reports.proofs.tables.printed_table.Goals as goal

named : (place : Position) (name text word : Bytes) (ds : List Decl) → place ≡ head_place text ds → text ≡ name → name ≡ word → fault.Unproductive place name ≡ fault.Unproductive (head_place word ds) word
named place name text word ds at same is = ap (λ p. fault.Unproductive p name) (at ∙ ap (λ t. head_place t ds) same) ∙ ap (λ n. fault.Unproductive (head_place n ds) n) is

pub returns-in_ok-name-in-Unproductive : goal.returns-in_ok-name-in-Unproductive
unfolding printed_table
returns-in_ok-name-in-Unproductive c =
    let x = c.in-Unproductive.x in
    let name = c.in_ok-name-in-Unproductive in
    let is : name.name ≡ written_name c.args.spec.now x = name.ensures ∙ ap (λ l. name_of (symbol_in l x)) (c.deref.ensures.value ∙ c.in_ok-printed_symbols-in-Unproductive.ensures) in
    named c.head_place.result name.name c.as_slice.result.now (written_name c.args.spec.now x) (trees_of c.args.decls.now) c.head_place.ensures c.as_slice.ensures is
    ∙ ap (printed_table c.args.spec.now (trees_of c.args.decls.now)) (sym c.in-Unproductive.is)
