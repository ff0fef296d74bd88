-- The faults of the phases, each without another.
use Rattle.std.proofs.Common.{◌≡◌, ◌≢◌, List, Option, Some, None, refl, sym, ap, ◌∙◌, subst}
use Rattle.sg_kinds.specs.Lexemes.{Lexeme}
use Rattle.sg_kinds.specs.Specification.{rules_of}
use Rattle.sg_kinds.specs.declared.fault.SpecFault.{SpecFault}
use Rattle.sg_kinds.specs.declared.fault.SpecFault.TheVariants as fault
use Rattle.sg_kinds.specs.declared.spec.Rules.{Rules}
use Rattle.sg_kinds.specs.declared.spec.Spec.{Spec}
use Rattle.sg_ast.specs.Declarations.{Decl}
use Rattle.sg_grammar.specs.Numbered.{grammar_of}
use Rattle.sg_grammar.specs.Grammar.{Grammar}
use Rattle.sg_lalr.specs.Tables.{IsTableFault}
use Rattle.sg_lalr.specs.declared.table.TableFault.{TableFault}
use Rattle.sg_lalr.specs.declared.table.TableFault.TheVariants as table
use Rattle.sg_lalr.specs.Prefixes.{TooMany}
use Rattle.sg_lalr.specs.Tables.{View, IsTables}
use Rattle.sg_lalr.proofs.FaultLaws.{one_fault as one_table_fault, no_fault as no_table_faults}
use Rattle.sg_dependencies.specs.declared.fault.OrderFault.{OrderFault}
use Rattle.sg_dependencies.specs.declared.fault.OrderFault.TheVariants as order
use Rattle.sg_dependencies.specs.Faults.{IsFault}
use Rattle.sg_dependencies.specs.Vertices.{AreInRange}
use Rattle.sg_dependencies.specs.Ordered.{IsOrdered}
use Rattle.sg_orders.proofs.OneFault.{one_fault as one_order_fault}
use Rattle.sg_orders.proofs.Refused.{refused}
use Rattle.sg_reports.specs.Tables.{printed_table}
use Rattle.sg_reports.specs.Orders.{printed_order}
use Rattle.sg_load.specs.declared.parts.Rest.{Rest}
use Rattle.sg_load.specs.PartsOf.{rest_of, joined}
use Rattle.sg_load.specs.Patterns.{AreLexemes}
use Rattle.sg_load.specs.SpecOf.{spec_with}
use Rattle.sg_load.specs.FirstFault.{Phase, IsFaultOf, HasNoFaultOf}
use Rattle.sg_load.specs.FirstFault.Phase.{Tables, Order}
use Rattle.sg_load.specs.Only.{IsTheSpec, IsTheFaultOf}

-- the one record
pub the_spec : (ds : List Decl) (ps : List Lexeme) (spec : Spec) → AreLexemes ds ps → ((qs : List Lexeme) → AreLexemes ds qs → qs ≡ ps) → spec ≡ spec_with ds ps → IsTheSpec ds spec
the_spec ds ps spec are only made = record {
  is = record { lexemes = ps; patterns = are; made = made };
  only = λ other is. is.made ∙ ap (spec_with ds) (only is.lexemes is.patterns) ∙ sym made;
}

-- the fault of the one record's grammar, and that it has none
pub the_table_fault : (ds : List Decl) (spec : Spec) (e : TableFault) (f : SpecFault) → IsTheSpec ds spec → e ≢ table.NoMemory → IsTableFault (grammar_of spec) e → f ≡ printed_table spec ds e → IsTheFaultOf ds Tables f
the_table_fault ds spec e f the some is printed = record {
  is = record { spec = spec; spec_is = the.is; fault = e; some = some; fault_is = is; printed = printed };
  only = λ g h.
      let same : h.spec ≡ spec = the.only h.spec h.spec_is in
      let other : IsTableFault (grammar_of spec) h.fault = subst (λ (s : Spec). IsTableFault (grammar_of s) h.fault) same h.fault_is in
      let one : h.fault ≡ e = one_table_fault (grammar_of spec) h.fault e other is h.some some in
      h.printed ∙ (λ i. printed_table (same i) ds (one i)) ∙ sym printed;
}

pub no_table_fault : (ds : List Decl) (spec : Spec) → IsTheSpec ds spec → ((e : TableFault) → IsTableFault (grammar_of spec) e → e ≢ table.NoMemory → ⊥) → HasNoFaultOf ds Tables
no_table_fault ds spec the none f h =
    let same : h.spec ≡ spec = the.only h.spec h.spec_is in
    none h.fault (subst (λ (s : Spec). IsTableFault (grammar_of s) h.fault) same h.fault_is) h.some

-- the fault of the one record's equations, and that they have none
pub the_order_fault : (ds : List Decl) (spec : Spec) (e : OrderFault) (f : SpecFault) → IsTheSpec ds spec → AreInRange (rules_of spec) → e ≢ order.NoMemory → IsFault (rules_of spec) e → f ≡ printed_order spec ds e → IsTheFaultOf ds Order f
the_order_fault ds spec e f the ranges some is printed = record {
  is = record { spec = spec; spec_is = the.is; fault = e; some = some; fault_is = is; printed = printed };
  only = λ g h.
      let same : h.spec ≡ spec = the.only h.spec h.spec_is in
      let other : IsFault (rules_of spec) h.fault = subst (λ (s : Spec). IsFault (rules_of s) h.fault) same h.fault_is in
      let one : h.fault ≡ e = one_order_fault (rules_of spec) ranges h.fault e other is h.some some in
      h.printed ∙ (λ i. printed_order (same i) ds (one i)) ∙ sym printed;
}

pub no_order_fault : (ds : List Decl) (spec : Spec) → IsTheSpec ds spec → AreInRange (rules_of spec) → IsOrdered (rules_of spec) → HasNoFaultOf ds Order
no_order_fault ds spec the ranges ordered f h =
    let same : h.spec ≡ spec = the.only h.spec h.spec_is in
    refused (rules_of spec) ranges h.fault (subst (λ (s : Spec). IsFault (rules_of s) h.fault) same h.fault_is) h.some ordered

-- what is computed
pub the_fault_of : (ds : List Decl) (phase : Phase) (f : SpecFault) (o : Option SpecFault) → ((g : SpecFault) → IsFaultOf ds phase g → o ≡ Some g) → IsFaultOf ds phase f → o ≡ Some f → IsTheFaultOf ds phase f
the_fault_of ds phase f o told is has = record { is = is; only = λ g h. let e = told g h in cc }

pub none_of : (o : Option SpecFault) → ((f : SpecFault) → o ≡ Some f → ⊥) → o ≡ None
none_of None h = refl
none_of (Some f) h = absurd (h f refl)

-- the same of what the code asked and answered
printed_no_table : (ds : List Decl) (spec : Spec) → printed_table spec ds table.NoMemory ≡ fault.NoMemory
unfolding printed_table
printed_no_table ds spec = refl

printed_no_order : (ds : List Decl) (spec : Spec) → printed_order spec ds order.NoMemory ≡ fault.NoMemory
unfolding printed_order
printed_no_order ds spec = refl

pub found_table_fault : (ds : List Decl) (spec : Spec) (g : Grammar) (e : TableFault) (f : SpecFault) → IsTheSpec ds spec → g ≡ grammar_of spec → IsTableFault g e → (f ≢ fault.NoMemory → f ≡ printed_table spec ds e) → f ≢ fault.NoMemory → IsTheFaultOf ds Tables f
found_table_fault ds spec g e f the made is printed some =
    the_table_fault ds spec e f the (λ none. some (printed some ∙ ap (printed_table spec ds) none ∙ printed_no_table ds spec)) (subst (λ (h : Grammar). IsTableFault h e) made is) (printed some)

pub found_tables : (ds : List Decl) (spec : Spec) (v : View) (g : Grammar) → IsTheSpec ds spec → g ≡ grammar_of spec → v.grammar ≡ g → IsTables v → (TooMany g → ⊥) → HasNoFaultOf ds Tables
found_tables ds spec v g the made kept sound few =
    no_table_fault ds spec the (λ e is some. no_table_faults v sound (λ many. few (subst TooMany kept many)) e (subst (λ (h : Grammar). IsTableFault h e) (sym (kept ∙ made)) is) some)

pub found_order_fault : (ds : List Decl) (spec other : Spec) (rules : Rules) (e : OrderFault) (f : SpecFault) → IsTheSpec ds spec → AreInRange (rules_of spec) → other ≡ spec → rules ≡ rules_of spec → IsFault rules e → (f ≢ fault.NoMemory → f ≡ printed_order other ds e) → f ≢ fault.NoMemory → IsTheFaultOf ds Order f
found_order_fault ds spec other rules e f the ranges same made is printed some =
    let as_printed : f ≡ printed_order spec ds e = printed some ∙ ap (λ (s : Spec). printed_order s ds e) same in
    the_order_fault ds spec e f the ranges (λ none. some (as_printed ∙ ap (printed_order spec ds) none ∙ printed_no_order ds spec)) (subst (λ (r : Rules). IsFault r e) made is) as_printed

pub joined_back : (spec other : Spec) (rules : Rules) (rest : Rest) → rules ≡ rules_of spec → rest ≡ rest_of spec → other ≡ joined rules rest → other ≡ spec
joined_back spec other rules rest a b is = is ∙ (λ i. joined (a i) (b i))
