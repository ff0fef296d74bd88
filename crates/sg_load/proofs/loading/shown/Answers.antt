use Rattle.std.proofs.Common.{◌≡◌, ◌∷◌, ◌∙◌, Some, sym, subst}
use Rattle.std.proofs.lemmas.Result.{err_from_is_err_and}
use Rattle.sg_ast.specs.View.{trees_of}
use Rattle.sg_load.specs.FirstFault.{HasNoFaultOf, IsSchemesFault, late_phases, entries_fault}
use Rattle.sg_load.specs.FirstFault.Phase.{Schemes, Lexemes, Entries}
use Rattle.sg_load.proofs.FirstLaws.{here, later, the_computed}
use Rattle.sg_load.proofs.LexemeFaults.{one_lexeme_fault, no_lexeme_fault}
use Rattle.sg_load.proofs.SchemesFaults.{the_schemes_fault, no_schemes_fault}
use Rattle.sg_load.proofs.loading.shown.Goals as goal

pub returns-in_err-refused-clause-fault : goal.returns-in_err-refused-clause-fault
returns-in_err-refused-clause-fault c =
    let p = err_from_is_err_and c.from_residual-in_err-refused.result c.from_residual-in_err-refused.ensures.1 in
    let ds = trees_of c.args.decls.now in
    let f = c.in_err-refused.field-0.0 in
    rw (p.1, p.2) (λ some. here ds Schemes (Lexemes ∷ Entries ∷ late_phases) f
    (the_schemes_fault ds f (subst (IsSchemesFault ds) c.in_err-refused.ensures.some c.in_ok-schemes_fault.ensures)))

pub returns-in_err-lexemes-clause-fault : goal.returns-in_err-lexemes-clause-fault
returns-in_err-lexemes-clause-fault c =
    let p = err_from_is_err_and c.from_residual-in_err-lexemes.result c.from_residual-in_err-lexemes.ensures.1 in
    let ds = trees_of c.args.decls.now in
    let f = c.in_err-lexemes.field-0.0 in
    let schemes : HasNoFaultOf ds Schemes = no_schemes_fault ds (subst (IsSchemesFault ds) c.in_ok-refused.ensures.none c.in_ok-schemes_fault.ensures) in
    rw (p.1, p.2) (λ some. later ds Schemes (Lexemes ∷ Entries ∷ late_phases) f schemes
    (here ds Lexemes (Entries ∷ late_phases) f (record { is = c.in_err-lexemes.ensures.fault some; only = λ g h. one_lexeme_fault ds g f h (c.in_err-lexemes.ensures.fault some) })))

pub returns-in_err-refused-2-clause-fault : goal.returns-in_err-refused-2-clause-fault
returns-in_err-refused-2-clause-fault c =
    let p = err_from_is_err_and c.from_residual-in_err-refused-2.result c.from_residual-in_err-refused-2.ensures.1 in
    let ds = trees_of c.args.decls.now in
    let f = c.in_err-refused-2.field-0.0 in
    let schemes : HasNoFaultOf ds Schemes = no_schemes_fault ds (subst (IsSchemesFault ds) c.in_ok-refused.ensures.none c.in_ok-schemes_fault.ensures) in
    let e : entries_fault ds ≡ Some f = sym c.in_ok-entries_fault.ensures ∙ c.in_err-refused-2.ensures.some in
    rw (p.1, p.2) (λ some. later ds Schemes (Lexemes ∷ Entries ∷ late_phases) f schemes
    (later ds Lexemes (Entries ∷ late_phases) f (no_lexeme_fault ds c.in_ok-lexemes.ensures.none)
    (here ds Entries late_phases f (record { is = e; only = the_computed (entries_fault ds) f e }))))
