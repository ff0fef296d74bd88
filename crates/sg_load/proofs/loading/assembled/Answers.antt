use Rattle.std.proofs.lemmas.Result.{err_from_is_err_and, on_ok_weaker, IfErr-weaker}
use Rattle.std.proofs.Common.{◌≢◌, ◌++◌}
use Rattle.sg_kinds.specs.Sound.{HasLexemes, IsSound}
use Rattle.sg_kinds.specs.declared.fault.SpecFault.TheVariants.{NoMemory}
use Rattle.sg_ast.specs.View.{trees_of}
use Rattle.sg_load.specs.FirstFault.{late_phases, phases, shown_phases}
use Rattle.sg_load.specs.Only.{IsTheFault, IsTheSpec}
use Rattle.sg_load.proofs.Judging.{if_ok_both, names_fault, types_fault, equations_fault, shown_fault, no_fault_before, sound_record}
use Rattle.sg_load.proofs.loading.assembled.Goals as goal

pub returns-in_err-names-clause-fault : goal.returns-in_err-names-clause-fault
returns-in_err-names-clause-fault c =
    let p = err_from_is_err_and c.from_residual.result c.from_residual.ensures.1 in
    rw (p.1, p.2) (λ some. names_fault (trees_of c.args.decls.now) c.in_err-names.field-0.0 (c.in_err-names.ensures.fault some))

pub returns-in_err-typed-clause-fault : goal.returns-in_err-typed-clause-fault
returns-in_err-typed-clause-fault c =
    let p = err_from_is_err_and c.from_residual-in_err-typed.result c.from_residual-in_err-typed.ensures.1 in
    rw (p.1, p.2) (λ some. types_fault (trees_of c.args.decls.now) c.in_ok-names.names c.in_ok-names.ensures.value c.in_ok-names.ensures.none
    c.in_err-typed.field-0.0 (c.in_err-typed.ensures.fault some))

pub returns-in_err-rules-clause-fault : goal.returns-in_err-rules-clause-fault
returns-in_err-rules-clause-fault c =
    let p = err_from_is_err_and c.from_residual-in_err-rules.result c.from_residual-in_err-rules.ensures.1 in
    rw (p.1, p.2) (λ some. equations_fault (trees_of c.args.decls.now) c.in_ok-names.names c.in_ok-names.ensures.value c.in_ok-names.ensures.none c.in_ok-typed.ensures.none
    c.in_err-rules.field-0.0 (c.in_err-rules.ensures.fault some))

pub returns-clause-sound : goal.returns-clause-sound
returns-clause-sound c =
    let ds = trees_of c.args.decls.now in
    if_ok_both (IsTheSpec ds) HasLexemes IsSound c.recorded.result
    (λ spec the lexemes shown. sound_record ds c.in_ok-names.names c.in_ok-names.ensures.value c.in_ok-names.ensures.none c.in_ok-typed.ensures.none c.in_ok-rules.ensures.none shown c.in_ok-rules.rules spec c.requires.written
    c.in_ok-rules.ensures.rules c.in_ok-rules.ensures.few c.in_ok-names.ensures.few the lexemes)
    c.recorded.ensures.the c.recorded.ensures.lexemes c.recorded.ensures.none

pub returns-clause-none : goal.returns-clause-none
returns-clause-none c =
    on_ok_weaker c.recorded.result
    (λ shown. no_fault_before (trees_of c.args.decls.now) c.in_ok-names.names c.in_ok-names.ensures.value c.in_ok-names.ensures.none c.in_ok-typed.ensures.none c.in_ok-rules.ensures.none shown)
    c.recorded.ensures.none

pub returns-clause-fault : goal.returns-clause-fault
returns-clause-fault c =
    let ds = trees_of c.args.decls.now in
    IfErr-weaker c.recorded.result (λ f. f ≢ NoMemory → IsTheFault ds (shown_phases ++ late_phases) f) (λ f. f ≢ NoMemory → IsTheFault ds phases f)
    (λ f the some. shown_fault ds c.in_ok-names.names c.in_ok-names.ensures.value c.in_ok-names.ensures.none c.in_ok-typed.ensures.none c.in_ok-rules.ensures.none f (the some)) c.recorded.ensures.fault
