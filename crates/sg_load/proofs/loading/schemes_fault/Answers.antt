use Rattle.std.proofs.Common.{◌≡◌}
use Rattle.std.proofs.lemmas.Result.{IfOk-weaker}
use Rattle.sg_ast.specs.FirstFault.{or_else}
use Rattle.sg_ast.specs.View.{trees_of}
use Rattle.sg_schemes.specs.Places.{scheme_kids}
use Rattle.sg_schemes.specs.Strings.{scheme_text}
use Rattle.sg_load.specs.FirstFault.{IsSchemesFault}
use Rattle.sg_load.proofs.SchemesFaults.{found_missing, found_later}
use Rattle.sg_load.proofs.loading.schemes_fault.Goals as goal

pub returns-in-Some : goal.returns-in-Some
returns-in-Some c = found_missing (trees_of c.args.decls.now) c.args.names.now c.in_ok-fault.field-0 c.in-Some.fault c.requires.names c.in_ok-fault.ensures c.in-Some.is

pub returns-in-None : goal.returns-in-None
returns-in-None c =
    let ds = trees_of c.args.decls.now in
    IfOk-weaker c.later_schemes_fault.result (λ f. f ≡ or_else (scheme_kids c.args.names.now ds) (scheme_text ds)) (IsSchemesFault ds)
    (λ f is. found_later ds c.args.names.now c.in_ok-fault.field-0 f c.requires.names c.in_ok-fault.ensures c.in-None.is is) c.later_schemes_fault.ensures
