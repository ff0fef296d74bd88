use Rattle.std.proofs.Common.{◌≡◌, ◌∙◌, ap, subst}
use Rattle.std.proofs.lemmas.Result.{IfOk-weaker}
use Rattle.sg_ast.specs.View.{trees_of}
use Rattle.sg_witnesses.specs.Samples.{IsSampled, TellsConflict, conflict_lines}
use Rattle.sg_witnesses.proofs.Sampled.{tells_conflict}
use Rattle.sg_witnesses.proofs.samples.conflict.Goals as goal

pub returns : goal.returns
returns c =
    let bytes = c.args.bytes.now in
    let f = c.args.fault.now in
    let found = c.args.found.now in
    let spec = c.in_ok-decls.spec in
    let Xs = c.in_ok-string.string.items in
    let sampled = subst (λ ds. IsSampled (trees_of ds) spec f Xs) c.deref.ensures.value c.in_ok-string.ensures in
    IfOk-weaker c.lines.result (λ v. v.items ≡ conflict_lines spec c.deref-2.result.now found) (λ v. TellsConflict bytes f found v.items)
    (λ v is.
    tells_conflict bytes f found v.items (trees_of c.in_ok-decls.decls.items) spec Xs c.in_ok-decls.ensures.trees c.in_ok-decls.ensures.the sampled
    (is ∙ ap (λ Ys. conflict_lines spec Ys found) c.deref-2.ensures.value)) c.lines.ensures
