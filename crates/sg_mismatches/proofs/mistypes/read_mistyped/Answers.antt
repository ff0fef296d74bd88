use Rattle.std.proofs.Common.{◌≡◌}
use Rattle.std.specs.Prelude.{flat_map}
use Rattle.std.proofs.lemmas.Result.{IfOk-weaker}
use Rattle.sg_ast.specs.View.{trees_of}
use Rattle.sg_mistyped.specs.Mistyped.{mistypes}
use Rattle.sg_mismatches.specs.Mistypes.{mistyped_text, text_mistypes}
use Rattle.sg_mismatches.proofs.Lines.{all_told}
use Rattle.sg_mismatches.proofs.mistypes.read_mistyped.Goals as goal

pub returns : goal.returns
returns c =
    let bytes = c.args.bytes.now in
    let ts = c.args.tokens.now in
    let ds = trees_of c.args.decls.now in
    let t = c.in_ok-names.names in
    IfOk-weaker c.declared.result (λ v. v.items ≡ flat_map (mistyped_text bytes ts t.phyla) (mistypes t ds)) (λ v. v.items ≡ text_mistypes bytes)
    (λ v is. all_told bytes ts ds t v.items c.requires.tokens c.requires.trees c.in_ok-names.ensures is) c.declared.ensures
