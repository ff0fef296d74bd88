use Rattle.std.proofs.Common.{◌∙◌, ◌++◌, ◌∷◌, [], refl, sym, ap, arith, append-nil, inl, inr}
use Rattle.sg_saved_form.specs.Files.{comma}
use Rattle.sg_saved.specs.Spelling.{spelled}
use Rattle.sg_saved.proofs.Written.{put-more}
use Rattle.sg_saved.proofs.spelling.+spell.Goals as goal
use Rattle.sg_saved.proofs.spelling.+spell.Goals.{put_values-then-i-gt0+in_ok-push, put_values-else-i-gt0}

pub put_values-loop-i-preserved : goal.put_values-loop-i-preserved
put_values-loop-i-preserved t c =
    let spec = c.args.spec.now in
    let v = c.index-values-i.result in
    let more = put-more spec c.args.out.now.items c.loop-i.out.items in
    elim c.if-i-gt0.branch [
      | put_values-then-i-gt0+in_ok-push w ↦ c.in_ok-put_value.ensures ∙ ap (λ o. o.items ++ spelled spec v) w.out-is ∙ ap (λ x. x ++ spelled spec v) w.in_ok-push.ensures.items
          ∙ more (comma ∷ []) c.args.values.now c.loop-i.i v c.loop-i-test.true c.index-values-i.is c.loop-i.invariant (inr (w.if-i-gt0.true, refl))
      | put_values-else-i-gt0 w ↦ c.in_ok-put_value.ensures ∙ ap (λ o. o.items ++ spelled spec v) w.out-is ∙ ap (λ x. x ++ spelled spec v) (sym (append-nil c.loop-i.out.items))
          ∙ more [] c.args.values.now c.loop-i.i v c.loop-i-test.true c.index-values-i.is c.loop-i.invariant (inl (omega (arith, w.if-i-gt0.false), refl))
    ]
