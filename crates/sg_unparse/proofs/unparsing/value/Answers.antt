use Rattle.std.proofs.Common.{◌≡◌, sym, ap, ◌∙◌, subst}
use Rattle.std.specs.Prelude.{ℕ, Bool, true, false, if◌then◌else◌, List, slice_get, unwrap_or, Some, codes}
use Rattle.sg_kinds.specs.Evaluation.{untyped}
use Rattle.sg_kinds.specs.Values.{Truth, Number}
use Rattle.sg_kinds.specs.declared.spec.Spec.{Spec}
use Rattle.sg_pool.specs.Pools.{value_at, tree_over}
use Rattle.sg_pool.specs.PoolEntries.{entry_value}
use Rattle.sg_unparse.specs.Cells.{plain}
use Rattle.sg_unparse.specs.Printing.{value_text}
use Rattle.sg_unparse.specs.Written.{Wrote}
use Rattle.sg_unparse.proofs.Writing.{on_ok, wrote_nothing}
use Rattle.sg_unparse.proofs.unparsing.value.Goals as goal

-- a truth value as it is shown
truth_told : (spec : Spec) (p : ℕ) (b : Bool) (P : List ℕ → Type 0) → P (if b then codes "true" else codes "false") → P (value_text spec p (Truth b))
truth_told spec p true P h = h
truth_told spec p false P h = h

pub returns-in-Bool : goal.returns-in-Bool
returns-in-Bool c =
    let g = c.args.shown.now.terms.now in
    let v : value_at g.pool c.args.id ≡ Truth c.in-Bool.b =
    ap (λ w. unwrap_or w untyped) (ap (λ pool. slice_get pool c.args.id) (sym c.pool.ensures) ∙ c.entry.ensures.value ∙ ap (λ e. Some (entry_value c.pool.result.now e)) c.in-Bool.is) in
    on_ok c.truth.result _ _ (λ f at u is. subst (λ x. Wrote at c.args.w.now c.truth.new.w (plain u (value_text g.spec c.args.p x))) (sym v) (truth_told g.spec c.args.p c.in-Bool.b (λ b. Wrote at c.args.w.now c.truth.new.w (plain u b)) (f at u is))) c.truth.ensures

pub returns-in-Int : goal.returns-in-Int
returns-in-Int c =
    let g = c.args.shown.now.terms.now in
    let v : value_at g.pool c.args.id ≡ Number c.in-Int.n =
    ap (λ w. unwrap_or w untyped) (ap (λ pool. slice_get pool c.args.id) (sym c.pool.ensures) ∙ c.entry.ensures.value ∙ ap (λ e. Some (entry_value c.pool.result.now e)) c.in-Int.is) in
    on_ok c.number.result _ _ (λ f at u is. subst (λ x. Wrote at c.args.w.now c.number.new.w (plain u (value_text g.spec c.args.p x))) (sym v) (f at u is)) c.number.ensures

pub returns-in-Tree : goal.returns-in-Tree
returns-in-Tree c = λ at u is.
    let g = c.args.shown.now.terms.now in
    let v : value_at g.pool c.args.id ≡ tree_over c.pool.result.now c.in-Tree.field-0 c.in-Tree.field-1 =
    ap (λ w. unwrap_or w untyped) (ap (λ pool. slice_get pool c.args.id) (sym c.pool.ensures) ∙ c.entry.ensures.value ∙ ap (λ e. Some (entry_value c.pool.result.now e)) c.in-Tree.is) in
    subst (λ x. Wrote at c.args.w.now c.args.w.now (plain u (value_text g.spec c.args.p x))) (sym v) (wrote_nothing at c.args.w.now)
