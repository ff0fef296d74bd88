use Rattle.std.proofs.Common.{◌≡◌, sym, ap, ◌∙◌, subst}
use Rattle.sg_kinds.specs.Fits.{Fits}
use Rattle.sg_kinds.specs.Plain.{plain}
use Rattle.sg_kinds.specs.Terms.{Term}
use Rattle.sg_kinds.specs.Values.{Value}
use Rattle.sg_load.specs.Loaded.{Contents}
use Rattle.sg_report.specs.Found.{and_then, limited, value_read}
use Rattle.sg_report.proofs.Reading.{as_told, refused_exit, wanted, ok_same}
use Rattle.sg_report.proofs.found.term_of.Goals as goal

pub returns-in_err-v-clause-told : goal.returns-in_err-v-clause-told
returns-in_err-v-clause-told c = λ reads opens read saved.
    let spec = c.args.loaded.now.spec in
    refused_exit c.from_residual.result c.in_err-v.field-0.0 c.from_residual.ensures.1 (value_read spec reads opens c.args.file.now) (λ (v : Value). limited (plain spec v spec.root)) (c.in_err-v.ensures.told reads opens read saved)

pub returns-in_err-t-clause-told : goal.returns-in_err-t-clause-told
returns-in_err-t-clause-told c = λ reads opens read saved. wanted c.from_residual-in_err-t.result c.from_residual-in_err-t.ensures.1 _

pub returns : goal.returns
returns c =
    let spec = c.args.loaded.now.spec in
    let v = c.in_ok-v.v in
    let is : c.in_ok-t.t ≡ plain spec v spec.root = subst (λ (l : Contents). c.in_ok-t.t ≡ plain l.spec v l.spec.root) c.loaded.view_is c.in_ok-t.ensures in
    record {
      told = λ reads opens read saved.
          as_told c.limited.result _ (c.limited.ensures.is ∙ ap limited is
          ∙ ap (and_then (λ (w : Value). limited (plain spec w spec.root))) (c.in_ok-v.ensures.told reads opens read saved));
      fits = ok_same c.limited.result c.in_ok-t.t (λ (x : Term). Fits spec x spec.root) c.limited.ensures.same (subst (λ (x : Term). Fits spec x spec.root) (sym is) c.in_ok-v.ensures.fits);
      small = c.limited.ensures.small;
    }
