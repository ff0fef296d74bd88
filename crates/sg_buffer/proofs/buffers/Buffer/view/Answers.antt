use Rattle.std.proofs.Common.{ap, sym, ◌∙◌}
use Rattle.std.proofs.lemmas.Result.{err_from_is_err_and}
use Rattle.sg_groves.specs.Grove.{Grove}
use Rattle.sg_changes.specs.declared.spot.Selection.{Selection}
use Rattle.sg_buffer.proofs.Methods.{held}
use Rattle.sg_buffer.proofs.Viewing.{kept_here, same_grove, viewed_here}
use Rattle.sg_buffer.proofs.buffers.Buffer.view.Goals as goal

pub invariant_of-self : goal.invariant_of-self
invariant_of-self c = (
  (same_grove (held c.self.inside) c.args.self.now c.self.view_is c.self.inside.nodes c.self.inside.history.room c.self.inside.page c.self.inside.standing c.self.invariant.0
      c.look_in.new.terms c.in_err-there.ensures.err).0,
  c.self.invariant.1 ∙ sym (ap (λ (g : Grove). g.spec) c.in_err-there.ensures.err),
)

pub returns-in_err-there-clause-err : goal.returns-in_err-there-clause-err
returns-in_err-there-clause-err c =
    let p = err_from_is_err_and c.from_residual-in_err-there.result c.from_residual-in_err-there.ensures.1 in
    rw p.1
    (same_grove (held c.self.inside) c.args.self.now c.self.view_is c.self.inside.nodes c.self.inside.history.room c.self.inside.page c.self.inside.standing c.self.invariant.0
    c.look_in.new.terms c.in_err-there.ensures.err).1

pub invariant_of-self-2 : goal.invariant_of-self-2
invariant_of-self-2 c =
    let e = c.in_ok-there.ensures in (
      (viewed_here (held c.self.inside) c.args.self.now c.self.view_is c.self.inside.nodes c.self.inside.history.room c.self.inside.page c.self.inside.standing c.self.invariant.0
          c.args.v c.look_in.new.terms e.shown c.requires _ (ap (λ p. let r : Selection = record { path = p; count = c.self.inside.count } in r) c.in_ok-path.ensures) c.in_ok-there.there e.look).0,
      c.self.invariant.1 ∙ sym (ap (λ (g : Grove). g.spec) e.shown),
    )

pub returns-clause-state : goal.returns-clause-state
returns-clause-state c =
    let e = c.in_ok-there.ensures in
    (viewed_here (held c.self.inside) c.args.self.now c.self.view_is c.self.inside.nodes c.self.inside.history.room c.self.inside.page c.self.inside.standing c.self.invariant.0
    c.args.v c.look_in.new.terms e.shown c.requires _ (ap (λ p. let r : Selection = record { path = p; count = c.self.inside.count } in r) c.in_ok-path.ensures) c.in_ok-there.there e.look).1

pub returns-clause-kept : goal.returns-clause-kept
returns-clause-kept c =
    kept_here (held c.self.inside) c.args.self.now c.self.view_is c.self.inside.nodes c.self.inside.history.room c.self.inside.page c.self.inside.standing c.self.invariant.0
    c.args.v c.look_in.new.terms c.in_ok-there.ensures.shown c.in_ok-there.there
