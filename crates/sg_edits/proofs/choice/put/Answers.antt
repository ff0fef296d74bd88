use Rattle.std.proofs.Common.{◌≡◌, ◌∙◌, ap, sym}
use Rattle.std.proofs.lemmas.Bool.{eqb-true}
use Rattle.sg_forest.proofs.Paths.{same_id}
use Rattle.sg_kinds.specs.Places.{place_of}
use Rattle.sg_edits.specs.Choice.{Put}
use Rattle.sg_edits.proofs.choice.put.Goals as goal
use Rattle.sg_edits.proofs.choice.put.Goals.{then-eq+in_ok-path, else-eq+in_ok-path-2}

pub returns : goal.returns
returns c = λ root t u v at select.
    let way : place_of c.if-eq.path ≡ v = elim c.if-eq.branch [
      | then-eq+in_ok-path w ↦
          let same = same_id c.args.at c.args.select (eqb-true _ _ (sym c.eq.ensures ∙ w.if-eq.true)) in
          ap place_of (w.path-is ∙ w.in_ok-path.ensures) ∙ c.in_ok-place.ensures root t v (rw same select)
      | else-eq+in_ok-path-2 w ↦ ap place_of w.path-is ∙ w.in_ok-path-2.ensures root t v select
    ] in
    ap (λ p. Put p c.args.term (record { place = place_of c.in_ok-select.select; count = c.args.count })) (c.in_ok-place.ensures root t u at)
    ∙ ap (λ p. Put u c.args.term (record { place = p; count = c.args.count })) (cc (way, c.in_ok-select.ensures))
