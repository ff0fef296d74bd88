use Rattle.std.proofs.Common.{◌≡◌, subst, arith}
use Rattle.sg_kinds.specs.Fits.{Fits}
use Rattle.sg_kinds.specs.Places.{place_of}
use Rattle.sg_printing.proofs.Along.{at_holds, at_live}
use Rattle.sg_report.proofs.Own.{no_count, no_text, own_count, own_text}
use Rattle.sg_report.proofs.lines.write_own.Goals as goal

pub phylum_number-p-requires : goal.phylum_number-p-requires
phylum_number-p-requires c = let r = c.requires.at in at_live c.args.terms.now c.facts.ensures r.0 c.args.n r.1 _ r.2 r.3

pub write_value-requires : goal.write_value-requires
write_value-requires c = let r = c.requires.at in (r.0, r.1, place_of c.args.path.now, r.2, r.3)

pub returns : goal.returns
returns c =
    let g = c.args.terms.now in
    let same : c.phylum_number-p.result ≡ c.args.a.now.phylum = omega arith in
    record {
      text = λ root t x at.
          let fits = subst (Fits g.spec x) same (c.phylum_number-p.ensures x (at_holds g c.facts.ensures root c.args.n t _ x at)) in
          own_text g c.facts.ensures root c.args.n t x c.args.path.now at c.args.a.now fits c.args.out.now.items _ _ _ _
          c.in_ok-write_path.ensures c.in_ok-push.ensures.items
          (c.in_ok-write_value.ensures root t (place_of c.args.path.now) x at c.args.a.now.phylum fits c.requires.slot) c.in_ok-push-2.ensures.items;
      count = λ root t x at.
          let fits = subst (Fits g.spec x) same (c.phylum_number-p.ensures x (at_holds g c.facts.ensures root c.args.n t _ x at)) in
          own_count g c.facts.ensures root c.args.n t x c.args.path.now at c.args.a.now fits;
    }

pub returns-then-p-a : goal.returns-then-p-a
returns-then-p-a c =
    let g = c.args.terms.now in
    let other : c.phylum_number-p.result ≡ c.args.a.now.phylum → ⊥ = λ same. omega arith in
    record {
      text = λ root t x at.
          no_text g c.facts.ensures root c.args.n t x c.args.path.now at c.args.a.now c.phylum_number-p.result (c.phylum_number-p.ensures x (at_holds g c.facts.ensures root c.args.n t _ x at)) other c.args.out.now.items;
      count = λ root t x at.
          no_count g c.facts.ensures root c.args.n t x c.args.path.now at c.args.a.now c.phylum_number-p.result (c.phylum_number-p.ensures x (at_holds g c.facts.ensures root c.args.n t _ x at)) other;
    }
