use Rattle.std.proofs.Common.{◌≡◌, ◌+◌, ◌-◌, ◌<◌, length, refl, sym, ap, ◌∙◌, subst, arith, IfOk, Contains, []}
use Rattle.sg_kinds.specs.Fits.{Fits}
use Rattle.sg_kinds.specs.Instances.{instances}
use Rattle.sg_kinds.specs.Specification.{attrs_of, rules_of}
use Rattle.sg_kinds.specs.declared.spec.Spec.{Spec}
use Rattle.sg_eval.specs.Journal.{now_of}
use Rattle.sg_terms.specs.Entries.{GainedAll}
use Rattle.sg_exchanges.specs.Noted.{Noted}
use Rattle.sg_load.specs.Loaded.{Contents}
use Rattle.sg_printing.specs.At.{IsAt}
use Rattle.sg_report.specs.Lines.{equations, report_on}
use Rattle.sg_report.specs.declared.answers.Report.{Report}
use Rattle.sg_report.proofs.Counted.{each_rose, some_rose}
use Rattle.sg_report.proofs.Reading.{ok_same, on_ok}
use Rattle.sg_report.proofs.reports.told.Goals as goal

pub returns-in_err-fresh-clause-least : goal.returns-in_err-fresh-clause-least
returns-in_err-fresh-clause-least c =
    let was = now_of c.args.journal.now in
    let now = now_of c.begin.new.journal in
    (some_rose c.args.loaded.now.spec c.args.t.now was now (subst (λ (l : Contents). Noted l.spec c.args.t.now (Contains (instances (rules_of l.spec) c.args.t.now)) was now) c.loaded.view_is c.in_err-fresh.ensures.noted)).0

pub returns-in_err-fresh-clause-most : goal.returns-in_err-fresh-clause-most
returns-in_err-fresh-clause-most c =
    let was = now_of c.args.journal.now in
    let now = now_of c.begin.new.journal in
    (some_rose c.args.loaded.now.spec c.args.t.now was now (subst (λ (l : Contents). Noted l.spec c.args.t.now (Contains (instances (rules_of l.spec) c.args.t.now)) was now) c.loaded.view_is c.in_err-fresh.ensures.noted)).1

pub overflow_sub-evaluated : goal.overflow_sub-evaluated
overflow_sub-evaluated c =
    let f = c.in_ok-fresh.fresh in
    let was = now_of c.args.journal.now in
    let now = now_of c.begin.new.journal in
    let all = subst (λ (l : Contents). GainedAll f.terms f.root c.args.t.now (Contains (instances (rules_of l.spec) c.args.t.now)) was now) c.loaded.view_is c.in_ok-fresh.ensures.evaluated in
    let rose = each_rose c.args.loaded.now.spec c.args.t.now was now f.terms f.root all in
    let before = ap length c.now-before.ensures in
    let after = ap length c.now.ensures in
    omega (arith, rose, before, after)

pub report_on-requires : goal.report_on-requires
report_on-requires c =
    let e = c.in_ok-fresh.ensures in
    let same = e.spec ∙ ap (λ (l : Contents). l.spec) c.loaded.view_is in
    record {
      at = (c.args.t.now, record { whole = e.whole; fits = subst (λ (s : Spec). Fits s c.args.t.now s.root) (sym same) c.requires.fits; part = refl; way = refl });
      slot = subst (λ (s : Spec). c.args.a.now.slot < length (attrs_of s.phyla c.args.a.now.phylum)) (sym same) c.requires.slot;
    }

pub returns : goal.returns
returns c =
    let e = c.in_ok-fresh.ensures in
    let f = c.in_ok-fresh.fresh in
    let spec = c.args.loaded.now.spec in
    let t = c.args.t.now in
    let a = c.args.a.now in
    let was = now_of c.args.journal.now in
    let now = now_of c.begin.new.journal in
    let same = e.spec ∙ ap (λ (l : Contents). l.spec) c.loaded.view_is in
    let all = subst (λ (l : Contents). GainedAll f.terms f.root t (Contains (instances (rules_of l.spec) t)) was now) c.loaded.view_is e.evaluated in
    let rose : length now ≡ length was + equations spec t = each_rose spec t was now f.terms f.root all in
    let before = ap length c.now-before.ensures in
    let after = ap length c.now.ensures in
    let many = ap (λ (s : Spec). equations s t) same in
    let evaluated : length c.now.result.now - length c.now-before.result.now ≡ equations f.terms.spec t = omega (arith, rose, before, after, many) in
    let at : IsAt f.terms f.root f.root t [] t = record { whole = e.whole; fits = subst (λ (s : Spec). Fits s t s.root) (sym same) c.requires.fits; part = refl; way = refl } in
    let told = subst (λ (s : Spec). IfOk c.report_on.result (λ r. r ≡ report_on s t a)) same (c.report_on.ensures t at c.requires.small evaluated) in
    record {
      told = told;
      noted = on_ok c.report_on.result (record { grove = f.terms; is = e.grove; same = same; root = f.root; holds = e.whole.holds; all = all });
      evaluated = ok_same c.report_on.result (report_on spec t a) (λ (r : Report). length now ≡ length was + r.evaluated) told rose;
      least = omega (arith, rose);
      most = omega (arith, rose);
      total = e.total;
    }
