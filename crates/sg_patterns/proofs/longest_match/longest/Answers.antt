use Rattle.std.proofs.Common.{◌≡◌, [], sym, subst, refl, ◌∙◌}
use Rattle.sg_patterns.specs.Programs.{ArePrograms, AreOrdered}
use Rattle.sg_patterns.specs.Spent.{HaveFailures}
use Rattle.sg_patterns.proofs.Answering.{programs-ordered, no-terminals}
use Rattle.sg_patterns.proofs.longest_match.longest.Goals as goal

pub longest_among-requires-clause-ordered : goal.longest_among-requires-clause-ordered
longest_among-requires-clause-ordered c = subst AreOrdered (sym c.as_slice-3.ensures.value) (programs-ordered _ c.args.all.now c.in_ok-programs.ensures)

pub longest_among-requires-clause-known : goal.longest_among-requires-clause-known
longest_among-requires-clause-known c =
    let same : c.as_slice-2.result.now ≡ c.as_slice-3.result.now = c.as_slice-2.ensures.value ∙ sym c.as_slice-3.ensures.value in
    subst (λ xs. HaveFailures c.as_slice-3.result.now c.args.text.now xs) (sym c.deref_mut-3.ensures.value) (subst (λ ps. HaveFailures ps c.args.text.now c.in_ok-failures.failures.items) same (c.in_ok-failures.ensures c.args.text.now))

pub returns : goal.returns
returns c = c.longest_among.ensures.longest [] c.args.all.now refl (subst (λ ps. ArePrograms ps c.args.all.now) (sym c.as_slice-3.ensures.value) c.in_ok-programs.ensures) (no-terminals c.args.text.now c.args.at)
