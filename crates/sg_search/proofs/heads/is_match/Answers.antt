use Rattle.std.proofs.Common.{sym, ap, ◌∙◌}
use Rattle.std.specs.Prelude.{slice_get}
use Rattle.sg_search.proofs.Headed.{other_silent}
use Rattle.sg_search.proofs.heads.is_match.Goals as goal

pub returns-then-is_other : goal.returns-then-is_other
returns-then-is_other c = λ name t is holds.
    let other = c.is_other.ensures c.if-is_other.true t holds in
    sym (other_silent c.args.terms.now.spec name t other.0 c.args.sought.now.heads.items is.heads other.1 (ap (λ l. slice_get l other.0) (sym c.deref.ensures.value) ∙ other.2))
