use Rattle.sg_states.proofs.Looking.{top_seen}
use Rattle.sg_states.proofs.looks.top_at.Goals as goal

pub returns : goal.returns
returns c = λ root t u whole way paged.
    top_seen c.args.terms.now c.facts.ensures root t whole c.args.height c.line_on.result c.args.top c.topped.result u c.args.n c.args.page.now way paged c.line_on.ensures c.topped.ensures
