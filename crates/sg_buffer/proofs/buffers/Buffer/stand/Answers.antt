use Rattle.std.proofs.Common.{◌∙◌}
use Rattle.sg_buffer.proofs.Methods.{held, live_of, stood_here}
use Rattle.sg_buffer.proofs.buffers.Buffer.stand.Goals as goal

pub invariant_of-self : goal.invariant_of-self
invariant_of-self c =
    ((stood_here (held c.self.inside) c.args.self.now (c.self.view_is ∙ c.in_ok-page.ensures.same) c.self.inside.nodes c.self.inside.history.room c.self.inside.page c.self.inside.standing c.self.invariant.0 c.in_ok-page.page c.in_ok-page.ensures.page (record { way = c.in_ok-way.way; begins = c.begins_here-begins.result }) c.args.n c.top_at-self-inside.result c.in_ok-way.ensures c.requires.node c.requires.none c.requires.rests c.top_at-self-inside.ensures c.begins_here-begins.ensures).0, c.self.invariant.1)

pub returns-clause-state : goal.returns-clause-state
returns-clause-state c =
    (stood_here (held c.self.inside) c.args.self.now (c.self.view_is ∙ c.in_ok-page.ensures.same) c.self.inside.nodes c.self.inside.history.room c.self.inside.page c.self.inside.standing c.self.invariant.0 c.in_ok-page.page c.in_ok-page.ensures.page (record { way = c.in_ok-way.way; begins = c.begins_here-begins.result }) c.args.n c.top_at-self-inside.result c.in_ok-way.ensures c.requires.node c.requires.none c.requires.rests c.top_at-self-inside.ensures c.begins_here-begins.ensures).1

pub path_of-requires : goal.path_of-requires
path_of-requires c = live_of (held c.self.inside) c.args.self.now (c.self.view_is ∙ c.in_ok-page.ensures.same) c.self.inside.nodes c.self.inside.history.room c.self.inside.page c.self.inside.standing c.self.invariant.0 c.args.n c.requires.node
