use Rattle.std.specs.Prelude.{Ok, Err}
use Rattle.std.proofs.Common.{refl, subst}
use Rattle.sg_kinds.specs.Places.{place_of, put}
use Rattle.sg_build.specs.Counted.{AreCounts}
use Rattle.sg_buffer.specs.Held.{state_of}
use Rattle.sg_buffer.specs.declared.fault.BufferFault.TheVariants.{Size}
use Rattle.sg_buffer.proofs.Methods.{held, way_there}
use Rattle.sg_buffer.proofs.Replacing.{counts_told, fit_here, known, nodes_told, same_size, small_told, steps_up, there_live, within}
use Rattle.sg_buffer.proofs.buffers.Buffer.replace.Goals as goal

pub counts_replaced-requires-clause-live : goal.counts_replaced-requires-clause-live
counts_replaced-requires-clause-live c =
    let path = c.args.at.now in
    let s = c.args.t.now in
    there_live (held c.self.inside) c.self.inside.nodes c.self.inside.history.room c.self.inside.page c.self.inside.standing c.self.invariant.0 path s (fit_here (held c.self.inside) c.args.self.now c.self.view_is c.self.inside.nodes c.self.inside.history.room c.self.inside.page c.self.inside.standing c.self.invariant.0 path s c.requires.fits) c.node_at-n.result c.node_at-n.ensures

pub counts_replaced-requires-clause-steps : goal.counts_replaced-requires-clause-steps
counts_replaced-requires-clause-steps c =
    let path = c.args.at.now in
    let s = c.args.t.now in
    steps_up (held c.self.inside) c.self.inside.nodes c.self.inside.history.room c.self.inside.page c.self.inside.standing c.self.invariant.0 path s (fit_here (held c.self.inside) c.args.self.now c.self.view_is c.self.inside.nodes c.self.inside.history.room c.self.inside.page c.self.inside.standing c.self.invariant.0 path s c.requires.fits) c.node_at-n.result c.node_at-n.ensures c.len.result c.len.ensures

pub node_at-n-requires-clause-near : goal.node_at-n-requires-clause-near
node_at-n-requires-clause-near c = way_there (held c.self.inside) c.self.inside.nodes c.self.inside.history.room c.self.inside.page c.self.inside.standing c.self.invariant.0

pub counts_replaced-requires-clause-known : goal.counts_replaced-requires-clause-known
counts_replaced-requires-clause-known c =
    let path = c.args.at.now in
    let s = c.args.t.now in
    known (held c.self.inside) c.self.inside.nodes c.self.inside.history.room c.self.inside.page c.self.inside.standing c.self.invariant.0 path s (fit_here (held c.self.inside) c.args.self.now c.self.view_is c.self.inside.nodes c.self.inside.history.room c.self.inside.page c.self.inside.standing c.self.invariant.0 path s c.requires.fits) c.node_at-n.result c.node_at-n.ensures

pub counts_replaced-requires-clause-within : goal.counts_replaced-requires-clause-within
counts_replaced-requires-clause-within c =
    let path = c.args.at.now in
    let s = c.args.t.now in
    within (held c.self.inside) c.self.inside.nodes c.self.inside.history.room c.self.inside.page c.self.inside.standing c.self.invariant.0 path s (fit_here (held c.self.inside) c.args.self.now c.self.view_is c.self.inside.nodes c.self.inside.history.room c.self.inside.page c.self.inside.standing c.self.invariant.0 path s c.requires.fits) c.node_at-n.result c.node_at-n.ensures

pub put_in-requires-clause-small : goal.put_in-requires-clause-small
put_in-requires-clause-small c = (small_told (held c.self.inside) c.args.self.now c.self.view_is c.self.inside.nodes c.self.inside.history.room c.self.inside.page c.self.inside.standing c.self.invariant.0 c.args.at.now c.args.t.now c.requires.fits c.node_at-n.result c.node_at-n.ensures c.counts.result (record { nodes = c.counts.ensures.nodes; depth = c.counts.ensures.depth }) (Ok c.in-Ok.nodes) c.in-Ok.ensures.small).0 refl

pub put_in-requires-clause-known : goal.put_in-requires-clause-known
put_in-requires-clause-known c = nodes_told (held c.self.inside) c.args.self.now c.self.view_is c.self.inside.nodes c.self.inside.history.room c.self.inside.page c.self.inside.standing c.self.invariant.0 c.args.at.now c.args.t.now c.requires.fits c.node_at-n.result c.node_at-n.ensures c.counts.result (record { nodes = c.counts.ensures.nodes; depth = c.counts.ensures.depth }) c.in-Ok.nodes c.in-Ok.ensures.nodes

pub returns-in_err-put_in-in-Ok-clause-large : goal.returns-in_err-put_in-in-Ok-clause-large
returns-in_err-put_in-in-Ok-clause-large c = λ big. absurd (big ((small_told (held c.self.inside) c.args.self.now c.self.view_is c.self.inside.nodes c.self.inside.history.room c.self.inside.page c.self.inside.standing c.self.invariant.0 c.args.at.now c.args.t.now c.requires.fits c.node_at-n.result c.node_at-n.ensures c.counts.result (record { nodes = c.counts.ensures.nodes; depth = c.counts.ensures.depth }) (Ok c.in-Ok.nodes) c.in-Ok.ensures.small).0 refl))

pub returns-in_ok-put_in-in-Ok-clause-large : goal.returns-in_ok-put_in-in-Ok-clause-large
returns-in_ok-put_in-in-Ok-clause-large c = λ big. absurd (big ((small_told (held c.self.inside) c.args.self.now c.self.view_is c.self.inside.nodes c.self.inside.history.room c.self.inside.page c.self.inside.standing c.self.invariant.0 c.args.at.now c.args.t.now c.requires.fits c.node_at-n.result c.node_at-n.ensures c.counts.result (record { nodes = c.counts.ensures.nodes; depth = c.counts.ensures.depth }) (Ok c.in-Ok.nodes) c.in-Ok.ensures.small).0 refl))

pub returns-in-Err-clause-size : goal.returns-in-Err-clause-size
returns-in-Err-clause-size c = λ d told.
    let same = same_size c.in-Err.size d (Err (Size c.in-Err.size)) refl told in (
      (λ small. absurd (cc ((small_told (held c.self.inside) c.args.self.now c.self.view_is c.self.inside.nodes c.self.inside.history.room c.self.inside.page c.self.inside.standing c.self.invariant.0 c.args.at.now c.args.t.now c.requires.fits c.node_at-n.result c.node_at-n.ensures c.counts.result (record { nodes = c.counts.ensures.nodes; depth = c.counts.ensures.depth }) (Err c.in-Err.size) c.in-Err.ensures.small).1 small))),
      subst (AreCounts (put (state_of c.args.self.now).term (place_of c.args.at.now) c.args.t.now)) same (counts_told (held c.self.inside) c.args.self.now c.self.view_is c.self.inside.nodes c.self.inside.history.room c.self.inside.page c.self.inside.standing c.self.invariant.0 c.args.at.now c.args.t.now c.requires.fits c.node_at-n.result c.node_at-n.ensures c.counts.result (record { nodes = c.counts.ensures.nodes; depth = c.counts.ensures.depth }) c.in-Err.size c.in-Err.ensures.counts),
    )
