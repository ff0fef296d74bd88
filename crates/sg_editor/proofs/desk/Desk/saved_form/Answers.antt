use Rattle.std.specs.Prelude.{◌≡◌, Ok}
use Rattle.std.proofs.Common.{sym, ap, ◌∙◌, subst}
use Rattle.sg_kinds.specs.ValueOf.{value_of}
use Rattle.sg_kinds.specs.Values.{Bytes}
use Rattle.sg_kinds.specs.declared.spec.Spec.{Spec}
use Rattle.sg_forest.specs.declared.node_id.NodeId.{NodeId}
use Rattle.sg_groves.specs.Grove.{Grove}
use Rattle.sg_groves.specs.Holds.{Holds}
use Rattle.sg_saved.specs.Spelling.{saved}
use Rattle.sg_states.specs.States.{State}
use Rattle.sg_buffer.specs.Held.{state_of}
use Rattle.sg_editor.proofs.Resting.{buffer_rests}
use Rattle.sg_editor.proofs.Stays.{over_current}
use Rattle.sg_editor.proofs.desk.Desk.saved_form.Goals as goal

pub returns-in-Err : goal.returns-in-Err
returns-in-Err c = c.in-Err.ensures.err (λ (st : State). Ok (saved c.args.base.now.contents.spec (value_of st.term)))

pub returns : goal.returns
returns c =
    let spec = c.args.base.now.contents.spec in
    let b = c.in-Ok.named.now in
    let t = (state_of b.buffer).term in
    let over = over_current spec c.args.base.now.height c.args.self.now c.requires b c.in-Ok.ensures.ok.0 in
    let holds : Holds c.terms.result.now c.root.result t =
    subst (λ (g : Grove). Holds g c.root.result t) (sym c.terms.ensures) (subst (λ (n : NodeId). Holds b.buffer.grove n t) (sym c.root.ensures) c.facts.ensures.whole.holds) in
    let bytes : c.in_ok-bytes.bytes.items ≡ saved spec (value_of t) =
    c.in_ok-bytes.ensures t holds ∙ ap (λ (g : Grove). saved g.spec (value_of t)) c.terms.ensures ∙ ap (λ (sp : Spec). saved sp (value_of t)) over.spec_is in
    buffer_rests c.args.self.now (λ (st : State). Ok (saved spec (value_of st.term))) b c.in-Ok.ensures.ok.0 c.in-Ok.ensures.ok.1
    ∙ ap (λ (x : Bytes). Ok x) (sym bytes)
