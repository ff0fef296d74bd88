use Rattle.std.specs.Prelude.{◌≡◌, ◌≤◌, length}
use Rattle.std.proofs.Common.{sym, ap, ◌∙◌, arith, false}
use Rattle.sg_kinds.specs.Terms.{Node, NoTerm, AndTerm, kids_of}
use Rattle.sg_kinds.specs.TermView.{term_of_node}
use Rattle.sg_edits.specs.Edits.{joined}
use Rattle.sg_edits.proofs.Clipped.{joined_first, joined_other, joined_short}
use Rattle.sg_edits.proofs.pasting.+joined.Goals as goal
use Rattle.sg_edits.proofs.pasting.+joined.Goals.{then-len-lt2-via-then-len-lt2, then-len-lt2-via-else-len-lt2+then-not-is_list_operator}

pub returns-then-len-lt2 : goal.returns-then-len-lt2
returns-then-len-lt2 t c =
    let spec = c.args.spec.now in
    let rest = c.args.rest in
    let ks = c.in-Node.kids.items in
    let whole : c.args.list.now ≡ Node c.in-Node.op c.in-Node.field-1 c.in-Node.field-2 (kids_of ks) = sym c.list.view_is ∙ ap term_of_node c.in-Node.is in
    sym (ap (λ l. joined spec l rest) whole ∙ elim c.then-len-lt2.branch [
      | then-len-lt2-via-then-len-lt2 w ↦ (let few : length ks ≤ 1 = omega (arith, c.len.ensures, w.if-len-lt2.true) in joined_short spec c.in-Node.op c.in-Node.field-1 c.in-Node.field-2 ks rest few)
      | then-len-lt2-via-else-len-lt2+then-not-is_list_operator w ↦ joined_other spec c.in-Node.op c.in-Node.field-1 c.in-Node.field-2 ks rest (sym w.is_list_operator.ensures ∙ w.if-not-is_list_operator.true)
    ])

pub returns-in_ok-pair-in-Node : goal.returns-in_ok-pair-in-Node
returns-in_ok-pair-in-Node t c =
    let spec = c.args.spec.now in
    let rest = c.args.rest in
    let ks = c.in-Node.kids.items in
    let whole : c.args.list.now ≡ Node c.in-Node.op c.in-Node.field-1 c.in-Node.field-2 (kids_of ks) = sym c.list.view_is ∙ ap term_of_node c.in-Node.is in
    let long : 2 ≤ length ks = omega (arith, c.len.ensures, c.if-len-lt2.false) in
    let first = c.in_ok-first-in-Node.ensures ∙ c.index-in-Node.ensures in
    let more = c.in_ok-rest-in-Node.ensures ∙ ap (λ y. joined spec y rest) c.index.ensures in
    c.in_ok-pair-in-Node.ensures ∙ (λ i. Node c.in-Node.op 0 false (AndTerm (first i) (AndTerm (more i) NoTerm)))
    ∙ joined_first spec c.in-Node.op c.in-Node.field-1 c.in-Node.field-2 ks rest c.index-in-Node.result.now c.index.result.now long (sym c.is_list_operator.ensures ∙ c.if-not-is_list_operator.false)
    ∙ ap (λ l. joined spec l rest) (sym whole)
