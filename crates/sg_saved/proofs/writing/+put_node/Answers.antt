use Rattle.std.proofs.Common.{◌∙◌, ◌++◌, ◌∷◌, [], refl, sym, ap, arith, append-nil, inl, inr, map}
use Rattle.std.proofs.lemmas.List.{take_all}
use Rattle.sg_kinds.specs.ValueOf.{value_of}
use Rattle.sg_saved_form.specs.Files.{comma}
use Rattle.sg_saved.specs.Spelling.{spelled, operator_name}
use Rattle.sg_build.proofs.Told.{the_term, kids_in, told, kid_told, opened}
use Rattle.sg_saved.proofs.Written.{spelled_values}
use Rattle.sg_saved.proofs.HeldWritten.{put-kid, node-written, leaf-written}
use Rattle.sg_saved.proofs.writing.+put_node.Goals as goal
use Rattle.sg_saved.proofs.writing.+put_node.Goals.{then-k-gt0+in_ok-push-2, else-k-gt0}

pub kid_count-count-requires : goal.kid_count-count-requires
kid_count-count-requires t c = (opened c.args.terms.now c.facts.ensures c.args.n c.in-Some.op (sym c.op.ensures.op ∙ c.in-Some.is)).within

pub kid-requires-clause-place : goal.kid-requires-clause-place
kid-requires-clause-place t c = λ x found.
    let arity = (opened c.args.terms.now c.facts.ensures c.args.n c.in-Some.op (sym c.op.ensures.op ∙ c.in-Some.is)).arity x found in
    let count = c.kid_count-count.ensures in
    let low = c.loop-k-test.true in
    omega (arith, arity, count, low)

pub loop-k-preserved : goal.loop-k-preserved
loop-k-preserved t c =
    let g = c.args.terms.now in
    let s = the_term g c.kid.result in
    let at = kid_told g c.facts.ensures c.args.n c.kid.result c.loop-k.k c.requires c.kid.ensures.child in
    let child = c.kid.ensures.child in
    let wrote = c.in_ok-put_node.ensures s (told g c.facts.ensures c.kid.result (record { node = child.node; found = child.found })) in
    let more = put-kid g.spec c.push.new.self.items c.loop-k.out.items (kids_in (the_term g c.args.n)) c.loop-k.k s at c.loop-k.invariant in
    elim c.if-k-gt0.branch [
      | then-k-gt0+in_ok-push-2 w ↦ wrote ∙ ap (λ o. o.items ++ spelled g.spec (value_of s)) w.out-is ∙ ap (λ x. x ++ spelled g.spec (value_of s)) w.in_ok-push-2.ensures.items ∙ more (comma ∷ []) (inr (w.if-k-gt0.true, refl))
      | else-k-gt0 w ↦ wrote ∙ ap (λ o. o.items ++ spelled g.spec (value_of s)) w.out-is ∙ ap (λ x. x ++ spelled g.spec (value_of s)) (sym (append-nil c.loop-k.out.items)) ∙ more [] (inl (omega (arith, w.if-k-gt0.false), refl))
    ]

pub returns : goal.returns
returns t c = λ whole h.
    let g = c.args.terms.now in
    let op = c.in-Some.op in
    let is = sym c.op.ensures.op ∙ c.in-Some.is in
    let count = (opened g c.facts.ensures c.args.n op is).count in
    let kids = c.kid_count-count.ensures in
    let all = c.loop-k-test.false in
    let full = take_all c.loop-k.k (kids_in (the_term g c.args.n)) (omega (arith, count, kids, all)) in
    let name = c.in_ok-extend_from_slice.ensures.items ∙ ap (λ x. c.args.out.now.items ++ x) (c.operator_name.ensures ∙ ap (λ spec. operator_name spec.ops op) c.spec.ensures) in
    node-written g c.facts.ensures c.args.n op is whole h c.args.out.now.items _ _ _ _ name c.in_ok-push.ensures.items (c.loop-k.invariant ∙ ap (λ ts. c.push.new.self.items ++ spelled_values g.spec (map value_of ts)) full) c.in_ok-push-3.ensures.items

pub returns-in_default : goal.returns-in_default
returns-in_default t c =
    leaf-written c.args.terms.now c.facts.ensures c.args.n c.requires (sym c.op.ensures.op ∙ c.in_default.is) c.args.out.now.items c.put_leaf.new.out.items c.put_leaf.result c.put_leaf.ensures
