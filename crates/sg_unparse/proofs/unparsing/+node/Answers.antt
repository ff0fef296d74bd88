use Rattle.std.proofs.Common.{◌+◌, List, ◌∷◌, sym, ap, ◌∙◌, subst, length, drop, arith}
use Rattle.std.proofs.lemmas.Bool.{MatchBool-at_true, MatchBool-at_false}
use Rattle.sg_kinds.proofs.Elementary.{slice_get-there}
use Rattle.sg_kinds.specs.Specification.{args_of}
use Rattle.sg_kinds.specs.Terms.{Node, terms_of}
use Rattle.sg_kinds.specs.declared.marks.ChildPlace.{ChildPlace}
use Rattle.sg_kinds.specs.declared.spec.Item.{Item}
use Rattle.sg_kinds.specs.declared.spec.Item.TheVariants.{Child}
use Rattle.sg_kinds.specs.declared.spec.Piece.{Piece}
use Rattle.sg_kinds.specs.declared.spec.Spec.{Spec}
use Rattle.sg_unparse.specs.Along.{node_along, items_in, kids_in, content_in}
use Rattle.sg_unparse.specs.Cells.{goes_on, pieces}
use Rattle.sg_unparse.specs.Printing.{scheme_of}
use Rattle.sg_unparse.specs.Written.{Wrote}
use Rattle.sg_groves.specs.Grove.{spec_shown}
use Rattle.sg_groves.specs.Holds.{Holds}
use Rattle.sg_kinds.specs.Sound.{IsItem}
use Rattle.std.specs.List.{All}
use Rattle.sg_unparse.proofs.Items.{left_item, left_none, found_items, scheme_written, nothing_written, child_past, child_hidden, child_shown, writes_item, shows_item, separates_shown, separates_hidden, content_elided, node_written}
use Rattle.sg_unparse.proofs.Placed.{arity_is, kids_counted, along_kid, node_of, term_op, items_sound}
use Rattle.sg_unparse.proofs.Viewed.{as_shown}
use Rattle.sg_unparse.proofs.unparsing.+node.Goals as goal

-- a child
pub write_child-kid-kid-requires-clause-place : goal.write_child-kid-kid-requires-clause-place
write_child-kid-kid-requires-clause-place t c = λ x found.
    let g = c.args.shown.now.terms.now in
    let arity = arity_is g c.facts.ensures c.args.site.now.node c.args.site.now.op c.requires.op x found in
    let count = c.requires.count in
    omega (arith, arity, count, c.if-k-site.false)

pub write_child-returns-then-k-site : goal.write_child-returns-then-k-site
write_child-returns-then-k-site t c = λ root u k elided ts is end a w.
    let g = c.args.shown.now.terms.now in
    let kids = kids_counted g c.facts.ensures c.args.site.now.node c.requires.live c.args.site.now.op k elided ts a.holds in
    let count = c.requires.count in
    child_past g root c.args.shown.now.captured c.args.shown.now.text.now u c.args.site.now.op (goes_on ts) is ts c.args.next.now c.args.w.now end c.args.place (omega (arith, kids, count, c.if-k-site.true)) w

pub write_child-returns-then-is_hidden : goal.write_child-returns-then-is_hidden
write_child-returns-then-is_hidden t c = λ root u k elided ts is end a w.
    let g = c.args.shown.now.terms.now in
    let captured = c.args.shown.now.captured in
    let text = c.args.shown.now.text.now in
    let kids = kids_counted g c.facts.ensures c.args.site.now.node c.requires.live c.args.site.now.op k elided ts a.holds in
    let count = c.requires.count in
    let s = slice_get-there (terms_of ts) c.args.next.now (omega (arith, kids, count, c.if-k-site.false)) in
    let hidden = MatchBool-at_true _ _ c.if-is_hidden.true c.is_hidden.ensures in
    subst (λ (p : ChildPlace). Wrote (node_along g root) c.args.w.now end (items_in g root captured text u c.args.site.now.op (goes_on ts) (Child p ∷ is) (drop c.args.next.now (kids_in g root captured text u ts)))) (sym hidden)
    (child_hidden g root captured text u c.args.site.now.op (goes_on ts) is ts c.args.next.now c.args.w.now end s.0 s.1 w)

pub write_child-returns : goal.write_child-returns
write_child-returns t c = λ root u k elided ts is end a w.
    let g = c.args.shown.now.terms.now in
    let kids = kids_counted g c.facts.ensures c.args.site.now.node c.requires.live c.args.site.now.op k elided ts a.holds in
    let count = c.requires.count in
    let s = slice_get-there (terms_of ts) c.args.next.now (omega (arith, kids, count, c.if-k-site.false)) in
    child_shown g root c.args.shown.now.captured c.args.shown.now.text.now u c.args.site.now.op (goes_on ts) is ts c.args.next.now c.args.w.now end c.node.new.w c.args.place s.0
    (MatchBool-at_false _ _ c.if-is_hidden.false c.is_hidden.ensures) s.1
    (c.in_ok-node.ensures root (c.args.next.now ∷ u) s.0 (record {
      along = along_kid g c.facts.ensures root u c.args.site.now.node c.kid-kid.result c.args.next.now a.along c.kid-kid.ensures.child;
      holds = c.kid-kid.ensures.term (Node c.args.site.now.op k elided ts) s.0 a.holds s.1;
    }))
    w

-- an item
pub write_item-returns-in_ok-pieces-in-Writes : goal.write_item-returns-in_ok-pieces-in-Writes
write_item-returns-in_ok-pieces-in-Writes t c = λ root u k elided ts is end a w.
    let g = c.args.shown.now.terms.now in
    let captured = c.args.shown.now.captured in
    let text = c.args.shown.now.text.now in
    subst (λ (i : Item). Wrote (node_along g root) c.args.w.now end (items_in g root captured text u c.args.site.now.op (goes_on ts) (i ∷ is) (drop c.args.next.now (kids_in g root captured text u ts)))) (sym c.in-Writes.is)
    (writes_item g root captured text u c.args.site.now.op (goes_on ts) is ts c.args.next.now c.args.w.now end c.pieces.new.self c.in-Writes.pieces
    (subst (λ (ps : List Piece). Wrote (node_along g root) c.args.w.now c.pieces.new.self (pieces u ps)) c.as_slice.ensures (c.in_ok-pieces-in-Writes.ensures (node_along g root) u a.along)) w)

pub write_item-returns-in_ok-write_child-in-Child : goal.write_item-returns-in_ok-write_child-in-Child
write_item-returns-in_ok-write_child-in-Child t c = λ root u k elided ts is end a w.
    let g = c.args.shown.now.terms.now in
    let captured = c.args.shown.now.captured in
    let text = c.args.shown.now.text.now in
    subst (λ (i : Item). Wrote (node_along g root) c.args.w.now end (items_in g root captured text u c.args.site.now.op (goes_on ts) (i ∷ is) (drop c.args.next.now (kids_in g root captured text u ts)))) (sym c.in-Child.is)
    (c.in_ok-write_child-in-Child.ensures root u k elided ts is end a w)

pub write_item-returns-in_ok-show-in-Shows : goal.write_item-returns-in_ok-show-in-Shows
write_item-returns-in_ok-show-in-Shows t c = λ root u k elided ts is end a w.
    let g = c.args.shown.now.terms.now in
    let captured = c.args.shown.now.captured in
    let text = c.args.shown.now.text.now in
    subst (λ (i : Item). Wrote (node_along g root) c.args.w.now end (items_in g root captured text u c.args.site.now.op (goes_on ts) (i ∷ is) (drop c.args.next.now (kids_in g root captured text u ts)))) (sym c.in-Shows.is)
    (shows_item g root captured text u c.args.site.now.op (goes_on ts) is ts c.args.next.now c.args.w.now end c.show.new.w c.in-Shows.o (c.in_ok-show-in-Shows.ensures root u a.along) w)

pub write_item-returns-then-not-goes_on : goal.write_item-returns-then-not-goes_on
write_item-returns-then-not-goes_on t c = λ root u k elided ts is end a w.
    let g = c.args.shown.now.terms.now in
    let captured = c.args.shown.now.captured in
    let text = c.args.shown.now.text.now in
    subst (λ (i : Item). Wrote (node_along g root) c.args.w.now end (items_in g root captured text u c.args.site.now.op (goes_on ts) (i ∷ is) (drop c.args.next.now (kids_in g root captured text u ts)))) (sym c.in-Separates.is)
    (separates_hidden g root captured text u c.args.site.now.op (goes_on ts) is ts c.args.next.now c.args.w.now end c.in-Separates.pieces (sym (c.goes_on.ensures k elided ts a.holds) ∙ c.if-not-goes_on.true) w)

pub write_item-returns-in_ok-pieces-in-Separates : goal.write_item-returns-in_ok-pieces-in-Separates
write_item-returns-in_ok-pieces-in-Separates t c = λ root u k elided ts is end a w.
    let g = c.args.shown.now.terms.now in
    let captured = c.args.shown.now.captured in
    let text = c.args.shown.now.text.now in
    subst (λ (i : Item). Wrote (node_along g root) c.args.w.now end (items_in g root captured text u c.args.site.now.op (goes_on ts) (i ∷ is) (drop c.args.next.now (kids_in g root captured text u ts)))) (sym c.in-Separates.is)
    (separates_shown g root captured text u c.args.site.now.op (goes_on ts) is ts c.args.next.now c.args.w.now end c.pieces-in-Separates.new.self c.in-Separates.pieces (sym (c.goes_on.ensures k elided ts a.holds) ∙ c.if-not-goes_on.false)
    (subst (λ (ps : List Piece). Wrote (node_along g root) c.args.w.now c.pieces-in-Separates.new.self (pieces u ps)) c.as_slice-in-Separates.ensures (c.in_ok-pieces-in-Separates.ensures (node_along g root) u a.along)) w)

-- the items
pub write_items-loop-item-preserved : goal.write_items-loop-item-preserved
write_items-loop-item-preserved t c = λ root u k elided ts end a w.
    let g = c.args.shown.now.terms.now in
    let site = c.args.site.now in
    let items = c.args.items.now in
    let i = c.loop-item.item-index in
    c.loop-item.invariant root u k elided ts end a
    (left_item g root c.args.shown.now.captured c.args.shown.now.text.now u site.op (goes_on ts) items ts i c.loop-item.next c.item-item.result c.loop-item.w end c.loop-item-test.true c.item-item.is
    (c.in_ok-write_item.ensures root u k elided ts (drop (i + 1) items) end a w))

pub write_items-returns : goal.write_items-returns
write_items-returns t c = λ root u k elided ts a.
    let g = c.args.shown.now.terms.now in
    let site = c.args.site.now in
    c.loop-item.invariant root u k elided ts c.loop-item.w a
    (left_none g root c.args.shown.now.captured c.args.shown.now.text.now u site.op (goes_on ts) c.args.items.now ts c.loop-item.item-index c.loop-item.next c.loop-item.w c.loop-item-test.false)

-- the scheme
pub write_scheme-write_items-requires : goal.write_scheme-write_items-requires
write_scheme-write_items-requires t c =
    let g = c.args.shown.now.terms.now in
    let found = ap (λ s. scheme_of s c.args.op c.scheme.result) (sym (as_shown g c.spec.result.now c.view.result c.spec.ensures c.view.ensures)) ∙ c.in-Some.ensures in
    let sound = items_sound g c.facts.ensures c.args.op c.scheme.result c.in-Some.scheme.now found in
    let count = c.arity-count.ensures ∙ ap (λ (s : Spec). length (args_of s.ops c.args.op)) c.spec-in-Some.ensures in
    (omega arith, (c.requires.live, (c.requires.op, (count, subst (All (IsItem g.spec c.args.op)) (sym c.as_slice.ensures) sound))))

pub write_scheme-returns-in_ok-write_items-in-Some : goal.write_scheme-returns-in_ok-write_items-in-Some
write_scheme-returns-in_ok-write_items-in-Some t c = λ root u s a.
    let g = c.args.shown.now.terms.now in
    let captured = c.args.shown.now.captured in
    let text = c.args.shown.now.text.now in
    let x = node_of s c.args.op (sym (term_op g c.facts.ensures c.args.n c.requires.live s a.holds) ∙ c.requires.op) in
    let holds = subst (Holds g c.args.n) x.3 a.holds in
    let found = ap (λ s. scheme_of s c.args.op c.scheme.result) (sym (as_shown g c.spec.result.now c.view.result c.spec.ensures c.view.ensures)) ∙ c.in-Some.ensures in
    let number = ap (scheme_of (spec_shown g) c.args.op) (sym (c.scheme.ensures.term (Node c.args.op x.0 x.1 x.2) holds)) in
    scheme_written g root captured text c.args.w.now c.write_items.new.w u s c.args.op x.0 x.1 x.2 c.as_slice.result.now x.3
    (c.as_slice.ensures ∙ found_items g root captured text c.args.op x.0 c.in-Some.scheme.now (number ∙ found))
    (c.in_ok-write_items-in-Some.ensures root u x.0 x.1 x.2 (record { along = a.along; holds = holds }))

pub write_scheme-returns-in-None : goal.write_scheme-returns-in-None
write_scheme-returns-in-None t c = λ root u s a.
    let g = c.args.shown.now.terms.now in
    let x = node_of s c.args.op (sym (term_op g c.facts.ensures c.args.n c.requires.live s a.holds) ∙ c.requires.op) in
    let holds = subst (Holds g c.args.n) x.3 a.holds in
    let found = ap (λ s. scheme_of s c.args.op c.scheme.result) (sym (as_shown g c.spec.result.now c.view.result c.spec.ensures c.view.ensures)) ∙ c.in-None.ensures in
    let number = ap (scheme_of (spec_shown g) c.args.op) (sym (c.scheme.ensures.term (Node c.args.op x.0 x.1 x.2) holds)) in
    nothing_written g root c.args.shown.now.captured c.args.shown.now.text.now c.args.w.now u s c.args.op x.0 x.1 x.2 x.3 (number ∙ found)

-- a node
pub content-returns-then-elided : goal.content-returns-then-elided
content-returns-then-elided t c = λ root u s a.
    let g = c.args.shown.now.terms.now in
    let captured = c.args.shown.now.captured in
    let text = c.args.shown.now.text.now in
    content_elided g root captured text c.args.w.now c.bytes.new.self u c.args.n s a.along (sym c.is_typed.ensures ∙ c.if-is_typed.false)
    (sym (c.elided.ensures.term s a.holds) ∙ c.if-elided.true) (c.in_ok-bytes.ensures (node_along g root) u a.along)

pub node-returns : goal.node-returns
node-returns t c = λ root u s a.
    let g = c.args.shown.now.terms.now in
    let captured = c.args.shown.now.captured in
    let text = c.args.shown.now.text.now in
    node_written g root captured text c.args.w.now c.close.new.self u s
    (c.in_ok-close.ensures (node_along g root) u (content_in g root captured text u s) c.args.w.now a.along c.len-from.ensures (c.in_ok-content.ensures root u s a))
