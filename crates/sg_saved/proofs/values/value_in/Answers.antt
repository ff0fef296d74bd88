use Rattle.std.proofs.Common.{◌≡◌, ◌+◌, ◌-◌, ◌<◌, length, [], ◌∷◌, ◌++◌, ◌∙◌, subst, arith}
use Rattle.sg_saved.proofs.Pieces.{note-of, some-note}
use Rattle.sg_saved.proofs.Building.{Built, values_in, none-built, kids-on-top, one-built, value-last}
use Rattle.sg_saved.proofs.values.value_in.Goals as goal

pub loop-k-init : goal.loop-k-init
loop-k-init c = λ spec o are. none-built spec c.args.bytes.now c.args.outline.now.notes.items _ _ (omega arith) cc

pub head_at-requires : goal.head_at-requires
head_at-requires c = some-note c.args.bytes.now c.args.outline.now c.requires (c.loop-k.k - 1) c.index.result.now (omega (arith, c.args.outline.now.notes.ok.0)) c.index.ensures

pub loop-k-preserved : goal.loop-k-preserved
loop-k-preserved c = λ spec o are.
    let bytes = c.args.bytes.now in
    let notes = c.args.outline.now.notes.items in
    let next : c.loop-k.k ≡ c.loop-k.k - 1 + 1 = omega arith in
    let low : c.loop-k.k - 1 < length notes = omega (arith, c.args.outline.now.notes.ok.0) in
    let built : Built spec bytes notes (c.loop-k.k - 1 + 1) c.loop-k.values.items = subst (λ j. Built spec bytes notes j c.loop-k.values.items) next (c.loop-k.invariant spec o are) in
    one-built spec bytes notes (c.loop-k.k - 1) c.index.result.now c.loop-k.values.items low c.index.ensures built c.push.new.self.items
    (λ xs f.
    let v = c.in_ok-value.ensures spec f.piece.raw (values_in spec f.rest) (c.in_ok-head.ensures spec f.piece.raw are (note-of bytes notes (c.loop-k.k - 1) c.index.result.now xs f))
    (kids-on-top spec bytes notes (c.loop-k.k - 1) c.index.result.now c.loop-k.values.items xs f built) in
    c.in_ok-push.ensures.items ∙ (λ i. v.1 i ++ v.0 i ∷ []))

pub returns-in-Some : goal.returns-in-Some
returns-in-Some c = λ spec o are.
    let done : c.loop-k.k ≡ 0 = omega arith in
    value-last spec c.args.bytes.now c.args.outline.now o c.loop-k.values.items c.pop.new.self.items c.in-Some.value
    (subst (λ j. Built spec c.args.bytes.now c.args.outline.now.notes.items j c.loop-k.values.items) done (c.loop-k.invariant spec o are)) c.in-Some.ensures.items
