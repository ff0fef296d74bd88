use Rattle.std.specs.Prelude.{◌≡◌, ◌+◌, ◌<◌, length, Some, slice_get}
use Rattle.std.proofs.Common.{sym, ap, ◌∙◌, subst, get_or, arith}
use Rattle.sg_kinds.specs.Specification.{args_of, locals_of}
use Rattle.sg_kinds.specs.Instances.{attr_count}
use Rattle.sg_dependencies.proofs.Framed.{framed_first, framed_next, framed_fits, framed_all, arg_is, args_are, locals_are, Framed}
use Rattle.sg_dependencies.proofs.frame.Frame.of.Goals as goal

pub overflow_add-next : goal.overflow_add-next
overflow_add-next c =
    let x = c.item-operator.result.now in
    let is : slice_get c.args.rules.now.ops c.args.op ≡ Some x = ap (λ xs. slice_get xs c.args.op) (sym c.as_slice.ensures) ∙ c.item-operator.ensures in
    let low : c.loop-arg.arg-index < length x.args = omega (arith, ap length c.as_slice-arg-items.ensures) in
    let at : c.arg-item.result ≡ get_or x.args c.loop-arg.arg-index c.arg-item.result = c.arg-item.is ∙ ap (λ xs. get_or xs c.loop-arg.arg-index c.arg-item.result) c.as_slice-arg-items.ensures in
    let fits = framed_fits c.args.rules.now c.args.op c.loop-arg.arg-index c.arg-item.result c.loop-arg.next (length x.args) c.requires.small c.loop-arg.invariant.next_is
    (arg_is c.args.rules.now c.args.op x c.loop-arg.arg-index c.arg-item.result is low at) (ap length (sym (args_are c.args.rules.now c.args.op x is))) low in
    let attrs : c.of-spot.result.attrs ≡ attr_count c.args.rules.now (Some c.arg-item.result) = ap (λ s. s.attrs) c.of-spot.ensures in
    omega (arith, fits, attrs)

pub loop-arg-init : goal.loop-arg-init
loop-arg-init c =
    let x = c.item-operator.result.now in
    let is : slice_get c.args.rules.now.ops c.args.op ≡ Some x = ap (λ xs. slice_get xs c.args.op) (sym c.as_slice.ensures) ∙ c.item-operator.ensures in
    framed_first c.args.rules.now c.args.op x c.new-spots.result.items c.push.new.self.items c.of-left.result is c.new-spots.ensures.items c.in_ok-push.ensures.items c.of-left.ensures

pub loop-arg-preserved : goal.loop-arg-preserved
loop-arg-preserved c =
    let x = c.item-operator.result.now in
    let is : slice_get c.args.rules.now.ops c.args.op ≡ Some x = ap (λ xs. slice_get xs c.args.op) (sym c.as_slice.ensures) ∙ c.item-operator.ensures in
    let low : c.loop-arg.arg-index < length x.args = omega (arith, ap length c.as_slice-arg-items.ensures) in
    let at : c.arg-item.result ≡ get_or x.args c.loop-arg.arg-index c.arg-item.result = c.arg-item.is ∙ ap (λ xs. get_or xs c.loop-arg.arg-index c.arg-item.result) c.as_slice-arg-items.ensures in
    framed_next c.args.rules.now c.args.op c.loop-arg.arg-index x c.arg-item.result c.loop-arg.next c.loop-arg.spots.items c.push-in-loop-arg.new.self.items c.of-spot.result c.loop-arg.invariant is low at c.in_ok-push-2.ensures.items c.of-spot.ensures

pub returns : goal.returns
returns c =
    let x = c.item-operator.result.now in
    let rules = c.args.rules.now in
    let is : slice_get rules.ops c.args.op ≡ Some x = ap (λ xs. slice_get xs c.args.op) (sym c.as_slice.ensures) ∙ c.item-operator.ensures in
    let long : c.loop-arg.arg-index ≡ length (args_of rules.ops c.args.op) = omega (arith, ap length c.as_slice-arg-items.ensures, ap length (args_are rules c.args.op x is)) in
    let count : c.loop-arg.next + c.len.result ≡ c.loop-arg.next + length (locals_of rules.ops c.args.op) = omega (arith, c.len.ensures, ap length (locals_are rules c.args.op x is)) in
    framed_all rules c.args.op c.loop-arg.arg-index c.new.result c.loop-arg.next (c.loop-arg.next + c.len.result) long
    (subst (λ s. Framed rules c.args.op c.loop-arg.arg-index s c.loop-arg.next) (sym c.new.ensures) c.loop-arg.invariant) count
