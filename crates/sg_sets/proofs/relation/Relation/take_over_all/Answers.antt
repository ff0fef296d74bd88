use Rattle.std.proofs.Common.{◌<◌, true, false, sym, ap, subst, length, arith}
use Rattle.std.proofs.lemmas.List.{get_or-set_same}
use Rattle.sg_sets.specs.Members.{Has, Outside}
use Rattle.sg_sets.specs.Rows.{row_of}
use Rattle.sg_sets.proofs.ClosingLemmas.{reached-none, reached-then, reached-more, fewer-missing}
use Rattle.sg_sets.proofs.MembersLemmas.{has-below}
use Rattle.sg_sets.proofs.relation.Relation.take_over_all.Goals as goal

pub loop-k-init : goal.loop-k-init
loop-k-init c = rw c.clear.ensures (reached-none c.args.self.now c.args.a (length c.args.passed.now) c.requires.width)

pub loop-k-preserved : goal.loop-k-preserved
loop-k-preserved c =
    let next = subst (λ row. Outside row c.loop-k.passed c.in-Some.k) c.successors.ensures.row c.in-Some.ensures.outside in
    reached-then c.args.self.now c.loop-k.self c.take_over.new.self c.args.a c.in-Some.k c.loop-k.passed c.insert.new.self c.loop-k.invariant next.0 c.insert.ensures.gains c.take_over.ensures.takes c.take_over.ensures.size

pub loop-k-preserved-then-contains : goal.loop-k-preserved-then-contains
loop-k-preserved-then-contains c =
    let next = subst (λ row. Outside row c.loop-k.passed c.in-Some.k) c.successors.ensures.row c.in-Some.ensures.outside in
    let first = reached-then c.args.self.now c.loop-k.self c.take_over.new.self c.args.a c.in-Some.k c.loop-k.passed c.insert.new.self c.loop-k.invariant next.0 c.insert.ensures.gains c.take_over.ensures.takes c.take_over.ensures.size in
    let low : c.in-Some.k < length c.loop-k.passed =
    omega (arith, has-below (row_of c.loop-k.self c.args.a) c.in-Some.k next.0, ap length c.successors.ensures.row, c.successors.ensures.width, c.loop-k.invariant.width, c.loop-k.invariant.extends.size) in
    let there : Has c.insert.new.self c.in-Some.k = subst (λ s. Has s c.in-Some.k) (sym c.insert.ensures.gains) (get_or-set_same c.loop-k.passed c.in-Some.k true false low) in
    let joins = rw c.successors-then-contains.ensures.row at c.union.ensures.joins in
    reached-more c.args.self.now c.take_over.new.self c.args.a c.in-Some.k c.insert.new.self c.union.new.self first there
    (c.requires.closed c.in-Some.k (c.contains.ensures.0 c.if-contains.true)) joins c.union.ensures.width

pub loop-k-smaller : goal.loop-k-smaller
loop-k-smaller c =
    let next = subst (λ row. Outside row c.loop-k.passed c.in-Some.k) c.successors.ensures.row c.in-Some.ensures.outside in
    let low : c.in-Some.k < length c.loop-k.passed =
    omega (arith, has-below (row_of c.loop-k.self c.args.a) c.in-Some.k next.0, ap length c.successors.ensures.row, c.successors.ensures.width, c.loop-k.invariant.width, c.loop-k.invariant.extends.size) in
    fewer-missing c.loop-k.passed c.insert.new.self c.in-Some.k low next.1 c.insert.ensures.gains
