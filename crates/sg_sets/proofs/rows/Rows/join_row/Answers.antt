use Rattle.std.proofs.Common.{◌∙◌, ap}
use Rattle.sg_sets.specs.Rows.{table}
use Rattle.sg_sets.proofs.OptionLemmas.{OnFalse-weaker}
use Rattle.sg_sets.proofs.RowsLemmas.{joined_row}
use Rattle.sg_sets.proofs.rows.Rows.join_row.Goals as goal

pub returns-clause-joins : goal.returns-clause-joins
returns-clause-joins c =
    let after =
    joined_row c.self.inside.rows.items c.args.from c.args.to c.replace-set.new.dest c.replace-set.result c.index_mut-2.result.now c.union-grown.new.self c.union-grown.result c.if-from-to.false
    (rw (← c.self.view_is) at c.requires.from_row) (rw (← c.self.view_is) at c.requires.to_row)
    (rw (← c.replace-set.ensures.value) at c.index_mut.ensures.value) c.index_mut-2.ensures.value c.union-grown.ensures.joins c.union-grown.ensures.grows c.union-grown.ensures.stays in
    rw (after.put, ← c.self.view_is) after.joins

pub returns-clause-grows : goal.returns-clause-grows
returns-clause-grows c =
    let after =
    joined_row c.self.inside.rows.items c.args.from c.args.to c.replace-set.new.dest c.replace-set.result c.index_mut-2.result.now c.union-grown.new.self c.union-grown.result c.if-from-to.false
    (rw (← c.self.view_is) at c.requires.from_row) (rw (← c.self.view_is) at c.requires.to_row)
    (rw (← c.replace-set.ensures.value) at c.index_mut.ensures.value) c.index_mut-2.ensures.value c.union-grown.ensures.joins c.union-grown.ensures.grows c.union-grown.ensures.stays in
    rw (after.put, ← c.self.view_is) after.grows

pub returns-clause-stays : goal.returns-clause-stays
returns-clause-stays c =
    let after =
    joined_row c.self.inside.rows.items c.args.from c.args.to c.replace-set.new.dest c.replace-set.result c.index_mut-2.result.now c.union-grown.new.self c.union-grown.result c.if-from-to.false
    (rw (← c.self.view_is) at c.requires.from_row) (rw (← c.self.view_is) at c.requires.to_row)
    (rw (← c.replace-set.ensures.value) at c.index_mut.ensures.value) c.index_mut-2.ensures.value c.union-grown.ensures.joins c.union-grown.ensures.grows c.union-grown.ensures.stays in
    OnFalse-weaker c.union-grown.result _ _ (λ same. ap (table c.self.inside.width) (after.put ∙ same) ∙ c.self.view_is) after.stays
