use Rattle.std.proofs.Common.{◌≡◌, ◌∙◌, ◌<◌, length, []}
use Rattle.std.proofs.lemmas.List.{get_or_default}
use Rattle.sg_sets.specs.Rows.{row_of}
use Rattle.sg_sets.proofs.RowsLemmas.{all_missing-set}
use Rattle.sg_sets.proofs.rows.Rows.insert.Goals as goal

pub returns-clause-counted : goal.returns-clause-counted
returns-clause-counted c =
    let low : c.args.a < length c.self.inside.rows.items = rw (← c.self.view_is) at c.requires.row in
    let row : c.index_mut.result.now ≡ row_of c.self.inside.rows.items c.args.a =
    c.index_mut.ensures.value ∙ get_or_default c.self.inside.rows.items c.args.a c.index_mut.result.now [] low in
    let number = rw (← c.self.view_is) at c.requires.number in
    let under : c.args.b < length (row_of c.self.inside.rows.items c.args.a) = rw (c.self.invariant c.args.a low) number in
    rw (c.insert.ensures.gains, c.insert.ensures.absent, row, ← c.self.view_is) (all_missing-set c.self.inside.rows.items c.args.a c.args.b low under)
