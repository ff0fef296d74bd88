use Rattle.std.proofs.Common.{◌≡◌, true, rules}
use Rattle.sg_names.specs.Indexed.{is_numbered}
use Rattle.sg_names.specs.Rows.{row_in}
use Rattle.sg_names.proofs.MoreLaws.{indexed_more}
use Rattle.sg_names.proofs.names.Names.with_more.Goals as goal

pub invariant_of-result : goal.invariant_of-result
invariant_of-result c =
    let short : is_numbered c.in_ok-table.table ≡ true = search rules in
    indexed_more (row_in c.args.more.items) c.in_ok-table.table c.in_ok-table.ensures c.self.invariant short
