use Rattle.std.proofs.Common.{sym, length, arith}
use Rattle.sg_unparse.specs.Page.{stands_at}
use Rattle.sg_unparse.proofs.Sheets.{found_within}
use Rattle.sg_unparse.proofs.page.Page.owner.Goals as goal

pub owner_of-requires : goal.owner_of-requires
owner_of-requires c =
    let within = found_within (stands_at c.args.self.now.cells c.args.line c.args.col) 0 (length c.args.self.now.cells) c.in-Some.k (sym c.in-Some.ensures) in
    omega (arith, within)
