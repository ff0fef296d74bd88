use Rattle.std.proofs.Common.{◌≤◌, ◌∙◌, sym, ap, length, map, arith}
use Rattle.std.proofs.lemmas.List.{length-map}
use Rattle.sg_remote.specs.Keys.{list_of}
use Rattle.sg_remote.specs.Lists.{lists_of}
use Rattle.sg_remote.proofs.Longer.{anyway}
use Rattle.sg_remote.proofs.hiding.found.Goals as goal

pub far_attrs-requires : goal.far_attrs-requires
far_attrs-requires c = c.in_ok-lists.ensures

pub returns-clause-rows : goal.returns-clause-rows
returns-clause-rows c = c.far_attrs.ensures

pub returns-clause-few : goal.returns-clause-few
returns-clause-few c =
    let many = ap length (sym c.in_ok-lists.ensures) ∙ length-map c.in_ok-lists.lists.keys (λ k. list_of k.items) in
    anyway c.far_attrs.result (length (lists_of c.args.atoms.now) ≤ 1048576) (omega (arith, many, c.len.ensures.len, c.if-len-gt-MOST_LISTS.false))
