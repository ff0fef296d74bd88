use Rattle.std.proofs.Common.{◌∙◌, ap, map}
use Rattle.sg_remote.specs.Keys.{list_of}
use Rattle.sg_remote.proofs.Keyed.{pair-decides, list_added}
use Rattle.sg_remote.proofs.lists.add_list.Goals as goal

pub returns : goal.returns
returns c =
    ap (map (λ k. list_of k.items)) c.in_ok-insert.ensures.keys
    ∙ list_added _ pair-decides c.args.list.now c.args.lists.now.keys c.in_ok-key_of.field-0 c.in_ok-key_of.ensures
