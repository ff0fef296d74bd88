use Rattle.std.proofs.Common.{◌≡◌, ◌∙◌}
use Rattle.sg_remote.specs.Keys.{key_of}
use Rattle.sg_remote.proofs.Keyed.{pair-decides, position_met}
use Rattle.sg_remote.proofs.lists.place_of.Goals as goal

pub returns : goal.returns
returns c =
    let is : c.as_slice.result.now ≡ key_of c.args.list.now = c.as_slice.ensures.value ∙ c.in_ok-key.ensures in
    c.get_index_of.ensures.index ∙ rw is (position_met _ pair-decides c.args.list.now c.args.lists.now.keys)
