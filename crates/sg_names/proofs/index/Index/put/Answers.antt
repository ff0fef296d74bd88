use Rattle.std.proofs.Common.{rules}
use Rattle.sg_names.proofs.Indexes.{put_new, nothing_copied}
use Rattle.sg_names.proofs.index.Index.put.Goals as goal

pub returns-in_ok-insert : goal.returns-in_ok-insert
returns-in_ok-insert g c = put_new c.args.self.now.map.entries c.insert.new.self.entries c.in_ok-from_slice.field-0 c.args.name.now c.args.value c.in_ok-from_slice.ensures.items c.in_ok-insert.ensures.entries (nothing_copied _ _ c.get.ensures.value (search rules))
