-- What a name means by an index.
use Rattle.std.specs.Prelude.{Option, bytes_eq}
use Rattle.indexmap.specs.IndexMap.{get_by}
use Rattle.sg_kinds.specs.Values.{Bytes}
use Rattle.sg_names.specs.declared.index.Index.{Index}

abbrev pub meaning : {V : Type 0} → Index V → Bytes → Option V
meaning i n = get_by (λ k. bytes_eq n k.items) i.map
