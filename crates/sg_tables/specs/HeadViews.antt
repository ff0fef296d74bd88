-- When an index tells the numbers of first definitions.
use Rattle.std.specs.Prelude.{◌≡◌, ℕ, List, length}
use Rattle.std.specs.List.{position}
use Rattle.sg_kinds.specs.Values.{Bytes}
use Rattle.sg_names.specs.declared.heads.Head.{Head}
use Rattle.sg_names.specs.declared.index.Index.{Index}
use Rattle.sg_names.specs.Meaning.{meaning}
use Rattle.sg_names.specs.Heads.{is_head}

pub record IsCounted (heads : List Head) (count : ℕ) (index : Index ℕ) : Type 0 where
  pub counted : length heads ≡ count
  pub indexed : (n : Bytes) → meaning index n ≡ position (is_head n) heads
