-- Tables whose far attributes can be handed down to each argument that has them.
use Rattle.std.specs.Prelude.{◌≡◌, ℕ, true, slice_get, Some}
use Rattle.sg_kinds.specs.Far.{is_far}
use Rattle.sg_kinds.specs.Specification.{attrs_of, args_of}
use Rattle.sg_kinds.specs.Typing.{slot_type}
use Rattle.sg_kinds.specs.declared.marks.Way.TheVariants.{Inherited}
use Rattle.sg_kinds.specs.declared.spec.Attr.{Attr}
use Rattle.sg_names.specs.Drafted.{drafted}
use Rattle.sg_names.specs.declared.table.Table.{Table}
use Rattle.sg_remote.specs.Handing.{source}

-- the left side of an operator has a slot that hands the attribute down, and it is of the attribute's type
pub record HasSource (t : Table) (op : ℕ) (a : Attr) : Type 0 where
  pub slot : ℕ
  pub is : source t op a ≡ Some slot
  pub type : slot_type (drafted t) op 0 slot ≡ Some a.of

-- far attributes are inherited, and those of arguments are handed down
pub record AreHandedDown (t : Table) : Type 0 where
  pub inherited : (p s : ℕ) (a : Attr) → slice_get (attrs_of t.phyla p) s ≡ Some a → is_far a ≡ true
      → a.way ≡ Inherited
  pub sources : (op k q s : ℕ) (a : Attr) → slice_get (args_of t.ops op) k ≡ Some q
      → slice_get (attrs_of t.phyla q) s ≡ Some a → is_far a ≡ true → HasSource t op a
