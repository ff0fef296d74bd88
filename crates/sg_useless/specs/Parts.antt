-- Parts of a record, and which of them stand in a list.
use Rattle.std.specs.Prelude.{Bool, false, ◌&&◌, List, nat_eq}
use Rattle.std.specs.List.{list_any}
pub use Rattle.sg_useless.specs.declared.part.Part.{Part}
use Rattle.sg_useless.specs.declared.part.Part.TheVariants.{Function, Attribute, Local, Phylum, Nonterminal, Schemes, Entry, Literal}

abbrev pub is_same : Part → Part → Bool
is_same (Function f) (Function g) = nat_eq f g
is_same (Attribute p s) (Attribute q r) = nat_eq p q && nat_eq s r
is_same (Local p s) (Local q r) = nat_eq p q && nat_eq s r
is_same (Phylum p) (Phylum q) = nat_eq p q
is_same (Nonterminal m) (Nonterminal n) = nat_eq m n
is_same (Schemes p) (Schemes q) = nat_eq p q
is_same (Entry p) (Entry q) = nat_eq p q
is_same (Literal l k) (Literal m n) = nat_eq l m && nat_eq k n
is_same a b = false

-- whether a part is among others
abbrev pub is_among : List Part → Part → Bool
is_among parts x = list_any (λ y. is_same y x) parts
