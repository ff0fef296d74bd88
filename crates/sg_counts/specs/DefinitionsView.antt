-- The definitions of the code, as those of the definitions here.
use Rattle.std.specs.Prelude.{ℕ, List, map, option_map}
use Rattle.std.specs.Borrow.{Bor}
use Rattle.sg_counts.specs.Definitions as plain
use Rattle.sg_counts.specs.declared.definitions.Space.{Space}
use Rattle.sg_counts.specs.declared.definitions.Space.TheVariants as space
use Rattle.sg_counts.specs.declared.definitions.Key.{Key}
use Rattle.sg_counts.specs.declared.definitions.Definition.{Definition}

abbrev pub space_of : Space → plain.Space
space_of space.Phyla = plain.Phyla
space_of space.Callables = plain.Callables
space_of space.Listings = plain.Listings
space_of (space.Attributes p) = plain.Attributes p.now
space_of (space.Locals p o) = plain.Locals p.now o.now
space_of (space.Schemes p v) = plain.Schemes p.now (option_map (λ (n : Bor (List ℕ)). n.now) v)
space_of space.Literals = plain.Literals
space_of (space.Remotes a) = plain.Remotes a

abbrev pub key_of : Key → plain.Key
key_of k = record { space = space_of k.space; name = k.name.now }

abbrev pub definition_of : Definition Key → Definition plain.Key
definition_of d = record { key = key_of d.key; form = d.form; place = d.place }

abbrev pub seen_of : List (Definition Key) → List (Definition plain.Key)
seen_of ds = map definition_of ds
