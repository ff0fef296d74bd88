-- What equations define, as the code orders it.
use Rattle.std.specs.Prelude.{◌≡◌, ℕ, List}
use Rattle.std.specs.List.{list_any}
use Rattle.std.specs.BTreeMap.{is_at}
use Rattle.std.specs.BTreeSet.{BTreeSet, contains}
use Rattle.sg_kinds.specs.declared.spec.Occurrence.{Occurrence}
use Rattle.sg_equations.specs.declared.targets.Defined.{Defined}
use Rattle.sg_equations.specs.declared.completeness.Key.{Key}
use Rattle.sg_equations.specs.contracts.completeness.KeyOrd as order

abbrev pub key_at : ℕ → Occurrence → Key
key_at op o = record { op = op; at = o.at; slot = o.slot }

abbrev pub key_of : Defined → Key
key_of d = key_at d.op d.target

-- the set has the keys of what these equations define
abbrev pub AreSeen : List Defined → BTreeSet Key → Type 0
AreSeen defs seen = (k : Key) → contains order.TheImpl.ghosts.cmp seen k
    ≡ list_any (λ d. is_at (order.TheImpl.ghosts.cmp (key_of d)) k) defs
