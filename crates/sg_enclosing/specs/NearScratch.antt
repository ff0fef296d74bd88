-- From-scratch values in which an equation reads the attribute of the nearest enclosing node itself.
use Rattle.std.specs.Prelude.{ℕ, zero, suc, List, [], length, slice_get, option_map, option_and_then, unwrap_or}
use Rattle.sg_kinds.specs.Values.{Value, Fault}
use Rattle.sg_kinds.specs.Terms.{Term}
use Rattle.sg_kinds.specs.declared.spec.Spec.{Spec}
use Rattle.sg_kinds.specs.declared.spec.Attr.{Attr}
use Rattle.sg_kinds.specs.declared.spec.Far.{Far}
use Rattle.sg_kinds.specs.Specification.{attrs_of, rules_of}
use Rattle.sg_kinds.specs.Places.{Place, sub}
use Rattle.sg_kinds.specs.Nets.{Reference, phylum_at, label_of, net_of}
use Rattle.sg_kinds.specs.Instances.{site_of, instances}
use Rattle.sg_kinds.specs.FromScratch.{leaf_or, site_value}
use Rattle.sg_kinds.specs.Enclosing.{near}
use Rattle.sg_kinds.specs.declared.marks.FaultKind.TheVariants.{Fuel}

-- the list of a slot, which is empty where the slot is no far attribute
abbrev pub far_at : Spec → Term → Reference Place → List Far
far_at spec t a = unwrap_or (option_map (λ (x : Attr). x.far) (option_and_then
    (λ p. slice_get (attrs_of spec.phyla p) a.slot) (phylum_at spec.ops (label_of (sub t a.node))))) []

-- what is read in the place of a far attribute: the attribute of the nearest enclosing node that its list names
abbrev pub seen : Spec → Term → Reference Place → Reference Place
seen spec t a = unwrap_or (near spec t a.node (far_at spec t a)) a

-- as `scratch`, but that no equation of a far attribute is asked
abbrev pub near_scratch : Spec → Term → ℕ → Reference Place → Value
near_scratch spec t zero a = leaf_or ((net_of t).label a.node) (Fault Fuel)
near_scratch spec t (suc n) a = leaf_or ((net_of t).label a.node)
    (site_value spec (net_of t) (λ b. near_scratch spec t n (seen spec t b)) (site_of (rules_of spec) (net_of t) a))

abbrev pub near_value_in : Spec → Term → Reference Place → Value
near_value_in spec t a = near_scratch spec t (length (instances (rules_of spec) t)) a
