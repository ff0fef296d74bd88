-- What is evaluated where a subterm is replaced: the equations of the new subterm, and of the others those with a
-- changed argument.
use Rattle.std.specs.Prelude.{◌≡◌, ◌≢◌, ◌⊎◌, Bool, false, not, ◌||◌, bytes_eq, List, [], ◌∷◌, ◌++◌, filter, Contains, Some, option_map, unwrap_or}
use Rattle.std.specs.List.{list_any}
use Rattle.sg_kinds.specs.Values.{same_value}
use Rattle.sg_kinds.specs.Terms.{Term}
use Rattle.sg_kinds.specs.Specification.{rules_of}
use Rattle.sg_kinds.specs.declared.spec.Spec.{Spec}
use Rattle.sg_kinds.specs.Places.{Place, put}
use Rattle.sg_kinds.specs.Nets.{Reference, net_of}
use Rattle.sg_kinds.specs.Instances.{Site, site_of, args_at, instances}
use Rattle.sg_kinds.specs.FromScratch.{value_in}

-- a place is another or below it
pub record IsAtOrBelow (v u : Place) : Type 0 where
  pub below : Place
  pub is : v ≡ below ++ u

abbrev pub is_at_or_below : Place → Place → Bool
is_at_or_below [] u = bytes_eq [] u
is_at_or_below (k ∷ v) u = bytes_eq (k ∷ v) u || is_at_or_below v u

-- a term, and the place in it where another comes
module _ (spec : Spec) (t : Term) (u : Place) (s : Term) where
  -- a reference has another from-scratch value after than before
  abbrev pub IsChanged : Reference Place → Type 0
  IsChanged a = value_in spec (put t u s) a ≢ value_in spec t a

  abbrev pub is_changed : Reference Place → Bool
  is_changed a = not (same_value (value_in spec (put t u s) a) (value_in spec t a))

  abbrev pub arguments : Site Place → List (Reference Place)
  arguments i = args_at (net_of (put t u s)) i

  -- an argument of the equation is changed
  pub record HasChanged (i : Site Place) : Type 0 where
    pub arg : Reference Place
    pub named : Contains (arguments i) arg
    pub changed : IsChanged arg

  -- the equation of a reference is one of the new subterm, or is not and has a changed argument
  pub record IsEvaluated (a : Reference Place) : Type 0 where
    pub site : Site Place
    pub found : site_of (rules_of spec) (net_of (put t u s)) a ≡ Some site
    pub why : IsAtOrBelow site.node u ⊎ ((IsAtOrBelow site.node u → ⊥) × HasChanged site)

  abbrev pub is_evaluated_by : Site Place → Bool
  is_evaluated_by i = is_at_or_below i.node u || list_any is_changed (arguments i)

  abbrev pub is_evaluated : Reference Place → Bool
  is_evaluated a = unwrap_or (option_map is_evaluated_by (site_of (rules_of spec) (net_of (put t u s)) a)) false

  -- these references, each once
  abbrev pub evaluated : List (Reference Place)
  evaluated = filter is_evaluated (instances (rules_of spec) (put t u s))
