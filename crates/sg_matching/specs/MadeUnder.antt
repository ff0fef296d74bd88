-- Whether there is a made term, and a value is its value.
use Rattle.std.specs.Prelude.{Bool, false, Option, option_map, unwrap_or}
use Rattle.sg_kinds.specs.Values.{Value, Values, same_value, same_values}
use Rattle.sg_kinds.specs.Terms.{Term, Terms}
use Rattle.sg_kinds.specs.ValueOf.{value_of, values_of}

abbrev pub has_value : Option Term → Value → Bool
has_value o v = unwrap_or (option_map (λ t. same_value (value_of t) v) o) false

-- the same of a row of terms
abbrev pub have_values : Option Terms → Values → Bool
have_values o vs = unwrap_or (option_map (λ ts. same_values (values_of ts) vs) o) false
