-- The lines of a report.
use Rattle.std.specs.Prelude.{ℕ, Bool, false, nat_eq, List, [], ◌∷◌, ◌++◌, reverse, length, codes, option_map, unwrap_or}
use Rattle.std.specs.List.{filter, flat_map}
use Rattle.std.specs.Fmt.{decimal}
use Rattle.sg_kinds.specs.Values.{Bytes}
use Rattle.sg_kinds.specs.Terms.{Term}
use Rattle.sg_kinds.specs.Places.{Place, places_in}
use Rattle.sg_kinds.specs.Nets.{net_of, phylum_at}
use Rattle.sg_kinds.specs.Instances.{instances}
use Rattle.sg_kinds.specs.FromScratch.{value_in}
use Rattle.sg_kinds.specs.Specification.{rules_of}
use Rattle.sg_kinds.specs.declared.spec.Spec.{Spec}
use Rattle.sg_printing.specs.Printed.{saved_text}
use Rattle.sg_report.specs.declared.answers.Report.{Report}
use Rattle.sg_report.specs.declared.attrs.Named.{Named}

-- child numbers from the root on, with a point between them; the root's path is a point alone
abbrev pub path_text : List ℕ → Bytes
path_text [] = 46 ∷ []
path_text (k ∷ path) = decimal k ++ flat_map (λ j. 46 ∷ decimal j) path

-- the last line
abbrev pub last_line : (values evaluated : ℕ) → Bytes
last_line values evaluated = codes "values " ++ decimal values ++ codes " evaluated " ++ decimal evaluated ++ 10 ∷ []

module _ (spec : Spec) (t : Term) where
  -- whether the node at a place is of a phylum
  abbrev pub is_of : ℕ → Place → Bool
  is_of p u = unwrap_or (option_map (nat_eq p) (phylum_at spec.ops ((net_of t).label u))) false

  -- the from-scratch value of a slot at a place, and its line
  abbrev pub text_of : ℕ → Place → Bytes
  text_of slot u = saved_text spec (value_in spec t (record { node = u; slot = slot }))

  abbrev pub line_at : ℕ → Place → Bytes
  line_at slot u = path_text (reverse u) ++ 32 ∷ text_of slot u ++ 10 ∷ []

  -- those of these places that are of the attribute's phylum, and their lines
  abbrev pub of_these : Named → List Place → List Place
  of_these a us = filter (is_of a.phylum) us

  abbrev pub lines_at : Named → List Place → Bytes
  lines_at a us = flat_map (line_at a.slot) (of_these a us)

  -- how many equations there are to evaluate
  abbrev pub equations : ℕ
  equations = length (instances (rules_of spec) t)

  -- the lines of all nodes of the phylum in preorder, and the last line with their number
  abbrev pub report_on : Named → Report
  report_on a = record {
    lines = lines_at a (places_in t) ++ last_line (length (of_these a (places_in t))) equations;
    evaluated = equations;
  }
