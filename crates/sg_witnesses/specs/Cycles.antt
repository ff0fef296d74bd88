-- How a cycle of dependencies is told: step by step, and behind it the reasons of its steps, each once.
use Rattle.std.specs.Prelude.{◌≡◌, ℕ, zero, suc, ◌+◌, List, [], ◌∷◌, ◌++◌, slice_get, Option, Ok, option_map, unwrap_or, codes}
use Rattle.std.specs.Fmt.{decimal}
use Rattle.sg_kinds.specs.Values.{Bytes}
use Rattle.sg_kinds.specs.declared.fault.Position.{Position}
use Rattle.sg_kinds.specs.declared.fault.PrintedVertex.{PrintedVertex}
use Rattle.sg_kinds.specs.declared.fault.SpecFault.{SpecFault}
use Rattle.sg_kinds.specs.declared.spec.Attr.{Attr}
use Rattle.sg_kinds.specs.declared.spec.Phylum.{Phylum}
use Rattle.sg_kinds.specs.declared.spec.Spec.{Spec}
use Rattle.sg_kinds.specs.Dependencies.{phylum_there}
use Rattle.sg_kinds.specs.Specification.{attrs_of, phylum_name, rules_of}
use Rattle.sg_ast.specs.Declarations.{Decl}
use Rattle.sg_dependencies.specs.declared.fault.OrderFault.{OrderFault}
use Rattle.sg_faults.specs.FaultLine.{fault_line, line_text, vertex_word}
use Rattle.sg_load.specs.SpecOf.{IsSpecOf}
use Rattle.sg_load.specs.Trees.{trees_in}
use Rattle.sg_reasons.specs.Reasons.{IsPath, IsOf}
use Rattle.sg_reasons.specs.declared.why.Cause.{Cause}
use Rattle.sg_reasons.specs.declared.why.Cause.TheVariants.{ByEquation, ByPhylum, ByLayers}
use Rattle.sg_reasons.specs.declared.why.Path.{Path}
use Rattle.sg_reasons.specs.declared.why.Reason.{Reason}
use Rattle.sg_reasons.specs.declared.why.Step.{Step}
use Rattle.sg_reasons.specs.declared.why.Way.{Way}
use Rattle.sg_reports.specs.Orders.{printed_order}
use Rattle.sg_reports.specs.Places.{operator_places, place_in}
use Rattle.sg_reports.specs.Vertices.{operator_name, printed_vertices, vertex_in}

-- the number of a reason, counted from 1
abbrev pub number_word : ℕ → Bytes
number_word i = 40 ∷ (decimal (i + 1) ++ 41 ∷ [])

-- the reason stands above a left side, and below an argument
abbrev pub side_word : ℕ → Bytes
side_word zero = codes "above "
side_word (suc k) = codes "below "

abbrev pub phylum_word : List Phylum → Option ℕ → Bytes
phylum_word phyla X = unwrap_or (option_map (phylum_name phyla) X) []

-- the phylum at an occurrence, whose layers are the cause
abbrev pub layers_text : Spec → ℕ → ℕ → Bytes
layers_text spec p at = codes "by the layers of " ++ phylum_word spec.phyla (phylum_there spec.ops p at)

abbrev pub cause_text : Spec → ℕ → Cause → Bytes
cause_text spec p (ByEquation k) = codes "by an equation"
cause_text spec p (ByPhylum at i) = side_word at ++ number_word i
cause_text spec p (ByLayers at a b) = layers_text spec p at

-- a step from the vertex m
abbrev pub step_text : Spec → ℕ → List PrintedVertex → ℕ → Step → Bytes
step_text spec p vertices m s = codes "      " ++ (vertex_word (vertex_in vertices m)
    ++ (codes " -> " ++ (vertex_word (vertex_in vertices s.to)
    ++ (codes "   " ++ (cause_text spec p s.cause ++ 10 ∷ [])))))

abbrev pub steps_text : Spec → ℕ → List PrintedVertex → ℕ → List Step → Bytes
steps_text spec p vertices m [] = []
steps_text spec p vertices m (s ∷ ss) = step_text spec p vertices m s ++ steps_text spec p vertices s.to ss

abbrev pub way_text : Spec → ℕ → Way → Bytes
way_text spec p w = steps_text spec p (printed_vertices spec p) w.from w.steps

-- an operator with the line on which it is declared
abbrev pub in_operator : Spec → List Position → ℕ → Bytes
in_operator spec places p = codes "in " ++ (operator_name spec p
    ++ (44 ∷ (line_text (place_in places p).line ++ (codes ":" ++ 10 ∷ []))))

abbrev pub attr_name : List Phylum → ℕ → ℕ → Bytes
attr_name phyla X a = unwrap_or (option_map (λ (x : Attr). x.name) (slice_get (attrs_of phyla X) a)) []

-- the two attributes of a phylum that a reason relates
abbrev pub related_text : List Phylum → Reason → Bytes
related_text phyla r = phylum_name phyla r.phylum
    ++ (codes ": " ++ (attr_name phyla r.phylum r.from ++ (codes " -> " ++ attr_name phyla r.phylum r.to)))

abbrev pub reason_text : Spec → List Position → ℕ → Reason → Bytes
reason_text spec places i r = codes "  " ++ (number_word i ++ (32 ∷ (related_text spec.phyla r
    ++ (codes ", " ++ (in_operator spec places r.op ++ way_text spec r.op r.way)))))

-- reasons, the first with number i
abbrev pub reasons_text : Spec → List Position → ℕ → List Reason → Bytes
reasons_text spec places i [] = []
reasons_text spec places i (r ∷ rs) = reason_text spec places i r ++ reasons_text spec places (i + 1) rs

abbrev pub path_text : Spec → List Position → Path → Bytes
path_text spec places w = codes "  " ++ (in_operator spec places w.op
    ++ (way_text spec w.op w.cycle ++ reasons_text spec places 0 w.reasons))

-- the text tells the cycle of the record's fault of the order of evaluation, which has the line of this fault
pub record TellsCycleOf (ds : List Decl) (spec : Spec) (f : SpecFault) (text : Bytes) : Type 0 where
  pub fault : OrderFault
  pub line : fault_line (printed_order spec ds fault) ≡ fault_line f
  pub path : Path
  pub holds : IsPath (rules_of spec) path
  pub of : IsOf fault path
  pub is : text ≡ path_text spec (operator_places ds) path

-- the same of the bytes of a text
pub record TellsCycle (bytes : Bytes) (f : SpecFault) (text : Bytes) : Type 0 where
  pub declared : List Decl
  pub read : trees_in bytes ≡ Ok declared
  pub spec : Spec
  pub recorded : IsSpecOf declared spec
  pub tells : TellsCycleOf declared spec f text
