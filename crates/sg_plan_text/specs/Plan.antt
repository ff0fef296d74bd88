-- How an accepted specification is evaluated and parsed, as it is told.
use Rattle.std.specs.Prelude.{ℕ, ◌+◌, Bool, true, false, ◌&&◌, not, if◌then◌else◌, List, [], ◌∷◌, ◌++◌, flat_map, nat_eq, slice_get, slice_index_or, option_map, unwrap_or, codes}
use Rattle.std.specs.Fmt.{decimal}
use Rattle.sg_kinds.specs.Values.{Bytes}
use Rattle.sg_kinds.specs.Instances.{below}
use Rattle.sg_kinds.specs.Specification.{is_leaf_shape, phylum_name}
use Rattle.sg_kinds.specs.Visits.{row_at, visit_count}
use Rattle.sg_kinds.specs.declared.marks.Way.{Way}
use Rattle.sg_kinds.specs.declared.marks.Way.TheVariants.{Synthesized, Inherited}
use Rattle.sg_kinds.specs.declared.plans.Plans.{Plans}
use Rattle.sg_kinds.specs.declared.plans.PlanStep.{PlanStep}
use Rattle.sg_kinds.specs.declared.plans.PlanStep.TheVariants.{Eval, Visit}
use Rattle.sg_kinds.specs.declared.spec.Attr.{Attr}
use Rattle.sg_kinds.specs.declared.spec.Entry.{Entry}
use Rattle.sg_kinds.specs.declared.spec.Operator.{Operator}
use Rattle.sg_kinds.specs.declared.spec.Phylum.{Phylum}
use Rattle.sg_kinds.specs.declared.spec.Rule.{Rule}
use Rattle.sg_kinds.specs.declared.spec.Spec.{Spec}
use Rattle.sg_faults.specs.FaultLine.{vertex_word}
use Rattle.sg_printed.specs.Printed.{nonterminal_name, number_of, vertex_at}
use Rattle.sg_useless.specs.Uses.{numbered}

-- a phylum takes its inherited attributes and gives the others
abbrev pub is_side : Bool → Way → Bool
is_side taken Inherited = taken
is_side taken Synthesized = not taken

-- an attribute behind a blank, where it stands on this side of this visit
abbrev pub attr_text : List ℕ → Bool → ℕ → ℕ → Attr → Bytes
attr_text visits taken j slot a = if nat_eq (slice_index_or visits slot 0) j && is_side taken a.way then 32 ∷ a.name else []

abbrev pub attrs_text : List ℕ → Bool → ℕ → List Attr → Bytes
attrs_text visits taken j attrs = numbered (attr_text visits taken j) 0 attrs

-- what a visit takes, and what it gives
abbrev pub sides_text : List ℕ → ℕ → List Attr → Bytes
sides_text visits j attrs = attrs_text visits true j attrs ++ (codes " ->" ++ (attrs_text visits false j attrs ++ 10 ∷ []))

-- a line for a visit of a phylum
abbrev pub visit_name : Bytes → ℕ → Bytes
visit_name name j = codes "phylum " ++ (name ++ (codes ", visit " ++ (decimal j ++ 58 ∷ [])))

abbrev pub visit_text : Phylum → List ℕ → ℕ → Bytes
visit_text x visits j = visit_name x.name j ++ sides_text visits j x.attrs

abbrev pub next_visit : Phylum → List ℕ → ℕ → Bytes
next_visit x visits k = visit_text x visits (k + 1)

-- the visits of a phylum with operators
abbrev pub phylum_text : Plans → ℕ → Phylum → Bytes
phylum_text plans p x =
    if is_leaf_shape x.shape then [] else flat_map (next_visit x (row_at plans.visits p)) (below (visit_count plans p))

-- an argument by its phylum and its number among the occurrences of that phylum
abbrev pub child_text : List Phylum → Operator → ℕ → ℕ → Bytes
child_text phyla o k q = phylum_name phyla q ++ (36 ∷ decimal (number_of o k q))

abbrev pub target_text : List Phylum → Operator → Rule → Bytes
target_text phyla o r = vertex_word (vertex_at phyla o r.target.at r.target.slot)

-- a step of a visit: what an equation defines, or a visit of an argument
abbrev pub step_text : Spec → Operator → PlanStep → Bytes
step_text spec o (Eval r) = unwrap_or (option_map (target_text spec.phyla o) (slice_get spec.rules r)) []
step_text spec o (Visit k j) =
    codes "visit " ++ (decimal j ++ (codes " of " ++ unwrap_or (option_map (child_text spec.phyla o k) (slice_get o.args k)) []))

abbrev pub later_step : Spec → Operator → PlanStep → Bytes
later_step spec o s = codes ", " ++ step_text spec o s

abbrev pub steps_text : Spec → Operator → List PlanStep → Bytes
steps_text spec o [] = []
steps_text spec o (s ∷ ss) = 32 ∷ (step_text spec o s ++ flat_map (later_step spec o) ss)

-- a line for a visit of an operator: its steps
abbrev pub owner_name : Spec → Operator → ℕ → Bytes
owner_name spec o k = o.name ++ (codes " of " ++ (phylum_name spec.phyla o.phylum ++ (codes ", visit " ++ (decimal (k + 1) ++ 58 ∷ []))))

abbrev pub visit_steps : Spec → Operator → ℕ → List PlanStep → Bytes
visit_steps spec o k steps = owner_name spec o k ++ (steps_text spec o steps ++ 10 ∷ [])

abbrev pub operator_text : Spec → Plans → ℕ → Operator → Bytes
operator_text spec plans op o = numbered (visit_steps spec o) 0 (row_at plans.steps op)

-- a line for an entry: its nonterminal
abbrev pub entry_text : Spec → Entry → Bytes
entry_text spec e = codes "entry " ++ (phylum_name spec.phyla e.phylum
    ++ (codes ": " ++ (nonterminal_name spec.productions e.nonterminal ++ 10 ∷ [])))

-- the visits of phyla and of operators, the entries, and the number of states
unfoldable pub plan_text : Spec → Plans → ℕ → Bytes
plan_text spec plans states = numbered (phylum_text plans) 0 spec.phyla
    ++ (numbered (operator_text spec plans) 0 spec.ops
    ++ (flat_map (entry_text spec) spec.entries
    ++ (decimal states ++ (codes " states" ++ 10 ∷ []))))
