-- The verdict on a text: its record, or its first static fault.
use Rattle.std.specs.Prelude.{◌≡◌, List, Result, Ok, Err}
use Rattle.sg_kinds.specs.Values.{Bytes}
use Rattle.sg_kinds.specs.declared.fault.SpecFault.{SpecFault}
use Rattle.sg_kinds.specs.declared.spec.Spec.{Spec}
use Rattle.sg_ast.specs.Declarations.{Decl}
use Rattle.sg_load.specs.Trees.{trees_in}
use Rattle.sg_load.specs.SpecOf.{IsSpecOf}
use Rattle.sg_load.specs.FirstFault.{phases, HaveNoFault, IsFirstFault}

pub data Verdict : Type 0 where
  Refused : SpecFault → Verdict
  Accepted : Spec → Verdict

-- the verdict on declarations: a fault of the first phase that has one, or their record where none has
abbrev pub IsJudged : List Decl → Verdict → Type 0
IsJudged ds (Refused f) = IsFirstFault ds phases f
IsJudged ds (Accepted spec) = HaveNoFault ds phases × IsSpecOf ds spec

-- the verdict on what was read
abbrev pub IsOfTrees : Result (List Decl) SpecFault → Verdict → Type 0
IsOfTrees (Err f) v = v ≡ Refused f
IsOfTrees (Ok ds) v = IsJudged ds v

abbrev pub IsVerdict : Bytes → Verdict → Type 0
IsVerdict bytes v = IsOfTrees (trees_in bytes) v
