-- That there is only one record, one first fault, one verdict.
use Rattle.std.specs.Prelude.{◌≡◌, List}
use Rattle.sg_kinds.specs.Values.{Bytes}
use Rattle.sg_kinds.specs.Lexemes.{Lexeme}
use Rattle.sg_kinds.specs.declared.fault.SpecFault.{SpecFault}
use Rattle.sg_kinds.specs.declared.spec.Spec.{Spec}
use Rattle.sg_ast.specs.Declarations.{Decl}
use Rattle.sg_load.specs.Patterns.{AreLexemes}
use Rattle.sg_load.specs.SpecOf.{IsSpecOf}
use Rattle.sg_load.specs.FirstFault.{Phase, IsFaultOf, IsFirstFault}
use Rattle.sg_load.specs.Verdict.{Verdict, IsJudged, IsVerdict}

-- these patterns, and no others, are those of the lexeme phyla
pub record AreTheLexemes (ds : List Decl) (ps : List Lexeme) : Type 0 where
  pub are : AreLexemes ds ps
  pub only : (qs : List Lexeme) → AreLexemes ds qs → qs ≡ ps

pub record IsTheSpec (ds : List Decl) (spec : Spec) : Type 0 where
  pub is : IsSpecOf ds spec
  pub only : (other : Spec) → IsSpecOf ds other → other ≡ spec

pub record IsTheFault (ds : List Decl) (phases : List Phase) (f : SpecFault) : Type 0 where
  pub is : IsFirstFault ds phases f
  pub only : (g : SpecFault) → IsFirstFault ds phases g → g ≡ f

pub record IsTheJudgement (ds : List Decl) (v : Verdict) : Type 0 where
  pub is : IsJudged ds v
  pub only : (w : Verdict) → IsJudged ds w → w ≡ v

pub record IsTheVerdict (bytes : Bytes) (v : Verdict) : Type 0 where
  pub is : IsVerdict bytes v
  pub only : (w : Verdict) → IsVerdict bytes w → w ≡ v

-- a fault of a phase, which has no other
pub record IsTheFaultOf (ds : List Decl) (phase : Phase) (f : SpecFault) : Type 0 where
  pub is : IsFaultOf ds phase f
  pub only : (g : SpecFault) → IsFaultOf ds phase g → g ≡ f
