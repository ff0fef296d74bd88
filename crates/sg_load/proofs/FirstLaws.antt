-- The first fault of phases, one phase after another, and the verdict that follows.
use Rattle.std.proofs.Common.{◌≡◌, List, [], ◌∷◌, ◌++◌, Option, Some, None, Result, Ok, Err, refl, sym, ap, subst, inl, inr}
use Rattle.sg_kinds.specs.Values.{Bytes}
use Rattle.sg_kinds.specs.declared.fault.SpecFault.{SpecFault}
use Rattle.sg_kinds.specs.declared.spec.Spec.{Spec}
use Rattle.sg_ast.specs.Declarations.{Decl}
use Rattle.sg_load.specs.Trees.{trees_in}
use Rattle.sg_load.specs.FirstFault.{Phase, phases, HasNoFaultOf, HaveNoFault, IsFirstFault}
use Rattle.sg_load.specs.Verdict.{Verdict, IsJudged, IsOfTrees}
use Rattle.sg_load.specs.Verdict.Verdict.{Refused, Accepted}
use Rattle.sg_load.specs.Only.{IsTheSpec, IsTheFault, IsTheFaultOf, IsTheJudgement, IsTheVerdict}

-- a fault of the first phase
pub here : (ds : List Decl) (phase : Phase) (rest : List Phase) (f : SpecFault) → IsTheFaultOf ds phase f → IsTheFault ds (phase ∷ rest) f
here ds phase rest f the = record {
  is = inl the.is;
  only = λ g h. elim h [ inl e ↦ the.only g e | inr n ↦ absurd (n.0 f the.is) ];
}

-- the first phase has none
pub later : (ds : List Decl) (phase : Phase) (rest : List Phase) (f : SpecFault) → HasNoFaultOf ds phase → IsTheFault ds rest f → IsTheFault ds (phase ∷ rest) f
later ds phase rest f none the = record {
  is = inr (none, the.is);
  only = λ g h. elim h [ inl e ↦ absurd (none g e) | inr n ↦ the.only g n.1 ];
}

-- the first phases have none
pub later_all : (ds : List Decl) (before rest : List Phase) (f : SpecFault) → HaveNoFault ds before → IsTheFault ds rest f → IsTheFault ds (before ++ rest) f
later_all ds [] rest f none the = the
later_all ds (phase ∷ before) rest f none the = later ds phase (before ++ rest) f none.0 (later_all ds before rest f none.1 the)

pub none_both : (ds : List Decl) (before rest : List Phase) → HaveNoFault ds before → HaveNoFault ds rest → HaveNoFault ds (before ++ rest)
none_both ds [] rest h k = k
none_both ds (phase ∷ before) rest h k = (h.0, none_both ds before rest h.1 k)

not_first : (ds : List Decl) (all : List Phase) (f : SpecFault) → HaveNoFault ds all → IsFirstFault ds all f → ⊥
not_first ds [] f none h = h
not_first ds (phase ∷ all) f none h = elim h [ inl e ↦ none.0 f e | inr n ↦ not_first ds all f none.1 n.1 ]

-- the judgement of declarations
pub accepted : (ds : List Decl) (spec : Spec) → HaveNoFault ds phases → IsTheSpec ds spec → IsTheJudgement ds (Accepted spec)
accepted ds spec none the = record { is = (none, the.is); only = only }
  where
    only : (w : Verdict) → IsJudged ds w → w ≡ Accepted spec
    only (Refused g) h = absurd (not_first ds phases g none h)
    only (Accepted other) h = ap Accepted (the.only other h.1)

pub refused : (ds : List Decl) (f : SpecFault) → IsTheFault ds phases f → IsTheJudgement ds (Refused f)
refused ds f the = record { is = the.is; only = only }
  where
    only : (w : Verdict) → IsJudged ds w → w ≡ Refused f
    only (Refused g) h = ap Refused (the.only g h)
    only (Accepted other) h = absurd (not_first ds phases f h.0 the.is)

-- the verdict on a text with trees, and on one without
pub with_trees : (bytes : Bytes) (ds : List Decl) (v : Verdict) → trees_in bytes ≡ Ok ds → IsTheJudgement ds v → IsTheVerdict bytes v
with_trees bytes ds v is the = record {
  is = subst (λ (r : Result (List Decl) SpecFault). IsOfTrees r v) (sym is) the.is;
  only = λ w h. the.only w (subst (λ (r : Result (List Decl) SpecFault). IsOfTrees r w) is h);
}

pub without_trees : (bytes : Bytes) (f : SpecFault) → trees_in bytes ≡ Err f → IsTheVerdict bytes (Refused f)
without_trees bytes f is = record {
  is = subst (λ (r : Result (List Decl) SpecFault). IsOfTrees r (Refused f)) (sym is) refl;
  only = λ w h. subst (λ (r : Result (List Decl) SpecFault). IsOfTrees r w) is h;
}

-- faults that are computed
pub the_computed : (o : Option SpecFault) (f : SpecFault) → o ≡ Some f → (g : SpecFault) → o ≡ Some g → g ≡ f
the_computed o f e g h = cc

pub none_computed : (o : Option SpecFault) → o ≡ None → (f : SpecFault) → o ≡ Some f → ⊥
none_computed o e f h = cc
