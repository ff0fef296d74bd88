-- Cases as a list of arms before a tail.
use Rattle.std.specs.Prelude.{◌≡◌, refl, List, [], ◌∷◌, ◌++◌}
use Rattle.std.proofs.Common.{sym, ◌∙◌, ap, rules, ◌≤◌}
use Rattle.sg_kinds.specs.Expressions.{Pattern, Cases, Case}
use Rattle.sg_kinds.specs.ExprView.{expr_of, cases_of}
use Rattle.sg_kinds.specs.declared.expr.CaseList.{CaseList, size-CaseList}
use Rattle.sg_kinds.specs.declared.expr.CaseList.TheVariants as cases
use Rattle.sg_kinds.specs.declared.trees.Arm.{Arm}

abbrev pub arms_before : List Arm → Cases → Cases
arms_before [] cs = cs
arms_before (a ∷ arms) cs = Case a.pattern a.expr (arms_before arms cs)

pub arms_push : (arms : List Arm) (a : Arm) (cs : Cases) → arms_before (arms ++ a ∷ []) cs ≡ arms_before arms (Case a.pattern a.expr cs)
arms_push [] a cs = refl
arms_push (b ∷ arms) a cs = ap (Case b.pattern b.expr) (arms_push arms a cs)

-- what is behind the first case is smaller
pub smaller_rest : (whole rest : CaseList) (x : Pattern) (first : _) (next : _) → whole ≡ cases.More x first next → rest ≡ next.value → size-CaseList rest ≤ size-CaseList whole
unfolding Rattle.sg_kinds.specs.declared.expr.CaseList.TheBlock.the_depth denote.Hole.Rolled.depth denote.Hole.Carrier.fold
smaller_rest whole rest x first next is e = rw (is, e) (search rules)

-- a case is moved from what is left to the arms
pub arms_next : (whole rest : CaseList) (x : Pattern) (first : _) (next : _) (arms pushed : List Arm) (a : Arm) (all : Cases) → whole ≡ cases.More x first next → rest ≡ next.value
    → a.pattern ≡ x → a.expr ≡ expr_of first.value → pushed ≡ arms ++ a ∷ [] → arms_before arms (cases_of whole) ≡ all → arms_before pushed (cases_of rest) ≡ all
arms_next whole rest x first next arms pushed a all is e p f push before =
    ap (λ l. arms_before l (cases_of rest)) push ∙ arms_push arms a (cases_of rest) ∙ ap (arms_before arms) ((λ i. Case (p i) (f i) (cases_of (e i))) ∙ sym (ap cases_of is)) ∙ before
