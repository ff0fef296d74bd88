-- The changes that steps stand for, where tops hold the same, and where one of them is gone along.
use Rattle.std.specs.Prelude.{◌≡◌, refl, ℕ, zero, suc, List, [], ◌∷◌, take, Some}
use Rattle.std.proofs.Common.{sym, ap, ◌∙◌, subst}
use Rattle.std.proofs.lemmas.List.Elements.{Contains-append_left, Contains-append_right}
use Rattle.sg_kinds.specs.Terms.{Term}
use Rattle.sg_kinds.specs.Places.{place_of, put, sub}
use Rattle.sg_kinds.specs.Sound.{IsSmall}
use Rattle.sg_kinds.specs.declared.spec.Spec.{Spec}
use Rattle.sg_groves.proofs.Lists.{contains_first}
use Rattle.sg_forest.specs.declared.node_id.NodeId.{NodeId}
use Rattle.sg_changes.specs.declared.direction.Direction.{Direction}
use Rattle.sg_changes.specs.declared.direction.Direction.TheVariants.{Back, Forth}
use Rattle.sg_changes.specs.declared.spot.Spot.{Spot}
use Rattle.sg_changes.specs.declared.step.Step.{Step}
use Rattle.sg_changes.specs.declared.step.Step.TheVariants.{Replaced, Marked}
use Rattle.sg_changes.specs.declared.step.Marks.{Marks}
use Rattle.sg_changes.specs.Changes.{Change, Put, Mark, opposite, part_of, marks_at, marked, term_along}
use Rattle.sg_changes.specs.Chain.{Stands, AllGo}
use Rattle.sg_changes.specs.StepChanges.{hanging, hung, tops_of, tops, change_along, told_along, told_past, Goes, Agree, Exchanged, HoldsPart}
use Rattle.sg_changes.proofs.Marking.{part_put}
use Rattle.sg_changes.proofs.Chained.{there_and_back, go_chains, go_fewer}

-- the first steps alone
pub told_fewer : (tree : NodeId → Term) (d : Direction) (n : ℕ) (t : Term) (ss : List Step) → told_along tree d t (take n ss) ≡ take n (told_along tree d t ss)
told_fewer tree d zero t ss = refl
told_fewer tree d (suc n) t [] = refl
told_fewer tree d (suc n) t (s ∷ ss) = ap (λ cs. change_along tree d t s ∷ cs) (told_fewer tree d n (term_along d t (change_along tree d t s)) ss)

pub goes_fewer : (d : Direction) (spec : Spec) (IsSpotOf : Term → Spot → Type 0) (tree : NodeId → Term) (n : ℕ) (t : Term) (ss : List Step)
    → Goes d spec IsSpotOf tree t ss → Goes d spec IsSpotOf tree t (take n ss)
goes_fewer d spec IsSpotOf tree n t ss all =
    subst (AllGo spec IsSpotOf d t) (sym (told_fewer tree d n t ss)) (go_fewer spec IsSpotOf d n t (told_along tree d t ss) all)

module _ (old new : NodeId → Term) where
  -- one change
  change_agrees : (d : Direction) (t : Term) (s : Step) → Agree old new (hanging s) → change_along new d t s ≡ change_along old d t s
  change_agrees Back t (Replaced path hangs before after) agree =
      ap (λ x. Put (place_of path) x (part_of t (place_of path)) before after) (agree hangs (contains_first hangs []))
  change_agrees Back t (Marked path was made before after) agree = refl
  change_agrees Forth t (Replaced path hangs before after) agree =
      ap (λ x. Put (place_of path) (part_of t (place_of path)) x before after) (agree hangs (contains_first hangs []))
  change_agrees Forth t (Marked path was made before after) agree = refl

  -- all changes
  pub told_agrees : (d : Direction) (t : Term) (ss : List Step) → Agree old new (tops_of ss) → told_along new d t ss ≡ told_along old d t ss
  told_agrees d t [] agree = refl
  told_agrees d t (s ∷ ss) agree =
      ap (λ c. c ∷ told_along new d (term_along d t c) ss) (change_agrees d t s (λ n has. agree n (Contains-append_left (hanging s) (tops_of ss) n has)))
      ∙ ap (λ cs. change_along old d t s ∷ cs) (told_agrees d (term_along d t (change_along old d t s)) ss (λ n has. agree n (Contains-append_right (hanging s) (tops_of ss) n has)))

  -- the tops of both sides
  pub agree_first : (one two : List Step) → Agree old new (tops one two) → Agree old new (tops_of one)
  agree_first one two agree n has = agree n (Contains-append_left (tops_of one) (tops_of two) n has)

  pub agree_second : (one two : List Step) → Agree old new (tops one two) → Agree old new (tops_of two)
  agree_second one two agree n has = agree n (Contains-append_right (tops_of one) (tops_of two) n has)

  -- a step that keeps a change that was gone along is the nearest one behind
  pushed : (d : Direction) (t : Term) (c : Change) (s : Step) (behind : List Step) → Stands d t c → change_along new (opposite d) (term_along d t c) s ≡ c → Agree old new (tops_of behind)
      → told_along new (opposite d) (term_along d t c) (s ∷ behind) ≡ c ∷ told_along old (opposite d) t behind
  pushed d t c s behind at kept agree =
      ap (λ e. e ∷ told_along new (opposite d) (term_along (opposite d) (term_along d t c) e) behind) kept
      ∙ ap (λ r. c ∷ told_along new (opposite d) r behind) (there_and_back d t c at)
      ∙ ap (λ cs. c ∷ cs) (told_agrees (opposite d) t behind agree)

  pub put_pushed : (t s y : Term) (path : List ℕ) (x : NodeId) (before after : Spot) (past : List Step)
      → sub t (place_of path) ≡ Some y → new x ≡ y → Agree old new (tops_of past)
      → told_past new (put t (place_of path) s) (Replaced path x before after ∷ past) ≡ Put (place_of path) y s before after ∷ told_past old t past
  put_pushed t s y path x before after past at holds agree =
      let u = place_of path in
      pushed Forth t (Put u y s before after) (Replaced path x before after) past at
      (ap (λ z. Put u z (part_of (put t u s) u) before after) holds ∙ ap (λ z. Put u y z before after) (part_put t u y s at))
      agree

  pub mark_pushed : (t : Term) (path : List ℕ) (was made : Marks) (before after : Spot) (past : List Step)
      → marks_at t (place_of path) ≡ Some was → Agree old new (tops_of past)
      → told_past new (marked t (place_of path) made) (Marked path was made before after ∷ past) ≡ Mark (place_of path) was made before after ∷ told_past old t past
  mark_pushed t path was made before after past at agree =
      pushed Forth t (Mark (place_of path) was made before after) (Marked path was made before after) past at refl agree

  -- a step that was gone along is the same change on the other side
  gone_step : (d : Direction) (t : Term) (s : Step) (x : NodeId) → Stands d t (change_along old d t s) → HoldsPart new t s x
      → change_along new (opposite d) (term_along d t (change_along old d t s)) (hung s x) ≡ change_along old d t s
  gone_step Back t (Replaced path hangs before after) x at holds =
      let u = place_of path in
      ap (λ y. Put u y (new x) before after) (part_put t u (part_of t u) (old hangs) at)
      ∙ ap (λ y. Put u (old hangs) y before after) holds
  gone_step Back t (Marked path was made before after) x at holds = refl
  gone_step Forth t (Replaced path hangs before after) x at holds =
      let u = place_of path in
      ap (λ y. Put u (new x) y before after) (part_put t u (part_of t u) (old hangs) at)
      ∙ ap (λ y. Put u y (old hangs) before after) holds
  gone_step Forth t (Marked path was made before after) x at holds = refl

  -- the nearest step ahead goes to the other side
  module _ (d : Direction) (t : Term) (s : Step) (x : NodeId) (ahead behind : List Step) (turn : Exchanged old new t s x ahead behind) where
    pub told_ahead : told_along new d (term_along d t (change_along old d t s)) ahead ≡ told_along old d (term_along d t (change_along old d t s)) ahead
    told_ahead = told_agrees d (term_along d t (change_along old d t s)) ahead (agree_first ahead behind turn.others)

    pub told_behind : Stands d t (change_along old d t s)
        → told_along new (opposite d) (term_along d t (change_along old d t s)) (hung s x ∷ behind) ≡ change_along old d t s ∷ told_along old (opposite d) t behind
    told_behind at =
        pushed d t (change_along old d t s) (hung s x) behind at (gone_step d t s x at turn.top) (agree_second ahead behind turn.others)

    module _ (spec : Spec) (IsSpotOf : Term → Spot → Type 0) (all : Goes d spec IsSpotOf old t (s ∷ ahead)) where
      pub goes_ahead : Goes d spec IsSpotOf new (term_along d t (change_along old d t s)) ahead
      goes_ahead = subst (AllGo spec IsSpotOf d (term_along d t (change_along old d t s))) (sym told_ahead) all.1

      pub goes_behind : IsSmall t → Goes (opposite d) spec IsSpotOf old t behind
          → Goes (opposite d) spec IsSpotOf new (term_along d t (change_along old d t s)) (hung s x ∷ behind)
      goes_behind small back =
          let c = change_along old d t s in
          subst (AllGo spec IsSpotOf (opposite d) (term_along d t c)) (sym (told_behind (all.0).stands))
          (go_chains spec IsSpotOf d t c (told_along old (opposite d) t behind) small all.0 back)

  -- and where tops hold the same
  pub goes_agrees : (d : Direction) (spec : Spec) (IsSpotOf : Term → Spot → Type 0) (t : Term) (ss : List Step) → Agree old new (tops_of ss)
      → Goes d spec IsSpotOf old t ss → Goes d spec IsSpotOf new t ss
  goes_agrees d spec IsSpotOf t ss agree all = subst (AllGo spec IsSpotOf d t) (sym (told_agrees d t ss agree)) all
