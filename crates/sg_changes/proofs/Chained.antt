-- Changes along which a way goes and comes back.
use Rattle.std.specs.Prelude.{◌≡◌, refl, ℕ, zero, suc, List, [], ◌∷◌, take}
use Rattle.std.proofs.Common.{sym, ◌∙◌, subst}
use Rattle.sg_kinds.specs.Terms.{Term}
use Rattle.sg_kinds.specs.Sound.{IsSmall}
use Rattle.sg_kinds.specs.declared.spec.Spec.{Spec}
use Rattle.sg_kinds.proofs.TermLaws.{sub_put, put_sub}
use Rattle.sg_groves.proofs.Puts.{put_put}
use Rattle.sg_changes.specs.declared.direction.Direction.{Direction}
use Rattle.sg_changes.specs.declared.direction.Direction.TheVariants.{Back, Forth}
use Rattle.sg_changes.specs.declared.spot.Spot.{Spot}
use Rattle.sg_changes.specs.Changes.{Change, Put, Mark, opposite, spot_along, term_along}
use Rattle.sg_changes.specs.Chain.{Stands, CanGo, AllGo}
use Rattle.sg_changes.proofs.Marking.{marks_marked, marked_back}

pub opposite_twice : (d : Direction) → opposite (opposite d) ≡ d
opposite_twice Back = refl
opposite_twice Forth = refl

-- the way back stands there
pub stands_behind : (d : Direction) (t : Term) (c : Change) → Stands d t c → Stands (opposite d) (term_along d t c) c
stands_behind Back t (Put u old new before after) at = sub_put t u new old at
stands_behind Back t (Mark u old new before after) at = marks_marked t u new old at
stands_behind Forth t (Put u old new before after) at = sub_put t u old new at
stands_behind Forth t (Mark u old new before after) at = marks_marked t u old new at

-- and leads to the term again
pub there_and_back : (d : Direction) (t : Term) (c : Change) → Stands d t c → term_along (opposite d) (term_along d t c) c ≡ t
there_and_back Back t (Put u old new before after) at = put_put t u old new ∙ put_sub t u new at
there_and_back Back t (Mark u old new before after) at = marked_back t u new old at
there_and_back Forth t (Put u old new before after) at = put_put t u new old ∙ put_sub t u old at
there_and_back Forth t (Mark u old new before after) at = marked_back t u old new at

module _ (spec : Spec) (IsSpotOf : Term → Spot → Type 0) where
  -- a change that was gone along is the nearest one behind
  pub go_chains : (d : Direction) (t : Term) (c : Change) (cs : List Change) → IsSmall t → CanGo spec IsSpotOf d t c → AllGo spec IsSpotOf (opposite d) t cs
      → AllGo spec IsSpotOf (opposite d) (term_along d t c) (c ∷ cs)
  go_chains d t c cs small can all = (
    record {
      stands = stands_behind d t c can.stands;
      proper = can.proper;
      small = subst IsSmall (sym back) small;
      here = subst (λ e. IsSpotOf (term_along d t c) (spot_along e c)) (sym (opposite_twice d)) can.there;
      there = subst (λ s. IsSpotOf s (spot_along (opposite d) c)) (sym back) can.here;
    },
    subst (λ s. AllGo spec IsSpotOf (opposite d) s cs) (sym back) all,
  )
    where
      back : term_along (opposite d) (term_along d t c) c ≡ t
      back = there_and_back d t c can.stands

  -- the nearest ones alone
  pub go_fewer : (d : Direction) (n : ℕ) (t : Term) (cs : List Change) → AllGo spec IsSpotOf d t cs → AllGo spec IsSpotOf d t (take n cs)
  go_fewer d zero t cs all = tt
  go_fewer d (suc n) t [] all = tt
  go_fewer d (suc n) t (c ∷ cs) all = (all.0, go_fewer d n (term_along d t c) cs all.1)
