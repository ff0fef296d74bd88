-- What stays of a scene where values are stored.
use Rattle.std.specs.Prelude.{◌≡◌, ◌∷◌, ◌++◌}
use Rattle.std.proofs.Common.{sym, ◌∙◌, subst, inl, inr}
use Rattle.sg_kinds.specs.Places.{Place}
use Rattle.sg_kinds.specs.Nets.{Reference}
use Rattle.sg_kinds.specs.Specification.{rules_of}
use Rattle.sg_kinds.specs.declared.plans.Plans.{Plans}
use Rattle.sg_forest.specs.declared.node_id.NodeId.{NodeId}
use Rattle.sg_forest.specs.Trees.{IsRoot, Climbs}
use Rattle.sg_groves.specs.Grove.{Grove, nodes, IsGrove}
use Rattle.sg_groves.specs.Stored.{value_there}
use Rattle.sg_groves.specs.Unchanged.{OnlyStored}
use Rattle.sg_groves.proofs.Frames.{only_climbs, only_climbed, only_value}
use Rattle.sg_groves.proofs.Ways.{one_way}
use Rattle.sg_plans.specs.Planned.{IsPlanned}
use Rattle.sg_plans.specs.Segments.{IsOutside}
use Rattle.sg_plans.proofs.Bearers.{found_bears, found_live}
use Rattle.sg_attrib.proofs.Placed.{placed_still}
use Rattle.sg_propagate.specs.Worklist.{Worklist}
use Rattle.sg_propagate.proofs.Changing.{cut, same_or_not}
use Rattle.sg_propagate.specs.Scenes.{Scene, term_now, value_now, value_was, IsMeant, IsCalm, AreNoted, IsStaged, IsFine}
use Rattle.sg_propagate.specs.Moves.{IsRefSlot, IsMore, IsOnStage}

-- what is not to be evaluated is outside the new subterm, has no changed argument, and keeps its value
module _ (sc : Scene) (a : Reference Place) (c : IsCalm sc a) where
  pub calm_outside : IsOutside sc.place c.site.node
  calm_outside w e = c.still (record { site = c.site; found = c.found; why = inl (record { below = w; is = e }) })

  pub calm_same : (plans : Plans) → IsPlanned sc.spec plans sc.was → IsPlanned sc.spec plans (term_now sc) → value_now sc a ≡ value_was sc a
  calm_same plans was_planned planned =
      subst (λ b. value_now sc b ≡ value_was sc b) (found_bears (rules_of sc.spec) (term_now sc) a c.site c.found)
      (cut sc.spec plans sc.was sc.part sc.place was_planned planned c.site (found_live (rules_of sc.spec) (term_now sc) a c.site c.found) calm_outside (λ b has. elim (same_or_not (value_now sc b) (value_was sc b)) [
        | inl same ↦ same
        | inr other ↦ absurd (c.still (record { site = c.site; found = c.found; why = inr (λ below. calm_outside below.below below.is, record { arg = b; named = has; changed = other }) }))
      ]))

-- and so it is fine
pub calm_fine : (plans : Plans) (sc : Scene) (g : Grove) (w : Worklist) → IsStaged plans sc g w → (a : Reference Place) (m : NodeId) → IsCalm sc a → Climbs (nodes g) a.node m sc.root → IsFine sc g w a m
calm_fine plans sc g w staged a m calm climbs = record {
  right = staged.calm a m calm climbs;
  noted = λ far other. absurd (other (calm_same sc a calm plans staged.was_planned staged.planned));
  awake = λ far other. absurd (other (calm_same sc a calm plans staged.was_planned staged.planned));
}

pub more_itself : (w : Worklist) → IsMore w w
more_itself w = record { changed = λ x has. has; active = λ n has. has }

pub more_twice : (u v w : Worklist) → IsMore u v → IsMore v w → IsMore u w
more_twice u v w one two = record { changed = λ x has. two.changed x (one.changed x has); active = λ n has. two.active n (one.active n has) }

-- a reference is told by its node and its slot
pub same_ref : (g : Grove) → IsGrove g → (root m : NodeId) → IsRoot (nodes g) root → (a b : Reference Place) → Climbs (nodes g) a.node m root → Climbs (nodes g) b.node m root → a.slot ≡ b.slot → a ≡ b
same_ref g is root m top a b one two slot = let way = one_way g is a.node b.node m root root top top one two in λ i. record { node = way.0 i; slot = slot i }

module _ (plans : Plans) (sc : Scene) (g new : Grove) (is : IsGrove g) (before after : Worklist) (refs : Reference Place → Type 0) (staged : IsStaged plans sc g before) (frame : OnlyStored g new (IsRefSlot g sc refs)) where
  not_written : (a : Reference Place) (m : NodeId) → Climbs (nodes g) a.node m sc.root → (refs a → ⊥) → IsRefSlot g sc refs m a.slot → ⊥
  not_written a m climbs out wr = out (subst refs (same_ref g is sc.root m staged.placed.top wr.ref a wr.climbs climbs (sym wr.same)) wr.of_refs)

  pub value_kept : (a : Reference Place) (m : NodeId) → Climbs (nodes g) a.node m sc.root → (refs a → ⊥) → value_there new m a.slot ≡ value_there g m a.slot
  value_kept a m climbs out = only_value g new (IsRefSlot g sc refs) frame is m a.slot (not_written a m climbs out)

  pub fine_kept : IsMore before after → (a : Reference Place) (m : NodeId) → Climbs (nodes g) a.node m sc.root → (refs a → ⊥) → IsFine sc g before a m → IsFine sc new after a m
  fine_kept more a m climbs out fine = record {
    right = value_kept a m climbs out ∙ fine.right;
    noted = λ far other. more.changed (m.key, a.slot) (fine.noted far other);
    awake = λ far other i found above. more.active m.key (fine.awake far other i found above);
  }

  pub climbed : (u : Place) (n m : NodeId) → Climbs (nodes new) u n m → Climbs (nodes g) u n m
  climbed = only_climbed g new (IsRefSlot g sc refs) frame

  pub staged_still : ((a : Reference Place) → refs a → IsMeant sc a) → IsMore before after → AreNoted sc new after → IsStaged plans sc new after
  staged_still meant more noted = record {
    spec_is = frame.spec ∙ staged.spec_is;
    placed = placed_still g new (IsRefSlot g sc refs) frame is sc.top sc.root (term_now sc) sc.place staged.placed;
    was_planned = staged.was_planned;
    planned = staged.planned;
    apart = λ inside. staged.apart (record { path = inside.path; climbs = climbed inside.path sc.left sc.root inside.climbs });
    kept = λ X slot left attr. only_value g new (IsRefSlot g sc refs) frame is sc.left slot (λ wr. staged.apart (record { path = wr.ref.node; climbs = wr.climbs })) ∙ staged.kept X slot left attr;
    calm = λ a m calm climbs. let up = climbed a.node m sc.root climbs in value_kept a m up (λ r. calm.still (meant a r)) ∙ staged.calm a m calm up;
    noted = noted;
  }

  pub on_stage_still : ((a : Reference Place) → refs a → IsMeant sc a) → IsMore before after → AreNoted sc new after → (top left n : NodeId) (v : Place) → IsOnStage plans sc g before top left n v → IsOnStage plans sc new after top left n v
  unfolding staged_still
  on_stage_still meant more noted top left n v on = record {
    staged = staged_still meant more noted;
    top_is = on.top_is;
    left_is = on.left_is;
    climbs = only_climbs g new (IsRefSlot g sc refs) frame v n sc.root on.climbs;
    outside = on.outside;
    awake = λ x y j l m at up. more.active m.key (on.awake x y j l m at (climbed ((l ∷ y) ++ v) m sc.root up));
  }

  -- the same slots are noted
  pub noted_still : AreNoted sc g before → AreNoted sc new before
  noted_still noted x has = let one = noted x has in record { ref = one.ref; node = one.node; is = one.is; climbs = only_climbs g new (IsRefSlot g sc refs) frame one.ref.node one.node sc.root one.climbs; other = one.other }
