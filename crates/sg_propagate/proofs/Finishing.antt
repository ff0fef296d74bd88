-- The tree after an exchange, brought up to date from its root.
use Rattle.std.specs.Prelude.{◌≡◌, ℕ, true, false, List, [], ◌∷◌, ◌++◌, length, Contains, Some, Result}
use Rattle.std.proofs.Common.{sym, ap, ◌∙◌, subst, arith}
use Rattle.std.proofs.lemmas.List.{length-append}
use Rattle.sg_kinds.specs.Places.{Place, sub}
use Rattle.sg_kinds.specs.Nets.{label_of, phylum_at}
use Rattle.sg_kinds.specs.Dependencies.{IsAttr}
use Rattle.sg_kinds.specs.Specification.{is_inherited, rules_of}
use Rattle.sg_kinds.specs.declared.plans.Plans.{Plans}
use Rattle.sg_kinds.specs.declared.spec.Spec.{Spec}
use Rattle.sg_eval.specs.declared.journal.Instance.{Instance}
use Rattle.sg_forest.specs.declared.node_id.NodeId.{NodeId}
use Rattle.sg_forest.specs.Node as forest
use Rattle.sg_forest.specs.Trees.{IsChild, IsInside, IsRoot, Climbs}
use Rattle.sg_forest.proofs.Paths.{one_parent, root_is_no_child}
use Rattle.sg_forest.proofs.Shape.{KeepsShape-back}
use Rattle.sg_groves.specs.declared.kind.Kind.{Kind}
use Rattle.sg_groves.specs.declared.part.Part.{Part}
use Rattle.sg_groves.specs.Grove.{Grove, nodes, IsGrove}
use Rattle.sg_groves.specs.Stored.{number_at}
use Rattle.sg_groves.specs.Unchanged.{OnlyStored}
use Rattle.sg_groves.proofs.Frames.{only_climbed, only_climbs, only_more, only_was_root}
use Rattle.sg_groves.proofs.Held.{held_fits, part_held}
use Rattle.sg_groves.proofs.Lists.{contains_none}
use Rattle.sg_plans.proofs.Nodes.{fitting_phylum}
use Rattle.sg_trail.specs.Trails.{Way}
use Rattle.sg_propagate.specs.Worklist.{Worklist}
use Rattle.sg_propagate.specs.Moves.{Finishes, IsOnStage, IsSlotAt, IsTouched, IsTracked, Repairs, within}
use Rattle.sg_propagate.specs.Scenes.{Scene, term_now, AreStale, AreTops, IsSetUp, IsStaged}
use Rattle.sg_propagate.proofs.Risen.{IsEquation, NeedsNothing, not_longer}
use Rattle.sg_propagate.proofs.Started.{all_stale, finished, started}
use Rattle.sg_propagate.proofs.Tops.{inherited_attr}
use Rattle.sg_propagate.proofs.Tracked.{tracked_still}

-- the phylum of the root is the same
pub kept_inherits : (old mid : Grove) (changed : NodeId → ℕ → Type 0) → OnlyStored old mid changed → (top : NodeId) → ((root : NodeId) (x : forest.Node Kind Part) → IsRoot (nodes old) root → IsInside (nodes old) top root → nodes old root ≡ Some x → (slot : ℕ) → is_inherited old.spec.phyla x.label.phylum slot ≡ false)
    → (root : NodeId) → IsRoot (nodes mid) root → IsInside (nodes mid) top root → (x : forest.Node Kind Part) → nodes mid root ≡ Some x → (slot : ℕ) → is_inherited mid.spec.phyla x.label.phylum slot ≡ false
kept_inherits old mid changed only top none root is_root inside x found slot =
    let was = (KeepsShape-back (nodes old) (nodes mid) only.shape).kept root x found in
    ap (λ (z : Spec). is_inherited z.phyla x.label.phylum slot) only.spec
    ∙ ap (λ (l : Kind). is_inherited old.spec.phyla l.phylum slot) (sym was.2)
    ∙ none root was.0 (only_was_root old mid changed only root is_root) (record { path = inside.path; climbs = only_climbed old mid changed only inside.path top root inside.climbs }) was.1 slot

module _ (plans : Plans) (old mid : Grove) (is : IsGrove old) (is_mid : IsGrove mid) (top left : NodeId) (tops : AreTops old top left) (hangs : IsRoot (nodes old) top → ⊥) (only : OnlyStored old mid (IsSlotAt top))
    (handed : (x : forest.Node Kind Part) (slot : ℕ) → nodes old top ≡ Some x → is_inherited old.spec.phyla x.label.phylum slot ≡ true → IsAttr (rules_of old.spec) x.label.phylum slot → number_at mid top slot ≡ number_at old left slot) where
  -- what was handed over is covered
  pub tracked_over : (first : Grove) (way : Way) → IsTracked first old top way → IsTracked first mid top way
  tracked_over first way tracked = tracked_still old mid (IsSlotAt top) only first top way (λ n op slot id at number same. tracked.covered n op slot id (record { path = []; climbs = same }) at number) tracked

  module _ (sc : Scene) (set : IsSetUp plans sc old) (top_is : sc.top ≡ top) (left_is : sc.left ≡ left) where
    touched : OnlyStored old mid (IsTouched old sc)
    touched = only_more old mid (IsSlotAt top) (IsTouched old sc) (λ m slot same. within (record { path = []; climbs = same ∙ sym top_is })) only

    abbrev x : forest.Node Kind Part
    x = tops.top_live.node

    placed_top : Climbs (nodes old) sc.place top sc.root
    placed_top = subst (λ c. Climbs (nodes old) sc.place c sc.root) top_is set.placed.way

    phylum_there : phylum_at sc.spec.ops (label_of (sub (term_now sc) sc.place)) ≡ Some x.label.phylum
    phylum_there =
        let part = part_held old is sc.place top sc.root (term_now sc) placed_top set.placed.holds in
        let fits = held_fits old is top x part.0 tops.top_live.found part.1 in
        ap (λ (z : Spec). phylum_at z.ops (label_of (sub (term_now sc) sc.place))) (sym set.spec_is) ∙ ap (λ o. phylum_at old.spec.ops (label_of o)) part.2 ∙ fitting_phylum old.spec part.0 x.label.phylum fits

    only_top : OnlyStored old mid (IsSlotAt sc.top)
    only_top = subst (λ c. OnlyStored old mid (IsSlotAt c)) (sym top_is) only

    attr_there : (slot : ℕ) → is_inherited sc.spec.phyla x.label.phylum slot ≡ true → IsAttr (rules_of sc.spec) x.label.phylum slot
    attr_there slot inherited = inherited_attr sc.spec x.label.phylum slot inherited

    handed_there : (slot : ℕ) → is_inherited sc.spec.phyla x.label.phylum slot ≡ true → IsAttr (rules_of sc.spec) x.label.phylum slot → number_at mid sc.top slot ≡ number_at old sc.left slot
    handed_there slot inherited attr =
        ap (λ c. number_at mid c slot) top_is
        ∙ handed x slot tops.top_live.found (ap (λ (z : Spec). is_inherited z.phyla x.label.phylum slot) set.spec_is ∙ inherited) (subst (λ (z : Spec). IsAttr (rules_of z) x.label.phylum slot) (sym set.spec_is) attr)
        ∙ ap (λ c. number_at old c slot) (sym left_is)

    module _ (w : Worklist) (first : NodeId) (kid : ℕ) (empty : w.changed ≡ []) (under : IsChild (nodes mid) top first kid) where
      staged : IsStaged plans sc mid w
      staged = started plans sc old mid is set x.label.phylum phylum_there only_top handed_there attr_there w (λ y has. contains_none y (subst (λ ys. Contains ys y) empty has))

      -- the place of the node above
      pub record IsUnder (u : Place) : Type 0 where
        pub place : Place
        pub split : u ≡ kid ∷ place
        pub climbs : Climbs (nodes mid) place first sc.root

      under_by : (u : Place) → Climbs (nodes mid) u top sc.root → IsUnder u
      under_by [] same = absurd (root_is_no_child (nodes mid) top first kid (subst (IsRoot (nodes mid)) (sym same) staged.placed.top) under)
      under_by (l ∷ v) up = let same = one_parent (nodes mid) top up.0 first l kid up.1 under in record { place = v; split = ap (λ j. j ∷ v) same.1; climbs = subst (λ p. Climbs (nodes mid) v p sc.root) same.0 up.2 }

      pub above : IsUnder sc.place
      above = under_by sc.place (only_climbs old mid (IsSlotAt top) only sc.place top sc.root placed_top)

      pub on_stage : IsOnStage plans sc mid w top left first above.place
      on_stage = record {
        staged = staged;
        top_is = top_is;
        left_is = left_is;
        climbs = above.climbs;
        outside = λ v e. not_longer v kid above.place (e ∙ ap (λ u. v ++ u) above.split);
        awake = λ y z j l m e up. absurd (omega (arith, ap length (sym above.split ∙ e), length-append (j ∷ y) ((l ∷ z) ++ above.place), length-append (l ∷ z) above.place));
      }

      pub finishes_all : {A E : Type 0} (from to : Way) (new : Grove) (after : Worklist) (was now : List Instance) (r : Result A E) → Repairs plans NeedsNothing IsEquation IsEquation top left first mid new w after from to was now r → Finishes sc old new was now r
      finishes_all from to new after was now r repairs =
          finished plans sc old mid is set x.label.phylum phylum_there only_top handed_there attr_there w after new was now r
          (repairs.moves sc above.place on_stage (λ a m none. absurd none)
          (all_stale plans sc old mid is set x.label.phylum phylum_there only_top handed_there attr_there (IsEquation (rules_of sc.spec) (term_now sc) above.place)))

      pub stale_all : AreStale sc mid (IsEquation (rules_of sc.spec) (term_now sc) [])
      stale_all = all_stale plans sc old mid is set x.label.phylum phylum_there only_top handed_there attr_there (IsEquation (rules_of sc.spec) (term_now sc) [])
