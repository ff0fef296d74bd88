-- A term that is built in a grove of its own, and attributed.
use Rattle.std.specs.Prelude.{◌≡◌, refl, List, [], ◌∷◌, Contains, None}
use Rattle.std.proofs.Common.{sym, ◌∙◌, subst, inr}
use Rattle.sg_kinds.specs.Terms.{Term}
use Rattle.sg_kinds.specs.Fits.{Fits}
use Rattle.sg_kinds.specs.Instances.{instances}
use Rattle.sg_kinds.specs.Specification.{rules_of}
use Rattle.sg_kinds.specs.declared.spec.Spec.{Spec}
use Rattle.sg_eval.specs.declared.journal.Instance.{Instance}
use Rattle.sg_forest.specs.declared.node_id.NodeId.{NodeId}
use Rattle.sg_forest.specs.Trees.{IsInside}
use Rattle.sg_groves.specs.Grove.{Grove, nodes, IsGrove}
use Rattle.sg_groves.specs.Holds.{Holds}
use Rattle.sg_groves.specs.IsRight.{IsRight}
use Rattle.sg_groves.specs.Unchanged.{OnlyStored}
use Rattle.sg_groves.proofs.Frames.{only_root, only_was_root}
use Rattle.sg_terms.specs.Entries.{Gained, GainedAll}
use Rattle.sg_build.specs.Grown.{GrewBy}
use Rattle.sg_propagate.proofs.Replaced.{gained_all_after}
use Rattle.sg_states.specs.Paged.{IsWhole}
use Rattle.sg_exchanges.specs.Noted.{Noted}
use Rattle.sg_exchanges.specs.Roots.{AreTheRoots}
use Rattle.sg_exchanges.proofs.Free.{root_free}
use Rattle.sg_exchanges.proofs.Times.{grown_roots, no_roots}

module _ (empty built new : Grove) (spec : Spec) (root : NodeId) (t : Term) (spec_is : empty.spec ≡ spec) (none : (n : NodeId) → nodes empty n ≡ None) (grew : GrewBy empty built (root ∷ [])) where
  built_spec : built.spec ≡ spec
  built_spec = grew.spec ∙ spec_is

  module _ (frame : OnlyStored built new (λ n slot. IsInside (nodes built) n root)) where
    pub new_spec : new.spec ≡ spec
    new_spec = frame.spec ∙ built_spec

    pub whole : IsGrove new → Fits spec t spec.root → Holds new root t → IsRight new root → IsWhole new root t
    whole is fits holds right =
        let top = only_root built new (λ n slot. IsInside (nodes built) n root) frame root (grew.tops 0 root refl) in
        record {
          top = top;
          holds = holds;
          right = right;
          free = root_free new is root t holds (subst (λ (s : Spec). Fits s t s.root) (sym new_spec) fits) top.node top.found;
        }

    pub roots : AreTheRoots new (root ∷ [])
    roots =
        let were = grown_roots empty built root grew [] (no_roots empty none) in
        record {
          once = were.once;
          are = λ m. (
            (λ r. (were.are m).0 (only_was_root built new (λ n slot. IsInside (nodes built) n root) frame m r)),
            (λ one. only_root built new (λ n slot. IsInside (nodes built) n root) frame m ((were.are m).1 one)),
          );
        }

    pub evaluated : (was now : List Instance) → GainedAll built root t (Contains (instances (rules_of built.spec) t)) was now → GainedAll new root t (Contains (instances (rules_of spec) t)) was now
    evaluated was now all =
        gained_all_after built new (λ n slot. IsInside (nodes built) n root) frame root t (Contains (instances (rules_of spec) t)) was now
        (subst (λ (s : Spec). GainedAll built root t (Contains (instances (rules_of s) t)) was now) built_spec all)

  pub refused : IsGrove built → Holds built root t → (was now : List Instance) → Gained built root t (Contains (instances (rules_of built.spec) t)) was now → Noted spec t (Contains (instances (rules_of spec) t)) was now
  refused is held was now some = inr (record {
    grove = built;
    is = is;
    same = built_spec;
    root = root;
    holds = held;
    gained = subst (λ (s : Spec). Gained built root t (Contains (instances (rules_of s) t)) was now) built_spec some;
  })
