-- A term that is built beside the edited one comes into the place of a node.
use Rattle.std.specs.Prelude.{◌≡◌, ◌≢◌, refl, ℕ, List, [], ◌∷◌, zero, suc, slice_get, Option, None, Some}
use Rattle.std.proofs.Common.{sym, ap, ◌∙◌, subst, inl, inr}
use Rattle.std.proofs.lemmas.Option.{none-some, same_Some}
use Rattle.sg_kinds.specs.Terms.{Term}
use Rattle.sg_kinds.specs.Fits.{Fits}
use Rattle.sg_kinds.specs.Places.{Place, put}
use Rattle.sg_kinds.specs.declared.spec.Spec.{Spec}
use Rattle.sg_eval.specs.declared.journal.Instance.{Instance}
use Rattle.sg_forest.specs.declared.node_id.NodeId.{NodeId}
use Rattle.sg_forest.specs.Node as forest
use Rattle.sg_forest.specs.Steps.{IsDropped, SameSort}
use Rattle.sg_forest.specs.Trees.{Climbs, IsInside, IsLive, IsRoot}
use Rattle.sg_forest.proofs.Paths.{root_is_live}
use Rattle.sg_groves.specs.declared.kind.Kind.{Kind}
use Rattle.sg_groves.specs.declared.part.Part.{Part}
use Rattle.sg_groves.specs.Evaluated.{IsEvaluated}
use Rattle.sg_groves.specs.Grove.{Grove, nodes, IsGrove}
use Rattle.sg_groves.specs.Holds.{Holds}
use Rattle.sg_groves.specs.TermAt.{term_at}
use Rattle.sg_groves.proofs.Held.{held_at, held_fits, part_held}
use Rattle.sg_terms.specs.Entries.{Gained, GainedAll}
use Rattle.sg_terms.specs.Kept.{KeepsTerms}
use Rattle.sg_build.specs.Grown.{GrewBy}
use Rattle.sg_build.proofs.Framed.{grew_outside, grew_root, not_there, there_or_not}
use Rattle.sg_build.proofs.Roots.{one_phylum}
use Rattle.sg_changes.specs.declared.spot.Selection.{Selection}
use Rattle.sg_states.specs.Seen.{settled_spot}
use Rattle.sg_states.specs.Paged.{IsLook, IsWhole}
use Rattle.sg_exchanges.specs.Noted.{NotedPut}
use Rattle.sg_exchanges.specs.Puts.{MayPut, IsPut}
use Rattle.sg_exchanges.specs.Roots.{KeepsTree}
use Rattle.sg_exchanges.specs.Turns.{MayTurn, IsTurned, Notes, NotesSome}
use Rattle.sg_exchanges.specs.declared.turns.Turned.{Turned}
use Rattle.sg_exchanges.specs.declared.turns.What.TheVariants.{Tree}
use Rattle.sg_exchanges.proofs.Hanging.{roots_alike, times_swap}
use Rattle.sg_exchanges.proofs.Putting.{seen_as}
use Rattle.sg_exchanges.proofs.Times.{grown_roots}
use Rattle.sg_exchanges.proofs.Trees.{climbs_back, climbs_on, whole_kept}

abbrev TheNodes : Type 0
TheNodes = NodeId → Option (forest.Node Kind Part)

-- a node of a tree is there
pub inside_live : (g : Grove) (root n : NodeId) → IsLive (nodes g) root → IsInside (nodes g) n root → IsLive (nodes g) n
inside_live g root n live inside = by inside.path inside.climbs
  where
    by : (u : Place) → Climbs (nodes g) u n root → IsLive (nodes g) n
    by [] same = subst (IsLive (nodes g)) (sym same) live
    by (k ∷ u) climbs = record { node = climbs.1.node; found = climbs.1.found }

module _ (old mid : Grove) (is : IsGrove old) (on : IsGrove mid) (root at d : NodeId) (grew : GrewBy old mid (d ∷ [])) (t : Term) (u : Place) (s : Term) (may : MayPut old root at t u s) (terms : KeepsTerms old mid) (held : Holds mid d s) where
  root_tree : KeepsTree old mid root
  root_tree = record {
    spec = grew.spec;
    view = grew.view;
    pool = grew.pool;
    nodes = λ n inside. grew.before n (inside_live old root n (root_is_live (nodes old) root may.whole.top) inside);
  }

  d_new : (n : NodeId) → IsLive (nodes old) n → n ≢ d
  d_new n live same = not_there old n (ap (nodes old) same ∙ grew.fresh 0 d refl) live

  pub may_turn : MayTurn mid root at (Tree d) t u
  may_turn = record {
    whole = whole_kept old mid root root_tree is on t may.whole;
    fits = subst (λ (z : Spec). Fits z t z.root) (sym grew.spec) may.fits;
    way = climbs_on old mid root root_tree u at may.way;
    may = (
      grew.tops 0 d refl,
      (λ same. d_new root (root_is_live (nodes old) root may.whole.top) (sym same)),
      phyla,
    );
  }
    where
      phyla : SameSort (λ (k : Kind). k.phylum) (nodes mid) at d
      phyla x y there built =
          let part = part_held old is u at root t may.way may.whole.holds in
          let stood = held_fits mid on at x part.0 there (terms at part.0 part.1) in
          let comes = held_fits mid on d y s built held in
          one_phylum old.spec part.0 x.label.phylum may.phylum (subst (λ (z : Spec). Fits z part.0 x.label.phylum) grew.spec stood) (may.stood part.0 part.2)
          ∙ one_phylum old.spec s may.phylum y.label.phylum may.fit (subst (λ (z : Spec). Fits z s y.label.phylum) grew.spec comes)

  comes : term_at mid d ≡ s
  comes = held_at mid on d s held

  module _ (new : Grove) (spec : new.spec ≡ mid.spec) (view : new.view ≡ mid.view) (height : ℕ) (select : Selection) (top : ℕ) (r : Turned) (turned : IsTurned mid new root at (Tree d) t u r.root)
      (looks : (w : Term) → IsWhole new r.root w → IsLook new r.root w (settled_spot new.spec height new.view w select top) r.look) where
    put_as_built : IsPut old new root at t u (term_at mid d) height select top r
    put_as_built = record {
      whole = turned.whole;
      fits = subst (λ (z : Spec). Fits z (put t u (term_at mid d)) z.root) grew.spec turned.fits;
      look = seen_as old new r.root (put t u (term_at mid d)) (spec ∙ grew.spec) (view ∙ grew.view) height select top r.look (looks (put t u (term_at mid d)) turned.whole);
      hanging = λ n x top apart holds. turned.hanging n x (grew_root old mid (d ∷ []) grew n top) apart (d_new n (root_is_live (nodes old) n top)) (terms n x holds);
      out = turned.out;
      roots = λ rest were. turned.roots rest (roots_alike mid (d ∷ (root ∷ rest)) (root ∷ (d ∷ rest)) (λ n. times_swap n root d rest) (grown_roots old mid d grew (root ∷ rest) were));
    }

    pub put_now : IsPut old new root at t u s height select top r
    put_now = subst (λ z. IsPut old new root at t u z height select top r) comes put_as_built

  pub put_notes : (new : Grove) (r : NodeId) (was now : List Instance) → Notes mid new r t u (Tree d) was now → GainedAll new r (put t u s) (IsEvaluated old.spec t u s) was now
  put_notes new r was now notes =
      subst (λ z. GainedAll new r (put t u z) (IsEvaluated old.spec t u z) was now) comes
      (subst (λ (z : Spec). GainedAll new r (put t u (term_at mid d)) (IsEvaluated z t u (term_at mid d)) was now) grew.spec notes)

  pub put_notes_some : (was now : List Instance) → NotesSome mid root t u (Tree d) was now → NotedPut old root None t u s was now
  put_notes_some was now (inl same) = inl same
  put_notes_some was now (inr p) =
      let g = p.some.grove in
      let r = p.some.root in
      inr (record {
        some = record {
          grove = g;
          is = p.some.is;
          same = p.some.same ∙ grew.spec;
          root = r;
          holds = subst (λ z. Holds g r (put t u z)) comes p.some.holds;
          gained = subst (λ z. Gained g r (put t u z) (IsEvaluated old.spec t u z) was now) comes
              (subst (λ (z : Spec). Gained g r (put t u (term_at mid d)) (IsEvaluated z t u (term_at mid d)) was now) grew.spec p.some.gained);
        };
        tree = record {
          outside = λ v n out c. climbs_back old mid root root_tree is on v n (p.tree.outside v n out c);
          inside = λ v n c. grew_outside old mid (d ∷ []) grew is 0 n d refl (record { path = v; climbs = (p.tree.inside v n c).2 });
        };
      })

-- what was built is gone again
module _ (old mid back new : Grove) (is : IsGrove old) (d : NodeId) (grew : GrewBy old mid (d ∷ [])) (same : (n : NodeId) → nodes back n ≡ nodes mid n) where
  nodes_same : nodes back ≡ nodes mid
  nodes_same = λ i n. same n i

  pub built_root : IsRoot (nodes back) d
  built_root = (let top = grew.tops 0 d refl in record { node = top.node; found = same d ∙ top.found; top = top.top })

  module _ (dropped : IsDropped (nodes back) (nodes new) d) where
    was_free : (n : NodeId) → IsInside (nodes back) n d → nodes old n ≡ None
    was_free n inside = grew_outside old mid (d ∷ []) grew is 0 n d refl (subst (λ (f : TheNodes). IsInside f n d) nodes_same inside)

    free_again : (n : NodeId) → nodes old n ≡ None → IsLive (nodes new) n → ⊥
    free_again n none live = not_there new n (dropped.gone n inside) live
      where
        outside : IsInside (nodes back) n d → ⊥
        outside inside = not_there new n (dropped.gone n inside) live

        there : IsLive (nodes mid) n
        there = record { node = live.node; found = sym (same n) ∙ sym (dropped.others n outside) ∙ live.found }

        inside : IsInside (nodes back) n d
        inside =
            let one = grew.added n none there in
            subst (λ (f : TheNodes). IsInside f n d) (sym nodes_same) (subst (IsInside (nodes mid) n) (only one.place one.root one.at) one.inside)
          where
            only : (k : ℕ) (r : NodeId) → slice_get (d ∷ []) k ≡ Some r → r ≡ d
            only zero r e = sym (same_Some d r e)
            only (suc k) r e = absurd (none-some r e)

    pub as_was : (n : NodeId) → nodes new n ≡ nodes old n
    as_was n = elim (there_or_not old n) [
      | inr live ↦ dropped.others n (λ inside. not_there old n (was_free n inside) live) ∙ same n ∙ grew.before n live
      | inl none ↦ elim (there_or_not new n) [ inl free ↦ free ∙ sym none | inr live ↦ absurd (free_again n none live) ]
    ]
