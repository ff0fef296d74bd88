-- What the exchange of two trees is as a turn of the edited term.
use Rattle.std.specs.Prelude.{◌≡◌, ◌≢◌, List, ◌∷◌, Some}
use Rattle.std.proofs.Common.{sym, subst, inr}
use Rattle.sg_kinds.specs.Terms.{Term}
use Rattle.sg_kinds.specs.Places.{Place, put}
use Rattle.sg_eval.specs.declared.journal.Instance.{Instance}
use Rattle.sg_forest.specs.declared.node_id.NodeId.{NodeId}
use Rattle.sg_forest.specs.Trees.{IsRoot}
use Rattle.sg_groves.specs.Evaluated.{IsEvaluated}
use Rattle.sg_groves.specs.Grove.{Grove, nodes, IsGrove}
use Rattle.sg_groves.specs.Holds.{Holds}
use Rattle.sg_groves.specs.IsRight.{IsRight}
use Rattle.sg_groves.specs.TermAt.{term_at}
use Rattle.sg_groves.specs.Unchanged.{OnlyStored}
use Rattle.sg_terms.specs.Entries.{Gained, GainedAll}
use Rattle.sg_terms.specs.Kept.{KeepsTermsNotOver}
use Rattle.sg_trail.specs.Trails.{IsAnySlot, IsExchanged}
use Rattle.sg_propagate.specs.Asked.{IsAsked, root_then}
use Rattle.sg_propagate.specs.Exchanged.{KeepsOtherRoots}
use Rattle.sg_states.specs.Paged.{IsWhole}
use Rattle.sg_exchanges.specs.Noted.{IsTreeThen}
use Rattle.sg_exchanges.specs.Roots.{AreTheRoots}
use Rattle.sg_exchanges.specs.Turns.{MayTurn, IsTurned, Notes, NotesSome}
use Rattle.sg_exchanges.specs.declared.turns.What.TheVariants.{Tree}
use Rattle.sg_exchanges.proofs.Coming.{grove_then, holds_then, tree_then, tree_there}
use Rattle.sg_exchanges.proofs.Swaps.{asked, fits_then, hanging_then, out_then, root_is, roots_then, whole_then}

-- what a replacement did
pub record Does (old new : Grove) (at d : NodeId) (was now : List Instance) : Type 0 where
  pub right : (root : NodeId) (t : Term) (u : Place) (s : Term) → IsAsked old at d root t u s → IsRight new (root_then u root d)
  pub term : (root : NodeId) (t : Term) (u : Place) (s : Term) → IsAsked old at d root t u s → Holds new (root_then u root d) (put t u s)
  pub evaluated : (root : NodeId) (t : Term) (u : Place) (s : Term) → IsAsked old at d root t u s → GainedAll new (root_then u root d) (put t u s) (IsEvaluated old.spec t u s) was now
  pub links : (g : Grove) × IsExchanged old g at d × OnlyStored g new IsAnySlot
  pub freed : IsRoot (nodes new) at
  pub roots : KeepsOtherRoots old new at d
  pub terms : KeepsTermsNotOver old new at

module _ (old new : Grove) (is : IsGrove old) (on : IsGrove new) (spec : new.spec ≡ old.spec) (root at d : NodeId) (was now : List Instance) (does : Does old new at d was now) (then : NodeId) (here : at ≡ root → then ≡ d) (there : at ≢ root → then ≡ root) where
  module _ (t : Term) (u : Place) (may : MayTurn old root at (Tree d) t u) where
    abbrev s : Term
    s = term_at old d

    ask : IsAsked old at d root t u s
    ask = asked old is root at d t u may

    then_is : then ≡ root_then u root d
    then_is = root_is old is root at d t u may then here there

    whole_now : IsWhole new (root_then u root d) (put t u s)
    whole_now = whole_then old is root at d t u may new on spec (does.right root t u s ask) (does.term root t u s ask) does.links.0 does.links.1 does.links.2 does.freed does.roots does.terms

    swapped_whole : IsWhole new then (put t u s)
    swapped_whole = subst (λ r. IsWhole new r (put t u s)) (sym then_is) whole_now

    pub swapped_turn : IsTurned old new root at (Tree d) t u then
    swapped_turn = record {
      whole = swapped_whole;
      fits = fits_then old is root at d t u may new on spec (does.right root t u s ask) (does.term root t u s ask) does.links.0 does.links.1 does.links.2 does.freed does.roots does.terms;
      hanging = hanging_then old is root at d t u may new on spec (does.right root t u s ask) (does.term root t u s ask) does.links.0 does.links.1 does.links.2 does.freed does.roots does.terms;
      out = out_then old is root at d t u may new on spec (does.right root t u s ask) (does.term root t u s ask) does.links.0 does.links.1 does.links.2 does.freed does.roots does.terms;
      roots = λ rest were. subst (λ r. AreTheRoots new (r ∷ (at ∷ rest))) (sym then_is)
          (roots_then old is root at d t u may new on spec (does.right root t u s ask) (does.term root t u s ask) does.links.0 does.links.1 does.links.2 does.freed does.roots does.terms rest were);
    }

    pub swapped_notes : Notes old new then t u (Tree d) was now
    swapped_notes = subst (λ r. GainedAll new r (put t u s) (IsEvaluated old.spec t u s) was now) (sym then_is) (does.evaluated root t u s ask)

    pub swapped_tree : IsTreeThen old root u (Some d) new then
    swapped_tree = tree_then old does.links.0 is at d does.links.1 root u may.whole.top may.way may.may.1 new does.links.2 then then_is

-- where it was refused
module _ (old : Grove) (is : IsGrove old) (root at d : NodeId) (t : Term) (u : Place) (may : MayTurn old root at (Tree d) t u) (was now : List Instance) where
  pub refused_first : (g : Grove) × IsExchanged old g at d × Gained g (root_then u root d) (put t u (term_at old d)) (IsEvaluated old.spec t u (term_at old d)) was now → NotesSome old root t u (Tree d) was now
  refused_first p =
      let ask = asked old is root at d t u may in
      inr (record {
        some = record {
          grove = p.0;
          is = grove_then old p.0 is at d p.1;
          same = p.1.spec;
          root = root_then u root d;
          holds = holds_then old p.0 is at d p.1 root u may.whole.top may.way may.may.1 t (term_at old d) may.whole.holds ask.part;
          gained = p.2;
        };
        tree = tree_there old p.0 is at d p.1 root u may.whole.top may.way may.may.1;
      })

-- a look that failed noted what the exchange did
pub noted_already : (old new : Grove) → IsGrove new → (root r : NodeId) (t : Term) (u : Place) (d : NodeId) (was now : List Instance) → new.spec ≡ old.spec → Holds new r (put t u (term_at old d)) → IsTreeThen old root u (Some d) new r → Notes old new r t u (Tree d) was now → NotesSome old root t u (Tree d) was now
noted_already old new on root r t u d was now spec holds tree notes =
    inr (record { some = record { grove = new; is = on; same = spec; root = r; holds = holds; gained = notes.gained }; tree = tree })
