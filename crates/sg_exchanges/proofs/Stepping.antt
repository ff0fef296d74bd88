-- Steps along which a way goes.
use Rattle.std.specs.Prelude.{◌≡◌, ◌≢◌, refl, ℕ, ◌+◌, ◌-◌, ◌^◌, ◌<◌, ◌≤◌, min, List, [], ◌∷◌, Option, None, Some, IsSome, option_map, option_and_then, unwrap_or, false, true, Result, Ok, Err, IfOk, OnErr}
use Rattle.std.proofs.Common.{sym, ap, ◌∙◌, subst, arith, inl}
use Rattle.std.proofs.lemmas.Bool.{and_parts, false≢true}
use Rattle.std.proofs.lemmas.Option.{none-some}
use Rattle.sg_kinds.specs.Terms.{Term, Leaf, Node, nodes_of}
use Rattle.sg_kinds.specs.Fits.{Fits}
use Rattle.sg_kinds.specs.InView.{in_view}
use Rattle.sg_kinds.specs.Sound.{IsSmall}
use Rattle.sg_kinds.specs.Places.{Place, place_of, put, sub}
use Rattle.sg_kinds.specs.declared.spec.Spec.{Spec}
use Rattle.sg_eval.specs.declared.journal.Instance.{Instance}
use Rattle.sg_forest.specs.declared.node_id.NodeId.{NodeId}
use Rattle.sg_forest.specs.Node as forest
use Rattle.sg_forest.specs.Trees.{Climbs, IsLive, IsRoot}
use Rattle.sg_forest.proofs.Paths.{root_is_live}
use Rattle.sg_groves.specs.declared.kind.Kind.{Kind}
use Rattle.sg_groves.specs.declared.part.Part.{Part}
use Rattle.sg_groves.specs.Grove.{Grove, nodes, IsGrove}
use Rattle.sg_groves.specs.Holds.{Holds}
use Rattle.sg_groves.specs.TermAt.{term_at}
use Rattle.sg_groves.proofs.Held.{held_at, held_fits, node_held, part_held}
use Rattle.sg_groves.proofs.Ways.{one_node}
use Rattle.sg_terms.specs.Labels.{op_of}
use Rattle.sg_terms.proofs.Holding.{op_told}
use Rattle.sg_build.specs.Counted.{AreCounts}
use Rattle.sg_build.specs.declared.limits.Counts.{Counts}
use Rattle.sg_build.proofs.Counted.{nodes_put}
use Rattle.sg_build.proofs.Placed.{part_nodes}
use Rattle.sg_build.proofs.Roots.{one_phylum}
use Rattle.sg_changes.specs.Changes.{marked, marks_at, marks_of, part_of, spot_along, term_along}
use Rattle.sg_changes.specs.StepChanges.{HoldsPart, change_along, hanging, hung}
use Rattle.sg_changes.specs.declared.direction.Direction.{Direction}
use Rattle.sg_changes.specs.declared.direction.Direction.TheVariants.{Back, Forth}
use Rattle.sg_changes.specs.declared.spot.Selection.{Selection}
use Rattle.sg_changes.specs.declared.spot.Spot.{Spot}
use Rattle.sg_changes.specs.declared.step.Marks.{Marks}
use Rattle.sg_changes.specs.declared.step.Step.{Step}
use Rattle.sg_changes.specs.declared.step.Step.TheVariants.{Replaced, Marked}
use Rattle.sg_select.specs.Leads.{LeadsTo}
use Rattle.sg_select.specs.Paths.{there}
use Rattle.sg_select.specs.RestingPlaces.{is_open, rests, rests_under, stands_resting}
use Rattle.sg_states.specs.Paged.{IsLook, IsWhole}
use Rattle.sg_states.specs.Seen.{is_spot, settled_spot}
use Rattle.sg_states.specs.Selections.{place_in}
use Rattle.sg_states.proofs.Selecting.{selection_rests}
use Rattle.sg_states.proofs.Spotted.{spot_selects, spot_stays_in}
use Rattle.sg_exchanges.specs.Stepped.{IsStepped, MayStep, coming, seen_along, settled_then, step_path, step_place}
use Rattle.sg_exchanges.specs.Turns.{IsSeen, IsTurned, MayTurn, NotesSome, comes_out, ComesOut, goes_in, made}
use Rattle.sg_exchanges.specs.declared.stepped.Stepped.{Stepped}
use Rattle.sg_exchanges.specs.declared.turns.Turned.{Turned}
use Rattle.sg_exchanges.specs.declared.turns.What.{What}
use Rattle.sg_exchanges.specs.declared.turns.What.TheVariants.{Tree, Shown}
use Rattle.sg_exchanges.proofs.Putting.{seen_as}
use Rattle.sg_exchanges.proofs.Trees.{holds_at}
use Rattle.sg_exchanges.proofs.Values.{nodes_marked}

-- a term has a place
abbrev pub HasPlace : Term → Place → Type 0
HasPlace t u = (x : Term) × (sub t u ≡ Some x)

-- a resting place is one of the term
pub rests_there : (spec : Spec) (t : Term) (u : Place) → rests spec t u ≡ true → HasPlace t u
rests_there spec t [] rest = (t, refl)
rests_there spec t (k ∷ u) rest = by (sub t u) refl
  where
    stands : stands_resting spec t k u ≡ true
    stands = (and_parts (is_open spec t (k ∷ u)) (stands_resting spec t k u) rest).1

    kid : (x : Term) → sub t u ≡ Some x → (o : Option Term) → sub t (k ∷ u) ≡ o → unwrap_or (option_map (rests_under spec x k) o) false ≡ true → HasPlace t (k ∷ u)
    kid x at None is h = absurd (false≢true h)
    kid x at (Some y) is h = (y, is)

    by : (o : Option Term) → sub t u ≡ o → HasPlace t (k ∷ u)
    by None is = absurd (false≢true (subst (λ o. unwrap_or (option_and_then (λ x. option_map (rests_under spec x k) (sub t (k ∷ u))) o) false ≡ true) is stands))
    by (Some x) is = kid x is (sub t (k ∷ u)) refl (subst (λ o. unwrap_or (option_and_then (λ x. option_map (rests_under spec x k) (sub t (k ∷ u))) o) false ≡ true) is stands)

abbrev TheNode : Type 0
TheNode = forest.Node Kind Part

-- a path that leads to a node
leads_by : (g : Grove) (root : NodeId) (t x : Term) (u : Place) (o : Option NodeId) → sub t u ≡ Some x → LeadsTo g root (there t u) o → LeadsTo g root (Some u) o
leads_by g root t x u o at leads = subst (λ z. LeadsTo g root z o) (ap (option_map (λ _. u)) at) leads

pub some_node : (g : Grove) (root : NodeId) (t x : Term) (u : Place) (o : Option NodeId) → sub t u ≡ Some x → LeadsTo g root (there t u) o → IsSome o
some_node g root t x u o at leads = by o (leads_by g root t x u o at leads)
  where
    by : (p : Option NodeId) → LeadsTo g root (Some u) p → IsSome p
    by None h = absurd h
    by (Some m) h = refl

pub the_node : (g : Grove) (root m : NodeId) (t x : Term) (u : Place) (o : Option NodeId) → sub t u ≡ Some x → LeadsTo g root (there t u) o → o ≡ Some m → Climbs (nodes g) u m root
the_node g root m t x u o at leads same = subst (LeadsTo g root (Some u)) same (leads_by g root t x u o at leads)

-- the node at the place of a step
module _ (g : Grove) (is : IsGrove g) (root : NodeId) (t : Term) (u : Place) (what : What) (height : ℕ) (spot : Spot) (count : ℕ) (may : MayStep g root t u what height spot count) where
  pub place_there : (s : Term) × (x : Term) × Holds g root s × (sub s u ≡ Some x)
  place_there = (let part = part_held g is u may.at root t may.may.way may.may.whole.holds in (t, part.0, may.may.whole.holds, part.2))

  pub may_here : (n : NodeId) → Climbs (nodes g) u n root → MayTurn g root n what t u
  may_here n way = subst (λ m. MayTurn g root m what t u) (one_node g is u may.at n root may.may.way way) may.may

  -- what is selected then has a place
  pub place_then : HasPlace (made (term_at g) t u what) (place_in spot.selection)
  place_then =
      let now = made (term_at g) t u what in
      let v = place_in spot.selection in
      rests_there (in_view g.spec spot.view) now v (selection_rests g.spec spot.view now v spot.selection.count (spot_selects g.spec height now spot may.rests))

-- in its own view the spot stays
pub same_then : (g : Grove) (root : NodeId) (t : Term) (u : Place) (what : What) (height : ℕ) (spot : Spot) (count : ℕ) → MayStep g root t u what height spot count → spot.view ≡ g.view → settled_then g t u what height spot ≡ spot
same_then g root t u what height spot count may same = spot_stays_in g.spec height (made (term_at g) t u what) spot g.view same may.rests

-- what holds of each value, or whatever comes
pub all_ok : {A E : Type 0} (P : A → Type 0) (r : Result A E) → ((a : A) → P a) → IfOk r P
all_ok P (Ok a) h = h a
all_ok P (Err e) h = tt

pub all_err : {A E : Type 0} (P : Type 0) (r : Result A E) → P → OnErr r P
all_err P (Ok a) h = tt
all_err P (Err e) h = h

-- what came is looked at
pub seen_then : (old new : Grove) (root at : NodeId) (what : What) (t : Term) (u : Place) (height : ℕ) (select : Selection) (top : ℕ) (r : Turned) → new.spec ≡ old.spec → new.view ≡ old.view → IsTurned old new root at what t u r.root
    → ((w : Term) → IsWhole new r.root w → IsLook new r.root w (settled_spot new.spec height new.view w select top) r.look) → IsSeen old new root at what t u height select top r
seen_then old new root at what t u height select top r spec view turned looks =
    let now = made (term_at old) t u what in
    record { turned = turned; look = seen_as old new r.root now spec view height select top r.look (looks now turned.whole) }

-- so the step is gone along
abbrev pub gone_to : NodeId → ℕ → Turned → Stepped
gone_to out count r = record {
  out = out;
  nodes = count;
  root = r.root;
  selected = r.look.selected;
  way = r.look.way;
  count = r.look.spot.selection.count;
  top = r.look.spot.top;
  page = r.look.page;
  begins = r.look.begins;
}

pub stepped_to : (old new : Grove) (root out : NodeId) (what : What) (t : Term) (u : Place) (height count : ℕ) (spot : Spot) (r : Turned) → Climbs (nodes old) u out root → count ≡ nodes_of (made (term_at old) t u what)
    → IsSeen old new root out what t u height spot.selection spot.top r → IsStepped old new root t u what (settled_then old t u what height spot) (gone_to out count r)
stepped_to old new root out what t u height count spot r way counted seen = record {
  way = way;
  turned = seen.turned;
  counted = counted;
  selected = seen.look.selected;
  path = seen.look.way;
  count = ap (λ (s : Spot). s.selection.count) seen.look.spot_is;
  top = ap (λ (s : Spot). s.top) seen.look.spot_is;
  page = seen.look.page;
  begins = seen.look.begins;
}

-- nothing is noted before anything is done
pub noted_none : (g : Grove) (root : NodeId) (t : Term) (u : Place) (what : What) (was : List Instance) → NotesSome g root t u what was was
noted_none g root t u (Tree d) was = inl refl
noted_none g root t u (Shown m) was = refl

-- how many nodes the term has then
module _ (g : Grove) (is : IsGrove g) (root at : NodeId) (t : Term) (u : Place) where
  pub turned_live : (what : What) → MayTurn g root at what t u → IsLive (nodes g) at
  turned_live what may = by u may.way
    where
      by : (w : Place) → Climbs (nodes g) w at root → IsLive (nodes g) at
      by [] e = subst (IsLive (nodes g)) (sym e) (root_is_live (nodes g) root may.whole.top)
      by (k ∷ w) c = record { node = c.1.node; found = c.1.found }

  pub tree_live : (d : NodeId) → MayTurn g root at (Tree d) t u → IsLive (nodes g) d
  tree_live d may = root_is_live (nodes g) d may.may.0

  pub nodes_turned : (d : NodeId) (nodes rest then : ℕ) (a b : Counts) → MayTurn g root at (Tree d) t u → nodes ≡ nodes_of t → IsSmall t → IsSmall (put t u (term_at g d))
      → ((x : Term) → Holds g at x → AreCounts x a) → ((x : Term) → Holds g d x → AreCounts x b) → rest ≡ nodes - a.nodes → then ≡ min (rest + b.nodes) 18446744073709551615 → then ≡ nodes_of (put t u (term_at g d))
  nodes_turned d nodes rest then a b may counted small after was comes less more =
      let part = part_held g is u at root t may.way may.whole.holds in
      let whole = nodes_put t u part.0 (term_at g d) part.2 in
      let fewer = part_nodes t u part.0 part.2 in
      let one = (was part.0 part.1).nodes in
      let two = (comes (term_at g d) (holds_at g is d (tree_live d may))).nodes in
      sums nodes rest then a.nodes b.nodes (nodes_of t) (nodes_of part.0) (nodes_of (term_at g d)) (nodes_of (put t u (term_at g d))) counted small.0 after.0 whole fewer one two less more
    where
      sums : (nodes rest then a b t x s p : ℕ) → nodes ≡ t → t ≤ 65536 → p ≤ 65536 → p + x ≡ t + s → x ≤ t → a ≡ min x (2 ^ 64 - 1) → b ≡ min s (2 ^ 64 - 1) → rest ≡ nodes - a → then ≡ min (rest + b) 18446744073709551615 → then ≡ p
      sums nodes rest then a b t x s p counted small after whole fewer one two less more = omega (arith, counted, small, after, whole, fewer, one, two, less, more)

  pub nodes_remarked : (m : Marks) (nodes : ℕ) → MayTurn g root at (Shown m) t u → nodes ≡ nodes_of t → nodes ≡ nodes_of (marked t u m)
  nodes_remarked m nodes may counted =
      let part = part_held g is u at root t may.way may.whole.holds in
      counted ∙ sym (nodes_marked t u part.0 m part.2)

-- a tree may come for a subterm, and marks for others
module _ (g : Grove) (is : IsGrove g) (root : NodeId) (t : Term) (u : Place) (height : ℕ) (spot : Spot) (count : ℕ) (whole : IsWhole g root t) (fits : Fits g.spec t g.spec.root) (counted : count ≡ nodes_of t) (small : IsSmall t) where
  pub may_swap : (d : NodeId) (x : Term) (p : ℕ) → IsRoot (nodes g) d → d ≢ root → sub t u ≡ Some x → Fits g.spec x p → Fits g.spec (term_at g d) p → IsSmall (put t u (term_at g d)) → is_spot g.spec height (put t u (term_at g d)) spot ≡ true → MayStep g root t u (Tree d) height spot count
  may_swap d x p top apart at stood comes after rests =
      let node = node_held g is u root t x whole.holds at in
      record {
        at = node.0;
        may = record {
          whole = whole;
          fits = fits;
          way = node.1;
          may = (
            top,
            apart,
            (λ y z stands built.
                one_phylum g.spec x y.label.phylum p (held_fits g is node.0 y x stands node.2) stood
                ∙ one_phylum g.spec (term_at g d) p z.label.phylum comes (held_fits g is d z (term_at g d) built (holds_at g is d (root_is_live (nodes g) d top)))),
          );
        };
        counted = counted;
        small = small;
        after = after;
        rests = rests;
      }

  marks_there : (was : Marks) → marks_at t u ≡ Some was → (x : Term) × (sub t u ≡ Some x) × (marks_of x ≡ Some was)
  marks_there was at = by (sub t u) at
    where
      by : (o : Option Term) → option_and_then marks_of o ≡ Some was → (x : Term) × (o ≡ Some x) × (marks_of x ≡ Some was)
      by None h = absurd (none-some was h)
      by (Some x) h = (x, refl, h)

  an_operator : (x : Term) (was : Marks) → marks_of x ≡ Some was → op_of x ≢ None
  an_operator (Leaf p v) was at none = none-some was at
  an_operator (Node op scheme elided ts) was at none = none-some op (sym none)

  pub may_mark : (was m : Marks) → marks_at t u ≡ Some was → m.scheme < 16 → IsSmall (marked t u m) → is_spot g.spec height (marked t u m) spot ≡ true → MayStep g root t u (Shown m) height spot count
  may_mark was m at low after rests =
      let old = marks_there was at in
      let node = node_held g is u root t old.0 whole.holds old.1 in
      record {
        at = node.0;
        may = record {
          whole = whole;
          fits = fits;
          way = node.1;
          may = ((λ x found none. an_operator old.0 was old.2 (sym (op_told g is node.0 x found old.0 node.2) ∙ none)), low);
        };
        counted = counted;
        small = small;
        after = after;
        rests = rests;
      }

-- what comes where a way goes along a step, and what is seen there
module _ (tree : NodeId → Term) (t : Term) where
  pub made_along : (d : Direction) (s : Step) → made tree t (step_place s) (coming d s) ≡ term_along d t (change_along tree d t s)
  made_along Back (Replaced path hangs before after) = refl
  made_along Back (Marked path old new before after) = refl
  made_along Forth (Replaced path hangs before after) = refl
  made_along Forth (Marked path old new before after) = refl

  pub spot_there : (d : Direction) (s : Step) → seen_along d s ≡ spot_along d (change_along tree d t s)
  spot_there Back (Replaced path hangs before after) = refl
  spot_there Back (Marked path old new before after) = refl
  spot_there Forth (Replaced path hangs before after) = refl
  spot_there Forth (Marked path old new before after) = refl

pub in_along : (d : Direction) (s : Step) → goes_in (coming d s) ≡ hanging s
in_along d (Replaced path hangs before after) = refl
in_along d (Marked path old new before after) = refl

pub out_along : (d : Direction) (s : Step) (n : NodeId) → comes_out (coming d s) n ≡ hanging (hung s n)
out_along d (Replaced path hangs before after) n = refl
out_along d (Marked path old new before after) n = refl

pub part_along : (g : Grove) → IsGrove g → (d : Direction) (t : Term) (s : Step) (n : NodeId) → ComesOut g n (coming d s) (part_of t (step_place s)) → HoldsPart (term_at g) t s n
part_along g is d t (Replaced path hangs before after) n holds = held_at g is n (part_of t (place_of path)) holds
part_along g is d t (Marked path old new before after) n holds = tt

-- where the path, what comes and the spot are those of a step
pub of_step : (P : Place → What → Spot → Type 0) (s : Step) (d : Direction) (path : List ℕ) (what : What) (spot : Spot)
    → path ≡ step_path s → what ≡ coming d s → spot ≡ seen_along d s → P (place_of path) what spot → P (step_place s) (coming d s) (seen_along d s)
of_step P s d path what spot p w o h =
    subst (P (step_place s) (coming d s)) o (subst (λ x. P (step_place s) x spot) w (subst (λ x. P (place_of x) what spot) p h))

pub by_step : (P : Place → What → Spot → Type 0) (s : Step) (d : Direction) (path : List ℕ) (what : What) (spot : Spot)
    → path ≡ step_path s → what ≡ coming d s → spot ≡ seen_along d s → P (step_place s) (coming d s) (seen_along d s) → P (place_of path) what spot
by_step P s d path what spot p w o h =
    subst (λ x. P (place_of x) what spot) (sym p) (subst (λ x. P (step_place s) x spot) (sym w) (subst (P (step_place s) (coming d s)) (sym o) h))
