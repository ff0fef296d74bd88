-- The way up as calls make it: each visit, each step up, and the end.
use Rattle.std.specs.Prelude.{◌≡◌, ◌⊎◌, ◌↔◌, refl, ℕ, ◌+◌, ◌-◌, ◌≤◌, false, List, [], ◌∷◌, slice_get, Contains, Option, Result, Ok, Err, None, Some, option_and_then}
use Rattle.std.proofs.Common.{sym, ap, ◌∙◌, subst, arith}
use Rattle.std.proofs.lemmas.Option.{none-some}
use Rattle.sg_kinds.specs.Terms.{Term, Leaf, Node}
use Rattle.sg_kinds.specs.Fits.{Fits}
use Rattle.sg_kinds.specs.Places.{Place, child, sub}
use Rattle.sg_kinds.specs.Nets.{Reference, label_of}
use Rattle.sg_orders.specs.Keys.{operator_in}
use Rattle.sg_kinds.specs.Specification.{is_inherited, rules_of}
use Rattle.sg_kinds.specs.Visits.{visit_count}
use Rattle.sg_kinds.specs.declared.plans.Plans.{Plans}
use Rattle.sg_kinds.specs.declared.plans.PlanStep.TheVariants.{Visit}
use Rattle.sg_kinds.specs.declared.spec.Spec.{Spec}
use Rattle.sg_eval.specs.declared.journal.Instance.{Instance}
use Rattle.sg_forest.specs.declared.node_id.NodeId.{NodeId}
use Rattle.sg_forest.specs.Node as forest
use Rattle.sg_forest.specs.Trees.{IsChild, IsInside, IsLive, IsRoot, Climbs}
use Rattle.sg_forest.proofs.Paths.{one_parent, root_is_no_child}
use Rattle.sg_forest.proofs.Shape.{IsLive-shape, KeepsShape-back}
use Rattle.sg_groves.specs.declared.kind.Kind.{Kind}
use Rattle.sg_groves.specs.declared.part.Part.{Part}
use Rattle.sg_groves.specs.Grove.{Grove, nodes, IsGrove}
use Rattle.sg_groves.specs.Holds.{IsPlaced}
use Rattle.sg_groves.specs.Unchanged.{OnlyStored}
use Rattle.sg_groves.proofs.Frames.{only_itself, only_more, only_twice}
use Rattle.sg_groves.proofs.Held.{held_fits, part_held}
use Rattle.sg_groves.proofs.Ways.{one_way}
use Rattle.sg_plans.specs.Segments.{HasVisit, IsNodeAt, IsTaken}
use Rattle.sg_plans.specs.Stepping.{steps_of}
use Rattle.sg_plans.proofs.Nodes.{node_label}
use Rattle.sg_plans.proofs.Solved.{root_takes_nothing}
use Rattle.sg_plans.proofs.Visiting.{visit_there}
use Rattle.sg_trail.specs.Trails.{IsAnySlot, Way}
use Rattle.sg_attrib.specs.Visited.{IsGiven, IsKnown, IsVisited}
use Rattle.sg_attrib.proofs.Nodes.{has_visit, is_visited, op_in, op_live}
use Rattle.sg_propagate.specs.Worklist.{Worklist}
use Rattle.sg_propagate.specs.Scenes.{Scene, term_now, AreStale}
use Rattle.sg_propagate.specs.Exchanged.{IsReach}
use Rattle.sg_propagate.specs.Moves.{IsGivenFrom, IsKnownFrom, IsOnStage, IsQuiet, IsTracked, IsUp, Moves, Repairs}
use Rattle.sg_propagate.proofs.Above as above
use Rattle.sg_propagate.proofs.Composed.{moves_again, moves_nothing}
use Rattle.sg_propagate.proofs.Risen.{IsEquation, IsReached, IsUpTo, NeedsNothing, last_moves, last_reach, next_moves, next_needs, next_reached, next_stale}
use Rattle.sg_propagate.proofs.Tracked.{op_same}

-- the root inherits nothing
abbrev pub InheritsNothing : Grove → NodeId → Type 0
InheritsNothing g top = (root : NodeId) (x : forest.Node Kind Part) → IsRoot (nodes g) root → IsInside (nodes g) top root → nodes g root ≡ Some x → (slot : ℕ) → is_inherited g.spec.phyla x.label.phylum slot ≡ false

-- what was done on the way up to a node, as far as its visit k
pub record IsRisen (plans : Plans) (top left first n : NodeId) (k : ℕ) (old new : Grove) (begin after : Worklist) (from to : Way) (was now : List Instance) : Type 0 where
  pub stored : OnlyStored old new IsAnySlot
  pub at : to.at ≡ from.at
  pub detached : to.detached ≡ from.detached
  pub tracked : (g : Grove) → IsTracked g old top from → IsTracked g new top to
  pub live : IsLive (nodes new) n
  pub visited : 1 ≤ k → IsVisited plans new n k
  pub moves : (sc : Scene) (v : Place) → IsOnStage plans sc old begin top left first v → AreStale sc old (IsEquation (rules_of sc.spec) (term_now sc) []) → (u : Place) × IsReached plans sc top left n k u old new begin after was now

-- a visit of a node is one where values are stored
pub visited_still : (plans : Plans) (old new : Grove) (changed : NodeId → ℕ → Type 0) → OnlyStored old new changed → (n : NodeId) (k : ℕ) → IsVisited plans old n k → IsVisited plans new n k
visited_still plans old new changed only n k v = record {
  op = v.op;
  is = op_same old new changed only n ∙ v.is;
  low = v.low;
  high = λ x found. let was = (KeepsShape-back (nodes old) (nodes new) only.shape).kept n x found in subst (λ X. k ≤ visit_count plans X) (ap (λ (l : Kind). l.phylum) was.2) (v.high was.0 was.1);
}

module _ (plans : Plans) (top left first : NodeId) (old : Grove) (is_old : IsGrove old) (inherits : InheritsNothing old top) (begin : Worklist) where
  -- the place of the new subterm is below the first node
  module _ (kid : ℕ) (hangs : IsChild (nodes old) top first kid) (sc : Scene) (v : Place) (on : IsOnStage plans sc old begin top left first v) where
    top_climbs : Climbs (nodes old) sc.place top sc.root
    top_climbs = subst (λ c. Climbs (nodes old) sc.place c sc.root) on.top_is on.staged.placed.way

    place_is : sc.place ≡ kid ∷ v
    place_is = let z = on.staged.placed in (one_way old is_old sc.place (kid ∷ v) top sc.root sc.root z.top z.top top_climbs (first, hangs, on.climbs)).0

    node_first : IsNodeAt (term_now sc) v
    node_first = let part = part_held old is_old sc.place top sc.root (term_now sc) top_climbs on.staged.placed.holds in by (sub (term_now sc) v) refl part.0 (ap (sub (term_now sc)) (sym place_is) ∙ part.2)
      where
        by : (o : Option Term) → sub (term_now sc) v ≡ o → (s : Term) → option_and_then (child kid) (sub (term_now sc) v) ≡ Some s → IsNodeAt (term_now sc) v
        by None at s there = absurd (none-some s (sym (ap (option_and_then (child kid)) at) ∙ there))
        by (Some (Leaf p w)) at s there = absurd (none-some s (sym (ap (option_and_then (child kid)) at) ∙ there))
        by (Some (Node op scheme elided ts)) at s there = node_label (term_now sc) v op (ap label_of at)

    reached_first : (was : List Instance) → IsReached plans sc top left first 0 v old old begin begin was was
    reached_first was = record {
      on = on;
      node = node_first;
      way = kid ∷ [];
      over = place_is;
      moves = moves_nothing sc (IsUpTo plans 1 (rules_of sc.spec) (term_now sc) v) old begin was tt (λ a is meant. none a is) on.staged.noted (λ a m is climbs. absurd (none a is));
      quiet = λ l q e a h less. absurd (omega (arith, less));
    }
      where
        none : (a : Reference Place) → IsUpTo plans 1 (rules_of sc.spec) (term_now sc) v a → ⊥
        none a is =
            let less = is.less in
            let has = visit_there sc.spec plans (term_now sc) on.staged.planned v is.visit is.given.site is.given.of_visit in
            let low = has.low in
            omega (arith, less, low)

  free : (sc : Scene) (v : Place) → IsOnStage plans sc old begin top left first v → (j : ℕ) (a : Reference Place) → IsTaken (rules_of sc.spec) plans (term_now sc) [] j a → ⊥
  free sc v on j a take =
      let root = on.staged.placed.top in
      let inside : IsInside (nodes old) top sc.root = record { path = sc.place; climbs = subst (λ c. Climbs (nodes old) sc.place c sc.root) on.top_is on.staged.placed.way } in
      let X = root.node.label.phylum in
      let fits : Fits sc.spec (term_now sc) X = subst (λ (s : Spec). Fits s (term_now sc) X) on.staged.spec_is (held_fits old is_old sc.root root.node (term_now sc) root.found on.staged.placed.holds) in
      root_takes_nothing sc.spec plans (term_now sc) X fits (λ slot. ap (λ (s : Spec). is_inherited s.phyla X slot) (sym on.staged.spec_is) ∙ inherits sc.root root.node root inside root.found slot) j a take

  pub rises_first : (kid : ℕ) → IsChild (nodes old) top first kid → IsLive (nodes old) first → (way : Way) (was : List Instance) → IsRisen plans top left first first 0 old old begin begin way way was was
  rises_first kid hangs live way was = record {
    stored = only_itself old IsAnySlot;
    at = refl;
    detached = refl;
    tracked = λ g is. is;
    live = live;
    visited = λ low. absurd (omega (arith, low));
    moves = λ sc v on stale. (v, reached_first kid hangs sc v on was);
  }

  module _ (n : NodeId) (k : ℕ) (mid : Grove) (is_mid : IsGrove mid) (between : Worklist) (way among_way : Way) (was among : List Instance) (risen : IsRisen plans top left first n k old mid begin between way among_way was among) where
    -- what a call does on top
    module _ (new : Grove) (stored : OnlyStored mid new IsAnySlot) where
      both_stored : OnlyStored old new IsAnySlot
      both_stored = only_more old new (λ a slot. IsAnySlot a slot ⊎ IsAnySlot a slot) IsAnySlot (λ a slot either. tt) (only_twice old mid new IsAnySlot IsAnySlot risen.stored stored)

    -- a refusal
    pub rises_err : {A E : Type 0} (e : E) (after : Worklist) → Repairs {A = A} {E = E} plans NeedsNothing IsEquation IsEquation top left first old mid begin after way among_way was among (Err e)
    rises_err e after = record {
      stored = risen.stored;
      at = risen.at;
      detached = risen.detached;
      tracked = risen.tracked;
      moves = λ sc v on fine stale.
          let r = risen.moves sc v on stale in
          let m = r.1.moves in
          moves_again sc (IsUpTo plans (k + 1) (rules_of sc.spec) (term_now sc) r.0) (IsEquation (rules_of sc.spec) (term_now sc) v) old mid begin after was among (Err e) (λ a is. (is.given.site, is.given.found)) tt
          (record { frame = m.frame; listed = m.listed.gained; fine = tt; noted = tt; more = tt });
    }

    -- the end
    pub rises_last : {A E : Type 0} → IsRoot (nodes mid) n ⊎ IsQuiet plans mid n k between → ((h : ℕ) → IsVisited plans mid n h → h ≤ k) → (x : A) → Repairs {A = A} {E = E} plans NeedsNothing IsEquation IsEquation top left first old mid begin between way among_way was among (Ok x)
    rises_last none last x = record {
      stored = risen.stored;
      at = risen.at;
      detached = risen.detached;
      tracked = risen.tracked;
      moves = λ sc v on fine stale.
          let r = risen.moves sc v on stale in
          let z = r.1.on.staged in
          let placed : IsPlaced mid sc.root (term_now sc) r.0 n = record { top = z.placed.top; holds = z.placed.holds; way = r.1.on.climbs } in
          last_moves plans sc top left old mid is_old is_mid begin between on.staged stale (free sc v on) n k r.0 was among r.1 none
          (λ h has. last h (is_visited mid is_mid plans n sc.root h (term_now sc) r.0 placed (subst (λ (s : Spec). HasVisit (rules_of s) plans (term_now sc) r.0 h) (sym z.spec_is) has))) x;
    }

    pub rises_reach : IsRoot (nodes mid) n ⊎ IsQuiet plans mid n k between → ((h : ℕ) → IsVisited plans mid n h → h ≤ k)
        → (sc : Scene) (v : Place) → IsOnStage plans sc old begin top left first v → AreStale sc old (IsEquation (rules_of sc.spec) (term_now sc) []) → IsReach sc mid n
    rises_reach none last sc v on stale =
        let r = risen.moves sc v on stale in
        let z = r.1.on.staged in
        let placed : IsPlaced mid sc.root (term_now sc) r.0 n = record { top = z.placed.top; holds = z.placed.holds; way = r.1.on.climbs } in
        last_reach plans sc top left old mid is_old is_mid begin between on.staged stale (free sc v on) n k r.0 was among r.1 none
        (λ h has. last h (is_visited mid is_mid plans n sc.root h (term_now sc) r.0 placed (subst (λ (s : Spec). HasVisit (rules_of s) plans (term_now sc) r.0 h) (sym z.spec_is) has)))

    -- the next visit
    module _ {A E : Type 0} (none : IsRoot (nodes mid) n ⊎ IsQuiet plans mid n k between) (vis : IsVisited plans mid n (k + 1)) (new : Grove) (after : Worklist) (to : Way) (now : List Instance) where
      abbrev Call : Result A E → Type 0
      Call r = Repairs {A = A} {E = E} plans (λ rules. IsKnown rules plans (k + 1)) (λ rules. IsGiven rules plans (k + 1)) (λ rules. IsGiven rules plans (k + 1)) top left n mid new between after among_way to among now r

      next_by : (r : Result A E) → Call r → (sc : Scene) (v : Place) (on : IsOnStage plans sc old begin top left first v) (stale : AreStale sc old (IsEquation (rules_of sc.spec) (term_now sc) []))
          → Moves sc (IsGiven (rules_of sc.spec) plans (k + 1) (term_now sc) (risen.moves sc v on stale).0) mid new between after among now r
      next_by r call sc v on stale =
          let z = risen.moves sc v on stale in
          call.moves sc z.0 z.1.on
          (next_needs plans sc top left old mid is_old is_mid begin between on.staged stale (free sc v on) n k z.0 was among z.1 none new after now r)
          (next_stale plans sc top left old mid is_old is_mid begin between on.staged stale (free sc v on) n k z.0 was among z.1 none new after now r)

      pub rises_next : (x : A) → Call (Ok x) → IsRisen plans top left first n (k + 1) old new begin after way to was now
      rises_next x call = record {
        stored = both_stored new call.stored;
        at = call.at ∙ risen.at;
        detached = call.detached ∙ risen.detached;
        tracked = λ g is. call.tracked g (risen.tracked g is);
        live = IsLive-shape (nodes mid) (nodes new) call.stored.shape n risen.live;
        visited = λ low. visited_still plans mid new IsAnySlot call.stored n (k + 1) vis;
        moves = λ sc v on stale.
            let z = risen.moves sc v on stale in
            (z.0, next_reached plans sc top left old mid is_old is_mid begin between on.staged stale (free sc v on) n k z.0 was among z.1 none new after now x (next_by (Ok x) call sc v on stale));
      }

      pub next_err : (e : E) → Call (Err e) → Repairs {A = A} {E = E} plans NeedsNothing IsEquation IsEquation top left first old new begin after way to was now (Err e)
      next_err e call = record {
        stored = both_stored new call.stored;
        at = call.at ∙ risen.at;
        detached = call.detached ∙ risen.detached;
        tracked = λ g is. call.tracked g (risen.tracked g is);
        moves = λ sc v on fine stale.
            let z = risen.moves sc v on stale in
            moves_again sc (IsUpTo plans (k + 1 + 1) (rules_of sc.spec) (term_now sc) z.0) (IsEquation (rules_of sc.spec) (term_now sc) v) old new begin after was now (Err e) (λ a is. (is.given.site, is.given.found)) tt
            (next_moves plans sc top left old mid is_old is_mid begin between on.staged stale (free sc v on) n k z.0 was among z.1 none new after now (Err e) (next_by (Err e) call sc v on stale));
      }

    -- the node above
    module _ (A E : Type 0) (parent : NodeId) (i from : ℕ) (up : IsUp plans mid n k parent i from) (woken : Worklist) (added : (c : ℕ) → Contains woken.active c ↔ (Contains between.active c ⊎ (c ≡ n.key))) (noted : woken.changed ≡ between.changed)
        (new : Grove) (after : Worklist) (to : Way) (now : List Instance) where
      abbrev UpCall : Result A E → Type 0
      UpCall r = Repairs {A = A} {E = E} plans (IsKnownFrom plans i from) (IsGivenFrom plans i from) (IsGivenFrom plans i from) top left parent mid new woken after among_way to among now r

      begun : (r : Result A E) → UpCall r → Repairs {A = A} {E = E} plans (IsKnownFrom plans i (from - 1 + 1)) (IsGivenFrom plans i (from - 1 + 1)) (IsGivenFrom plans i (from - 1 + 1)) top left parent mid new woken after among_way to among now r
      begun r call =
          let low = up.begun in
          subst (λ f. Repairs plans (IsKnownFrom plans i f) (IsGivenFrom plans i f) (IsGivenFrom plans i f) top left parent mid new woken after among_way to among now r) (let e : from ≡ from - 1 + 1 = omega (arith, low) in e) call

      -- what comes of it at its place
      record IsAbove (sc : Scene) : Type 0 where
        place : Place
        moves : (r : Result A E) → UpCall r → Moves sc (IsUpTo plans (i + 1) (rules_of sc.spec) (term_now sc) place) old new begin after was now r
        reached : (x : A) → UpCall (Ok x) → IsReached plans sc top left parent i place old new begin after was now

      above_by : (sc : Scene) (v : Place) → IsOnStage plans sc old begin top left first v → AreStale sc old (IsEquation (rules_of sc.spec) (term_now sc) []) → (u : Place) → IsReached plans sc top left n k u old mid begin between was among → IsAbove sc
      above_by sc v on stale [] reached = absurd (root_is_no_child (nodes mid) n parent up.kid (subst (IsRoot (nodes mid)) (sym reached.on.climbs) reached.on.staged.placed.top) up.hangs)
      above_by sc v on stale (kid ∷ q) reached =
          let z = reached.on.staged in
          let t = term_now sc in
          let c = reached.on.climbs in
          let same = one_parent (nodes mid) n c.0 parent kid up.kid c.1 up.hangs in
          let climbs : Climbs (nodes mid) q parent sc.root = subst (λ p. Climbs (nodes mid) q p sc.root) same.0 c.2 in
          let placed : IsPlaced mid sc.root t q parent = record { top = z.placed.top; holds = z.placed.holds; way = climbs } in
          let has : HasVisit (rules_of sc.spec) plans t q i = subst (λ (s : Spec). HasVisit (rules_of s) plans t q i) z.spec_is (has_visit mid is_mid plans parent sc.root i t q placed up.visited) in
          let at : slice_get (steps_of plans (operator_in t q) i) (from - 1) ≡ Some (Visit kid k) =
          ap (λ op. slice_get (steps_of plans op i) (from - 1)) (op_in mid is_mid parent sc.root t q placed up.visited.op up.visited.is) ∙ up.at ∙ ap (λ l. Some (Visit l k)) (sym same.1) in
          let second : (r : Result A E) → UpCall r → Moves sc (IsGivenFrom plans i (from - 1 + 1) (rules_of sc.spec) t q) mid new woken after among now r = λ r call. (begun r call).moves sc q
          (above.on_above plans sc top left old mid is_old is_mid begin between on.staged stale (free sc v on) n k kid q was among reached parent climbs i (from - 1) has at woken added noted)
          (above.up_needs plans sc top left old mid is_old is_mid begin between on.staged stale (free sc v on) n k kid q was among reached parent climbs i (from - 1) has at woken added noted)
          (above.up_stale plans sc top left old mid is_old is_mid begin between on.staged stale (free sc v on) n k kid q was among reached parent climbs i (from - 1) has at woken added noted) in
          record {
            place = q;
            moves = λ r call. above.up_moves plans sc top left old mid is_old is_mid begin between on.staged stale (free sc v on) n k kid q was among reached parent climbs i (from - 1) has at woken added noted new after now r (second r call);
            reached = λ x call. above.up_reached plans sc top left old mid is_old is_mid begin between on.staged stale (free sc v on) n k kid q was among reached parent climbs i (from - 1) has at woken added noted new after now x (second (Ok x) call);
          }

      above_at : (sc : Scene) (v : Place) → IsOnStage plans sc old begin top left first v → AreStale sc old (IsEquation (rules_of sc.spec) (term_now sc) []) → IsAbove sc
      above_at sc v on stale = let z = risen.moves sc v on stale in above_by sc v on stale z.0 z.1

      pub rises_up : (x : A) → UpCall (Ok x) → IsRisen plans top left first parent i old new begin after way to was now
      rises_up x call =
          let live = op_live mid is_mid parent up.visited.op up.visited.is in
          record {
            stored = both_stored new call.stored;
            at = call.at ∙ risen.at;
            detached = call.detached ∙ risen.detached;
            tracked = λ g is. call.tracked g (risen.tracked g is);
            live = IsLive-shape (nodes mid) (nodes new) call.stored.shape parent live;
            visited = λ low. visited_still plans mid new IsAnySlot call.stored parent i up.visited;
            moves = λ sc v on stale. let z = above_at sc v on stale in (z.place, z.reached x call);
          }

      pub up_err : (e : E) → UpCall (Err e) → Repairs {A = A} {E = E} plans NeedsNothing IsEquation IsEquation top left first old new begin after way to was now (Err e)
      up_err e call = record {
        stored = both_stored new call.stored;
        at = call.at ∙ risen.at;
        detached = call.detached ∙ risen.detached;
        tracked = λ g is. call.tracked g (risen.tracked g is);
        moves = λ sc v on fine stale.
            let z = above_at sc v on stale in
            moves_again sc (IsUpTo plans (i + 1) (rules_of sc.spec) (term_now sc) z.place) (IsEquation (rules_of sc.spec) (term_now sc) v) old new begin after was now (Err e) (λ a is. (is.given.site, is.given.found)) tt (z.moves (Err e) call);
      }
