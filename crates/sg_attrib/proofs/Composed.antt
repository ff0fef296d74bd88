-- What a call stores and lists after another, or where its set of references is told in another way.
use Rattle.std.specs.Prelude.{◌⊎◌, List, Result, Ok, Err, OnOk, MatchResult}
use Rattle.std.proofs.Common.{sym, ap, ◌∙◌, inl, inr}
use Rattle.sg_kinds.specs.Terms.{Term}
use Rattle.sg_kinds.specs.Places.{Place}
use Rattle.sg_kinds.specs.Nets.{Reference}
use Rattle.sg_kinds.specs.FromScratch.{value_in}
use Rattle.sg_kinds.specs.declared.spec.Spec.{Spec}
use Rattle.sg_eval.specs.declared.journal.Instance.{Instance}
use Rattle.sg_forest.specs.declared.node_id.NodeId.{NodeId}
use Rattle.sg_forest.specs.Trees.{Climbs}
use Rattle.sg_groves.specs.Grove.{Grove, nodes, IsGrove}
use Rattle.sg_groves.specs.Holds.{IsPlaced}
use Rattle.sg_groves.specs.IsRight.{IsRightAt}
use Rattle.sg_groves.specs.Unchanged.{OnlyStored}
use Rattle.sg_groves.proofs.Frames.{only_itself, only_more, only_twice, only_value, only_climbed}
use Rattle.sg_terms.specs.Entries.{Gained, GainedAll}
use Rattle.sg_attrib.specs.Visited.{AreRight, IsSlotOf, Gives}
use Rattle.sg_attrib.proofs.Placed.{Slots, Sets, of_slot, placed_still, slot_before}
use Rattle.sg_attrib.proofs.Listed.{gained_before, gained_all_before, gained_more, gained_same, gained_nothing, gained_twice, gained_all_twice}

-- each reference that one set has of the term of a placed node is in another set
abbrev pub IsWithin : Grove → NodeId → Sets → Sets → Type 0
IsWithin g n few more = (root : NodeId) (t : Term) (u : Place) → IsPlaced g root t u n → (a : Reference Place) → few t u a → more t u a

-- a slot keeps its value where it is not among those that may change
kept_right : (old new : Grove) (changed : Slots) → OnlyStored old new changed → IsGrove old → (t : Term) (a : Reference Place) (m : NodeId) → (changed m a.slot → ⊥) → IsRightAt old t a.node m a.slot → IsRightAt new t a.node m a.slot
kept_right old new changed only is t a m out right =
    only_value old new changed only is m a.slot out ∙ right ∙ ap (λ (s : Spec). value_in s t (record { node = a.node; slot = a.slot })) (sym only.spec)

module _ {A E : Type 0} where
  -- nothing was done
  pub gives_nothing : (needs none : Sets) (g : Grove) (was : List Instance) (n : NodeId) (x : A) → ((root : NodeId) (t : Term) (u : Place) → IsPlaced g root t u n → (a : Reference Place) → none t u a → ⊥)
      → Gives {A = A} {E = E} needs none g g was was n (Ok x)
  gives_nothing needs none g was n x empty = record {
    values = λ root t u placed known a m of climbs. absurd (empty root t u placed a of);
    frame = only_itself g (IsSlotOf none g n);
    noted = λ root t u placed. record { gained = gained_nothing g root t (none t u) was; every = λ a of. absurd (empty root t u placed a of) };
  }

  -- the same references, told in another way; after an error more may be told
  pub gives_again : (needs few more : Sets) (old new : Grove) (was now : List Instance) (n : NodeId) (r : Result A E) → IsWithin old n few more → OnOk r (IsWithin old n more few)
      → Gives needs few old new was now n r → Gives needs more old new was now n r
  gives_again needs few more old new was now n r within back gives = record {
    values = λ root t u placed known. values_by root t u placed r back (gives.values root t u placed known);
    frame = only_more old new (IsSlotOf few old n) (IsSlotOf more old n)
        (λ m slot s. record { root = s.root; term = s.term; place = s.place; placed = s.placed; way = s.way; climbs = s.climbs; of_refs = within s.root s.term s.place s.placed (record { node = s.way; slot = slot }) s.of_refs }) gives.frame;
    noted = λ root t u placed. noted_by root t u placed r back (gives.noted root t u placed);
  }
    where
      values_by : (root : NodeId) (t : Term) (u : Place) → IsPlaced old root t u n → (x : Result A E) → OnOk x (IsWithin old n more few) → OnOk x (AreRight new root t (few t u)) → OnOk x (AreRight new root t (more t u))
      values_by root t u placed (Ok x) again right = λ a m of climbs. right a m (again root t u placed a of) climbs
      values_by root t u placed (Err e) again right = right

      noted_by : (root : NodeId) (t : Term) (u : Place) → IsPlaced old root t u n → (x : Result A E) → OnOk x (IsWithin old n more few)
          → MatchResult x (λ y. GainedAll old root t (few t u) was now) (λ y. Gained old root t (few t u) was now) → MatchResult x (λ y. GainedAll old root t (more t u) was now) (λ y. Gained old root t (more t u) was now)
      noted_by root t u placed (Ok x) again all = gained_same old root t (few t u) (more t u) was now (within root t u placed) (again root t u placed) all
      noted_by root t u placed (Err e) again some = gained_more old root t (few t u) (more t u) was now (within root t u placed) some

  -- another answer without an error
  pub gives_ok : {B D : Type 0} (needs gives : Sets) (old new : Grove) (was now : List Instance) (n : NodeId) (x : B) (y : A) → Gives {A = B} {E = D} needs gives old new was now n (Ok x) → Gives {A = A} {E = E} needs gives old new was now n (Ok y)
  gives_ok needs gives old new was now n x y g = record { values = g.values; frame = g.frame; noted = g.noted }

  -- another error
  pub gives_err : {B D : Type 0} (needs gives : Sets) (old new : Grove) (was now : List Instance) (n : NodeId) (x : D) (y : E) → Gives {A = B} {E = D} needs gives old new was now n (Err x) → Gives {A = A} {E = E} needs gives old new was now n (Err y)
  gives_err needs gives old new was now n x y g = record { values = g.values; frame = g.frame; noted = g.noted }

  -- one call after another
  module _ {B D : Type 0} (needs wants one two both : Sets) (old mid new : Grove) (was between now : List Instance) (n : NodeId) (x : A) (r : Result B E)
      (was_grove : IsGrove old) (is_grove : IsGrove mid)
      (first : Gives {A = A} {E = D} needs one old mid was between n (Ok x)) (second : Gives wants two mid new between now n r)
      (apart : (root : NodeId) (t : Term) (u : Place) → IsPlaced old root t u n → (a : Reference Place) → one t u a → two t u a → ⊥)
      (beyond : (root : NodeId) (t : Term) (u : Place) → IsPlaced old root t u n → (a : Reference Place) → needs t u a → one t u a → ⊥)
      (ready : (root : NodeId) (t : Term) (u : Place) → IsPlaced old root t u n → (a : Reference Place) (m : NodeId) → Climbs (nodes mid) a.node m root → wants t u a → IsRightAt mid t a.node m a.slot ⊎ (needs t u a ⊎ one t u a))
      (in_one : IsWithin old n one both) (in_two : IsWithin old n two both)
      (split : (root : NodeId) (t : Term) (u : Place) → IsPlaced old root t u n → (a : Reference Place) → both t u a → one t u a ⊎ two t u a) where
    before : (root : NodeId) (t : Term) (u : Place) → IsPlaced old root t u n → (m : NodeId) (a : Reference Place) → Climbs (nodes mid) a.node m root → Climbs (nodes old) a.node m root
    before root t u placed m a climbs = only_climbed old mid (IsSlotOf one old n) first.frame a.node m root climbs

    wanted : (root : NodeId) (t : Term) (u : Place) → IsPlaced old root t u n → AreRight old root t (needs t u) → AreRight mid root t (wants t u)
    wanted root t u placed known a m want climbs = elim (ready root t u placed a m climbs want) [
      | inl right ↦ right
      | inr (inl need) ↦
          let up = before root t u placed m a climbs in
          kept_right old mid (IsSlotOf one old n) first.frame was_grove t a m
          (λ s. beyond root t u placed a need (of_slot old was_grove one n root t u a.node m a.slot placed up s)) (known a m need up)
      | inr (inr given) ↦ first.values root t u placed known a m given climbs
    ]

    values_by : (root : NodeId) (t : Term) (u : Place) → IsPlaced old root t u n → AreRight old root t (needs t u) → (y : Result B E) → OnOk y (AreRight new root t (two t u)) → OnOk y (AreRight new root t (both t u))
    values_by root t u placed known (Err e) right = right
    values_by root t u placed known (Ok y) right = λ a m of climbs. elim (split root t u placed a of) [
      | inl given ↦
          let up = only_climbed mid new (IsSlotOf two mid n) second.frame a.node m root climbs in
          let now_placed = placed_still old mid (IsSlotOf one old n) first.frame was_grove n root t u placed in
          kept_right mid new (IsSlotOf two mid n) second.frame is_grove t a m
          (λ s. apart root t u placed a given (of_slot mid is_grove two n root t u a.node m a.slot now_placed up s)) (first.values root t u placed known a m given up)
      | inr given ↦ right a m given climbs
    ]

    noted_by : (root : NodeId) (t : Term) (u : Place) → IsPlaced old root t u n → (y : Result B E)
        → MatchResult y (λ z. GainedAll mid root t (two t u) between now) (λ z. Gained mid root t (two t u) between now) → MatchResult y (λ z. GainedAll old root t (both t u) was now) (λ z. Gained old root t (both t u) was now)
    noted_by root t u placed (Ok y) all =
        gained_all_twice old root t (one t u) (two t u) (both t u) was between now (apart root t u placed) (in_one root t u placed) (in_two root t u placed) (split root t u placed) (first.noted root t u placed)
        (gained_all_before old mid (IsSlotOf one old n) first.frame root t (two t u) between now all)
    noted_by root t u placed (Err e) some =
        gained_twice old root t (one t u) (two t u) (both t u) was between now (apart root t u placed) (in_one root t u placed) (in_two root t u placed) (first.noted root t u placed).gained
        (gained_before old mid (IsSlotOf one old n) first.frame root t (two t u) between now some)

    pub gives_twice : Gives needs both old new was now n r
    gives_twice = record {
      values = λ root t u placed known.
          values_by root t u placed known r (second.values root t u (placed_still old mid (IsSlotOf one old n) first.frame was_grove n root t u placed) (wanted root t u placed known));
      frame = only_more old new (λ m slot. IsSlotOf one old n m slot ⊎ IsSlotOf two mid n m slot) (IsSlotOf both old n)
          (λ m slot either. elim either [
            | inl s ↦ record { root = s.root; term = s.term; place = s.place; placed = s.placed; way = s.way; climbs = s.climbs; of_refs = in_one s.root s.term s.place s.placed (record { node = s.way; slot = slot }) s.of_refs }
            | inr s ↦ slot_before old mid (IsSlotOf one old n) first.frame was_grove two both n m slot in_two s
          ]) (only_twice old mid new (IsSlotOf one old n) (IsSlotOf two mid n) first.frame second.frame);
      noted = λ root t u placed. noted_by root t u placed r (second.noted root t u (placed_still old mid (IsSlotOf one old n) first.frame was_grove n root t u placed));
    }
