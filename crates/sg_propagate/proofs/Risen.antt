-- The way up from a change: what is up to date at a node on it, and what its next visits and those of the node above need.
use Rattle.std.specs.Prelude.{◌≡◌, ◌≢◌, ◌⊎◌, refl, ℕ, ◌+◌, ◌<◌, ◌≤◌, List, [], ◌∷◌, ◌++◌, length, slice_index, Result, Ok, Err, OnOk, MatchResult, Some}
use Rattle.std.proofs.Common.{sym, ap, ◌∙◌, subst, arith, inl, inr, append_assoc}
use Rattle.std.proofs.lemmas.Bool.{cases_lt}
use Rattle.std.proofs.lemmas.List.{append-nil, length-append}
use Rattle.std.proofs.lemmas.Option.{same_Some}
use Rattle.sg_kinds.specs.Terms.{Term}
use Rattle.sg_kinds.specs.Places.{Place, sub}
use Rattle.sg_kinds.specs.Nets.{Reference, label_of, net_of, phylum_at}
use Rattle.sg_kinds.specs.Instances.{Site, site_of}
use Rattle.sg_kinds.specs.Dependencies.{IsAttr}
use Rattle.sg_orders.specs.Keys.{operator_in}
use Rattle.sg_kinds.specs.Specification.{is_inherited, phylum_of, rules_of}
use Rattle.sg_kinds.specs.Visits.{row_at}
use Rattle.sg_kinds.specs.declared.plans.Plans.{Plans}
use Rattle.sg_kinds.specs.declared.spec.Rules.{Rules}
use Rattle.sg_kinds.specs.declared.spec.Spec.{Spec}
use Rattle.sg_eval.specs.declared.journal.Instance.{Instance}
use Rattle.sg_forest.specs.declared.node_id.NodeId.{NodeId}
use Rattle.sg_forest.specs.Trees.{IsRoot, Climbs}
use Rattle.sg_groves.specs.Evaluated.{HasChanged}
use Rattle.sg_groves.specs.Grove.{Grove, nodes, IsGrove}
use Rattle.sg_groves.specs.Stored.{value_there}
use Rattle.sg_groves.proofs.Below.{below_or_not}
use Rattle.sg_groves.proofs.Frames.{only_climbed, only_more}
use Rattle.sg_groves.proofs.Ways.{one_way}
use Rattle.sg_plans.specs.Planned.{IsPlanned}
use Rattle.sg_plans.specs.Segments.{HasVisit, IsGivenBy, IsNodeAt, IsOfVisit, IsOutside, IsTaken}
use Rattle.sg_plans.proofs.Bearers.{found_bears, found_live}
use Rattle.sg_plans.proofs.Visiting as visiting
use Rattle.sg_plans.proofs.Ways.{one_visit}
use Rattle.sg_terms.specs.Entries.{Gained, GainedAll}
use Rattle.sg_attrib.specs.Visited as visited
use Rattle.sg_attrib.specs.Visited.{HasEquation, IsGiven, IsGivenUpTo, IsKnown, IsNothing}
use Rattle.sg_attrib.proofs.Listed.{gained_more, gained_same}
use Rattle.sg_attrib.proofs.Nodes.{op_live, operation_is}
use Rattle.sg_propagate.specs.Worklist.{Worklist}
use Rattle.sg_propagate.proofs.Changing.{same_or_not}
use Rattle.sg_propagate.specs.Scenes.{Scene, term_now, value_now, value_was, AreFine, AreStale, IsCalm, IsFine, IsStaged}
use Rattle.sg_propagate.specs.Exchanged.{IsReach}
use Rattle.sg_propagate.specs.Moves.{AreMeant, IsMore, IsOnStage, IsQuiet, IsRefSlot, Moves, Refs}
use Rattle.sg_propagate.proofs.Composed.{moves_ok, moves_twice}
use Rattle.sg_propagate.proofs.Early as early
use Rattle.sg_propagate.proofs.Early.{IsAttrAt}
use Rattle.sg_propagate.proofs.Staged.{calm_fine, more_itself, on_stage_still, value_kept}
use Rattle.sg_propagate.proofs.Stepped.{label_here}

-- what the visits before visit k give
abbrev pub IsUpTo : Plans → ℕ → Refs
IsUpTo plans k rules t u a = IsGivenUpTo rules plans k t u a

abbrev pub IsEquation : Refs
IsEquation rules t u a = HasEquation rules t u a

abbrev pub NeedsNothing : Refs
NeedsNothing rules t u a = IsNothing t u a

-- the same references and such as are not to be evaluated
module _ {A E : Type 0} (plans : Plans) (sc : Scene) (few more : Reference Place → Type 0) (old new : Grove) (begin after : Worklist) (was now : List Instance) where
  pub moves_wider : (r : Result A E) → OnOk r (IsStaged plans sc new after) → ((a : Reference Place) → few a → more a) → ((a : Reference Place) → more a → few a ⊎ IsCalm sc a) → Moves sc few old new begin after was now r → Moves sc more old new begin after was now r
  moves_wider r staged within back m = record {
    frame = only_more old new (IsRefSlot old sc (AreMeant sc few)) (IsRefSlot old sc (AreMeant sc more)) (λ n slot s. record { ref = s.ref; of_refs = (let o = s.of_refs in (within s.ref o.0, o.1)); climbs = s.climbs; same = s.same }) m.frame;
    listed = listed_by r m.listed;
    fine = fine_by r staged m.fine;
    noted = m.noted;
    more = m.more;
  }
    where
      up : (a : Reference Place) → AreMeant sc few a → AreMeant sc more a
      up a is = (within a is.0, is.1)

      down : (a : Reference Place) → AreMeant sc more a → AreMeant sc few a
      down a is = elim (back a is.0) [ inl one ↦ (one, is.1) | inr calm ↦ absurd (calm.still is.1) ]

      listed_by : (x : Result A E) → MatchResult x (λ _. GainedAll old sc.root (term_now sc) (AreMeant sc few) was now) (λ _. Gained old sc.root (term_now sc) (AreMeant sc few) was now)
          → MatchResult x (λ _. GainedAll old sc.root (term_now sc) (AreMeant sc more) was now) (λ _. Gained old sc.root (term_now sc) (AreMeant sc more) was now)
      listed_by (Ok x) all = gained_same old sc.root (term_now sc) (AreMeant sc few) (AreMeant sc more) was now up down all
      listed_by (Err e) some = gained_more old sc.root (term_now sc) (AreMeant sc few) (AreMeant sc more) was now up some

      fine_by : (x : Result A E) → OnOk x (IsStaged plans sc new after) → OnOk x (AreFine sc new after few) → OnOk x (AreFine sc new after more)
      fine_by (Ok x) staged fine = λ a n of climbs. elim (back a of) [ inl one ↦ fine a n one climbs | inr calm ↦ calm_fine plans sc new after staged a n calm climbs ]
      fine_by (Err e) staged fine = fine

-- lists with one end have one element before it
pub same_last : (x y : List ℕ) (k l : ℕ) (u : List ℕ) → x ++ k ∷ u ≡ y ++ l ∷ u → k ≡ l
same_last [] [] k l u e = ap first e
  where
    first : List ℕ → ℕ
    first [] = 0
    first (z ∷ zs) = z
same_last [] (b ∷ y) k l u e = absurd (omega (arith, ap length e, length-append y (l ∷ u)))
same_last (a ∷ x) [] k l u e = absurd (omega (arith, ap length e, length-append x (k ∷ u)))
same_last (a ∷ x) (b ∷ y) k l u e = same_last x y k l u (ap rest e)
  where
    rest : List ℕ → List ℕ
    rest [] = []
    rest (z ∷ zs) = zs

pub not_longer : (x : List ℕ) (k : ℕ) (u : List ℕ) → u ≡ x ++ k ∷ u → ⊥
not_longer x k u e = omega (arith, ap length e, length-append x (k ∷ u))

-- a node above the new subterm whose visits up to visit k are up to date, where those before gave what they gave before
pub record IsReached (plans : Plans) (sc : Scene) (top left n : NodeId) (k : ℕ) (place : Place) (old new : Grove) (begin after : Worklist) (was now : List Instance) : Type 0 where
  pub on : IsOnStage plans sc new after top left n place
  pub node : IsNodeAt (term_now sc) place
  pub way : List ℕ
  pub over : sc.place ≡ way ++ place
  pub moves : Moves {A = Unit {0}} {E = Unit {0}} sc (IsUpTo plans (k + 1) (rules_of sc.spec) (term_now sc) place) old new begin after was now (Ok tt)
  pub quiet : (kid : ℕ) (q : Place) → place ≡ kid ∷ q → (a : Reference Place) (h : ℕ) → h < k → IsAttrAt (rules_of sc.spec) (term_now sc) place a → IsGivenBy (rules_of sc.spec) plans (term_now sc) place h a → value_now sc a ≡ value_was sc a

module _ (plans : Plans) (sc : Scene) (top left : NodeId) (old mid : Grove) (is_old : IsGrove old) (is_mid : IsGrove mid) (begin between : Worklist) (staged : IsStaged plans sc old begin) (stale : AreStale sc old (HasEquation (rules_of sc.spec) (term_now sc) []))
    (free : (j : ℕ) (a : Reference Place) → IsTaken (rules_of sc.spec) plans (term_now sc) [] j a → ⊥) (n : NodeId) (k : ℕ) (u : Place) (was among : List Instance) (reached : IsReached plans sc top left n k u old mid begin between was among) where
  abbrev rules : Rules
  rules = rules_of sc.spec

  abbrev t : Term
  t = term_now sc

  abbrev plan : IsPlanned sc.spec plans (term_now sc)
  plan = staged.planned

  abbrev Same : Reference Place → Type 0
  Same a = value_now sc a ≡ value_was sc a

  abbrev One : Reference Place → Type 0
  One a = IsUpTo plans (k + 1) (rules_of sc.spec) (term_now sc) u a

  pub climbed : (v : Place) (m : NodeId) → Climbs (nodes mid) v m sc.root → Climbs (nodes old) v m sc.root
  climbed v m climbs = only_climbed old mid (IsRefSlot old sc (AreMeant sc One)) reached.moves.frame v m sc.root climbs

  pub far_of : (v : Place) → IsOutside u v → IsOutside sc.place v
  far_of v out w at = out (w ++ reached.way) (at ∙ ap (λ p. w ++ p) reached.over ∙ sym (append_assoc w reached.way u))

  -- what is defined outside the node is as before, and right where it has the value of before
  pub kept : (a : Reference Place) (m : NodeId) (i : Site Place) → site_of rules (net_of t) a ≡ Some i → IsOutside sc.place i.node → (One a → ⊥) → Climbs (nodes mid) a.node m sc.root → value_there mid m a.slot ≡ value_was sc a
  kept a m i found far apart climbs =
      let up = climbed a.node m climbs in
      value_kept plans sc old mid is_old begin between (AreMeant sc One) staged reached.moves.frame a m up (λ q. apart q.0) ∙ stale a m i (i, found) found far up

  pub not_done : (a : Reference Place) (i : Site Place) → site_of rules (net_of t) a ≡ Some i → IsOutside u i.node → One a → ⊥
  not_done a i found out one =
      let same : one.given.site ≡ i = same_Some one.given.site i (sym one.given.found ∙ found) in
      out one.given.of_visit.way (ap (λ (j : Site Place). j.node) (sym same) ∙ one.given.of_visit.below)

  pub still : (w : Worklist) (a : Reference Place) (m : NodeId) (i : Site Place) → site_of rules (net_of t) a ≡ Some i → IsOutside u i.node → Climbs (nodes mid) a.node m sc.root → Same a → IsFine sc mid w a m
  still w a m i found out climbs same = record {
    right = kept a m i found (far_of i.node out) (not_done a i found out) climbs ∙ sym same;
    noted = λ far other. absurd (other same);
    awake = λ far other. absurd (other same);
  }

  pub done : (w : Worklist) → IsMore between w → (a : Reference Place) (m : NodeId) → One a → Climbs (nodes mid) a.node m sc.root → IsFine sc mid w a m
  done w more a m one climbs =
      let fine = reached.moves.fine a m one climbs in
      record {
        right = fine.right;
        noted = λ far other. more.changed (m.key, a.slot) (fine.noted far other);
        awake = λ far other i found above. more.active m.key (fine.awake far other i found above);
      }

  pub calm_of : (a : Reference Place) (i : Site Place) → site_of rules (net_of t) a ≡ Some i → IsOutside sc.place i.node → (HasChanged sc.spec sc.was sc.place sc.part i → ⊥) → IsCalm sc a
  calm_of a i found far clean = record {
    site = i;
    found = found;
    still = λ meant.
        let same : meant.site ≡ i = same_Some meant.site i (sym meant.found ∙ found) in
        elim meant.why [
          | inl below ↦ far below.below (ap (λ (j : Site Place). j.node) (sym same) ∙ below.is)
          | inr both ↦ clean (subst (HasChanged sc.spec sc.was sc.place sc.part) same both.1)
        ];
  }

  -- where the visit gives nothing new, the next may come
  pub quiet_too : IsRoot (nodes mid) n ⊎ IsQuiet plans mid n k between → (kid : ℕ) (q : Place) → u ≡ kid ∷ q → (a : Reference Place) (h : ℕ) → h < k + 1 → IsAttrAt rules t u a → IsGivenBy rules plans t u h a → Same a
  quiet_too none kid q e a h low at given = elim (cases_lt h k) [
    | inl less ↦ reached.quiet kid q e a h less at given
    | inr past ↦ elim (same_or_not (value_now sc a) (value_was sc a)) [
      | inl same ↦ same
      | inr other ↦ absurd (
          let here : Climbs (nodes mid) a.node n sc.root = subst (λ v. Climbs (nodes mid) v n sc.root) (sym at.node) reached.on.climbs in
          let far : IsOutside sc.place a.node = subst (IsOutside sc.place) (sym at.node) reached.on.outside in
          let noted = (reached.moves.fine a n (record { visit = h; less = low; given = given }) here).noted far other in
          elim none [
            | inl root ↦ (let tops = one_way mid is_mid u [] n sc.root n reached.on.staged.placed.top root reached.on.climbs refl in omega (arith, ap length (sym e ∙ tops.0)))
            | inr quiet ↦
                let op = label_here plans sc mid is_mid between top left n u reached.on (operator_in t u) reached.node in
                let live = op_live mid is_mid n (operator_in t u) op in
                let x = live.node in
                let operation = operation_is mid is_mid n x (operator_in t u) live.found op in
                let spec_is = reached.on.staged.spec_is in
                let X : at.phylum ≡ x.label.phylum = same_Some at.phylum x.label.phylum (sym at.left ∙ ap (λ (z : Spec). phylum_of z.ops (operator_in t u)) (sym spec_is) ∙ operation.phylum) in
                let slot = early.given_slot plans sc staged.was_planned staged.planned u h a at given in
                let number : h ≡ k = omega (arith, low, past) in
                quiet x a.slot live.found (subst (λ (z : Spec). IsAttr (rules_of z) x.label.phylum a.slot) (sym spec_is) (subst (λ Y. IsAttr rules Y a.slot) X at.attr))
                (ap (λ (z : Spec). is_inherited z.phyla x.label.phylum a.slot) spec_is ∙ ap (λ Y. is_inherited rules.phyla Y a.slot) (sym X) ∙ slot.0) (ap (λ Y. slice_index (row_at plans.visits Y) a.slot) (sym X) ∙ slot.1 ∙ number) noted
          ])
    ]
  ]

  -- the next visit
  module _ {A E : Type 0} (none : IsRoot (nodes mid) n ⊎ IsQuiet plans mid n k between) (new : Grove) (after : Worklist) (now : List Instance) (r : Result A E) where
    pub next_needs : AreFine sc mid between (IsKnown rules plans (k + 1) t u)
    next_needs a m (visited.earlier j less given) climbs = done between (more_itself between) a m (record { visit = j; less = less; given = given }) climbs
    next_needs a m (visited.taken take) climbs =
        let e = early.taken_early plans sc staged.was_planned plan free u (k + 1) a reached.node take in
        let up = early.early_above plans sc staged.was_planned plan u (k + 1) e.0 e.2 in
        let same = early.early_same plans sc staged.was_planned plan free u reached.way reached.over reached.node (k + 1) (omega arith) (quiet_too none up.0 up.1 up.2) e.0 (found_live rules t a e.0 e.1) e.2 in
        still between a m e.0 e.1 (early.early_outside plans sc staged.was_planned plan u (k + 1) e.0 e.2) climbs (subst Same (found_bears rules t a e.0 e.1) same)

    apart : (a : Reference Place) → One a → IsGivenBy rules plans t u (k + 1) a → ⊥
    apart a one two =
        let same : one.given.site ≡ two.site = same_Some one.given.site two.site (sym one.given.found ∙ two.found) in
        let visit = one_visit rules plans t u one.visit (k + 1) two.site (subst (IsOfVisit rules plans t u one.visit) same one.given.of_visit) two.of_visit in
        let less = one.less in
        omega (arith, visit, less)

    pub next_stale : AreStale sc mid (IsGiven rules plans (k + 1) t u)
    next_stale a m i given found far climbs = kept a m i found far (λ one. apart a one given) climbs

    in_before : (a : Reference Place) → One a → IsUpTo plans (k + 1 + 1) rules t u a
    in_before a is = let less = is.less in record { visit = is.visit; less = omega (arith, less); given = is.given }

    in_visit : (a : Reference Place) → IsGivenBy rules plans t u (k + 1) a → IsUpTo plans (k + 1 + 1) rules t u a
    in_visit a is = record { visit = k + 1; less = omega arith; given = is }

    split : (a : Reference Place) → IsUpTo plans (k + 1 + 1) rules t u a → One a ⊎ IsGivenBy rules plans t u (k + 1) a
    split a is = elim (cases_lt is.visit (k + 1)) [
      | inl low ↦ inl (record { visit = is.visit; less = low; given = is.given })
      | inr past ↦ let less = is.less in let same : is.visit ≡ k + 1 = omega (arith, past, less) in inr (subst (λ j. IsGivenBy rules plans t u j a) same is.given)
    ]

    pub next_moves : Moves sc (IsGiven rules plans (k + 1) t u) mid new between after among now r → Moves sc (IsUpTo plans (k + 1 + 1) rules t u) old new begin after was now r
    next_moves second =
        moves_twice plans sc One (IsGiven rules plans (k + 1) t u) (IsUpTo plans (k + 1 + 1) rules t u) old mid new begin between after was among now tt r is_old is_mid reached.on.staged reached.moves second apart in_before in_visit split

  pub next_reached : {A E : Type 0} → IsRoot (nodes mid) n ⊎ IsQuiet plans mid n k between → (new : Grove) (after : Worklist) (now : List Instance) (x : A) → Moves {A = A} {E = E} sc (IsGiven rules plans (k + 1) t u) mid new between after among now (Ok x)
      → IsReached plans sc top left n (k + 1) u old new begin after was now
  next_reached none new after now x second = record {
    on = on_stage_still plans sc mid new is_mid between after (AreMeant sc (IsGiven rules plans (k + 1) t u)) reached.on.staged second.frame (λ a is. is.1) second.more second.noted top left n u reached.on;
    node = reached.node;
    way = reached.way;
    over = reached.over;
    moves = moves_ok sc (IsUpTo plans (k + 1 + 1) rules t u) old new begin after was now x tt (next_moves none new after now (Ok x) second);
    quiet = quiet_too none;
  }

  -- where no visit gives anything new, what they give at the node has the value of before
  quiet_all : IsRoot (nodes mid) n ⊎ IsQuiet plans mid n k between → ((h : ℕ) → HasVisit rules plans t u h → h ≤ k) → (kid : ℕ) (q : Place) → u ≡ kid ∷ q → (a : Reference Place) (h : ℕ) → IsAttrAt rules t u a → IsGivenBy rules plans t u h a → Same a
  quiet_all none last kid q e a h at given = let low = last h (visiting.visit_there sc.spec plans t plan u h given.site given.of_visit) in quiet_too none kid q e a h (omega (arith, low)) at given

  -- and that is the end
  pub last_moves : {A E : Type 0} → IsRoot (nodes mid) n ⊎ IsQuiet plans mid n k between → ((h : ℕ) → HasVisit rules plans t u h → h ≤ k) → (x : A) → Moves {A = A} {E = E} sc (HasEquation rules t []) old mid begin between was among (Ok x)
  last_moves none last x =
      moves_ok sc (HasEquation rules t []) old mid begin between was among tt x
      (moves_wider plans sc One (HasEquation rules t []) old mid begin between was among (Ok tt) reached.on.staged (λ a one. (one.given.site, one.given.found)) back reached.moves)
    where
      calm_by : (v : Place) → u ≡ v → (a : Reference Place) (i : Site Place) → site_of (rules_of sc.spec) (net_of (term_now sc)) a ≡ Some i → IsOutside u i.node → IsCalm sc a
      calm_by [] e a i found out = absurd (out i.node (sym (append-nil i.node) ∙ ap (λ w. i.node ++ w) (sym e)))
      calm_by (kid ∷ q) e a i found out =
          calm_of a i found (far_of i.node out) (early.outer_clean plans sc staged.was_planned plan free u reached.way reached.over reached.node (quiet_all none last kid q e) i (found_live rules t a i found) out)

      back : (a : Reference Place) → HasEquation (rules_of sc.spec) (term_now sc) [] a → One a ⊎ IsCalm sc a
      back a is = elim (below_or_not is.0.node u) [
        | inr out ↦ inr (calm_by u refl a is.0 is.1 (λ w at. out (record { below = w; is = at })))
        | inl below ↦
            let v = visiting.visit_some rules plans t u below.below is.0 (found_live rules t a is.0 is.1) below.is in
            let low = last v.0 (visiting.visit_there sc.spec plans t plan u v.0 is.0 v.1) in
            inl (record { visit = v.0; less = omega (arith, low); given = record { site = is.0; found = is.1; of_visit = v.1 } })
      ]

  -- and the node is the one that the change reaches
  pub last_reach : IsRoot (nodes mid) n ⊎ IsQuiet plans mid n k between → ((h : ℕ) → HasVisit rules plans t u h → h ≤ k) → IsReach sc mid n
  last_reach none last = record {
    place = u;
    way = reached.way;
    over = reached.over;
    climbs = reached.on.climbs;
    outside = outside_by u refl;
    own = own_by u refl;
  }
    where
      outside_by : (v : Place) → u ≡ v → (a : Reference Place) → IsOutside u a.node → Same a
      outside_by [] e a out = absurd (out a.node (sym (append-nil a.node) ∙ ap (λ w. a.node ++ w) (sym e)))
      outside_by (kid ∷ q) e a out = early.ref_same plans sc staged.was_planned plan free u reached.way reached.over reached.node (quiet_all none last kid q e) a out

      own_by : (v : Place) → u ≡ v → (X slot : ℕ) → u ≢ [] → phylum_at sc.spec.ops (label_of (sub (term_now sc) u)) ≡ Some X → IsAttr (rules_of sc.spec) X slot → Same (record { node = u; slot = slot })
      own_by [] e X slot some left attr = absurd (some e)
      own_by (kid ∷ q) e X slot some left attr =
          early.own_same plans sc staged.was_planned plan free u reached.way reached.over reached.node (quiet_all none last kid q e) (record { node = u; slot = slot })
          (record { node = refl; phylum = X; left = ap (phylum_at sc.spec.ops) (sym reached.node) ∙ left; attr = attr })
