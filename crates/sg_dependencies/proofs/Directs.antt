-- How the equations' pairs make the direct dependencies.
use Rattle.std.specs.Prelude.{◌≡◌, ◌↔◌, ◌⊎◌, ℕ, zero, suc, ◌+◌, ◌<◌, ◌≤◌, ◌^◌, Bool, true, false, List, [], length, map, replicate, None, Some, slice_get, option_map, unwrap_or, Contains, All}
use Rattle.std.proofs.Common.{refl, sym, ◌∙◌, ap, subst, get_or, set, arith, inl, inr, length-set}
use Rattle.std.proofs.lemmas.Bool.{cases_lt, false≢true}
use Rattle.std.proofs.lemmas.List.{get_or_default, get_or-map, get_or-replicate, get_or_past, length-map, length-replicate}
use Rattle.std.proofs.lemmas.List.Elements.{Contains-get_or, All-contains}
use Rattle.std.proofs.lemmas.Option.{slice_get_past, get_or_from_slice_get}
use Rattle.sg_sets.specs.Rows.{Holds}
use Rattle.sg_sets.proofs.BeforeLemmas.{Holds-below}
use Rattle.sg_sets.proofs.MembersLemmas.{has-below}
use Rattle.sg_kinds.specs.declared.spec.Rules.{Rules}
use Rattle.sg_kinds.specs.declared.spec.Rule.{Rule}
use Rattle.sg_kinds.specs.declared.spec.Operator.{Operator}
use Rattle.sg_kinds.specs.declared.spec.Occurrence.{Occurrence}
use Rattle.sg_kinds.specs.Specification.{locals_of}
use Rattle.sg_kinds.specs.Instances.{attr_count}
use Rattle.sg_kinds.specs.Dependencies.{phylum_there, Direct, occurrence}
use Rattle.sg_kinds.specs.Visits.{vertex}
use Rattle.sg_kinds.specs.ValidPlans.{vertices}
use Rattle.sg_dependencies.specs.Vertices.{IsVertex, AreInRange, Numbered, AreRowsOf}
use Rattle.sg_dependencies.specs.Frames.{Frame, frame_of, frames_of, number_in}
use Rattle.sg_dependencies.specs.Induced.{relation_at}
use Rattle.sg_dependencies.specs.Rounds.{no_pairs, IsNumberedBelow, IsNamed}
use Rattle.sg_dependencies.proofs.Ranges.{vertices_small}
use Rattle.sg_dependencies.proofs.Families.{at_same, at_each}
use Rattle.sg_dependencies.proofs.Numbers.{number_in-frame_of, vertex_there, vertex_under, spots_count, frames_count, frame_there}

-- an operator with a vertex is there
pub op_there : (rules : Rules) (p : ℕ) (o : Occurrence) → IsVertex rules p o → p < length rules.ops
op_there rules p o is = elim (cases_lt p (length rules.ops)) [ inl low ↦ low | inr past ↦ absurd (by o.at o.slot is (slice_get_past rules.ops p past)) ]
  where
    by : (k a : ℕ) → IsVertex rules p (occurrence k a) → slice_get rules.ops p ≡ None → ⊥
    by zero a low none =
        let attrs : attr_count rules (phylum_there rules.ops p zero) ≡ 0 = ap (λ o. attr_count rules (option_map (λ (x : Operator). x.phylum) o)) none in
        let locals : length (locals_of rules.ops p) ≡ 0 = ap (λ o. length (unwrap_or (option_map (λ (x : Operator). x.locals) o) [])) none in
        omega (arith, low, attrs, locals)
    by (suc k) a low none =
        let attrs : attr_count rules (phylum_there rules.ops p (suc k)) ≡ 0 = ap (λ o. attr_count rules (slice_get (unwrap_or (option_map (λ (x : Operator). x.args) o) []) k)) none in
        omega (arith, low, attrs)

pub numbered_below : (rules : Rules) (p size : ℕ) (o : Occurrence) → IsVertex rules p o → size ≡ vertices rules p → vertices rules p < 2 ^ 32 → IsNumberedBelow (frame_of rules p) size o
numbered_below rules p size o is long small =
    let n = number_in-frame_of rules p o is in
    let u = vertex_under rules p o is in
    record { there = let t = vertex_there rules p o is in omega (arith, t, spots_count rules p); under = omega (arith, n, u, long); small = omega (arith, n, u, small) }

-- the first i equations are taken
pub record DirectTo (rules : Rules) (relations : List (List (List Bool))) (i : ℕ) : Type 0 where
  pub count : length relations ≡ length rules.ops
  pub size : (p : ℕ) → p < length rules.ops → length (relation_at relations p) ≡ vertices rules p
  pub sound : (p m n : ℕ) → Holds (relation_at relations p) m n → Numbered rules p (Direct rules p) m n
  pub whole : (k : ℕ) (r : Rule) → k < i → get_or rules.rules k r ≡ r → (u : Occurrence) → Contains r.args u → Holds (relation_at relations r.op) (vertex rules r.op u) (vertex rules r.op r.target)

pub no_pair : (n a b : ℕ) → Holds (no_pairs n) a b → ⊥
no_pair n a b h =
    let low : a < n = omega (arith, Holds-below (no_pairs n) a b h, length-replicate n (replicate n false)) in
    let row : Holds (no_pairs n) a b ≡ Holds (no_pairs n) a b = refl in
    let flag = subst (λ r. get_or r b false ≡ true) (get_or-replicate n a (replicate n false) [] low) h in
    let high : b < n = omega (arith, has-below (replicate n false) b flag, length-replicate n false) in
    false≢true (sym (get_or-replicate n b false false high) ∙ flag)

empty_at : (rules : Rules) (frames : List Frame) (p : ℕ) → frames ≡ frames_of rules → p < length rules.ops → relation_at (map (λ (f : Frame). no_pairs f.count) frames) p ≡ no_pairs (vertices rules p)
empty_at rules frames p is low =
    let under : p < length frames = omega (arith, ap length is, frames_count rules) in
    get_or-map (λ (f : Frame). no_pairs f.count) frames p (frame_of rules p) [] under
    ∙ ap (λ (f : Frame). no_pairs f.count) (ap (λ fs. get_or fs p (frame_of rules p)) is ∙ frame_there rules p (frame_of rules p) low)

pub direct_none : (rules : Rules) (frames : List Frame) (relations : List (List (List Bool))) → frames ≡ frames_of rules → relations ≡ map (λ (f : Frame). no_pairs f.count) frames → DirectTo rules relations 0
direct_none rules frames relations is made =
    let long : length relations ≡ length rules.ops = ap length made ∙ length-map frames (λ (f : Frame). no_pairs f.count) ∙ ap length is ∙ frames_count rules in
    let at : (p : ℕ) → p < length rules.ops → relation_at relations p ≡ no_pairs (vertices rules p) = λ p low. ap (λ rs. relation_at rs p) made ∙ empty_at rules frames p is low in
    record {
      count = long;
      size = λ p low. ap length (at p low) ∙ length-replicate (vertices rules p) (replicate (vertices rules p) false);
      sound = λ p m n h. absurd (elim (cases_lt p (length rules.ops)) [
        | inl low ↦ no_pair (vertices rules p) m n (subst (λ r. Holds r m n) (at p low) h)
        | inr past ↦ let out : length relations ≤ p = omega (arith, past, long) in false≢true (subst (λ r. get_or (get_or r m []) n false ≡ true) (get_or_past relations p [] out) h)
      ]);
      whole = λ k r low at' u in'. absurd (omega (arith, low));
    }

-- the pairs of an equation are direct dependencies
named_direct : (rules : Rules) (i : ℕ) (r : Rule) → i < length rules.rules → get_or rules.rules i r ≡ r → IsVertex rules r.op r.target → All (IsVertex rules r.op) r.args → (m n : ℕ) → IsNamed (frame_of rules r.op) r (length r.args) m n → Numbered rules r.op (Direct rules r.op) m n
named_direct rules i r low at target args m n is =
    let u = get_or r.args is.place r.target in
    let in' : Contains r.args u = Contains-get_or r.args is.place r.target is.low in
    record {
      from = u;
      to = r.target;
      related = record { rule = r; stands = (i, low, at); of_operator = refl; names = in'; target = refl };
      from_number = sym (number_in-frame_of rules r.op u (args is.place r.target is.low)) ∙ is.from;
      to_number = sym (number_in-frame_of rules r.op r.target target) ∙ is.to;
    }

named_whole : (rules : Rules) (r : Rule) → IsVertex rules r.op r.target → All (IsVertex rules r.op) r.args → (u : Occurrence) → Contains r.args u → IsNamed (frame_of rules r.op) r (length r.args) (vertex rules r.op u) (vertex rules r.op r.target)
named_whole rules r target args u in' =
    let same : get_or r.args in'.0 r.target ≡ u = get_or_default r.args in'.0 r.target u in'.1 ∙ in'.2 in
    record {
      place = in'.0;
      low = in'.1;
      from = ap (number_in (frame_of rules r.op)) same ∙ number_in-frame_of rules r.op u (All-contains (IsVertex rules r.op) r.args u args in');
      to = number_in-frame_of rules r.op r.target target;
    }

pub direct_more : (rules : Rules) (now : List (List (List Bool))) (i : ℕ) (r : Rule) (rows : List (List Bool)) → AreInRange rules → DirectTo rules now i → i < length rules.rules → r ≡ get_or rules.rules i r
    → length rows ≡ length (relation_at now r.op) → ((m n : ℕ) → Holds rows m n ↔ (Holds (relation_at now r.op) m n ⊎ IsNamed (frame_of rules r.op) r (length r.args) m n)) → DirectTo rules (set now r.op rows) (i + 1)
direct_more rules now i r rows ranges to low at long relates =
    let target : IsVertex rules r.op r.target = subst (λ (x : Rule). IsVertex rules x.op x.target) (sym at) (ranges.equations.targets i r low) in
    let args : All (IsVertex rules r.op) r.args = subst (λ (x : Rule). All (IsVertex rules x.op) x.args) (sym at) (ranges.equations.args i r low) in
    let there : r.op < length now = omega (arith, op_there rules r.op r.target target, to.count) in
    record {
      count = length-set now r.op rows ∙ to.count;
      size = λ p under. at_each now r.op rows there (λ q x. length x ≡ length (relation_at now q)) long p refl ∙ to.size p under;
      sound = λ p m n. at_each now r.op rows there (λ q x. Holds x m n → Numbered rules q (Direct rules q) m n)
          (λ h. elim ((relates m n).0 h) [ inl was ↦ to.sound r.op m n was | inr named ↦ named_direct rules i r low (sym at) target args m n named ]) p (to.sound p m n);
      whole = λ k s under is u in'. elim (cases_lt k i) [
        | inl before ↦ at_each now r.op rows there (λ q x. Holds (relation_at now q) (vertex rules s.op u) (vertex rules s.op s.target) → Holds x (vertex rules s.op u) (vertex rules s.op s.target)) (λ h. (relates (vertex rules s.op u) (vertex rules s.op s.target)).1 (inl h)) s.op (λ h. h) (to.whole k s before is u in')
        | inr past ↦
            let here : k ≡ i = omega (arith, under, past) in
            let same : r ≡ s = at ∙ get_or_default rules.rules i r s low ∙ ap (λ j. get_or rules.rules j s) (sym here) ∙ is in
            subst (λ (x : Rule). (v : Occurrence) → Contains x.args v → Holds (relation_at (set now r.op rows) x.op) (vertex rules x.op v) (vertex rules x.op x.target)) same
            (λ v in''. subst (λ x. Holds x (vertex rules r.op v) (vertex rules r.op r.target)) (sym (at_same now r.op rows there)) ((relates (vertex rules r.op v) (vertex rules r.op r.target)).1 (inr (named_whole rules r target args v in''))))
            u in'
      ];
    }

pub direct_all : (rules : Rules) (relations : List (List (List Bool))) (i : ℕ) → DirectTo rules relations i → length rules.rules ≤ i → (p : ℕ) → p < length rules.ops → AreRowsOf rules p (Direct rules p) (relation_at relations p)
direct_all rules relations i to end p low = record {
  size = to.size p low;
  sound = to.sound p;
  whole = λ u v d.
      let s = d.stands in
      let h = to.whole s.0 d.rule (let l = s.1 in omega (arith, l, end)) s.2 u d.names in
      subst (λ q. Holds (relation_at relations q) (vertex rules q u) (vertex rules q v)) d.of_operator (subst (λ o. Holds (relation_at relations d.rule.op) (vertex rules d.rule.op u) (vertex rules d.rule.op o)) d.target h);
}

-- an equation in range
pub record AtRule (rules : Rules) (i : ℕ) (r : Rule) : Type 0 where
  pub low : i < length rules.rules
  pub at : r ≡ get_or rules.rules i r
  pub target : IsVertex rules r.op r.target
  pub args : All (IsVertex rules r.op) r.args
  pub there : r.op < length rules.ops

pub at_rule : (rules : Rules) (items : List Rule) (i : ℕ) (r : Rule) → AreInRange rules → items ≡ rules.rules → i < length items → r ≡ get_or items i r → AtRule rules i r
at_rule rules items i r ranges same low at =
    let in' : i < length rules.rules = omega (arith, ap length same, low) in
    let is : r ≡ get_or rules.rules i r = at ∙ ap (λ xs. get_or xs i r) same in
    let target : IsVertex rules r.op r.target = subst (λ (x : Rule). IsVertex rules x.op x.target) (sym is) (ranges.equations.targets i r in') in
    record {
      low = in';
      at = is;
      target = target;
      args = subst (λ (x : Rule). All (IsVertex rules x.op) x.args) (sym is) (ranges.equations.args i r in');
      there = op_there rules r.op r.target target;
    }

pub frame_is : (rules : Rules) (frames : List Frame) (p : ℕ) (x : Frame) → frames ≡ frames_of rules → p < length rules.ops → slice_get frames p ≡ Some x → x ≡ frame_of rules p
frame_is rules frames p x same low at = sym (get_or_from_slice_get frames p x x at) ∙ ap (λ fs. get_or fs p x) same ∙ frame_there rules p x low

-- what the loop over the equations has in hand
pub record AtStep (rules : Rules) (now : List (List (List Bool))) (i : ℕ) (r : Rule) (frame : Frame) (held : List (List Bool)) : Type 0 where
  pub rule : AtRule rules i r
  pub frame_is : frame ≡ frame_of rules r.op
  pub held_is : held ≡ relation_at now r.op
  pub size : length held ≡ vertices rules r.op

pub at_step : (rules : Rules) (items : List Rule) (frames : List Frame) (now : List (List (List Bool))) (i op : ℕ) (r : Rule) (frame : Frame) (held : List (List Bool)) → AreInRange rules → items ≡ rules.rules → frames ≡ frames_of rules → DirectTo rules now i
    → i < length items → r ≡ get_or items i r → op ≡ r.op → slice_get frames op ≡ Some frame → held ≡ get_or now op held → AtStep rules now i r frame held
at_step rules items frames now i op r frame held ranges same made to low at is there has =
    let rule = at_rule rules items i r ranges same low at in
    let under : r.op < length now = let t = rule.there in omega (arith, t, to.count) in
    let held_is : held ≡ relation_at now r.op = has ∙ ap (λ k. get_or now k held) is ∙ get_or_default now r.op held [] under in
    record {
      rule = rule;
      frame_is = frame_is rules frames r.op frame made rule.there (ap (slice_get frames) (sym is) ∙ there);
      held_is = held_is;
      size = ap length held_is ∙ to.size r.op rule.there;
    }

pub target_below : (rules : Rules) (now : List (List (List Bool))) (i : ℕ) (r : Rule) (frame : Frame) (held : List (List Bool)) → AreInRange rules → AtStep rules now i r frame held → IsNumberedBelow frame (length held) r.target
target_below rules now i r frame held ranges at = subst (λ f. IsNumberedBelow f (length held) r.target) (sym at.frame_is) (numbered_below rules r.op (length held) r.target at.rule.target at.size (vertices_small rules ranges r.op))

pub args_below : (rules : Rules) (now : List (List (List Bool))) (i : ℕ) (r : Rule) (frame : Frame) (held : List (List Bool)) → AreInRange rules → AtStep rules now i r frame held → All (IsNumberedBelow frame (length held)) r.args
args_below rules now i r frame held ranges at k d low =
    let o = get_or r.args k d in
    subst (λ f. IsNumberedBelow f (length held) o) (sym at.frame_is) (numbered_below rules r.op (length held) o (at.rule.args k d low) at.size (vertices_small rules ranges r.op))

pub step_more : (rules : Rules) (now : List (List (List Bool))) (i op : ℕ) (r : Rule) (frame : Frame) (held rows : List (List Bool)) → AreInRange rules → DirectTo rules now i → AtStep rules now i r frame held → op ≡ r.op
    → length rows ≡ length held → ((m n : ℕ) → Holds rows m n ↔ (Holds held m n ⊎ IsNamed frame r (length r.args) m n)) → DirectTo rules (set now op rows) (i + 1)
step_more rules now i op r frame held rows ranges to at is long relates =
    subst (λ k. DirectTo rules (set now k rows) (i + 1)) (sym is)
    (direct_more rules now i r rows ranges to at.rule.low at.rule.at (long ∙ ap length at.held_is)
    (subst (λ h. (m n : ℕ) → Holds rows m n ↔ (Holds h m n ⊎ IsNamed (frame_of rules r.op) r (length r.args) m n)) at.held_is
    (subst (λ f. (m n : ℕ) → Holds rows m n ↔ (Holds held m n ⊎ IsNamed f r (length r.args) m n)) at.frame_is relates)))
