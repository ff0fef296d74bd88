-- Under valid plans each argument of an equation has a smaller key than the instance that the equation defines.
use Rattle.std.specs.Prelude.{◌≡◌, ℕ, zero, suc, ◌<◌, ◌&&◌, Bool, true, false, cond, nat_eq, List, [], ◌∷◌, ◌++◌, length, reverse, find, Option, None, Some, slice_get, unwrap_or, option_map, option_and_then, Contains, All, MatchOption}
use Rattle.std.proofs.Common.{refl, sym, ap, ◌∙◌, subst, get_or, arith, inl, inr, append_assoc}
use Rattle.std.proofs.lemmas.Bool.{cases_lt, false≢true, eqb-true, and_parts}
use Rattle.std.proofs.lemmas.List.{append-nil, reverse-append}
use Rattle.std.proofs.lemmas.List.Elements.{All-contains}
use Rattle.std.proofs.lemmas.Option.{none-some, same_Some, slice_get_within}
use Rattle.sg_kinds.specs.declared.plans.Plans.{Plans}
use Rattle.sg_kinds.specs.declared.spec.Spec.{Spec}
use Rattle.sg_kinds.specs.declared.spec.Rules.{Rules}
use Rattle.sg_kinds.specs.declared.spec.Rule.{Rule}
use Rattle.sg_kinds.specs.declared.spec.Operator.{Operator}
use Rattle.sg_kinds.specs.declared.spec.Attr.{Attr}
use Rattle.sg_kinds.specs.declared.spec.Occurrence.{Occurrence}
use Rattle.sg_kinds.specs.Terms.{Term, Terms, Leaf, Node, NoTerm, AndTerm, terms_of}
use Rattle.sg_kinds.specs.Fits.{Fits, AllFit}
use Rattle.sg_kinds.specs.Specification.{attrs_of, args_of, phylum_of, is_inherited, is_way_inherited, rules_of}
use Rattle.sg_kinds.specs.Places.{Place, child, sub}
use Rattle.sg_kinds.specs.Nets.{NodeLabel, Operation, Holding, Missing, phylum_at, referred, label_of, net_of}
use Rattle.sg_kinds.specs.Instances.{attr_count, Site, defines, rule_for, rule_under, site_at, site_above, is_inherited_at, site_of}
use Rattle.sg_kinds.specs.Dependencies.{phylum_there, IsAttr, occurrence}
use Rattle.sg_orders.specs.Keys.{operation, operator_in, key_up, key, IsLess}
use Rattle.sg_kinds.specs.Visits.{position_in, belongs, seat}
use Rattle.sg_dependencies.specs.Vertices.{IsVertex, AreInRange}
use Rattle.sg_orders.specs.LiveSites.{IsLive}
use Rattle.sg_orders.specs.Timed.{AreTimed}
use Rattle.sg_orders.proofs.PlanFacts.{named_before, belonging, belongs_rises, belongs_itself, inherited_by, inherited_before_seat, seat_before, seat_rises}

-- lists with a common front
less_behind : (xs ys zs : List ℕ) → IsLess ys zs → IsLess (xs ++ ys) (xs ++ zs)
less_behind [] ys zs less = less
less_behind (x ∷ xs) ys zs less = inr (refl, less_behind xs ys zs less)

-- the child of a term that fits
kid_fits : (spec : Spec) (ts : Terms) (ps : List ℕ) (k : ℕ) (s : Term) → AllFit spec ts ps → slice_get (terms_of ts) k ≡ Some s → (X : ℕ) × (slice_get ps k ≡ Some X) × Fits spec s X
kid_fits spec NoTerm ps k s fit at = absurd (none-some s at)
kid_fits spec (AndTerm t ts) [] k s fit at = absurd fit
kid_fits spec (AndTerm t ts) (p ∷ ps) zero s fit at = (p, refl, subst (λ x. Fits spec x p) (same_Some t s at) fit.0)
kid_fits spec (AndTerm t ts) (p ∷ ps) (suc k) s fit at = kid_fits spec ts ps k s fit.1 at

-- a node that fits
record IsFitting (spec : Spec) (op : ℕ) (ts : Terms) (X : ℕ) : Type 0 where
  left : phylum_of spec.ops op ≡ Some X
  kids : AllFit spec ts (args_of spec.ops op)

node_fits : (spec : Spec) (op scheme : ℕ) (elided : Bool) (ts : Terms) (X : ℕ) → Fits spec (Node op scheme elided ts) X → IsFitting spec op ts X
node_fits spec op scheme elided ts X fit = by (slice_get spec.ops op) refl fit
  where
    by : (o : Option Operator) → slice_get spec.ops op ≡ o → MatchOption o ⊥ (λ x. (x.phylum ≡ X) × (scheme < 16) × AllFit spec ts x.args) → IsFitting spec op ts X
    by None at none = absurd none
    by (Some x) at parts = record {
      left = ap (option_map (λ (y : Operator). y.phylum)) at ∙ ap (λ n. Some n) parts.0;
      kids = subst (AllFit spec ts) (sym (ap (λ o. unwrap_or (option_map (λ (y : Operator). y.args) o) []) at)) parts.2;
    }

op_low : (spec : Spec) (op X : ℕ) → phylum_of spec.ops op ≡ Some X → op < length spec.ops
op_low spec op X is = by (slice_get spec.ops op) refl is
  where
    by : (o : Option Operator) → slice_get spec.ops op ≡ o → option_map (λ (y : Operator). y.phylum) o ≡ Some X → op < length spec.ops
    by None at none = absurd (none-some X none)
    by (Some x) at some = slice_get_within spec.ops op x at

-- what a look-up of an equation gives
pub record IsRuleFor (rules : Rules) (op : ℕ) (o : Occurrence) (r : Rule) : Type 0 where
  pub stands : Contains rules.rules r
  pub op_is : r.op ≡ op
  pub target : r.target ≡ o

find_contains : {X : Type 0} (p : X → Bool) (xs : List X) (x : X) → find p xs ≡ Some x → Contains xs x × (p x ≡ true)
find_contains p [] x at = absurd (none-some x at)
find_contains p (y ∷ ys) x at = by (p y) refl at (find_contains p ys x)
  where
    by : (b : Bool) → p y ≡ b → cond b (Some y) (find p ys) ≡ Some x → (find p ys ≡ Some x → Contains ys x × (p x ≡ true)) → Contains (y ∷ ys) x × (p x ≡ true)
    by true pass got rest = let same : y ≡ x = same_Some y x got in ((0, omega arith, same), subst (λ z. p z ≡ true) same pass)
    by false pass got rest = let r = rest got in let c = r.0 in let l = c.1 in ((suc c.0, omega (arith, l), c.2), r.1)

same_place : (x y : Occurrence) → x.at ≡ y.at → x.slot ≡ y.slot → x ≡ y
same_place x y e f = ap (λ k. occurrence k x.slot) e ∙ ap (λ a. occurrence y.at a) f

rule_found : (rules : Rules) (op : ℕ) (o : Occurrence) (r : Rule) → rule_for rules.rules op o ≡ Some r → IsRuleFor rules op o r
rule_found rules op o r at =
    let found = find_contains (defines op o) rules.rules r at in
    let parts = and_parts (nat_eq r.op op) (nat_eq r.target.at o.at && nat_eq r.target.slot o.slot) found.1 in
    let slots = and_parts (nat_eq r.target.at o.at) (nat_eq r.target.slot o.slot) parts.1 in
    record { stands = found.0; op_is = eqb-true r.op op parts.0; target = same_place r.target o (eqb-true r.target.at o.at slots.0) (eqb-true r.target.slot o.slot slots.1) }

-- the equation that defines an occurrence at a node of a term
pub record IsSiteAt (rules : Rules) (t : Term) (u : Place) (o : Occurrence) (j : Site Place) : Type 0 where
  pub op : ℕ
  pub label : label_of (sub t u) ≡ Operation op
  pub node : j.node ≡ u
  pub rule : IsRuleFor rules op o j.rule

pub site_found : (rules : Rules) (t : Term) (u : Place) (o : Occurrence) (j : Site Place) → site_at rules.rules (net_of t) u o ≡ Some j → IsSiteAt rules t u o j
site_found rules t u o j at = by (label_of (sub t u)) refl at
  where
    under : (op : ℕ) (r : Option Rule) → rule_for rules.rules op o ≡ r → label_of (sub t u) ≡ Operation op → option_map (λ x. record { node = u; rule = x }) r ≡ Some j → IsSiteAt rules t u o j
    under op None found label got = absurd (none-some j got)
    under op (Some r) found label got =
        let same : record { node = u; rule = r } ≡ j = same_Some (record { node = u; rule = r }) j got in
        record { op = op; label = label; node = ap (λ (s : Site Place). s.node) (sym same); rule = subst (IsRuleFor rules op o) (ap (λ (s : Site Place). s.rule) same) (rule_found rules op o r found) }

    by : (l : NodeLabel) → label_of (sub t u) ≡ l → option_map (λ x. record { node = u; rule = x }) (rule_under rules.rules l o) ≡ Some j → IsSiteAt rules t u o j
    by (Operation op) label got = under op (rule_for rules.rules op o) refl label got
    by (Holding p v) label got = absurd (none-some j got)
    by Missing label got = absurd (none-some j got)

pub inherited_attr : (rules : Rules) (X slot : ℕ) → is_inherited rules.phyla X slot ≡ true → IsAttr rules X slot
inherited_attr rules X slot is = by (slice_get (attrs_of rules.phyla X) slot) refl is
  where
    by : (o : Option Attr) → slice_get (attrs_of rules.phyla X) slot ≡ o → unwrap_or (option_map (λ (a : Attr). is_way_inherited a.way) o) false ≡ true → slot < length (attrs_of rules.phyla X)
    by None at h = absurd (false≢true h)
    by (Some x) at h = slice_get_within (attrs_of rules.phyla X) slot x at

module _ (spec : Spec) (ranges : AreInRange (rules_of spec)) (plans : Plans) (timed : AreTimed (rules_of spec) plans) (t : Term) (root : ℕ) (fits : Fits spec t root) where
  abbrev rules : Rules
  rules = rules_of spec

  abbrev op_at : Place → ℕ
  op_at u = operator_in t u

  -- a node of an operator
  record IsNode (u : Place) : Type 0 where
    phylum : ℕ
    label : label_of (sub t u) ≡ Operation (op_at u)
    low : op_at u < length spec.ops
    left : phylum_of spec.ops (op_at u) ≡ Some phylum
    -- of each of its children
    kid : (k : ℕ) (s : Term) → sub t (k ∷ u) ≡ Some s → (X : ℕ) × (slice_get (args_of spec.ops (op_at u)) k ≡ Some X) × Fits spec s X

  node_from : (u : Place) (n : Term) (X : ℕ) → sub t u ≡ Some n → Fits spec n X → (op : ℕ) → label_of (sub t u) ≡ Operation op → IsNode u
  node_from u (Leaf p v) X at fit op label = absurd (not_leaf op (sym (ap label_of at) ∙ label))
    where
      not_leaf : (op : ℕ) → Holding p v ≡ Operation op → ⊥
      not_leaf op e = cc
  node_from u (Node o scheme elided ts) X at fit op label =
      let is = node_fits spec o scheme elided ts X fit in
      let same : op_at u ≡ o = ap (λ n. operation (label_of n)) at in
      let left = ap (phylum_of spec.ops) same ∙ is.left in
      record {
        phylum = X;
        label = label ∙ ap (λ n. Operation n) (sym (ap operation label));
        low = op_low spec (op_at u) X left;
        left = left;
        kid = λ k s got.
            let inside : slice_get (terms_of ts) k ≡ Some s = sym (ap (option_and_then (child k)) at) ∙ got in
            let found = kid_fits spec ts (args_of spec.ops o) k s is.kids inside in
            (found.0, ap (λ m. slice_get (args_of spec.ops m) k) same ∙ found.1, found.2);
      }

  -- what stands at a place fits
  fits_at : (u : Place) (s : Term) → sub t u ≡ Some s → (X : ℕ) × Fits spec s X
  fits_at [] s at = (root, subst (λ x. Fits spec x root) (same_Some t s at) fits)
  fits_at (k ∷ u) s at = by (sub t u) refl at (fits_at u)
    where
      by : (o : Option Term) → sub t u ≡ o → option_and_then (child k) o ≡ Some s → ((x : Term) → sub t u ≡ Some x → (X : ℕ) × Fits spec x X) → (X : ℕ) × Fits spec s X
      by None is got above = absurd (none-some s got)
      by (Some (Leaf p v)) is got above = absurd (none-some s got)
      by (Some (Node op scheme elided ts)) is got above =
          let a = above (Node op scheme elided ts) is in
          let found = kid_fits spec ts (args_of spec.ops op) k s (node_fits spec op scheme elided ts a.0 a.1).kids got in
          (found.0, found.2)

  some_term : (u : Place) (op : ℕ) → label_of (sub t u) ≡ Operation op → (s : Term) × (sub t u ≡ Some s)
  some_term u op label = by (sub t u) refl label
    where
      by : (o : Option Term) → sub t u ≡ o → label_of o ≡ Operation op → (s : Term) × (sub t u ≡ Some s)
      by None is l = absurd (missing op l)
        where
          missing : (op : ℕ) → Missing ≡ Operation op → ⊥
          missing op e = cc
      by (Some s) is l = (s, is)

  node_at : (u : Place) (op : ℕ) → label_of (sub t u) ≡ Operation op → IsNode u
  node_at u op label =
      let s = some_term u op label in
      let f = fits_at u s.0 s.1 in
      node_from u s.0 f.0 s.1 f.1 op label

  -- a node below another one
  record IsBelow (k : ℕ) (u : Place) : Type 0 where
    above : IsNode u
    phylum : ℕ
    arg : slice_get (args_of spec.ops (op_at u)) k ≡ Some phylum
    low : op_at (k ∷ u) < length spec.ops
    left : phylum_of spec.ops (op_at (k ∷ u)) ≡ Some phylum

  below_at : (k : ℕ) (u : Place) (op : ℕ) → label_of (sub t (k ∷ u)) ≡ Operation op → IsBelow k u
  below_at k u op label = by (sub t u) refl (some_term (k ∷ u) op label)
    where
      by : (o : Option Term) → sub t u ≡ o → (s : Term) × (sub t (k ∷ u) ≡ Some s) → IsBelow k u
      by None is s = absurd (none-some s.0 (sym (ap (option_and_then (child k)) is) ∙ s.1))
      by (Some (Leaf p v)) is s = absurd (none-some s.0 (sym (ap (option_and_then (child k)) is) ∙ s.1))
      by (Some (Node o scheme elided ts)) is s =
          let above = node_at u o (ap label_of is) in
          let kid = above.kid k s.0 s.1 in
          let node = node_from (k ∷ u) s.0 kid.0 s.1 kid.2 op label in
          record { above = above; phylum = kid.0; arg = kid.1; low = node.low; left = left_of s.0 kid.0 s.1 kid.2 }
        where
          left_of : (s : Term) (X : ℕ) → sub t (k ∷ u) ≡ Some s → Fits spec s X → phylum_of spec.ops (op_at (k ∷ u)) ≡ Some X
          left_of (Leaf p v) X at fit = absurd (not_leaf op (sym (ap label_of at) ∙ label))
            where
              not_leaf : (op : ℕ) → Holding p v ≡ Operation op → ⊥
              not_leaf op e = cc
          left_of (Node o scheme elided ts) X at fit = ap (λ n. phylum_of spec.ops (operation (label_of n))) at ∙ (node_fits spec o scheme elided ts X fit).left

  -- keys from the root's plan on
  abbrev down : Place → ℕ → List ℕ
  down u q = reverse (key_up rules plans t u q)

  abbrev seat_of : ℕ → Place → ℕ → ℕ
  seat_of k u q = seat rules plans (op_at u) k (belongs rules plans (op_at (k ∷ u)) q)

  down_more : (k : ℕ) (u : Place) (q : ℕ) (xs : List ℕ) → down (k ∷ u) q ++ xs ≡ down u (seat_of k u q) ++ q ∷ xs
  down_more k u q xs = ap (λ ys. ys ++ xs) (reverse-append (q ∷ []) (key_up rules plans t u (seat_of k u q))) ∙ append_assoc (down u (seat_of k u q)) (q ∷ []) xs

  -- at one node keys rise with positions
  pub rises : (u : Place) (op : ℕ) → label_of (sub t u) ≡ Operation op → (q r : ℕ) (xs ys : List ℕ) → q < r → IsLess (down u q ++ xs) (down u r ++ ys)
  rises [] op label q r xs ys less = inl less
  rises (k ∷ u) op label q r xs ys less =
      let b = below_at k u op label in
      let x = belongs rules plans (op_at (k ∷ u)) q in
      let y = belongs rules plans (op_at (k ∷ u)) r in
      let le = belongs_rises rules ranges plans timed (op_at (k ∷ u)) b.low b.phylum q r b.left (omega (arith, less)) in
      subst (λ zs. IsLess zs (down (k ∷ u) r ++ ys)) (sym (down_more k u q xs)) (subst (λ zs. IsLess (down u (seat_of k u q) ++ q ∷ xs) zs) (sym (down_more k u r ys)) (elim (cases_lt x y) [
        | inl under ↦
            let from = (belonging rules ranges plans timed (op_at (k ∷ u)) b.low b.phylum q b.left).low in
            let to = (belonging rules ranges plans timed (op_at (k ∷ u)) b.low b.phylum r b.left).high in
            let above = b.above in
            rises u (op_at u) above.label (seat_of k u q) (seat_of k u r) (q ∷ xs) (r ∷ ys) (seat_rises rules ranges plans timed (op_at u) above.low k b.phylum x y b.arg from under to)
        | inr past ↦
            let same : x ≡ y = omega (arith, le, past) in
            subst (λ n. IsLess (down u (seat_of k u q) ++ q ∷ xs) (down u n ++ r ∷ ys)) (ap (seat rules plans (op_at u) k) same) (less_behind (down u (seat_of k u q)) (q ∷ xs) (r ∷ ys) (inl less))
      ]))

  -- the position of what an equation defines, in the plan of its node
  abbrev place_of : Site Place → ℕ
  place_of i = position_in rules plans i.rule.op i.rule.target

  -- the key of a site that is found
  found_key : (u : Place) (o : Occurrence) (j : Site Place) → IsSiteAt rules t u o j → key rules plans t j ≡ down u (position_in rules plans (op_at u) o)
  found_key u o j is =
      let op : j.rule.op ≡ op_at u = is.rule.op_is ∙ sym (ap operation is.label) in
      ap (λ n. down n (place_of j)) is.node ∙ ap (λ n. down u (position_in rules plans n j.rule.target)) op ∙ ap (λ x. down u (position_in rules plans (op_at u) x)) is.rule.target

  module _ (i : Site Place) (live : IsLive rules t i) where
    abbrev node : Place
    node = i.node

    op_is : op_at node ≡ i.rule.op
    op_is = ap operation live.label

    key_is : key rules plans t i ≡ down node (position_in rules plans (op_at node) i.rule.target)
    key_is = ap (λ n. down node (position_in rules plans n i.rule.target)) (sym op_is)

    -- what the node's own rules define
    own_less : (o : Occurrence) (j : Site Place) → Contains i.rule.args o → IsSiteAt rules t node o j → IsLess (key rules plans t j) (key rules plans t i)
    own_less o j names is =
        let n = node_at node i.rule.op live.label in
        let before = named_before rules ranges plans timed (op_at node) n.low i.rule o live.stands (sym op_is) names in
        let less = rises node i.rule.op live.label (position_in rules plans (op_at node) o) (position_in rules plans (op_at node) i.rule.target) [] [] before in
        subst (λ xs. IsLess xs (key rules plans t i)) (sym (found_key node o j is)) (subst (IsLess (down node (position_in rules plans (op_at node) o))) (sym key_is)
        (subst (λ xs. IsLess xs (down node (position_in rules plans (op_at node) i.rule.target))) (append-nil (down node (position_in rules plans (op_at node) o))) (subst (IsLess (down node (position_in rules plans (op_at node) o) ++ [])) (append-nil (down node (position_in rules plans (op_at node) i.rule.target))) less)))

  -- what is inherited from the left side
  above_less : (k : ℕ) (w : Place) (rule : Rule) (slot : ℕ) (j : Site Place) → IsLive rules t (record { node = k ∷ w; rule = rule }) → Contains rule.args (occurrence 0 slot) → (X : ℕ) → phylum_of spec.ops (op_at (k ∷ w)) ≡ Some X → is_inherited rules.phyla X slot ≡ true
      → IsSiteAt rules t w (occurrence (suc k) slot) j → IsLess (key rules plans t j) (key rules plans t (record { node = k ∷ w; rule = rule }))
  above_less k w rule slot j live names X left way is =
      let i : Site Place = record { node = k ∷ w; rule = rule } in
      let b = below_at k w rule.op live.label in
      let same : b.phylum ≡ X = same_Some b.phylum X (sym b.left ∙ left) in
      let arg : slice_get (args_of spec.ops (op_at w)) k ≡ Some X = b.arg ∙ ap (λ n. Some n) same in
      let attr = inherited_attr rules X slot way in
      let q = position_in rules plans (op_at (k ∷ w)) rule.target in
      let le = inherited_by rules ranges plans timed (op_at (k ∷ w)) b.low X slot rule left attr live.stands (sym (op_is i live)) names in
      let above = b.above in
      let before = inherited_before_seat rules ranges plans timed (op_at w) above.low k X slot (belongs rules plans (op_at (k ∷ w)) q) arg attr way le in
      let from = position_in rules plans (op_at w) (occurrence (suc k) slot) in
      let less = rises w (op_at w) above.label from (seat_of k w q) [] (q ∷ []) before in
      subst (λ xs. IsLess xs (key rules plans t i)) (sym (found_key w (occurrence (suc k) slot) j is)) (subst (IsLess (down w from)) (sym (key_is i live ∙ sym (append-nil (down (k ∷ w) q)) ∙ down_more k w q []))
      (subst (λ xs. IsLess xs (down w (seat_of k w q) ++ q ∷ [])) (append-nil (down w from)) less))

  -- what a child synthesizes
  below_less : (i : Site Place) → IsLive rules t i → (k slot : ℕ) (j : Site Place) → Contains i.rule.args (occurrence (suc k) slot) → IsSiteAt rules t (k ∷ i.node) (occurrence 0 slot) j → (X : ℕ) → phylum_of spec.ops (op_at (k ∷ i.node)) ≡ Some X → is_inherited rules.phyla X slot ≡ false
      → IsLess (key rules plans t j) (key rules plans t i)
  below_less i live k slot j names is X left way =
      let u = i.node in
      let n = node_at u i.rule.op live.label in
      let b = below_at k u is.op is.label in
      let same : b.phylum ≡ X = same_Some b.phylum X (sym b.left ∙ left) in
      let arg : slice_get (args_of spec.ops (op_at u)) k ≡ Some X = b.arg ∙ ap (λ m. Some m) same in
      let is_op = op_is i live in
      let vertex : IsVertex rules i.rule.op (occurrence (suc k) slot) = All-contains (IsVertex rules i.rule.op) i.rule.args (occurrence (suc k) slot) (args_there i live) names in
      let there : slot < attr_count rules (phylum_there rules.ops (op_at u) (suc k)) = subst (λ m. slot < attr_count rules (phylum_there rules.ops m (suc k))) (sym is_op) (omega (arith, vertex)) in
      let attr : IsAttr rules X slot = omega (arith, there, ap (attr_count rules) arg) in
      let p = position_in rules plans (op_at (k ∷ u)) (occurrence 0 slot) in
      let q = position_in rules plans (op_at u) i.rule.target in
      let own = belongs_itself rules ranges plans timed (op_at (k ∷ u)) b.low X slot left attr way in
      let seat_le = seat_before rules ranges plans timed (op_at u) n.low k X slot arg attr way in
      let before = named_before rules ranges plans timed (op_at u) n.low i.rule (occurrence (suc k) slot) live.stands (sym is_op) names in
      let less = rises u i.rule.op live.label (seat_of k u p) q (p ∷ []) [] (omega (arith, ap (seat rules plans (op_at u) k) own, seat_le, before)) in
      subst (λ xs. IsLess xs (key rules plans t i)) (sym (found_key (k ∷ u) (occurrence 0 slot) j is ∙ sym (append-nil (down (k ∷ u) p)) ∙ down_more k u p [])) (subst (IsLess (down u (seat_of k u p) ++ p ∷ [])) (sym (key_is i live))
      (subst (IsLess (down u (seat_of k u p) ++ p ∷ [])) (append-nil (down u q)) less))
    where
      args_there : (i : Site Place) → IsLive rules t i → All (IsVertex rules i.rule.op) i.rule.args
      args_there i live = All-contains (λ (r : Rule). (k : ℕ) (e : Occurrence) → k < length r.args → IsVertex rules r.op (get_or r.args k e)) rules.rules i.rule ranges.equations.args live.stands

  -- each argument that has an equation has a smaller key
  pub argument_less : (i : Site Place) → IsLive rules t i → (o : Occurrence) → Contains i.rule.args o → (j : Site Place) → site_of rules (net_of t) (referred (net_of t) i.node o) ≡ Some j → IsLess (key rules plans t j) (key rules plans t i)
  argument_less i live o names j found = by o.at o.slot names found
    where
      left_side : (u : Place) → u ≡ i.node → (slot : ℕ) → Contains i.rule.args (occurrence 0 slot) → (b : Bool) → is_inherited_at rules (net_of t) (record { node = u; slot = slot }) ≡ b
          → cond b (site_above rules.rules (net_of t) slot ((net_of t).up u)) (site_at rules.rules (net_of t) u (occurrence 0 slot)) ≡ Some j → IsLess (key rules plans t j) (key rules plans t i)
      left_side u is slot named false way got = own_less i live (occurrence 0 slot) j named (subst (λ v. IsSiteAt rules t v (occurrence 0 slot) j) is (site_found rules t u (occurrence 0 slot) j got))
      left_side [] is slot named true way got = absurd (none-some j got)
      left_side (k ∷ w) is slot named true way got =
          let alive : IsLive rules t (record { node = k ∷ w; rule = i.rule }) = subst (λ v. IsLive rules t (record { node = v; rule = i.rule })) (sym is) live in
          let b = below_at k w i.rule.op alive.label in
          let label : (phylum_at rules.ops (label_of (sub t (k ∷ w)))) ≡ Some b.phylum = ap (phylum_at rules.ops) alive.label ∙ ap (phylum_of spec.ops) (sym (ap operation alive.label)) ∙ b.left in
          let inherited : is_inherited rules.phyla b.phylum slot ≡ true = sym (ap (λ x. unwrap_or (option_map (λ X. is_inherited rules.phyla X slot) x) false) label) ∙ way in
          subst (λ v. IsLess (key rules plans t j) (key rules plans t (record { node = v; rule = i.rule }))) is
          (above_less k w i.rule slot j alive named b.phylum b.left inherited (site_found rules t w (occurrence (suc k) slot) j got))

      argument : (k slot : ℕ) → Contains i.rule.args (occurrence (suc k) slot) → (b : Bool) → is_inherited_at rules (net_of t) (record { node = k ∷ i.node; slot = slot }) ≡ b
          → cond b (site_at rules.rules (net_of t) i.node (occurrence (suc k) slot)) (site_at rules.rules (net_of t) (k ∷ i.node) (occurrence 0 slot)) ≡ Some j → IsLess (key rules plans t j) (key rules plans t i)
      argument k slot named true way got = own_less i live (occurrence (suc k) slot) j named (site_found rules t i.node (occurrence (suc k) slot) j got)
      argument k slot named false way got =
          let is = site_found rules t (k ∷ i.node) (occurrence 0 slot) j got in
          let b = below_at k i.node is.op is.label in
          let label : (phylum_at rules.ops (label_of (sub t (k ∷ i.node)))) ≡ Some b.phylum = ap (phylum_at rules.ops) is.label ∙ ap (phylum_of spec.ops) (sym (ap operation is.label)) ∙ b.left in
          let other : is_inherited rules.phyla b.phylum slot ≡ false = sym (ap (λ x. unwrap_or (option_map (λ X. is_inherited rules.phyla X slot) x) false) label) ∙ way in
          below_less i live k slot j named is b.phylum b.left other

      by : (k slot : ℕ) → Contains i.rule.args (occurrence k slot) → site_of rules (net_of t) (referred (net_of t) i.node (occurrence k slot)) ≡ Some j → IsLess (key rules plans t j) (key rules plans t i)
      by zero slot named got = left_side i.node refl slot named (is_inherited_at rules (net_of t) (record { node = i.node; slot = slot })) refl got
      by (suc k) slot named got = argument k slot named (is_inherited_at rules (net_of t) (record { node = k ∷ i.node; slot = slot })) refl got
