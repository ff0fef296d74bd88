-- A far attribute has the value of the attribute that its list names at the nearest enclosing node.
use Rattle.std.specs.Prelude.{◌≡◌, ◌≢◌, ℕ, suc, ◌<◌, ◌&&◌, get_or, Bool, true, false, not, cond, nat_eq, List, [], ◌∷◌, map, length, find, All, Contains, Option, None, Some, slice_get, unwrap_or, option_map, option_and_then}
use Rattle.std.proofs.Common.{refl, sym, ap, ◌∙◌, subst, arith, inl, inr}
use Rattle.std.proofs.lemmas.Bool.{false≢true, eqb-true, ne_eqb, and_parts}
use Rattle.std.proofs.lemmas.List.Elements.{All-contains}
use Rattle.std.proofs.lemmas.List.Quantifiers.{position-Some}
use Rattle.std.proofs.lemmas.Option.{none-some, same_Some, slice_get-get_or, get_or_from_slice_get}
use Rattle.sg_kinds.specs.declared.plans.Plans.{Plans}
use Rattle.sg_kinds.specs.declared.spec.Spec.{Spec}
use Rattle.sg_kinds.specs.declared.spec.Attr.{Attr}
use Rattle.sg_kinds.specs.declared.spec.Far.{Far}
use Rattle.sg_kinds.specs.Specification.{attrs_of, is_inherited, is_way_inherited, rules_of}
use Rattle.sg_kinds.specs.Values.{Value, Fault, is_within}
use Rattle.sg_kinds.specs.Expressions.{Expr, Named}
use Rattle.sg_kinds.specs.Terms.{Term, Leaf}
use Rattle.sg_kinds.specs.Fits.{Fits}
use Rattle.sg_kinds.specs.Places.{Place, sub}
use Rattle.sg_kinds.specs.Nets.{Net, Reference, Holding, phylum_at, referred, label_of, net_of}
use Rattle.sg_kinds.specs.Instances.{Site, site_at, site_above, rule_under, site_of, args_at}
use Rattle.sg_kinds.specs.Dependencies.{occurrence}
use Rattle.sg_kinds.specs.FromScratch.{leaf_or, site_value, value_in}
use Rattle.sg_kinds.specs.Evaluation.{outcome_in, value_within, body_reached}
use Rattle.sg_kinds.specs.Outcome.{outcome_of}
use Rattle.sg_kinds.proofs.Outcomes.{outcome_within}
use Rattle.sg_kinds.specs.Far.{is_far, is_written, same_far, listed_slot, slot_of_far, source_slot, IsListed}
use Rattle.sg_kinds.specs.Enclosing.{near}
use Rattle.sg_kinds.specs.declared.marks.Way.TheVariants.{Inherited}
use Rattle.sg_kinds.specs.declared.marks.FaultKind.TheVariants.{Size}
use Rattle.sg_orders.specs.Keys.{operator_in, key, IsLess}
use Rattle.sg_plans.specs.Planned.{IsPlanned}
use Rattle.sg_plans.proofs.Nodes.{IsNodeAt, fitting_phylum, leaf_fits, leaf_or_node, node_above, node_at}
use Rattle.sg_orders.proofs.Fixpoint.{less_on}
use Rattle.sg_orders.proofs.ValidFacts.{from_scratch_values, keys_fall}
use Rattle.sg_plans.proofs.Bearers.{inherited_at, ranges, found_live}
use Rattle.sg_plans.proofs.Equations.{leaf_inherits_nothing}
use Rattle.sg_plans.proofs.Solved.{root_inherits_nothing}
use Rattle.sg_enclosing.specs.NearScratch.{far_at}

-- what a search finds is there and passes
find_contains : {X : Type 0} (p : X → Bool) (xs : List X) (x : X) → find p xs ≡ Some x → Contains xs x × (p x ≡ true)
find_contains p [] x at = absurd (none-some x at)
find_contains p (y ∷ ys) x at = by (p y) refl at (find_contains p ys x)
  where
    by : (b : Bool) → p y ≡ b → cond b (Some y) (find p ys) ≡ Some x → (find p ys ≡ Some x → Contains ys x × (p x ≡ true)) → Contains (y ∷ ys) x × (p x ≡ true)
    by true pass got rest = let same : y ≡ x = same_Some y x got in ((0, omega arith, same), subst (λ z. p z ≡ true) same pass)
    by false pass got rest = let r = rest got in let c = r.0 in let l = c.1 in ((suc c.0, omega (arith, l), c.2), r.1)

-- the far attribute of a slot
pub record IsFarAt (spec : Spec) (t : Term) (a : Reference Place) : Type 0 where
  pub phylum : ℕ
  pub at : phylum_at spec.ops (label_of (sub t a.node)) ≡ Some phylum
  pub attr : Attr
  pub found : slice_get (attrs_of spec.phyla phylum) a.slot ≡ Some attr
  pub list : attr.far ≡ far_at spec t a
  pub far : is_far attr ≡ true

some_far : (x : Attr) → x.far ≢ [] → is_far x ≡ true
some_far x some = by x.far refl
  where
    by : (fs : List Far) → x.far ≡ fs → is_far x ≡ true
    by [] is = absurd (some is)
    by (f ∷ fs) is = ap (λ l. not (nat_eq (length l) 0)) is ∙ ap not (ne_eqb (suc (length fs)) 0 (λ e. cc e))

-- the list of a slot of a phylum
abbrev list_in : Spec → ℕ → Option ℕ → List Far
list_in spec slot o = unwrap_or (option_map (λ (x : Attr). x.far) (option_and_then (λ p. slice_get (attrs_of spec.phyla p) slot) o)) []

pub far_here : (spec : Spec) (t : Term) (a : Reference Place) → far_at spec t a ≢ [] → IsFarAt spec t a
far_here spec t a some = outer (phylum_at spec.ops (label_of (sub t a.node))) refl
  where
    outer : (o : Option ℕ) → phylum_at spec.ops (label_of (sub t a.node)) ≡ o → IsFarAt spec t a
    outer None is = absurd (some (ap (list_in spec a.slot) is))
    outer (Some p) is = inner (slice_get (attrs_of spec.phyla p) a.slot) refl
      where
        inner : (o : Option Attr) → slice_get (attrs_of spec.phyla p) a.slot ≡ o → IsFarAt spec t a
        inner None at = absurd (some (ap (list_in spec a.slot) is ∙ ap (λ o. unwrap_or (option_map (λ (x : Attr). x.far) o) []) at))
        inner (Some x) at =
            let whole : far_at spec t a ≡ x.far = ap (list_in spec a.slot) is ∙ ap (λ o. unwrap_or (option_map (λ (y : Attr). y.far) o) []) at in
            record { phylum = p; at = is; attr = x; found = at; list = sym whole; far = some_far x (λ none. some (whole ∙ none)) }

same_list : (fs gs : List Far) → same_far fs gs ≡ true → fs ≡ gs
same_list [] [] is = refl
same_list [] (g ∷ gs) is = absurd (false≢true is)
same_list (f ∷ fs) [] is = absurd (false≢true is)
same_list (f ∷ fs) (g ∷ gs) is =
    let parts = and_parts (nat_eq f.phylum g.phylum && nat_eq f.slot g.slot) (same_far fs gs) is in
    let both = and_parts (nat_eq f.phylum g.phylum) (nat_eq f.slot g.slot) parts.0 in
    let same : f ≡ g = ap (λ p. record { phylum = p; slot = f.slot }) (eqb-true f.phylum g.phylum both.0) ∙ ap (λ n. record { phylum = g.phylum; slot = n }) (eqb-true f.slot g.slot both.1) in
    ap (λ h. h ∷ fs) same ∙ ap (λ l. g ∷ l) (same_list fs gs parts.1)

-- the nearest node's attribute is that of the node above, where its phylum is listed, and else of the nodes above it
abbrev or_own : {X : Type 0} → Option X → Option X → Option X
or_own o other = elim o [ Some s ↦ Some s | None ↦ other ]

abbrev here_at : Place → List Far → Option ℕ → Option (Reference Place)
here_at u fs o = option_map (λ s. record { node = u; slot = s }) (option_and_then (listed_slot fs) o)

near_here : (spec : Spec) (t : Term) (k : ℕ) (u : Place) (fs : List Far) (p s : ℕ) → phylum_at spec.ops (label_of (sub t u)) ≡ Some p → listed_slot fs p ≡ Some s → near spec t (k ∷ u) fs ≡ Some (record { node = u; slot = s })
near_here spec t k u fs p s at listed =
    ap (λ o. or_own (here_at u fs o) (near spec t u fs)) at
    ∙ ap (λ o. or_own (option_map (λ n. record { node = u; slot = n }) o) (near spec t u fs)) listed

near_above : (spec : Spec) (t : Term) (k : ℕ) (u : Place) (fs : List Far) (p : ℕ) → phylum_at spec.ops (label_of (sub t u)) ≡ Some p → listed_slot fs p ≡ None → near spec t (k ∷ u) fs ≡ near spec t u fs
near_above spec t k u fs p at listed =
    ap (λ o. or_own (here_at u fs o) (near spec t u fs)) at
    ∙ ap (λ o. or_own (option_map (λ n. record { node = u; slot = n }) o) (near spec t u fs)) listed

-- an empty list names nothing
pub names_nothing : (spec : Spec) (t : Term) (u : Place) → near spec t u [] ≡ None
names_nothing spec t [] = refl
names_nothing spec t (k ∷ u) = by (phylum_at spec.ops (label_of (sub t u))) refl (names_nothing spec t u)
  where
    by : (o : Option ℕ) → phylum_at spec.ops (label_of (sub t u)) ≡ o → near spec t u [] ≡ None → near spec t (k ∷ u) [] ≡ None
    by None is above = ap (λ o. or_own (here_at u [] o) (near spec t u [])) is ∙ above
    by (Some p) is above = ap (λ o. or_own (here_at u [] o) (near spec t u [])) is ∙ above

-- what an equation hands down: the value of a slot of the node above
record IsFromAbove (spec : Spec) (t : Term) (k : ℕ) (u : Place) (slot : ℕ) (attr : Attr) : Type 0 where
  phylum : ℕ
  at : phylum_at spec.ops (label_of (sub t u)) ≡ Some phylum
  source : ℕ
  is_source : source_slot spec.phyla phylum attr.far ≡ Some source
  node : IsNodeAt t u
  site : Site Place
  is_site : site_of (rules_of spec) (net_of t) (record { node = k ∷ u; slot = slot }) ≡ Some site
  args : site.rule.args ≡ occurrence 0 source ∷ []
  place : site.node ≡ u
  same : value_in spec t (record { node = k ∷ u; slot = slot }) ≡ value_in spec t (record { node = u; slot = source })

-- the outcome of a name is the value that it names, where that is within the limits
named_value : (spec : Spec) (e : ℕ) (v : Value) → slice_get spec.exprs e ≡ Some (Named 0) → is_within v ≡ true → outcome_of spec e (v ∷ []) ≡ v
unfolding outcome_of
named_value spec e v is within = rw is (ap (λ b. cond b v (Fault Size)) within)

outcome_small : (spec : Spec) (e : ℕ) (vs : List Value) → is_within (outcome_of spec e vs) ≡ true
unfolding outcome_of
outcome_small spec e vs = by (slice_get spec.exprs e)
  where
    by : (o : Option Expr) → is_within (outcome_in (body_reached (value_within spec 2048) o vs 100000)) ≡ true
    by None = refl
    by (Some x) = outcome_within spec 2048 x vs 100000

-- a list's slot is there where it is named
listed_there : (spec : Spec) (a : Attr) (fs : List Far) (p s : ℕ) → All (IsListed spec a) fs → listed_slot fs p ≡ Some s → (b : Attr) × (slice_get (attrs_of spec.phyla p) s ≡ Some b) × (is_written b ≡ true)
listed_there spec a fs p s all is = by (find (λ (f : Far). nat_eq f.phylum p) fs) refl is
  where
    by : (o : Option Far) → find (λ (f : Far). nat_eq f.phylum p) fs ≡ o → option_map (λ (f : Far). f.slot) o ≡ Some s → (b : Attr) × (slice_get (attrs_of spec.phyla p) s ≡ Some b) × (is_written b ≡ true)
    by None at got = absurd (none-some s got)
    by (Some f) at got =
        let (stands, same) = find_contains (λ (g : Far). nat_eq g.phylum p) fs f at in
        let listed = All-contains (IsListed spec a) fs f all stands in
        (listed.attr, ap (λ n. slice_get (attrs_of spec.phyla n) s) (sym (eqb-true f.phylum p same)) ∙ ap (λ n. slice_get (attrs_of spec.phyla f.phylum) n) (sym (same_Some f.slot s got)) ∙ listed.found, listed.written)

-- a far attribute of a list is there where it is found
far_there : (spec : Spec) (fs : List Far) (p s : ℕ) → slot_of_far (attrs_of spec.phyla p) fs ≡ Some s → (b : Attr) × (slice_get (attrs_of spec.phyla p) s ≡ Some b) × (b.far ≡ fs)
far_there spec fs p s is = by (slice_get (attrs_of spec.phyla p) s) refl
  where
    found : (d : Attr) → (s < length (attrs_of spec.phyla p)) × (same_far (get_or (attrs_of spec.phyla p) s d).far fs ≡ true)
    found d = let (low, same, first) = position-Some (λ (a : Attr). same_far a.far fs) (attrs_of spec.phyla p) s d is in (low, same)

    by : (o : Option Attr) → slice_get (attrs_of spec.phyla p) s ≡ o → (b : Attr) × (slice_get (attrs_of spec.phyla p) s ≡ Some b) × (b.far ≡ fs)
    by None at = absurd (let d : Attr = record { name = []; way = Inherited; of = 0; far = [] } in none-some (get_or (attrs_of spec.phyla p) s d) (sym at ∙ slice_get-get_or (attrs_of spec.phyla p) s d (found d).0))
    by (Some b) at = (b, at, same_list b.far fs (rw (get_or_from_slice_get (attrs_of spec.phyla p) s b b at) at (found b).1))

no_far : (b : Attr) → is_written b ≡ true → b.far ≡ []
no_far b is = by b.far refl
  where
    by : (fs : List Far) → b.far ≡ fs → b.far ≡ []
    by [] at = at
    by (f ∷ fs) at = absurd (false≢true (sym (ap (λ l. nat_eq (length l) 0) at ∙ ne_eqb (suc (length fs)) 0 (λ e. cc e)) ∙ is))

far_of_slot : (spec : Spec) (t : Term) (u : Place) (slot p : ℕ) (b : Attr) → phylum_at spec.ops (label_of (sub t u)) ≡ Some p → slice_get (attrs_of spec.phyla p) slot ≡ Some b → far_at spec t (record { node = u; slot = slot }) ≡ b.far
far_of_slot spec t u slot p b at found = ap (λ o. unwrap_or (option_map (λ (x : Attr). x.far) (option_and_then (λ q. slice_get (attrs_of spec.phyla q) slot) o)) []) at ∙ ap (λ o. unwrap_or (option_map (λ (x : Attr). x.far) o) []) found

module _ (spec : Spec) (plans : Plans) (t : Term) (planned : IsPlanned spec plans t) (fits : Fits spec t spec.root) where
  abbrev net : Net Place
  net = net_of t

  values : (a : Reference Place) → value_in spec t a ≡ leaf_or (net.label a.node) (site_value spec net (value_in spec t) (site_of (rules_of spec) net a))
  values a = from_scratch_values spec plans t planned.root (ranges spec t planned.root planned.sound planned.fits) planned.valid planned.fits a

  -- the value of an inner node's slot is in the limits of values
  within : (u : Place) (slot : ℕ) → IsNodeAt t u → is_within (value_in spec t (record { node = u; slot = slot })) ≡ true
  within u slot node =
      let here = site_of (rules_of spec) net (record { node = u; slot = slot }) in
      subst (λ v. is_within v ≡ true) (sym (values (record { node = u; slot = slot }) ∙ ap (λ l. leaf_or l (site_value spec net (value_in spec t) here)) node)) (by here)
    where
      by : (o : Option (Site Place)) → is_within (site_value spec net (value_in spec t) o) ≡ true
      by None = refl
      by (Some i) = outcome_small spec i.rule.expr (map (value_in spec t) (args_at net i))

  inherited : (a : Reference Place) (is : IsFarAt spec t a) → is_inherited spec.phyla is.phylum a.slot ≡ true
  inherited a is = ap (λ o. unwrap_or (option_map (λ (x : Attr). is_way_inherited x.way) o) false) is.found ∙ ap is_way_inherited (planned.sound.far.inherited is.phylum a.slot is.attr is.found is.far)

  -- the root has none
  not_root : (slot : ℕ) → IsFarAt spec t (record { node = []; slot = slot }) → ⊥
  not_root slot is =
      let same : is.phylum ≡ spec.root = same_Some is.phylum spec.root (sym is.at ∙ fitting_phylum spec t spec.root fits) in
      false≢true (sym (root_inherits_nothing spec planned.sound slot) ∙ sym (ap (λ p. is_inherited spec.phyla p slot) same) ∙ inherited (record { node = []; slot = slot }) is)

  -- the term at the node of a far attribute
  term_there : (u : Place) (p : ℕ) → phylum_at spec.ops (label_of (sub t u)) ≡ Some p → (s : Term) × (sub t u ≡ Some s)
  term_there u p is = by (sub t u) refl is
    where
      by : (o : Option Term) → sub t u ≡ o → phylum_at spec.ops (label_of o) ≡ Some p → (s : Term) × (sub t u ≡ Some s)
      by None at got = absurd (none-some p got)
      by (Some s) at got = (s, at)

  from_above : (k : ℕ) (u : Place) (slot : ℕ) (is : IsFarAt spec t (record { node = k ∷ u; slot = slot })) → IsFromAbove spec t k u slot is.attr
  from_above k u slot is =
      let (s, there) = term_there (k ∷ u) is.phylum is.at in
      let node = node_above t k u s there in
      let known = node_at spec t spec.root fits u node in
      let (X, arg, fit) = known.arg k s there in
      let same : is.phylum ≡ X = same_Some is.phylum X (sym is.at ∙ ap (λ o. phylum_at spec.ops (label_of o)) there ∙ fitting_phylum spec s X fit) in
      let handed = planned.sound.far.handed (operator_in t u) k known.phylum is.phylum slot is.attr known.left (arg ∙ ap (λ n. Some n) (sym same)) is.found is.far in
      let found : site_of (rules_of spec) net (record { node = k ∷ u; slot = slot }) ≡ Some (record { node = u; rule = handed.rule }) =
      ap (λ b. cond b (site_above spec.rules net slot (Some (u, k))) (site_at spec.rules net (k ∷ u) (record { at = 0; slot = slot }))) (inherited_at (rules_of spec) t (k ∷ u) is.phylum slot is.at ∙ inherited (record { node = k ∷ u; slot = slot }) is)
      ∙ ap (λ l. option_map (λ r. record { node = u; rule = r }) (rule_under spec.rules l (occurrence (suc k) slot))) node
      ∙ ap (option_map (λ r. record { node = u; rule = r })) handed.found in
      record {
        phylum = known.phylum;
        at = ap (phylum_at spec.ops) node ∙ known.left;
        source = handed.source;
        is_source = handed.is_source;
        node = node;
        site = record { node = u; rule = handed.rule };
        is_site = found;
        args = handed.args;
        place = refl;
        same = values (record { node = k ∷ u; slot = slot })
            ∙ no_leaf s there X fit (ap (λ p. is_inherited spec.phyla p slot) (sym same) ∙ inherited (record { node = k ∷ u; slot = slot }) is) (site_value spec net (value_in spec t) (site_of (rules_of spec) net (record { node = k ∷ u; slot = slot })))
            ∙ ap (site_value spec net (value_in spec t)) found
            ∙ ap (λ os. outcome_of spec handed.rule.expr (map (value_in spec t) (map (referred net u) os))) handed.args
            ∙ named_value spec handed.rule.expr (value_in spec t (record { node = u; slot = handed.source })) handed.expr (within u handed.source node);
      }
    where
      no_leaf : (s : Term) → sub t (k ∷ u) ≡ Some s → (X : ℕ) → Fits spec s X → is_inherited spec.phyla X slot ≡ true → (v : Value) → leaf_or (net.label (k ∷ u)) v ≡ v
      no_leaf s there X fit down v = elim (leaf_or_node t (k ∷ u) s there) [
        | inl leaf ↦ absurd (held s leaf X fit down)
        | inr node ↦ ap (λ l. leaf_or l v) node
      ]
        where
          held : (s : Term) → (p : ℕ) × (w : Value) × (s ≡ Leaf p w) × (label_of (sub t (k ∷ u)) ≡ Holding p w) → (X : ℕ) → Fits spec s X → is_inherited spec.phyla X slot ≡ true → ⊥
          held s (p, w, is_leaf, label) X fit down = false≢true (sym (leaf_inherits_nothing spec planned.sound.shapes X slot (leaf_fits spec p w X (subst (λ x. Fits spec x X) is_leaf fit))) ∙ down)

  abbrev keyed : Site Place → List ℕ
  keyed i = key (rules_of spec) plans t i

  -- what a far attribute stands for: it is not far itself, and its equation has a smaller key
  pub record IsSeen (a : Reference Place) (fs : List Far) : Type 0 where
    pub ref : Reference Place
    pub is_near : near spec t a.node fs ≡ Some ref
    pub written : far_at spec t ref ≡ []
    pub same : value_in spec t a ≡ value_in spec t ref
    pub site : Site Place
    pub is_site : site_of (rules_of spec) net a ≡ Some site
    pub falls : (j : Site Place) → site_of (rules_of spec) net ref ≡ Some j → IsLess (keyed j) (keyed site)

  falls_above : (k : ℕ) (u : Place) (slot : ℕ) (x : Attr) (above : IsFromAbove spec t k u slot x) (j : Site Place) → site_of (rules_of spec) net (record { node = u; slot = above.source }) ≡ Some j → IsLess (keyed j) (keyed above.site)
  falls_above k u slot x above j is =
      let o = occurrence 0 above.source in
      keys_fall spec plans t planned.root (ranges spec t planned.root planned.sound planned.fits) planned.valid planned.fits above.site
      (found_live (rules_of spec) t (record { node = k ∷ u; slot = slot }) above.site above.is_site) o
      (subst (λ os. Contains os o) (sym above.args) (0, omega arith, refl)) j
      (subst (λ v. site_of (rules_of spec) net (record { node = v; slot = above.source }) ≡ Some j) (sym above.place) is)

  pub seen_from : (u : Place) (slot : ℕ) (is : IsFarAt spec t (record { node = u; slot = slot })) → IsSeen (record { node = u; slot = slot }) is.attr.far
  seen_from [] slot is = absurd (not_root slot is)
  seen_from (k ∷ u) slot is =
      let above = from_above k u slot is in
      by above (λ n here. seen_from u n here) (listed_slot is.attr.far above.phylum) refl
    where
      by : (above : IsFromAbove spec t k u slot is.attr) → ((n : ℕ) (here : IsFarAt spec t (record { node = u; slot = n })) → IsSeen (record { node = u; slot = n }) here.attr.far)
          → (o : Option ℕ) → listed_slot is.attr.far above.phylum ≡ o → IsSeen (record { node = k ∷ u; slot = slot }) is.attr.far
      by above further (Some s) listed =
          let same : s ≡ above.source = same_Some s above.source (sym (ap (λ o. or_own o (slot_of_far (attrs_of spec.phyla above.phylum) is.attr.far)) listed) ∙ above.is_source) in
          let (b, found, written) = listed_there spec is.attr is.attr.far above.phylum s (planned.sound.far.listed is.phylum slot is.attr is.found is.far) listed in
          record {
            ref = record { node = u; slot = s };
            is_near = near_here spec t k u is.attr.far above.phylum s above.at listed;
            written = far_of_slot spec t u s above.phylum b above.at found ∙ no_far b written;
            same = above.same ∙ ap (λ n. value_in spec t (record { node = u; slot = n })) (sym same);
            site = above.site;
            is_site = above.is_site;
            falls = λ j at. falls_above k u slot is.attr above j (subst (λ n. site_of (rules_of spec) net (record { node = u; slot = n }) ≡ Some j) same at);
          }
      by above further None listed =
          let (b, found, list) = far_there spec is.attr.far above.phylum above.source (sym (ap (λ o. or_own o (slot_of_far (attrs_of spec.phyla above.phylum) is.attr.far)) listed) ∙ above.is_source) in
          let far : is_far b ≡ true = ap (λ l. not (nat_eq (length l) 0)) list ∙ is.far in
          let here : IsFarAt spec t (record { node = u; slot = above.source }) = record { phylum = above.phylum; at = above.at; attr = b; found = found; list = sym (far_of_slot spec t u above.source above.phylum b above.at found); far = far } in
          let up = further above.source here in
          record {
            ref = up.ref;
            is_near = near_above spec t k u is.attr.far above.phylum above.at listed ∙ ap (near spec t u) (sym list) ∙ up.is_near;
            written = up.written;
            same = above.same ∙ up.same;
            site = above.site;
            is_site = above.is_site;
            falls = λ j at. less_on (keyed j) (keyed up.site) (keyed above.site) (up.falls j at) (falls_above k u slot is.attr above up.site up.is_site);
          }

pub far_value : (spec : Spec) (plans : Plans) (t : Term) → IsPlanned spec plans t → Fits spec t spec.root → (a : Reference Place) → far_at spec t a ≢ [] → (r : Reference Place) × (near spec t a.node (far_at spec t a) ≡ Some r) × (far_at spec t r ≡ []) × (value_in spec t a ≡ value_in spec t r)
far_value spec plans t planned fits a some =
    let is = far_here spec t a some in
    let got = seen_from spec plans t planned fits a.node a.slot is in
    (got.ref, subst (λ fs. near spec t a.node fs ≡ Some got.ref) is.list got.is_near, got.written, got.same)
