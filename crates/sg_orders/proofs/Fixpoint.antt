-- The bound of from-scratch values is never reached: each is the outcome of its equation on those of its arguments.
use Rattle.std.specs.Prelude.{◌≡◌, ◌≢◌, ℕ, zero, suc, ◌+◌, ◌<◌, ◌⊎◌, ◌&&◌, ◌||◌, Bool, true, false, cond, nat_eq, nat_lt, List, [], ◌∷◌, length, map, filter, flat_map, count_by, Option, None, Some, slice_get, unwrap_or, option_map, option_and_then, is_some, Contains}
use Rattle.std.proofs.Common.{refl, sym, ap, ◌∙◌, subst, get_or, arith, inl, inr}
use Rattle.std.proofs.lemmas.Bool.{false≢true, eqb-true, eq-eqb, ltb-true, lt-ltb, cases_order, or_cases, or_left, or_right, and_parts, and_from, false_from_ne_true}
use Rattle.std.proofs.lemmas.List.Elements.{Contains-append_left, Contains-append_right, All-contains}
use Rattle.std.proofs.lemmas.List.Sums.{count_by-le-length}
use Rattle.std.proofs.lemmas.Option.{none-some, same_Some}
use Rattle.sg_kinds.specs.declared.plans.Plans.{Plans}
use Rattle.sg_kinds.specs.declared.spec.Spec.{Spec}
use Rattle.sg_kinds.specs.declared.spec.Rules.{Rules}
use Rattle.sg_kinds.specs.declared.spec.Rule.{Rule}
use Rattle.sg_kinds.specs.declared.spec.Occurrence.{Occurrence}
use Rattle.sg_kinds.specs.Values.{Value, Fault}
use Rattle.sg_kinds.specs.declared.marks.FaultKind.TheVariants.{Fuel}
use Rattle.sg_kinds.specs.Terms.{Term, Terms, Leaf, Node, NoTerm, AndTerm, terms_of}
use Rattle.sg_kinds.specs.Fits.{Fits}
use Rattle.sg_kinds.specs.Specification.{phylum_of, is_inherited, rules_of}
use Rattle.sg_kinds.specs.Places.{Place, child, sub, places_from, places_among, places_in}
use Rattle.sg_kinds.specs.Nets.{Net, Reference, NodeLabel, Operation, Holding, Missing, phylum_at, referred, label_of, net_of}
use Rattle.sg_kinds.specs.Instances.{below, attr_count, Site, site_at, site_above, is_inherited_at, site_of, slots_of, references_at, instances}
use Rattle.sg_kinds.specs.Dependencies.{occurrence}
use Rattle.sg_kinds.specs.FromScratch.{leaf_or, site_value, scratch, value_in}
use Rattle.sg_kinds.specs.Outcome.{outcome}
use Rattle.sg_orders.specs.Keys.{key, IsLess}
use Rattle.sg_dependencies.specs.Vertices.{IsVertex, AreInRange}
use Rattle.sg_dependencies.proofs.Below.{length-below, get_or-below}
use Rattle.sg_orders.specs.LiveSites.{IsLive}
use Rattle.sg_orders.specs.Timed.{AreTimed}
use Rattle.sg_orders.proofs.KeysFall.{IsSiteAt, site_found, inherited_attr, argument_less}
use Rattle.sg_orders.proofs.Rising.{count_lt}
use Rattle.sg_orders.proofs.Seating.{filter_has}

-- keys as lists are an order
pub less_itself : (xs : List ℕ) → IsLess xs xs → ⊥
less_itself [] less = less
less_itself (x ∷ xs) (inl less) = omega (arith, less)
less_itself (x ∷ xs) (inr rest) = less_itself xs rest.1

pub less_on : (xs ys zs : List ℕ) → IsLess xs ys → IsLess ys zs → IsLess xs zs
less_on xs ys [] less more = more
less_on xs [] (z ∷ zs) less more = absurd less
less_on [] (y ∷ ys) (z ∷ zs) less more = tt
less_on (x ∷ xs) (y ∷ ys) (z ∷ zs) (inl f) (inl g) = inl (omega (arith, f, g))
less_on (x ∷ xs) (y ∷ ys) (z ∷ zs) (inl f) (inr g) = let e = g.0 in inl (omega (arith, f, e))
less_on (x ∷ xs) (y ∷ ys) (z ∷ zs) (inr f) (inl g) = let e = f.0 in inl (omega (arith, e, g))
less_on (x ∷ xs) (y ∷ ys) (z ∷ zs) (inr f) (inr g) = inr (f.0 ∙ g.0, less_on xs ys zs f.1 g.1)

pub one_less : (xs ys : List ℕ) → xs ≢ ys → IsLess xs ys ⊎ IsLess ys xs
one_less [] [] other = absurd (other refl)
one_less [] (y ∷ ys) other = inl tt
one_less (x ∷ xs) [] other = inr tt
one_less (x ∷ xs) (y ∷ ys) other = elim (cases_order x y) [
  | inl same ↦ elim (one_less xs ys (λ rest. other (λ i. same i ∷ rest i))) [ inl less ↦ inl (inr (same, less)) | inr more ↦ inr (inr (sym same, more)) ]
  | inr (inl less) ↦ inl (inl less)
  | inr (inr more) ↦ inr (inl more)
]

-- and a test
pub is_less : List ℕ → List ℕ → Bool
is_less xs [] = false
is_less [] (y ∷ ys) = true
is_less (x ∷ xs) (y ∷ ys) = nat_lt x y || (nat_eq x y && is_less xs ys)

less_from : (xs ys : List ℕ) → is_less xs ys ≡ true → IsLess xs ys
unfolding is_less
less_from xs [] is = absurd (false≢true is)
less_from [] (y ∷ ys) is = tt
less_from (x ∷ xs) (y ∷ ys) is = elim (or_cases (nat_lt x y) (nat_eq x y && is_less xs ys) is) [
  | inl less ↦ inl (ltb-true x y less)
  | inr both ↦ let parts = and_parts (nat_eq x y) (is_less xs ys) both in inr (eqb-true x y parts.0, less_from xs ys parts.1)
]

less_to : (xs ys : List ℕ) → IsLess xs ys → is_less xs ys ≡ true
unfolding is_less
less_to xs [] less = absurd less
less_to [] (y ∷ ys) less = refl
less_to (x ∷ xs) (y ∷ ys) (inl less) = or_left (nat_lt x y) (nat_eq x y && is_less xs ys) (lt-ltb x y less)
less_to (x ∷ xs) (y ∷ ys) (inr rest) = or_right (nat_lt x y) (nat_eq x y && is_less xs ys) (and_from (nat_eq x y) (is_less xs ys) (eq-eqb x y rest.0) (less_to xs ys rest.1))

-- what a flat map has
flat_has : {X A : Type 0} (f : X → List A) (xs : List X) (i : ℕ) (d : X) (y : A) → i < length xs → Contains (f (get_or xs i d)) y → Contains (flat_map f xs) y
flat_has f [] i d y low has = absurd (omega (arith, low))
flat_has f (x ∷ xs) zero d y low has = Contains-append_left (f x) (flat_map f xs) y has
flat_has f (x ∷ xs) (suc i) d y low has = Contains-append_right (f x) (flat_map f xs) y (flat_has f xs i d y (omega (arith, low)) has)

flat_contains : {X A : Type 0} (f : X → List A) (xs : List X) (x : X) (y : A) → Contains xs x → Contains (f x) y → Contains (flat_map f xs) y
flat_contains f xs x y (i, low, at) has = flat_has f xs i x y low (subst (λ z. Contains (f z) y) (sym at) has)

map_contains : {X A : Type 0} (f : X → A) (xs : List X) (i : ℕ) (d : X) → i < length xs → Contains (map f xs) (f (get_or xs i d))
map_contains f [] i d low = absurd (omega (arith, low))
map_contains f (x ∷ xs) zero d low = (0, omega arith, refl)
map_contains f (x ∷ xs) (suc i) d low = let rest = map_contains f xs i d (omega (arith, low)) in let l = rest.1 in (suc rest.0, omega (arith, l), rest.2)

filter_contains : {X : Type 0} (p : X → Bool) (xs : List X) (x : X) → Contains xs x → p x ≡ true → Contains (filter p xs) x
filter_contains p xs x (i, low, at) pass = let found = filter_has p xs i x low (subst (λ y. p y ≡ true) (sym at) pass) in (found.0, found.1, found.2 x ∙ at)

-- the places of a term
head_place : (u : Place) (t : Term) → Contains (places_from u t) u
head_place u (Leaf p v) = (0, omega arith, refl)
head_place u (Node op scheme elided ts) = (0, omega arith, refl)

among_place : (u : Place) (i : ℕ) (ts : Terms) (k : ℕ) (s : Term) (q : Place) → slice_get (terms_of ts) k ≡ Some s → Contains (places_from ((i + k) ∷ u) s) q → Contains (places_among u i ts) q
among_place u i NoTerm k s q at has = absurd (none-some s at)
among_place u i (AndTerm t ts) zero s q at has =
    let same : i + 0 ≡ i = omega arith in
    Contains-append_left (places_from (i ∷ u) t) (places_among u (suc i) ts) q (subst (λ x. Contains (places_from (i ∷ u) x) q) (sym (same_Some t s at)) (subst (λ n. Contains (places_from (n ∷ u) s) q) same has))
among_place u i (AndTerm t ts) (suc k) s q at has =
    let same : i + suc k ≡ suc i + k = omega arith in
    Contains-append_right (places_from (i ∷ u) t) (places_among u (suc i) ts) q (among_place u (suc i) ts k s q at (subst (λ n. Contains (places_from (n ∷ u) s) q) same has))

place_within : (t : Term) (u : Place) (s : Term) → sub t u ≡ Some s → (q : Place) → Contains (places_from u s) q → Contains (places_in t) q
place_within t [] s at q has = subst (λ x. Contains (places_from [] x) q) (sym (same_Some t s at)) has
place_within t (k ∷ u) s at q has = by (sub t u) refl at (place_within t u)
  where
    by : (o : Option Term) → sub t u ≡ o → option_and_then (child k) o ≡ Some s → ((x : Term) → sub t u ≡ Some x → (q : Place) → Contains (places_from u x) q → Contains (places_in t) q) → Contains (places_in t) q
    by None is got above = absurd (none-some s got)
    by (Some (Leaf p v)) is got above = absurd (none-some s got)
    by (Some (Node op scheme elided ts)) is got above =
        let inside = among_place u 0 ts k s q got (let same : 0 + k ≡ k = omega arith in subst (λ n. Contains (places_from (n ∷ u) s) q) (sym same) has) in
        above (Node op scheme elided ts) is q (Contains-append_right (u ∷ []) (places_among u 0 ts) q inside)

place_there : (t : Term) (u : Place) (s : Term) → sub t u ≡ Some s → Contains (places_in t) u
place_there t u s at = place_within t u s at u (head_place u s)

-- what has a label that says something is there
label_there : (t : Term) (u : Place) (l : NodeLabel) → label_of (sub t u) ≡ l → (l ≡ Missing → ⊥) → Contains (places_in t) u
label_there t u l is some = by (sub t u) refl
  where
    by : (o : Option Term) → sub t u ≡ o → Contains (places_in t) u
    by None at = absurd (some (sym is ∙ ap label_of at))
    by (Some s) at = place_there t u s at

module _ (spec : Spec) (ranges : AreInRange (rules_of spec)) (plans : Plans) (timed : AreTimed (rules_of spec) plans) (t : Term) (root : ℕ) (fits : Fits spec t root) where
  abbrev rules : Rules
  rules = rules_of spec

  abbrev net : Net Place
  net = net_of t

  abbrev all : List (Reference Place)
  all = instances rules t

  -- an instance with its equation
  pub record IsFound (a : Reference Place) (i : Site Place) : Type 0 where
    pub live : IsLive rules t i
    pub there : Contains (places_in t) a.node
    pub slot : a.slot < slots_of rules (label_of (sub t a.node))

  live_from : (u : Place) (o : Occurrence) (i : Site Place) → IsSiteAt rules t u o i → IsLive rules t i
  live_from u o i is = record { label = ap (λ v. label_of (sub t v)) is.node ∙ is.label ∙ ap (λ n. Operation n) (sym is.rule.op_is); stands = is.rule.stands }

  not_missing : (op : ℕ) → Operation op ≡ Missing → ⊥
  not_missing op e = cc

  not_gone : (p : ℕ) (v : Value) → Holding p v ≡ Missing → ⊥
  not_gone p v e = cc

  -- a slot of the node itself
  own_found : (u : Place) (slot : ℕ) (i : Site Place) → IsSiteAt rules t u (occurrence 0 slot) i → IsFound (record { node = u; slot = slot }) i
  own_found u slot i is =
      let target : IsVertex rules is.op (occurrence 0 slot) = subst (IsVertex rules is.op) is.rule.target (subst (λ n. IsVertex rules n i.rule.target) is.rule.op_is (All-contains (λ (r : Rule). IsVertex rules r.op r.target) rules.rules i.rule ranges.equations.targets is.rule.stands)) in
      record {
        live = live_from u (occurrence 0 slot) i is;
        there = label_there t u (Operation is.op) is.label (not_missing is.op);
        slot = subst (λ l. slot < slots_of rules l) (sym is.label) (omega (arith, target));
      }

  inherited_slot : (l : NodeLabel) (slot : ℕ) → unwrap_or (option_map (λ X. is_inherited rules.phyla X slot) (phylum_at rules.ops l)) false ≡ true → (slot < slots_of rules l) × (l ≡ Missing → ⊥)
  inherited_slot Missing slot is = absurd (false≢true is)
  inherited_slot (Holding p v) slot is = (inherited_attr rules p slot is, not_gone p v)
  inherited_slot (Operation op) slot is = by (phylum_of rules.ops op) refl is
    where
      by : (o : Option ℕ) → phylum_of rules.ops op ≡ o → unwrap_or (option_map (λ X. is_inherited rules.phyla X slot) o) false ≡ true → (slot < slots_of rules (Operation op)) × (Operation op ≡ Missing → ⊥)
      by None at h = absurd (false≢true h)
      by (Some X) at h =
          let attr = inherited_attr rules X slot h in
          let count : attr_count rules (phylum_of rules.ops op) ≡ attr_count rules (Some X) = ap (attr_count rules) at in
          (omega (arith, attr, count), not_missing op)

  found_by : (u : Place) (slot : ℕ) (i : Site Place) (b : Bool) → is_inherited_at rules net (record { node = u; slot = slot }) ≡ b → cond b (site_above rules.rules net slot (net.up u)) (site_at rules.rules net u (occurrence 0 slot)) ≡ Some i → IsFound (record { node = u; slot = slot }) i
  found_by u slot i false way got = own_found u slot i (site_found rules t u (occurrence 0 slot) i got)
  found_by [] slot i true way got = absurd (none-some i got)
  found_by (k ∷ w) slot i true way got =
      let inherited = inherited_slot (label_of (sub t (k ∷ w))) slot way in
      record {
        live = live_from w (occurrence (suc k) slot) i (site_found rules t w (occurrence (suc k) slot) i got);
        there = label_there t (k ∷ w) (label_of (sub t (k ∷ w))) refl inherited.1;
        slot = inherited.0;
      }

  pub found : (a : Reference Place) (i : Site Place) → site_of rules net a ≡ Some i → IsFound a i
  found a i is = found_by a.node a.slot i (is_inherited_at rules net a) refl is

  -- it is one of the instances
  among : (a : Reference Place) (i : Site Place) → site_of rules net a ≡ Some i → Contains all a
  among a i is =
      let f = found a i is in
      let slots = slots_of rules (label_of (sub t a.node)) in
      let inside : Contains (references_at rules t a.node) a =
      subst (λ n. Contains (references_at rules t a.node) (record { node = a.node; slot = n })) (get_or-below slots a.slot 0 f.slot)
      (map_contains (λ s. record { node = a.node; slot = s }) (below slots) a.slot 0 (let l = f.slot in omega (arith, l, length-below slots))) in
      filter_contains (λ b. is_some (site_of rules net b)) (flat_map (references_at rules t) (places_in t)) a (flat_contains (references_at rules t) (places_in t) a.node a f.there inside) (ap is_some is)

  -- how many instances have a smaller key
  abbrev precedes_by : Option (Site Place) → Site Place → Bool
  precedes_by None i = false
  precedes_by (Some j) i = is_less (key rules plans t j) (key rules plans t i)

  abbrev precedes : Site Place → Reference Place → Bool
  precedes i a = precedes_by (site_of rules net a) i

  abbrev pub rank : Site Place → ℕ
  rank i = count_by (precedes i) all

  precedes_on : (i j : Site Place) → IsLess (key rules plans t j) (key rules plans t i) → (o : Option (Site Place)) → precedes_by o j ≡ true → precedes_by o i ≡ true
  precedes_on i j less None is = is
  precedes_on i j less (Some h) is = less_to (key rules plans t h) (key rules plans t i) (less_on (key rules plans t h) (key rules plans t j) (key rules plans t i) (less_from (key rules plans t h) (key rules plans t j) is) less)

  not_itself : (j : Site Place) → is_less (key rules plans t j) (key rules plans t j) ≡ false
  not_itself j = false_from_ne_true (is_less (key rules plans t j) (key rules plans t j)) (λ is. less_itself (key rules plans t j) (less_from (key rules plans t j) (key rules plans t j) is))

  -- a smaller key has a smaller rank
  pub rank_falls : (i j : Site Place) (b : Reference Place) → site_of rules net b ≡ Some j → IsLess (key rules plans t j) (key rules plans t i) → rank j < rank i
  rank_falls i j b is less =
      let in' = among b j is in
      count_lt (precedes j) (precedes i) all (λ k d low. precedes_on i j less (site_of rules net (get_or all k d))) in'.0 b in'.1
      (subst (λ a. precedes j a ≡ false) (sym in'.2) (ap (λ o. precedes_by o j) is ∙ not_itself j))
      (subst (λ a. precedes i a ≡ true) (sym in'.2) (ap (λ o. precedes_by o i) is ∙ less_to (key rules plans t j) (key rules plans t i) less))

  pub rank_low : (i : Site Place) (a : Reference Place) → site_of rules net a ≡ Some i → rank i < length all
  rank_low i a is =
      let in' = among a i is in
      let less = count_lt (precedes i) (λ b. true) all (λ k d low h. refl) in'.0 a in'.1 (subst (λ b. precedes i b ≡ false) (sym in'.2) (ap (λ o. precedes_by o i) is ∙ not_itself i)) refl in
      let most = count_by-le-length (λ (b : Reference Place). true) all in
      omega (arith, less, most)

  -- a value does not depend on the bound, where it is above the rank
  abbrev IsBounded : ℕ → Reference Place → Type 0
  IsBounded n a = (i : Site Place) → site_of rules net a ≡ Some i → rank i < n

  same_map : (f g : Reference Place → Value) (u : Place) (os : List Occurrence) → ((o : Occurrence) → Contains os o → f (referred net u o) ≡ g (referred net u o)) → map f (map (referred net u) os) ≡ map g (map (referred net u) os)
  same_map f g u [] all_same = refl
  same_map f g u (o ∷ os) all_same =
      ap (λ v. v ∷ map f (map (referred net u) os)) (all_same o (0, omega arith, refl))
      ∙ ap (λ vs. g (referred net u o) ∷ vs) (same_map f g u os (λ x has. all_same x (suc has.0, (let l = has.1 in omega (arith, l)), has.2)))

  no_site : (n : ℕ) (a : Reference Place) → site_of rules net a ≡ None → scratch spec net n a ≡ leaf_or (net.label a.node) (Fault Fuel)
  no_site zero a none = refl
  no_site (suc n) a none = ap (λ o. leaf_or (net.label a.node) (site_value spec net (scratch spec net n) o)) none

  falls : (n : ℕ) (i : Site Place) → rank i < suc n → (o : Occurrence) → Contains i.rule.args o → IsLive rules t i → IsBounded n (referred net i.node o)
  falls n i low o has live j is =
      let less = rank_falls i j (referred net i.node o) is (argument_less spec ranges plans timed t root fits i live o has j is) in
      omega (arith, low, less)

  stable : (n m : ℕ) (a : Reference Place) → IsBounded n a → IsBounded m a → (o : Option (Site Place)) → site_of rules net a ≡ o → scratch spec net n a ≡ scratch spec net m a
  stable n m a low high None is = no_site n a is ∙ sym (no_site m a is)
  stable zero m a low high (Some i) is = absurd (let l = low i is in omega (arith, l))
  stable (suc n) zero a low high (Some i) is = absurd (let l = high i is in omega (arith, l))
  stable (suc n) (suc m) a low high (Some i) is =
      ap (λ o. leaf_or (net.label a.node) (site_value spec net (scratch spec net n) o)) is
      ∙ ap (λ vs. leaf_or (net.label a.node) (outcome spec i.rule vs)) (same_map (scratch spec net n) (scratch spec net m) i.node i.rule.args (λ o has.
      stable n m (referred net i.node o) (falls n i (low i is) o has (found a i is).live) (falls m i (high i is) o has (found a i is).live) (site_of rules net (referred net i.node o)) refl))
      ∙ sym (ap (λ o. leaf_or (net.label a.node) (site_value spec net (scratch spec net m) o)) is)

  -- each value is that of its equation on the values of its arguments
  pub fixpoint : (a : Reference Place) → value_in spec t a ≡ leaf_or (net.label a.node) (site_value spec net (value_in spec t) (site_of rules net a))
  fixpoint a = stable (length all) (suc (length all)) a (λ i is. rank_low i a is) (λ i is. let l = rank_low i a is in omega (arith, l)) (site_of rules net a) refl

  -- what holds of a site where it holds of the sites of its arguments holds of all
  inducted : (P : Site Place → Type 0)
      → ((i : Site Place) → IsLive rules t i → ((o : Occurrence) → Contains i.rule.args o → (j : Site Place) → site_of rules net (referred net i.node o) ≡ Some j → P j) → P i)
      → (n : ℕ) (a : Reference Place) (i : Site Place) → site_of rules net a ≡ Some i → rank i < n → P i
  inducted P step zero a i is low = absurd (omega (arith, low))
  inducted P step (suc n) a i is low =
      let live = (found a i is).live in
      step i live (λ o has j at. inducted P step n (referred net i.node o) j at (falls n i low o has live j at))

  pub site_induction : (P : Site Place → Type 0)
      → ((i : Site Place) → IsLive rules t i → ((o : Occurrence) → Contains i.rule.args o → (j : Site Place) → site_of rules net (referred net i.node o) ≡ Some j → P j) → P i)
      → (a : Reference Place) (i : Site Place) → site_of rules net a ≡ Some i → P i
  site_induction P step a i is = inducted P step (suc (rank i)) a i is (omega arith)
