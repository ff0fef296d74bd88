-- How the equations of operators are gathered.
use Rattle.std.specs.Prelude.{◌≡◌, ℕ, ◌+◌, ◌<◌, true, false, cond, List, [], ◌∷◌, ◌++◌, length, filter, replicate, nat_eq, Option, None, Some, slice_get, option_map, unwrap_or, All}
use Rattle.std.proofs.Common.{refl, sym, ap, ◌∙◌, subst, get_or, set, arith, inl, inr, length-set, add-one}
use Rattle.std.proofs.lemmas.Bool.{cases_eq, false≢true, eqb-true, eq-eqb, ne_eqb}
use Rattle.std.proofs.lemmas.List.{append-nil, get_or-set_same, get_or-set_other, get_or-replicate, length-replicate, get_or_default}
use Rattle.std.proofs.lemmas.List.Elements.{filter-append, filter_passes}
use Rattle.std.proofs.lemmas.Option.{slice_get_read, slice_get_within, same_Some, get_or_from_slice_get}
use Rattle.sg_kinds.specs.declared.spec.Rules.{Rules}
use Rattle.sg_kinds.specs.declared.spec.Rule.{Rule}
use Rattle.sg_kinds.specs.Instances.{below}
use Rattle.sg_dependencies.specs.Vertices.{IsVertex, AreInRange}
use Rattle.sg_orders.specs.Owned.{is_own, own_of, AreOwned}

-- the first i equations are given to their operators
pub record OwnedTo (rules : Rules) (owned : List (List ℕ)) (i : ℕ) : Type 0 where
  pub count : length owned ≡ length rules.ops
  pub each : (p : ℕ) → p < length rules.ops → get_or owned p [] ≡ filter (is_own rules p) (below i)

pub owned_none : (rules : Rules) (owned : List (List ℕ)) (n : ℕ) → n ≡ length rules.ops → owned ≡ replicate n [] → OwnedTo rules owned 0
owned_none rules owned n long made = record {
  count = ap length made ∙ length-replicate n [] ∙ long;
  each = λ p low. ap (λ xs. get_or xs p []) made ∙ get_or-replicate n p [] [] (omega (arith, low, long));
}

own_is : (rules : Rules) (i p : ℕ) (r : Rule) → i < length rules.rules → r ≡ get_or rules.rules i r → is_own rules p i ≡ nat_eq r.op p
own_is rules i p r low at = ap (λ o. unwrap_or (option_map (λ (x : Rule). nat_eq x.op p) o) false) (slice_get_read rules.rules (length rules.rules) i r refl low at)

pub owned_more : (rules : Rules) (owned : List (List ℕ)) (i op : ℕ) (r : Rule) → OwnedTo rules owned i → i < length rules.rules → r ≡ get_or rules.rules i r → op ≡ r.op → op < length rules.ops → OwnedTo rules (set owned op (get_or owned op [] ++ i ∷ [])) (i + 1)
owned_more rules owned i op r to low at is there = record {
  count = length-set owned op (get_or owned op [] ++ i ∷ []) ∙ to.count;
  each = λ p under. elim (cases_eq p op) [
    | inl same ↦
        subst (λ q. get_or (set owned op (get_or owned op [] ++ i ∷ [])) q [] ≡ filter (is_own rules q) (below (i + 1))) (sym same)
        (get_or-set_same owned op (get_or owned op [] ++ i ∷ []) [] (let c = to.count in omega (arith, there, c)) ∙ ap (λ xs. xs ++ i ∷ []) (to.each op there)
        ∙ sym (next op ∙ ap (λ b. filter (is_own rules op) (below i) ++ cond b (i ∷ []) []) (own_is rules i op r low at ∙ eq-eqb r.op op (sym is))))
    | inr apart ↦
        get_or-set_other owned op p (get_or owned op [] ++ i ∷ []) [] apart ∙ to.each p under
        ∙ sym (next p ∙ ap (λ b. filter (is_own rules p) (below i) ++ cond b (i ∷ []) []) (own_is rules i p r low at ∙ ne_eqb r.op p (λ e. apart (sym e ∙ sym is))) ∙ append-nil (filter (is_own rules p) (below i)))
  ];
}
  where
    next : (p : ℕ) → filter (is_own rules p) (below (i + 1)) ≡ filter (is_own rules p) (below i) ++ cond (is_own rules p i) (i ∷ []) []
    next p = rw add-one (filter-append (is_own rules p) (below i) (i ∷ []))

pub owned_all : (rules : Rules) (owned : List (List ℕ)) (i : ℕ) → OwnedTo rules owned i → i ≡ length rules.rules → AreOwned rules owned
owned_all rules owned i to end = record { count = to.count; each = λ p low. to.each p low ∙ ap (λ n. filter (is_own rules p) (below n)) end }

-- an equation of p at a place
pub record IsOwnAt (rules : Rules) (p id : ℕ) : Type 0 where
  pub rule : Rule
  pub low : id < length rules.rules
  pub at : slice_get rules.rules id ≡ Some rule
  pub op : rule.op ≡ p

pub own_here : (rules : Rules) (p id : ℕ) → is_own rules p id ≡ true → IsOwnAt rules p id
own_here rules p id yes_own = by (slice_get rules.rules id) refl yes_own
  where
    by : (o : Option Rule) → slice_get rules.rules id ≡ o → unwrap_or (option_map (λ (x : Rule). nat_eq x.op p) o) false ≡ true → IsOwnAt rules p id
    by None is own = absurd (false≢true own)
    by (Some x) is own = record { rule = x; low = slice_get_within rules.rules id x is; at = is; op = eqb-true x.op p own }

pub own_at : (rules : Rules) (p i id : ℕ) (own : List ℕ) → own ≡ own_of rules p → i < length own → id ≡ get_or own i 0 → IsOwnAt rules p id
own_at rules p i id own are low at =
    own_here rules p id (subst (λ k. is_own rules p k ≡ true) (sym (at ∙ ap (λ xs. get_or xs i 0) are)) (filter_passes (is_own rules p) (below (length rules.rules)) i 0 (omega (arith, low, ap length are))))

-- what is known of the equation at the next place among those of p
pub record IsNextOwn (rules : Rules) (p i id : ℕ) (own : List ℕ) (r : Rule) : Type 0 where
  pub low : i < length own
  pub at : id ≡ get_or own i 0
  pub is : slice_get rules.rules id ≡ Some r
  pub op : r.op ≡ p
  pub args : All (IsVertex rules p) r.args
  pub target : IsVertex rules p r.target

pub next_own : (rules : Rules) (p i id place : ℕ) (own : List ℕ) (items : List Rule) (r : Rule) → AreInRange rules → own ≡ own_of rules p → i < length own → id ≡ get_or own i id → items ≡ rules.rules → place ≡ id → slice_get items place ≡ Some r → IsNextOwn rules p i id own r
next_own rules p i id place own items r ranges are low at same placed got =
    let first : id ≡ get_or own i 0 = at ∙ get_or_default own i id 0 low in
    let here = own_at rules p i id own are low first in
    let is : slice_get rules.rules id ≡ Some r = ap (λ k. slice_get rules.rules k) (sym placed) ∙ ap (λ xs. slice_get xs place) (sym same) ∙ got in
    let rule_is : here.rule ≡ r = same_Some here.rule r (sym here.at ∙ is) in
    let inside : get_or rules.rules id r ≡ r = get_or_from_slice_get rules.rules id r r is in
    let op : r.op ≡ p = ap (λ (x : Rule). x.op) (sym rule_is) ∙ here.op in
    record {
      low = low;
      at = first;
      is = is;
      op = op;
      args = subst (λ q. All (IsVertex rules q) r.args) op (subst (λ (x : Rule). All (IsVertex rules x.op) x.args) inside (ranges.equations.args id r here.low));
      target = subst (λ q. IsVertex rules q r.target) op (subst (λ (x : Rule). IsVertex rules x.op x.target) inside (ranges.equations.targets id r here.low));
    }
