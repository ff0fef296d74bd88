-- Where no definition is a second one, an operator has the schemes of one declaration at most in each view.
use Rattle.std.proofs.Common.{◌≡◌, ℕ, zero, suc, ◌+◌, ◌*◌, ◌<◌, ◌≤◌, Bool, true, false, ◌&&◌, if◌then◌else◌, List, [], ◌∷◌, ◌++◌, length, slice_get, Option, Some, None, option_map, unwrap_or, bytes_eq, nat_eq, refl, sym, ap, subst, ◌∙◌, arith, length-append}
use Rattle.std.specs.List.{AllByRecursion, count_by, sum_by, flat_map}
use Rattle.std.proofs.lemmas.Bool.{and_from}
use Rattle.std.proofs.lemmas.List.{length-map}
use Rattle.std.proofs.lemmas.List.Sums.{sum_by-cons, count_by-le-length}
use Rattle.std.proofs.lemmas.Option.{cond_some, option_and_then_some}
use Rattle.sg_kinds.specs.Values.{Bytes}
use Rattle.sg_kinds.specs.Instances.{below}
use Rattle.sg_kinds.specs.Specification.{phylum_of}
use Rattle.sg_kinds.specs.declared.spec.Operator.{Operator}
use Rattle.sg_kinds.specs.declared.spec.Phylum.{Phylum}
use Rattle.sg_kinds.specs.declared.spec.Scheme.{Scheme}
use Rattle.sg_kinds.proofs.Elementary.{eq_is, bytes_is, slice_get-there}
use Rattle.sg_ast.specs.declared.decl.SchemeDecl.{SchemeDecl}
use Rattle.sg_ast.specs.declared.name.Name.{Name}
use Rattle.sg_ast.specs.Declarations as decl
use Rattle.sg_ast.specs.Declarations.{Decl}
use Rattle.sg_names.specs.declared.table.Table.{Table}
use Rattle.sg_names.specs.Lookups.{phylum_named, operator_named, operator_at}
use Rattle.sg_names.specs.Names.{owned, op_named, if_of}
use Rattle.sg_names.proofs.Owned.{owned_append}
use Rattle.sg_counts.specs.Definitions.{Schemes, is_same_view, view_name}
use Rattle.sg_counts.specs.Duplicates.{definitions_of, given, duplicate}
use Rattle.sg_counts.specs.Limits as limits
use Rattle.sg_resolve.proofs.Counting.{equal_bytes, one_if, passes, count-all, count-owned, all_made}
use Rattle.sg_resolve.proofs.Repeating.{defines, once}
use Rattle.sg_resolve.proofs.ShapeLists.{each_append, each_map, each_always, each_split, none_owned}
use Rattle.sg_typing.proofs.TableFacts.{position_there}
use Rattle.sg_record.specs.Record.{with_scheme, with_schemes}
use Rattle.sg_views.specs.Schemes.{scheme_of, schemes_under, schemes_at, schemes_of}
use Rattle.sg_views.specs.Views.{row_of}

-- the name of a phylum by its number
abbrev name_of : Table → ℕ → Bytes
name_of t p = unwrap_or (option_map (λ (x : Phylum). x.name) (slice_get t.phyla p)) []

named_so : (t : Table) (n : Bytes) (p : ℕ) → phylum_named t n ≡ Some p → name_of t p ≡ n
named_so t n p e =
    let x = position_there (λ (y : Phylum). bytes_eq n y.name) t.phyla p e in
    ap (λ o. unwrap_or (option_map (λ (y : Phylum). y.name) o) []) x.1 ∙ sym (bytes_is n x.0.name x.2)

-- the operator that a declaration of schemes names has these names
record IsOwner (t : Table) (p op : Name) (o : Operator) : Type 0 where
  phylum : name_of t o.phylum ≡ p.text
  name : o.name ≡ op.text

owner_is : (t : Table) (p op : Name) (k : ℕ) (o : Operator) → slice_get t.ops k ≡ Some o → operator_at t p op ≡ Some k → IsOwner t p op o
owner_is t p op k o is e =
    option_and_then_some (λ q. operator_named t q op.text) (phylum_named t p.text) k e
    (λ q named found. option_and_then_some (if_of t.ops q) (op_named t.ops op.text) k found (λ j first there. of q named j first there))
  where
    of : (q : ℕ) → phylum_named t p.text ≡ Some q → (j : ℕ) → op_named t.ops op.text ≡ Some j → if_of t.ops q j ≡ Some k → IsOwner t p op o
    of q named j first there =
        let test = cond_some (unwrap_or (option_map (nat_eq q) (phylum_of t.ops j)) false) j k there in
        let x = position_there (λ (y : Operator). bytes_eq op.text y.name) t.ops j first in
        let same : x.0 ≡ o = cc (x.1, ap (slice_get t.ops) test.1, is) in
        let phylum : nat_eq q x.0.phylum ≡ true = ap (λ z. unwrap_or (option_map (nat_eq q) (option_map (λ (y : Operator). y.phylum) z)) false) (sym x.1) ∙ test.0 in
        let own : o.phylum ≡ q = ap (λ (y : Operator). y.phylum) (sym same) ∙ sym (eq_is q x.0.phylum phylum) in
        record {
          phylum = ap (name_of t) own ∙ named_so t p.text q named;
          name = ap (λ (y : Operator). y.name) (sym same) ∙ sym (bytes_is op.text x.0.name x.2);
        }

-- no more is owned than there is
owned-le-length : {A : Type 0} (pairs : List (ℕ × A)) (k : ℕ) → length (owned pairs k) ≤ length pairs
owned-le-length {A} pairs k =
    let all : count_by (λ (x : A). true) (owned pairs k) ≡ length (owned pairs k) = count-all (owned pairs k) in
    let mine : count_by (λ (x : A). true) (owned pairs k) ≡ count_by (λ (x : ℕ × A). nat_eq x.0 k && true) pairs = count-owned (λ (x : A). true) k pairs in
    let few : count_by (λ (x : ℕ × A). nat_eq x.0 k && true) pairs ≤ length pairs = count_by-le-length (λ (x : ℕ × A). nat_eq x.0 k && true) pairs in
    omega (arith, all, mine, few)

-- a scheme with the number of its operator
abbrev with_number : Table → ℕ → SchemeDecl → ℕ × Scheme
with_number t j s = (j, scheme_of t j s)

-- two views are the same from either side
same_turned : (v w : Option Bytes) → is_same_view v w ≡ true → is_same_view w v ≡ true
same_turned None None e = refl
same_turned (Some a) (Some b) e = equal_bytes b a (sym (bytes_is a b e))
same_turned None (Some b) e = absurd (cc e)
same_turned (Some a) None e = absurd (cc e)

module _ (t : Table) (view : Option Bytes) (k : ℕ) (o : Operator) (is : slice_get t.ops k ≡ Some o) where
  -- how many declarations of schemes of the operator in the view a declaration is
  declared : Decl → ℕ
  declared d = count_by (defines (Schemes (name_of t o.phylum) view) o.name) (definitions_of d)

  one_declared : (p op : Name) (v : Option Name) (ss : List SchemeDecl) → is_same_view (view_name v) view ≡ true → operator_at t p op ≡ Some k → declared (decl.Schemes p op v ss) ≡ 1
  unfolding declared
  one_declared p op v ss same e =
      let names = owner_is t p op k o is e in
      let space : (bytes_eq (name_of t o.phylum) p.text && is_same_view view (view_name v)) ≡ true =
      and_from (bytes_eq (name_of t o.phylum) p.text) (is_same_view view (view_name v)) (equal_bytes (name_of t o.phylum) p.text names.phylum) (same_turned (view_name v) view same) in
      let test : ((bytes_eq (name_of t o.phylum) p.text && is_same_view view (view_name v)) && bytes_eq o.name op.text) ≡ true =
      and_from (bytes_eq (name_of t o.phylum) p.text && is_same_view view (view_name v)) (bytes_eq o.name op.text) space (equal_bytes o.name op.text names.name) in
      let one : one_if ((bytes_eq (name_of t o.phylum) p.text && is_same_view view (view_name v)) && bytes_eq o.name op.text) ≡ 1 =
      passes ((bytes_eq (name_of t o.phylum) p.text && is_same_view view (view_name v)) && bytes_eq o.name op.text) test in
      omega (arith, one)

  -- a declaration gives the operator at most 16 schemes, and none where it does not name it
  few_under : (p op : Name) (v : Option Name) (ss : List SchemeDecl) → is_same_view (view_name v) view ≡ true → length ss ≤ 16 → (j : Option ℕ) → operator_at t p op ≡ j
      → length (owned (schemes_under t ss j) k) ≤ 16 * declared (decl.Schemes p op v ss)
  few_under p op v ss same low None e = omega arith
  few_under p op v ss same low (Some j) e = of (nat_eq j k) refl
    where
      of : (b : Bool) → nat_eq j k ≡ b → length (owned (schemes_under t ss (Some j)) k) ≤ 16 * declared (decl.Schemes p op v ss)
      of true mine =
          let one : declared (decl.Schemes p op v ss) ≡ 1 = one_declared p op v ss same (e ∙ ap Some (eq_is j k mine)) in
          let all : length (owned (schemes_under t ss (Some j)) k) ≤ length (schemes_under t ss (Some j)) = owned-le-length (schemes_under t ss (Some j)) k in
          let made : length (schemes_under t ss (Some j)) ≡ length ss = length-map ss (with_number t j) in
          omega (arith, one, all, made, low)
      of false other =
          let none : owned (schemes_under t ss (Some j)) k ≡ [] = none_owned k (schemes_under t ss (Some j)) (each_map (λ (x : ℕ × Scheme). nat_eq x.0 k ≡ false) (with_number t j) ss (each_always (λ (s : SchemeDecl). nat_eq j k ≡ false) (λ s. other) ss)) in
          let count : length (owned (schemes_under t ss (Some j)) k) ≡ 0 = ap (λ (l : List Scheme). length l) none in
          omega (arith, count)

  few_at : (d : Decl) → AllByRecursion (λ n. n ≤ 16) (limits.schemes_of d) → length (owned (schemes_at t view d) k) ≤ 16 * declared d
  few_at (decl.Schemes p op v ss) few = by (is_same_view (view_name v) view) refl
    where
      by : (b : Bool) → is_same_view (view_name v) view ≡ b → length (owned (if b then schemes_under t ss (operator_at t p op) else []) k) ≤ 16 * declared (decl.Schemes p op v ss)
      by true same = few_under p op v ss same few.0 (operator_at t p op) refl
      by false other = omega arith
  few_at d few = omega arith

  -- all declarations, of which at most one names it
  few_in : (ds : List Decl) → AllByRecursion (λ n. n ≤ 16) (flat_map limits.schemes_of ds) → length (owned (flat_map (schemes_at t view) ds) k) ≤ 16 * sum_by declared ds
  few_in [] few = omega arith
  few_in (d ∷ ds) few =
      let parts = each_split (λ n. n ≤ 16) (limits.schemes_of d) (flat_map limits.schemes_of ds) few in
      let here : length (owned (schemes_at t view d) k) ≤ 16 * declared d = few_at d parts.0 in
      let rest : length (owned (flat_map (schemes_at t view) ds) k) ≤ 16 * sum_by declared ds = few_in ds parts.1 in
      let both : length (owned (schemes_at t view d ++ flat_map (schemes_at t view) ds) k) ≡ length (owned (schemes_at t view d) k) + length (owned (flat_map (schemes_at t view) ds) k) =
      ap (λ (l : List Scheme). length l) (owned_append (schemes_at t view d) (flat_map (schemes_at t view) ds) k) ∙ length-append (owned (schemes_at t view d) k) (owned (flat_map (schemes_at t view) ds) k) in
      let sum : sum_by declared (d ∷ ds) ≡ declared d + sum_by declared ds = sum_by-cons declared d ds in
      omega (arith, here, rest, both, sum)

  few_schemes : (ds : List Decl) → AllByRecursion (λ n. n ≤ 16) (flat_map limits.schemes_of ds) → duplicate ds ≡ None → length (schemes_of t view ds k) ≤ 16
  unfolding declared
  few_schemes ds few e =
      let all : length (owned (flat_map (schemes_at t view) ds) k) ≤ 16 * sum_by declared ds = few_in ds few in
      let one : count_by (defines (Schemes (name_of t o.phylum) view) o.name) given + sum_by declared ds ≤ 1 = once ds e (Schemes (name_of t o.phylum) view) o.name in
      omega (arith, all, one)

-- the schemes of each operator are few
pub schemes_limited : (t : Table) (ds : List Decl) → AllByRecursion (λ n. n ≤ 16) (flat_map limits.schemes_of ds) → duplicate ds ≡ None → AllByRecursion (λ (o : Operator). length o.schemes ≤ 16) (with_schemes (schemes_of t None ds) t.ops)
schemes_limited t ds few e =
    all_made (λ (o : Operator). length o.schemes ≤ 16) (with_scheme (schemes_of t None ds)) 0 t.ops
    (λ k o is. let n : k ≡ 0 + k = omega arith in subst (λ j. length (schemes_of t None ds j) ≤ 16) n (few_schemes t None k o is ds few e))

-- and in each view
each_below : (P : ℕ → Type 0) (n : ℕ) → ((k : ℕ) → k < n → P k) → AllByRecursion P (below n)
each_below P zero each = tt
each_below P (suc n) each = each_append P (below n) (n ∷ []) (each_below P n (λ k low. each k (omega (arith, low)))) (each n (omega arith), tt)

pub row_limited : (t : Table) (ds : List Decl) → AllByRecursion (λ n. n ≤ 16) (flat_map limits.schemes_of ds) → duplicate ds ≡ None → (view : Bytes) → AllByRecursion (λ (ss : List Scheme). length ss ≤ 16) (row_of t ds view)
row_limited t ds few e view =
    each_map (λ (ss : List Scheme). length ss ≤ 16) (schemes_of t (Some view) ds) (below (length t.ops))
    (each_below (λ k. length (schemes_of t (Some view) ds k) ≤ 16) (length t.ops) (λ k low. let x = slice_get-there t.ops k low in few_schemes t (Some view) k x.0 x.1 ds few e))
