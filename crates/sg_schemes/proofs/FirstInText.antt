-- The first fault of a row of schemes stands before all others of the row.
use Rattle.std.proofs.Common.{◌≡◌, ℕ, zero, suc, ◌+◌, ◌≤◌, Bool, true, false, if◌then◌else◌, List, [], ◌∷◌, ◌++◌, map, length, Option, Some, None, ◌⊎◌, inl, inr, refl, sym, ap, ◌∙◌, subst, arith}
use Rattle.std.proofs.lemmas.Bool.{cases_lt}
use Rattle.std.proofs.lemmas.Grind.{flat_map-append}
use Rattle.std.proofs.lemmas.List.Concat.{flat_map_single}
use Rattle.std.specs.Prelude.{flat_map, option_and_then, option_map, is_some, slice_get}
use Rattle.sg_kinds.specs.Pieces.{pieces_of}
use Rattle.sg_kinds.specs.declared.fault.Position.{Position}
use Rattle.sg_kinds.specs.declared.fault.SpecFault.{SpecFault}
use Rattle.sg_kinds.specs.declared.fault.SpecFault.TheVariants as fault
use Rattle.sg_kinds.specs.declared.spec.Operator.{Operator}
use Rattle.sg_kinds.specs.Specification.{args_of}
use Rattle.sg_ast.specs.declared.name.Name.{Name}
use Rattle.sg_ast.specs.declared.name.Quoted.{Quoted}
use Rattle.sg_ast.specs.declared.decl.SchemeDecl.{SchemeDecl}
use Rattle.sg_ast.specs.Declarations.{Decl, Schemes}
use Rattle.sg_ast.specs.FirstFault.{or_else, first}
use Rattle.sg_ast.specs.Rising.{places_of, RiseFrom}
use Rattle.sg_ast.proofs.RisingLaws.{some_rise, later, whole}
use Rattle.sg_names.specs.declared.table.Table.{Table}
use Rattle.sg_names.specs.Lookups.{phylum_named, operator_named}
use Rattle.sg_remote.specs.Longer.{names_of}
use Rattle.sg_schemes.specs.NoScheme.{IsNoScheme, all_have, first_lacks}
use Rattle.sg_schemes.specs.Places.{places_fault, is_fitting, is_list_pair, phylum_faults, operator_faults, kids_fault, scheme_kids}
use Rattle.sg_schemes.specs.ShownFlags.{fault_at}
use Rattle.sg_schemes.specs.Strings.{string_fault, scheme_text}
use Rattle.sg_schemes.specs.Spots.{each_scheme, scheme_places, strings_at, fault_place, IsFirst, IsFirstWithout}
use Rattle.sg_schemes.proofs.Order.{operators_ordered, schemes_ordered, strings_ordered}
use Rattle.sg_schemes.proofs.Spots.{by_scheme, by_string}

-- a later place in a list that rises
from_start : (k j : ℕ) (ps : List Position) (q : Position) → RiseFrom k ps → slice_get ps j ≡ Some q → k ≤ q.token
from_start k j [] q h there = absurd (cc)
from_start k zero (p ∷ ps) q h there = let same : Some p ≡ Some q = there in let e : p ≡ q = cc in omega (arith, h.0, ap (λ (x : Position). x.token) e)
from_start k (suc j) (p ∷ ps) q h there = let more = from_start (p.token + 1) j ps q h.1 there in omega (arith, h.0, more)

pub not_before : (k i j : ℕ) (ps : List Position) (p q : Position) → RiseFrom k ps → i ≤ j → slice_get ps i ≡ Some p → slice_get ps j ≡ Some q → p.token ≤ q.token
not_before k i j [] p q h less here there = absurd (cc)
not_before k zero zero (r ∷ ps) p q h less here there = let same : Some p ≡ Some q = sym here ∙ there in let e : p ≡ q = cc in omega (arith, ap (λ (x : Position). x.token) e)
not_before k zero (suc j) (r ∷ ps) p q h less here there =
    let same : Some r ≡ Some p = here in let e : r ≡ p = cc in
    let more = from_start (r.token + 1) j ps q h.1 there in omega (arith, ap (λ (x : Position). x.token) e, more)
not_before k (suc i) zero (r ∷ ps) p q h less here there = absurd (omega (arith, less))
not_before k (suc i) (suc j) (r ∷ ps) p q h less here there = not_before (r.token + 1) i j ps p q h.1 (omega (arith, less)) here there

-- a place of a list
abbrev pub Among : Position → List Position → Type 0
Among p [] = ⊥
Among p (q ∷ qs) = (p ≡ q) ⊎ Among p qs

-- what rises: the first places are at least the start, and those behind a place are later
pub rest_rises : (k : ℕ) (ps qs : List Position) → RiseFrom k (ps ++ qs) → RiseFrom k qs
rest_rises k ps qs h = some_rise k (later ps (whole qs)) h

pub front_rises : (k : ℕ) (p : Position) (ps qs : List Position) → RiseFrom k (ps ++ qs) → Among p ps → k ≤ p.token
front_rises k p [] qs h is = elim is [ ]
front_rises k p (r ∷ ps) qs h (inl e) = subst (λ (x : Position). k ≤ x.token) (sym e) h.0
front_rises k p (r ∷ ps) qs h (inr is) = let more = front_rises (r.token + 1) p ps qs h.1 is in omega (arith, h.0, more)

pub behind_rises : (k : ℕ) (p : Position) (ps qs : List Position) → RiseFrom k (ps ++ qs) → Among p ps → RiseFrom (p.token + 1) qs
behind_rises k p [] qs h is = elim is [ ]
behind_rises k p (r ∷ ps) qs h (inl e) = subst (λ (x : Position). RiseFrom (x.token + 1) qs) (sym e) (rest_rises (r.token + 1) ps qs h.1)
behind_rises k p (r ∷ ps) qs h (inr is) = behind_rises (r.token + 1) p ps qs h.1 is

-- the first of spots whose places rise, where the fault of a spot stands at one of its places
module _ {X : Type 0} (at : Option SpecFault → Option Position) (no_place : at None ≡ None) (fault : X → Option SpecFault)
    (places : X → List Position) (stands : (x : X) (p : Position) → at (fault x) ≡ Some p → Among p (places x)) where
  behind : (k : ℕ) (p : Position) (xs : List X) → p.token ≤ k → RiseFrom k (flat_map places xs) → IsFirst (λ x. at (fault x)) xs p
  behind k p [] less h = tt
  behind k p (x ∷ xs) less h = (
    (λ q e. let low = front_rises k q (places x) (flat_map places xs) h (stands x q e) in omega (arith, less, low)),
    behind k p xs less (rest_rises k (places x) (flat_map places xs) h),
  )

  pub first_stands : (k : ℕ) (p : Position) (xs : List X) → RiseFrom k (flat_map places xs) → at (first fault xs) ≡ Some p → IsFirst (λ x. at (fault x)) xs p
  first_stands k p [] h e = tt
  first_stands k p (x ∷ xs) h e = by (fault x) refl e (first_stands k p xs (rest_rises k (places x) (flat_map places xs) h))
    where
      by : (o : Option SpecFault) → fault x ≡ o → at (or_else o (first fault xs)) ≡ Some p → (at (first fault xs) ≡ Some p → IsFirst (λ x. at (fault x)) xs p) → IsFirst (λ x. at (fault x)) (x ∷ xs) p
      by (Some f) is e rest =
          let here : at (fault x) ≡ Some p = ap at is ∙ e in (
            (λ q there. let both : Some p ≡ Some q = sym here ∙ there in let same : p ≡ q = cc in omega (arith, ap (λ (y : Position). y.token) same)),
            behind (p.token + 1) p xs (omega arith) (behind_rises k p (places x) (flat_map places xs) h (stands x p here)),
          )
      by None is e rest = ((λ q there. let never : None ≡ Some q = sym no_place ∙ ap at (sym is) ∙ there in absurd (cc)), rest e)

-- operators without schemes
fault_there : (t : Table) (k : ℕ) (o : Operator) (p : Position) → fault_place (fault_at t k o) ≡ Some p → slice_get t.op_places k ≡ Some p
fault_there t k o p e = by (slice_get t.op_places k) e
  where
    by : (place : Option Position) → fault_place (option_map (λ place. fault.NoScheme place o.name) place) ≡ Some p → place ≡ Some p
    by None e = absurd (cc)
    by (Some place) e = e

pub no_scheme_first : (ds : List Decl) → RiseFrom 0 (flat_map places_of ds) → (f : Option SpecFault) (p : Position) → IsNoScheme (names_of ds) ds f → fault_place f ≡ Some p → IsFirstWithout (names_of ds) ds p
no_scheme_first ds rise f p (all_have none is) e = let never : None ≡ Some p = ap fault_place (sym is) ∙ e in absurd (cc)
no_scheme_first ds rise f p (first_lacks k o lacks before is) e = λ j x q other there. elim (cases_lt j k) [
  | inl less ↦ absurd (before j x less other)
  | inr ge ↦
      not_before 0 k j (names_of ds).op_places p q (some_rise 0 (operators_ordered ds) rise) ge
      (fault_there (names_of ds) k o p (ap fault_place (sym is) ∙ e)) there
]

-- schemes
schemes_stand : (pair : Bool) (arity : ℕ) (op : Name) (schemes : List SchemeDecl) (p : Position) → fault_place (first (places_fault pair arity op) schemes) ≡ Some p → Among p (map (λ (s : SchemeDecl). s.place) schemes)
schemes_stand pair arity op [] p e = absurd (cc)
schemes_stand pair arity op (s ∷ schemes) p e = by (is_fitting pair arity s) e (schemes_stand pair arity op schemes p)
  where
    by : (b : Bool) → fault_place (or_else (if b then None else Some (fault.SchemeKids s.place op.text)) (first (places_fault pair arity op) schemes)) ≡ Some p
        → (fault_place (first (places_fault pair arity op) schemes) ≡ Some p → Among p (map (λ (s : SchemeDecl). s.place) schemes))
        → (p ≡ s.place) ⊎ Among p (map (λ (s : SchemeDecl). s.place) schemes)
    by true e rest = inr (rest e)
    by false e rest = let same : Some s.place ≡ Some p = e in inl (cc)

then_stands : (f : ℕ → Option SpecFault) (ps : List Position) (o : Option ℕ) (p : Position) → ((k : ℕ) → fault_place (f k) ≡ Some p → Among p ps) → fault_place (option_and_then f o) ≡ Some p → Among p ps
then_stands f ps None p each e = absurd (cc)
then_stands f ps (Some k) p each e = each k e

kids_stand : (t : Table) (d : Decl) (p : Position) → fault_place (kids_fault t d) ≡ Some p → Among p (scheme_places d)
kids_stand t (Schemes n op view schemes) p e =
    let places : List Position = map (λ (s : SchemeDecl). s.place) schemes in
    then_stands (λ k. phylum_faults t k op schemes) places (phylum_named t n.text) p
    (λ k e. then_stands (λ o. operator_faults t k o op schemes) places (operator_named t k op.text) p
    (λ o e. schemes_stand (is_list_pair t k o) (length (args_of t.ops o)) op schemes p e) e) e
kids_stand t d p e = absurd (cc)

-- the places of single schemes are those of the declarations
one_by_one : (p op : Name) (view : Option Name) (schemes : List SchemeDecl) → flat_map scheme_places (map (λ s. Schemes p op view (s ∷ [])) schemes) ≡ map (λ (s : SchemeDecl). s.place) schemes
one_by_one p op view [] = refl
one_by_one p op view (s ∷ schemes) = ap (λ l. s.place ∷ l) (one_by_one p op view schemes)

decl_each : (d : Decl) → flat_map scheme_places (each_scheme d) ≡ scheme_places d
decl_each (Schemes p op view schemes) = one_by_one p op view schemes
decl_each d = refl

all_each : (ds : List Decl) → flat_map scheme_places (flat_map each_scheme ds) ≡ flat_map scheme_places ds
all_each [] = refl
all_each (d ∷ ds) =
    flat_map-append scheme_places (each_scheme d) (flat_map each_scheme ds) ∙ ap (λ l. l ++ flat_map scheme_places (flat_map each_scheme ds)) (decl_each d) ∙ ap (λ l. scheme_places d ++ l) (all_each ds)

pub scheme_kids_first : (ds : List Decl) → RiseFrom 0 (flat_map places_of ds) → (t : Table) (p : Position) → fault_place (scheme_kids t ds) ≡ Some p → IsFirst (λ d. fault_place (kids_fault t d)) (flat_map each_scheme ds) p
scheme_kids_first ds rise t p e =
    first_stands fault_place refl (kids_fault t) scheme_places (kids_stand t) 0 p (flat_map each_scheme ds)
    (subst (λ (l : List Position). RiseFrom 0 l) (sym (all_each ds)) (some_rise 0 (schemes_ordered ds) rise))
    (ap fault_place (sym (by_scheme t ds)) ∙ e)

-- strings
string_stands : (s : Quoted) (p : Position) → fault_place (string_fault s) ≡ Some p → Among p (s.place ∷ [])
string_stands s p e = by (is_some (pieces_of s.text)) e
  where
    by : (b : Bool) → fault_place (if b then None else Some (fault.SchemeText s.place)) ≡ Some p → Among p (s.place ∷ [])
    by true e = absurd (cc)
    by false e = let same : Some s.place ≡ Some p = e in inl (cc)

pub scheme_text_first : (ds : List Decl) → RiseFrom 0 (flat_map places_of ds) → (p : Position) → fault_place (scheme_text ds) ≡ Some p → IsFirst (λ s. fault_place (string_fault s)) (flat_map strings_at ds) p
scheme_text_first ds rise p e =
    first_stands fault_place refl string_fault (λ (s : Quoted). s.place ∷ []) string_stands 0 p (flat_map strings_at ds)
    (subst (λ (l : List Position). RiseFrom 0 l) (sym (flat_map_single (λ (s : Quoted). s.place) (flat_map strings_at ds))) (some_rise 0 (strings_ordered ds) rise))
    (ap fault_place (sym (by_string ds)) ∙ e)
