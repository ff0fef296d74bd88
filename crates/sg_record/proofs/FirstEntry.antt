-- Entries stand in the order of the text, and the first fault of a row of them before all others of the row.
use Rattle.std.proofs.Common.{◌≡◌, ℕ, suc, ◌+◌, ◌≤◌, Bool, true, false, cond, ◌||◌, List, [], ◌∷◌, ◌++◌, map, Option, Some, None, slice_get, nat_eq, inl, refl, sym, ap, ◌∙◌, subst, arith}
use Rattle.std.specs.Prelude.{flat_map, option_map}
use Rattle.std.specs.List.{list_any}
use Rattle.std.proofs.lemmas.List.{map-append}
use Rattle.sg_kinds.specs.declared.fault.Position.{Position}
use Rattle.sg_kinds.specs.declared.fault.SpecFault.TheVariants as fault
use Rattle.sg_ast.specs.declared.name.Name.{Name}
use Rattle.sg_ast.specs.Declarations.{Decl, Entry}
use Rattle.sg_ast.specs.FirstFault.{repeats_behind, repeats, repeat_from, first_repeat}
use Rattle.sg_ast.specs.Rising.{places_of, RiseFrom, SomeOf, nothing, passed, taken}
use Rattle.sg_ast.proofs.RisingLaws.{some_of_each, some_rise, some_some}
use Rattle.sg_names.specs.declared.table.Table.{Table}
use Rattle.sg_names.specs.Lookups.{usable_named, symbol_type}
use Rattle.sg_types.specs.Types.{fits_where}
use Rattle.sg_schemes.specs.Spots.{IsFirst}
use Rattle.sg_schemes.proofs.FirstInText.{Among, first_stands}
use Rattle.sg_record.specs.Entries.{entered_at, entered, twice_at, entry_twice, type_fault, entry_type}
use Rattle.sg_record.specs.EntryPlaces.{entry_places, is_same_phylum, fault_place, IsFirstEntry}
use Rattle.sg_record.specs.Record.{phylum_in}

-- entries
decl_in : (d : Decl) → SomeOf (entry_places (entered_at d)) (places_of d)
decl_in (Entry n m a) = taken nothing
decl_in d = nothing

joined : (ds : List Decl) → entry_places (entered ds) ≡ flat_map (λ d. entry_places (entered_at d)) ds
joined [] = refl
joined (d ∷ ds) = map-append (λ (n : Name). n.place) (entered_at d) (entered ds) ∙ ap (λ l. entry_places (entered_at d) ++ l) (joined ds)

pub entries_ordered : (ds : List Decl) → SomeOf (entry_places (entered ds)) (flat_map places_of ds)
entries_ordered ds = subst (λ (l : List Position). SomeOf l (flat_map places_of ds)) (sym (joined ds)) (some_of_each (λ d. entry_places (entered_at d)) places_of decl_in ds)

-- what repeats
some_repeats : {X : Type 0} (same : X → X → Bool) (before xs : List X) → SomeOf (repeats_behind same before xs) xs
some_repeats same before [] = nothing
some_repeats same before (x ∷ xs) = by (list_any (λ y. same y x) before) (some_repeats same (before ++ x ∷ []) xs)
  where
    by : (b : Bool) → SomeOf (repeats_behind same (before ++ x ∷ []) xs) xs → SomeOf (cond b (x ∷ repeats_behind same (before ++ x ∷ []) xs) (repeats_behind same (before ++ x ∷ []) xs)) (x ∷ xs)
    by true s = taken s
    by false s = passed s

-- the first that repeats, and its place
record Repeats {X : Type 0} (same : X → X → Bool) (before : List X) (place : ℕ) (xs : List X) (k : ℕ) : Type 0 where
  first : X
  rest : List X
  at : ℕ
  is : repeats_behind same before xs ≡ first ∷ rest
  there : slice_get xs at ≡ Some first
  behind : k ≡ place + at

first_repeats : {X : Type 0} (same : X → X → Bool) (before : List X) (place : ℕ) (xs : List X) (k : ℕ) → repeat_from same before place xs ≡ Some k → Repeats same before place xs k
first_repeats same before place [] k e = cc
first_repeats {X} same before place (x ∷ xs) k e = by (list_any (λ y. same y x) before) refl e (first_repeats same (before ++ x ∷ []) (suc place) xs k)
  where
    more : List X
    more = repeats_behind same (before ++ x ∷ []) xs

    by : (b : Bool) → list_any (λ y. same y x) before ≡ b → cond b (Some place) (repeat_from same (before ++ x ∷ []) (suc place) xs) ≡ Some k
        → (repeat_from same (before ++ x ∷ []) (suc place) xs ≡ Some k → Repeats same (before ++ x ∷ []) (suc place) xs k) → Repeats same before place (x ∷ xs) k
    by true is e rest = record { first = x; rest = more; at = 0; is = ap (λ b. cond b (x ∷ more) more) is; there = refl; behind = let same : place ≡ k = cc in omega (arith, same) }
    by false is e rest = let r = rest e in record { first = r.first; rest = r.rest; at = suc r.at; is = ap (λ b. cond b (x ∷ more) more) is ∙ r.is; there = r.there; behind = omega (arith, r.behind) }

-- phyla repeat where their numbers do
module _ (t : Table) where
  abbrev number : Name → ℕ
  number n = phylum_in t n.text

  any_same : (names : List Name) (n : Name) → list_any (λ k. nat_eq k (number n)) (map number names) ≡ list_any (λ a. is_same_phylum t a n) names
  any_same [] n = refl
  any_same (a ∷ names) n = ap (λ b. nat_eq (number a) (number n) || b) (any_same names n)

  numbers_repeat : (before : List Name) (place : ℕ) (names : List Name) → repeat_from nat_eq (map number before) place (map number names) ≡ repeat_from (is_same_phylum t) before place names
  numbers_repeat before place [] = refl
  numbers_repeat before place (n ∷ names) =
      ap (λ b. cond b (Some place) (repeat_from nat_eq (map number before ++ number n ∷ []) (suc place) (map number names))) (any_same before n)
      ∙ ap (λ o. cond (list_any (λ a. is_same_phylum t a n) before) (Some place) o)
      (ap (λ l. repeat_from nat_eq l (suc place) (map number names)) (sym (map-append number before (n ∷ []))) ∙ numbers_repeat (before ++ n ∷ []) (suc place) names)

-- where places rise, none stands before the first
from_start : (k : ℕ) (p : Position) (names : List Name) → p.token ≤ k → RiseFrom k (entry_places names) → IsFirstEntry names p
from_start k p [] less h = tt
from_start k p (n ∷ names) less h = (omega (arith, less, h.0), from_start (n.place.token + 1) p names (omega (arith, less, h.0)) h.1)

some_places : {xs ys : List Name} → SomeOf xs ys → SomeOf (entry_places xs) (entry_places ys)
some_places nothing = nothing
some_places (passed s) = passed (some_places s)
some_places (taken s) = taken (some_places s)

head_first : (p : Position) (n : Name) (names all : List Name) → all ≡ n ∷ names → n.place ≡ p → RiseFrom 0 (entry_places all) → IsFirstEntry all p
head_first p n names all is here rise =
    let rises : RiseFrom 0 (entry_places (n ∷ names)) = subst (λ (l : List Name). RiseFrom 0 (entry_places l)) is rise in
    let first : IsFirstEntry (n ∷ names) n.place = (omega arith, from_start (n.place.token + 1) n.place names (omega arith) rises.1) in
    subst (λ (l : List Name). IsFirstEntry l p) (sym is) (subst (λ (q : Position). IsFirstEntry (n ∷ names) q) here first)

-- second entries
pub twice_first : (ds : List Decl) → RiseFrom 0 (flat_map places_of ds) → (t : Table) (p : Position) → fault_place (entry_twice t ds) ≡ Some p → IsFirstEntry (repeats (is_same_phylum t) (entered ds)) p
twice_first ds rise t p e = by (first_repeat nat_eq (map (number t) (entered ds))) refl e
  where
    again : List Name
    again = repeats (is_same_phylum t) (entered ds)

    rises : RiseFrom 0 (entry_places again)
    rises = some_rise 0 (some_some (some_places (some_repeats (is_same_phylum t) [] (entered ds))) (entries_ordered ds)) rise

    by : (o : Option ℕ) → first_repeat nat_eq (map (number t) (entered ds)) ≡ o → fault_place (twice_at (entered ds) o) ≡ Some p → IsFirstEntry again p
    by None is e = absurd (cc)
    by (Some k) is e =
        let r = first_repeats (is_same_phylum t) [] 0 (entered ds) k (sym (numbers_repeat t [] 0 (entered ds)) ∙ is) in
        let at : r.at ≡ k = omega (arith, r.behind) in
        let told : Some r.first.place ≡ Some p = ap (λ o. fault_place (option_map (λ (n : Name). fault.EntryTwice n.place n.text) o)) (sym r.there) ∙ ap (λ n. fault_place (twice_at (entered ds) (Some n))) at ∙ e in
        head_first p r.first r.rest again r.is (cc) rises

-- entries whose type is not accepted
type_stands : (t : Table) (d : Decl) (p : Position) → fault_place (type_fault t d) ≡ Some p → Among p (places_of d)
type_stands t (Entry n m a) p e = by (fits_where t (usable_named t n.text) (symbol_type t m.text a.text)) e
  where
    by : (b : Bool) → fault_place (cond b None (Some (fault.EntryType n.place n.text))) ≡ Some p → Among p (places_of (Entry n m a))
    by true e = absurd (cc)
    by false e = let same : Some n.place ≡ Some p = e in inl (cc)
type_stands t d p e = absurd (cc)

pub type_first : (ds : List Decl) → RiseFrom 0 (flat_map places_of ds) → (t : Table) (p : Position) → fault_place (entry_type t ds) ≡ Some p → IsFirst (λ d. fault_place (type_fault t d)) ds p
type_first ds rise t p e = first_stands fault_place refl (type_fault t) places_of (type_stands t) 0 p ds rise e
