-- The first fault of a row stands before all others of the row.
use Rattle.std.proofs.Common.{◌≡◌, ℕ, ◌+◌, ◌≤◌, Bool, true, false, List, [], ◌∷◌, ◌++◌, if◌then◌else◌, Option, Some, None, ◌⊎◌, inl, inr, refl, sym, ap, ◌∙◌, subst, arith}
use Rattle.std.specs.Prelude.{option_and_then, is_some, ◌||◌, nat_eq, length}
use Rattle.sg_kinds.specs.Specification.{args_of}
use Rattle.sg_kinds.specs.declared.fault.Position.{Position}
use Rattle.sg_kinds.specs.declared.fault.SpecFault.{SpecFault}
use Rattle.sg_kinds.specs.declared.fault.SpecFault.TheVariants as fault
use Rattle.sg_text.specs.declared.tokens.Token.{Token}
use Rattle.sg_ast.specs.declared.name.Name.{Name}
use Rattle.sg_ast.specs.declared.name.Occurrence.{Occurrence}
use Rattle.sg_ast.specs.declared.name.Occurrence.TheVariants.{Own, Named}
use Rattle.sg_ast.specs.Declarations.{Decl}
use Rattle.sg_ast.specs.Chains.{occurrence_place}
use Rattle.sg_ast.specs.FirstFault.{or_else, first}
use Rattle.sg_ast.specs.Rising.{RiseFrom}
use Rattle.sg_ast.specs.Spells.{EachSpells, declarations}
use Rattle.sg_ast.proofs.RisingLaws.{all_rise, some_rise, later, whole}
use Rattle.sg_names.specs.declared.table.Table.{Table}
use Rattle.sg_names.specs.declared.table.Callable.{Callable}
use Rattle.sg_names.specs.Lookups.{usable_named, operator_at, callable, params_of, symbol_type}
use Rattle.sg_names.specs.Names.{op_named}
use Rattle.sg_names.specs.Arity.{arity, arity_at, unless_many}
use Rattle.sg_names.specs.TwiceBound.{twice_bound, twice_at, twice_if}
use Rattle.sg_names.specs.UnknownName.{unknown_name, unknown_at, unless_known, has_operators, is_attribute, is_lexeme, is_nonterminal, may_enclose, reference_fault, is_there, is_known}
use Rattle.sg_names.specs.Uses.{Use, UsesPhylum, HasOperators, HasAttributes, UsesOperator, UsesSymbol, UsesResult, Refers, Encloses, UsesVariable, Binds, Calls, Matches, is_visible, uses}
use Rattle.sg_uses.specs.UsePlaces.{use_places, walked_places, fault_place, IsFirst}
use Rattle.sg_uses.proofs.Order.{uses_in}

-- a place of a list
abbrev Among : Position → List Position → Type 0
Among p [] = ⊥
Among p (q ∷ qs) = (p ≡ q) ⊎ Among p qs

-- what rises: the first places are at least the start, and those behind a place are later
rest_rises : (k : ℕ) (ps qs : List Position) → RiseFrom k (ps ++ qs) → RiseFrom k qs
rest_rises k ps qs h = some_rise k (later ps (whole qs)) h

front_rises : (k : ℕ) (p : Position) (ps qs : List Position) → RiseFrom k (ps ++ qs) → Among p ps → k ≤ p.token
front_rises k p [] qs h is = elim is [ ]
front_rises k p (r ∷ ps) qs h (inl e) = subst (λ (x : Position). k ≤ x.token) (sym e) h.0
front_rises k p (r ∷ ps) qs h (inr is) = let more = front_rises (r.token + 1) p ps qs h.1 is in omega (arith, h.0, more)

behind_rises : (k : ℕ) (p : Position) (ps qs : List Position) → RiseFrom k (ps ++ qs) → Among p ps → RiseFrom (p.token + 1) qs
behind_rises k p [] qs h is = elim is [ ]
behind_rises k p (r ∷ ps) qs h (inl e) = subst (λ (x : Position). RiseFrom (x.token + 1) qs) (sym e) (rest_rises (r.token + 1) ps qs h.1)
behind_rises k p (r ∷ ps) qs h (inr is) = behind_rises (r.token + 1) p ps qs h.1 is

-- the place of a fault of one use
one_place : (f : SpecFault) (p q : Position) → fault_place (Some f) ≡ Some p → fault_place (Some f) ≡ Some q → p ≡ q
one_place f p q a b = let same : Some p ≡ Some q = sym a ∙ b in cc

module _ (test : Use → Option SpecFault) (stands : (u : Use) (p : Position) → fault_place (test u) ≡ Some p → Among p (use_places u)) where
  all_later : (k : ℕ) (p : Position) (us : List Use) → p.token ≤ k → RiseFrom k (walked_places us) → IsFirst test us p
  all_later k p [] less h = tt
  all_later k p (u ∷ us) less h = (
    (λ q e. let low = front_rises k q (use_places u) (walked_places us) h (stands u q e) in omega (arith, less, low)),
    all_later k p us less (rest_rises k (use_places u) (walked_places us) h),
  )

  first_stands : (k : ℕ) (p : Position) (us : List Use) → RiseFrom k (walked_places us) → fault_place (first test us) ≡ Some p → IsFirst test us p
  first_stands k p [] h e = tt
  first_stands k p (u ∷ us) h e = by (test u) refl e (first_stands k p us (rest_rises k (use_places u) (walked_places us) h))
    where
      by : (o : Option SpecFault) → test u ≡ o → fault_place (or_else o (first test us)) ≡ Some p → (fault_place (first test us) ≡ Some p → IsFirst test us p) → IsFirst test (u ∷ us) p
      by (Some f) is e rest =
          let here : fault_place (test u) ≡ Some p = ap fault_place is ∙ e in (
            (λ q there. let same : p ≡ q = one_place f p q e (ap fault_place (sym is) ∙ there) in omega (arith, ap (λ (x : Position). x.token) same)),
            all_later (p.token + 1) p us (omega arith) (behind_rises k p (use_places u) (walked_places us) h (stands u p here)),
          )
      by None is e rest = ((λ q there. let never : None ≡ Some q = ap fault_place (sym is) ∙ there in absurd (cc)), rest e)

-- the faults of the rows stand at places of their uses
unless_stands : (known : Bool) (n : Name) (p : Position) → fault_place (unless_known known n) ≡ Some p → p ≡ n.place
unless_stands true n p e = absurd (cc)
unless_stands false n p e = let same : Some n.place ≡ Some p = e in cc

name_stands : (known : Bool) (n : Name) (p : Position) → fault_place (unless_known known n) ≡ Some p → Among p (n.place ∷ [])
name_stands known n p e = inl (unless_stands known n p e)

second_stands : (there known : Bool) (n a : Name) (p : Position) → fault_place (if there then unless_known known a else unless_known false n) ≡ Some p → Among p (n.place ∷ a.place ∷ [])
second_stands true known n a p e = inr (inl (unless_stands known a p e))
second_stands false known n a p e = inl (unless_stands false n p e)

reference_stands : (there known : Bool) (of : Occurrence) (attr : Name) (p : Position) → fault_place (reference_fault there known (record { of = of; attr = attr })) ≡ Some p → Among p (occurrence_place of ∷ attr.place ∷ [])
reference_stands true known of attr p e = inr (inl (unless_stands known attr p e))
reference_stands false known (Own place) attr p e = inr (inl (unless_stands false attr p e))
reference_stands false known (Named n k) attr p e = inl (unless_stands false n p e)

unknown_stands : (t : Table) (u : Use) (p : Position) → fault_place (unknown_at t u) ≡ Some p → Among p (use_places u)
unknown_stands t (UsesPhylum n) p e = name_stands (is_some (usable_named t n.text)) n p e
unknown_stands t (HasOperators n) p e = name_stands (has_operators t n.text) n p e
unknown_stands t (HasAttributes n) p e = name_stands (has_operators t n.text || is_nonterminal t n.text) n p e
unknown_stands t (UsesOperator n op) p e = second_stands (is_some (usable_named t n.text)) (is_some (operator_at t n op)) n op p e
unknown_stands t (UsesSymbol n) p e = name_stands (is_lexeme t n.text || is_nonterminal t n.text) n p e
unknown_stands t (UsesResult n a) p e = second_stands (is_nonterminal t n.text) (is_some (symbol_type t n.text a.text)) n a p e
unknown_stands t (Refers site r) p e = reference_stands (is_there t site r.of) (is_known t site r) r.of r.attr p e
unknown_stands t (Encloses site q) p e =
    second_stands (may_enclose t site q.phylum.text) (is_attribute t q.phylum.text q.attr.text) q.phylum q.attr p e
unknown_stands t (UsesVariable scope n) p e = name_stands (is_visible scope n.text) n p e
unknown_stands t (Binds scope n) p e = absurd (cc)
unknown_stands t (Calls n parts) p e = name_stands (is_some (callable t n.text)) n p e
unknown_stands t (Matches n parts) p e = name_stands (is_some (op_named t.ops n.text)) n p e

twice_here : (visible : Bool) (n : Name) (p : Position) → fault_place (twice_if visible n) ≡ Some p → Among p (n.place ∷ [])
twice_here true n p e = let same : Some n.place ≡ Some p = e in inl (cc)
twice_here false n p e = absurd (cc)

twice_stands : (u : Use) (p : Position) → fault_place (twice_at u) ≡ Some p → Among p (use_places u)
twice_stands (Binds scope n) p e = twice_here (is_visible scope n.text) n p e
twice_stands u p e = absurd (cc)

many_stands : (declared parts : ℕ) (n : Name) (p : Position) → fault_place (unless_many declared parts n) ≡ Some p → Among p (n.place ∷ [])
many_stands declared parts n p e = by (nat_eq declared parts) e
  where
    by : (b : Bool) → fault_place (if b then None else Some (fault.Arity n.place n.text)) ≡ Some p → Among p (n.place ∷ [])
    by true e = absurd (cc)
    by false e = let same : Some n.place ≡ Some p = e in inl (cc)

arity_stands : (t : Table) (u : Use) (p : Position) → fault_place (arity_at t u) ≡ Some p → Among p (use_places u)
arity_stands t (Calls n parts) p e = by (callable t n.text) e
  where
    by : (o : Option Callable) → fault_place (option_and_then (λ c. unless_many (length (params_of t c)) parts n) o) ≡ Some p → Among p (n.place ∷ [])
    by None e = absurd (cc)
    by (Some c) e = many_stands (length (params_of t c)) parts n p e
arity_stands t (Matches n parts) p e = by (op_named t.ops n.text) e
  where
    by : (o : Option ℕ) → fault_place (option_and_then (λ op. unless_many (length (args_of t.ops op)) parts n) o) ≡ Some p → Among p (n.place ∷ [])
    by None e = absurd (cc)
    by (Some op) e = many_stands (length (args_of t.ops op)) parts n p e
arity_stands t u p e = absurd (cc)

-- the uses of a text rise
uses_rise : (bytes : List ℕ) (ts : List Token) (ds : List Decl) → EachSpells (declarations bytes ts) ds → (t : Table) → RiseFrom 0 (walked_places (uses t ds))
uses_rise bytes ts ds all t = some_rise 0 (uses_in t ds) (all_rise bytes ts ds all)

pub unknown_first : (bytes : List ℕ) (ts : List Token) (ds : List Decl) → EachSpells (declarations bytes ts) ds → (t : Table) (p : Position) → fault_place (unknown_name t ds) ≡ Some p → IsFirst (unknown_at t) (uses t ds) p
unfolding unknown_name
unknown_first bytes ts ds all t p e = first_stands (unknown_at t) (unknown_stands t) 0 p (uses t ds) (uses_rise bytes ts ds all t) e

pub twice_first : (bytes : List ℕ) (ts : List Token) (ds : List Decl) → EachSpells (declarations bytes ts) ds → (t : Table) (p : Position) → fault_place (twice_bound t ds) ≡ Some p → IsFirst twice_at (uses t ds) p
unfolding twice_bound
twice_first bytes ts ds all t p e = first_stands twice_at twice_stands 0 p (uses t ds) (uses_rise bytes ts ds all t) e

pub arity_first : (bytes : List ℕ) (ts : List Token) (ds : List Decl) → EachSpells (declarations bytes ts) ds → (t : Table) (p : Position) → fault_place (arity t ds) ≡ Some p → IsFirst (arity_at t) (uses t ds) p
unfolding arity
arity_first bytes ts ds all t p e = first_stands (arity_at t) (arity_stands t) 0 p (uses t ds) (uses_rise bytes ts ds all t) e
