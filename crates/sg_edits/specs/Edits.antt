-- The editing commands that replace: each is refused, or names one replacement. The last refusal of each but `remove`,
-- of a term that would be over a limit, is `limited`.
use Rattle.std.specs.Prelude.{◌≡◌, ◌⊎◌, ◌<◌, ◌≤◌, ℕ, zero, suc, Bool, true, false, not, nat_eq, ◌&&◌, ◌==◌, if◌then◌else◌, [], ◌∷◌, length, Option, Some, None, slice_get, option_map, option_and_then, unwrap_or, is_some}
use Rattle.std.specs.Option.{option_map_or}
use Rattle.sg_kinds.specs.Completing.{completing}
use Rattle.sg_kinds.specs.Placeholder.{placeholder}
use Rattle.sg_kinds.specs.Plain.{plain}
use Rattle.sg_kinds.specs.Places.{Place, sub}
use Rattle.sg_kinds.specs.Sound.{is_pair}
use Rattle.sg_kinds.specs.Specification.{args_of, phylum_of, has_shape, is_list_shape}
use Rattle.sg_kinds.specs.Terms.{Term, Leaf, Node, NoTerm, AndTerm}
use Rattle.sg_kinds.specs.ValueOf.{value_of}
use Rattle.sg_kinds.specs.Values.{Bytes, Value, Fault}
use Rattle.sg_kinds.specs.declared.marks.Shape.{Shape}
use Rattle.sg_kinds.specs.declared.marks.Shape.TheVariants.{Listed}
use Rattle.sg_kinds.specs.declared.spec.Phylum.{Phylum}
use Rattle.sg_kinds.specs.declared.spec.Scheme.{Scheme}
use Rattle.sg_kinds.specs.declared.spec.Spec.{Spec}
use Rattle.sg_matching.specs.Transformation.{Given, transformation}
use Rattle.sg_matching.specs.Transformation as given
pub use Rattle.sg_search.specs.Found.{phylum_in}
use Rattle.sg_search.specs.ReplacedAll.{Replaced, replaced_all}
use Rattle.sg_search.specs.ReplacedAll as replaced
use Rattle.sg_script.specs.declared.message.Message.{Message}
use Rattle.sg_script.specs.declared.message.Message.TheVariants as message
use Rattle.sg_select.specs.Paths.{elements, is_list_node, spine_from}
use Rattle.sg_unparse.specs.Printing.{scheme_of}
use Rattle.sg_edits.specs.Choice.{Choice, Refused, Put, Picked, one}
use Rattle.sg_edits.specs.declared.clip.Clip.{Clip}

-- whether a node is shown in a scheme that is editable as text; a leaf counts so
abbrev pub is_editable : Spec → Term → Bool
is_editable spec (Leaf p v) = true
is_editable spec (Node op n elided ts) = unwrap_or (option_map (λ (s : Scheme). s.editable) (scheme_of spec op n)) false

-- whether an operator is one of a list and has so many arguments; a list without elements
abbrev pub is_list_operator : Spec → ℕ → ℕ → Bool
is_list_operator spec count op =
    unwrap_or (option_map (λ p. has_shape spec.phyla is_list_shape p && nat_eq (length (args_of spec.ops op)) count)
    (phylum_of spec.ops op)) false

abbrev pub is_of_list : Spec → ℕ → Term → Bool
is_of_list spec count (Leaf p v) = false
is_of_list spec count (Node op n elided ts) = is_list_operator spec count op

abbrev pub is_empty_list : Spec → Term → Bool
is_empty_list spec t = is_of_list spec 0 t

-- whether a list may not be empty
abbrev pub is_listed : Shape → Bool
is_listed Listed = true
is_listed shape = false

abbrev pub is_never_empty : Spec → Term → Bool
is_never_empty spec t = has_shape spec.phyla is_listed (phylum_in spec t)

-- what follows the element of a list's node, and what follows its first elements, at that place
abbrev pub rest_of : Term → Term
rest_of (Node op n elided (AndTerm x (AndTerm y ts))) = y
rest_of t = t

abbrev pub rest_behind : ℕ → Term → Term
rest_behind zero x = x
rest_behind (suc n) x = rest_of (rest_behind n x)

abbrev pub behind_at : ℕ → Place → Place
behind_at zero p = p
behind_at (suc n) p = 1 ∷ behind_at n p

-- the element of a list's node, and the phylum of all elements
abbrev pub element_in : Term → Term
element_in (Node op n elided (AndTerm x ts)) = x
element_in t = t

abbrev pub elements_in : Spec → Term → ℕ
elements_in spec (Leaf p v) = 0
elements_in spec (Node op n elided ts) = unwrap_or (slice_get (args_of spec.ops op) 0) 0

-- a list's node of the same operator, over an element and another list; over the placeholder of an element
abbrev pub paired : Term → Term → Term → Term
paired (Leaf p v) a rest = rest
paired (Node op n elided ts) a rest = Node op 0 false (AndTerm a (AndTerm rest NoTerm))

abbrev pub longer : Spec → Term → Term → Term
longer spec x rest = paired x (placeholder spec (elements_in spec x)) rest

-- a list without elements, by its phylum
abbrev pub empty_of : Spec → ℕ → Term
empty_of spec p =
    Node (unwrap_or (option_and_then (λ (x : Phylum). slice_get x.ops 0) (slice_get spec.phyla p)) 0) 0 false NoTerm

-- the first elements of a list, as a list of them alone
abbrev pub front : Spec → ℕ → Term → Term
front spec zero x = empty_of spec (phylum_in spec x)
front spec (suc n) x = paired x (element_in x) (front spec n (rest_of x))

-- a list's elements before another list
abbrev pub joined : Spec → Term → Term → Term
joined spec (Leaf p v) rest = rest
joined spec (Node op n elided NoTerm) rest = rest
joined spec (Node op n elided (AndTerm x NoTerm)) rest = rest
joined spec (Node op n elided (AndTerm x (AndTerm y ts))) rest =
    if is_pair spec op then Node op 0 false (AndTerm x (AndTerm (joined spec y rest) NoTerm)) else rest

-- what is kept by `copy` of one term, and of the first elements of a list
abbrev pub term_kept : Spec → Term → Clip
term_kept spec x = record { phylum = phylum_in spec x; term = x; count = 1 }

abbrev pub run_kept : Spec → ℕ → Term → Clip
run_kept spec n x = record { phylum = phylum_in spec x; term = front spec n x; count = n }

-- whether elements of a list were copied; whether what was copied may stand in the list of a node; that before another
abbrev pub is_run : Clip → Bool
is_run clip = not (nat_eq clip.count 1)

abbrev pub suits : Spec → Clip → Term → Bool
suits spec clip x = clip.phylum == (if is_run clip then phylum_in spec x else elements_in spec x)

abbrev pub before : Spec → Clip → Term → Term → Term
before spec clip x rest = if is_run clip then joined spec clip.term rest else paired x clip.term rest

-- what is selected of what was put in a place: the term, or the elements
abbrev pub picked_in : Clip → Place → Picked
picked_in clip u = record { place = if is_run clip then 0 ∷ u else u; count = clip.count }

-- the term at a place, which is there
abbrev pub term_at : Term → Place → Term
term_at t u = unwrap_or (sub t u) t

-- a choice by it
abbrev pub at_term : Term → Place → (Term → Choice) → Choice
at_term t u make = option_map_or make (sub t u) (Refused message.NoPlace)

-- a list's placeholder in the place of one without elements; its element is selected
abbrev pub filled : Spec → Place → Term → Choice
filled spec u x = Put u (placeholder spec (phylum_in spec x)) (one (0 ∷ u))

-- the completing term in the place of a term; it or its first child is selected
abbrev pub completed : Spec → (first : Bool) → Place → Term → Choice
completed spec first u x = Put u (completing spec (phylum_in spec x)) (one (if first then 0 ∷ u else u))

-- the new term of `replace-all`, or why there is none
abbrev pub by_replaced : Place → Replaced → Choice
by_replaced u replaced.NoneNamed = Refused message.Unknown
by_replaced u replaced.NoneApplies = Refused message.NoMatch
by_replaced u (replaced.Fails why) = Refused (message.Result why)
by_replaced u (replaced.Makes s) = Put u s (one u)

module _ (spec : Spec) (t : Term) where
  -- one node, or an element with so many of its list from there on
  abbrev pub IsRunAt : Place → ℕ → Type 0
  IsRunAt u n = (n ≡ 1)
      ⊎ ((1 < n) × (n ≤ option_map_or (λ p. option_map_or (elements spec) (sub t p) 0) (spine_from spec t u) 0))

  -- by the list's node of an element, and the term there
  abbrev pub at_spine : Place → Message → (Place → Term → Choice) → Choice
  at_spine u m make = option_map_or (λ p. at_term t p (make p)) (spine_from spec t u) (Refused m)

  -- `copy`
  abbrev pub clip_of : Place → ℕ → Clip
  clip_of u n =
      if nat_eq n 1 then term_kept spec (term_at t u)
      else option_map_or (λ p. run_kept spec n (term_at t p)) (spine_from spec t u) (term_kept spec (term_at t u))

  -- `do`: what the transformations of the name give
  abbrev pub by_outcome : Place → ℕ → Value → Choice
  by_outcome u p (Fault why) = Refused (message.Result why)
  by_outcome u p v = Put u (plain spec v p) (one u)

  abbrev pub by_given : Place → ℕ → Given → Choice
  by_given u p given.Unknown = Refused message.Unknown
  by_given u p given.NoMatch = Refused message.NoMatch
  by_given u p (given.Gives v) = by_outcome u p v

  abbrev pub done : Place → Bytes → Choice
  done u name = at_term t u (λ x.
      by_given u (phylum_in spec x) (transformation spec (phylum_in spec x) name (value_of x)))

  -- `text` and `enter`: what the entry derives
  abbrev pub typed : Place → Value → Choice
  typed u v = at_term t u (λ x. Put u (plain spec v (phylum_in spec x)) (one u))

  -- the list's node before one that is its second child
  abbrev pub node_before : Place → Option Place
  node_before [] = None
  node_before (zero ∷ u) = None
  node_before (suc zero ∷ u) = if unwrap_or (option_map (is_list_node spec) (sub t u)) false then Some u else None
  node_before (suc (suc k) ∷ u) = None

  -- what is selected where elements went: the element that stands there now, else the one before, else the list
  abbrev pub left_at : Place → Term → Place
  left_at p rest = if is_list_node spec rest then 0 ∷ p else option_map_or (λ q. 0 ∷ q) (node_before p) p

  -- whether all elements go
  abbrev pub is_only : Place → Term → Bool
  is_only p rest = not (is_list_node spec rest) && not (is_some (node_before p))

  -- where a list that may not be empty would be: `delete` completes it, `remove` is refused
  abbrev pub emptied : (deletes : Bool) → Place → Term → Choice
  emptied true p x = completed spec true p x
  emptied false p x = Refused message.LastElement

  -- a list without its first elements
  abbrev pub without : (deletes : Bool) → ℕ → Place → Term → Choice
  without deletes n p x =
      if is_only p (rest_behind n x) && is_never_empty spec x then emptied deletes p x
      else Put p (rest_behind n x) (one (left_at p (rest_behind n x)))

  abbrev pub taken : (deletes : Bool) → Place → ℕ → Choice
  taken deletes u n = at_spine u message.NotInList (without deletes n)

  abbrev pub removed : Place → ℕ → Choice
  removed u n = taken false u n

  -- one node gives way to a completing term
  abbrev pub deleted : Place → ℕ → Choice
  deleted u n = if nat_eq n 1 then at_term t u (completed spec false u) else taken true u n

  -- a new element behind the first ones of a list, and in a list without elements
  abbrev pub grown : ℕ → Place → Term → Choice
  grown n p x = Put (behind_at n p) (longer spec x (rest_behind n x)) (one (0 ∷ behind_at n p))

  abbrev pub inserted : Place → ℕ → (after : Bool) → Choice
  inserted u n after = at_term t u (λ x. if nat_eq n 1 && is_empty_list spec x then filled spec u x
      else at_spine u message.NotInList (grown (if after then n else 0)))

  -- `paste` over the first elements of a list; in the place of one node of the clip's phylum, else over elements
  abbrev pub pasted_over : ℕ → Clip → Place → Term → Choice
  pasted_over n clip p x =
      if suits spec clip x
      then Put p (before spec clip x (rest_behind n x)) (record { place = 0 ∷ p; count = clip.count })
      else Refused message.Phylum

  abbrev pub pasted : Place → ℕ → Option Clip → Choice
  pasted u n None = Refused message.ClipEmpty
  pasted u n (Some clip) = at_term t u (λ x.
      if nat_eq n 1 && clip.phylum == phylum_in spec x then Put u clip.term (picked_in clip u)
      else at_spine u message.Phylum (pasted_over n clip))

  -- `replace-all`: what the transformations of a name give, in all outermost places of a term
  abbrev pub everywhere : Place → Bytes → Choice
  everywhere u name = at_term t u (λ x. by_replaced u (replaced_all spec name x))
