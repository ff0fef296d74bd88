-- A term in which what the transformations of a name give stands in all outermost places at which they apply. All results
-- are those of the term as it was.
use Rattle.std.specs.Prelude.{if◌then◌else◌, List, [], ◌∷◌, Option, Some, None, option_and_then}
use Rattle.std.specs.Option.{option_map_or, option_or}
use Rattle.sg_kinds.specs.Places.{Place, put, sub}
use Rattle.sg_kinds.specs.Plain.{plain}
use Rattle.sg_kinds.specs.Terms.{Term}
use Rattle.sg_kinds.specs.ValueOf.{value_of}
use Rattle.sg_kinds.specs.Values.{Bytes, Value, Fault}
use Rattle.sg_kinds.specs.declared.marks.FaultKind.{FaultKind}
use Rattle.sg_kinds.specs.declared.spec.Spec.{Spec}
use Rattle.sg_matching.specs.Transformation.{Given, Gives, transformation}
use Rattle.sg_search.specs.Found.{is_known, outer, phylum_in}

-- no phylum has one of the name, none applies, a result is a fault, or the new term
pub data Replaced : Type 0 where
  NoneNamed : Replaced
  NoneApplies : Replaced
  Fails : FaultKind → Replaced
  Makes : Term → Replaced

-- why an outcome is no result
abbrev pub fault_in : Value → Option FaultKind
fault_in (Fault why) = Some why
fault_in v = None

module _ (spec : Spec) (name : Bytes) where
  -- what the transformations give at a term, why that is no result, and its plain term
  abbrev pub given_to : Term → Given
  given_to x = transformation spec (phylum_in spec x) name (value_of x)

  abbrev pub fault_of : Given → Option FaultKind
  fault_of (Gives v) = fault_in v
  fault_of given = None

  abbrev pub plain_of : Term → Given → Term
  plain_of x (Gives v) = plain spec v (phylum_in spec x)
  plain_of x given = x

  abbrev pub fault_to : Term → Option FaultKind
  fault_to x = fault_of (given_to x)

  abbrev pub made_to : Term → Term
  made_to x = plain_of x (given_to x)

  module _ (x : Term) where
    -- the same at a place
    abbrev pub fault_at : Place → Option FaultKind
    fault_at u = option_and_then fault_to (sub x u)

    abbrev pub made_at : Place → Term
    made_at u = option_map_or made_to (sub x u) x

    -- a term with what is given put in the places, one after another
    abbrev pub put_all : Term → List Place → Term
    put_all t [] = t
    put_all t (u ∷ us) = put_all (put t u (made_at u)) us

    -- the fault of the first place that has one
    abbrev pub first_fault : List Place → Option FaultKind
    first_fault [] = None
    first_fault (u ∷ us) = option_or (fault_at u) (first_fault us)

    abbrev pub by_places : List Place → Replaced
    by_places [] = NoneApplies
    by_places (u ∷ us) = option_map_or Fails (first_fault (u ∷ us)) (Makes (put_all x (u ∷ us)))

    abbrev pub replaced_all : Replaced
    replaced_all = if is_known spec name then by_places (outer spec name x) else NoneNamed
