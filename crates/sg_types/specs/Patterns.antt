-- Patterns where a type is wanted: their mismatches, their variables, and the patterns of the record.
use Rattle.std.specs.Prelude.{ℕ, ℤ, pos, neg_ℤ, Bool, false, cond, List, [], ◌∷◌, ◌++◌, nat_eq, Option, Some, None, option_map, unwrap_or}
use Rattle.sg_kinds.specs.Values as value
use Rattle.sg_kinds.specs.Specification.{truths, numbers, args_of, phylum_of}
use Rattle.sg_kinds.specs.Typing.{is_textual}
use Rattle.sg_kinds.specs.Expressions as kept
use Rattle.sg_kinds.specs.declared.fault.Position.{Position}
use Rattle.sg_ast.specs.FirstFault.{or_else}
use Rattle.sg_ast.specs.Patterns.{Pattern, Patterns, Amount, Chars, Truth, Anything, Variable, MadeAs, Applied, NoPattern, AndPattern}
use Rattle.sg_names.specs.declared.table.Table.{Table}
use Rattle.sg_names.specs.Lookups.{usable_named}
use Rattle.sg_names.specs.Names.{op_named}
use Rattle.sg_types.specs.declared.scope.Variable as scope
use Rattle.sg_names.specs.Drafted.{drafted}
use Rattle.sg_types.specs.Types.{unless, fits_where}

-- whether the type that is wanted is this one; whether texts are of it
abbrev pub is_wanted : ℕ → Option ℕ → Bool
is_wanted p None = false
is_wanted p (Some wanted) = nat_eq wanted p

abbrev pub takes_texts : Table → Option ℕ → Bool
takes_texts t None = false
takes_texts t (Some wanted) = is_textual (drafted t) wanted

-- the phylum of an operator, and those of its arguments
abbrev pub is_operator_of : Table → Option ℕ → Option ℕ → Bool
is_operator_of t None wanted = false
is_operator_of t (Some op) wanted = unwrap_or (option_map (λ p. is_wanted p wanted) (phylum_of t.ops op)) false

abbrev pub parts_of : Table → Option ℕ → List ℕ
parts_of t op = unwrap_or (option_map (args_of t.ops) op) []

-- the first pattern that does not fit, which a name of another number of parts does not
abbrev mutual
  pub mismatch_in : Table → Pattern → Option ℕ → Option Position
  mismatch_in t (Amount negative n place) wanted = unless (is_wanted numbers wanted) place
  mismatch_in t (Chars s) wanted = unless (takes_texts t wanted) s.place
  mismatch_in t (Truth b place) wanted = unless (is_wanted truths wanted) place
  mismatch_in t (Anything place) wanted = None
  mismatch_in t (Variable n) wanted = None
  mismatch_in t (MadeAs made n place) wanted = unless (fits_where t wanted (usable_named t n.text)) place
  mismatch_in t (Applied n xs) wanted = or_else (unless (is_operator_of t (op_named t.ops n.text) wanted) n.place)
      (mismatch_in_all t n.place xs (parts_of t (op_named t.ops n.text)))

  pub mismatch_in_all : Table → Position → Patterns → List ℕ → Option Position
  mismatch_in_all t place NoPattern [] = None
  mismatch_in_all t place (AndPattern x xs) (p ∷ ps) =
      or_else (mismatch_in t x (Some p)) (mismatch_in_all t place xs ps)
  mismatch_in_all t place xs ps = Some place

-- the variables from left to right, each with the type that is wanted at its place
abbrev mutual
  pub variables_of : Table → Pattern → Option ℕ → List scope.Variable
  variables_of t (Variable n) wanted = record { name = n.text; of = wanted } ∷ []
  variables_of t (Applied n xs) wanted = variables_of_all t xs (parts_of t (op_named t.ops n.text))
  variables_of t q wanted = []

  pub variables_of_all : Table → Patterns → List ℕ → List scope.Variable
  variables_of_all t (AndPattern x xs) (p ∷ ps) = variables_of t x (Some p) ++ variables_of_all t xs ps
  variables_of_all t xs ps = []

-- the number that is written
abbrev pub signed : Bool → ℕ → ℤ
signed negative n = cond negative (neg_ℤ (pos n)) (pos n)

-- the pattern of the record; a name that means nothing has the number 0
abbrev mutual
  pub recorded : Table → Pattern → kept.Pattern
  recorded t (Amount negative n place) = kept.Exactly (value.Number (signed negative n))
  recorded t (Chars s) = kept.Exactly (value.Chars s.text)
  recorded t (Truth b place) = kept.Exactly (value.Truth b)
  recorded t (Anything place) = kept.Anything
  recorded t (Variable n) = kept.Variable
  recorded t (MadeAs made n place) = kept.MadeAs made (unwrap_or (usable_named t n.text) 0)
  recorded t (Applied n xs) = kept.Applied (unwrap_or (op_named t.ops n.text) 0)
      (recorded_all t xs (parts_of t (op_named t.ops n.text)))

  pub recorded_all : Table → Patterns → List ℕ → kept.Patterns
  recorded_all t (AndPattern x xs) (p ∷ ps) = kept.AndPattern (recorded t x) (recorded_all t xs ps)
  recorded_all t xs ps = kept.NoPattern
