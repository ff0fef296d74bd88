-- Which subterms of a saved term do not fit the phyla that are wanted at their places.
use Rattle.std.specs.Prelude.{◌≡◌, ℕ, ◌+◌, List, [], ◌∷◌, ◌++◌, suc, if◌then◌else◌, length, bytes_eq, ⊤, Option, Some, None, slice_get, option_map, unwrap_or, MatchOption}
use Rattle.sg_kinds.specs.Values.{Bytes, Value, Values, Truth, Number, Chars, Tree, NoValue, AndValue}
use Rattle.sg_kinds.specs.Specification.{args_of, phylum_of}
use Rattle.sg_kinds.specs.declared.spec.Spec.{Spec}
use Rattle.sg_kinds.specs.declared.spec.Operator.{Operator}
use Rattle.sg_kinds.specs.declared.spec.Phylum.{Phylum}
use Rattle.sg_kinds.specs.Fits.{MayHold}
use Rattle.sg_saved_form.specs.Files as file
use Rattle.sg_saved_form.specs.Files.{Raw, Raws, Branch, Whole, Quote, Flag, NoRaw, AndRaw}
use Rattle.sg_saved_form.specs.Notes.{count_of, first_place}

-- the operator of a name, and its arguments
abbrev pub op_named : List Operator → Bytes → Option ℕ
op_named [] name = None
op_named (o ∷ os) name = if bytes_eq name o.name then Some 0 else option_map suc (op_named os name)

abbrev pub args_named : List Operator → Bytes → List ℕ
args_named ops name = unwrap_or (option_map (args_of ops) (op_named ops name)) []

-- the value that a saved term stands for
abbrev mutual
  pub value_of : Spec → Raw → Value
  value_of spec (Branch name rs) = Tree (unwrap_or (op_named spec.ops name) 0) (values_of spec rs)
  value_of spec (Whole z) = Number z
  value_of spec (Quote s) = Chars s
  value_of spec (Flag b) = Truth b

  pub values_of : Spec → Raws → Values
  values_of spec NoRaw = NoValue
  values_of spec (AndRaw r rs) = AndValue (value_of spec r) (values_of spec rs)

-- a subterm: the phylum that is wanted at its place, its first byte, and itself
pub record Part : Type 0 where
  pub phylum : ℕ
  pub at : ℕ
  pub raw : Raw

-- a leaf fits a phylum that may hold its value; a node fits the phylum of the operator of its name, which has as many
-- arguments, whatever its children
abbrev pub LeafFits : Spec → ℕ → Value → Type 0
LeafFits spec p v = MatchOption (slice_get spec.phyla p) ⊥ (λ (x : Phylum). MayHold spec x.shape v)

abbrev pub HeadFits : Spec → ℕ → Raw → Type 0
HeadFits spec p (Branch name rs) = MatchOption (op_named spec.ops name) ⊥ (λ op. (phylum_of spec.ops op ≡ Some p)
    × (length (args_of spec.ops op) ≡ count_of rs))
HeadFits spec p (Whole z) = LeafFits spec p (Number z)
HeadFits spec p (Quote s) = LeafFits spec p (Chars s)
HeadFits spec p (Flag b) = LeafFits spec p (Truth b)

abbrev pub PartFits : Spec → Part → Type 0
PartFits spec x = HeadFits spec x.phylum x.raw

-- the subterms of a term that begins at a place, in the order in which they begin; behind a node that does not fit
-- those of its children that have a place among the arguments
abbrev mutual
  pub parts_of : Spec → ℕ → ℕ → Raw → List Part
  parts_of spec p at (Branch name rs) = record { phylum = p; at = at; raw = Branch name rs }
      ∷ parts_of_all spec (args_named spec.ops name) (at + length name + 1) rs
  parts_of spec p at r = record { phylum = p; at = at; raw = r } ∷ []

  pub parts_of_all : Spec → List ℕ → ℕ → Raws → List Part
  parts_of_all spec (p ∷ ps) at (AndRaw r rs) = parts_of spec p at r ++ parts_of_all spec ps (at + length (file.spelled r) + 1) rs
  parts_of_all spec ps at rs = []

-- each subterm of a list fits
abbrev pub EachFits : Spec → List Part → Type 0
EachFits spec [] = ⊤
EachFits spec (x ∷ xs) = PartFits spec x × EachFits spec xs

-- the first subterm of a list that does not fit begins at a place
pub record IsFirstMisfit (spec : Spec) (parts : List Part) (at : ℕ) : Type 0 where
  pub before : List Part
  pub part : Part
  pub behind : List Part
  pub are : parts ≡ before ++ part ∷ behind
  pub fit : EachFits spec before
  pub misfit : PartFits spec part → ⊥
  pub place : part.at ≡ at

-- the first subterm of a file's term that does not fit begins at a place
abbrev pub IsMisfit : Spec → Raw → ℕ → Type 0
IsMisfit spec r at = IsFirstMisfit spec (parts_of spec spec.root first_place r) at
