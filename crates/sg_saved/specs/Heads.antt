-- What a note tells of its subterm without the children.
use Rattle.std.specs.Prelude.{◌≡◌, ℕ, List, [], ◌∷◌, ◌++◌, drop, option_map, unwrap_or}
use Rattle.sg_kinds.specs.Values.{Bytes, Value, list_of}
use Rattle.sg_kinds.specs.Specification.{args_of}
use Rattle.sg_kinds.specs.declared.spec.Operator.{Operator}
use Rattle.sg_kinds.specs.declared.spec.Spec.{Spec}
use Rattle.sg_names.specs.Meaning.{meaning}
use Rattle.sg_names.specs.Names as names
use Rattle.sg_names.specs.declared.index.Index.{Index}
use Rattle.sg_names.specs.declared.table.Callable.{Callable}
use Rattle.sg_names.specs.declared.table.Callable.TheVariants.{Operator as OperatorOf}
use Rattle.sg_saved_form.specs.Files.{Raw, Branch, spelled, IsRaw}
use Rattle.sg_saved_form.specs.Notes.{count_of, notes_of}
use Rattle.sg_saved_form.specs.declared.notes.Note.{Note}
use Rattle.sg_saved.specs.Misfits.{op_named, value_of, values_of}
use Rattle.sg_saved.specs.declared.heads.Head.{Head}
use Rattle.sg_saved.specs.declared.heads.Head.TheVariants.{Node, Leaf}

-- the operators by their names
abbrev pub AreNames : List Operator → Index Callable → Type 0
AreNames ops index = (name : Bytes) → meaning index name ≡ option_map OperatorOf (names.op_named ops name)

-- the note is the first of this term, which begins at its place
pub record IsNoteOf (bytes : Bytes) (note : Note) (r : Raw) : Type 0 where
  pub is : IsRaw r
  pub more : Bytes
  pub text : drop note.from bytes ≡ spelled r ++ more
  pub rest : List Note
  pub notes : notes_of note.from r ≡ note ∷ rest

-- the operator of its name, if there is one, with the number of its children; or the value of a leaf
abbrev pub head_of : Spec → Raw → Head
head_of spec (Branch name rs) = Node (op_named spec.ops name) (count_of rs)
head_of spec r = Leaf (value_of spec r)

-- the phyla of its arguments
abbrev pub args_in : Spec → Head → List ℕ
args_in spec (Node op kids) = unwrap_or (option_map (args_of spec.ops) op) []
args_in spec (Leaf v) = []

-- the values of its children
abbrev pub kid_values : Spec → Raw → List Value
kid_values spec (Branch name rs) = list_of (values_of spec rs)
kid_values spec r = []
