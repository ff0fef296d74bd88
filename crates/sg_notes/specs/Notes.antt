-- The notes on a record: a line for each part that nothing uses, and for each entry that is missed.
use Rattle.std.specs.Prelude.{ℕ, [], ◌∷◌, ◌++◌, List, flat_map, Option, Some, None, codes}
use Rattle.sg_kinds.specs.Values.{Bytes}
use Rattle.sg_kinds.specs.declared.fault.Position.{Position}
use Rattle.sg_kinds.specs.declared.spec.Spec.{Spec}
use Rattle.sg_text.specs.declared.tokens.Token.{Token}
use Rattle.sg_ast.specs.Declarations.{Decl}
use Rattle.sg_place.specs.Places.{begin_of, within}
use Rattle.sg_place.specs.Shown.{where_text}
use Rattle.sg_useless.specs.declared.part.Part.{Part}
use Rattle.sg_useless.specs.Useless.{useless_in}
use Rattle.sg_useless.specs.declared.part.Part.TheVariants as part
use Rattle.sg_notes.specs.Subjects.{subject}
use Rattle.sg_notes.specs.Declared.{declared_at}

-- what is told of it
abbrev pub remark : Part → Bytes
remark (part.Function f) = codes " is called by nothing but itself"
remark (part.Attribute p slot) = codes " is read by no equation and shown by no scheme"
remark (part.Local op k) = codes " is read by no equation and shown by no scheme"
remark (part.Phylum p) = codes " is used by nothing but itself"
remark (part.Nonterminal n) = codes " is reached from no entry"
remark (part.Schemes op) = codes " are shown in no document"
remark (part.Entry p) = codes " may be selected and typed in, but has no entry"
remark (part.Literal line k) = codes " groups no production"

-- where the token of a position begins, if there is one
abbrev pub begin_in : Bytes → List Token → Option Position → Option ℕ
begin_in bytes ts None = None
begin_in bytes ts (Some p) = within bytes (begin_of ts p)

-- what is told of a part behind its place, by its words
abbrev pub remark_text : Bytes → Part → Bytes
remark_text words x = codes ": note " ++ (words ++ (remark x ++ 10 ∷ []))

-- the line of a note, where places of words are found so
abbrev pub note_text : Bytes → Bytes → List Token → (Bytes → Option Position) → Spec → Part → Bytes
note_text file bytes ts place spec x = let words = subject spec x in
    where_text file bytes (begin_in bytes ts (place words)) ++ remark_text words x

-- the notes on a record of these declarations: a line for each part, all of them, in their order
unfoldable pub notes_text : Bytes → Bytes → List Token → List Decl → Spec → Bytes
notes_text file bytes ts ds spec = flat_map (note_text file bytes ts (declared_at ds) spec) (useless_in spec)
