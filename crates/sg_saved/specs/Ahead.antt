-- The subterm that is read next, and what is read of it.
use Rattle.std.specs.Prelude.{◌≡◌, ℕ, false, List, ◌++◌, drop, unwrap_or, ⊤, Result, Ok, Err}
use Rattle.sg_kinds.specs.Plain.{plain}
use Rattle.sg_kinds.specs.Terms as term
use Rattle.sg_kinds.specs.Terms.{Term, Terms}
use Rattle.sg_kinds.specs.Values.{Bytes}
use Rattle.sg_kinds.specs.declared.spec.Spec.{Spec}
use Rattle.sg_saved_form.specs.Files.{Raw, IsRaw, spelled}
use Rattle.sg_saved_form.specs.Notes.{notes_of}
use Rattle.sg_saved_form.specs.declared.notes.Note.{Note}
use Rattle.sg_saved.specs.Misfits.{value_of, EachFits, IsFirstMisfit, parts_of}
use Rattle.sg_saved.specs.declared.heads.Head.{Head}
use Rattle.sg_saved.specs.declared.heads.Head.TheVariants.{Node, Leaf}
use Rattle.sg_saved.specs.declared.reading.OpenFault.{OpenFault}
use Rattle.sg_saved.specs.declared.reading.OpenFault.TheVariants as fault

-- a subterm stands in a text at a place, and the notes from one of them on begin with its own
pub record IsAhead (bytes : Bytes) (notes : List Note) (i at : ℕ) (r : Raw) (behind : List Note) : Type 0 where
  pub is : IsRaw r
  pub more : Bytes
  pub text : drop at bytes ≡ spelled r ++ more
  pub noted : drop i notes ≡ notes_of at r ++ behind

-- the plain term of a head over those of its children
abbrev pub term_over : Head → ℕ → Terms → Term
term_over (Node op kids) p ts = term.Node (unwrap_or op 0) 0 false ts
term_over (Leaf v) p ts = term.Leaf p v

-- what is read of a subterm at whose place a phylum is wanted: its plain term, where each of its subterms fits, or the
-- place of the first that does not
abbrev pub IsReadAs : Spec → ℕ → ℕ → Raw → Result Term OpenFault → Type 0
IsReadAs spec p at r (Ok t) = EachFits spec (parts_of spec p at r) × (t ≡ plain spec (value_of spec r) p)
IsReadAs spec p at r (Err (fault.Phylum k)) = IsFirstMisfit spec (parts_of spec p at r) k
IsReadAs spec p at r (Err fault.NoMemory) = ⊤
IsReadAs spec p at r (Err e) = ⊥
