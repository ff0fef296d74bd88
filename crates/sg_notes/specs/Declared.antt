-- Where declarations declare what notes speak of.
use Rattle.std.specs.Prelude.{List, [], ◌∷◌, map, flat_map, bytes_eq, Option, Some, None, if◌then◌else◌}
use Rattle.sg_kinds.specs.Values.{Bytes}
use Rattle.sg_kinds.specs.declared.fault.Position.{Position}
use Rattle.sg_ast.specs.declared.name.Quoted.{Quoted}
use Rattle.sg_ast.specs.declared.name.Typed.{Typed}
use Rattle.sg_ast.specs.declared.decl.AttrDecl.{AttrDecl}
use Rattle.sg_ast.specs.Declarations.{Decl, Root, Listed, Optional, Operators, LexemeOf, Attributes, Equations, Schemes, Function, Transform, Productions, Entry, Precedence}
use Rattle.sg_notes.specs.Subjects.{function_word, attribute_word, local_word, phylum_word, nonterminal_word, schemes_word, literal_word}

-- a thing in the words of notes, and where it is declared
pub record Declared : Type 0 where
  pub words : Bytes
  pub place : Position

abbrev pub at : Bytes → Position → Declared
at words place = record { words = words; place = place }

abbrev pub declared_attr : Bytes → AttrDecl → Declared
declared_attr owner a = at (attribute_word owner a.name.text) a.name.place

abbrev pub declared_local : Bytes → Typed → Declared
declared_local owner l = at (local_word owner l.name.text) l.name.place

abbrev pub declared_literal : Quoted → Declared
declared_literal s = at (literal_word s.text) s.place

-- what a declaration declares
abbrev pub declared : Decl → List Declared
declared (Root n) = []
declared (Listed n) = []
declared (Optional listed n) = []
declared (Operators n alts) = at (phylum_word n.text) n.place ∷ []
declared (LexemeOf n s) = at (phylum_word n.text) n.place ∷ []
declared (Attributes n attrs) = map (declared_attr n.text) attrs
declared (Equations n op locals es) = map (declared_local op.text) locals
declared (Schemes n op view ss) = at (schemes_word op.text) op.place ∷ []
declared (Function t n ps e) = at (function_word n.text) n.place ∷ []
declared (Transform n s q e) = []
declared (Productions n rs) = at (nonterminal_word n.text) n.place ∷ []
declared (Entry n m a) = []
declared (Precedence g ls p) = map declared_literal ls

-- the place of the first of these with such words
abbrev pub place_in : List Declared → Bytes → Option Position
place_in [] words = None
place_in (d ∷ ds) words = if bytes_eq words d.words then Some d.place else place_in ds words

-- where such words are first declared
abbrev pub declared_at : List Decl → Bytes → Option Position
declared_at ds words = place_in (flat_map declared ds) words
