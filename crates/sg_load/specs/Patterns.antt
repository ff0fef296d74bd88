-- The patterns of lexeme phyla, and those that are at fault.
use Rattle.std.specs.Prelude.{◌≡◌, ◌⊎◌, List, [], ◌∷◌, flat_map, ⊤}
use Rattle.sg_kinds.specs.Lexemes.{Lexeme}
use Rattle.sg_kinds.specs.Matches.{Matches}
use Rattle.sg_kinds.specs.declared.fault.SpecFault.{SpecFault}
use Rattle.sg_kinds.specs.declared.fault.SpecFault.TheVariants.{PatternForm, EmptyLexeme}
use Rattle.sg_ast.specs.declared.name.Quoted.{Quoted}
use Rattle.sg_ast.specs.Parts.{lexeme_text}
use Rattle.sg_ast.specs.Declarations.{Decl, LexemeOf}
use Rattle.sg_patterns.specs.Spelling.{IsPattern, deepest}
use Rattle.sg_load.specs.Rows.{IsFirst, HasNone}

-- a lexeme phylum whose text is no pattern, and the fault of it
abbrev pub HasNoForm : Decl → Type 0
HasNoForm (LexemeOf n s) = (p : Lexeme) → IsPattern deepest p s.text → ⊥
HasNoForm d = ⊥

abbrev pub IsFormFault : SpecFault → Decl → Type 0
IsFormFault f (LexemeOf n s) = f ≡ PatternForm s.place n.text
IsFormFault f d = ⊥

-- a lexeme phylum whose pattern matches the empty text, and the fault of it
abbrev pub MatchesEmpty : Decl → Type 0
MatchesEmpty (LexemeOf n s) = (p : Lexeme) × IsPattern deepest p s.text × Matches p []
MatchesEmpty d = ⊥

abbrev pub IsEmptyFault : SpecFault → Decl → Type 0
IsEmptyFault f (LexemeOf n s) = f ≡ EmptyLexeme s.place n.text
IsEmptyFault f d = ⊥

-- the fault of the first declaration that has one
abbrev pub IsPatternForm : List Decl → SpecFault → Type 0
IsPatternForm ds f = (d : Decl) × IsFirst HasNoForm ds d × IsFormFault f d

abbrev pub IsEmptyLexeme : List Decl → SpecFault → Type 0
IsEmptyLexeme ds f = (d : Decl) × IsFirst MatchesEmpty ds d × IsEmptyFault f d

-- the first fault of the patterns: their forms come before their matches
abbrev pub IsLexemeFault : List Decl → SpecFault → Type 0
IsLexemeFault ds f = IsPatternForm ds f ⊎ (HasNone HasNoForm ds × IsEmptyLexeme ds f)

-- what declares no lexeme phylum
abbrev pub IsOther : Decl → Type 0
IsOther (LexemeOf n s) = ⊥
IsOther d = ⊤

-- each text with its pattern
abbrev pub ArePatterns : List Quoted → List Lexeme → Type 0
ArePatterns [] [] = ⊤
ArePatterns (s ∷ ss) (p ∷ ps) = IsPattern deepest p s.text × ArePatterns ss ps
ArePatterns ss ps = ⊥

abbrev pub AreLexemes : List Decl → List Lexeme → Type 0
AreLexemes ds ps = ArePatterns (flat_map lexeme_text ds) ps
