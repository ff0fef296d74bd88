-- The patterns of the first declarations, and which of them matches the empty text.
use Rattle.std.specs.Prelude.{◌≡◌, ◌↔◌, ℕ, ◌<◌, Bool, true, false, List, [], ◌∷◌, ◌++◌, take, Option, Some, None, slice_get, IsTrue, All}
use Rattle.sg_kinds.specs.Lexemes.{Lexeme}
use Rattle.sg_kinds.specs.Matches.{Matches}
use Rattle.sg_patterns.specs.Spelling.{IsPattern, deepest}
use Rattle.sg_ast.specs.declared.name.Quoted.{Quoted}
use Rattle.sg_ast.specs.Declarations.{Decl}
use Rattle.sg_load.specs.Patterns.{HasNoForm, MatchesEmpty, AreLexemes}

-- the pattern of a text came last
pub record IsPatternAdded (old new : List Lexeme) (s : Quoted) (empty : Bool) : Type 0 where
  pub pattern : Lexeme
  pub last : new ≡ old ++ pattern ∷ []
  pub form : IsPattern deepest pattern s.text
  pub only : (q : Lexeme) → IsPattern deepest q s.text → q ≡ pattern
  pub empty_is : IsTrue empty ↔ Matches pattern []

-- the place of the first pattern that matches the empty text, after one more
abbrev pub first_empty : Option ℕ → Bool → ℕ → Option ℕ
first_empty (Some k) empty place = Some k
first_empty None true place = Some place
first_empty None false place = None

-- P holds of none of the first n
abbrev pub NoneBefore : (Decl → Type 0) → List Decl → ℕ → Type 0
NoneBefore P ds n = (k : ℕ) (d : Decl) → k < n → slice_get ds k ≡ Some d → P d → ⊥

-- the first declaration with a pattern that matches the empty text
pub record IsFirstEmpty (ds : List Decl) (place : ℕ) : Type 0 where
  pub decl : Decl
  pub there : slice_get ds place ≡ Some decl
  pub holds : MatchesEmpty decl
  pub before : NoneBefore MatchesEmpty ds place

pub record ArePatternsOf (ds : List Decl) (n : ℕ) (ps : List Lexeme) (empty : Option ℕ) : Type 0 where
  pub lexemes : AreLexemes (take n ds) ps
  pub only : (qs : List Lexeme) → AreLexemes (take n ds) qs → qs ≡ ps
  pub formed : NoneBefore HasNoForm ds n
  pub some : empty ≡ None → All (λ p. Matches p [] → ⊥) ps
  pub none : empty ≡ None → NoneBefore MatchesEmpty ds n
  pub first : (place : ℕ) → empty ≡ Some place → IsFirstEmpty ds place
