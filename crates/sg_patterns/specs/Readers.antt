-- What a reader stands for.
use Rattle.std.specs.Prelude.{◌≡◌, ℕ, Bool, true, false, is_some, List, [], ◌∷◌, ◌++◌, map, Option, Some, None}
use Rattle.sg_kinds.specs.Lexemes.{Lexeme}
use Rattle.sg_kinds.specs.LexemeCode.{acts}
use Rattle.sg_kinds.specs.LexemeView.{instruction_of}
use Rattle.sg_kinds.specs.declared.lexeme.LexemeStep.{LexemeStep}
use Rattle.sg_patterns.specs.declared.reader.Frame.{Frame as Flags}
use Rattle.sg_patterns.specs.declared.reader.Mode.{Mode}
use Rattle.sg_patterns.specs.declared.reader.Mode.TheVariants as mode
use Rattle.sg_patterns.specs.declared.reader.Reader.{Reader}
use Rattle.sg_patterns.specs.Machine.{Frame, State, Ready, Held, Escape, Bracket}

-- which parts of a frame there are
abbrev pub flags_of : Frame → Flags
flags_of f = record { alternatives = is_some f.alternatives; sequence = is_some f.sequence }

-- the innermost last
abbrev pub outer_flags : List Frame → List Flags
outer_flags [] = []
outer_flags (g ∷ gs) = outer_flags gs ++ flags_of g ∷ []

-- the patterns of a frame, those made last first
abbrev pub put_part : Option Lexeme → List Lexeme → List Lexeme
put_part None ps = ps
put_part (Some p) ps = p ∷ ps

abbrev pub frame_parts : Frame → List Lexeme → List Lexeme
frame_parts f ps = put_part f.sequence (put_part f.alternatives ps)

abbrev pub outer_parts : List Frame → List Lexeme
outer_parts [] = []
outer_parts (g ∷ gs) = frame_parts g (outer_parts gs)

-- the patterns that the steps have made
abbrev pub made_by : List LexemeStep → List Lexeme
made_by steps = acts (map instruction_of steps) []

-- the reader stands so, with these patterns and then those of the frames
pub record ReadsIn (r : Reader) (m : Mode) (outer : List Frame) (f : Frame) (ps : List Lexeme) : Type 0 where
  pub at_mode : r.mode ≡ m
  pub outside : r.outer.items ≡ outer_flags outer
  pub inside : r.frame ≡ flags_of f
  pub made : made_by r.steps.items ≡ ps ++ frame_parts f (outer_parts outer)

-- the reader stands in brackets so, whatever its mode
pub record InBrackets (r : Reader) (m : Mode) (outer : List Frame) (f : Frame) (negated : Bool)
    (rs : List (ℕ × ℕ)) : Type 0 where
  pub reads : ReadsIn r m outer f []
  pub way : r.negated ≡ negated
  pub so_far : r.ranges.items ≡ rs

-- the reader stands where the reading does
abbrev pub Reads : Reader → State → Type 0
Reads r (Ready outer f) = ReadsIn r mode.Ready outer f []
Reads r (Held outer f p) = ReadsIn r mode.Held outer f (p ∷ [])
Reads r (Escape outer f) = ReadsIn r mode.Escape outer f []
Reads r (Bracket outer f negated rs m) = InBrackets r (mode.Bracket m) outer f negated rs

-- what a reader answers to a byte
abbrev pub Fed : Option State → Bool → Reader → Type 0
Fed None more r = more ≡ false
Fed (Some τ) more r = (more ≡ true) × Reads r τ
