-- The trees of a text, or its first declaration that no tree spells.
use Rattle.std.specs.Prelude.{◌≡◌, ℕ, zero, suc, List, [], ◌∷◌, Option, Some, None, Result, Ok, Err}
use Rattle.sg_ast.specs.Declarations.{Decl}
use Rattle.sg_ast.specs.Reading.{decl_of}
use Rattle.sg_ast.specs.Spelling.{Mark}
use Rattle.sg_ast.specs.Spells.{Spells}
use Rattle.sg_reader.specs.declared.fault.ReadFault.{ReadFault}
use Rattle.sg_reader.specs.declared.fault.ReadFault.TheVariants as fault

-- the line of the first token
abbrev pub line_of : List Mark → ℕ
line_of [] = 0
line_of ((l, place) ∷ ms) = place.line

-- each declaration before this one is spelled by a tree, this one by none, and its first token stands on this line
abbrev pub IsFirstUnread : List (List Mark) → (number line : ℕ) → Type 0
IsFirstUnread [] number line = ⊥
IsFirstUnread (ms ∷ mss) zero line = ((d : Decl) → Spells ms d → ⊥) × (line ≡ line_of ms)
IsFirstUnread (ms ∷ mss) (suc number) line = ((d : Decl) × Spells ms d) × IsFirstUnread mss number line

-- a declaration before others, or its number and line where it has no reading
abbrev pub before : Option Decl → ℕ → ℕ → Result (List Decl) (ℕ × ℕ) → Result (List Decl) (ℕ × ℕ)
before None number line others = Err (number, line)
before (Some d) number line (Ok ds) = Ok (d ∷ ds)
before (Some d) number line (Err e) = Err e

-- the reading of each declaration, or the number and line of the first without one; this many stand before them
abbrev pub read_from : ℕ → List (List Mark) → Result (List Decl) (ℕ × ℕ)
read_from number [] = Ok []
read_from number (ms ∷ mss) = before (decl_of ms) number (line_of ms) (read_from (suc number) mss)

-- a fault is what reading gives, unless memory ran out
abbrev pub Reports : {B : Type 0} → ReadFault → Result B (ℕ × ℕ) → Type 0
Reports (fault.Syntax number line) outcome = outcome ≡ Err (number, line)
Reports fault.NoMemory outcome = Unit {0}

-- the result, seen by view, is these trees or this fault, unless memory runs out
abbrev pub Answers : {A B : Type 0} → (A → B) → Result B (ℕ × ℕ) → Result A ReadFault → Type 0
Answers view outcome (Ok a) = outcome ≡ Ok (view a)
Answers view outcome (Err e) = Reports e outcome

-- the result, seen by view, is this one, unless memory runs out
abbrev pub IsOf : {A B : Type 0} → (A → B) → B → Result A ReadFault → Type 0
IsOf view b (Ok a) = view a ≡ b
IsOf view b (Err e) = e ≡ fault.NoMemory
