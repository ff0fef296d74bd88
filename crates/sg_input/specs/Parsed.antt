-- What the answers of the calls say.
use Rattle.std.specs.Prelude.{◌≡◌, ℕ, List, Option, Some, None, Result, Ok, Err, ⊤}
use Rattle.sg_kinds.specs.Values.{Bytes, Value, Fault}
use Rattle.sg_kinds.specs.InputPieces.{InputPiece}
use Rattle.sg_prec.specs.WellGrouped.{derives}
use Rattle.sg_kinds.specs.declared.spec.Spec.{Spec}
use Rattle.sg_patterns.specs.Scan.{StopsAt}
use Rattle.sg_patterns.specs.declared.lexemes.Lexemes.{Lexemes}
use Rattle.sg_patterns.specs.declared.scanning.InToken.{InToken}
use Rattle.sg_input.specs.declared.parsing.InputFault.{InputFault}
use Rattle.sg_input.specs.declared.parsing.InputFault.TheVariants as input
use Rattle.sg_input.specs.declared.entering.EntryFault.{EntryFault}
use Rattle.sg_input.specs.declared.entering.EntryFault.TheVariants as fault
use Rattle.sg_input.specs.Failing.{FailsAt}
use Rattle.sg_input.specs.Entered.{Entered, BadByte, NoToken, Stopped, Faulted, Typed, place_of}

-- why the pieces have no value from a nonterminal
abbrev pub IsInputFault : Spec → ℕ → List InputPiece → InputFault → Type 0
IsInputFault spec N ps (input.At k) = FailsAt spec N ps k
IsInputFault spec N ps (input.Outcome kind) = derives spec N ps (Fault kind)
IsInputFault spec N ps input.NoMemory = ⊤

-- the pieces may derive this value for all that the answer says
abbrev pub LeavesOnly : Value → InputFault → Type 0
LeavesOnly v (input.At k) = ⊥
LeavesOnly v (input.Outcome kind) = Fault kind ≡ v
LeavesOnly v input.NoMemory = ⊤

-- the value is this fault
abbrev pub MadeFault : Value → InputFault → Type 0
MadeFault v (input.Outcome kind) = v ≡ Fault kind
MadeFault v e = ⊥

-- what became of the text, but for want of memory
abbrev pub entered_of : Result Value EntryFault → Option Entered
entered_of (Ok v) = Some (Typed v)
entered_of (Err (fault.Byte k)) = Some (BadByte k)
entered_of (Err (fault.Lexical k)) = Some (NoToken k)
entered_of (Err (fault.Parse k)) = Some (Stopped k)
entered_of (Err (fault.Outcome kind)) = Some (Faulted kind)
entered_of (Err fault.NoMemory) = None

-- why a text has no value, by what is wrong with its tokens
abbrev pub fault_in : Bytes → List InToken → InputFault → EntryFault
fault_in text tokens (input.At k) = fault.Parse (place_of text tokens k)
fault_in text tokens (input.Outcome kind) = fault.Outcome kind
fault_in text tokens input.NoMemory = fault.NoMemory

-- no token stands at the place, or memory was wanting
abbrev pub StopsThere : Lexemes → Bytes → EntryFault → Type 0
StopsThere l text (fault.Lexical k) = StopsAt l text k
StopsThere l text fault.NoMemory = ⊤
StopsThere l text e = ⊥
